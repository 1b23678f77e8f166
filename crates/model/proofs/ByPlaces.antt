-- The merge rule in words of places.
use Rattle.std.proofs.Common.{◌≡◌, ℕ, suc, ◌<◌, Bool, true, false, cond, not, ◌&&◌, eqb, List, [], ◌∷◌, ◌++◌, reverse, length, sym, refl, ap, ◌∙◌, append-nil, arith, eq-eqb, ne_eqb, eqb-true}
use mathlib.Core.List.{reverse-append}
use borrow.Author.Tests.{eqb-false}
use Rattle.record.specs.declared.kinds.Record.{Record}
use Rattle.record.specs.WellMade.{thread_of}
use Rattle.model.specs.Places.{missing}
use Rattle.model.specs.Events.{records_of, count_of, names}
use Rattle.model.specs.Merge.{Entry, entry_of, account, Alike, stood_before, SameMerge, MergeRuleByPlaces, AccountsByPlaces}
use Rattle.model.proofs.Merge.{account-long, merge-rule}

-- An account, from the thread's records and what stood before them --------------------------------------------------

-- the records of t, the newest first
abbrev newest : ℕ → List Record → List Record
newest t [] = []
newest t (x ∷ h) = cond (eqb (thread_of x) t) (x ∷ []) [] ++ newest t h

newest-is : (t : ℕ) (h : List Record) → newest t h ≡ reverse (records_of t h)
newest-is t [] = refl
newest-is t (x ∷ h) = go (newest-is t h) (eqb (thread_of x) t)
  where
    go : newest t h ≡ reverse (records_of t h) → (b : Bool) → cond b (x ∷ []) [] ++ newest t h ≡ reverse (records_of t h ++ cond b (x ∷ []) [])
    go rest true = ap (λ (xs : List Record). x ∷ xs) rest ∙ sym (reverse-append (records_of t h) (x ∷ []))
    go rest false = rest ∙ ap reverse (sym (append-nil (records_of t h)))

newest-long : (t : ℕ) (h : List Record) → length (newest t h) ≡ count_of t h
newest-long t [] = refl
newest-long t (x ∷ h) = elim (eqb (thread_of x) t) as (λ b. length (cond b (x ∷ []) [] ++ newest t h) ≡ cond b (suc (count_of t h)) (count_of t h)) [ true ↦ ap suc (newest-long t h) | false ↦ newest-long t h ]

module _ (t : ℕ) where
  abbrev rebuilt : List Record → (ℕ → ℕ → Bool) → List Entry
  rebuilt [] s = []
  rebuilt (x ∷ xs) s = record { what = x; stood = λ u. not (eqb u t) && s (length xs) u } ∷ rebuilt xs s

  rebuilt-same : (xs : List Record) (s s' : ℕ → ℕ → Bool) → ((i u : ℕ) → i < length xs → (not (eqb u t) && s i u) ≡ (not (eqb u t) && s' i u)) → rebuilt xs s ≡ rebuilt xs s'
  rebuilt-same [] s s' f = refl
  rebuilt-same (x ∷ xs) s s' f = λ j. record { what = x; stood = λ u. f (length xs) u (omega arith) j } ∷ rebuilt-same xs s s' (λ i u l. f i u (omega arith)) j

  account-is : (h : List Record) → account t h ≡ rebuilt (newest t h) (λ i u. stood_before u t i h)
  account-is [] = refl
  account-is (x ∷ h) = go (account-is h) (eqb (thread_of x) t) refl
    where
      go : account t h ≡ rebuilt (newest t h) (λ i u. stood_before u t i h) → (b : Bool) → eqb (thread_of x) t ≡ b → cond b (entry_of h x ∷ []) [] ++ account t h ≡ rebuilt (cond b (x ∷ []) [] ++ newest t h) (λ i u. cond (b && eqb (count_of t h) i) (not (missing (names u h x))) (stood_before u t i h))
      go rest false q = rest
      go rest true q =
          λ j. record { what = x; stood = λ u. not (eqb u (eqb-true (thread_of x) t q j)) && cond (sym (eq-eqb (count_of t h) (length (newest t h)) (sym (newest-long t h))) j) (not (missing (names u h x))) (stood_before u t (length (newest t h)) h) }
          ∷ (rest ∙ rebuilt-same (newest t h) (λ i u. stood_before u t i h) (λ i u. cond (eqb (count_of t h) i) (not (missing (names u h x))) (stood_before u t i h)) (λ i u l. ap (λ (c : Bool). not (eqb u t) && cond c (not (missing (names u h x))) (stood_before u t i h)) (sym (ne_eqb (count_of t h) i (omega (arith, newest-long t h)))))) j

pub alike-by-places : (all all' : List Record) → SameMerge all all' → Alike all all'
alike-by-places all all' m t =
    account-is t all ∙ ap (λ (xs : List Record). rebuilt t xs (λ i u. stood_before u t i all)) (newest-is t all ∙ ap reverse (m.own t) ∙ sym (newest-is t all')) ∙ rebuilt-same t (newest t all') (λ i u. stood_before u t i all) (λ i u. stood_before u t i all') (λ i u l. other i u (eqb u t) refl) ∙ sym (account-is t all')
  where
    other : (i u : ℕ) (b : Bool) → eqb u t ≡ b → (not b && stood_before u t i all) ≡ (not b && stood_before u t i all')
    other i u true q = refl
    other i u false q = m.stood t i u (eqb-false u t q)

-- The other way -----------------------------------------------------------------------------------------------------

-- what an account has, the oldest first
abbrev whats : List Entry → List Record
whats [] = []
whats (e ∷ es) = whats es ++ (e.what ∷ [])

whats-of : (t : ℕ) (h : List Record) → whats (account t h) ≡ records_of t h
whats-of t [] = refl
whats-of t (x ∷ h) =
    elim (eqb (thread_of x) t) as (λ b. whats (cond b (entry_of h x ∷ []) [] ++ account t h) ≡ records_of t h ++ cond b (x ∷ []) []) [
      | true ↦ ap (λ (xs : List Record). xs ++ (x ∷ [])) (whats-of t h)
      | false ↦ whats-of t h ∙ sym (append-nil (records_of t h))
    ]

pub alike-records : (h h' : List Record) → Alike h h' → (t : ℕ) → records_of t h ≡ records_of t h'
alike-records h h' a t = sym (whats-of t h) ∙ ap whats (a t) ∙ whats-of t h'

module _ (t i u : ℕ) (d : u ≡ t → ⊥) where
  abbrev stood_in : List Entry → Bool
  stood_in [] = false
  stood_in (e ∷ es) = cond (eqb (length es) i) (e.stood u) (stood_in es)

  stood-in : (h : List Record) → stood_before u t i h ≡ stood_in (account t h)
  stood-in [] = refl
  stood-in (x ∷ h) = go (stood-in h) (eqb (thread_of x) t) refl
    where
      go : stood_before u t i h ≡ stood_in (account t h) → (b : Bool) → eqb (thread_of x) t ≡ b → cond (b && eqb (count_of t h) i) (not (missing (names u h x))) (stood_before u t i h) ≡ stood_in (cond b (entry_of h x ∷ []) [] ++ account t h)
      go rest true q = λ j. cond (eqb (sym (account-long t h) j) i) (not (sym (ap (eqb u) (eqb-true (thread_of x) t q) ∙ ne_eqb u t d) j) && not (missing (names u h x))) (rest j)
      go rest false q = rest

merged : (all all' : List Record) → Alike all all' → SameMerge all all'
merged all all' a = record { own = alike-records all all' a; stood = λ t i u d. stood-in t i u d all ∙ ap (stood_in t i u d) (a t) ∙ sym (stood-in t i u d all') }

pub accounts-by-places : AccountsByPlaces
accounts-by-places = record { alike = alike-by-places; merged = merged }

pub merge-rule-by-places : MergeRuleByPlaces
merge-rule-by-places L T all all' m = merge-rule L T all all' (alike-by-places all all' m)
