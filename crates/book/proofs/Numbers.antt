-- The number of a record among those of its kind.
use Rattle.std.proofs.Common.{◌≡◌, ℕ, zero, suc, ◌+◌, ◌-◌, ◌*◌, ◌<◌, ◌≤◌, Bool, true, false, cond, ◌&&◌, eqb, ltb, ◌⊎◌, List, [], ◌∷◌, ◌++◌, length, Some, None, Option, sym, refl, ap, ◌∙◌, inl, inr, ⊎_elim, le_of_suc-le-suc, not-suc-le-zero, arith, le-ltb, lt-ltb, eqb-true}
use mathlib.Core.Bool.{false≢true}
use borrow.Author.Tests.{eqb-false}
use Rattle.std.proofs.lemmas.Bool.{cases_lt, cases_order}
use Rattle.record.specs.declared.kinds.Record.{Record}
use Rattle.model.specs.Places.{at_place, is_at, how_many, one_further, place_of}
use Rattle.model.specs.Events.{is_strict}
use Rattle.model.specs.Laws.{first_edition as E}
use Rattle.model.specs.Rank.{bit, strict_before, rank}
use Rattle.model.proofs.Places.{at-grown, at-past}
use Rattle.book.specs.Kept.{up_to}

-- a place where the record is such is inside the list
pub is-inside : (p : Record → Bool) (xs : List Record) (k : ℕ) → is_at p xs k ≡ true → k < length xs
is-inside p xs k e = ⊎_elim (λ (l : k < length xs). l) (λ (l : length xs ≤ k). absurd (false≢true (sym (at-past false p xs k l) ∙ e))) (cases_lt k (length xs))

-- the record behind the list's last
pub at-end : {A : Type 0} (d : A) (f : Record → A) (xs : List Record) (x : Record) → at_place d f (xs ++ x ∷ []) (length xs) ≡ f x
at-end d f [] x = refl
at-end d f (y ∷ xs) x = at-end d f xs x

pub count-end : (p : Record → Bool) (xs : List Record) (x : Record) → how_many p (xs ++ x ∷ []) ≡ how_many p xs + bit (p x)
count-end p [] x = elim (p x) as (λ b. cond b 1 0 ≡ 0 + bit b) [ true ↦ refl | false ↦ refl ]
count-end p (y ∷ xs) x = elim (p y) as (λ b. cond b (suc (how_many p (xs ++ x ∷ []))) (how_many p (xs ++ x ∷ [])) ≡ cond b (suc (how_many p xs)) (how_many p xs) + bit (p x)) [
  | true ↦ omega (arith, count-end p xs x)
  | false ↦ count-end p xs x
]

module _ (p : Record → Bool) where
  pub up_to-grown : (xs zs : List Record) (k : ℕ) → k ≤ length xs → up_to p (xs ++ zs) k ≡ up_to p xs k
  up_to-grown [] [] k l = refl
  up_to-grown [] (z ∷ zs) zero l = refl
  up_to-grown [] (z ∷ zs) (suc k) l = absurd (not-suc-le-zero l)
  up_to-grown (x ∷ xs) zs zero l = refl
  up_to-grown (x ∷ xs) zs (suc k) l = ap (λ (n : ℕ). cond (p x) (suc n) n) (up_to-grown xs zs k (le_of_suc-le-suc l))

  pub up_to-all : (xs : List Record) → up_to p xs (length xs) ≡ how_many p xs
  up_to-all [] = refl
  up_to-all (x ∷ xs) = ap (λ (n : ℕ). cond (p x) (suc n) n) (up_to-all xs)

  pub up_to-end : (xs : List Record) (x : Record) → up_to p (xs ++ x ∷ []) (length xs) ≡ how_many p xs
  up_to-end xs x = up_to-grown xs (x ∷ []) (length xs) (omega arith) ∙ up_to-all xs

  pub up_to-less : (xs : List Record) (k : ℕ) → is_at p xs k ≡ true → up_to p xs k < how_many p xs
  up_to-less [] k e = absurd (false≢true e)
  up_to-less (x ∷ xs) zero e = let q : cond (p x) (suc (how_many p xs)) (how_many p xs) ≡ suc (how_many p xs) = ap (λ (b : Bool). cond b (suc (how_many p xs)) (how_many p xs)) e in omega arith
  up_to-less (x ∷ xs) (suc k) e = elim (p x) as (λ b. cond b (suc (up_to p xs k)) (up_to p xs k) < cond b (suc (how_many p xs)) (how_many p xs)) [ true ↦ omega (arith, up_to-less xs k e) | false ↦ up_to-less xs k e ]

  pub up_to-order : (xs : List Record) (j k : ℕ) → is_at p xs j ≡ true → j < k → up_to p xs j < up_to p xs k
  up_to-order [] j k e l = absurd (false≢true e)
  up_to-order (x ∷ xs) j zero e l = absurd (not-suc-le-zero l)
  up_to-order (x ∷ xs) zero (suc k) e l = let q : cond (p x) (suc (up_to p xs k)) (up_to p xs k) ≡ suc (up_to p xs k) = ap (λ (b : Bool). cond b (suc (up_to p xs k)) (up_to p xs k)) e in omega arith
  up_to-order (x ∷ xs) (suc j) (suc k) e l = elim (p x) as (λ b. cond b (suc (up_to p xs j)) (up_to p xs j) < cond b (suc (up_to p xs k)) (up_to p xs k)) [ true ↦ omega (arith, up_to-order xs j k e (le_of_suc-le-suc l)) | false ↦ up_to-order xs j k e (le_of_suc-le-suc l) ]

  -- such records stand in the order of their numbers
  pub up_to-ltb : (xs : List Record) (j k : ℕ) → is_at p xs j ≡ true → is_at p xs k ≡ true → ltb (up_to p xs j) (up_to p xs k) ≡ ltb j k
  up_to-ltb xs j k e f = ⊎_elim
      (λ (l : j < k). lt-ltb _ _ (up_to-order xs j k e l) ∙ sym (lt-ltb j k l))
      (λ (l : k ≤ j). le-ltb _ _ (⊎_elim (λ (m : k < j). omega (arith, up_to-order xs k j f m)) (λ (m : j ≤ k). let q : k ≡ j = omega arith in omega (arith, ap (up_to p xs) q)) (cases_lt k j)) ∙ sym (le-ltb j k l))
      (cases_lt j k)

  pub up_to-same : (xs : List Record) (j k : ℕ) → is_at p xs j ≡ true → is_at p xs k ≡ true → up_to p xs j ≡ up_to p xs k → j ≡ k
  up_to-same xs j k e f q = ⊎_elim (λ (s : j ≡ k). s) (⊎_elim (λ (l : j < k). absurd (omega (arith, up_to-order xs j k e l))) (λ (l : k < j). absurd (omega (arith, up_to-order xs k j f l)))) (cases_order j k)

  -- The n-th such record, n counted from 1, is the one with that number; and there is none where n is 0 or above how many there are.
  abbrev pub Numbered : ℕ → List Record → Option ℕ → Type 0
  Numbered n xs None = (n ≡ 0) ⊎ (how_many p xs < n)
  Numbered n xs (Some k) = (is_at p xs k ≡ true) × (suc (up_to p xs k) ≡ n)

  numbered-skip : (n : ℕ) (x : Record) (xs : List Record) → p x ≡ false → (o : Option ℕ) → Numbered n xs o → Numbered n (x ∷ xs) (one_further o)
  numbered-skip n x xs e None (inl z) = inl z
  numbered-skip n x xs e None (inr l) = let q : cond (p x) (suc (how_many p xs)) (how_many p xs) ≡ how_many p xs = ap (λ (b : Bool). cond b (suc (how_many p xs)) (how_many p xs)) e in inr (omega arith)
  numbered-skip n x xs e (Some k) h = let q : cond (p x) (suc (up_to p xs k)) (up_to p xs k) ≡ up_to p xs k = ap (λ (b : Bool). cond b (suc (up_to p xs k)) (up_to p xs k)) e in (h.0, omega (arith, h.1))

  numbered_more : (n : ℕ) (x : Record) (xs : List Record) → p x ≡ true → (n ≡ 1 → ⊥) → (o : Option ℕ) → Numbered (n - 1) xs o → Numbered n (x ∷ xs) (one_further o)
  numbered_more n x xs e ne None (inl z) = inl (⊎_elim (λ (s : n ≡ 1). absurd (ne s)) (⊎_elim (λ (l : n < 1). omega arith) (λ (l : 1 < n). absurd (omega arith))) (cases_order n 1))
  numbered_more n x xs e ne None (inr l) = let q : cond (p x) (suc (how_many p xs)) (how_many p xs) ≡ suc (how_many p xs) = ap (λ (b : Bool). cond b (suc (how_many p xs)) (how_many p xs)) e in inr (omega arith)
  numbered_more n x xs e ne (Some k) h = let q : cond (p x) (suc (up_to p xs k)) (up_to p xs k) ≡ suc (up_to p xs k) = ap (λ (b : Bool). cond b (suc (up_to p xs k)) (up_to p xs k)) e in (h.0, omega (arith, h.1))

  pub place-numbered : (n : ℕ) (xs : List Record) → Numbered n xs (place_of p n xs)
  place-numbered n [] = ⊎_elim (λ (l : 0 < n). inr l) (λ (l : n ≤ 0). inl (omega arith)) (cases_lt 0 n)
  place-numbered n (x ∷ xs) = go (λ m. place-numbered m xs) (p x) refl (eqb n 1) refl
    where
      go : ((m : ℕ) → Numbered m xs (place_of p m xs)) → (b : Bool) → p x ≡ b → (c : Bool) → eqb n 1 ≡ c → Numbered n (x ∷ xs) (cond (b && c) (Some 0) (one_further (place_of p (cond b (n - 1) n) xs)))
      go next true e true f = (e, sym (eqb-true n 1 f))
      go next true e false f = numbered_more n x xs e (eqb-false n 1 f) (place_of p (n - 1) xs) (next (n - 1))
      go next false e c f = numbered-skip n x xs e (place_of p n xs) (next n)

  -- the record with that number
  abbrev pub Placed : List Record → ℕ → Type 0
  Placed xs i = (k : ℕ) × (is_at p xs k ≡ true) × (up_to p xs k ≡ i)

  pub placed : (xs : List Record) (i : ℕ) → i < how_many p xs → Placed xs i
  placed xs i l = go (place_of p (suc i) xs) (place-numbered (suc i) xs)
    where
      go : (o : Option ℕ) → Numbered (suc i) xs o → Placed xs i
      go None (inl z) = absurd (omega arith)
      go None (inr m) = absurd (omega arith)
      go (Some k) h = (k, h.0, omega (arith, h.1))

-- Ranks as the list grows -------------------------------------------------------------------------------------------

pub stricts-grown : (xs zs : List Record) (k : ℕ) → k ≤ length xs → strict_before E (xs ++ zs) k ≡ strict_before E xs k
stricts-grown xs zs zero l = refl
stricts-grown xs zs (suc k) l = λ i. stricts-grown xs zs k (omega arith) i + bit (at-grown false (is_strict E) xs zs k l i)

pub rank-grown : (xs zs : List Record) (k : ℕ) → k < length xs → rank E (xs ++ zs) k ≡ rank E xs k
rank-grown xs zs k l = λ i. 2 * stricts-grown xs zs k (omega arith) i + bit (at-grown false (is_strict E) xs zs k l i)

pub rank-end : (xs : List Record) (x : Record) → rank E (xs ++ x ∷ []) (length xs) ≡ 2 * strict_before E xs (length xs) + bit (is_strict E x)
rank-end xs x = λ i. 2 * stricts-grown xs (x ∷ []) (length xs) (omega arith) i + bit (at-end false (is_strict E) xs x i)

pub stricts-end : (xs : List Record) (x : Record) → strict_before E (xs ++ x ∷ []) (suc (length xs)) ≡ strict_before E xs (length xs) + bit (is_strict E x)
stricts-end xs x = λ i. stricts-grown xs (x ∷ []) (length xs) (omega arith) i + bit (at-end false (is_strict E) xs x i)

pub stricts-few : (xs : List Record) (k : ℕ) → strict_before E xs k ≤ k
stricts-few xs zero = omega arith
stricts-few xs (suc k) = elim (is_at (is_strict E) xs k) as (λ b. strict_before E xs k + bit b ≤ suc k) [ true ↦ omega (arith, stricts-few xs k) | false ↦ omega (arith, stricts-few xs k) ]

pub count-few : (p : Record → Bool) (xs : List Record) → how_many p xs ≤ length xs
count-few p [] = omega arith
count-few p (x ∷ xs) = elim (p x) as (λ b. cond b (suc (how_many p xs)) (how_many p xs) ≤ suc (length xs)) [ true ↦ omega (arith, count-few p xs) | false ↦ omega (arith, count-few p xs) ]
