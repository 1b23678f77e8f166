-- The hold-back relay's order is one that no thread can tell from the order below.
use Rattle.std.proofs.Common.{◌≡◌, ℕ, suc, ◌+◌, Bool, true, false, cond, eqb, ltb, List, [], ◌∷◌, ◌++◌, reverse, length, sym, refl, ap, ◌∙◌, arith, length-append, eqb-true}
use mathlib.Core.List.{reverse_aux, reverse_aux-append}
use borrow.Author.Tests.{eqb-false}
use Rattle.std.proofs.lemmas.Bool.{or_parts}
use Rattle.record.specs.declared.kinds.Record.{Record}
use Rattle.record.specs.WellMade.{thread_of}
use Rattle.model.specs.Merge.{account, Alike}
use Rattle.model.specs.HoldBack.{hinders, hindered, stalled, spilled, held_back, HoldBackRule}
use Rattle.model.proofs.Merge.{merge-rule}
use Rattle.model.proofs.ByPlaces.{alike-records}
use Rattle.model.proofs.Passing.{swap, alike-cons}

-- the records ys, the oldest first, behind the history h
abbrev pub onto : List Record → List Record → List Record
onto ys h = reverse_aux ys h

pub alike-onto : (ys h h' : List Record) → Alike h h' → Alike (onto ys h) (onto ys h')
alike-onto [] h h' a = a
alike-onto (y ∷ ys) h h' a = alike-onto ys (y ∷ h) (y ∷ h') (alike-cons y h h' a)

pub trans : (a b c : List Record) → Alike a b → Alike b c → Alike a c
trans a b c p q t = p t ∙ q t

-- each held record is of thread t
abbrev AllOf : ℕ → List Record → Type 0
AllOf t [] = Unit {0}
AllOf t (y ∷ held) = (thread_of y ≡ t) × AllOf t held

all-of-snoc : (t : ℕ) (held : List Record) (x : Record) → AllOf t held → thread_of x ≡ t → AllOf t (held ++ (x ∷ []))
all-of-snoc t [] x a e = (e, tt)
all-of-snoc t (y ∷ held) x a e = (a.0, all-of-snoc t held x a.1 e)

passes : (t : ℕ) (x : Record) (held h : List Record) → (thread_of x ≡ t → ⊥) → AllOf t held → hindered held x ≡ false → Alike (x ∷ onto held h) (onto held (x ∷ h))
passes t x [] h d a b = λ r. refl
passes t x (y ∷ held) h d a b =
    let p = or_parts (hinders y x) (hindered held x) b in
    trans (x ∷ onto held (y ∷ h)) (onto held (x ∷ y ∷ h)) (onto held (y ∷ x ∷ h)) (passes t x held (y ∷ h) d a.1 p.1) (alike-onto held (x ∷ y ∷ h) (y ∷ x ∷ h) (swap x y h (λ e. d (e ∙ a.0)) p.0))

module _ (t d : ℕ) where
  -- what the rest of the list comes to, whatever is held and delivered before it
  abbrev Kept : List Record → Type 0
  Kept xs = (held h : List Record) → AllOf t held → Alike (onto xs (onto held h)) (onto (held_back t d held xs) h)

  spill : (xs : List Record) → Kept xs → (held h : List Record) → AllOf t held → Alike (onto xs (onto held h)) (onto (spilled d held (λ more. held_back t d more xs)) h)
  spill xs next [] h a = next [] h a
  spill xs next (y ∷ held) h a =
      elim (ltb d (length (y ∷ held))) as (λ b. Alike (onto xs (onto held (y ∷ h))) (onto (cond b (y ∷ held_back t d held xs) (held_back t d (y ∷ held) xs)) h)) [
        | true ↦ next held (y ∷ h) a.1
        | false ↦ next (y ∷ held) h a
      ]

  join : (x : Record) (xs : List Record) → Kept xs → thread_of x ≡ t → (held h : List Record) → AllOf t held → Alike (onto xs (x ∷ onto held h)) (onto (spilled d (held ++ (x ∷ [])) (λ more. held_back t d more xs)) h)
  join x xs next e held h a r = ap (λ (g : List Record). account r (onto xs g)) (sym (reverse_aux-append held (x ∷ []) h)) ∙ spill xs next (held ++ (x ∷ [])) h (all-of-snoc t held x a e) r

  pass : (x : Record) (xs : List Record) → Kept xs → (thread_of x ≡ t → ⊥) → (held h : List Record) → AllOf t held → (b : Bool) → hindered held x ≡ b → Alike (onto xs (x ∷ onto held h)) (onto (cond b (stalled held x (held_back t d [] xs)) (x ∷ held_back t d held xs)) h)
  pass x xs next e held h a true q = λ r. next [] (x ∷ onto held h) tt r ∙ ap (account r) (sym (reverse_aux-append held (x ∷ held_back t d [] xs) h))
  pass x xs next e held h a false q = λ r. alike-onto xs (x ∷ onto held h) (onto held (x ∷ h)) (passes t x held h e a q) r ∙ next held (x ∷ h) a r

  -- the records that came are those delivered, h, those held, and xs
  kept : (xs : List Record) → Kept xs
  kept [] held h a = λ r. refl
  kept (x ∷ xs) held h a = go (kept xs) (eqb (thread_of x) t) refl
    where
      go : Kept xs → (b : Bool) → eqb (thread_of x) t ≡ b → Alike (onto xs (x ∷ onto held h)) (onto (cond b (spilled d (held ++ (x ∷ [])) (λ more. held_back t d more xs)) (cond (hindered held x) (stalled held x (held_back t d [] xs)) (x ∷ held_back t d held xs))) h)
      go next true q = join x xs next (eqb-true (thread_of x) t q) held h a
      go next false q = pass x xs next (eqb-false (thread_of x) t q) held h a (hindered held x) refl

  -- as many as came
  abbrev Whole : List Record → Type 0
  Whole xs = (held : List Record) → length (held_back t d held xs) ≡ length held + length xs

  spill-whole : (xs : List Record) → Whole xs → (held : List Record) → length (spilled d held (λ more. held_back t d more xs)) ≡ length held + length xs
  spill-whole xs next [] = next []
  spill-whole xs next (y ∷ held) =
      elim (ltb d (length (y ∷ held))) as (λ b. length (cond b (y ∷ held_back t d held xs) (held_back t d (y ∷ held) xs)) ≡ length (y ∷ held) + length xs) [
        | true ↦ omega (arith, next held)
        | false ↦ next (y ∷ held)
      ]

  whole : (xs : List Record) → Whole xs
  whole [] held = omega arith
  whole (x ∷ xs) held = go (whole xs) (eqb (thread_of x) t) (hindered held x)
    where
      go : Whole xs → (b c : Bool) → length (cond b (spilled d (held ++ (x ∷ [])) (λ more. held_back t d more xs)) (cond c (stalled held x (held_back t d [] xs)) (x ∷ held_back t d held xs))) ≡ length held + suc (length xs)
      go next true c = omega (arith, spill-whole xs next (held ++ (x ∷ [])), length-append held (x ∷ []))
      go next false true = omega (arith, next [], length-append held (x ∷ held_back t d [] xs))
      go next false false = omega (arith, next held)

pub hold-back-rule : HoldBackRule
hold-back-rule t d xs =
    let a : Alike (reverse xs) (reverse (held_back t d [] xs)) = kept t d xs [] [] tt in
    record {
      alike = a;
      records = λ r. sym (alike-records (reverse xs) (reverse (held_back t d [] xs)) a r);
      as_many = omega (arith, whole t d xs []);
      verdicts = λ L T r i. sym (merge-rule L T (reverse xs) (reverse (held_back t d [] xs)) a r i);
    }
