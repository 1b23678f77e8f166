-- What holding back makes of one more record.
use Rattle.std.proofs.Common.{◌≡◌, ℕ, suc, ◌<◌, ◌≤◌, cond, List, [], ◌∷◌, ◌++◌, length, None, Option, sym, refl, ap, ◌∙◌, arith, length-append, le-ltb, lt-ltb, eq-eqb}
use Rattle.record.specs.declared.kinds.Record.{Record}
use Rattle.record.specs.WellMade.{thread_of}
use Rattle.model.specs.HoldBack.{hindered, stalled, spilled, held_back}
use Rattle.hold_back.specs.Holding.{released}

module _ (h d : ℕ) (held : List Record) (x : Record) where
  of-h : (xs : List Record) → thread_of x ≡ h → held_back h d held (x ∷ xs) ≡ spilled d (held ++ (x ∷ [])) (λ more. held_back h d more xs)
  of-h xs e = ap (λ b. cond b (spilled d (held ++ (x ∷ [])) (λ more. held_back h d more xs)) (cond (hindered held x) (stalled held x (held_back h d [] xs)) (x ∷ held_back h d held xs))) (eq-eqb (thread_of x) h e)

  spill-none : (all xs : List Record) → length all ≤ d → spilled d all (λ more. held_back h d more xs) ≡ held_back h d all xs
  spill-none [] xs l = refl
  spill-none (y ∷ all) xs l = ap (λ b. cond b (y ∷ held_back h d all xs) (held_back h d (y ∷ all) xs)) (le-ltb d (length (y ∷ all)) l)

  spill-first : (all rest xs : List Record) (y : Record) → all ≡ y ∷ rest → d < length all → spilled d all (λ more. held_back h d more xs) ≡ y ∷ held_back h d rest xs
  spill-first all rest xs y e l = ap (λ k. spilled d k (λ more. held_back h d more xs)) e ∙ ap (λ b. cond b (y ∷ held_back h d rest xs) (held_back h d (y ∷ rest) xs)) (lt-ltb d (length (y ∷ rest)) (omega (arith, ap length e)))

  pub joins : (more : List Record) → more ≡ held ++ (x ∷ []) → thread_of x ≡ h → length held < d → (xs : List Record) → held_back h d held (x ∷ xs) ≡ held_back h d more xs
  joins more q e l xs = of-h xs e ∙ (spill-none (held ++ (x ∷ [])) xs (omega (arith, length-append held (x ∷ []))) ∙ ap (λ k. held_back h d k xs) (sym q))

  pub spills : (rest : List Record) (st : Option Record) (y : Record) → held ++ (x ∷ []) ≡ y ∷ rest → st ≡ None → thread_of x ≡ h → d ≤ length held → (xs : List Record) → held_back h d held (x ∷ xs) ≡ y ∷ released h d rest st xs
  spills rest st y q s e l xs = of-h xs e ∙ (spill-first (held ++ (x ∷ [])) rest xs y q (omega (arith, length-append held (x ∷ []))) ∙ ap (λ o. y ∷ released h d rest o xs) (sym s))

  pub one-longer : (more : List Record) → more ≡ held ++ (x ∷ []) → length more ≡ suc (length held)
  one-longer more q = omega (arith, ap length q, length-append held (x ∷ []))
