-- The place of a number among the entries of a table, which is the number that has it as its new name.
use Rattle.std.proofs.Common.{◌≡◌, ℕ, suc, ◌+◌, ◌<◌, ◌≤◌, true, cond, ltb, List, length, Some, None, ◌==◌, refl, sym, ap, subst, ◌∙◌, ⊎_elim, arith}
use Rattle.std.specs.List.{position}
use Rattle.std.proofs.lemmas.List.Recursion.{is_position_or_len}
use Rattle.std.proofs.lemmas.List.Quantifiers.{position-Some}
use Rattle.std.proofs.lemmas.Bool.{cases_lt, lt-ltb, le-ltb, eqb-true, cond-true, cond-false}
use Rattle.renaming.specs.Tables.{is_table, place_of, named_by, IsNamed}
use Rattle.renaming.specs.TableLaws.{name_in, named_in, renames_by}

module _ (xs : List ℕ) (n : ℕ) where
  abbrev p : ℕ
  p = place_of xs n

  one-more : (k : ℕ) → suc k ≡ 1 + k
  one-more k = omega arith

  placed : position (λ x. x == n) xs ≡ cond (ltb p (length xs)) (Some p) None
  placed = ap (λ k. cond (ltb k (length xs)) (Some k) None) (sym (is_position_or_len (λ l. place_of l n) (λ x. x == n) refl (λ x l. ap (cond (x == n) 0) (one-more (place_of l n))) xs))

  -- the first place at which n stands in a table
  pub is-named : is_table xs ≡ true → IsNamed xs n (position (λ x. x == n) xs)
  is-named t =
      let R = renames_by xs t in
      ⊎_elim (λ (l : p < length xs).
      let s : position (λ x. x == n) xs ≡ Some p = placed ∙ cond-true (ltb p (length xs)) (Some p) None (lt-ltb p (length xs) l) in
      let f = position-Some (λ x. x == n) xs p 0 s in
      let g = name_in xs p l ∙ eqb-true _ n f.1 in
      let b = R.there_below p l in
      subst (IsNamed xs n) (sym s) (named_in xs n (omega arith), l))
      (λ (l : length xs ≤ p).
      let s : position (λ x. x == n) xs ≡ None = placed ∙ cond-false (ltb p (length xs)) (Some p) None (le-ltb p (length xs) l) in
      let stays : named_by xs n ≡ n = ⊎_elim (λ (k : n < length xs). let b = R.back_below n k in let g = named_in xs n k in absurd (let no : ⊥ = omega arith in no))
      (λ (k : length xs ≤ n). cond-false (ltb n (length xs)) (place_of xs n) n (le-ltb n (length xs) k)) (cases_lt n (length xs)) in
      subst (IsNamed xs n) (sym s) stays) (cases_lt p (length xs))
