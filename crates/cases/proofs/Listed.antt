-- A list of cases, judged one by one.
use Rattle.std.proofs.Common.{ℕ, ◌+◌, ◌<◌, ◌≤◌, Bool, ◌&&◌, List, length, get_or, take, Decides, sym, ◌∙◌, subst, arith}
use Rattle.std.specs.List.{All}
use Rattle.std.proofs.lemmas.Bool.Decides.{Decides-and}
use Rattle.std.proofs.lemmas.List.{take_more, take_all, length-take, get_or-take}
use Rattle.std.proofs.lemmas.List.Elements.{All-get_or, All-push}

module _ {X : Type 0} (F P : X → Type 0) (xs : List X) (i : ℕ) where
  -- what holds of the first and of one more
  parted : (d : X) → i < length xs → All P (take (i + 1) xs) → All P (take i xs) × P (get_or xs i d)
  parted d h w =
      let n = length-take i xs in
      let m = length-take (i + 1) xs in (
        λ k e l. subst P (get_or-take (i + 1) xs k e (omega arith) ∙ sym (get_or-take i xs k e (omega arith))) (w k e (omega arith)),
        subst P (get_or-take (i + 1) xs i d (omega arith)) (w i d (omega arith)),
      )

  -- one more case is judged
  pub one_judged : (d : X) (all one : Bool) → i < length xs → (All F xs → Decides all (All P (take i xs))) → (F (get_or xs i d) → Decides one (P (get_or xs i d))) → All F xs → Decides (all && one) (All P (take (i + 1) xs))
  one_judged d all one h a b f =
      let p = Decides-and all one (a f) (b (All-get_or F xs i d h f)) in (
        λ t. subst (All P) (sym (take_more xs i d h)) (All-push P (take i xs) (get_or xs i d) (p.0 t).0 (p.0 t).1),
        λ w. p.1 (parted d h w),
      )

  -- all are judged
  pub all_judged : (all : Bool) → length xs ≤ i → (All F xs → Decides all (All P (take i xs))) → All F xs → Decides all (All P xs)
  all_judged all h a f = subst (λ ys. Decides all (All P ys)) (take_all i xs h) (a f)
