use Rattle.std.proofs.Common.{◌≡◌, ℕ, Bool, false}
use Rattle.model.specs.Places.{any_below}
use Rattle.book.specs.declared.threads.Thread.{Thread}
use Rattle.book.proofs.threads.ThreadCount.any.Given as goal

abbrev pub invariant-loop-index : goal.invariant-loop-index
invariant-loop-index g l =
    goal.F-IsAlwaysCallable g l.is_such
    × ((p : ℕ → Bool) → ((thread : Thread) (answer : Bool) → goal.F-post g l.is_such thread answer → answer ≡ p thread.index) → any_below l.index p ≡ false)
