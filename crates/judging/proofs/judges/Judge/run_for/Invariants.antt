use Rattle.std.proofs.Common.{◌≡◌, ◌+◌, length, None}
use Rattle.judging.specs.At.{At}
use Rattle.judging.specs.Standing.{Standing, advance_by}
use Rattle.judging.proofs.judges.Judge.run_for.Given as goal

-- no outcome was told, and each step so far took a record
abbrev pub invariant-loop-taken : goal.invariant-loop-taken
invariant-loop-taken g l =
    let M = g.P.Feed.meaning in
    (l.self.told ≡ None)
    × ((s : Standing) → At M l.initial.self s → At M l.self (advance_by l.taken s) × (length (advance_by l.taken s).taken ≡ length s.taken + l.taken))
