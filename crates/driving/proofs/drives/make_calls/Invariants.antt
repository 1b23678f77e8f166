use Rattle.std.proofs.Common.{◌≡◌, ◌++◌, take, drop}
use Rattle.judging.specs.At.{At}
use Rattle.judging.specs.Standing.{Standing, advance_by}
use Rattle.driving.specs.Calls.{asked, replayed}
use Rattle.driving.proofs.drives.make_calls.Given as goal

-- the calls so far were made, and their answers are those of a judge that stood at s before the first
abbrev pub invariant-loop-entry : goal.invariant-loop-entry
invariant-loop-entry g l =
    let M = g.P.Feed.meaning in
    let es = l.initial.entries in
    (s : Standing) → At M l.initial.judge s → At M l.judge (advance_by (asked (take l.entry-index es)) s) × (l.entries ≡ replayed s (take l.entry-index es) ++ drop l.entry-index es)
