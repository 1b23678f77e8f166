use Rattle.std.proofs.Common.{◌≡◌, ◌+◌, ◌*◌, ◌^◌, ◌≤◌, drop}
use Rattle.bundle.specs.Contents.{logs_end}
use Rattle.bundle.proofs.testing.logs_end.Given as goal

-- the rows so far lead here
abbrev pub invariant-loop-t : goal.invariant-loop-t
invariant-loop-t l = (logs_end l.threads l.t l.end (drop l.t l.rows) ≡ logs_end l.threads 0 76 l.rows) × (l.end ≤ 76 + 12 * 2 ^ 32 * l.t)
