use Rattle.std.proofs.Common.{◌≡◌, take, drop}
use Rattle.bundle.specs.Arrivals.{names_only, tallied}
use Rattle.bundle.proofs.arrivals.tally.Given as goal

-- the entries so far were such threads, and are counted
abbrev pub invariant-loop-thread : goal.invariant-loop-thread
invariant-loop-thread l = (names_only l.threads (drop l.thread-index l.arrivals) ≡ names_only l.threads l.arrivals) × (l.named ≡ tallied (take l.thread-index l.arrivals))
