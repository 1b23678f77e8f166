use Rattle.std.proofs.Common.{◌≡◌}
use Rattle.book.specs.Taken.{waiting}
use Rattle.book.proofs.book.Book.observe_waits.Given as goal

abbrev pub invariant-loop-u : goal.invariant-loop-u
invariant-loop-u l = l.self.pages ≡ waiting l.u l.initial.self.pages l.waiter.index l.phase
