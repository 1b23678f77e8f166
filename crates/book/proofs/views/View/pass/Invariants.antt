use Rattle.std.proofs.Common.{◌≡◌, ◌+◌, drop}
use Rattle.book.specs.Views.{passing}
use Rattle.book.proofs.views.View.pass.Given as goal

abbrev pub invariant-loop-write : goal.invariant-loop-write
invariant-loop-write l = (passing l.rank (drop l.write-index l.writes) l.self ≡ passing l.rank l.writes l.initial.self) × (l.self.passed ≡ l.initial.self.passed + l.write-index)
