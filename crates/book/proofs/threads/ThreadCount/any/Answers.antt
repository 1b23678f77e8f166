use Rattle.std.proofs.Common.{sym, ◌∙◌}
use Rattle.model.proofs.Renamed.{any-in}
use Rattle.book.proofs.threads.ThreadCount.any.Goals as goal

pub returns-then-is_such : goal.returns-then-is_such
returns-then-is_such g c p h = sym (any-in _ p c.loop-index.index c.loop-index-test.true (sym (h _ _ c.is_such.ensures) ∙ c.if-is_such.true))
