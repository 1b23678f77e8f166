use Rattle.std.proofs.Common.{◌≡◌, Bool, Some, Option, ◌∙◌, rules}
use Rattle.book.specs.Said.{asked}
use Rattle.book.proofs.Asking.{asked_is}
use Rattle.book.proofs.book.Book.may_read.Goals as goal

pub returns-in_err-write-clause-keeps : goal.returns-in_err-write-clause-keeps
returns-in_err-write-clause-keeps c h k =
    let e : c.from_residual-in_err-write.result ≡ asked c.args.threads c.args.self.now.pages c.args.reader c.args.writer c.args.number = search rules in
    e ∙ asked_is c.args.threads c.args.self.now h k c.args.reader c.args.writer c.args.number

pub returns-clause-keeps : goal.returns-clause-keeps
returns-clause-keeps c h k =
    let e : ◌≡◌ {A = Option Bool} (Some c.is_none.result) (asked c.args.threads c.args.self.now.pages c.args.reader c.args.writer c.args.number) = search rules in
    e ∙ asked_is c.args.threads c.args.self.now h k c.args.reader c.args.writer c.args.number
