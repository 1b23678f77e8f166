use Rattle.std.proofs.Common.{◌≡◌, ◌∙◌, rules}
use Rattle.book.specs.Said.{said}
use Rattle.book.proofs.Saying.{fits_in, said-is}
use Rattle.book.proofs.book.Book.verdict.Goals as goal

pub returns-clause-keeps : goal.returns-clause-keeps
returns-clause-keeps c h k m =
    let e : c.kind_reason.result ≡ said c.args.threads c.args.self.now.pages c.args.record.now = search rules in
    e ∙ said-is c.args.threads c.args.self.now h k c.args.record.now (fits_in c.args.threads c.args.record.now m)
