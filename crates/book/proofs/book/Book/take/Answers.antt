use Rattle.std.proofs.Common.{◌≡◌, rules}
use Rattle.book.specs.Taken.{taken}
use Rattle.book.proofs.Entering.{others-stay, lawful-kept}
use Rattle.book.proofs.book.Book.take.Goals as goal

pub returns-in-Some : goal.returns-in-Some
returns-in-Some c =
    let e : c.write_up.new.self.pages ≡ taken c.args.threads c.args.self.now.pages c.args.record.now = search rules in
    record { exact = e; others = others-stay c.args.threads c.args.self.now c.args.record.now _ e; keeps = lawful-kept c.args.threads c.args.self.now c.args.record.now _ e }
