use Rattle.std.proofs.Common.{◌≡◌, [], arith, sym, subst}
use Rattle.std.proofs.lemmas.Grind.{common_steps}
use Rattle.book.specs.declared.book.Book.{Book}
use Rattle.book.specs.Pages.{empty_book}
use Rattle.book.specs.Kept.{Kept}
use Rattle.book.proofs.Empty.{empty-kept}
use Rattle.book.proofs.book.Book.empty.Goals as goal

pub returns-clause-keeps : goal.returns-clause-keeps
returns-clause-keeps c n l =
    let e : ◌≡◌ {A = Book} (record { pages = c.from_fn.result }) empty_book = grind (arith, common_steps) in
    subst (λ (b : Book). Kept n b []) (sym e) (empty-kept n l)
