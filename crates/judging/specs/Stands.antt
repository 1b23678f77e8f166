-- What a judge's feed, book and outcome say of where it stands.
use Rattle.std.specs.Prelude.{◌≡◌, ◌∷◌, Some, None, Ok, Err, Option, Result}
use Rattle.record.specs.declared.kinds.Record.{Record}
use Rattle.model.specs.declared.outcomes.Outcome.{Outcome}
use Rattle.model.specs.declared.outcomes.Outcome.TheVariants.{Compliant}
use Rattle.model.specs.Lawful.{verdict}
use Rattle.model.specs.Laws.{by_axioms}
use Rattle.feed.specs.Meaning.{Meaning}
use Rattle.book.specs.declared.book.Book.{Book}
use Rattle.book.specs.Kept.{Kept, WellMadeIn}
use Rattle.judging.specs.declared.faults.Fault.{Fault}
use Rattle.judging.specs.Faults.{fault_outcome}
use Rattle.judging.specs.Standing.{Standing, after_asking}

-- a judge whose feed means m, with this book and this outcome, stands at s
pub record Stands (m : Meaning) (b : Book) (told : Option Outcome) (s : Standing) : Type 0 where
  pub left_is : s.left ≡ m
  pub told_is : s.told ≡ told
  pub keeps : Kept m.counts.threads b s.taken

-- What asking for a record says of a judge that stands at s, where m is then left of the feed: the record, which is lawful, is to be taken;
-- or the outcome is to be told.
abbrev pub Drawn : Standing → Result (Option Record) Fault → Meaning → Type 0
Drawn s (Ok (Some x)) m =
    (after_asking s s.left.waiting ≡ record { left = m; taken = x ∷ s.taken; told = None }) × (m.counts ≡ s.left.counts) × (verdict by_axioms s.left.counts.threads s.taken x ≡ None) × WellMadeIn s.left.counts.threads x
Drawn s (Ok None) m = (after_asking s s.left.waiting ≡ record { left = m; taken = s.taken; told = Some Compliant }) × (m.counts ≡ s.left.counts)
Drawn s (Err f) m = (after_asking s s.left.waiting ≡ record { left = m; taken = s.taken; told = Some (fault_outcome f) }) × (m.counts ≡ s.left.counts)
