-- The numbers that stand for a line where no text can be handed over.
use Rattle.std.specs.Prelude.{ℕ, List, [], ◌∷◌}
use Rattle.record.specs.Numbers.{cause_number}
use Rattle.model.specs.Lawful.{reason_number}
use Rattle.feed.specs.Refusals.{refusal_number}
use Rattle.judging.specs.declared.lines.Line.{Line}
use Rattle.judging.specs.declared.lines.Line.TheVariants.{Compliant, Unlawful, Damaged, Refused}

-- four numbers: the kind of the line, its own numbers in the line's order, and zeros behind them
abbrev pub numbers_of : Line → List ℕ
numbers_of (Compliant n) = 0 ∷ n ∷ 0 ∷ 0 ∷ []
numbers_of (Unlawful u) = 1 ∷ u.thread ∷ u.index ∷ reason_number u.reason ∷ []
numbers_of (Damaged d) = 2 ∷ cause_number d.cause ∷ d.place ∷ d.depth ∷ []
numbers_of (Refused e) = 3 ∷ refusal_number e ∷ 0 ∷ 0 ∷ []
