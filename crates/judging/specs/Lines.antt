-- What a trace file comes to, and how that is printed.
use Rattle.std.specs.Prelude.{ℕ, List, ◌++◌, length, Ok, Err, codes, decimal, Result}
use Rattle.record.specs.Numbers.{cause_number}
use Rattle.model.specs.declared.outcomes.Outcome.{Outcome}
use Rattle.model.specs.declared.outcomes.Outcome.TheVariants.{Compliant, Unlawful, Damaged}
use Rattle.model.specs.Lawful.{reason_number, outcome}
use Rattle.model.specs.Laws.{by_axioms}
use Rattle.feed.specs.declared.refusals.Refusal.{Refusal}
use Rattle.feed.specs.Refusals.{refusal_number}
use Rattle.feed.specs.Meaning.{Meaning}
use Rattle.trace_file.specs.Opening.{opened}
use Rattle.judging.specs.declared.lines.Line.{Line}
use Rattle.judging.specs.declared.lines.Line.TheVariants.{Compliant as CompliantLine, Unlawful as UnlawfulLine, Damaged as DamagedLine, Refused}

-- the line of an outcome, where so many records were taken
abbrev pub outcome_line : Outcome → ℕ → Line
outcome_line Compliant n = CompliantLine n
outcome_line (Unlawful u) n = UnlawfulLine u
outcome_line (Damaged d) n = DamagedLine d

abbrev pub meaning_line : Result Meaning Refusal → Line
meaning_line (Err e) = Refused e
meaning_line (Ok m) = outcome_line (outcome by_axioms m.counts.threads m.waiting m.ending) (length m.waiting)

-- what the bytes come to: the refusal, or the outcome of their records and ending
abbrev pub line_of : List ℕ → Line
line_of bs = meaning_line (opened bs)

abbrev pub line_text : Line → List ℕ
line_text (CompliantLine n) = codes "compliant " ++ decimal n
line_text (UnlawfulLine u) = codes "unlawful " ++ (decimal u.thread ++ (codes " " ++ (decimal u.index ++ (codes " " ++ decimal (reason_number u.reason)))))
line_text (DamagedLine d) = codes "damaged " ++ (decimal (cause_number d.cause) ++ (codes " " ++ (decimal d.place ++ (codes " " ++ decimal d.depth))))
line_text (Refused e) = codes "refused " ++ decimal (refusal_number e)
