-- What the judge is to say of a case, by the rules of the memory.
use Rattle.std.specs.Prelude.{◌≡◌, ℕ, ◌≤◌, List, length}
use Rattle.record.specs.declared.kinds.Record.{Record}
use Rattle.record.specs.Ending.{clean}
use Rattle.record.specs.WellMade.{AllWellMade}
use Rattle.model.specs.Laws.{by_axioms}
use Rattle.model.specs.Lawful.{outcome}
use Rattle.feed.specs.Meaning.{CountsInRange}
use Rattle.trace_file.specs.Laws.{AllStorable}
use Rattle.judging.specs.declared.lines.Line.{Line}
use Rattle.cases.specs.declared.judged.Case.{Case}
use Rattle.judging.specs.Lines.{outcome_line}

-- At most sixteen records, well made for so many threads and two addresses.
pub record Fitting (threads : ℕ) (xs : List Record) : Type 0 where
  pub in_range : CountsInRange (record { threads = threads; addresses = 2 })
  pub few : length xs ≤ 16
  pub well_made : AllWellMade (record { threads = threads; addresses = 2 }) xs
  pub storable : AllStorable xs

-- the line of the records, with a clean end
abbrev pub case_line : ℕ → List Record → Line
case_line threads xs = outcome_line (outcome by_axioms threads xs clean) (length xs)

-- the case is such a trace
abbrev pub CaseFits : Case → Type 0
CaseFits case = Fitting case.threads case.records.now

-- the line of its records is the one asked for
abbrev pub IsRight : Case → Type 0
IsRight case = case_line case.threads case.records.now ≡ case.asked
