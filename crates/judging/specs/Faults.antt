-- The outcome that a fault comes to.
use Rattle.model.specs.declared.outcomes.Outcome.{Outcome}
use Rattle.model.specs.declared.outcomes.Outcome.TheVariants.{Unlawful as UnlawfulOutcome, Damaged as DamagedOutcome}
use Rattle.judging.specs.declared.faults.Fault.{Fault}
use Rattle.judging.specs.declared.faults.Fault.TheVariants.{Damaged, Unlawful}

abbrev pub fault_outcome : Fault → Outcome
fault_outcome (Damaged d) = DamagedOutcome d
fault_outcome (Unlawful u) = UnlawfulOutcome u
