-- What a site reports, and the same with renamings undone.
use Rattle.std.specs.Prelude.{ℕ, Some, None, Option}
use Rattle.model.specs.declared.outcomes.Outcome.{Outcome}
use Rattle.model.specs.declared.outcomes.Outcome.TheVariants.{Compliant, Unlawful, Damaged}

-- the thread that an outcome names, if it names one
abbrev pub named_thread : Option Outcome → Option ℕ
named_thread None = None
named_thread (Some Compliant) = None
named_thread (Some (Unlawful u)) = Some u.thread
named_thread (Some (Damaged d)) = None

-- the outcome, with the thread that it names under this name
abbrev pub with_thread : Outcome → ℕ → Outcome
with_thread Compliant t = Compliant
with_thread (Unlawful u) t = Unlawful (record { thread = t; index = u.index; reason = u.reason })
with_thread (Damaged d) t = Damaged d
