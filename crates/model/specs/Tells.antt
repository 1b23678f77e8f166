-- What the outcome of a list tells of each record.
use Rattle.std.specs.Prelude.{◌≡◌, ℕ, ◌<◌, List, ◌∷◌, ◌++◌, reverse}
use Rattle.record.specs.declared.kinds.Record.{Record}
use Rattle.record.specs.declared.causes.Damage.{Damage}
use Rattle.record.specs.WellMade.{thread_of}
use Rattle.record.specs.Ending.{Ending, clean, damaged}
use Rattle.model.specs.declared.reasons.Reason.{Reason}
use Rattle.model.specs.declared.outcomes.Outcome.TheVariants.{Compliant, Damaged}
use Rattle.model.specs.Events.{count_of, Law}
use Rattle.model.specs.Lawful.{verdict_at, lawful, unlawful, outcome_of, unlawful_of, outcome}

-- each record of the list, the newest first, is lawful where it stands
abbrev pub AllLawful : Law → ℕ → List Record → Type 0
AllLawful L T all = (t i : ℕ) → i < count_of t all → verdict_at L T t i all ≡ lawful

-- The list m stops at the record of thread t with index i, and each record in front of it is lawful in b, where its thread is found by way of back.
pub record StopsAt (L : Law) (T : ℕ) (back : ℕ → ℕ) (b m : List Record) (t i : ℕ) : Type 0 where
  pub front : List Record
  pub what : Record
  pub rest : List Record
  pub split : m ≡ front ++ (what ∷ rest)
  pub of_thread : thread_of what ≡ t
  pub at_index : count_of t (reverse front) ≡ i
  pub in_front : (u j : ℕ) → j < count_of u (reverse front) → verdict_at L T (back u) j (reverse b) ≡ lawful

-- What the outcome of the records m with the ending e tells of the records b, both the oldest first, where a thread of m is found in b by way of back.
pub record Told (L : Law) (T : ℕ) (back : ℕ → ℕ) (b m : List Record) (e : Ending) : Type 0 where
  pub compliant : outcome L T m e ≡ Compliant → (e ≡ clean) × AllLawful L T (reverse b)
  pub damage : (d : Damage) → outcome L T m e ≡ Damaged d → (e ≡ damaged d) × AllLawful L T (reverse b)
  pub all_lawful : AllLawful L T (reverse b) → outcome L T m e ≡ outcome_of e
  pub not_lawful : (t i : ℕ) (k : Reason) → outcome L T m e ≡ unlawful_of t i k → verdict_at L T (back t) i (reverse b) ≡ unlawful k
  pub stops : (t i : ℕ) (k : Reason) → outcome L T m e ≡ unlawful_of t i k → StopsAt L T back b m t i

-- the number itself: no thread, or no address, under another name
abbrev pub unchanged : ℕ → ℕ
unchanged k = k

-- of the list itself
abbrev pub OutcomeTells : Type 0
OutcomeTells = (L : Law) (T : ℕ) (xs : List Record) (e : Ending) → Told L T unchanged xs xs e
