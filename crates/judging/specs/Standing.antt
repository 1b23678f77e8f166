-- Where a judge stands, and what each call makes of that.
use Rattle.std.specs.Prelude.{ℕ, zero, suc, List, [], ◌∷◌, Some, None, Option}
use Rattle.record.specs.declared.kinds.Record.{Record}
use Rattle.record.specs.WellMade.{thread_of}
use Rattle.model.specs.declared.reasons.Reason.{Reason}
use Rattle.model.specs.declared.outcomes.Outcome.{Outcome}
use Rattle.model.specs.Events.{count_of}
use Rattle.model.specs.Lawful.{verdict, outcome_of, unlawful_of}
use Rattle.model.specs.Laws.{by_axioms}
use Rattle.feed.specs.Meaning.{Meaning}

pub record Standing : Type 0 where
  -- what is left of the feed
  pub left : Meaning
  -- the records taken, the newest first
  pub taken : List Record
  -- the outcome that stands, if one was told
  pub told : Option Outcome

-- a new judge on a feed
abbrev pub at_start : Meaning → Standing
at_start m = record { left = m; taken = []; told = None }

-- the feed with its first record gone
abbrev pub behind_first : Meaning → List Record → Meaning
behind_first m xs = record { counts = m.counts; waiting = xs; ending = m.ending }

-- the record x was asked for, and those behind it still wait: a lawful one is taken, and an unlawful one settles the trace
abbrev pub after_record : Standing → Record → List Record → Option Reason → Standing
after_record s x xs None = record { left = behind_first s.left xs; taken = x ∷ s.taken; told = None }
after_record s x xs (Some k) = record { left = behind_first s.left xs; taken = s.taken; told = Some (unlawful_of (thread_of x) (count_of (thread_of x) s.taken) k) }

-- a record was asked for, where these wait
abbrev pub after_asking : Standing → List Record → Standing
after_asking s [] = record { left = s.left; taken = s.taken; told = Some (outcome_of s.left.ending) }
after_asking s (x ∷ xs) = after_record s x xs (verdict by_axioms s.left.counts.threads s.taken x)

-- one step: nothing changes once an outcome was told
abbrev pub step_under : Option Outcome → Standing → Standing
step_under None s = after_asking s s.left.waiting
step_under (Some o) s = s

abbrev pub advance : Standing → Standing
advance s = step_under s.told s

abbrev pub advance_by : ℕ → Standing → Standing
advance_by zero s = s
advance_by (suc n) s = advance_by n (advance s)
