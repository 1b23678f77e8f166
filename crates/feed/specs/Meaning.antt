-- What a feed means, and what asking it for a record does.
use Rattle.std.specs.Prelude.{◌≡◌, ◌≤◌, List, [], ◌∷◌, Some, None, Ok, Err, Option, Result}
use Rattle.record.specs.declared.kinds.Counts.{Counts}
use Rattle.record.specs.declared.kinds.Record.{Record}
use Rattle.record.specs.declared.causes.Damage.{Damage}
use Rattle.record.specs.Ending.{Ending, clean, damaged}
use Rattle.record.specs.WellMade.{AllWellMade}

-- A feed's meaning: its counts, the records that still wait, the first to be delivered first, and how it ends.
pub record Meaning : Type 0 where
  pub counts : Counts
  pub waiting : List Record
  pub ending : Ending

-- 1 to 8 threads and 1 to 64 addresses
pub record CountsInRange (c : Counts) : Type 0 where
  pub some_thread : 1 ≤ c.threads
  pub few_threads : c.threads ≤ 8
  pub some_address : 1 ≤ c.addresses
  pub few_addresses : c.addresses ≤ 64

pub record WellMade (m : Meaning) : Type 0 where
  pub in_range : CountsInRange m.counts
  pub all_well_made : AllWellMade m.counts m.waiting

-- Asking what means m for a record answers so, and leaves what means n: the first record goes and all else stays;
-- where none waits, the ending is told and all stays.
abbrev pub Asked : Meaning → Result (Option Record) Damage → Meaning → Type 0
Asked m (Ok (Some x)) n = (m.waiting ≡ x ∷ n.waiting) × (n.counts ≡ m.counts) × (n.ending ≡ m.ending)
Asked m (Ok None) n = (m.waiting ≡ []) × (m.ending ≡ clean) × (n ≡ m)
Asked m (Err d) n = (m.waiting ≡ []) × (m.ending ≡ damaged d) × (n ≡ m)
