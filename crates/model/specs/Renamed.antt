-- Threads and addresses under other names.
use Rattle.std.specs.Prelude.{◌≡◌, ℕ, ◌<◌, List, map}
use Rattle.record.specs.declared.kinds.Counts.{Counts}
use Rattle.record.specs.declared.kinds.Source.{Source}
use Rattle.record.specs.declared.kinds.Source.TheVariants.{Initial, Write as WriteOf}
use Rattle.record.specs.declared.kinds.Record.{Record}
use Rattle.record.specs.declared.kinds.Record.TheVariants.{Write, Read, Fence, Notify, Wait}
use Rattle.record.specs.WellMade.{AllWellMade}
use Rattle.model.specs.Events.{Law}
use Rattle.model.specs.Lawful.{verdict_at}

-- A renaming of the numbers below n: both ways stay below n, and each undoes the other.
pub record Renaming (n : ℕ) (there back : ℕ → ℕ) : Type 0 where
  pub there_below : (k : ℕ) → k < n → there k < n
  pub back_below : (k : ℕ) → k < n → back k < n
  pub back_there : (k : ℕ) → k < n → back (there k) ≡ k
  pub there_back : (k : ℕ) → k < n → there (back k) ≡ k

abbrev pub source_renamed : (ℕ → ℕ) → Source → Source
source_renamed τ Initial = Initial
source_renamed τ (WriteOf u n) = WriteOf (τ u) n

-- thread and source thread go through τ, the address of writes and reads through α, and all else stays
abbrev pub renamed : (ℕ → ℕ) → (ℕ → ℕ) → Record → Record
renamed τ α (Write w) = Write (record { thread = τ w.thread; address = α w.address; mode = w.mode; value = w.value })
renamed τ α (Read r) = Read (record { thread = τ r.thread; address = α r.address; source = source_renamed τ r.source; mode = r.mode; value = r.value })
renamed τ α (Fence f) = Fence (record { thread = τ f.thread })
renamed τ α (Notify n) = Notify (record { thread = τ n.thread; label = n.label })
renamed τ α (Wait w) = Wait (record { thread = τ w.thread; label = w.label })

-- renaming the threads and the addresses of a well-made list leaves each record's verdict as it was, at the renamed thread
abbrev pub RenamingRule : Type 0
RenamingRule =
    (L : Law) (c : Counts) (τ τ' α α' : ℕ → ℕ) → Renaming c.threads τ τ' → Renaming c.addresses α α' → (all : List Record) → AllWellMade c all → (t i : ℕ) → t < c.threads → verdict_at L c.threads (τ t) i (map (renamed τ α) all) ≡ verdict_at L c.threads t i all
