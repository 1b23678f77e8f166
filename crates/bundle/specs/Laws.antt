-- What of a bundle is delivered, and in which order.
use Rattle.std.specs.Prelude.{◌≡◌, ℕ, ◌+◌, List, [], ◌∷◌, ◌++◌, map, reverse, length, take, Some, Ok, Err, Result, slice_index}
use Rattle.record.specs.declared.kinds.Counts.{Counts}
use Rattle.record.specs.declared.kinds.Record.{Record}
use Rattle.record.specs.declared.causes.Cause.{Cause}
use Rattle.record.specs.declared.causes.Damage.{Damage}
use Rattle.record.specs.Ending.{clean, damaged}
use Rattle.record.specs.Reading.{decoded}
use Rattle.record.specs.WellMade.{thread_of}
use Rattle.model.specs.Events.{records_of}
use Rattle.feed.specs.Meaning.{Meaning}
use Rattle.std.specs.Borrow.{Bor}
use Rattle.bundle.specs.declared.testing.Contents.{Contents}
use Rattle.bundle.specs.Layout.{rows_of, header_of, slots_of}
use Rattle.bundle.specs.Contents.{row_at}
use Rattle.bundle.specs.Reading.{log_bytes, bytes_of, bundle_meaning}
use Rattle.bundle.specs.Opening.{arrivals_of, opened}

-- the arrival list of the bytes
abbrev pub arrival_list : List ℕ → List ℕ
arrival_list bs = arrivals_of bs (header_of bs).count

-- what each record of a thread's log is read as
abbrev pub log_of : Counts → List ℕ → ℕ → List (Result Record Cause)
log_of c bs t = map (decoded c (Some t)) (slots_of bs (row_at (rows_of bs) t))

-- the records of a thread that are delivered, in order
abbrev pub delivered_of : Meaning → ℕ → List (Result Record Cause)
delivered_of m t = map (λ x. Ok x) (records_of t (reverse m.waiting))

-- Of each thread the first records of its log are delivered, in order, and the threads follow the arrival list;
-- all of both where the bundle ends clean; and where it ends damaged, the entry behind them names the log whose next record is not well made.
pub record InOrder (bs : List ℕ) (m : Meaning) : Type 0 where
  pub threads : map thread_of m.waiting ≡ take (length m.waiting) (arrival_list bs)
  pub records : (t : ℕ) → delivered_of m t ≡ take (length (delivered_of m t)) (log_of m.counts bs t)
  pub all_threads : m.ending ≡ clean → map thread_of m.waiting ≡ arrival_list bs
  pub all_records : m.ending ≡ clean → (t : ℕ) → delivered_of m t ≡ log_of m.counts bs t
  pub damage_place : (d : Damage) → m.ending ≡ damaged d → d.place ≡ length m.waiting
  pub damage_cause : (d : Damage) → m.ending ≡ damaged d → (t : ℕ) → t ≡ slice_index (arrival_list bs) d.place → delivered_of m t ++ Err d.cause ∷ [] ≡ take (length (delivered_of m t) + 1) (log_of m.counts bs t)

abbrev pub LogsInOrder : Type 0
LogsInOrder = (bs : List ℕ) (m : Meaning) → opened bs ≡ Ok m → InOrder bs m

-- The bytes open, and mean, in that order, what the logs and the arrival list mean to one who has read nothing of them.
abbrev pub OpensAs : List ℕ → Contents → Type 0
OpensAs bs k =
    (ts : List ℕ) (logs : List (Bor (List ℕ))) → ts ≡ arrivals_of bs k.count → map bytes_of logs ≡ map (log_bytes bs) k.rows
    → (opened bs ≡ Ok (bundle_meaning k.counts logs ts 0)) × InOrder bs (bundle_meaning k.counts logs ts 0)
