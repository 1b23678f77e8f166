-- Which bytes are laid out as a bundle, whatever their arrival list says.
use Rattle.std.specs.Prelude.{ℕ, ◌+◌, ◌*◌, ◌≤◌, Bool, false, cond, ◌&&◌, ◌||◌, List, [], ◌∷◌, length, Some, None, Ok, Err, Option, Result, ◌==◌, nat_lt, slice_index_or}
use Rattle.std.specs.List.{list_any}
use Rattle.record.specs.declared.kinds.Counts.{Counts}
use Rattle.feed.specs.declared.refusals.Refusal.{Refusal}
use Rattle.feed.specs.declared.refusals.Refusal.TheVariants.{ShortHeader, RecordCount, BrokenLayout}
use Rattle.feed.specs.Meaning.{CountsInRange}
use Rattle.trace_file.specs.Opening.{counts_tested}
use Rattle.bundle.specs.declared.layout.Row.{Row}
use Rattle.bundle.specs.declared.layout.BundleHeader.{BundleHeader}
use Rattle.bundle.specs.declared.testing.Contents.{Contents}
use Rattle.bundle.specs.Layout.{header_of}

-- some row has more than so many records
abbrev pub any_above : ℕ → List Row → Bool
any_above most rows = list_any (λ row. nat_lt most row.count) rows

-- the row is that of a log at a place; where there is no such thread, it is zero
abbrev pub row_stands : Bool → ℕ → Row → Bool
row_stands named at row = cond named (row.offset == at) (row.offset == 0 && row.count == 0)

-- Where the last log ends, if these rows, of the threads from t on, have their logs one behind the other from a place on, and those of no thread are zero.
abbrev pub logs_end : ℕ → ℕ → ℕ → List Row → Option ℕ
logs_end threads t at [] = Some at
logs_end threads t at (row ∷ rows) = cond (row_stands (nat_lt t threads) at row) (logs_end threads (t + 1) (at + 12 * row.count) rows) None

-- the arrival list stands there, and the bundle, which has so many bytes, ends behind it
abbrev pub ends_with : BundleHeader → ℕ → Option ℕ → Bool
ends_with h len None = false
ends_with h len (Some end) = h.arrivals == end && len == end + h.count

abbrev pub layout_tested : ℕ → BundleHeader → Result Counts Refusal → Result Counts Refusal
layout_tested len h (Err e) = Err e
layout_tested len h (Ok c) =
    cond (nat_lt 4096 h.count || any_above 4096 h.rows) (Err RecordCount)
    (cond (ends_with h len (logs_end h.threads 0 76 h.rows)) (Ok c) (Err BrokenLayout))

-- the counts of a bundle that has this header and so many bytes, or its first refusal
abbrev pub header_tested : ℕ → BundleHeader → Result Counts Refusal
header_tested len h = layout_tested len h (counts_tested h.threads h.addresses)

abbrev pub contents_under : BundleHeader → Result Counts Refusal → Result Contents Refusal
contents_under h (Err e) = Err e
contents_under h (Ok c) = Ok (record { counts = c; count = h.count; rows = h.rows })

-- what the bytes hold as a bundle, or the first refusal
abbrev pub contents_of : List ℕ → Result Contents Refusal
contents_of bs = cond (nat_lt (length bs) 76) (Err ShortHeader) (contents_under (header_of bs) (header_tested (length bs) (header_of bs)))

-- the row of a thread; that of one that is none is zero
abbrev pub row_at : List Row → ℕ → Row
row_at rows t = slice_index_or rows t (record { offset = 0; count = 0 })

-- All counts are in range, and every log and the arrival list stand within so many bytes.
pub record Within (len : ℕ) (k : Contents) : Type 0 where
  pub in_range : CountsInRange k.counts
  pub few_arrivals : k.count ≤ 4096
  pub arrivals_within : k.count ≤ len
  pub few_records : (t : ℕ) → (row_at k.rows t).count ≤ 4096
  pub logs_within : (t : ℕ) → (row_at k.rows t).offset + 12 * (row_at k.rows t).count ≤ len
