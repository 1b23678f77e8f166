-- The bytes of a bundle: a header with a row for each of eight threads, the logs in thread order, then the arrival list.
use Rattle.std.specs.Prelude.{ℕ, ◌+◌, ◌*◌, List, map, drop, slice_index}
use Rattle.std.specs.List.{range_with_len}
use Rattle.record.specs.Layout.{two, four}
use Rattle.trace_file.specs.Layout.{twelves}
use Rattle.bundle.specs.declared.layout.Row.{Row}
use Rattle.bundle.specs.declared.layout.BundleHeader.{BundleHeader}

-- the numbers of two and of four bytes at a place
abbrev pub two_at : List ℕ → ℕ → ℕ
two_at bs at = two (slice_index bs at) (slice_index bs (at + 1))

abbrev pub four_at : List ℕ → ℕ → ℕ
four_at bs at = four (slice_index bs at) (slice_index bs (at + 1)) (slice_index bs (at + 2)) (slice_index bs (at + 3))

-- the row of a thread: where its log stands, and how many records that has
abbrev pub row_of : List ℕ → ℕ → Row
row_of bs t = record { offset = four_at bs (12 + 8 * t); count = four_at bs (16 + 8 * t) }

-- the rows of all eight
abbrev pub rows_of : List ℕ → List Row
rows_of bs = map (row_of bs) (range_with_len 0 8)

-- the header at the front of the bytes
abbrev pub header_of : List ℕ → BundleHeader
header_of bs = record { threads = two_at bs 0; addresses = two_at bs 2; count = four_at bs 4; arrivals = four_at bs 8; rows = rows_of bs }

-- the records of a log, twelve bytes each
abbrev pub slots_of : List ℕ → Row → List (List ℕ)
slots_of bs row = twelves row.count (drop row.offset bs)
