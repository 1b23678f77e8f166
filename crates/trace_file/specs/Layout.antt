-- The bytes of a trace file: a header of sixteen, then twelve for each record.
use Rattle.std.specs.Prelude.{ℕ, zero, suc, ◌+◌, ◌*◌, ◌/◌, ◌%◌, cond, List, [], ◌∷◌, ◌++◌, length, take, drop, Some, None, Option, nat_lt, slice_index}
use Rattle.record.specs.declared.kinds.Counts.{Counts}
use Rattle.record.specs.declared.kinds.Record.{Record}
use Rattle.record.specs.Layout.{two, four, bytes_of}
use Rattle.trace_file.specs.declared.layout.Header.{Header}

abbrev pub two_bytes : ℕ → List ℕ
two_bytes n = (n / 256 % 256) ∷ (n % 256) ∷ []

abbrev pub four_bytes : ℕ → List ℕ
four_bytes n = (n / 16777216 % 256) ∷ (n / 65536 % 256) ∷ (n / 256 % 256) ∷ (n % 256) ∷ []

-- how many bytes a trace of n records has
abbrev pub trace_length : ℕ → ℕ
trace_length n = 16 + 12 * n

-- the header of a trace of n records
abbrev pub header_bytes : Counts → ℕ → List ℕ
header_bytes c n = two_bytes c.threads ++ (two_bytes c.addresses ++ (four_bytes n ++ (four_bytes 16 ++ four_bytes (trace_length n))))

-- the records one behind the other
abbrev pub record_bytes : List Record → List ℕ
record_bytes [] = []
record_bytes (x ∷ xs) = bytes_of x ++ record_bytes xs

-- the trace file of a list of records
abbrev pub trace_of : Counts → List Record → List ℕ
trace_of c xs = header_bytes c (length xs) ++ record_bytes xs

-- the header at the front of the bytes
abbrev pub header_of : List ℕ → Header
header_of bs = record { threads = two (slice_index bs 0) (slice_index bs 1); addresses = two (slice_index bs 2) (slice_index bs 3); count = four (slice_index bs 4) (slice_index bs 5) (slice_index bs 6) (slice_index bs 7); offset = four (slice_index bs 8) (slice_index bs 9) (slice_index bs 10) (slice_index bs 11); «length» = four (slice_index bs 12) (slice_index bs 13) (slice_index bs 14) (slice_index bs 15) }

-- the first n twelves of the bytes
abbrev pub twelves : ℕ → List ℕ → List (List ℕ)
twelves zero bs = []
twelves (suc n) bs = take 12 bs ∷ twelves n (drop 12 bs)

-- the twelve bytes from a place on, if there are so many
abbrev pub slot_at : List ℕ → ℕ → Option (List ℕ)
slot_at bs at = cond (nat_lt (length bs) (at + 12)) None (Some (take 12 (drop at bs)))
