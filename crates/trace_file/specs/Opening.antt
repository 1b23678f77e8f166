-- Which bytes open as a trace file, and what they then mean.
use Rattle.std.specs.Prelude.{◌≡◌, ℕ, ◌-◌, ◌/◌, min, max, Bool, cond, ◌&&◌, ◌||◌, List, map, length, take, drop, None, Ok, Err, Result, ◌==◌, nat_lt}
use Rattle.record.specs.declared.kinds.Counts.{Counts}
use Rattle.record.specs.declared.kinds.Record.{Record}
use Rattle.record.specs.declared.causes.Cause.{Cause}
use Rattle.record.specs.Reading.{decoded}
use Rattle.feed.specs.declared.refusals.Refusal.{Refusal}
use Rattle.feed.specs.declared.refusals.Refusal.TheVariants.{ShortHeader, ThreadCount, AddressCount, RecordCount, BrokenLayout}
use Rattle.feed.specs.Meaning.{Meaning}
use Rattle.feed.specs.Delivery.{delivering}
use Rattle.trace_file.specs.declared.layout.Header.{Header}
use Rattle.trace_file.specs.Layout.{trace_length, header_of, twelves}

-- the number is not 1 to most
abbrev pub outside : ℕ → ℕ → Bool
outside most n = n == 0 || nat_lt most n

-- the numbers of threads and addresses, or the refusal of one
abbrev pub counts_tested : ℕ → ℕ → Result Counts Refusal
counts_tested threads addresses =
    cond (outside 8 threads) (Err ThreadCount)
    (cond (outside 64 addresses) (Err AddressCount)
    (Ok (record { threads = threads; addresses = addresses })))

-- offset and length are those of a trace of so many records
abbrev pub laid_out : Header → Bool
laid_out h = h.offset == 16 && h.«length» == trace_length h.count

-- the header's counts, or its first refusal: at most so many records, and `fits` says whether its length fits the bytes at hand
abbrev pub layout_tested : ℕ → Bool → Header → Result Counts Refusal → Result Counts Refusal
layout_tested most fits h (Err e) = Err e
layout_tested most fits h (Ok c) = cond (nat_lt most h.count) (Err RecordCount) (cond (laid_out h && fits) (Ok c) (Err BrokenLayout))

abbrev pub header_tested : ℕ → Bool → Header → Result Counts Refusal
header_tested most fits h = layout_tested most fits h (counts_tested h.threads h.addresses)

-- what each twelve bytes are read as
abbrev pub read_as : Counts → List (List ℕ) → List (Result Record Cause)
read_as c ts = map (decoded c None) ts

-- Counts as near to 1 to 8 and 1 to 64 as can be: those of a file that was opened are as they are.
abbrev pub in_range : Counts → Counts
in_range c = record { threads = max 1 (min 8 c.threads); addresses = max 1 (min 64 c.addresses) }

-- what a file means of which so many records were read and these bytes are left
abbrev pub file_meaning : Counts → List ℕ → ℕ → Meaning
file_meaning c bs place = delivering (in_range c) place (read_as (in_range c) (twelves (length bs / 12) bs))

abbrev pub opened_under : List ℕ → Result Counts Refusal → Result Meaning Refusal
opened_under bs (Err e) = Err e
opened_under bs (Ok c) = Ok (delivering c 0 (read_as c (twelves (header_of bs).count (drop 16 bs))))

-- what the bytes mean as a trace file, or the first refusal
abbrev pub opened : List ℕ → Result Meaning Refusal
opened bs =
    cond (nat_lt (length bs) 16) (Err ShortHeader)
    (opened_under bs (header_tested 4096 ((header_of bs).«length» == length bs) (header_of bs)))

-- the bytes open, and mean what their part behind the header means to one who has read nothing of it
abbrev pub OpensBehind : List ℕ → Counts → Type 0
OpensBehind bs c = (behind : List ℕ) → behind ≡ take (length bs - 16) (drop 16 bs) → (opened bs ≡ Ok (file_meaning c behind 0)) × (behind ≡ drop 16 bs)
