-- What is written is read again, and a list of records has one trace file.
use Rattle.std.specs.Prelude.{◌≡◌, ℕ, ◌+◌, ◌≤◌, List, [], ◌∷◌, length, take, drop, Ok}
use Rattle.record.specs.WellMade.{AllWellMade}
use Rattle.record.specs.declared.kinds.Counts.{Counts}
use Rattle.record.specs.declared.kinds.Record.{Record}
use Rattle.record.specs.Ending.{clean}
use Rattle.record.specs.RoundTrip.{Storable, AllBytes}
use Rattle.feed.specs.Meaning.{Meaning, CountsInRange}
use Rattle.trace_file.specs.Layout.{trace_length, trace_of, header_of}
use Rattle.trace_file.specs.Opening.{opened}
use Rattle.trace_file.specs.Writing.{begins, begun, appends, appended}

-- the numbers of each record fit the fields that hold them
abbrev pub AllStorable : List Record → Type 0
AllStorable [] = Unit {0}
AllStorable (x ∷ xs) = Storable x × AllStorable xs

-- the buffer with the records appended one after the other
abbrev pub all_appended : List ℕ → List Record → List ℕ
all_appended bs [] = bs
all_appended bs (x ∷ xs) = all_appended (appended bs x) xs

-- each of these appends answers the length of the trace so far
abbrev pub AllGranted : List ℕ → List Record → Type 0
AllGranted bs [] = Unit {0}
AllGranted bs (x ∷ xs) = (appends bs x ≡ Ok (trace_length ((header_of bs).count + 1))) × AllGranted (appended bs x) xs

-- A trace begun in a buffer, with records appended: no call is refused, the trace's own bytes open, deliver exactly those records
-- and end clean, and the bytes behind it are as they were.
pub record ReadAgain (c : Counts) (xs : List Record) (buf : List ℕ) : Type 0 where
  pub begin_granted : begins (length buf) c ≡ Ok (trace_length 0)
  pub appends_granted : AllGranted (begun buf c) xs
  pub opens : opened (take (trace_length (length xs)) (all_appended (begun buf c) xs)) ≡ Ok (record { counts = c; waiting = xs; ending = clean })
  pub behind : drop (trace_length (length xs)) (all_appended (begun buf c) xs) ≡ drop (trace_length (length xs)) buf

abbrev pub WrittenIsRead : Type 0
WrittenIsRead =
    (c : Counts) → CountsInRange c → (xs : List Record) → length xs ≤ 4096 → AllWellMade c xs → AllStorable xs → (buf : List ℕ) → trace_length (length xs) ≤ length buf → ReadAgain c xs buf

-- bytes that open and end clean are the trace file of their counts and records
abbrev pub CleanIsItsTrace : Type 0
CleanIsItsTrace = (bs : List ℕ) → AllBytes bs → (m : Meaning) → opened bs ≡ Ok m → m.ending ≡ clean → bs ≡ trace_of m.counts m.waiting

-- among bytes that open and end clean, the same counts and records have one trace file
abbrev pub OneTraceFile : Type 0
OneTraceFile = (bs bs' : List ℕ) → AllBytes bs → AllBytes bs' → (m : Meaning) → opened bs ≡ Ok m → opened bs' ≡ Ok m → m.ending ≡ clean → bs ≡ bs'
