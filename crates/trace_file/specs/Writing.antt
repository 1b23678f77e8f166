-- What beginning a trace and appending to it answer, and what they leave in the caller's buffer.
use Rattle.std.specs.Prelude.{ℕ, ◌+◌, ◌-◌, cond, List, ◌++◌, length, take, drop, Ok, Err, Result, nat_le, nat_lt}
use Rattle.record.specs.declared.kinds.Counts.{Counts}
use Rattle.record.specs.declared.kinds.Record.{Record}
use Rattle.record.specs.declared.causes.Cause.{Cause}
use Rattle.record.specs.Layout.{bytes_of}
use Rattle.record.specs.WellMade.{checked}
use Rattle.feed.specs.declared.refusals.Refusal.{Refusal}
use Rattle.feed.specs.declared.refusals.Refusal.TheVariants.{ShortHeader, NoRoom, NotWellMade}
use Rattle.trace_file.specs.declared.faults.Unwritten.{Unwritten}
use Rattle.trace_file.specs.declared.faults.Unwritten.TheVariants.{BadRecord, ShortSlot}
use Rattle.trace_file.specs.declared.layout.Header.{Header}
use Rattle.trace_file.specs.Layout.{four_bytes, trace_length, header_bytes, header_of}
use Rattle.trace_file.specs.Opening.{counts_tested, header_tested}

-- The record writer ------------------------------------------------------------------------------------------------

abbrev pub slot_tested : Result (Unit {0}) Cause → ℕ → Result (Unit {0}) Unwritten
slot_tested (Err cause) room = Err (BadRecord cause)
slot_tested (Ok _) room = cond (nat_lt room 12) (Err ShortSlot) (Ok tt)

-- whether a record goes into a slot of so many bytes: first the record is tested, then the room
abbrev pub writable : Counts → Record → ℕ → Result (Unit {0}) Unwritten
writable c x room = slot_tested (checked c x) room

-- the refusal that a fault of the record writer comes to
abbrev pub refusal_of : Unwritten → Refusal
refusal_of (BadRecord cause) = NotWellMade cause
refusal_of ShortSlot = NoRoom

-- Beginning --------------------------------------------------------------------------------------------------------

abbrev pub length_if : ℕ → Result Counts Refusal → Result ℕ Refusal
length_if n (Ok c) = Ok n
length_if n (Err e) = Err e

-- what beginning a trace in a buffer of so many bytes answers: the length of the trace, or the first refusal
abbrev pub begins : ℕ → Counts → Result ℕ Refusal
begins room c = cond (nat_lt room 16) (Err ShortHeader) (length_if (trace_length 0) (counts_tested c.threads c.addresses))

-- the buffer with the header of an empty trace at its front
abbrev pub begun : List ℕ → Counts → List ℕ
begun bs c = header_bytes c 0 ++ drop 16 bs

-- Appending --------------------------------------------------------------------------------------------------------

abbrev pub raised : Counts → Result (Unit {0}) Unwritten → Result Counts Refusal
raised c (Ok _) = Ok c
raised c (Err fault) = Err (refusal_of fault)

abbrev pub slot_tested_under : Header → ℕ → Record → Result Counts Refusal → Result Counts Refusal
slot_tested_under h room x (Err e) = Err e
slot_tested_under h room x (Ok c) = raised c (writable c x (room - h.«length»))

-- the counts of a trace with this header, in a buffer of so many bytes, that takes one more record, or the first refusal
abbrev pub append_tested : Header → ℕ → Record → Result Counts Refusal
append_tested h room x = slot_tested_under h room x (header_tested 4095 (nat_le h.«length» room) h)

-- what appending answers: the length of the trace with the record, or the first refusal
abbrev pub appends : List ℕ → Record → Result ℕ Refusal
appends bs x = cond (nat_lt (length bs) 16) (Err ShortHeader) (length_if (trace_length ((header_of bs).count + 1)) (append_tested (header_of bs) (length bs) x))

-- the buffer with other bytes from a place on
abbrev pub placed : ℕ → List ℕ → List ℕ → List ℕ
placed at new bs = take at bs ++ (new ++ drop (at + length new) bs)

-- the buffer with the count and the length of n records in its header
abbrev pub counted : ℕ → List ℕ → List ℕ
counted n bs = take 4 bs ++ (four_bytes n ++ (take 4 (drop 8 bs) ++ (four_bytes (trace_length n) ++ drop 16 bs)))

-- the buffer with the record behind the last, and with one record more in its header
abbrev pub appended : List ℕ → Record → List ℕ
appended bs x = counted ((header_of bs).count + 1) (placed (trace_length (header_of bs).count) (bytes_of x) bs)
