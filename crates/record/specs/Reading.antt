-- What twelve bytes are read as: a record, or the first cause for which they are none.
use Rattle.std.specs.Prelude.{ℕ, Bool, true, false, cond, not, ◌&&◌, ◌||◌, List, Some, None, Ok, Err, Option, Result, ◌==◌, nat_le, nat_lt}
use Rattle.record.specs.declared.kinds.Counts.{Counts}
use Rattle.record.specs.declared.kinds.Mode.{Mode}
use Rattle.record.specs.declared.kinds.Mode.TheVariants.{Relaxed, Strict}
use Rattle.record.specs.declared.kinds.Source.{Source}
use Rattle.record.specs.declared.kinds.Source.TheVariants.{Initial, Write as WriteOf}
use Rattle.record.specs.declared.kinds.Record.{Record}
use Rattle.record.specs.declared.kinds.Record.TheVariants.{Write, Read, Fence, Notify, Wait}
use Rattle.record.specs.declared.causes.Cause.{Cause}
use Rattle.record.specs.declared.causes.Cause.TheVariants.{UnknownKind, WrongThread, UnknownAddress, UnknownMode, UnknownSource, UnusedNotZero}
use Rattle.record.specs.declared.layout.Fields.{Fields}
use Rattle.record.specs.Layout.{fields_of}

-- the thread is not that of the log which the record stands in, if it stands in one
abbrev pub foreign : Option ℕ → ℕ → Bool
foreign None t = false
foreign (Some owner) t = not (t == owner)

abbrev pub wrong_thread : Counts → Option ℕ → ℕ → Bool
wrong_thread c log t = nat_le c.threads t || foreign log t

-- a write or a read
abbrev pub access : Fields → Bool
access f = f.kind == 1 || f.kind == 2

-- 255 with 0 is the initial value, a thread with a number from 1 its write
abbrev pub source_named : Counts → Fields → Bool
source_named c f = cond (f.writer == 255) (f.number == 0) (nat_lt f.writer c.threads && nat_lt 0 f.number)

-- every field that the kind does not use is zero
abbrev pub unused_zero : Fields → Bool
unused_zero f =
    cond (f.kind == 1) (f.writer == 0 && f.number == 0)
    (cond (f.kind == 2) true
    (f.address == 0 && f.writer == 0 && f.mode == 0 && f.number == 0 && (not (f.kind == 3) || f.value == 0)))

abbrev pub mode_of : ℕ → Mode
mode_of m = cond (m == 0) Relaxed Strict

abbrev pub source_of : ℕ → ℕ → Source
source_of w n = cond (w == 255) Initial (WriteOf w n)

-- the record of fields that no cause applies to
abbrev pub record_of : Fields → Record
record_of f =
    cond (f.kind == 1) (Write (record { thread = f.thread; address = f.address; mode = mode_of f.mode; value = f.value }))
    (cond (f.kind == 2) (Read (record { thread = f.thread; address = f.address; source = source_of f.writer f.number; mode = mode_of f.mode; value = f.value }))
    (cond (f.kind == 3) (Fence (record { thread = f.thread }))
    (cond (f.kind == 4) (Notify (record { thread = f.thread; label = f.value }))
    (Wait (record { thread = f.thread; label = f.value })))))

-- the record of the fields, whose kind and thread there are, or the first cause that applies
abbrev pub kind_read : Counts → Fields → Result Record Cause
kind_read c f =
    cond (access f && nat_le c.addresses f.address) (Err UnknownAddress)
    (cond (access f && nat_lt 1 f.mode) (Err UnknownMode)
    (cond (f.kind == 2 && not (source_named c f)) (Err UnknownSource)
    (cond (not (unused_zero f)) (Err UnusedNotZero)
    (Ok (record_of f)))))

-- the record of the fields, or the first cause that applies
abbrev pub fields_read : Counts → Option ℕ → Fields → Result Record Cause
fields_read c log f =
    cond (f.kind == 0 || nat_lt 5 f.kind) (Err UnknownKind)
    (cond (wrong_thread c log f.thread) (Err WrongThread)
    (kind_read c f))

-- the record of the bytes, or the first cause that applies; log is the thread whose log they stand in, if any
abbrev pub decoded : Counts → Option ℕ → List ℕ → Result Record Cause
decoded c log bs = fields_read c log (fields_of bs)
