-- The numbers by which files and answers name each case.
use Rattle.std.specs.Prelude.{ℕ, cond, Ok, Err, Result, ◌==◌}
use Rattle.record.specs.declared.kinds.Mode.{Mode}
use Rattle.record.specs.declared.kinds.Mode.TheVariants.{Relaxed, Strict}
use Rattle.record.specs.declared.kinds.Kind.{Kind}
use Rattle.record.specs.declared.kinds.Kind.TheVariants.{Write as AWrite, Read as ARead, Fence as AFence, Notify as ANotify, Wait as AWait}
use Rattle.record.specs.declared.kinds.Source.{Source}
use Rattle.record.specs.declared.kinds.Source.TheVariants.{Initial, Write as WriteOf}
use Rattle.record.specs.declared.kinds.Record.{Record}
use Rattle.record.specs.declared.kinds.Record.TheVariants.{Write, Read, Fence, Notify, Wait}
use Rattle.record.specs.declared.causes.Cause.{Cause}
use Rattle.record.specs.declared.causes.Cause.TheVariants.{UnknownKind, WrongThread, UnknownAddress, UnknownMode, UnknownSource, UnusedNotZero}

abbrev pub kind_number : Record → ℕ
kind_number (Write w) = 1
kind_number (Read r) = 2
kind_number (Fence f) = 3
kind_number (Notify n) = 4
kind_number (Wait w) = 5

-- the number that names a kind
abbrev pub kind_code : Kind → ℕ
kind_code AWrite = 1
kind_code ARead = 2
kind_code AFence = 3
kind_code ANotify = 4
kind_code AWait = 5

-- the kind that a number names, if it names one
abbrev pub kind_named : ℕ → Result Kind Cause
kind_named n =
    cond (n == 1) (Ok AWrite) (cond (n == 2) (Ok ARead) (cond (n == 3) (Ok AFence) (cond (n == 4) (Ok ANotify) (cond (n == 5) (Ok AWait) (Err UnknownKind)))))

abbrev pub mode_number : Mode → ℕ
mode_number Relaxed = 0
mode_number Strict = 1

-- the mode that a number names, if it names one
abbrev pub mode_named : ℕ → Result Mode Cause
mode_named m = cond (m == 0) (Ok Relaxed) (cond (m == 1) (Ok Strict) (Err UnknownMode))

-- a read's writer field: 255 stands for the initial value
abbrev pub source_writer : Source → ℕ
source_writer Initial = 255
source_writer (WriteOf t n) = t

-- a read's number field
abbrev pub source_number : Source → ℕ
source_number Initial = 0
source_number (WriteOf t n) = n

abbrev pub cause_number : Cause → ℕ
cause_number UnknownKind = 1
cause_number WrongThread = 2
cause_number UnknownAddress = 3
cause_number UnknownMode = 4
cause_number UnknownSource = 5
cause_number UnusedNotZero = 6
