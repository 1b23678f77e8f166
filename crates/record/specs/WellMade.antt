-- When a record is well made in a trace of so many threads and addresses.
use Rattle.std.specs.Prelude.{◌≡◌, ℕ, Bool, true, cond, not, ◌&&◌, List, [], ◌∷◌, Ok, Err, Result, nat_lt}
use Rattle.record.specs.declared.kinds.Counts.{Counts}
use Rattle.record.specs.declared.kinds.Source.{Source}
use Rattle.record.specs.declared.kinds.Source.TheVariants.{Initial, Write as WriteOf}
use Rattle.record.specs.declared.kinds.Record.{Record}
use Rattle.record.specs.declared.kinds.Record.TheVariants.{Write, Read, Fence, Notify, Wait}
use Rattle.record.specs.declared.causes.Cause.{Cause}
use Rattle.record.specs.declared.causes.Cause.TheVariants.{WrongThread, UnknownAddress, UnknownSource}

-- the thread whose record it is
abbrev pub thread_of : Record → ℕ
thread_of (Write w) = w.thread
thread_of (Read r) = r.thread
thread_of (Fence f) = f.thread
thread_of (Notify n) = n.thread
thread_of (Wait w) = w.thread

-- the address of a write or read is below the number of addresses
abbrev pub address_known : Counts → Record → Bool
address_known c (Write w) = nat_lt w.address c.addresses
address_known c (Read r) = nat_lt r.address c.addresses
address_known c (Fence f) = true
address_known c (Notify n) = true
address_known c (Wait w) = true

-- the source is the initial value, or a write that some thread can have made
abbrev pub nameable : Counts → Source → Bool
nameable c Initial = true
nameable c (WriteOf t n) = nat_lt t c.threads && nat_lt 0 n

-- a read's source is nameable
abbrev pub source_known : Counts → Record → Bool
source_known c (Write w) = true
source_known c (Read r) = nameable c r.source
source_known c (Fence f) = true
source_known c (Notify n) = true
source_known c (Wait w) = true

-- nothing, or the first cause for which a record is not well made
abbrev pub checked : Counts → Record → Result (Unit {0}) Cause
checked c x =
    cond (not (nat_lt (thread_of x) c.threads)) (Err WrongThread)
    (cond (not (address_known c x)) (Err UnknownAddress)
    (cond (not (source_known c x)) (Err UnknownSource)
    (Ok tt)))

-- every record of the list is well made
abbrev pub AllWellMade : Counts → List Record → Type 0
AllWellMade c [] = Unit {0}
AllWellMade c (x ∷ xs) = (checked c x ≡ Ok tt) × AllWellMade c xs
