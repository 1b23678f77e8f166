-- How a record and a damage cause read for people.
use Rattle.std.specs.Prelude.{ℕ, List, [], ◌++◌, codes, decimal}
use Rattle.record.specs.declared.kinds.Mode.{Mode}
use Rattle.record.specs.declared.kinds.Mode.TheVariants.{Relaxed, Strict}
use Rattle.record.specs.declared.kinds.Source.{Source}
use Rattle.record.specs.declared.kinds.Source.TheVariants.{Initial, Write as WriteOf}
use Rattle.record.specs.declared.kinds.Record.{Record}
use Rattle.record.specs.declared.kinds.Record.TheVariants.{Write, Read, Fence, Notify, Wait}
use Rattle.record.specs.declared.causes.Cause.{Cause}
use Rattle.record.specs.declared.causes.Cause.TheVariants.{UnknownKind, WrongThread, UnknownAddress, UnknownMode, UnknownSource, UnusedNotZero}

-- what stands before the verb of a write or read
abbrev pub mode_text : Mode → List ℕ
mode_text Relaxed = []
mode_text Strict = codes "strictly "

abbrev pub source_text : Source → List ℕ
source_text Initial = codes "the initial value"
source_text (WriteOf t n) = codes "write " ++ (decimal n ++ (codes " of thread " ++ decimal t))

abbrev pub record_text : Record → List ℕ
record_text (Write w) = codes "thread " ++ (decimal w.thread ++ (codes " " ++ (mode_text w.mode ++ (codes "writes " ++ (decimal w.value ++ (codes " to address " ++ decimal w.address))))))
record_text (Read r) = codes "thread " ++ (decimal r.thread ++ (codes " " ++ (mode_text r.mode ++ (codes "reads " ++ (decimal r.value ++ (codes " from address " ++ (decimal r.address ++ (codes ", " ++ source_text r.source))))))))
record_text (Fence f) = codes "thread " ++ (decimal f.thread ++ codes " fences")
record_text (Notify n) = codes "thread " ++ (decimal n.thread ++ (codes " notifies with label " ++ decimal n.label))
record_text (Wait w) = codes "thread " ++ (decimal w.thread ++ (codes " waits with label " ++ decimal w.label))

abbrev pub cause_text : Cause → List ℕ
cause_text UnknownKind = codes "the kind is not 1 to 5"
cause_text WrongThread = codes "the thread is not one of the trace's, or not its log's own"
cause_text UnknownAddress = codes "the address is not one of the trace's"
cause_text UnknownMode = codes "the mode is neither relaxed nor strict"
cause_text UnknownSource = codes "the read names neither the initial value nor a thread's write"
cause_text UnusedNotZero = codes "a field that the kind does not use is not zero"
