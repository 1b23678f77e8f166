use Rattle.std.proofs.Common.{◌≡◌, drop}
use Rattle.trace_file.specs.Laws.{all_appended, AllGranted}
use Rattle.cases.proofs.judged.write_trace.Given as goal

abbrev pub invariant-loop-record : goal.invariant-loop-record
invariant-loop-record l =
    AllGranted l.initial.buf l.records
    → AllGranted l.buf (drop l.record-index l.records) × (all_appended l.buf (drop l.record-index l.records) ≡ all_appended l.initial.buf l.records)
