use Rattle.std.proofs.Common.{◌≡◌, length}
use Rattle.record.specs.Ending.{clean}
use Rattle.trace_file.specs.Laws.{all_appended, AllGranted}
use Rattle.trace_file.specs.contracts.reading.TraceFileFeed.TheImpl.{ghosts as feed_of}
use Rattle.trace_file.proofs.copying.append_all.Given as goal

abbrev pub invariant-loop-record : goal.invariant-loop-record
invariant-loop-record l =
    ((feed_of.meaning l.file).ending ≡ clean)
    × AllGranted l.target (feed_of.meaning l.file).waiting
    × (all_appended l.target (feed_of.meaning l.file).waiting ≡ all_appended l.initial.target (feed_of.meaning l.initial.file).waiting)

abbrev pub decreases-loop-record : goal.decreases-loop-record
decreases-loop-record l = length (feed_of.meaning l.file).waiting
