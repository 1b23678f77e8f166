use Rattle.std.proofs.Common.{◌≡◌, length}
use Rattle.trace_file.specs.contracts.reading.TraceFileFeed.TheImpl.{ghosts as feed_of}
use Rattle.trace_file.proofs.copying.read_through.Given as goal

abbrev pub invariant-loop-record : goal.invariant-loop-record
invariant-loop-record l = (feed_of.meaning l.file).ending ≡ (feed_of.meaning l.initial.file).ending

abbrev pub decreases-loop-record : goal.decreases-loop-record
decreases-loop-record l = length (feed_of.meaning l.file).waiting
