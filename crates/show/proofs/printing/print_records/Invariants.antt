use Rattle.std.proofs.Common.{◌≡◌, length}
use Rattle.show.proofs.printing.print_records.Given as goal

abbrev pub invariant-loop-record : goal.invariant-loop-record
invariant-loop-record g l = (g.F.Feed.meaning l.feed).ending ≡ (g.F.Feed.meaning l.initial.feed).ending

abbrev pub decreases-loop-record : goal.decreases-loop-record
decreases-loop-record g l = length (g.F.Feed.meaning l.feed).waiting
