use Rattle.std.proofs.Common.{◌≡◌, length}
use Rattle.renaming.specs.Tables.{each_once_below}
use Rattle.renaming.proofs.entries.each_once.Given as goal

-- the entries that are left decide
abbrev pub invariant-loop-left : goal.invariant-loop-left
invariant-loop-left l = each_once_below (length l.entries) l.left ≡ each_once_below (length l.entries) l.entries

abbrev pub decreases-loop-left : goal.decreases-loop-left
decreases-loop-left l = length l.left
