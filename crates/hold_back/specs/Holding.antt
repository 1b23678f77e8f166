-- What a hold-back relay means, also half-way: with the records that it holds, the oldest first, and the one that is stalled, if one is.
use Rattle.std.specs.Prelude.{ℕ, Bool, true, cond, ◌&&◌, List, [], ◌∷◌, is_ok, Some, None, Option, ◌==◌}
use Rattle.record.specs.declared.kinds.Counts.{Counts}
use Rattle.record.specs.declared.kinds.Record.{Record}
use Rattle.record.specs.WellMade.{checked}
use Rattle.model.specs.HoldBack.{stalled, held_back}
use Rattle.feed.specs.Meaning.{Meaning}
use Rattle.feed.specs.Pile.{can_hold, deeper_ending}

-- every record of the list is well made; and so is the one that is stalled
abbrev pub all_checked : Counts → List Record → Bool
all_checked c [] = true
all_checked c (x ∷ xs) = is_ok (checked c x) && all_checked c xs

abbrev pub stalled_checked : Counts → Option Record → Bool
stalled_checked c None = true
stalled_checked c (Some x) = is_ok (checked c x)

abbrev pub same_counts : Counts → Counts → Bool
same_counts a b = a.threads == b.threads && a.addresses == b.addresses

-- what is delivered, where xs still wait below
abbrev pub released : ℕ → ℕ → List Record → Option Record → List Record → List Record
released h d held None xs = held_back h d held xs
released h d held (Some x) xs = stalled held x (held_back h d [] xs)

-- The relay took the counts `own` from the feed below as it was put on. (Over a feed of other counts, which there is not, it would pass the records on.)
abbrev pub holding : Counts → ℕ → ℕ → Counts → Bool
holding c h d own = can_hold c.threads h d && same_counts own c

abbrev pub hold_meaning : ℕ → ℕ → Counts → List Record → Option Record → Meaning → Meaning
hold_meaning h d own held st m = record { counts = m.counts; waiting = cond (holding m.counts h d own) (released h d held st m.waiting) m.waiting; ending = deeper_ending m.ending }
