-- Whether the sites agree.
use Rattle.std.specs.Prelude.{Bool, false, List, drop, Some, None, Option}
use Rattle.std.specs.List.{list_all}
use Rattle.feed.specs.Meaning.{Meaning}
use Rattle.model.specs.declared.outcomes.Outcome.{Outcome}
use Rattle.driving.specs.Agreeing.{agreeing}

-- both have told an outcome, and the two agree
abbrev pub both_agree : Option Outcome → Option Outcome → Bool
both_agree None b = false
both_agree (Some a) None = false
both_agree (Some a) (Some b) = agreeing a b

-- each of the others agrees with the first
abbrev pub all_agree : Option Outcome → List (Option Outcome) → Bool
all_agree o xs = list_all (both_agree o) xs

-- a feed whose first record, if it had one, was read
abbrev pub behind_one : Meaning → Meaning
behind_one m = record { counts = m.counts; waiting = drop 1 m.waiting; ending = m.ending }
