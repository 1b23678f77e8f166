-- One outcome at every site: what the answers to any list of calls tell of the bottom of the pile, whatever relays the records came through.
use Rattle.std.specs.Prelude.{ℕ, List, take}
use Rattle.feed.specs.Pile.{Pile}
use Rattle.judging.specs.Sites.{TellsBottom}
use Rattle.driving.specs.declared.calls.Entry.{Entry}
use Rattle.driving.specs.Calls.{asked, told}

-- after every one of the calls, what was told so far tells of the bottom
abbrev pub OneOutcome : Pile → List Entry → Type 0
OneOutcome p es = (k : ℕ) → TellsBottom p (asked (take k es)) (told (take k es))
