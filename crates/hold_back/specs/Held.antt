-- What a hold-back relay holds, and what it means with that.
use Rattle.std.specs.Prelude.{◌≡◌, Bool, true, List, is_ok}
use Rattle.record.specs.declared.kinds.Record.{Record}
use Rattle.record.specs.WellMade.{checked}
use Rattle.feed.specs.Meaning.{Meaning}
use Rattle.hold_back.specs.declared.held.Held.{Held}
use Rattle.hold_back.specs.declared.holding.HoldBack.{HoldBack}
use Rattle.hold_back.specs.Holding.{holding, hold_meaning}

-- the records that are held, the oldest first
abbrev pub held_records : Held → List Record
held_records k = k.queue.items

-- a record of the feed below is well made, so it can be kept
abbrev pub CanKeep : Held → Record → Type 0
CanKeep k x = is_ok (checked k.counts x) ≡ true

-- beside the records that are held, all stays
abbrev pub KeepsRest : Held → Held → Type 0
KeepsRest old new = (new.counts ≡ old.counts) × (new.stalled ≡ old.stalled)

-- the relay holds back, where meaning says what a feed of the kind below means
abbrev pub is_holding : {F : Type 0} → (F → Meaning) → HoldBack F → Bool
is_holding meaning s = holding (meaning s.feed).counts s.hold.thread s.hold.capacity s.held.counts

-- what it means
abbrev pub held_meaning : {F : Type 0} → (F → Meaning) → HoldBack F → Meaning
held_meaning meaning s = hold_meaning s.hold.thread s.hold.capacity s.held.counts (held_records s.held) s.held.stalled (meaning s.feed)
