-- A pile: a feed, its bottom, with any number of relays above it, and what it delivers.
-- A relay is a feed made of another feed, whose records it passes on. One whose settings were refused passes them on as they are.
use Rattle.std.specs.Prelude.{◌≡◌, ℕ, suc, ◌+◌, min, Bool, cond, ◌&&◌, List, [], map, Some, None, Option, ◌==◌, nat_le, nat_lt}
use Rattle.record.specs.declared.kinds.Counts.{Counts}
use Rattle.record.specs.declared.kinds.Record.{Record}
use Rattle.record.specs.declared.causes.Damage.{Damage}
use Rattle.record.specs.Ending.{Ending, clean, damaged}
use Rattle.model.specs.HoldBack.{held_back}
use Rattle.model.specs.Renamed.{Renaming, renamed}
use Rattle.model.specs.Tells.{unchanged}
use Rattle.feed.specs.declared.refusals.Refusal.{Refusal}
use Rattle.feed.specs.declared.refusals.Refusal.TheVariants.{BadRenaming, BadHoldBack}
use Rattle.feed.specs.Refusals.{refusal_number}
use Rattle.feed.specs.Meaning.{Meaning, WellMade}

-- Relays --------------------------------------------------------------------------------------------------------------

-- a relay, by its settings
pub data Relay : Type 0 where
  -- it sends the threads, or the addresses, through a renaming of so many numbers: the way there, and the way back
  renames_threads : (count : ℕ) (there back : ℕ → ℕ) → Relay
  renames_addresses : (count : ℕ) (there back : ℕ → ℕ) → Relay
  -- it holds back up to d records of thread h
  holds_back : (h d : ℕ) → Relay

-- a renaming of so many numbers, 1 to 64, serves n of them
abbrev pub serves : ℕ → ℕ → Bool
serves count n = nat_le 1 count && nat_le count 64 && count == n

-- there is such a thread, and 1 to 16 of its records may be held
abbrev pub can_hold : ℕ → ℕ → ℕ → Bool
can_hold threads h d = nat_lt h threads && nat_le 1 d && nat_le d 16

-- the settings are good over a feed of these counts
abbrev pub fits : Counts → Relay → Bool
fits c (renames_threads count there back) = serves count c.threads
fits c (renames_addresses count there back) = serves count c.addresses
fits c (holds_back h d) = can_hold c.threads h d

abbrev pub settings_refusal : Relay → Refusal
settings_refusal (renames_threads count there back) = BadRenaming
settings_refusal (renames_addresses count there back) = BadRenaming
settings_refusal (holds_back h d) = BadHoldBack

-- what a relay over a feed of these counts shows: nothing, or the refusal of its settings
abbrev pub shown : Counts → Relay → Option Refusal
shown c r = cond (fits c r) None (Some (settings_refusal r))

-- the number that is shown
abbrev pub shown_number : Option Refusal → ℕ
shown_number None = 0
shown_number (Some e) = refusal_number e

-- what a relay with good settings makes of the records below it, the oldest first
abbrev pub passed_on : Relay → List Record → List Record
passed_on (renames_threads count there back) xs = map (renamed there unchanged) xs
passed_on (renames_addresses count there back) xs = map (renamed unchanged there) xs
passed_on (holds_back h d) xs = held_back h d [] xs

-- a thread that comes out of a relay with good settings, sent back through it
abbrev pub sent_back : Relay → ℕ → ℕ
sent_back (renames_threads count there back) t = back t
sent_back (renames_addresses count there back) t = t
sent_back (holds_back h d) t = t

-- the same of any relay over a feed of these counts
abbrev pub thread_below : Counts → Relay → ℕ → ℕ
thread_below c r t = cond (fits c r) (sent_back r t) t

-- damage that came through one relay more; the depth stops at 255
abbrev pub deeper : Damage → Damage
deeper d = record { cause = d.cause; place = d.place; depth = min (d.depth + 1) 255 }

abbrev pub deeper_ending : Ending → Ending
deeper_ending clean = clean
deeper_ending (damaged d) = damaged (deeper d)

-- what a relay means that was not asked yet, over a feed that means m
abbrev pub through : Relay → Meaning → Meaning
through r m = record { counts = m.counts; waiting = cond (fits m.counts r) (passed_on r m.waiting) m.waiting; ending = deeper_ending m.ending }

-- a relay's renaming, if it has one, is one
abbrev pub ProperRelay : Relay → Type 0
ProperRelay (renames_threads count there back) = Renaming count there back
ProperRelay (renames_addresses count there back) = Renaming count there back
ProperRelay (holds_back h d) = Unit {0}

-- Piles ---------------------------------------------------------------------------------------------------------------

-- a bottom, by its meaning, or a relay on a pile
pub data Pile : Type 0 where
  bottom : Meaning → Pile
  on : Relay → Pile → Pile

-- what is at the bottom
abbrev pub bottom_of : Pile → Meaning
bottom_of (bottom m) = m
bottom_of (on r p) = bottom_of p

-- the bottom's records, the oldest first
abbrev pub bottoms_records : Pile → List Record
bottoms_records p = (bottom_of p).waiting

-- what the topmost relay delivers of a pile that is unread
abbrev pub delivered : Pile → Meaning
delivered (bottom m) = m
delivered (on r p) = through r (delivered p)

-- how many relays there are
abbrev pub relays : Pile → ℕ
relays (bottom m) = 0
relays (on r p) = suc (relays p)

-- a thread that the pile delivers, sent back through each relay, the topmost first: its name at the bottom
abbrev pub thread_at_bottom : Pile → ℕ → ℕ
thread_at_bottom (bottom m) t = t
thread_at_bottom (on r p) t = thread_at_bottom p (thread_below (delivered p).counts r t)

-- damage that was found here came through no relay
abbrev pub FoundHere : Ending → Type 0
FoundHere clean = Unit {0}
FoundHere (damaged d) = d.depth ≡ 0

-- the bottom's meaning is well made, and its damage, if any, was found there; every renaming is one
abbrev pub Proper : Pile → Type 0
Proper (bottom m) = WellMade m × FoundHere m.ending
Proper (on r p) = ProperRelay r × Proper p

-- What every feed shows: its meaning is well made in every state; while it is unread, its pile is proper and it means what that delivers.
pub record FeedLaws {S : Type 0} (meaning : S → Meaning) (pile : S → Pile) (unread : S → Type 0) : Type 0 where
  pub sound : (s : S) → WellMade (meaning s)
  pub proper : (s : S) → unread s → Proper (pile s)
  pub opens : (s : S) → unread s → meaning s ≡ delivered (pile s)
