-- What relays and piles keep: every thread's account, up to the names of threads and addresses.
use Rattle.std.specs.Prelude.{ℕ, List, reverse}
use Rattle.record.specs.declared.kinds.Counts.{Counts}
use Rattle.record.specs.declared.kinds.Record.{Record}
use Rattle.model.specs.Upto.{Upto}
use Rattle.feed.specs.Meaning.{Meaning, WellMade}
use Rattle.feed.specs.Pile.{Relay, thread_below, through, ProperRelay, Pile, bottoms_records, delivered, thread_at_bottom, Proper}

-- The list m is the list b, both the oldest first, with threads and addresses under other names, in an order in which every thread gives the same account.
-- A thread of m is found in b by way of back.
pub record AlikeBy (c : Counts) (back : ℕ → ℕ) (b m : List Record) : Type 0 where
  pub there : ℕ → ℕ
  pub address_there : ℕ → ℕ
  pub address_back : ℕ → ℕ
  pub upto : Upto c there back address_there address_back (reverse b) (reverse m)

-- what is alike, up to renaming, to the records below a relay is alike to what the relay delivers
abbrev pub KeepsAlike : Relay → Type 0
KeepsAlike r =
    (m : Meaning) (back : ℕ → ℕ) (b : List Record) → AlikeBy m.counts back b m.waiting → AlikeBy m.counts (λ t. back (thread_below m.counts r t)) b (through r m).waiting

abbrev pub RelaysKeepAccounts : Type 0
RelaysKeepAccounts = (r : Relay) → ProperRelay r → KeepsAlike r

-- what a pile delivers is alike to the bottom's records
abbrev pub PilesKeepAccounts : Type 0
PilesKeepAccounts = (p : Pile) → Proper p → AlikeBy (delivered p).counts (thread_at_bottom p) (bottoms_records p) (delivered p).waiting

-- a relay's meaning is well made if the one below is
abbrev pub RelaysStayWellMade : Type 0
RelaysStayWellMade = (r : Relay) → ProperRelay r → (m : Meaning) → WellMade m → WellMade (through r m)
