-- The relays that a renaming makes.
use Rattle.renaming.specs.declared.traits.Renaming.{Ghosts}
use Rattle.feed.specs.Pile.{Relay, renames_threads, renames_addresses}

-- the relay that sends threads, or addresses, through the renaming s, where ways says what it is as a renaming
abbrev pub threads_by : {S : Type 0} → Ghosts S → S → Relay
threads_by ways s = renames_threads (ways.total s) (ways.onward s) (ways.backward s)

abbrev pub addresses_by : {S : Type 0} → Ghosts S → S → Relay
addresses_by ways s = renames_addresses (ways.total s) (ways.onward s) (ways.backward s)
