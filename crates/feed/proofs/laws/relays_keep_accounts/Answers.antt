use Rattle.feed.proofs.Piles.{relays-keep-accounts, relays-stay-well-made}
use Rattle.feed.proofs.laws.relays_keep_accounts.Goals as goal

pub returns : goal.returns
returns c = record { alike = relays-keep-accounts; well_made = relays-stay-well-made }
