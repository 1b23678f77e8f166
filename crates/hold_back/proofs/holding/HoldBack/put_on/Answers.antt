use Rattle.feed.proofs.Piles.{relays-keep-accounts}
use Rattle.feed.specs.Pile.{holds_back}
use Rattle.hold_back.proofs.holding.HoldBack.put_on.Goals as goal

pub returns-clause-alike : goal.returns-clause-alike
returns-clause-alike g c = relays-keep-accounts (holds_back c.args.hold.thread c.args.hold.capacity) tt
