use Rattle.feed.proofs.Piles.{relays-keep-accounts}
use Rattle.relay.proofs.relaying.RenamingRelay.put_on.Goals as goal

pub returns-clause-alike : goal.returns-clause-alike
returns-clause-alike g c = relays-keep-accounts (g.S.Setting.relay c.args.setting) (g.S.Setting.proper c.args.setting)
