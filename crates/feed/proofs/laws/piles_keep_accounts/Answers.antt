use Rattle.feed.proofs.Piles.{piles-keep-accounts}
use Rattle.feed.proofs.laws.piles_keep_accounts.Goals as goal

pub returns : goal.returns
returns c = piles-keep-accounts
