use Rattle.model.proofs.Rank.{rank-rules}
use Rattle.model.proofs.laws.ranks_order_events.Goals as goal

pub returns : goal.returns
returns c = rank-rules
