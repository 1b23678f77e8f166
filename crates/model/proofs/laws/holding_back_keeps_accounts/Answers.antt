use Rattle.model.proofs.HoldBack.{hold-back-rule}
use Rattle.model.proofs.laws.holding_back_keeps_accounts.Goals as goal

pub returns : goal.returns
returns c = hold-back-rule
