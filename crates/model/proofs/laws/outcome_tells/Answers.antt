use Rattle.model.proofs.Tells.{outcome-tells}
use Rattle.model.proofs.laws.outcome_tells.Goals as goal

pub returns : goal.returns
returns c = outcome-tells
