use Rattle.model.proofs.Upto.{upto-rules}
use Rattle.model.proofs.laws.alike_up_to_renaming.Goals as goal

pub returns : goal.returns
returns c = upto-rules
