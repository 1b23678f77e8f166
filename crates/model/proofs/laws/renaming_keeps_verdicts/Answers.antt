use Rattle.model.proofs.Renamed.{renaming-rule}
use Rattle.model.proofs.laws.renaming_keeps_verdicts.Goals as goal

pub returns : goal.returns
returns c = renaming-rule
