use Rattle.driving.proofs.Agreement.{sites-agree}
use Rattle.driving.proofs.agreeing.sites_agree.Goals as goal

pub returns : goal.returns
returns c = sites-agree
