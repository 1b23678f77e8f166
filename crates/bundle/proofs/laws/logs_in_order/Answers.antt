use Rattle.bundle.proofs.Opened.{logs-in-order}
use Rattle.bundle.proofs.laws.logs_in_order.Goals as goal

pub returns : goal.returns
returns c = logs-in-order
