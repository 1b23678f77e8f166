use Rattle.model.proofs.Table.{table}
use Rattle.model.proofs.laws.table_of_traces.Goals as goal

pub returns : goal.returns
returns c = table
