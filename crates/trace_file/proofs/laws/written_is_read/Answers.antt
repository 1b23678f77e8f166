use Rattle.trace_file.proofs.Written.{written-is-read}
use Rattle.trace_file.proofs.laws.written_is_read.Goals as goal

pub returns : goal.returns
returns c = written-is-read
