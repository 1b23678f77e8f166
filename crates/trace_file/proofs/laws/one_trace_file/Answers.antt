use Rattle.trace_file.proofs.Clean.{clean-is-its-trace, one-trace-file}
use Rattle.trace_file.proofs.laws.one_trace_file.Goals as goal

pub returns : goal.returns
returns c = record { its_trace = clean-is-its-trace; only_one = one-trace-file }
