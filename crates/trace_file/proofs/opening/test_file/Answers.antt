use Rattle.trace_file.proofs.Opened.{opens-behind}
use Rattle.trace_file.proofs.opening.test_file.Goals as goal

pub returns : goal.returns
returns c =
    opens-behind c.args.bytes.now c.in_ok-header.header c.in_ok-header.ensures.whole.0 c.in_ok-header.ensures.whole.1 c.test.result c.test.ensures
