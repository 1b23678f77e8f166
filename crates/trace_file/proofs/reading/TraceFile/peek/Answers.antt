use Rattle.std.proofs.Common.{arith}
use Rattle.std.proofs.lemmas.List.{take_rest}
use Rattle.trace_file.proofs.Twelves.{slot-told}
use Rattle.trace_file.proofs.Opened.{peeked}
use Rattle.trace_file.proofs.reading.TraceFile.peek.Goals as goal

pub returns : goal.returns
returns c =
    let s = c.args.self.now in
    let w = slot-told s.records.now 0 c.in_ok-slot.slot c.in_ok-slot.ensures in
    peeked s.counts c.counts.result s.records.now c.in_ok-slot.slot _ s.place c.decode.result (omega arith) w.1 (take_rest s.records.now 12) c.counts.ensures c.decode.ensures
