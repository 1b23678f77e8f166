use Rattle.std.proofs.Common.{◌≡◌, length, sym, ap, ◌∙◌, arith}
use Rattle.std.proofs.lemmas.List.{take_rest}
use Rattle.trace_file.specs.Opening.{in_range}
use Rattle.trace_file.proofs.Twelves.{slot-told, slot-none}
use Rattle.bundle.specs.Reading.{read_in_log}
use Rattle.bundle.proofs.Slots.{peeked-none, peeked}
use Rattle.bundle.proofs.reading.Bundle.peek.Goals as goal

pub returns-in_err-slot : goal.returns-in_err-slot
returns-in_err-slot c =
    let s = c.args.self.now in
    let log = c.in_ok-left.field-0.now in
    let w = c.in_ok-thread.ensures.lookup.3 in
    let v = c.in_ok-left.ensures.lookup.3 in
    let short = slot-none log.now 0 c.in_err-slot.ensures in
    rw c.from_residual-in_err-slot.ensures (peeked-none s.counts s.logs s.arrivals.now s.at c.from-log.result log w.0 (c.from-log.ensures ∙ w.1 0) v.0 (v.1 log) (omega arith))

pub returns : goal.returns
returns c =
    let s = c.args.self.now in
    let t = c.from-log.result in
    let log = c.in_ok-left.field-0.now in
    let slot = c.in_ok-slot.slot in
    let w = c.in_ok-thread.ensures.lookup.3 in
    let v = c.in_ok-left.ensures.lookup.3 in
    let q = slot-told log.now 0 slot c.in_ok-slot.ensures in
    let n : length s.logs ≡ 8 = c.type_inv.self in
    peeked s.counts s.logs s.arrivals.now s.at t log _ slot c.read_in_log.result (omega arith) w.0 (c.from-log.ensures ∙ w.1 0) v.0 (v.1 log) (omega arith) q.1 (take_rest log.now 12) (c.read_in_log.ensures ∙ ap (λ u. read_in_log (in_range s.counts) (u, slot)) (sym c.from-log.ensures))
