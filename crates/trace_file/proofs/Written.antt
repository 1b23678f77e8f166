-- What is written is read again.
use Rattle.std.proofs.Common.{length, take, drop, ap, ◌∙◌, arith}
use Rattle.std.proofs.lemmas.List.{take_at, drop_at}
use Rattle.trace_file.specs.Layout.{trace_length, trace_of}
use Rattle.trace_file.specs.Opening.{opened}
use Rattle.trace_file.specs.Laws.{WrittenIsRead}
use Rattle.trace_file.proofs.Canonical.{length-trace, granted-from-begun, appended-to-begun, trace-opens, begin_granted}

pub written-is-read : WrittenIsRead
written-is-read c r xs h w s buf room =
    let n = length xs in
    let rest = drop (trace_length n) buf in
    record {
      begin_granted = begin_granted c (length buf) r (omega arith);
      appends_granted = granted-from-begun c xs buf r h w room;
      opens = ap (λ l. opened (take (trace_length n) l)) (appended-to-begun c xs buf r h)
          ∙ (ap opened (take_at (trace_of c xs) rest (trace_length n) (length-trace c xs)) ∙ trace-opens c xs r h w s);
      behind = ap (drop (trace_length n)) (appended-to-begun c xs buf r h) ∙ drop_at (trace_of c xs) rest (trace_length n) (length-trace c xs);
    }
