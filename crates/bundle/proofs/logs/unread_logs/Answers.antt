use Rattle.std.proofs.Common.{rules, ◌∙◌, sym, arith}
use Rattle.bundle.specs.Reading.{log_bytes, bytes_of}
use Rattle.bundle.specs.declared.layout.Row.{Row}
use Rattle.bundle.proofs.Arrays.{map-at, maps-alike}
use Rattle.bundle.proofs.logs.unread_logs.Goals as goal

pub returns : goal.returns
returns c =
    let bs = c.args.bytes.now in
    let rows = c.args.rows.now in
    let none : Row = record { offset = 0; count = 0 } in
    let w = c.map.ensures.items in
    maps-alike bytes_of (log_bytes bs) rows c.map.result (c.told-rows ∙ sym w.long) none c.args.bytes (λ k h. map-at _ _ bytes_of (log_bytes bs) (λ x y q v. search (rules, v)) rows c.map.result 0 8 w.each k k (omega arith) (omega arith) none c.args.bytes)
