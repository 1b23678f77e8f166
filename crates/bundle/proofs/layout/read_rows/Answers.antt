use Rattle.std.proofs.Common.{rules, arith}
use Rattle.std.proofs.lemmas.List.FromFn.{fill_by_all}
use Rattle.bundle.specs.declared.layout.Row.{Row}
use Rattle.bundle.specs.Layout.{row_of}
use Rattle.bundle.proofs.Arrays.{from_fn-at}
use Rattle.bundle.proofs.layout.read_rows.Goals as goal

pub returns : goal.returns
returns c =
    let bs = c.args.bytes.now in
    let none : Row = record { offset = 0; count = 0 } in
    let w = c.from_fn.ensures.items in
    fill_by_all (row_of bs) c.from_fn.result 8 none w.long (λ k h. from_fn-at _ _ (row_of bs) (λ i y q v. search (rules, v)) c.from_fn.result 0 8 w.each k k h (omega arith) none)
