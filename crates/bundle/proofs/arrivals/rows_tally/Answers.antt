use Rattle.std.proofs.Common.{eqb, ◌∙◌, rules, tests, arith}
use Rattle.std.proofs.lemmas.Iterator.{YieldsList-from_slice, YieldsList-from_zip}
use Rattle.std.proofs.lemmas.Iterator.Search.{all_from_yields_List}
use Rattle.bundle.proofs.Tallied.{rows-zipped}
use Rattle.bundle.proofs.arrivals.rows_tally.Goals as goal

pub returns : goal.returns
returns c =
    let rows = c.args.rows.now in
    let named = c.args.named.now in
    all_from_yields_List (λ p. eqb p.0.count p.1) c.all.new.self _ c.all.result c.all.ensures.ran (YieldsList-from_zip (YieldsList-from_slice rows cc) (YieldsList-from_slice named cc)) (λ x b q k. search (rules, tests))
    ∙ rows-zipped rows named (omega arith)
