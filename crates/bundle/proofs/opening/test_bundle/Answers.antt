use Rattle.std.proofs.Common.{true, false}
use Rattle.bundle.proofs.Opened.{opens, opens_as}
use Rattle.bundle.proofs.opening.test_bundle.Goals as goal

pub returns-then-uses_exactly : goal.returns-then-uses_exactly
returns-then-uses_exactly c =
    let bs = c.args.bytes.now in
    let k = c.in_ok-contents.contents in
    let w = c.in_ok-contents.ensures.within in
    (w.arrivals_within, opens bs k w (opens_as bs _ k true c.in_ok-contents.ensures.answer c.arrival_list-arrivals.ensures c.if-uses_exactly.ensures))

pub returns-else-uses_exactly : goal.returns-else-uses_exactly
returns-else-uses_exactly c = opens_as c.args.bytes.now _ c.in_ok-contents.contents false c.in_ok-contents.ensures.answer c.arrival_list-arrivals.ensures c.if-uses_exactly.ensures
