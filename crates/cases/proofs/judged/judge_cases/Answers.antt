use Rattle.cases.specs.Judged.{CaseFits, IsRight}
use Rattle.cases.proofs.Listed.{one_judged, all_judged}
use Rattle.cases.proofs.judged.judge_cases.Goals as goal

pub loop-case-preserved : goal.loop-case-preserved
loop-case-preserved c = one_judged CaseFits IsRight c.args.cases.now c.loop-case.case-index _ c.loop-case.all c.in_ok-all.field-0 c.loop-case-test.true c.loop-case.invariant c.in_ok-all.ensures

pub returns : goal.returns
returns c = all_judged CaseFits IsRight c.args.cases.now c.loop-case.case-index c.loop-case.all c.loop-case-test.false c.loop-case.invariant
