use Rattle.judging.proofs.Bottoms.{tells-on}
use Rattle.judging.proofs.judges.Judge.step.Goals as goal

pub returns : goal.returns
returns g c = record { exact = c.step_once.ensures.exact; refusal = c.step_once.ensures.refusal; tells = tells-on g.P.Feed.meaning c.args.self.now c.step_once.new.self 1 (λ s st. (c.step_once.ensures.exact s st).1) }
