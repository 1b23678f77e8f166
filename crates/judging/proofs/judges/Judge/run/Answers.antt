use Rattle.judging.proofs.Bottoms.{tells-on}
use Rattle.judging.proofs.judges.Judge.run.Goals as goal

pub returns : goal.returns
returns g c = record { exact = c.run_for.ensures.exact; refusal = c.run_for.ensures.refusal; tells = tells-on g.P.Feed.meaning c.args.self.now c.run_for.new.self c.args.budget (λ s st. (c.run_for.ensures.exact s st).1) }
