use Rattle.judging.proofs.Bottoms.{tells-on}
use Rattle.judging.proofs.judges.Judge.question.Goals as goal

pub returns : goal.returns
returns g c = record { exact = c.look_up.ensures; tells = tells-on g.P.Feed.meaning c.args.self.now c.args.self.now 0 (λ s st. st) }
