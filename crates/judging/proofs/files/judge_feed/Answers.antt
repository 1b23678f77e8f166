use Rattle.std.proofs.Common.{sym, ◌∙◌, rules}
use Rattle.judging.proofs.Settling.{run-whole, run-some, run-tells}
use Rattle.judging.proofs.files.judge_feed.Goals as goal

pub unwrap-outcome-requires : goal.unwrap-outcome-requires
unwrap-outcome-requires g c = let e = (c.run.ensures.exact _ c.open-judge.ensures.start).0 ∙ run-whole (g.P.Feed.meaning c.args.pile) 4097 c.requires in search rules

pub unwrap-requires : goal.unwrap-requires
unwrap-requires g c =
    let e = run-some (g.P.Feed.meaning c.args.pile) 4097 c.requires c.unwrap-outcome.result (sym c.unwrap-outcome.ensures ∙ (c.run.ensures.exact _ c.open-judge.ensures.start).0) in
    search rules

pub returns : goal.returns
returns g c = c.line.ensures ∙ run-tells (g.P.Feed.meaning c.args.pile) 4097 c.requires c.unwrap-outcome.result c.unwrap.result (sym c.unwrap-outcome.ensures ∙ (c.run.ensures.exact _ c.open-judge.ensures.start).0) c.unwrap.ensures
