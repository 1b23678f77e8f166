use Rattle.judging.proofs.judges.empty_book.Goals as goal

pub returns : goal.returns
returns g c = c.empty.ensures.keeps (g.P.Feed.meaning c.args._pile.now).counts.threads (g.P.Feed.laws.sound c.args._pile.now).in_range.few_threads
