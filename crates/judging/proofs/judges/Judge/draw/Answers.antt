use Rattle.std.proofs.Common.{Some, Ok, sym, refl, ◌∙◌, subst}
use Rattle.feed.specs.Meaning.{Asked}
use Rattle.judging.proofs.Drawing.{judged, indexed, drawn-lawful, drawn-unlawful}
use Rattle.judging.proofs.judges.Judge.draw.Goals as goal

pub returns-in-None : goal.returns-in-None
returns-in-None g c =
    let j = c.args.self.now in
    let x = c.in-Some.record in
    let m = g.P.Feed.meaning j.pile in
    let n = g.P.Feed.meaning c.next.new.self in
    let w = g.P.Feed.laws.sound j.pile in
    let a : Asked m (Ok (Some x)) n = subst (λ o. Asked m (Ok o) n) c.in-Some.is c.in_ok-record.ensures in
    record {
      same = (refl, refl);
      drawn = λ s st. drawn-lawful m n x a j.book j.told w s st (sym (judged m n x a j.book j.told w c.counts-threads.result c.counts-threads.ensures c.verdict.result c.verdict.ensures.keeps s st) ∙ c.in-None.is);
    }

pub returns-in-Some-verdict : goal.returns-in-Some-verdict
returns-in-Some-verdict g c =
    let j = c.args.self.now in
    let x = c.in-Some.record in
    let m = g.P.Feed.meaning j.pile in
    let n = g.P.Feed.meaning c.next.new.self in
    let w = g.P.Feed.laws.sound j.pile in
    let a : Asked m (Ok (Some x)) n = subst (λ o. Asked m (Ok o) n) c.in-Some.is c.in_ok-record.ensures in
    record {
      same = (refl, refl);
      drawn = λ s st. drawn-unlawful m n x a j.book j.told s c.in-Some-verdict.reason _ _ st (sym (judged m n x a j.book j.told w c.counts-threads.result c.counts-threads.ensures c.verdict.result c.verdict.ensures.keeps s st) ∙ c.in-Some-verdict.is) c.thread.ensures (indexed m n x a j.book j.told w c.thread-in-Some-verdict.result c.index.result c.thread-in-Some-verdict.ensures c.index.ensures.keeps s st);
    }
