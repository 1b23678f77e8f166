use Rattle.std.proofs.Common.{Some, None, Ok, sym, ◌∙◌, subst}
use Rattle.model.specs.declared.outcomes.Outcome.TheVariants.{Compliant}
use Rattle.book.specs.Kept.{Kept}
use Rattle.judging.specs.Standing.{Standing, advance}
use Rattle.judging.specs.Stands.{Stands, Drawn}
use Rattle.judging.proofs.Drawing.{went_on, settled-now}
use Rattle.judging.proofs.judges.Judge.advance.Goals as goal

pub returns-in-Ok-Some-clause-exact : goal.returns-in-Ok-Some-clause-exact
returns-in-Ok-Some-clause-exact g c = λ o s st.
    let M = g.P.Feed.meaning in
    let j = c.args.self.now in
    let d = c.draw.new.self in
    let x = c.in-Ok-Some.record in
    let same = c.draw.ensures.same in
    let drawn : (s : Standing) → Stands (M j.pile) j.book j.told s → Drawn s (Ok (Some x)) (M d.pile) = λ s st. subst (λ r. Drawn s (Ok r) (M d.pile)) c.in-Ok-Some.field-0-is (subst (λ r. Drawn s r (M d.pile)) c.in-Ok-Some.is (c.draw.ensures.drawn s st)) in
    let p = went_on (M j.pile) (M d.pile) j.book c.take.new.self j.told x c.counts-threads.result o c.counts-threads.ensures (λ h k w v. c.take.ensures.keeps h (subst (λ b. Kept c.counts-threads.result.threads b h) (sym same.0) k) w v) drawn s st in
    (p.0, subst (λ t. Stands (M d.pile) c.take.new.self t (advance s)) (sym same.1) p.1)

pub returns-in-Ok-None-clause-exact : goal.returns-in-Ok-None-clause-exact
returns-in-Ok-None-clause-exact g c = λ o s st.
    let M = g.P.Feed.meaning in
    let j = c.args.self.now in
    let d = c.draw.new.self in
    let same = c.draw.ensures.same in
    let z = c.settle.ensures.stands in
    let drawn : (s : Standing) → Stands (M j.pile) j.book j.told s → Drawn s (Ok None) (M d.pile) = λ s st. subst (λ r. Drawn s (Ok r) (M d.pile)) c.in-Ok-None.field-0-is (subst (λ r. Drawn s r (M d.pile)) c.in-Ok-None.is (c.draw.ensures.drawn s st)) in
    let p = settled-now (M j.pile) (M d.pile) j.book c.settle.new.self.book j.told c.settle.new.self.told Compliant o (z.1 ∙ same.0) z.2 drawn s st in
    (c.settle.ensures.answer ∙ p.0, subst (λ q. Stands (M q) c.settle.new.self.book c.settle.new.self.told (advance s)) (sym z.0) p.1)
