use Rattle.std.proofs.Common.{None, subst}
use Rattle.judging.specs.At.{At}
use Rattle.driving.specs.declared.calls.Call.TheVariants.{Step}
use Rattle.driving.specs.declared.calls.Entry.{Entry}
use Rattle.driving.proofs.Replay.{made_more, stands-more, all_made}
use Rattle.driving.proofs.Telling.{one-outcome}
use Rattle.driving.proofs.drives.make_calls.Goals as goal

pub loop-entry-preserved : goal.loop-entry-preserved
loop-entry-preserved g c = λ s st.
    let M = g.P.Feed.meaning in
    let es = c.args.entries.now in
    let ns = c.loop-entry.entries in
    let i = c.loop-entry.entry-index in
    let d : Entry = record { call = Step; answer = None } in
    let p = c.loop-entry.invariant s st in
    let q = c.answer.ensures _ p.0 in
    (subst (At M c.answer.new.judge) (stands-more es ns i s d c.loop-entry-test.true p.1) q.1, made_more es ns i s d c.answer.result c.loop-entry-test.true p.1 q.0)

pub returns : goal.returns
returns g c =
    let es = c.args.entries.now in
    record {
      exact = λ s st. all_made es c.loop-entry.entries c.loop-entry.entry-index s c.loop-entry-test.false (c.loop-entry.invariant s st).1;
      tells = λ p w m e st. one-outcome p w m e es c.loop-entry.entries (all_made es c.loop-entry.entries c.loop-entry.entry-index _ c.loop-entry-test.false (c.loop-entry.invariant _ st).1);
    }
