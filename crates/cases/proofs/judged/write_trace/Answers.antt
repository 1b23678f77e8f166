use Rattle.std.proofs.Common.{sym, refl, ap, ◌∙◌, subst}
use Rattle.trace_file.specs.Laws.{all_appended, AllGranted}
use Rattle.cases.proofs.Writing.{granted, finished}
use Rattle.cases.proofs.judged.write_trace.Goals as goal

pub returns-in_err-append : goal.returns-in_err-append
returns-in_err-append c = λ r.
    let xs = c.args.records.now in
    let g : AllGranted c.begin.new.buf xs = subst (λ b. AllGranted b xs) (sym c.in_ok-begin.ensures.after) r.appends_granted in
    absurd (granted c.loop-record.buf xs c.loop-record.record-index _ c.loop-record-test.true c.in_err-append.field-0.0 c.in_err-append.ensures.answer (c.loop-record.invariant g).0)

pub returns : goal.returns
returns c = λ r.
    let xs = c.args.records.now in
    let e = c.in_ok-begin.ensures.after in
    let g : AllGranted c.begin.new.buf xs = subst (λ b. AllGranted b xs) (sym e) r.appends_granted in
    (refl, finished c.loop-record.buf _ xs c.loop-record.record-index c.loop-record-test.false (c.loop-record.invariant g).1 ∙ ap (λ b. all_appended b xs) e)
