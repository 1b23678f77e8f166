use Rattle.std.proofs.Common.{length, sym, ◌∙◌, subst, arith}
use Rattle.trace_file.specs.Sound.{counts_in_range, file_sound}
use Rattle.trace_file.specs.contracts.reading.TraceFileFeed.TheImpl.{ghosts as feed_of}
use Rattle.feed.specs.Meaning.{CountsInRange}
use Rattle.trace_file.proofs.Tested.{never}
use Rattle.trace_file.proofs.Canonical.{begin_granted}
use Rattle.trace_file.proofs.Copied.{clean-source, copy-granted, copy-bytes, copy-answer}
use Rattle.trace_file.proofs.copying.copy_trace.Goals as goal

pub append_all-requires : goal.append_all-requires
append_all-requires c =
    let src = c.args.source.now in
    let tgt = c.args.target.now in
    let f = c.in_ok-file.file in
    let s = clean-source src tgt (feed_of.meaning c.in_ok-open.field-0) (feed_of.meaning f) (λ k. (c.type_inv.source k).fits) c.in_ok-open.ensures.answer _ c.in_ok-read_through.ensures c.in_ok-file.ensures.answer (file_sound f.counts f.records.now f.place) (omega arith) (omega arith) in
    record { granted = copy-granted src tgt (feed_of.meaning f) c.counts.result _ s c.counts.ensures c.in_ok-begin.ensures.after; undamaged = s.undamaged }

pub returns : goal.returns
returns c =
    let src = c.args.source.now in
    let tgt = c.args.target.now in
    let f = c.in_ok-file.file in
    let s = clean-source src tgt (feed_of.meaning c.in_ok-open.field-0) (feed_of.meaning f) (λ k. (c.type_inv.source k).fits) c.in_ok-open.ensures.answer _ c.in_ok-read_through.ensures c.in_ok-file.ensures.answer (file_sound f.counts f.records.now f.place) (omega arith) (omega arith) in
    record {
      answer = copy-answer src tgt (feed_of.meaning f) s;
      after = c.in_ok-append_all.ensures.after ∙ copy-bytes src tgt (feed_of.meaning f) c.counts.result _ s c.counts.ensures c.in_ok-begin.ensures.after;
    }

pub returns-in_err-begin-clause-answer : goal.returns-in_err-begin-clause-answer
returns-in_err-begin-clause-answer c =
    let r = subst CountsInRange (sym c.counts.ensures) (counts_in_range c.in_ok-file.file.counts) in
    absurd (never c.in_err-begin.field-0.0 16 (c.in_err-begin.ensures.answer ∙ begin_granted c.counts.result (length c.args.target.now) r (omega arith)))
