use Rattle.std.proofs.Common.{◌≡◌, ◌+◌, ◌-◌, ◌*◌, ◌≤◌, cond, ◌++◌, length, take, drop, is_ok, ap, ◌∙◌, arith}
use Rattle.record.specs.Layout.{bytes_of}
use Rattle.trace_file.specs.Layout.{header_of}
use Rattle.trace_file.specs.Writing.{placed}
use Rattle.trace_file.proofs.Appended.{behind, room, slot-long, writable_then, whole}
use Rattle.trace_file.proofs.writing.put_record.Goals as goal

pub returns : goal.returns
returns c =
    let bs = c.args.buf.now in
    let x = c.args.record in
    let s = 12 * c.from-header.result.count in
    let n : c.from-header.result.count ≡ (header_of bs).count = ap (λ h. h.count) c.from-header.ensures in
    let p = c.requires.room in
    let long : 16 ≤ length bs = omega arith in
    let r = room bs long in
    let fits : s + 12 ≤ length (behind bs) = omega arith in
    let slot = take (s + 12 - s) (drop s (behind bs)) in
    let e = c.write_record.ensures.answer ∙ writable_then c.args.counts x (length slot) c.requires.well_made (slot-long (behind bs) s fits) in
    record {
      answer = e;
      after = whole bs _ x s long fits (c.write_record.ensures.after ∙ ap (λ r. cond (is_ok r) (bytes_of x ++ drop 12 slot) slot) e) ∙ ap (λ k. placed (16 + 12 * k) (bytes_of x) bs) n;
    }
