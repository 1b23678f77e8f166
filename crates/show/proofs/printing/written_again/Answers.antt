use Rattle.std.proofs.Common.{◌≡◌, length, sym, ◌∙◌, rules}
use Rattle.std.proofs.lemmas.Slice.Eq.{slice_eq-Decides}
use Rattle.show.proofs.Again.{answered, came-out, told}
use Rattle.show.proofs.printing.written_again.Goals as goal
use Rattle.show.proofs.printing.written_again.Goals.{then-is_ok, else-is_ok}
use Rattle.std.proofs.lemmas.Bool.Decides.{Decides-eqb}

pub returns : goal.returns
returns c =
    let bs = c.args.bytes.now in
    let k = c.copy_trace-copied.ensures in
    let n : c.in_ok-target.target.len ≡ length bs = search rules in
    let l : length c.as_mut_slice.result.now ≡ length bs = c.as_mut_slice.ensures.len ∙ n in
    let a = answered bs c.as_mut_slice.result.now c.copy_trace-copied.result l k.answer in
    elim c.if-is_ok.branch [
      | then-is_ok w ↦ (
          let o = sym c.is_ok.ensures.value ∙ w.if-is_ok.true in
          let v = w.as_slice.ensures.value ∙ came-out bs c.as_mut_slice.result.now c.copy_trace-copied.new.target _ _ _ l n o k.after in
          w.result-is ∙ told bs w.as_slice.result.now w.eq.result _ v (slice_eq-Decides Decides-eqb _ _ _ w.eq.ensures) o a)
      | else-is_ok w ↦ w.result-is ∙ (c.is_ok.ensures.value ∙ a)
    ]
