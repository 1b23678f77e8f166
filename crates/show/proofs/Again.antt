-- A trace copied into a buffer of its own length.
use Rattle.std.proofs.Common.{◌≡◌, ℕ, Bool, true, cond, List, [], ◌++◌, length, take, drop, is_ok, Decides, Result, sym, ap, ◌∙◌, arith}
use Rattle.std.proofs.lemmas.List.{append-nil, take_at, drop_all}
use Rattle.trace_file.specs.declared.faults.Uncopied.{Uncopied}
use Rattle.trace_file.specs.Copying.{copies, copied}
use Rattle.show.specs.Shown.{written_again}

pub answered : (bs buf : List ℕ) (res : Result ℕ Uncopied) → length buf ≡ length bs → res ≡ copies bs (length buf) → is_ok res ≡ written_again bs
answered bs buf res l e = ap is_ok (e ∙ ap (copies bs) l)

-- what was copied is the trace itself
pub came-out : (bs buf tgt rest : List ℕ) (n : ℕ) (ok : Bool) → length buf ≡ length bs → n ≡ length bs → ok ≡ true → tgt ≡ cond ok (copied bs buf) buf → take n (tgt ++ rest) ≡ bs
came-out bs buf tgt rest n ok l k o e =
    let none : drop (length bs) buf ≡ [] = drop_all (length bs) buf (omega arith) in
    let same : tgt ≡ bs = e ∙ (ap (λ b. cond b (copied bs buf) buf) o ∙ (ap (λ d. bs ++ d) none ∙ append-nil bs)) in
    ap (λ t. take n (t ++ rest)) same ∙ take_at bs rest n (sym k)

pub told : (bs now : List ℕ) (eq ok : Bool) → now ≡ bs → Decides eq (now ≡ bs) → ok ≡ true → ok ≡ written_again bs → eq ≡ written_again bs
told bs now eq ok e d o w = d.1 e ∙ (sym o ∙ w)
