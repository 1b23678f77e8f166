use Rattle.std.proofs.Common.{◌≡◌, ℕ, ◌+◌, ◌-◌, ◌*◌, length, refl, ◌∙◌, arith}
use Rattle.cases.proofs.Writing.{read_again, line-is}
use Rattle.cases.proofs.judged.judged.Goals as goal

pub returns-in-Ok : goal.returns-in-Ok
returns-in-Ok c = λ f.
    let w = read_again c.args.threads c.args.records.now _ f refl in
    c.judge_file.ensures ∙ line-is c.args.threads c.args.records.now _ _ w (c.in-Ok.ensures w).1 (16 + 12 * length c.args.records.now - 0) (omega arith)

pub returns-in-Err : goal.returns-in-Err
returns-in-Err c = λ f.
    let w = read_again c.args.threads c.args.records.now _ f refl in
    let no = (c.in-Err.ensures w).0 in
    absurd (let z : ◌≡◌ {A = ℕ} 0 1 = cc in let n : ⊥ = omega arith in n)
