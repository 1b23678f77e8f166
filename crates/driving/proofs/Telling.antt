-- What the answers tell of the bottom of the pile.
use Rattle.std.proofs.Common.{◌≡◌, ℕ, zero, suc, ◌+◌, Bool, List, [], ◌∷◌, take, Some, None, Ok, Err, Option, Result, sym, refl, ap, ◌∙◌, subst, add-zero}
use Rattle.std.specs.Result.{result_map_both}
use Rattle.driving.specs.declared.calls.Reply.{Reply}
use Rattle.driving.specs.declared.calls.Reply.TheVariants.{Step as ReplyToStep, Run as ReplyToRun, Question as ReplyToQuestion}
use Rattle.model.specs.declared.outcomes.Outcome.{Outcome}
use Rattle.feed.specs.declared.refusals.Refusal.{Refusal}
use Rattle.feed.specs.Meaning.{Meaning}
use Rattle.feed.specs.Pile.{Pile, Proper, delivered}
use Rattle.judging.specs.Standing.{Standing, at_start, advance, advance_by}
use Rattle.judging.specs.Answers.{run_told, unless_settled, question_answer}
use Rattle.judging.specs.Sites.{TellsBottom}
use Rattle.judging.proofs.Running.{stays, split}
use Rattle.judging.proofs.Bottoms.{tells-bottom}
use Rattle.driving.specs.declared.calls.Call.{Call}
use Rattle.driving.specs.declared.calls.Call.TheVariants.{Step, Run, Question}
use Rattle.driving.specs.declared.calls.Entry.{Entry}
use Rattle.driving.specs.Calls.{answer_to, asks, stands_after, replayed, asked, outcome_in, first_told, told}
use Rattle.driving.specs.OneOutcome.{OneOutcome}

-- before any outcome, a call's answer tells the outcome that then stands
answer-tells : (c : Call) (s : Standing) → s.told ≡ None → outcome_in (Some (answer_to c s)) ≡ (stands_after c s).told
answer-tells Step s e = ap (λ k. outcome_in (Some (result_map_both ReplyToStep (λ x. x) (unless_settled k (advance s).told)))) e
answer-tells (Run b) s e = ap (λ k. outcome_in (Some (result_map_both ReplyToRun (λ x. x) (unless_settled k (run_told s (advance_by b s)))))) e
answer-tells (Question r u n) s e = question-tells (question_answer s r u n) ∙ sym e
  where
    question-tells : (r : Result Bool Refusal) → outcome_in (Some (result_map_both ReplyToQuestion (λ x. x) r)) ≡ None
    question-tells (Ok b) = refl
    question-tells (Err e) = refl

one-call : (c : Call) (s : Standing) (later : Option Outcome) (o : Option Outcome) → s.told ≡ o → first_told o (first_told (outcome_in (Some (answer_to c s))) later) ≡ first_told (stands_after c s).told later
one-call c s later None e = ap (λ k. first_told k later) (answer-tells c s e)
one-call c s later (Some o) e = sym (ap (λ k. first_told k later) (ap (λ t. t.told) (stays (asks c) s o e) ∙ e))

none-later : (o : Option Outcome) → first_told o None ≡ o
none-later None = refl
none-later (Some o) = refl

-- what the answers tell is the outcome that stands
told-stands : (es : List Entry) (s : Standing) → first_told s.told (told (replayed s es)) ≡ (advance_by (asked es) s).told
told-stands [] s = none-later s.told
told-stands (e ∷ es) s =
    let t = stands_after e.call s in
    one-call e.call s (told (replayed t es)) s.told refl ∙ (told-stands es t ∙ sym (ap (λ k. k.told) (split (asks e.call) (asked es) s)))

asked-same : (es : List Entry) (s : Standing) → asked (replayed s es) ≡ asked es
asked-same [] s = refl
asked-same (e ∷ es) s = ap (λ n. asks e.call + n) (asked-same es (stands_after e.call s))

take-replayed : (k : ℕ) (es : List Entry) (s : Standing) → take k (replayed s es) ≡ replayed s (take k es)
take-replayed zero es s = refl
take-replayed (suc k) [] s = refl
take-replayed (suc k) (e ∷ es) s = ap (λ ns. record { call = e.call; answer = Some (answer_to e.call s) } ∷ ns) (take-replayed k es (stands_after e.call s))

so_far : (p : Pile) → Proper p → (es : List Entry) → TellsBottom p (asked (replayed (at_start (delivered p)) es)) (told (replayed (at_start (delivered p)) es))
so_far p w es =
    let s = at_start (delivered p) in
    subst (λ n. TellsBottom p n (told (replayed s es))) (sym (asked-same es s)) (tells-bottom p w (asked es) (told (replayed s es)) (sym (told-stands es s)))

pub one-outcome : (p : Pile) → Proper p → (m : Meaning) → m ≡ delivered p → (es ns : List Entry) → ns ≡ replayed (at_start m) es → OneOutcome p ns
one-outcome p w m e es ns q k =
    let s = at_start (delivered p) in
    let same : take k ns ≡ replayed s (take k es) = ap (take k) (q ∙ ap (λ b. replayed (at_start b) es) e) ∙ take-replayed k es s in
    subst (λ xs. TellsBottom p (asked xs) (told xs)) (sym same) (so_far p w (take k es))

-- of one call
pub of_one : (p : Pile) (c : Call) (a : Result Reply Refusal) (es : List Entry) → es ≡ record { call = c; answer = Some a } ∷ [] → OneOutcome p es → TellsBottom p (asks c) (outcome_in (Some a))
of_one p c a es e o =
    let t : TellsBottom p (asks c + 0) (first_told (outcome_in (Some a)) None) = subst (λ xs. TellsBottom p (asked (take 1 xs)) (told (take 1 xs))) e (o 1) in
    subst (TellsBottom p (asks c)) (none-later (outcome_in (Some a))) (subst (λ n. TellsBottom p n (first_told (outcome_in (Some a)) None)) (add-zero (asks c)) t)
