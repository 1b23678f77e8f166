-- A judge settles with the outcome of the list.
use Rattle.std.proofs.Common.{◌≡◌, ℕ, zero, suc, ◌+◌, ◌<◌, List, [], ◌∷◌, length, Some, None, Ok, Option, Result, sym, refl, ap, ◌∙◌, le_of_suc-le-suc, not-suc-le-zero, add-zero, arith}
use Rattle.record.specs.declared.kinds.Record.{Record}
use Rattle.model.specs.declared.reasons.Reason.{Reason}
use Rattle.model.specs.declared.outcomes.Outcome.{Outcome}
use Rattle.model.specs.declared.outcomes.Outcome.TheVariants.{Compliant, Unlawful, Damaged}
use Rattle.model.specs.Events.{count_of}
use Rattle.model.specs.Lawful.{verdict, unlawful_of, outcome_behind, outcome}
use Rattle.record.specs.WellMade.{thread_of}
use Rattle.model.specs.Laws.{by_axioms}
use Rattle.record.specs.declared.kinds.Counts.{Counts}
use Rattle.record.specs.Ending.{Ending}
use Rattle.feed.specs.Meaning.{Meaning}
use Rattle.judging.specs.Standing.{Standing, at_start, advance_by, after_record}
use Rattle.judging.specs.Answers.{tally, run_answer}
use Rattle.judging.specs.Lines.{outcome_line}
use Rattle.judging.specs.declared.answers.RunAnswer.{RunAnswer}
use Rattle.feed.specs.declared.refusals.Refusal.{Refusal}

abbrev stands : Counts → List Record → Ending → List Record → Option Outcome → Standing
stands c xs e h o = record { left = record { counts = c; waiting = xs; ending = e }; taken = h; told = o }

-- an outcome that was told stands
pub settled : (n : ℕ) (c : Counts) (xs : List Record) (e : Ending) (h : List Record) (o : Outcome) → advance_by n (stands c xs e h (Some o)) ≡ stands c xs e h (Some o)
settled zero c xs e h o = refl
settled (suc n) c xs e h o = settled n c xs e h o

-- the rest of the list behind the history of those taken
pub tells-from : (n : ℕ) (c : Counts) (xs : List Record) (e : Ending) (h : List Record) → length xs < n → (advance_by n (stands c xs e h None)).told ≡ Some (outcome_behind by_axioms c.threads h xs e)
tells-from zero c xs e h l = absurd (not-suc-le-zero l)
tells-from (suc n) c [] e h l = ap (λ s. s.told) (settled n c [] e h _)
tells-from (suc n) c (x ∷ xs) e h l = go (verdict by_axioms c.threads h x) (tells-from n c xs e (x ∷ h) (le_of_suc-le-suc l))
  where
    go : (v : Option Reason) → (advance_by n (stands c xs e (x ∷ h) None)).told ≡ Some (outcome_behind by_axioms c.threads (x ∷ h) xs e) → (advance_by n (after_record (stands c (x ∷ xs) e h None) x xs v)).told ≡ Some (elim v [ None ↦ outcome_behind by_axioms c.threads (x ∷ h) xs e | Some k ↦ unlawful_of (thread_of x) (count_of (thread_of x) h) k ])
    go None later = later
    go (Some k) later = ap (λ s. s.told) (settled n c xs e h _)

-- a judge that goes on for longer than the feed has records tells the outcome of its list
pub settles : (m : Meaning) (n : ℕ) → length m.waiting < n → (advance_by n (at_start m)).told ≡ Some (outcome by_axioms m.counts.threads m.waiting m.ending)
settles m n l = tells-from n m.counts m.waiting m.ending [] l

-- where every record is lawful, all were taken
pub takes-from : (n : ℕ) (c : Counts) (xs : List Record) (e : Ending) (h : List Record) → length xs < n → outcome_behind by_axioms c.threads h xs e ≡ Compliant → length (advance_by n (stands c xs e h None)).taken ≡ length h + length xs
takes-from zero c xs e h l q = absurd (not-suc-le-zero l)
takes-from (suc n) c [] e h l q = ap (λ s. length s.taken) (settled n c [] e h _) ∙ sym (add-zero (length h))
takes-from (suc n) c (x ∷ xs) e h l q = go (verdict by_axioms c.threads h x) q (takes-from n c xs e (x ∷ h) (le_of_suc-le-suc l))
  where
    go : (v : Option Reason) → elim v [ None ↦ outcome_behind by_axioms c.threads (x ∷ h) xs e | Some k ↦ unlawful_of (thread_of x) (count_of (thread_of x) h) k ] ≡ Compliant → (outcome_behind by_axioms c.threads (x ∷ h) xs e ≡ Compliant → length (advance_by n (stands c xs e (x ∷ h) None)).taken ≡ length (x ∷ h) + length xs) → length (advance_by n (after_record (stands c (x ∷ xs) e h None) x xs v)).taken ≡ length h + length (x ∷ xs)
    go None q later = let k = later q in omega arith
    go (Some k) q later = absurd (let z : ◌≡◌ {A = ℕ} 0 1 = cc in let f : ⊥ = omega arith in f)

-- What a run beyond the list answers ----------------------------------------------------------------------------------------

line_same : (o : Outcome) (n k : ℕ) → (o ≡ Compliant → n ≡ k) → outcome_line o n ≡ outcome_line o k
line_same Compliant n k e = ap (λ j. outcome_line Compliant j) (e refl)
line_same (Unlawful u) n k e = refl
line_same (Damaged d) n k e = refl

module _ (m : Meaning) (n : ℕ) (l : length m.waiting < n) where
  abbrev whole : RunAnswer
  whole = record { outcome = Some (outcome by_axioms m.counts.threads m.waiting m.ending); taken = tally (at_start m) (advance_by n (at_start m)) }

  of-ok : (a b : RunAnswer) → ◌≡◌ {A = Result RunAnswer Refusal} (Ok a) (Ok b) → a ≡ b
  of-ok a b e = cc

  of-some : (a b : Outcome) → Some a ≡ Some b → a ≡ b
  of-some a b e = cc

  -- the run settles with the outcome of the list
  pub run-whole : run_answer n (at_start m) ≡ Ok whole
  run-whole = ap (λ o. Ok (record { outcome = o; taken = tally (at_start m) (advance_by n (at_start m)) })) (settles m n l)

  pub run-some : (r : RunAnswer) → Ok r ≡ run_answer n (at_start m) → r.outcome ≡ Some (outcome by_axioms m.counts.threads m.waiting m.ending)
  run-some r e = ap (λ a. a.outcome) (of-ok r whole (e ∙ run-whole))

  -- and its tally is as the line has it
  pub run-tells : (r : RunAnswer) (o : Outcome) → Ok r ≡ run_answer n (at_start m) → r.outcome ≡ Some o → outcome_line o r.taken ≡ outcome_line (outcome by_axioms m.counts.threads m.waiting m.ending) (length m.waiting)
  run-tells r o e q =
      let eo = of-some o (outcome by_axioms m.counts.threads m.waiting m.ending) (sym q ∙ run-some r e) in
      let et = ap (λ a. a.taken) (of-ok r whole (e ∙ run-whole)) in
      (λ i. outcome_line (eo i) (et i)) ∙ line_same (outcome by_axioms m.counts.threads m.waiting m.ending) _ _ (λ c. let z = takes-from n m.counts m.waiting m.ending [] l c in omega arith)
