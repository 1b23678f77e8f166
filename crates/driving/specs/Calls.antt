-- What a judge answers to a list of calls.
use Rattle.std.specs.Prelude.{ℕ, ◌+◌, List, [], ◌∷◌, Some, None, Ok, Err, Option, Result}
use Rattle.std.specs.Result.{result_map_both}
use Rattle.model.specs.declared.outcomes.Outcome.{Outcome}
use Rattle.feed.specs.declared.refusals.Refusal.{Refusal}
use Rattle.judging.specs.Standing.{Standing, advance_by}
use Rattle.judging.specs.Answers.{step_answer, run_answer, question_answer}
use Rattle.driving.specs.declared.calls.Call.{Call}
use Rattle.driving.specs.declared.calls.Call.TheVariants.{Step, Run, Question}
use Rattle.driving.specs.declared.calls.Reply.{Reply}
use Rattle.driving.specs.declared.calls.Reply.TheVariants.{Step as ReplyToStep, Run as ReplyToRun, Question as ReplyToQuestion}
use Rattle.driving.specs.declared.calls.Entry.{Entry}

-- what a judge that stands at s answers to a call
abbrev pub answer_to : Call → Standing → Result Reply Refusal
answer_to Step s = result_map_both ReplyToStep (λ e. e) (step_answer s)
answer_to (Run budget) s = result_map_both ReplyToRun (λ e. e) (run_answer budget s)
answer_to (Question r u n) s = result_map_both ReplyToQuestion (λ e. e) (question_answer s r u n)

-- how many records a call asks for at the most
abbrev pub asks : Call → ℕ
asks Step = 1
asks (Run budget) = budget
asks (Question r u n) = 0

-- where a judge that stood at s stands after the call
abbrev pub stands_after : Call → Standing → Standing
stands_after c s = advance_by (asks c) s

-- the entries with their answers, where the judge stood at s before the first call
abbrev pub replayed : Standing → List Entry → List Entry
replayed s [] = []
replayed s (e ∷ es) = record { call = e.call; answer = Some (answer_to e.call s) } ∷ replayed (stands_after e.call s) es

-- how many records the calls ask for together
abbrev pub asked : List Entry → ℕ
asked [] = 0
asked (e ∷ es) = asks e.call + asked es

-- the outcome that a reply tells, and an answer, if it tells one
abbrev pub told_by : Reply → Option Outcome
told_by (ReplyToStep o) = o
told_by (ReplyToRun a) = a.outcome
told_by (ReplyToQuestion b) = None

abbrev pub outcome_in : Option (Result Reply Refusal) → Option Outcome
outcome_in None = None
outcome_in (Some (Ok r)) = told_by r
outcome_in (Some (Err e)) = None

-- the first outcome that is there
abbrev pub first_told : Option Outcome → Option Outcome → Option Outcome
first_told (Some o) later = Some o
first_told None later = later

-- the outcome that the answers tell
abbrev pub told : List Entry → Option Outcome
told [] = None
told (e ∷ es) = first_told (outcome_in e.answer) (told es)
