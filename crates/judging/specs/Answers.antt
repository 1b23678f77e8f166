-- What each call answers, from where the judge stands.
use Rattle.std.specs.Prelude.{ℕ, ◌-◌, Bool, length, Some, None, Ok, Err, Option, Result}
use Rattle.std.specs.Option.{ok_or}
use Rattle.model.specs.declared.outcomes.Outcome.{Outcome}
use Rattle.feed.specs.declared.refusals.Refusal.{Refusal}
use Rattle.feed.specs.declared.refusals.Refusal.TheVariants.{AlreadySettled, NoSuchWrite}
use Rattle.book.specs.MayRead.{may_read}
use Rattle.judging.specs.declared.answers.RunAnswer.{RunAnswer}
use Rattle.judging.specs.Standing.{Standing, advance, advance_by}

-- an answer, unless an outcome was told already
abbrev pub unless_settled : {A : Type 0} → Option Outcome → A → Result A Refusal
unless_settled None a = Ok a
unless_settled (Some o) a = Err AlreadySettled

-- the outcome that a step tells; none where it takes a record
abbrev pub step_answer : Standing → Result (Option Outcome) Refusal
step_answer s = unless_settled s.told (advance s).told

-- how many records were taken between the two
abbrev pub tally : Standing → Standing → ℕ
tally s t = length t.taken - length s.taken

-- the outcome that a run tells, none where it uses its budget up, and how many records it takes
abbrev pub run_told : Standing → Standing → RunAnswer
run_told s t = record { outcome = t.told; taken = tally s t }

abbrev pub run_answer : ℕ → Standing → Result RunAnswer Refusal
run_answer budget s = unless_settled s.told (run_told s (advance_by budget s))

-- whether r may now read the n-th write of u, where there are such threads and that write was taken
abbrev pub question_answer : Standing → ℕ → ℕ → ℕ → Result Bool Refusal
question_answer s r u n = ok_or (may_read s.left.counts.threads s.taken r u n) NoSuchWrite
