use Rattle.std.proofs.Common.{◌≡◌, [], ◌∷◌, Some, Ok, sym, ap, ◌∙◌, rules}
use Rattle.std.specs.Result.{result_map_both}
use Rattle.judging.specs.Answers.{run_answer}
use Rattle.judging.specs.Standing.{at_start}
use Rattle.driving.specs.declared.calls.Call.TheVariants.{Run}
use Rattle.driving.specs.declared.calls.Reply.TheVariants.{Run as ReplyToRun}
use Rattle.driving.proofs.Telling.{of_one}
use Rattle.driving.proofs.drives.run_once.Goals as goal

pub returns-clause-one_outcome : goal.returns-clause-one_outcome
returns-clause-one_outcome g c = λ u.
    let b = c.args.budget in
    let run = c.in-Some-Ok-Run.run' in
    let q : Ok run ≡ run_answer b (at_start (g.P.Feed.meaning c.args.pile)) = search rules in
    of_one (g.P.Feed.pile c.args.pile) (Run b) (Ok (ReplyToRun run)) c.drive.new.entries (c.drive.ensures.exact ∙ ap (λ a. record { call = Run b; answer = Some (result_map_both ReplyToRun (λ x. x) a) } ∷ []) (sym q)) (c.drive.ensures.one_outcome u)
