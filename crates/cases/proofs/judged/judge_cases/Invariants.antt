use Rattle.std.proofs.Common.{take, Decides}
use Rattle.std.specs.List.{All}
use Rattle.cases.specs.Judged.{CaseFits, IsRight}
use Rattle.cases.proofs.judged.judge_cases.Given as goal

abbrev pub invariant-loop-case : goal.invariant-loop-case
invariant-loop-case l = All CaseFits l.cases → Decides l.all (All IsRight (take l.case-index l.cases))
