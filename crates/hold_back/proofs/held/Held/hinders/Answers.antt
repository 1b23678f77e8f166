use Rattle.std.proofs.Common.{ap, ◌∙◌}
use Rattle.std.specs.List.{list_any}
use Rattle.model.specs.HoldBack.{hinders}
use Rattle.hold_back.proofs.Hindrance.{any-hinders}
use Rattle.hold_back.proofs.held.Held.hinders.Goals as goal

pub returns : goal.returns
returns c = let x = c.args.record.now in c.is_hindered.ensures ∙ (ap (λ ys. list_any (λ y. hinders y x) ys) c.as_slice.ensures.value ∙ any-hinders c.args.self.now.queue.items x)
