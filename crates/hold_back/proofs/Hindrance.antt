-- One of the held records hinders.
use Rattle.std.proofs.Common.{◌≡◌, ◌||◌, List, [], ◌∷◌, refl, ap}
use Rattle.std.specs.List.{list_any}
use Rattle.record.specs.declared.kinds.Record.{Record}
use Rattle.model.specs.HoldBack.{hinders, hindered}

pub any-hinders : (ys : List Record) (x : Record) → list_any (λ y. hinders y x) ys ≡ hindered ys x
any-hinders [] x = refl
any-hinders (y ∷ ys) x = ap (λ b. hinders y x || b) (any-hinders ys x)
