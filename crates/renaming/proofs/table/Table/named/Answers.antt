use Rattle.std.proofs.Common.{◌≡◌, rules, take, sym, subst, ◌==◌}
use Rattle.std.specs.List.{position}
use Rattle.renaming.specs.Tables.{IsNamed}
use Rattle.renaming.proofs.Places.{is-named}
use Rattle.renaming.proofs.table.Table.named.Goals as goal

pub returns : goal.returns
returns c =
    let s = c.args.self.now in
    let names = take s.count s.entries in
    let found : c.place_of.result ≡ position (λ x. x == c.args.n) names = search rules in
    subst (IsNamed names c.args.n) (sym found) (is-named names c.args.n s.table)
