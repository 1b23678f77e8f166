use Rattle.std.proofs.Common.{◌≡◌, true, false, is_some, None, arith, rules}
use Rattle.judging.proofs.Running.{so-more, run_settled, run-used, run-refused}
use Rattle.judging.proofs.judges.Judge.run_for.Goals as goal

pub returns-then-is_some-clause-exact : goal.returns-then-is_some-clause-exact
returns-then-is_some-clause-exact g c =
    let j = c.args.self.now in
    let told : is_some j.told ≡ true = search rules in
    λ s st. run-refused s c.args.budget (g.P.Feed.meaning j.pile) j.book j.told told st

pub loop-taken-preserved : goal.loop-taken-preserved
loop-taken-preserved g c =
    let M = g.P.Feed.meaning in
    let j = c.loop-taken.self in
    let k = c.advance-outcome.new.self in
    let r = c.advance-outcome.result in
    let i = c.loop-taken.invariant in
    let none : is_some r ≡ false = search rules in (
      search rules,
      λ s st. let p = i.1 s st in so-more s c.loop-taken.taken (M j.pile) (M k.pile) j.book k.book j.told k.told r i.0 p none (c.advance-outcome.ensures.exact i.0 _ p.0),
    )

pub returns-then-is_some-2-clause-exact : goal.returns-then-is_some-2-clause-exact
returns-then-is_some-2-clause-exact g c =
    let M = g.P.Feed.meaning in
    let j₀ = c.args.self.now in
    let j = c.loop-taken.self in
    let k = c.advance-outcome.new.self in
    let r = c.advance-outcome.result in
    let i = c.loop-taken.invariant in
    let untold : j₀.told ≡ None = search rules in
    let some : is_some r ≡ true = search rules in
    λ s st. let p = i.1 s st in run_settled s c.loop-taken.taken c.args.budget (M j₀.pile) (M j.pile) (M k.pile) j₀.book j.book k.book j₀.told j.told k.told r untold st c.loop-taken-test.true i.0 p some (c.advance-outcome.ensures.exact i.0 _ p.0)

pub returns-clause-exact : goal.returns-clause-exact
returns-clause-exact g c =
    let M = g.P.Feed.meaning in
    let j₀ = c.args.self.now in
    let j = c.loop-taken.self in
    let i = c.loop-taken.invariant in
    let untold : j₀.told ≡ None = search rules in
    let same : c.args.budget ≡ c.loop-taken.taken = omega (arith, c.loop-taken-test.false, c.loop-taken.auto.taken-end) in
    λ s st. run-used s c.loop-taken.taken c.args.budget (M j₀.pile) (M j.pile) j₀.book j.book j₀.told j.told untold st same i.0 (i.1 s st)
