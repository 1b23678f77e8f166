use Rattle.std.proofs.Common.{refl, ◌∙◌}
use Rattle.sites.proofs.Together.{four-agree}
use Rattle.sites.proofs.comparing.visit.Goals as goal

pub returns : goal.returns
returns c = λ l.
    c.all_agree.ensures ∙ four-agree _ _ _ _ _ refl refl refl refl c.args.budget l _ _ _ _ _ (c.in_ok-bottom.ensures tt) (c.in_ok-rotated.ensures tt) (c.in_ok-tabled.ensures tt) (c.in_ok-deep.ensures tt) (c.in_ok-refused.ensures tt)
