-- The sites of one trace agree.
use Rattle.std.proofs.Common.{◌≡◌, ℕ, ◌<◌, true, ◌&&◌, [], ◌∷◌, length, Option, ◌∙◌, subst}
use Rattle.model.specs.declared.outcomes.Outcome.{Outcome}
use Rattle.feed.specs.Pile.{Pile, bottom_of, bottoms_records}
use Rattle.judging.specs.Sites.{TellsBottom}
use Rattle.driving.proofs.Agreement.{sites-agree}
use Rattle.sites.specs.Together.{both_agree, all_agree}

-- two that have told
pub tell-alike : (p q : Pile) → bottom_of p ≡ bottom_of q → (n : ℕ) → length (bottoms_records p) < n → (a b : Option Outcome) → TellsBottom p n a → TellsBottom q n b → both_agree a b ≡ true
tell-alike p q e n l a b s t =
    let x = s.settles l in
    let y = t.settles (subst (λ m. length m.waiting < n) e l) in
    (λ i. both_agree (x.1 i) (y.1 i)) ∙ sites-agree p q e n n x.0 y.0 (subst (TellsBottom p n) x.1 s) (subst (TellsBottom q n) y.1 t)

-- four others over the same bottom
pub four-agree : (p q r s t : Pile) → bottom_of p ≡ bottom_of q → bottom_of p ≡ bottom_of r → bottom_of p ≡ bottom_of s → bottom_of p ≡ bottom_of t → (n : ℕ) → length (bottoms_records p) < n
    → (a b c d e : Option Outcome) → TellsBottom p n a → TellsBottom q n b → TellsBottom r n c → TellsBottom s n d → TellsBottom t n e → all_agree a (b ∷ c ∷ d ∷ e ∷ []) ≡ true
four-agree p q r s t eq er es et n l a b c d e ta tb tc td te =
    λ i. tell-alike p q eq n l a b ta tb i && (tell-alike p r er n l a c ta tc i && (tell-alike p s es n l a d ta td i && (tell-alike p t et n l a e ta te i && true)))
