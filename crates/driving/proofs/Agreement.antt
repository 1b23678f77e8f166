-- Two sites come to the same.
use Rattle.std.proofs.Common.{◌≡◌, ℕ, true, ◌&&◌, reverse, Some, sym, refl, ap, ◌∙◌, subst, arith, eq-eqb}
use Rattle.record.specs.declared.causes.Damage.{Damage}
use Rattle.record.specs.Ending.{Ending, clean, damaged}
use Rattle.record.specs.Numbers.{cause_number}
use Rattle.model.specs.declared.outcomes.UnlawfulRecord.{UnlawfulRecord}
use Rattle.model.specs.declared.outcomes.Outcome.{Outcome}
use Rattle.model.specs.declared.outcomes.Outcome.TheVariants.{Compliant, Unlawful, Damaged}
use Rattle.model.specs.Laws.{by_axioms}
use Rattle.model.specs.Tells.{AllLawful}
use Rattle.feed.specs.Meaning.{Meaning}
use Rattle.feed.specs.Pile.{Pile, bottom_of}
use Rattle.judging.specs.Sites.{BottomLawful, damage_above, TellsBottom}
use Rattle.driving.specs.Agreeing.{agreeing, SitesAgree}

lawful-same : (p q : Pile) → bottom_of p ≡ bottom_of q → BottomLawful p → BottomLawful q
lawful-same p q e = subst (λ (m : Meaning). AllLawful by_axioms m.counts.threads (reverse m.waiting)) e

-- all lawful: what either tells goes by the ending alone
by-ending : (p : Pile) (n : ℕ) (a : Outcome) → TellsBottom p n (Some a) → BottomLawful p → (e : Ending) → (bottom_of p).ending ≡ e → (a ≡ Compliant → ⊥) → (d : Damage) × ((bottom_of p).ending ≡ damaged d) × (a ≡ Damaged (damage_above p d))
by-ending p n a t f clean e other = absurd (other (t.only_compliant a refl e f))
by-ending p n a t f (damaged d) e other = (d, e, t.only_damage a d refl e f)

same_place : (p q : Pile) (c d : Damage) → c ≡ d → agreeing (Damaged (damage_above p c)) (Damaged (damage_above q d)) ≡ true
same_place p q c d e = λ i. eq-eqb (cause_number c.cause) (cause_number d.cause) (ap (λ k. cause_number k.cause) e) i && eq-eqb c.place d.place (ap (λ k. k.place) e) i

damage-same : (a b : Damage) → damaged a ≡ damaged b → a ≡ b
damage-same a b e = cc

unlawful-compliant : (u : UnlawfulRecord) → Unlawful u ≡ Compliant → ⊥
unlawful-compliant u e = let z : ◌≡◌ {A = ℕ} 0 1 = cc in omega arith

unlawful-damaged : (u : UnlawfulRecord) (d : Damage) → Unlawful u ≡ Damaged d → ⊥
unlawful-damaged u d e = let z : ◌≡◌ {A = ℕ} 0 1 = cc in omega arith

-- an unlawful outcome cannot stand where all is lawful
not-all-lawful : (p : Pile) (n : ℕ) (u : UnlawfulRecord) → TellsBottom p n (Some (Unlawful u)) → BottomLawful p → ⊥
not-all-lawful p n u s f = let r = by-ending p n (Unlawful u) s f (bottom_of p).ending refl (unlawful-compliant u) in unlawful-damaged u _ r.2

module _ (p q : Pile) (e : bottom_of p ≡ bottom_of q) (n k : ℕ) where
  compliant-both : (b : Outcome) → TellsBottom p n (Some Compliant) → TellsBottom q k (Some b) → agreeing Compliant b ≡ true
  compliant-both b s t = let c = s.compliant refl in ap (agreeing Compliant) (t.only_compliant b refl (sym (ap (λ m. m.ending) e) ∙ c.0) (lawful-same p q e c.1))

  damaged-both : (c : Damage) (b : Outcome) → TellsBottom p n (Some (Damaged c)) → TellsBottom q k (Some b) → agreeing (Damaged c) b ≡ true
  damaged-both c b s t =
      let f = s.damage c refl in
      let d = f.1.0 in
      (λ i. agreeing (Damaged (f.1.2 i)) (t.only_damage b d refl (sym (ap (λ m. m.ending) e) ∙ f.1.1) (lawful-same p q e f.0) i)) ∙ same_place p q d d refl

  unlawful-both : (u : UnlawfulRecord) (b : Outcome) → TellsBottom p n (Some (Unlawful u)) → TellsBottom q k (Some b) → agreeing (Unlawful u) b ≡ true
  unlawful-both u Compliant s t = absurd (not-all-lawful p n u s (lawful-same q p (sym e) (t.compliant refl).1))
  unlawful-both u (Unlawful v) s t = refl
  unlawful-both u (Damaged d) s t = absurd (not-all-lawful p n u s (lawful-same q p (sym e) (t.damage d refl).0))

pub sites-agree : SitesAgree
sites-agree p q e n k Compliant b s t = compliant-both p q e n k b s t
sites-agree p q e n k (Unlawful u) b s t = unlawful-both p q e n k u b s t
sites-agree p q e n k (Damaged c) b s t = damaged-both p q e n k c b s t
