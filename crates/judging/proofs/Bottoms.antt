-- A judge on an unread pile tells of the pile's bottom.
use Rattle.std.proofs.Common.{◌≡◌, ℕ, suc, ◌+◌, min, List, [], ◌∷◌, reverse, length, Some, Option, sym, refl, ap, ◌∙◌, subst, arith}
use mathlib.Core.List.{reverse_aux}
use Rattle.record.specs.declared.kinds.Record.{Record}
use Rattle.record.specs.declared.causes.Damage.{Damage}
use Rattle.record.specs.Ending.{Ending, clean, damaged}
use Rattle.model.specs.declared.outcomes.Outcome.{Outcome}
use Rattle.model.specs.declared.outcomes.Outcome.TheVariants.{Compliant, Damaged}
use Rattle.model.specs.Laws.{by_axioms}
use Rattle.model.specs.Lawful.{verdict_at, unlawful, outcome_of, unlawful_of, outcome}
use Rattle.model.specs.Tells.{AllLawful, StopsAt, Told}
use Rattle.model.proofs.Upto.{as_long, upto-rules}
use Rattle.feed.specs.Meaning.{Meaning}
use Rattle.feed.specs.Pile.{Pile, bottom, on, bottom_of, bottoms_records, delivered, relays, thread_at_bottom, deeper, deeper_ending, FoundHere, Proper}
use Rattle.feed.specs.Alike.{AlikeBy}
use Rattle.feed.proofs.Piles.{piles-keep-accounts}
use Rattle.judging.specs.declared.judges.Judge.{Judge}
use Rattle.judging.specs.At.{At, TellsOn}
use Rattle.judging.specs.Standing.{Standing, at_start, advance_by}
use Rattle.judging.specs.Sites.{bottoms_threads, BottomLawful, damage_above, TellsBottom}
use Rattle.judging.proofs.Settling.{settles}
use Rattle.judging.proofs.Running.{stays, split}

-- What is told ----------------------------------------------------------------------------------------------------------

outcome_for : Meaning → Outcome
outcome_for m = outcome by_axioms m.counts.threads m.waiting m.ending

some_same : (a b : Outcome) → Some a ≡ Some b → a ≡ b
some_same a b e = cc

-- an outcome that was told, whenever, is that of the whole list
told_is : (m : Meaning) (n : ℕ) (o : Outcome) → (advance_by n (at_start m)).told ≡ Some o → o ≡ outcome_for m
unfolding outcome_for
told_is m n o e =
    let k = suc (length m.waiting) in
    let later : (advance_by (n + k) (at_start m)).told ≡ Some o = ap (λ s. s.told) (split n k (at_start m) ∙ stays k (advance_by n (at_start m)) o e) ∙ e in
    some_same o (outcome_for m) (sym later ∙ settles m (n + k) (omega arith))

-- From the top to the bottom --------------------------------------------------------------------------------------------

same-counts : (p : Pile) → (delivered p).counts ≡ (bottom_of p).counts
same-counts (bottom m) = refl
same-counts (on r p) = same-counts p

same-threads : (p : Pile) → (delivered p).counts.threads ≡ bottoms_threads p
same-threads p = ap (λ c. c.threads) (same-counts p)

clean-above : (p : Pile) → (bottom_of p).ending ≡ clean → (delivered p).ending ≡ clean
clean-above (bottom m) e = e
clean-above (on r p) e = ap deeper_ending (clean-above p e)

one_deeper : (p : Pile) (e : Damage) (n : ℕ) → deeper (record { cause = e.cause; place = e.place; depth = min 255 n }) ≡ record { cause = e.cause; place = e.place; depth = min 255 (suc n) }
one_deeper p e n = let q : min (min 255 n + 1) 255 ≡ min 255 (suc n) = omega arith in λ i. record { cause = e.cause; place = e.place; depth = q i }

found_here : (e : Damage) → e.depth ≡ 0 → e ≡ record { cause = e.cause; place = e.place; depth = 0 }
found_here e q = λ i. record { cause = e.cause; place = e.place; depth = q i }

damaged-above : (p : Pile) (e : Damage) → Proper p → (bottom_of p).ending ≡ damaged e → (delivered p).ending ≡ damaged (damage_above p e)
damaged-above (bottom m) e w q = q ∙ ap damaged (found_here e (subst FoundHere q w.1))
damaged-above (on r p) e w q = ap deeper_ending (damaged-above p e w.1 q) ∙ ap damaged (one_deeper p e (relays p))

length-onto : (xs h : List Record) → length (reverse_aux xs h) ≡ length xs + length h
length-onto [] h = omega arith
length-onto (x ∷ xs) h = length-onto xs (x ∷ h) ∙ omega arith

length-turned : (xs : List Record) → length (reverse xs) ≡ length xs
length-turned xs = length-onto xs [] ∙ omega arith

apart : (d : Damage) → clean ≡ damaged d → ⊥
apart d e = let z : ◌≡◌ {A = ℕ} 0 1 = cc in omega arith

damage-same : (a b : Damage) → damaged a ≡ damaged b → a ≡ b
damage-same a b e = cc

-- The theorem -----------------------------------------------------------------------------------------------------------

module _ (p : Pile) (w : Proper p) where
  a : AlikeBy (delivered p).counts (thread_at_bottom p) (bottoms_records p) (delivered p).waiting
  a = piles-keep-accounts p w

  tells : Told by_axioms (delivered p).counts.threads (thread_at_bottom p) (bottoms_records p) (delivered p).waiting (delivered p).ending
  tells = upto-rules.tells (delivered p).counts a.there (thread_at_bottom p) a.address_there a.address_back (bottoms_records p) (delivered p).waiting a.upto by_axioms (delivered p).ending

  as_many : length (delivered p).waiting ≡ length (bottoms_records p)
  as_many =
      sym (length-turned (delivered p).waiting) ∙ (as_long (delivered p).counts a.there (thread_at_bottom p) a.address_there a.address_back (reverse (bottoms_records p)) (reverse (delivered p).waiting) a.upto ∙ length-turned (bottoms_records p))

  lawful-below : AllLawful by_axioms (delivered p).counts.threads (reverse (bottoms_records p)) → BottomLawful p
  lawful-below = subst (λ T. AllLawful by_axioms T (reverse (bottoms_records p))) (same-threads p)

  lawful-above : BottomLawful p → AllLawful by_axioms (delivered p).counts.threads (reverse (bottoms_records p))
  lawful-above = subst (λ T. AllLawful by_axioms T (reverse (bottoms_records p))) (sym (same-threads p))

  ends-clean : (e : Ending) → (bottom_of p).ending ≡ e → (delivered p).ending ≡ clean → (bottom_of p).ending ≡ clean
  ends-clean clean q c = q
  ends-clean (damaged d) q c = absurd (apart _ (sym c ∙ damaged-above p d w q))

  ends-damaged : (e : Ending) (d : Damage) → (bottom_of p).ending ≡ e → (delivered p).ending ≡ damaged d → (k : Damage) × ((bottom_of p).ending ≡ damaged k) × (d ≡ damage_above p k)
  ends-damaged clean d q c = absurd (apart d (sym (clean-above p q) ∙ c))
  ends-damaged (damaged k) d q c = (k, q, damage-same d (damage_above p k) (sym c ∙ damaged-above p k w q))

  module _ (n : ℕ) (told : Option Outcome) (stood : (advance_by n (at_start (delivered p))).told ≡ told) where
    is-outcome : (o : Outcome) → told ≡ Some o → outcome by_axioms (delivered p).counts.threads (delivered p).waiting (delivered p).ending ≡ o
    unfolding outcome_for
    is-outcome o e = sym (told_is (delivered p) n o (stood ∙ e))

    pub tells-bottom : TellsBottom p n told
    tells-bottom = record {
      settles = λ l. (_, sym stood ∙ settles (delivered p) n (omega (arith, as_many)));
      compliant = λ e. let t = tells.compliant (is-outcome Compliant e) in (ends-clean (bottom_of p).ending refl t.0, lawful-below t.1);
      only_compliant = λ o e q f. sym (is-outcome o e) ∙ (tells.all_lawful (lawful-above f) ∙ ap outcome_of (clean-above p q));
      names_unlawful = λ t i k e. subst (λ T. verdict_at by_axioms T (thread_at_bottom p t) i (reverse (bottoms_records p)) ≡ unlawful k) (same-threads p) (tells.not_lawful t i k (is-outcome (unlawful_of t i k) e));
      names_first = λ t i k e. subst (λ T. StopsAt by_axioms T (thread_at_bottom p) (bottoms_records p) (delivered p).waiting t i) (same-threads p) (tells.stops t i k (is-outcome (unlawful_of t i k) e));
      damage = λ d e. let t = tells.damage d (is-outcome (Damaged d) e) in (lawful-below t.1, ends-damaged (bottom_of p).ending d refl t.0);
      only_damage = λ o d e q f. sym (is-outcome o e) ∙ (tells.all_lawful (lawful-above f) ∙ ap outcome_of (damaged-above p d w q));
    }

-- One call of a judge that was opened on the pile ---------------------------------------------------------------------------

pub tells-on : {P : Type 0} (meaning : P → Meaning) (before after : Judge P) (k : ℕ) → ((s : Standing) → At meaning before s → At meaning after (advance_by k s)) → TellsOn meaning before after k
tells-on meaning before after k lead p w n st = tells-bottom p w (n + k) after.told (ap (λ s. s.told) (split n k (at_start (delivered p))) ∙ (lead (advance_by n (at_start (delivered p))) st).told_is)
