-- What the outcome of a whole list tells of its records.
use Rattle.std.proofs.Common.{◌≡◌, ℕ, suc, ◌<◌, ◌≤◌, Bool, true, false, cond, ◌&&◌, eqb, ◌⊎◌, List, [], ◌∷◌, ◌++◌, reverse, Some, None, Option, sym, refl, ap, ◌∙◌, inl, inr, ⊎_elim, not-suc-le-zero, arith, eq-eqb, ne_eqb}
use mathlib.Core.List.{reverse_aux, reverse_aux-append}
use borrow.Author.Tests.{eqb-false}
use Rattle.std.proofs.lemmas.Bool.{cases_lt}
use Rattle.record.specs.declared.kinds.Record.{Record}
use Rattle.record.specs.declared.causes.Damage.{Damage}
use Rattle.record.specs.WellMade.{thread_of}
use Rattle.record.specs.Ending.{Ending, clean, damaged}
use Rattle.model.specs.declared.reasons.Reason.{Reason}
use Rattle.model.specs.declared.outcomes.Outcome.{Outcome}
use Rattle.model.specs.declared.outcomes.UnlawfulRecord.{UnlawfulRecord}
use Rattle.model.specs.declared.outcomes.Outcome.TheVariants.{Compliant, Unlawful, Damaged}
use Rattle.model.specs.Events.{count_of, Law}
use Rattle.model.specs.Lawful.{verdict, found_as, verdict_at, lawful, unlawful, absent, outcome_of, unlawful_of, outcome_behind}
use Rattle.model.specs.Tells.{AllLawful, StopsAt, Told, unchanged, OutcomeTells}

-- A record keeps its verdict as the list goes on --------------------------------------------------------------------

pub unlawful≢absent : {k : Reason} → unlawful k ≡ absent → ⊥
unlawful≢absent {k} e = let z : ◌≡◌ {A = ℕ} 0 1 = cc in omega arith

pub unlawful≢lawful : {k : Reason} → unlawful k ≡ lawful → ⊥
unlawful≢lawful {k} e = let z : ◌≡◌ {A = ℕ} 0 1 = cc in omega arith

module _ (L : Law) (T : ℕ) where
  pub not_yet : (t i : ℕ) (h : List Record) → count_of t h ≤ i → verdict_at L T t i h ≡ absent
  not_yet t i [] l = refl
  not_yet t i (x ∷ h) l = go (eqb (thread_of x) t) l (not_yet t i h)
    where
      go : (b : Bool) → cond b (suc (count_of t h)) (count_of t h) ≤ i → (count_of t h ≤ i → verdict_at L T t i h ≡ absent) → cond (b && eqb (count_of t h) i) (found_as (verdict L T h x)) (verdict_at L T t i h) ≡ absent
      go true l next = ap (λ (c : Bool). cond c (found_as (verdict L T h x)) (verdict_at L T t i h)) (ne_eqb (count_of t h) i (omega arith)) ∙ next (omega arith)
      go false l next = next l

  grows : (t : ℕ) (x : Record) (h : List Record) → count_of t h ≤ count_of t (x ∷ h)
  grows t x h = elim (eqb (thread_of x) t) as (λ b. count_of t h ≤ cond b (suc (count_of t h)) (count_of t h)) [ true ↦ omega arith | false ↦ omega arith ]

  still : (t i : ℕ) (x : Record) (h : List Record) → i < count_of t h → verdict_at L T t i (x ∷ h) ≡ verdict_at L T t i h
  still t i x h l = go (eqb (thread_of x) t)
    where
      go : (b : Bool) → cond (b && eqb (count_of t h) i) (found_as (verdict L T h x)) (verdict_at L T t i h) ≡ verdict_at L T t i h
      go true = ap (λ (c : Bool). cond c (found_as (verdict L T h x)) (verdict_at L T t i h)) (ne_eqb (count_of t h) i (omega arith))
      go false = refl

  pub still-all : (t i : ℕ) (xs h : List Record) → i < count_of t h → verdict_at L T t i (reverse_aux xs h) ≡ verdict_at L T t i h
  still-all t i [] h l = refl
  still-all t i (x ∷ xs) h l = still-all t i xs (x ∷ h) (omega (arith, grows t x h)) ∙ still t i x h l

  here : (x : Record) (h : List Record) → verdict_at L T (thread_of x) (count_of (thread_of x) h) (x ∷ h) ≡ found_as (verdict L T h x)
  here x h = λ j. cond (eq-eqb (thread_of x) (thread_of x) refl j && eq-eqb (count_of (thread_of x) h) (count_of (thread_of x) h) refl j) (found_as (verdict L T h x)) (verdict_at L T (thread_of x) (count_of (thread_of x) h) h)

  one_more : (x : Record) (h : List Record) → count_of (thread_of x) (x ∷ h) ≡ suc (count_of (thread_of x) h)
  one_more x h = ap (λ (b : Bool). cond b (suc (count_of (thread_of x) h)) (count_of (thread_of x) h)) (eq-eqb (thread_of x) (thread_of x) refl)

  lawful-more : (x : Record) (h : List Record) → verdict L T h x ≡ None → AllLawful L T h → AllLawful L T (x ∷ h)
  lawful-more x h e a t i l = go (eqb (thread_of x) t) (eqb (count_of t h) i) refl l
    where
      go : (b c : Bool) → eqb (count_of t h) i ≡ c → i < cond b (suc (count_of t h)) (count_of t h) → cond (b && c) (found_as (verdict L T h x)) (verdict_at L T t i h) ≡ lawful
      go true true q l = ap found_as e
      go true false q l = let n : count_of t h ≡ i → ⊥ = eqb-false (count_of t h) i q in a t i (⊎_elim (λ (m : i < count_of t h). m) (λ (m : count_of t h ≤ i). let z : count_of t h ≡ i = omega arith in absurd (n z)) (cases_lt i (count_of t h)))
      go false c q l = a t i l

  -- The outcome -------------------------------------------------------------------------------------------------------

  -- the list xs behind the history h stops at an unlawful record
  pub record Stopped (e : Ending) (xs h : List Record) : Type 0 where
    pub front : List Record
    pub what : Record
    pub rest : List Record
    pub reason : Reason
    pub split : xs ≡ front ++ (what ∷ rest)
    pub said : verdict L T (reverse_aux front h) what ≡ Some reason
    pub before : AllLawful L T (reverse_aux front h)
    pub comes-to : outcome_behind L T h xs e ≡ unlawful_of (thread_of what) (count_of (thread_of what) (reverse_aux front h)) reason

  abbrev Ended : Ending → List Record → List Record → Type 0
  Ended e xs h = AllLawful L T (reverse_aux xs h) × (outcome_behind L T h xs e ≡ outcome_of e)

  abbrev step : Ending → List Record → Record → List Record → Option Reason → Outcome
  step e h x xs None = outcome_behind L T (x ∷ h) xs e
  step e h x xs (Some k) = unlawful_of (thread_of x) (count_of (thread_of x) h) k

  ran : (e : Ending) (xs h : List Record) → AllLawful L T h → Ended e xs h ⊎ Stopped e xs h
  ran e [] h a = inl (a, refl)
  ran e (x ∷ xs) h a = go (ran e xs (x ∷ h)) (verdict L T h x) refl
    where
      go : (AllLawful L T (x ∷ h) → Ended e xs (x ∷ h) ⊎ Stopped e xs (x ∷ h)) → (o : Option Reason) → verdict L T h x ≡ o → Ended e (x ∷ xs) h ⊎ Stopped e (x ∷ xs) h
      go next None q =
          ⊎_elim
          (λ (n : Ended e xs (x ∷ h)). inl (n.0, ap (step e h x xs) q ∙ n.1))
          (λ (s : Stopped e xs (x ∷ h)). inr (record { front = x ∷ s.front; what = s.what; rest = s.rest; reason = s.reason; split = ap (λ (ys : List Record). x ∷ ys) s.split; said = s.said; before = s.before; comes-to = ap (step e h x xs) q ∙ s.comes-to }))
          (next (lawful-more x h q a))
      go next (Some k) q = inr (record { front = []; what = x; rest = xs; reason = k; split = refl; said = q; before = a; comes-to = ap (step e h x xs) q })

  grows_all : (t : ℕ) (xs h : List Record) → count_of t h ≤ count_of t (reverse_aux xs h)
  grows_all t [] h = omega arith
  grows_all t (x ∷ xs) h = omega (arith, grows t x h, grows_all t xs (x ∷ h))

  module _ (e : Ending) (m : List Record) (s : Stopped e m []) where
    whole : reverse m ≡ reverse_aux s.rest (s.what ∷ reverse s.front)
    whole = ap reverse s.split ∙ reverse_aux-append s.front (s.what ∷ s.rest) []

    stop-there : count_of (thread_of s.what) (reverse s.front) < count_of (thread_of s.what) (reverse m)
    stop-there = omega (arith, ap (count_of (thread_of s.what)) whole, grows_all (thread_of s.what) s.rest (s.what ∷ reverse s.front), one_more s.what (reverse s.front))

    stop-unlawful : verdict_at L T (thread_of s.what) (count_of (thread_of s.what) (reverse s.front)) (reverse m) ≡ unlawful s.reason
    stop-unlawful =
        ap (verdict_at L T (thread_of s.what) (count_of (thread_of s.what) (reverse s.front))) whole ∙ still-all (thread_of s.what) (count_of (thread_of s.what) (reverse s.front)) s.rest (s.what ∷ reverse s.front) (omega (arith, one_more s.what (reverse s.front))) ∙ here s.what (reverse s.front) ∙ ap found_as s.said

    in_front : (u j : ℕ) → j < count_of u (reverse s.front) → (j < count_of u (reverse m)) × (verdict_at L T u j (reverse m) ≡ lawful)
    in_front u j l = (
      omega (arith, ap (count_of u) whole, grows_all u (s.what ∷ s.rest) (reverse s.front)),
      ap (verdict_at L T u j) whole ∙ still-all u j (s.what ∷ s.rest) (reverse s.front) l ∙ s.before u j l,
    )

  apart : (t i : ℕ) (k : Reason) (e : Ending) → outcome_of e ≡ unlawful_of t i k → ⊥
  apart t i k clean q = let z : ◌≡◌ {A = ℕ} 0 1 = cc in omega arith
  apart t i k (damaged d) q = let z : ◌≡◌ {A = ℕ} 0 1 = cc in omega arith

  ends-clean : (e : Ending) → outcome_of e ≡ Compliant → e ≡ clean
  ends-clean clean q = refl
  ends-clean (damaged d) q = let z : ◌≡◌ {A = ℕ} 0 1 = cc in absurd (omega arith)

  ends-damaged : (e : Ending) (d : Damage) → outcome_of e ≡ Damaged d → e ≡ damaged d
  ends-damaged clean d q = let z : ◌≡◌ {A = ℕ} 0 1 = cc in absurd (omega arith)
  ends-damaged (damaged d') d q = ap damaged (same-damage d' d q)
    where
      same-damage : (a b : Damage) → Damaged a ≡ Damaged b → a ≡ b
      same-damage a b q = cc

  same-three : (a b t i : ℕ) (c k : Reason) → unlawful_of a b c ≡ unlawful_of t i k → (a ≡ t) × (b ≡ i) × (c ≡ k)
  same-three a b t i c k e = let r = same-record _ _ e in (ap (λ u. u.thread) r, ap (λ u. u.index) r, ap (λ u. u.reason) r)
    where
      same-record : (u v : UnlawfulRecord) → Unlawful u ≡ Unlawful v → u ≡ v
      same-record u v q = cc

  not-compliant : (t i : ℕ) (k : Reason) → unlawful_of t i k ≡ Compliant → ⊥
  not-compliant t i k q = let z : ◌≡◌ {A = ℕ} 0 1 = cc in omega arith

  not-damaged : (t i : ℕ) (k : Reason) (d : Damage) → unlawful_of t i k ≡ Damaged d → ⊥
  not-damaged t i k d q = let z : ◌≡◌ {A = ℕ} 0 1 = cc in omega arith

  -- What is told of b, where each record of m has its verdict from b.
  module _ (back : ℕ → ℕ) (b m : List Record) (e : Ending) (down : (t i : ℕ) → i < count_of t (reverse m) → verdict_at L T (back t) i (reverse b) ≡ verdict_at L T t i (reverse m)) (lift : AllLawful L T (reverse m) → AllLawful L T (reverse b)) (lower : AllLawful L T (reverse b) → AllLawful L T (reverse m)) where
    run : Ended e m [] ⊎ Stopped e m []
    run = ran e m [] (λ t i l. absurd (not-suc-le-zero l))

    pub told : Told L T back b m e
    told = record {
      compliant = λ q. ⊎_elim (λ (n : Ended e m []). (ends-clean e (sym n.1 ∙ q), lift n.0)) (λ (s : Stopped e m []). absurd (not-compliant _ _ _ (sym s.comes-to ∙ q))) run;
      damage = λ d q. ⊎_elim (λ (n : Ended e m []). (ends-damaged e d (sym n.1 ∙ q), lift n.0)) (λ (s : Stopped e m []). absurd (not-damaged _ _ _ d (sym s.comes-to ∙ q))) run;
      all_lawful = λ a. ⊎_elim (λ (n : Ended e m []). n.1) (λ (s : Stopped e m []). absurd (unlawful≢lawful (sym (stop-unlawful e m s) ∙ lower a _ _ (stop-there e m s)))) run;
      not_lawful = λ t i k q. ⊎_elim (λ (n : Ended e m []). absurd (apart t i k e (sym n.1 ∙ q))) (λ (s : Stopped e m []). stopped t i k s (sym s.comes-to ∙ q)) run;
      stops = λ t i k q. ⊎_elim (λ (n : Ended e m []). absurd (apart t i k e (sym n.1 ∙ q))) (λ (s : Stopped e m []). stops t i k s (sym s.comes-to ∙ q)) run;
    }
      where
        stopped : (t i : ℕ) (k : Reason) (s : Stopped e m []) → unlawful_of (thread_of s.what) (count_of (thread_of s.what) (reverse s.front)) s.reason ≡ unlawful_of t i k → verdict_at L T (back t) i (reverse b) ≡ unlawful k
        stopped t i k s q =
            let z = same-three _ _ t i s.reason k q in
            (λ j. verdict_at L T (back (sym z.0 j)) (sym z.1 j) (reverse b)) ∙ down (thread_of s.what) (count_of (thread_of s.what) (reverse s.front)) (stop-there e m s) ∙ stop-unlawful e m s ∙ ap unlawful z.2

        stops : (t i : ℕ) (k : Reason) (s : Stopped e m []) → unlawful_of (thread_of s.what) (count_of (thread_of s.what) (reverse s.front)) s.reason ≡ unlawful_of t i k → StopsAt L T back b m t i
        stops t i k s q =
            let z = same-three _ _ t i s.reason k q in
            record {
              front = s.front;
              what = s.what;
              rest = s.rest;
              split = s.split;
              of_thread = z.0;
              at_index = ap (λ (u : ℕ). count_of u (reverse s.front)) (sym z.0) ∙ z.1;
              in_front = λ u j l. let p = in_front e m s u j l in down u j p.0 ∙ p.1;
            }

pub outcome-tells : OutcomeTells
outcome-tells L T xs e = told L T unchanged xs xs e (λ t i l. refl) (λ a. a) (λ a. a)
