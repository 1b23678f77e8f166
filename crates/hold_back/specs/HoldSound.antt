-- What the laws of the hold-back relay as a feed rest on.
use Rattle.std.specs.Prelude.{◌≡◌, ℕ, Bool, true, false, cond, ◌&&◌, List, [], ◌∷◌, ◌++◌, length, is_ok, Some, None, Ok, Err, Option, Result, ◌==◌, nat_lt, refl}
use Rattle.std.proofs.Common.{sym, ap, ◌∙◌, eqb-true, eq-eqb}
use Rattle.std.proofs.lemmas.Bool.{and_parts, false≢true}
use Rattle.record.specs.declared.kinds.Counts.{Counts}
use Rattle.record.specs.declared.kinds.Record.{Record}
use Rattle.record.specs.declared.causes.Cause.{Cause}
use Rattle.record.specs.WellMade.{checked, AllWellMade}
use Rattle.model.specs.Events.{is_of}
use Rattle.model.specs.HoldBack.{hindered, spilled, stalled, held_back}
use Rattle.feed.specs.Meaning.{Meaning, WellMade}
use Rattle.feed.specs.Pile.{can_hold, deeper_ending, through, holds_back, Pile, on, delivered}
use Rattle.hold_back.specs.Holding.{all_checked, stalled_checked, same_counts, released, holding, hold_meaning}

ok-is : (r : Result (Unit {0}) Cause) → is_ok r ≡ true → r ≡ Ok tt
ok-is (Ok x) e = refl
ok-is (Err k) e = absurd (false≢true e)

pub all_made : (c : Counts) (xs : List Record) → all_checked c xs ≡ true → AllWellMade c xs
all_made c [] e = tt
all_made c (x ∷ xs) e = let p = and_parts (is_ok (checked c x)) (all_checked c xs) e in (ok-is (checked c x) p.0, all_made c xs p.1)

made-join : (c : Counts) (xs ys : List Record) → AllWellMade c xs → AllWellMade c ys → AllWellMade c (xs ++ ys)
made-join c [] ys f g = g
made-join c (x ∷ xs) ys f g = (f.0, made-join c xs ys f.1 g)

module _ (c : Counts) (h d : ℕ) where
  spilled-made : (held xs : List Record) → AllWellMade c held → ((more : List Record) → AllWellMade c more → AllWellMade c (held_back h d more xs)) → AllWellMade c (spilled d held (λ more. held_back h d more xs))
  spilled-made [] xs f next = next [] tt
  spilled-made (y ∷ held) xs f next =
      elim (nat_lt d (length (y ∷ held))) as (λ b. AllWellMade c (cond b (y ∷ held_back h d held xs) (held_back h d (y ∷ held) xs))) [
        | true ↦ (f.0, next held f.1)
        | false ↦ next (y ∷ held) f
      ]

  held-made : (held xs : List Record) → AllWellMade c held → AllWellMade c xs → AllWellMade c (held_back h d held xs)
  held-made held [] f g = f
  held-made held (x ∷ xs) f g = go (λ more k. held-made more xs k g.1) (is_of h x) (hindered held x)
    where
      go : ((more : List Record) → AllWellMade c more → AllWellMade c (held_back h d more xs)) → (b e : Bool) → AllWellMade c (cond b (spilled d (held ++ (x ∷ [])) (λ more. held_back h d more xs)) (cond e (stalled held x (held_back h d [] xs)) (x ∷ held_back h d held xs)))
      go next true e = spilled-made (held ++ (x ∷ [])) xs (made-join c held (x ∷ []) f (g.0, tt)) next
      go next false true = made-join c held (x ∷ held_back h d [] xs) f (g.0, next [] tt)
      go next false false = (g.0, next held f)

  released-made : (held : List Record) (st : Option Record) (xs : List Record) → AllWellMade c held → stalled_checked c st ≡ true → AllWellMade c xs → AllWellMade c (released h d held st xs)
  released-made held None xs f e g = held-made held xs f g
  released-made held (Some x) xs f e g = made-join c held (x ∷ held_back h d [] xs) f (ok-is (checked c x) e, held-made [] xs tt g)

pub counts_same : (a b : Counts) → same_counts a b ≡ true → a ≡ b
counts_same a b e = let p = and_parts (a.threads == b.threads) (a.addresses == b.addresses) e in λ i. record { threads = eqb-true a.threads b.threads p.0 i; addresses = eqb-true a.addresses b.addresses p.1 i }

pub same-counts : (a b : Counts) → a ≡ b → same_counts a b ≡ true
same-counts a b e = λ i. eq-eqb a.threads b.threads (ap (λ c. c.threads) e) i && eq-eqb a.addresses b.addresses (ap (λ c. c.addresses) e) i

module _ (h d : ℕ) (own : Counts) (held : List Record) (st : Option Record) (m : Meaning) where
  waiting-made : all_checked own held ≡ true → stalled_checked own st ≡ true → WellMade m → (b : Bool) → holding m.counts h d own ≡ b → AllWellMade m.counts (cond b (released h d held st m.waiting) m.waiting)
  waiting-made e f w true q =
      let s : own ≡ m.counts = counts_same own m.counts (and_parts (can_hold m.counts.threads h d) (same_counts own m.counts) q).1 in
      released-made m.counts h d held st m.waiting (all_made m.counts held (ap (λ c. all_checked c held) (sym s) ∙ e)) (ap (λ c. stalled_checked c st) (sym s) ∙ f) w.all_well_made
  waiting-made e f w false q = w.all_well_made

  -- in every state
  pub hold_sound : all_checked own held ≡ true → stalled_checked own st ≡ true → WellMade m → WellMade (hold_meaning h d own held st m)
  hold_sound e f w = record { in_range = w.in_range; all_well_made = waiting-made e f w (holding m.counts h d own) refl }

  -- while it was not asked yet
  fresh : (b : Bool) → (can_hold m.counts.threads h d && b) ≡ can_hold m.counts.threads h d → holding m.counts h d own ≡ (can_hold m.counts.threads h d && b) → held ≡ [] → st ≡ None → hold_meaning h d own held st m ≡ through (holds_back h d) m
  fresh b e q f g = λ i. record { counts = m.counts; waiting = cond ((q ∙ e) i) (released h d (f i) (g i) m.waiting) m.waiting; ending = deeper_ending m.ending }

  and-true : (a : Bool) → (a && true) ≡ a
  and-true true = refl
  and-true false = refl

  pub hold_fresh : own ≡ m.counts → held ≡ [] → st ≡ None → hold_meaning h d own held st m ≡ through (holds_back h d) m
  hold_fresh e f g = fresh true (and-true (can_hold m.counts.threads h d)) (ap (λ b. can_hold m.counts.threads h d && b) (same-counts own m.counts e)) f g

  pub hold_opens : (p : Pile) → own ≡ m.counts → held ≡ [] → st ≡ None → m ≡ delivered p → hold_meaning h d own held st m ≡ delivered (on (holds_back h d) p)
  hold_opens p e f g q = hold_fresh e f g ∙ ap (through (holds_back h d)) q
