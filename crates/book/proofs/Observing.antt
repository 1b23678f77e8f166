-- What a view keeps, as its reader observes more and as the other thread goes on.
use Rattle.std.proofs.Common.{◌≡◌, ℕ, zero, suc, ◌+◌, ◌-◌, ◌<◌, ◌≤◌, max, Bool, true, false, cond, ◌&&◌, ◌||◌, eqb, ltb, leb, ◌≢◌, List, [], ◌∷◌, ◌++◌, length, get_or, drop, sym, refl, ap, ◌∙◌, subst, ⊎_elim, add-one, arith, length-append, length-set, drop-cons, get_or-set_other, get_or-set_same, ltb-false, ltb-true, le-ltb, lt-ltb, eq-eqb, ne_eqb, eqb-true, le-leb}
use mathlib.Core.Bool.{false≢true, and-true, and-false, or-false}
use borrow.Author.Tests.{lt-leb, eqb-false}
use Rattle.std.proofs.lemmas.List.{drop_all}
use Rattle.std.proofs.lemmas.Bool.{cases_lt, cases_order, and_parts, and_from, or_cases, or_left, or_right}
use Rattle.record.specs.declared.kinds.Record.{Record}
use Rattle.model.specs.Places.{at_place, is_at, any_below, any_of, how_many}
use Rattle.model.specs.Events.{is_write, is_write_to, is_event, address_of, Each, precedes, covered, written_to, written_behind}
use Rattle.model.specs.Laws.{first_edition as E}
use Rattle.model.specs.Rank.{rank, top_seen, top_covered}
use Rattle.model.proofs.Places.{AllInside, at-grown, at-past, any_same, covered-grown}
use Rattle.model.proofs.Renamed.{bool_same, any-in, any_out}
use Rattle.model.proofs.Rank.{back, below-max, by-top, write-event, at-event, at-write-to, reached}
use Rattle.book.specs.declared.pages.Written.{Written}
use Rattle.book.specs.declared.views.View.{View}
use Rattle.book.specs.Pages.{write_at}
use Rattle.book.specs.Views.{raised, passing}
use Rattle.book.specs.Kept.{up_to, last_to, written_at, ViewKept}
use Rattle.book.proofs.Numbers.{is-inside, count-end, up_to-grown, up_to-end, up_to-less, up_to-ltb, up_to-same, up_to-order, placed, rank-grown}

-- places of events
abbrev pub Events : List Record → List ℕ → Type 0
Events xs seen = Each (is_at (is_event E) xs) seen

-- numbers that the same numbers are below are the same
pub same-below : (a b : ℕ) → ((n : ℕ) → ltb n a ≡ ltb n b) → a ≡ b
same-below a b h =
    ⊎_elim
    (λ (l : a < b). absurd (omega (arith, ltb-true a a (h a ∙ lt-ltb a b l))))
    (λ (l : b ≤ a). ⊎_elim (λ (m : b < a). absurd (omega (arith, ltb-true b b (sym (h b) ∙ lt-ltb b a m)))) (λ (m : a ≤ b). omega arith) (cases_lt b a))
    (cases_lt a b)

pub to-parts : (xs : List Record) (a k : ℕ) → is_at (is_write_to a) xs k ≡ true → (is_at is_write xs k ≡ true) × (at_place 0 address_of xs k ≡ a)
to-parts xs a k e = let p = and_parts (is_at is_write xs k) (eqb (at_place 0 address_of xs k) a) (sym (at-write-to a xs k) ∙ e) in (p.0, eqb-true (at_place 0 address_of xs k) a p.1)

pub to-from : (xs : List Record) (a k : ℕ) → is_at is_write xs k ≡ true → at_place 0 address_of xs k ≡ a → is_at (is_write_to a) xs k ≡ true
to-from xs a k e q = at-write-to a xs k ∙ (λ i. e i && eq-eqb (at_place 0 address_of xs k) a q i)

if-so : (p q b c : Bool) → (b ≡ true → p ≡ q) → (p && (b && c)) ≡ (q && (b && c))
if-so p q true c h = λ i. h refl i && c
if-so p q false c h = and-false p ∙ sym (and-false q)

-- Largest numbers of writes of a set -------------------------------------------------------------------------------

-- a write to address a whose place is such has a measure of n or more
abbrev pub attains : List Record → (ℕ → Bool) → (ℕ → ℕ) → ℕ → ℕ → Bool
attains xs S f a n = any_below (length xs) (λ k. S k && (is_at (is_write_to a) xs k && leb n (f k)))

pub at-below : (n m : ℕ) → leb n m ≡ ltb n (suc m)
at-below n m = ⊎_elim (λ (l : n < suc m). le-leb n m (omega arith) ∙ sym (lt-ltb n (suc m) l)) (λ (l : suc m ≤ n). lt-leb n m l ∙ sym (le-ltb n (suc m) l)) (cases_lt n (suc m))

and-three : (a b c : Bool) → (a && (b && c)) ≡ (a && b && c)
and-three true b c = refl
and-three false b c = refl

module _ (xs : List Record) (f : ℕ → ℕ) where
  -- the set matters at writes alone
  pub attains-same : (S R : ℕ → Bool) (a n : ℕ) → ((k : ℕ) → is_at is_write xs k ≡ true → S k ≡ R k) → attains xs S f a n ≡ attains xs R f a n
  attains-same S R a n h = any_same (length xs) _ _ (λ k l. if-so (S k) (R k) (is_at (is_write_to a) xs k) (leb n (f k)) (λ e. h k (to-parts xs a k e).0))

  -- one more write in the set
  pub attains-more : (S : ℕ → Bool) (a n w : ℕ) → w < length xs → attains xs (λ k. S k || eqb k w) f a n ≡ (attains xs S f a n || (is_at (is_write_to a) xs w && leb n (f w)))
  attains-more S a n w l = bool_same _ _ there back-again
    where
      there : attains xs (λ k. S k || eqb k w) f a n ≡ true → (attains xs S f a n || (is_at (is_write_to a) xs w && leb n (f w))) ≡ true
      there e =
          let r = any_out (length xs) (λ k. (S k || eqb k w) && (is_at (is_write_to a) xs k && leb n (f k))) e in
          let p = and_parts (S r.0 || eqb r.0 w) (is_at (is_write_to a) xs r.0 && leb n (f r.0)) r.2 in
          ⊎_elim
          (λ (s : S r.0 ≡ true). or_left _ _ (any-in (length xs) (λ k. S k && (is_at (is_write_to a) xs k && leb n (f k))) r.0 r.1 (and_from (S r.0) _ s p.1)))
          (λ (s : eqb r.0 w ≡ true). or_right (attains xs S f a n) (is_at (is_write_to a) xs w && leb n (f w)) (ap (λ (k : ℕ). is_at (is_write_to a) xs k && leb n (f k)) (sym (eqb-true r.0 w s)) ∙ p.1))
          (or_cases (S r.0) (eqb r.0 w) p.0)

      back-again : (attains xs S f a n || (is_at (is_write_to a) xs w && leb n (f w))) ≡ true → attains xs (λ k. S k || eqb k w) f a n ≡ true
      back-again e =
          ⊎_elim
          (λ (s : attains xs S f a n ≡ true).
          let r = any_out (length xs) (λ k. S k && (is_at (is_write_to a) xs k && leb n (f k))) s in
          let p = and_parts (S r.0) (is_at (is_write_to a) xs r.0 && leb n (f r.0)) r.2 in
          any-in (length xs) (λ k. (S k || eqb k w) && (is_at (is_write_to a) xs k && leb n (f k))) r.0 r.1 (and_from (S r.0 || eqb r.0 w) _ (or_left (S r.0) (eqb r.0 w) p.0) p.1))
          (λ (s : (is_at (is_write_to a) xs w && leb n (f w)) ≡ true). any-in (length xs) (λ k. (S k || eqb k w) && (is_at (is_write_to a) xs k && leb n (f k))) w l (and_from (S w || eqb w w) _ (or_right (S w) (eqb w w) (eq-eqb w w refl)) s))
          (or_cases (attains xs S f a n) (is_at (is_write_to a) xs w && leb n (f w)) e)

  -- the table's number for each address below 64 is one more than the largest
  abbrev pub Tabled : (ℕ → Bool) → List ℕ → Type 0
  Tabled S cov = (a n : ℕ) → a < 64 → attains xs S f a n ≡ ltb n (get_or cov a 0)

  pub tabled-same : (S R : ℕ → Bool) (cov : List ℕ) → ((k : ℕ) → is_at is_write xs k ≡ true → S k ≡ R k) → Tabled S cov → Tabled R cov
  tabled-same S R cov h t a n l = sym (attains-same S R a n h) ∙ t a n l

  -- one more write in the set, and its number in the table
  pub tabled-more : (S : ℕ → Bool) (cov : List ℕ) (w : ℕ) → is_at is_write xs w ≡ true → length cov ≡ 64 → Tabled S cov → Tabled (λ k. S k || eqb k w) (raised cov (at_place 0 address_of xs w) (suc (f w)))
  tabled-more S cov w e room t a n l =
      attains-more S a n w (is-inside is_write xs w e) ∙ (λ i. t a n l i || (is_at (is_write_to a) xs w && leb n (f w))) ∙ go (at_place 0 address_of xs w) refl (eqb (at_place 0 address_of xs w) a) refl
    where
      go : (b : ℕ) → at_place 0 address_of xs w ≡ b → (c : Bool) → eqb b a ≡ c → (ltb n (get_or cov a 0) || (is_at (is_write_to a) xs w && leb n (f w))) ≡ ltb n (get_or (raised cov b (suc (f w))) a 0)
      go b q true d =
          let s : b ≡ a = eqb-true b a d in
          let here : a < length cov = omega arith in
          (λ i. ltb n (get_or cov a 0) || (to-from xs a w e (q ∙ s) i && at-below n (f w) i))
          ∙ below-max n (get_or cov a 0) (suc (f w))
          ∙ ap (λ (m : ℕ). ltb n m) (sym (get_or-set_same cov a (max (get_or cov a 0) (suc (f w))) 0 here))
          ∙ ap (λ (x : ℕ). ltb n (get_or (raised cov x (suc (f w))) a 0)) (sym s)
      go b q false d =
          let ne : a ≢ b = λ z. eqb-false b a d (sym z) in
          (λ i. ltb n (get_or cov a 0) || (at-write-to a xs w i && leb n (f w)))
          ∙ (λ i. ltb n (get_or cov a 0) || (e i && eqb (q i) a && leb n (f w)))
          ∙ (λ i. ltb n (get_or cov a 0) || (d i && leb n (f w)))
          ∙ or-false (ltb n (get_or cov a 0))
          ∙ ap (λ (m : ℕ). ltb n m) (sym (get_or-set_other cov b a (max (get_or cov b 0) (suc (f w))) 0 ne))

-- a table's numbers are the largest, each counted one higher, exactly if the table is right for every number below them
module _ (xs : List Record) (f : ℕ → ℕ) (S : ℕ → Bool) (tops : ℕ → ℕ → ℕ) (none : (a : ℕ) → tops a 0 ≡ 0) (more : (a k : ℕ) → tops a (suc k) ≡ max (cond (S k && is_at (is_write_to a) xs k) (suc (f k)) 0) (tops a k)) (cov : List ℕ) where
  attains-top : (a n : ℕ) → attains xs S f a n ≡ ltb n (tops a (length xs))
  attains-top a n =
      any_same (length xs) _ _ (λ k l. and-three (S k) (is_at (is_write_to a) xs k) (leb n (f k)) ∙ ap (λ (b : Bool). S k && is_at (is_write_to a) xs k && b) (at-below n (f k)))
      ∙ reached (λ k. S k && is_at (is_write_to a) xs k) f n (length xs) (tops a) (none a) (more a)

  pub tabled-from : ((a : ℕ) → a < 64 → get_or cov a 0 ≡ tops a (length xs)) → Tabled xs f S cov
  tabled-from h a n l = attains-top a n ∙ ap (ltb n) (sym (h a l))

  pub tabled-to : Tabled xs f S cov → (a : ℕ) → a < 64 → get_or cov a 0 ≡ tops a (length xs)
  tabled-to t a l = same-below _ _ (λ n. sym (t a n l) ∙ attains-top a n)

pub covered-from : (xs : List Record) (seen : List ℕ) (cov : List ℕ) → ((a : ℕ) → a < 64 → get_or cov a 0 ≡ top_covered E xs seen a (length xs)) → Tabled xs (rank E xs) (covered E xs seen) cov
covered-from xs seen cov = tabled-from xs (rank E xs) (covered E xs seen) (top_covered E xs seen) (λ a. refl) (λ a k. refl) cov

pub covered-to : (xs : List Record) (seen : List ℕ) (cov : List ℕ) → Tabled xs (rank E xs) (covered E xs seen) cov → (a : ℕ) → a < 64 → get_or cov a 0 ≡ top_covered E xs seen a (length xs)
covered-to xs seen cov = tabled-to xs (rank E xs) (covered E xs seen) (top_covered E xs seen) (λ a. refl) (λ a k. refl) cov

pub lasts-from : (xs : List Record) (cov : List ℕ) → ((a : ℕ) → a < 64 → get_or cov a 0 ≡ last_to xs a (length xs)) → Tabled xs (up_to is_write xs) (λ k. true) cov
lasts-from xs cov = tabled-from xs (up_to is_write xs) (λ k. true) (last_to xs) (λ a. refl) (λ a k. refl) cov

pub room-raised : (cov : List ℕ) (a m : ℕ) → length (raised cov a m) ≡ length cov
room-raised cov a m = length-set cov a _

-- Passing over writes ----------------------------------------------------------------------------------------------

-- the list ws has the writes of xs, in order
abbrev pub Listing : List Record → List Written → Type 0
Listing xs ws = (k : ℕ) → is_at is_write xs k ≡ true → write_at ws (up_to is_write xs k) ≡ written_at xs k

-- of the set S and of what the cursor has passed the table is right
abbrev pub Sets : List Record → (ℕ → Bool) → View → Type 0
Sets xs S v = Tabled xs (rank E xs) (λ k. S k || ltb (up_to is_write xs k) v.passed) v.covered

pub record Going (xs : List Record) (S : ℕ → Bool) (tp ρ : ℕ) (v : View) : Type 0 where
  pub room : length v.covered ≡ 64
  pub within : v.passed ≤ how_many is_write xs
  pub under : (k : ℕ) → is_at is_write xs k ≡ true → up_to is_write xs k < v.passed → rank E xs k < max ρ tp
  pub over : (k : ℕ) → is_at is_write xs k ≡ true → v.passed ≤ up_to is_write xs k → tp ≤ rank E xs k
  pub table : Sets xs S v

pub record Gone (xs : List Record) (S : ℕ → Bool) (tp ρ : ℕ) (v : View) : Type 0 where
  pub room : length v.covered ≡ 64
  pub within : v.passed ≤ how_many is_write xs
  pub passed : (k : ℕ) → is_at is_write xs k ≡ true → ltb (up_to is_write xs k) v.passed ≡ ltb (rank E xs k) (max ρ tp)
  pub table : Sets xs S v

or_swap : (s a c b : Bool) → (a || c) ≡ b → (s || a || c) ≡ (s || b)
or_swap true a c b h = refl
or_swap false a c b h = h

module _ (xs : List Record) (ws : List Written) (long : length ws ≡ how_many is_write xs) (same : Listing xs ws) (S : ℕ → Bool) (tp ρ : ℕ) where
  finish : (v : View) → Going xs S tp ρ v → ((k : ℕ) → is_at is_write xs k ≡ true → v.passed ≤ up_to is_write xs k → ρ ≤ rank E xs k) → Gone xs S tp ρ v
  finish v g stop = record {
    room = g.room;
    within = g.within;
    passed = λ k e. ⊎_elim
        (λ (l : up_to is_write xs k < v.passed). lt-ltb _ _ l ∙ sym (lt-ltb _ _ (g.under k e l)))
        (λ (l : v.passed ≤ up_to is_write xs k). le-ltb _ _ l ∙ sym (le-ltb _ _ (omega (arith, g.over k e l, stop k e l))))
        (cases_lt (up_to is_write xs k) v.passed);
    table = g.table;
  }

  one_more : (i w : ℕ) → is_at is_write xs w ≡ true → up_to is_write xs w ≡ i → (k : ℕ) → is_at is_write xs k ≡ true → (ltb (up_to is_write xs k) i || eqb k w) ≡ ltb (up_to is_write xs k) (i + 1)
  one_more i w e q k f =
      ⊎_elim
      (λ (s : up_to is_write xs k ≡ i). (λ j. le-ltb (up_to is_write xs k) i (omega arith) j || eq-eqb k w (up_to-same is_write xs k w f e (s ∙ sym q)) j) ∙ sym (lt-ltb _ (i + 1) (omega arith)))
      (⊎_elim
      (λ (l : up_to is_write xs k < i). (λ j. lt-ltb (up_to is_write xs k) i l j || eqb k w) ∙ sym (lt-ltb _ (i + 1) (omega arith)))
      (λ (l : i < up_to is_write xs k). (λ j. le-ltb (up_to is_write xs k) i (omega arith) j || ne_eqb k w (λ z. let y = ap (up_to is_write xs) z in omega arith) j) ∙ sym (le-ltb _ (i + 1) (omega arith))))
      (cases_order (up_to is_write xs k) i)

  abbrev further : View → ℕ → View
  further v w = record { passed = v.passed + 1; covered = raised v.covered (at_place 0 address_of xs w) (suc (rank E xs w)) }

  go_on : (v : View) (w : ℕ) → is_at is_write xs w ≡ true → up_to is_write xs w ≡ v.passed → rank E xs w < ρ → Going xs S tp ρ v → Going xs S tp ρ (further v w)
  go_on v w e q l g = record {
    room = room-raised v.covered (at_place 0 address_of xs w) (suc (rank E xs w)) ∙ g.room;
    within = omega (arith, up_to-less is_write xs w e);
    under = λ k f m. ⊎_elim
        (λ (s : up_to is_write xs k ≡ v.passed). omega (arith, ap (rank E xs) (up_to-same is_write xs k w f e (s ∙ sym q))))
        (⊎_elim (λ (y : up_to is_write xs k < v.passed). g.under k f y) (λ (y : v.passed < up_to is_write xs k). absurd (omega arith)))
        (cases_order (up_to is_write xs k) v.passed);
    over = λ k f m. g.over k f (omega arith);
    table = tabled-same xs (rank E xs) (λ k. S k || ltb (up_to is_write xs k) v.passed || eqb k w) (λ k. S k || ltb (up_to is_write xs k) (v.passed + 1)) _
        (λ k f. or_swap (S k) (ltb (up_to is_write xs k) v.passed) (eqb k w) _ (one_more v.passed w e q k f))
        (tabled-more xs (rank E xs) (λ k. S k || ltb (up_to is_write xs k) v.passed) v.covered w e g.room g.table);
  }

  pub pass : (d : ℕ) (v : View) → v.passed + d ≡ how_many is_write xs → Going xs S tp ρ v → Gone xs S tp ρ (passing (suc ρ) (drop v.passed ws) v)
  pass zero v q g =
      let e = drop_all v.passed ws (omega arith) in
      subst (λ (ys : List Written). Gone xs S tp ρ (passing (suc ρ) ys v)) (sym e)
      (finish v g (λ k f l. absurd (let z = up_to-less is_write xs k f in omega arith)))
  pass (suc d) v q g =
      let r = placed is_write xs v.passed (omega arith) in
      let lt : v.passed < length ws = omega arith in
      subst (λ (ys : List Written). Gone xs S tp ρ (passing (suc ρ) ys v)) (sym (drop-cons ws v.passed (record { address = 0; value = 0; rank = 0 }) lt))
      (subst (λ (w : Written). Gone xs S tp ρ (passing (suc ρ) (w ∷ drop (suc v.passed) ws) v)) (sym (ap (write_at ws) (sym r.2) ∙ same r.0 r.1))
      (go (pass d) r.0 r.1 r.2 (ltb (suc (rank E xs r.0)) (suc ρ)) refl))
    where
      go : ((v : View) → v.passed + d ≡ how_many is_write xs → Going xs S tp ρ v → Gone xs S tp ρ (passing (suc ρ) (drop v.passed ws) v)) → (w : ℕ) → is_at is_write xs w ≡ true → up_to is_write xs w ≡ v.passed → (b : Bool) → ltb (suc (rank E xs w)) (suc ρ) ≡ b → Gone xs S tp ρ (cond b (passing (suc ρ) (drop (suc v.passed) ws) (further v w)) v)
      go next w e p true b =
          let y : v.passed + 1 ≡ suc v.passed = omega arith in
          subst (λ (j : ℕ). Gone xs S tp ρ (passing (suc ρ) (drop j ws) (further v w))) y
          (next (further v w) (omega arith) (go_on v w e p (omega (arith, ltb-true _ _ b)) g))
      go next w e p false b = finish v g (λ k f l.
          ⊎_elim
          (λ (m : k < w). absurd (let z = up_to-order is_write xs k w f m in omega arith))
          (λ (m : w ≤ k). omega (arith, back E xs k w m, ltb-false _ _ b))
          (cases_lt k w))

-- One more event observed ------------------------------------------------------------------------------------------

-- at a write, covered is in terms of what was observed and passed over
pub covered-is : (xs : List Record) (seen : List ℕ) → Events xs seen → (i : ℕ) → ((k : ℕ) → is_at is_write xs k ≡ true → ltb (up_to is_write xs k) i ≡ ltb (rank E xs k) (top_seen E xs seen)) → (k : ℕ) → is_at is_write xs k ≡ true → covered E xs seen k ≡ (any_of seen (eqb k) || ltb (up_to is_write xs k) i)
covered-is xs seen ev i h k e =
    (λ j. e j && any_of seen (λ f. eqb k f || precedes E xs k f)) ∙ by-top E xs k (at-event is_write (is_event E) (write-event E) xs k e) seen ev ∙ ap (λ (b : Bool). any_of seen (eqb k) || b) (sym (h k e))

or_turn : (a b c : Bool) → (a || b || c) ≡ (c || a || b)
or_turn true b true = refl
or_turn true b false = refl
or_turn false true true = refl
or_turn false true false = refl
or_turn false false true = refl
or_turn false false false = refl

module _ (xs : List Record) (ws : List Written) (long : length ws ≡ how_many is_write xs) (same : Listing xs ws) (v : View) (seen : List ℕ) (ev : Events xs seen) (kept : ViewKept v xs seen) (e : ℕ) (is-event : is_at (is_event E) xs e ≡ true) where
  abbrev pub went : View
  went = passing (suc (rank E xs e)) (drop v.passed ws) v

  gone : Gone xs (λ k. any_of seen (eqb k)) (top_seen E xs seen) (rank E xs e) went
  gone =
      let le : v.passed ≤ how_many is_write xs = kept.within in
      pass xs ws long same (λ k. any_of seen (eqb k)) (top_seen E xs seen) (rank E xs e) (how_many is_write xs - v.passed) v (omega arith)
      (record {
        room = kept.room;
        within = kept.within;
        under = λ k f l. omega (arith, ltb-true _ _ (sym (kept.passed k f) ∙ lt-ltb _ _ l));
        over = λ k f l. ltb-false _ _ (sym (kept.passed k f) ∙ le-ltb _ _ l);
        table = tabled-same xs (rank E xs) (covered E xs seen) (λ k. any_of seen (eqb k) || ltb (up_to is_write xs k) v.passed) v.covered (covered-is xs seen ev v.passed kept.passed) (covered-from xs seen v.covered kept.reached);
      })

  events : Events xs (e ∷ seen)
  events = (is-event, ev)

  -- an event that is no write, as the fence of a notify
  pub saw-fence : is_at is_write xs e ≡ false → ViewKept went xs (e ∷ seen)
  saw-fence fenced = record {
    room = gone.room;
    within = gone.within;
    passed = gone.passed;
    reached = covered-to xs (e ∷ seen) went.covered (tabled-same xs (rank E xs) (λ k. any_of seen (eqb k) || ltb (up_to is_write xs k) went.passed) (covered E xs (e ∷ seen)) went.covered
        (λ k f. sym (covered-is xs (e ∷ seen) events went.passed gone.passed k f ∙ ap (λ (b : Bool). b || any_of seen (eqb k) || ltb (up_to is_write xs k) went.passed) (ne_eqb k e (λ z. false≢true (sym fenced ∙ ap (is_at is_write xs) (sym z) ∙ f)))))
        gone.table);
  }

  -- a write
  pub saw-write : is_at is_write xs e ≡ true → ViewKept (record { passed = went.passed; covered = raised went.covered (at_place 0 address_of xs e) (suc (rank E xs e)) }) xs (e ∷ seen)
  saw-write yes-write = record {
    room = room-raised went.covered (at_place 0 address_of xs e) (suc (rank E xs e)) ∙ gone.room;
    within = gone.within;
    passed = gone.passed;
    reached = covered-to xs (e ∷ seen) (raised went.covered (at_place 0 address_of xs e) (suc (rank E xs e))) (tabled-same xs (rank E xs) (λ k. any_of seen (eqb k) || ltb (up_to is_write xs k) went.passed || eqb k e) (covered E xs (e ∷ seen)) (raised went.covered (at_place 0 address_of xs e) (suc (rank E xs e)))
        (λ k f. sym (covered-is xs (e ∷ seen) events went.passed gone.passed k f ∙ sym (or_turn (any_of seen (eqb k)) (ltb (up_to is_write xs k) went.passed) (eqb k e))))
        (tabled-more xs (rank E xs) (λ k. any_of seen (eqb k) || ltb (up_to is_write xs k) went.passed) went.covered e yes-write gone.room gone.table));
  }

-- The other thread goes on -----------------------------------------------------------------------------------------

pub events-inside : (xs : List Record) (seen : List ℕ) → Events xs seen → AllInside (length xs) seen
events-inside xs [] h = tt
events-inside xs (e ∷ es) h = (is-inside (is_event E) xs e h.0, events-inside xs es h.1)

top-grown : (xs zs : List Record) (seen : List ℕ) → AllInside (length xs) seen → top_seen E (xs ++ zs) seen ≡ top_seen E xs seen
top-grown xs zs [] h = refl
top-grown xs zs (e ∷ es) h = λ i. max (rank-grown xs zs e h.0 i) (top-grown xs zs es h.1 i)

top-under : (ys : List Record) (n : ℕ) (seen : List ℕ) → AllInside n seen → top_seen E ys seen ≤ rank E ys n
top-under ys n [] h = omega arith
top-under ys n (e ∷ es) h = let l : e ≤ n = omega (arith, h.0) in omega (arith, back E ys n e l, top-under ys n es h.1)

-- the largest rank of a covered write stays
top-covered-grown : (xs zs : List Record) (seen : List ℕ) (a n : ℕ) → AllInside (length xs) seen → n ≤ length xs → top_covered E (xs ++ zs) seen a n ≡ top_covered E xs seen a n
top-covered-grown xs zs seen a zero inside l = refl
top-covered-grown xs zs seen a (suc n) inside l = λ i. max (cond (covered-grown E xs zs seen inside n i && at-grown false (is_write_to a) xs zs n l i) (suc (rank-grown xs zs n l i)) 0) (top-covered-grown xs zs seen a n inside (omega arith) i)

top-covered-more : (xs : List Record) (x : Record) (seen : List ℕ) (a : ℕ) → AllInside (length xs) seen → top_covered E (xs ++ x ∷ []) seen a (suc (length xs)) ≡ top_covered E xs seen a (length xs)
top-covered-more xs x seen a inside =
    (λ i. max (cond (none i && is_at (is_write_to a) (xs ++ x ∷ []) (length xs)) (suc (rank E (xs ++ x ∷ []) (length xs))) 0) (top-covered-grown xs (x ∷ []) seen a (length xs) inside (omega arith) i))
    ∙ omega arith
  where
    none : covered E (xs ++ x ∷ []) seen (length xs) ≡ false
    none = covered-grown E xs (x ∷ []) seen inside (length xs) ∙ ap (λ (b : Bool). b && any_of seen (λ e. eqb (length xs) e || precedes E xs (length xs) e)) (at-past false is_write xs (length xs) (omega arith))

pub view-grown : (xs : List Record) (x : Record) (v : View) (seen : List ℕ) → Events xs seen → ViewKept v xs seen → ViewKept v (xs ++ x ∷ []) seen
view-grown xs x v seen ev kept = record {
  room = kept.room;
  within = omega (arith, kept.within, count-end is_write xs x);
  passed = λ k e. ⊎_elim
      (λ (l : k < length xs).
      ap (λ (n : ℕ). ltb n v.passed) (up_to-grown is_write xs (x ∷ []) k (omega arith))
      ∙ kept.passed k (sym (at-grown false is_write xs (x ∷ []) k l) ∙ e)
      ∙ (λ i. ltb (sym (rank-grown xs (x ∷ []) k l) i) (sym (top-grown xs (x ∷ []) seen inside) i)))
      (λ (l : length xs ≤ k).
      let m = is-inside is_write (xs ++ x ∷ []) k e in
      let q : k ≡ length xs = omega (arith, length-append xs (x ∷ [])) in
      ap (λ (j : ℕ). ltb (up_to is_write (xs ++ x ∷ []) j) v.passed) q
      ∙ le-ltb _ _ (omega (arith, kept.within, up_to-end is_write xs x))
      ∙ sym (le-ltb (rank E (xs ++ x ∷ []) (length xs)) (top_seen E (xs ++ x ∷ []) seen) (top-under (xs ++ x ∷ []) (length xs) seen inside))
      ∙ ap (λ (j : ℕ). ltb (rank E (xs ++ x ∷ []) j) (top_seen E (xs ++ x ∷ []) seen)) (sym q))
      (cases_lt k (length xs));
  reached = λ a l. kept.reached a l ∙ sym (ap (top_covered E (xs ++ x ∷ []) seen a) (length-append xs (x ∷ []) ∙ add-one (length xs)) ∙ top-covered-more xs x seen a inside);
}
  where
    inside : AllInside (length xs) seen
    inside = events-inside xs seen ev

-- What the reasons ask of a thread's own writes ------------------------------------------------------------------------

pub written-to-is : (xs : List Record) (last : List ℕ) (a : ℕ) → a < 64 → ((a : ℕ) → a < 64 → get_or last a 0 ≡ last_to xs a (length xs)) → written_to xs a ≡ ltb 0 (get_or last a 0)
written-to-is xs last a l h =
    any_same (length xs) _ _ (λ k m. sym (and-true (is_at (is_write_to a) xs k)) ∙ (λ j. is_at (is_write_to a) xs k && sym (le-leb 0 (up_to is_write xs k) (omega arith)) j))
    ∙ lasts-from xs last h a 0 l

pub written-behind-is : (xs : List Record) (last : List ℕ) (w a : ℕ) → a < 64 → is_at is_write xs w ≡ true → ((a : ℕ) → a < 64 → get_or last a 0 ≡ last_to xs a (length xs)) → written_behind xs w a ≡ ltb (suc (up_to is_write xs w)) (get_or last a 0)
written-behind-is xs last w a l e h = any_same (length xs) _ _ (λ k m. go k (is_at (is_write_to a) xs k) refl) ∙ lasts-from xs last h a (suc (up_to is_write xs w)) l
  where
    go : (k : ℕ) (b : Bool) → is_at (is_write_to a) xs k ≡ b → (ltb w k && b) ≡ (b && leb (suc (up_to is_write xs w)) (up_to is_write xs k))
    go k false c = and-false (ltb w k)
    go k true c = and-true (ltb w k) ∙ sym (up_to-ltb is_write xs w k e (to-parts xs a k c).0)
