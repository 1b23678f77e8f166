-- An event precedes another exactly if its rank is below, and what follows for covering and overwriting.
use Rattle.std.proofs.Common.{◌≡◌, ℕ, zero, suc, ◌+◌, ◌-◌, ◌<◌, ◌≤◌, max, Bool, true, false, cond, ◌&&◌, ◌||◌, eqb, ltb, List, [], ◌∷◌, ◌++◌, length, Some, None, Option, sym, refl, ap, ◌∙◌, ⊎_elim, not-suc-le-zero, arith, ltb-false, ltb-true, le-ltb, lt-ltb}
use mathlib.Core.Bool.{false≢true, and-false}
use Rattle.std.proofs.lemmas.Bool.{cases_lt, and_parts}
use Rattle.record.specs.declared.kinds.Source.{Source}
use Rattle.record.specs.declared.kinds.Source.TheVariants.{Initial, Write as WriteOf}
use Rattle.record.specs.declared.kinds.Record.{Record}
use Rattle.record.specs.declared.kinds.Record.TheVariants.{Write, Read, Fence, Notify, Wait}
use Rattle.record.specs.WellMade.{thread_of}
use Rattle.model.specs.Places.{at_place, is_at, any_below, any_of, how_many, place_of}
use Rattle.model.specs.Events.{is_event, is_strict, is_write, is_notify, is_wait, is_write_to, address_of, kind_of, is_act, acts_of, Edition, Law, Each, IfThere, source_in, names, observed, precedes, covered, overwritten, covered_to}
use Rattle.model.specs.Rank.{bit, strict_before, rank, top_seen, top_covered, RankRules}
use Rattle.model.proofs.Places.{any_same}
use Rattle.model.proofs.Renamed.{any_out, IsAt, place_is}

module _ (E : Edition) (xs : List Record) where
  abbrev s : ℕ → Bool
  s k = is_at (is_strict E) xs k

  abbrev n : ℕ → ℕ
  n k = strict_before E xs k

  more : (e d : ℕ) → n e ≤ n (e + d)
  more e zero = omega (arith, ap n (native.Mathlib.Nat.add-zero e))
  more e (suc d) = omega (arith, more e d, ap n (native.Mathlib.Nat.add-suc e d))

  mono : (e f : ℕ) → e ≤ f → n e ≤ n f
  mono e f l = let q : e + (f - e) ≡ f = omega arith in omega (arith, more e (f - e), ap n q)

  is-between : (e f : ℕ) → any_below f (λ k. ltb e k && s k) ≡ true → n e + bit (s e) < n f
  is-between e f h =
      let r = any_out f (λ k. ltb e k && s k) h in
      let p = and_parts (ltb e r.0) (s r.0) r.2 in
      let a = mono (suc e) r.0 (ltb-true e r.0 p.0) in
      let b = mono (suc r.0) f r.1 in
      let c : bit (s r.0) ≡ 1 = ap bit p.1 in
      omega arith

  find-between : (e f : ℕ) → e < f → n e + bit (s e) < n f → any_below f (λ k. ltb e k && s k) ≡ true
  find-between e zero l h = absurd (not-suc-le-zero l)
  find-between e (suc g) l h = ⊎_elim (far (find-between e g) (s g) refl) near (cases_lt e g)
    where
      near : g ≤ e → any_below (suc g) (λ k. ltb e k && s k) ≡ true
      near m = let q : g ≡ e = omega arith in absurd (omega (arith, ap (λ (k : ℕ). n k + bit (s k)) q))

      far : (e < g → n e + bit (s e) < n g → any_below g (λ k. ltb e k && s k) ≡ true) → (b : Bool) → s g ≡ b → e < g → any_below (suc g) (λ k. ltb e k && s k) ≡ true
      far next true q m = λ i. (lt-ltb e g m i && q i) || any_below g (λ k. ltb e k && s k)
      far next false q m = ap (λ (b : Bool). ltb e g && b || any_below g (λ k. ltb e k && s k)) q ∙ ap (λ (b : Bool). b || any_below g (λ k. ltb e k && s k)) (and-false (ltb e g)) ∙ next m (omega (arith, ap bit q))

  -- by whether the two are strict, and whether a strict event stands between them
  ranked : (e f : ℕ) → e < f → (b c d : Bool) → s e ≡ b → s f ≡ c → any_below f (λ k. ltb e k && s k) ≡ d → (b || c || d) ≡ ltb (rank E xs e) (rank E xs f)
  ranked e f l true c d p q r = sym (lt-ltb _ _ (omega (arith, mono (suc e) f l, ap bit p)))
  ranked e f l false true d p q r = sym (lt-ltb _ _ (omega (arith, mono (suc e) f l, ap bit p, ap bit q)))
  ranked e f l false false true p q r = sym (lt-ltb _ _ (omega (arith, is-between e f r, ap bit p, ap bit q)))
  ranked e f l false false false p q r =
      sym
      (le-ltb _ _
      (⊎_elim
      (λ (m : n e + bit (s e) < n f). absurd (false≢true (sym r ∙ find-between e f l m)))
      (λ (m : n f ≤ n e + bit (s e)). omega (arith, ap bit p, ap bit q))
      (cases_lt (n e + bit (s e)) (n f))))

  -- ranks never fall along a thread
  pub back : (e f : ℕ) → f ≤ e → rank E xs f ≤ rank E xs e
  back e f l =
      ⊎_elim
      (λ (m : f < e). omega (arith, mono (suc f) e m))
      (λ (m : e ≤ f). let q : e ≡ f = omega arith in omega (arith, ap (rank E xs) q))
      (cases_lt f e)

  ordered : (e f : ℕ) (b : Bool) → ltb e f ≡ b → (b && (s e || s f || any_below f (λ k. ltb e k && s k))) ≡ ltb (rank E xs e) (rank E xs f)
  ordered e f true q = ranked e f (ltb-true e f q) (s e) (s f) (any_below f (λ k. ltb e k && s k)) refl refl refl
  ordered e f false q = sym (le-ltb _ _ (back e f (ltb-false e f q)))

pub rank-rule : (E : Edition) (xs : List Record) (e f : ℕ) → is_at (is_event E) xs e ≡ true → is_at (is_event E) xs f ≡ true → precedes E xs e f ≡ ltb (rank E xs e) (rank E xs f)
rank-rule E xs e f p q =
    (λ i. ltb e f && p i && q i && (is_at (is_strict E) xs e || is_at (is_strict E) xs f || any_below f (λ k. ltb e k && is_at (is_strict E) xs k))) ∙ drop-true (ltb e f) _ ∙ ordered E xs e f (ltb e f) refl
  where
    drop-true : (b c : Bool) → (b && true && true && c) ≡ (b && c)
    drop-true true c = refl
    drop-true false c = refl

-- Covered, by ranks -------------------------------------------------------------------------------------------------

or-four : (a b c d : Bool) → (a || b || (c || d)) ≡ (a || c || (b || d))
or-four true b c d = refl
or-four false true true d = refl
or-four false true false d = refl
or-four false false c d = refl

pub below-max : (r a b : ℕ) → (ltb r a || ltb r b) ≡ ltb r (max a b)
below-max r a b = go (ltb r a) (ltb r b) refl refl
  where
    go : (p q : Bool) → ltb r a ≡ p → ltb r b ≡ q → (p || q) ≡ ltb r (max a b)
    go true q e f = sym (lt-ltb _ _ (omega (arith, ltb-true r a e)))
    go false true e f = sym (lt-ltb _ _ (omega (arith, ltb-true r b f)))
    go false false e f = sym (le-ltb _ _ (omega (arith, ltb-false r a e, ltb-false r b f)))

-- an event is or precedes one of those observed exactly if it is one of them or its rank is below the largest of theirs
pub by-top : (E : Edition) (xs : List Record) (w : ℕ) → is_at (is_event E) xs w ≡ true → (seen : List ℕ) → Each (is_at (is_event E) xs) seen → any_of seen (λ e. eqb w e || precedes E xs w e) ≡ (any_of seen (eqb w) || ltb (rank E xs w) (top_seen E xs seen))
by-top E xs w p [] h = sym (le-ltb (rank E xs w) 0 (omega arith))
by-top E xs w p (e ∷ es) h =
    (λ i. eqb w e || rank-rule E xs w e p h.0 i || by-top E xs w p es h.1 i)
    ∙ or-four (eqb w e) (ltb (rank E xs w) (rank E xs e)) (any_of es (eqb w)) (ltb (rank E xs w) (top_seen E xs es))
    ∙ ap (λ (b : Bool). eqb w e || any_of es (eqb w) || b) (below-max (rank E xs w) (rank E xs e) (top_seen E xs es))

pub write-event : (E : Edition) (x : Record) → is_write x ≡ true → is_event E x ≡ true
write-event E x e = ap (λ (b : Bool). b || is_strict E x) e

pub notify-event : (E : Edition) (x : Record) → is_notify x ≡ true → is_event E x ≡ true
notify-event E (Write w) e = refl
notify-event E (Read r) e = absurd (false≢true e)
notify-event E (Fence f) e = absurd (false≢true e)
notify-event E (Notify n) e = E.notifies
notify-event E (Wait w) e = absurd (false≢true e)

pub at-event : (p q : Record → Bool) → ((x : Record) → p x ≡ true → q x ≡ true) → (xs : List Record) (k : ℕ) → is_at p xs k ≡ true → is_at q xs k ≡ true
at-event p q f [] k e = absurd (false≢true e)
at-event p q f (x ∷ xs) zero e = f x e
at-event p q f (x ∷ xs) (suc k) e = at-event p q f xs k e

where-event : (p q : Record → Bool) → ((x : Record) → p x ≡ true → q x ≡ true) → (xs : List Record) (o : Option ℕ) → IsAt p xs o → IfThere (is_at q xs) o
where-event p q f xs None a = tt
where-event p q f xs (Some k) a = at-event p q f xs k a

source-event : (E : Edition) (u : ℕ) (h : List Record) (s : Source) → IfThere (is_at (is_event E) (acts_of u h)) (source_in u h s)
source-event E u h Initial = tt
source-event E u h (WriteOf w n) = elim (eqb w u) as (λ b. IfThere (is_at (is_event E) (acts_of u h)) (cond b (place_of is_write n (acts_of u h)) None)) [ true ↦ where-event is_write (is_event E) (write-event E) (acts_of u h) (place_of is_write n (acts_of u h)) (place_is is_write n (acts_of u h)) | false ↦ tt ]

named-event : (E : Edition) (u : ℕ) (h : List Record) (x : Record) → IfThere (is_at (is_event E) (acts_of u h)) (names u h x)
named-event E u h (Write w) = tt
named-event E u h (Read r) = source-event E u h r.source
named-event E u h (Fence f) = tt
named-event E u h (Notify n) = tt
named-event E u h (Wait w) = let n : ℕ = suc (how_many is_wait (acts_of w.thread h)) in where-event is_notify (is_event E) (notify-event E) (acts_of u h) (place_of is_notify n (acts_of u h)) (place_is is_notify n (acts_of u h))

still-event : (p : Record → Bool) (xs zs : List Record) (k : ℕ) → is_at p xs k ≡ true → is_at p (xs ++ zs) k ≡ true
still-event p [] zs k e = absurd (false≢true e)
still-event p (x ∷ xs) zs zero e = e
still-event p (x ∷ xs) zs (suc k) e = still-event p xs zs k e

still-each : (p : Record → Bool) (xs zs : List Record) (ks : List ℕ) → Each (is_at p xs) ks → Each (is_at p (xs ++ zs)) ks
still-each p xs zs [] h = tt
still-each p xs zs (k ∷ ks) h = (still-event p xs zs k h.0, still-each p xs zs ks h.1)

-- what is observed are events
pub observed-event : (L : Law) (r u : ℕ) (h : List Record) → Each (is_at (is_event L.edition) (acts_of u h)) (observed L r u h)
observed-event L r u [] = tt
observed-event L r u (x ∷ h) =
    still-each (is_event L.edition) (acts_of u h) (cond (eqb (thread_of x) u && is_act x) (x ∷ []) []) (observed L r u (x ∷ h))
    (elim (eqb (thread_of x) r) as (λ b. Each (is_at (is_event L.edition) (acts_of u h)) (cond b (L.rule.keeps (precedes L.edition (acts_of u h)) (observed L r u h) (kind_of x) (names u h x)) (observed L r u h))) [
      | true ↦ L.rule.from (precedes L.edition (acts_of u h)) (observed L r u h) (kind_of x) (names u h x) (is_at (is_event L.edition) (acts_of u h)) (observed-event L r u h) (named-event L.edition u h x)
      | false ↦ observed-event L r u h
    ])

pub covered_by_rank : (L : Law) (r u : ℕ) (h : List Record) (w : ℕ) → covered L.edition (acts_of u h) (observed L r u h) w ≡ (is_at is_write (acts_of u h) w && (any_of (observed L r u h) (eqb w) || ltb (rank L.edition (acts_of u h) w) (top_seen L.edition (acts_of u h) (observed L r u h))))
covered_by_rank L r u h w = go (is_at is_write (acts_of u h) w) refl
  where
    E : Edition
    E = L.edition

    go : (b : Bool) → is_at is_write (acts_of u h) w ≡ b → (b && any_of (observed L r u h) (λ e. eqb w e || precedes E (acts_of u h) w e)) ≡ (b && (any_of (observed L r u h) (eqb w) || ltb (rank E (acts_of u h) w) (top_seen E (acts_of u h) (observed L r u h))))
    go true q = by-top E (acts_of u h) w (at-event is_write (is_event E) (write-event E) (acts_of u h) w q) (observed L r u h) (observed-event L r u h)
    go false q = refl

-- Overwritten, by ranks -----------------------------------------------------------------------------------------------

write-to-is : (a : ℕ) (x : Record) → is_write_to a x ≡ (is_write x && eqb (address_of x) a)
write-to-is a (Write w) = refl
write-to-is a (Read r) = refl
write-to-is a (Fence f) = refl
write-to-is a (Notify n) = refl
write-to-is a (Wait w) = refl

-- a write to a is a write, and its address is a
pub at-write-to : (a : ℕ) (xs : List Record) (k : ℕ) → is_at (is_write_to a) xs k ≡ (is_at is_write xs k && eqb (at_place 0 address_of xs k) a)
at-write-to a [] k = refl
at-write-to a (x ∷ xs) zero = write-to-is a x
at-write-to a (x ∷ xs) (suc k) = at-write-to a xs k

-- some such number of the first n has a rank of r or more exactly if r is below the largest, counted one higher
pub reached : (p : ℕ → Bool) (f : ℕ → ℕ) (r n : ℕ) (tops : ℕ → ℕ) → tops 0 ≡ 0 → ((k : ℕ) → tops (suc k) ≡ max (cond (p k) (suc (f k)) 0) (tops k)) → any_below n (λ k. p k && ltb r (suc (f k))) ≡ ltb r (tops n)
reached p f r zero tops z s = sym (le-ltb r (tops 0) (omega (arith, z)))
reached p f r (suc n) tops z s =
    (λ i. here (p n) i || reached p f r n tops z s i) ∙ below-max r (cond (p n) (suc (f n)) 0) (tops n) ∙ ap (ltb r) (sym (s n))
  where
    here : (b : Bool) → (b && ltb r (suc (f n))) ≡ ltb r (cond b (suc (f n)) 0)
    here true = refl
    here false = sym (le-ltb r 0 (omega arith))

module _ (E : Edition) (xs : List Record) (seen : List ℕ) where
  reached-covered : (a r : ℕ) → any_below (length xs) (λ k. covered E xs seen k && is_at (is_write_to a) xs k && ltb r (suc (rank E xs k))) ≡ ltb r (top_covered E xs seen a (length xs))
  reached-covered a r = reached (λ k. covered E xs seen k && is_at (is_write_to a) xs k) (rank E xs) r (length xs) (top_covered E xs seen a) refl (λ k. refl)

  one_up : (a b : ℕ) → ltb (suc a) (suc b) ≡ ltb a b
  one_up a b = go (ltb a b) refl
    where
      go : (c : Bool) → ltb a b ≡ c → ltb (suc a) (suc b) ≡ c
      go true e = lt-ltb (suc a) (suc b) (omega (arith, ltb-true a b e))
      go false e = le-ltb (suc a) (suc b) (omega (arith, ltb-false a b e))

  and-turn : (a b d : Bool) → (a && b && d) ≡ (a && d && b)
  and-turn true true true = refl
  and-turn true true false = refl
  and-turn true false true = refl
  and-turn true false false = refl
  and-turn false b d = refl

  covered-write : (k : ℕ) → covered E xs seen k ≡ true → is_at is_write xs k ≡ true
  covered-write k e = (and_parts (is_at is_write xs k) (any_of seen (λ e. eqb k e || precedes E xs k e)) e).0

  pub overwritten_by_rank : (w : ℕ) → is_at is_write xs w ≡ true → overwritten E xs seen w ≡ ltb (suc (rank E xs w)) (top_covered E xs seen (at_place 0 address_of xs w) (length xs))
  overwritten_by_rank w e = any_same (length xs) _ _ (λ k l. one k (covered E xs seen k) refl) ∙ reached-covered (at_place 0 address_of xs w) (suc (rank E xs w))
    where
      one : (k : ℕ) (b : Bool) → covered E xs seen k ≡ b → (b && precedes E xs w k && eqb (at_place 0 address_of xs k) (at_place 0 address_of xs w)) ≡ (b && is_at (is_write_to (at_place 0 address_of xs w)) xs k && ltb (suc (rank E xs w)) (suc (rank E xs k)))
      one k false q = refl
      one k true q =
          let v = covered-write k q in
          (λ i. rank-rule E xs w k (at-event is_write (is_event E) (write-event E) xs w e) (at-event is_write (is_event E) (write-event E) xs k v) i && eqb (at_place 0 address_of xs k) (at_place 0 address_of xs w))
          ∙ and-turn true (ltb (rank E xs w) (rank E xs k)) (eqb (at_place 0 address_of xs k) (at_place 0 address_of xs w))
          ∙ (λ i. sym (at-write-to (at_place 0 address_of xs w) xs k ∙ ap (λ (b : Bool). b && eqb (at_place 0 address_of xs k) (at_place 0 address_of xs w)) v) i && sym (one_up (rank E xs w) (rank E xs k)) i)

  and-true : (b : Bool) → b ≡ (b && true)
  and-true true = refl
  and-true false = refl

  pub initial_gone_by_rank : (a : ℕ) → covered_to E xs seen a ≡ ltb 0 (top_covered E xs seen a (length xs))
  initial_gone_by_rank a = any_same (length xs) _ _ (λ k l. and-true (covered E xs seen k && is_at (is_write_to a) xs k) ∙ ap (λ (b : Bool). covered E xs seen k && is_at (is_write_to a) xs k && b) (sym (lt-ltb 0 (suc (rank E xs k)) (omega arith)))) ∙ reached-covered a 0

pub rank-rules : RankRules
rank-rules = record {
  precedes_by_rank = rank-rule;
  never_fall = λ E xs e f l. back E xs f e l;
  covered_by_rank = covered_by_rank;
  overwritten_by_rank = overwritten_by_rank;
  initial_gone_by_rank = initial_gone_by_rank;
}
