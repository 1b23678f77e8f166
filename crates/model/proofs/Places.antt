-- Places of a list stay where they are as the list grows at its end.
use Rattle.std.proofs.Common.{◌≡◌, ℕ, zero, suc, ◌+◌, ◌-◌, ◌<◌, ◌≤◌, Bool, true, false, cond, ◌&&◌, ◌||◌, eqb, ltb, List, [], ◌∷◌, ◌++◌, length, Some, None, Option, sym, refl, ap, ◌∙◌, ⊎_elim, le_of_suc-le-suc, not-suc-le-zero, add-zero, add-suc, arith, length-append, ltb-true, le-ltb, lt-ltb, ne_eqb}
use mathlib.Core.Bool.{and-false}
use Rattle.std.proofs.lemmas.Bool.{cases_lt}
use Rattle.record.specs.declared.kinds.Record.{Record}
use Rattle.model.specs.Places.{at_place, is_at, any_below, any_of, one_further, place_of, stands_where}
use Rattle.model.specs.Events.{is_event, is_strict, is_write, address_of, is_write_to, Edition, Each, IfThere, precedes, covered, overwritten, covered_to}

-- a place of the list is below n, where there is one; each place of the list is
abbrev pub Inside : ℕ → Option ℕ → Type 0
Inside n None = Unit {0}
Inside n (Some k) = k < n

abbrev pub AllInside : ℕ → List ℕ → Type 0
AllInside n [] = Unit {0}
AllInside n (k ∷ ks) = (k < n) × AllInside n ks

-- the same as tests
pub each-inside : (n : ℕ) (ks : List ℕ) → AllInside n ks → Each (λ k. ltb k n) ks
each-inside n [] h = tt
each-inside n (k ∷ ks) h = (lt-ltb k n h.0, each-inside n ks h.1)

pub inside-each : (n : ℕ) (ks : List ℕ) → Each (λ k. ltb k n) ks → AllInside n ks
inside-each n [] h = tt
inside-each n (k ∷ ks) h = (ltb-true k n h.0, inside-each n ks h.1)

pub there-inside : (n : ℕ) (o : Option ℕ) → Inside n o → IfThere (λ k. ltb k n) o
there-inside n None h = tt
there-inside n (Some k) h = lt-ltb k n h

pub inside-further : (n : ℕ) (o : Option ℕ) → Inside n o → Inside (suc n) (one_further o)
inside-further n None h = tt
inside-further n (Some k) h = omega arith

pub all-inside-more : (n m : ℕ) (ks : List ℕ) → n ≤ m → AllInside n ks → AllInside m ks
all-inside-more n m [] le h = tt
all-inside-more n m (k ∷ ks) le h = (omega arith, all-inside-more n m ks le h.1)

pub at-grown : {A : Type 0} (d : A) (f : Record → A) (xs zs : List Record) (k : ℕ) → k < length xs → at_place d f (xs ++ zs) k ≡ at_place d f xs k
at-grown d f [] zs k h = absurd (not-suc-le-zero h)
at-grown d f (x ∷ xs) zs zero h = refl
at-grown d f (x ∷ xs) zs (suc k) h = at-grown d f xs zs k (le_of_suc-le-suc h)

pub at-past : {A : Type 0} (d : A) (f : Record → A) (xs : List Record) (k : ℕ) → length xs ≤ k → at_place d f xs k ≡ d
at-past d f [] k h = refl
at-past d f (x ∷ xs) zero h = absurd (not-suc-le-zero h)
at-past d f (x ∷ xs) (suc k) h = at-past d f xs k (le_of_suc-le-suc h)

pub any_same : (n : ℕ) (p q : ℕ → Bool) → ((k : ℕ) → k < n → p k ≡ q k) → any_below n p ≡ any_below n q
any_same zero p q h = refl
any_same (suc n) p q h = λ i. h n (omega arith) i || any_same n p q (λ k l. h k (omega arith)) i

pub any_none : (n m : ℕ) (p : ℕ → Bool) → ((k : ℕ) → n ≤ k → p k ≡ false) → any_below (n + m) p ≡ any_below n p
any_none n zero p h = ap (λ (k : ℕ). any_below k p) (add-zero n)
any_none n (suc m) p h =
    ap (λ (k : ℕ). any_below k p) (add-suc n m) ∙ ap (λ (b : Bool). b || any_below (n + m) p) (h (n + m) (omega arith)) ∙ any_none n m p h

pub any-of-same : (n : ℕ) (ks : List ℕ) (p q : ℕ → Bool) → AllInside n ks → ((k : ℕ) → k < n → p k ≡ q k) → any_of ks p ≡ any_of ks q
any-of-same n [] p q a h = refl
any-of-same n (k ∷ ks) p q a h = λ i. h k a.0 i || any-of-same n ks p q a.1 h i

pub any-of-none : (n : ℕ) (ks : List ℕ) (p : ℕ → Bool) → AllInside n ks → ((k : ℕ) → k < n → p k ≡ false) → any_of ks p ≡ false
any-of-none n [] p a h = refl
any-of-none n (k ∷ ks) p a h = λ i. h k a.0 i || any-of-none n ks p a.1 h i

pub stands-where-same : (n : ℕ) (o : Option ℕ) (p q : ℕ → Bool) → Inside n o → ((k : ℕ) → k < n → p k ≡ q k) → stands_where o p ≡ stands_where o q
stands-where-same n None p q a h = refl
stands-where-same n (Some k) p q a h = h k a

-- the n-th such record, if the list has it, is where it was
pub place_inside : (p : Record → Bool) (n : ℕ) (xs : List Record) → Inside (length xs) (place_of p n xs)
place_inside p n [] = tt
place_inside p n (x ∷ xs) =
    elim (p x && eqb n 1) as (λ b. Inside (suc (length xs)) (cond b (Some 0) (one_further (place_of p (cond (p x) (n - 1) n) xs)))) [
      | true ↦ omega arith
      | false ↦ inside-further (length xs) _ (place_inside p (cond (p x) (n - 1) n) xs)
    ]

abbrev pub StillThere : Option ℕ → Option ℕ → Type 0
StillThere None o = Unit {0}
StillThere (Some k) o = o ≡ Some k

still-further : (o o' : Option ℕ) → StillThere o o' → StillThere (one_further o) (one_further o')
still-further None o' h = tt
still-further (Some k) o' h = ap one_further h

pub place-grown : (p : Record → Bool) (n : ℕ) (xs zs : List Record) → StillThere (place_of p n xs) (place_of p n (xs ++ zs))
place-grown p n [] zs = tt
place-grown p n (x ∷ xs) zs =
    elim (p x && eqb n 1) as (λ b. StillThere (cond b (Some 0) (one_further (place_of p (cond (p x) (n - 1) n) xs))) (cond b (Some 0) (one_further (place_of p (cond (p x) (n - 1) n) (xs ++ zs))))) [
      | true ↦ refl
      | false ↦ still-further _ _ (place-grown p (cond (p x) (n - 1) n) xs zs)
    ]

module _ (E : Edition) (xs zs : List Record) where
  pub precedes-grown : (e f : ℕ) → f < length xs → precedes E (xs ++ zs) e f ≡ precedes E xs e f
  precedes-grown e f h = go (ltb e f) refl
    where
      go : (b : Bool) → ltb e f ≡ b → (b && is_at (is_event E) (xs ++ zs) e && is_at (is_event E) (xs ++ zs) f && (is_at (is_strict E) (xs ++ zs) e || is_at (is_strict E) (xs ++ zs) f || any_below f (λ k. ltb e k && is_at (is_strict E) (xs ++ zs) k))) ≡ (b && is_at (is_event E) xs e && is_at (is_event E) xs f && (is_at (is_strict E) xs e || is_at (is_strict E) xs f || any_below f (λ k. ltb e k && is_at (is_strict E) xs k)))
      go false q = refl
      go true q =
          let l : e < length xs = omega (arith, ltb-true e f q) in
          λ i. at-grown false (is_event E) xs zs e l i && at-grown false (is_event E) xs zs f h i && (at-grown false (is_strict E) xs zs e l i || at-grown false (is_strict E) xs zs f h i || any_same f (λ k. ltb e k && is_at (is_strict E) (xs ++ zs) k) (λ k. ltb e k && is_at (is_strict E) xs k) (λ k m. ap (λ (b : Bool). ltb e k && b) (at-grown false (is_strict E) xs zs k (omega arith))) i)

  module _ (seen : List ℕ) (inside : AllInside (length xs) seen) where
    covered-past : (w : ℕ) → length xs ≤ w → covered E (xs ++ zs) seen w ≡ false
    covered-past w h =
        ap (λ (b : Bool). is_at is_write (xs ++ zs) w && b) (any-of-none (length xs) seen _ inside (λ k l. λ i. ne_eqb w k (omega arith) i || (le-ltb w k (omega arith) i && is_at (is_event E) (xs ++ zs) w && is_at (is_event E) (xs ++ zs) k && (is_at (is_strict E) (xs ++ zs) w || is_at (is_strict E) (xs ++ zs) k || any_below k (λ j. ltb w j && is_at (is_strict E) (xs ++ zs) j))))) ∙ and-false _

    pub covered-grown : (w : ℕ) → covered E (xs ++ zs) seen w ≡ covered E xs seen w
    covered-grown w =
        ⊎_elim
        (λ (l : w < length xs). λ i. at-grown false is_write xs zs w l i && any-of-same (length xs) seen (λ e. eqb w e || precedes E (xs ++ zs) w e) (λ e. eqb w e || precedes E xs w e) inside (λ k m. ap (λ (b : Bool). eqb w k || b) (precedes-grown w k m)) i)
        (λ (l : length xs ≤ w). covered-past w l ∙ sym (ap (λ (b : Bool). b && any_of seen (λ e. eqb w e || precedes E xs w e)) (at-past false is_write xs w l)))
        (cases_lt w (length xs))

    pub covered-to-grown : (a : ℕ) → covered_to E (xs ++ zs) seen a ≡ covered_to E xs seen a
    covered-to-grown a =
        ap (λ (n : ℕ). any_below n (λ w. covered E (xs ++ zs) seen w && is_at (is_write_to a) (xs ++ zs) w)) (length-append xs zs) ∙ any_none (length xs) (length zs) (λ w. covered E (xs ++ zs) seen w && is_at (is_write_to a) (xs ++ zs) w) (λ w l. ap (λ (b : Bool). b && is_at (is_write_to a) (xs ++ zs) w) (covered-past w l)) ∙ any_same (length xs) _ _ (λ w l. λ i. covered-grown w i && at-grown false (is_write_to a) xs zs w l i)

    pub overwritten-grown : (w : ℕ) → w < length xs → overwritten E (xs ++ zs) seen w ≡ overwritten E xs seen w
    overwritten-grown w l =
        ap (λ (n : ℕ). any_below n (λ v. covered E (xs ++ zs) seen v && precedes E (xs ++ zs) w v && eqb (at_place 0 address_of (xs ++ zs) v) (at_place 0 address_of (xs ++ zs) w))) (length-append xs zs) ∙ any_none (length xs) (length zs) (λ v. covered E (xs ++ zs) seen v && precedes E (xs ++ zs) w v && eqb (at_place 0 address_of (xs ++ zs) v) (at_place 0 address_of (xs ++ zs) w)) (λ v m. ap (λ (b : Bool). b && precedes E (xs ++ zs) w v && eqb (at_place 0 address_of (xs ++ zs) v) (at_place 0 address_of (xs ++ zs) w)) (covered-past v m)) ∙ any_same (length xs) _ _ (λ v m. λ i. covered-grown v i && precedes-grown w v m i && eqb (at-grown 0 address_of xs zs v m i) (at-grown 0 address_of xs zs w l i))
