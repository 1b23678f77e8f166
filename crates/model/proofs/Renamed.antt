-- Verdicts do not go by the names of threads and addresses.
use Rattle.std.proofs.Common.{◌≡◌, ℕ, zero, suc, ◌-◌, ◌<◌, ◌≤◌, Bool, true, false, cond, not, ◌&&◌, ◌||◌, eqb, ltb, leb, List, [], ◌∷◌, ◌++◌, map, length, Some, None, Option, sym, refl, ap, ◌∙◌, ⊎_elim, not-suc-le-zero, arith, eq-eqb, eqb-true}
use mathlib.Core.Bool.{false≢true}
use mathlib.Core.List.{map-append}
use lib.ListN.{length-map}
use Rattle.std.proofs.lemmas.Bool.{cases_lt}
use Rattle.record.specs.declared.kinds.Counts.{Counts}
use Rattle.record.specs.declared.kinds.Source.{Source}
use Rattle.record.specs.declared.kinds.Source.TheVariants.{Initial, Write as WriteOf}
use Rattle.record.specs.declared.kinds.ReadRecord.{ReadRecord}
use Rattle.record.specs.declared.kinds.Record.{Record}
use Rattle.record.specs.declared.kinds.Record.TheVariants.{Write, Read, Fence, Notify, Wait}
use Rattle.record.specs.WellMade.{thread_of}
use Rattle.model.specs.declared.reasons.Reason.TheVariants.{TooManyRecords, NotWrittenYet, OtherAddress, OtherValue, OwnLaterWrite, Overwritten, InitialGone, NotifyOutOfTurn, WaitOutOfTurn, NotifyMissing, OtherLabel}
use Rattle.model.specs.Places.{at_place, is_at, any_below, any_of, how_many, one_further, place_of, missing, stands_where, oldest_first}
use Rattle.model.specs.Events.{kind_of, is_act, is_act_kind, Edition, Law, is_event, is_strict, is_write, is_notify, is_wait, is_write_to, address_of, value_of, label_of, count_of, acts_of, source_in, names, observed, precedes, covered, overwritten, covered_to, written_to, written_behind}
use Rattle.model.specs.Lawful.{Before, ◌when◌, read_reasons, kind_reasons, reasons_of, first_applying, verdict, found_as}
use Rattle.model.specs.Renamed.{Renaming, source_renamed, renamed, RenamingRule}
use Rattle.model.proofs.Places.{any_same}
use Rattle.model.proofs.WellMade.{SourceFits, Fits, AllFit, fits, all_fit, thread-known}

-- Tests and quantifiers --------------------------------------------------------------------------------------------

pub bool_same : (b c : Bool) → (b ≡ true → c ≡ true) → (c ≡ true → b ≡ true) → b ≡ c
bool_same true c f g = sym (f refl)
bool_same false true f g = g refl
bool_same false false f g = refl

pub any-in : (n : ℕ) (p : ℕ → Bool) (k : ℕ) → k < n → p k ≡ true → any_below n p ≡ true
any-in zero p k l e = absurd (not-suc-le-zero l)
any-in (suc n) p k l e = go (any-in n p k) (p n) refl
  where
    go : (k < n → p k ≡ true → any_below n p ≡ true) → (b : Bool) → p n ≡ b → (b || any_below n p) ≡ true
    go next true q = refl
    go next false q = next (⊎_elim (λ (a : k < n). a) (λ (a : n ≤ k). let s : k ≡ n = omega arith in absurd (false≢true (sym q ∙ ap p (sym s) ∙ e))) (cases_lt k n)) e

pub any_out : (n : ℕ) (p : ℕ → Bool) → any_below n p ≡ true → (k : ℕ) × (k < n) × (p k ≡ true)
any_out zero p e = absurd (false≢true e)
any_out (suc n) p e = go (any_out n p) (p n) refl e
  where
    go : (any_below n p ≡ true → (k : ℕ) × (k < n) × (p k ≡ true)) → (b : Bool) → p n ≡ b → (b || any_below n p) ≡ true → (k : ℕ) × (k < suc n) × (p k ≡ true)
    go next true q e = (n, omega arith, q)
    go next false q e = let r = next e in (r.0, omega arith, r.2)

-- Lists under a map that leaves what is asked of a record as it was ------------------------------------------------

module _ (ρ : Record → Record) where
  at_map : {A : Type 0} (d : A) (f : Record → A) (xs : List Record) (k : ℕ) → ((x : Record) → f (ρ x) ≡ f x) → at_place d f (map ρ xs) k ≡ at_place d f xs k
  at_map d f [] k h = refl
  at_map d f (x ∷ xs) zero h = h x
  at_map d f (x ∷ xs) (suc k) h = at_map d f xs k h

  count_map : (p : Record → Bool) (xs : List Record) → ((x : Record) → p (ρ x) ≡ p x) → how_many p (map ρ xs) ≡ how_many p xs
  count_map p [] h = refl
  count_map p (x ∷ xs) h = λ i. cond (h x i) (suc (count_map p xs h i)) (count_map p xs h i)

  place_map : (p : Record → Bool) (n : ℕ) (xs : List Record) → ((x : Record) → p (ρ x) ≡ p x) → place_of p n (map ρ xs) ≡ place_of p n xs
  place_map p n [] h = refl
  place_map p n (x ∷ xs) h =
      ap (λ (b : Bool). cond (b && eqb n 1) (Some 0) (one_further (place_of p (cond b (n - 1) n) (map ρ xs)))) (h x) ∙ ap (λ (o : Option ℕ). cond (p x && eqb n 1) (Some 0) (one_further o)) (place_map p (cond (p x) (n - 1) n) xs h)

-- where the n-th such record is, there is such a record
abbrev pub IsAt : (Record → Bool) → List Record → Option ℕ → Type 0
IsAt p xs None = Unit {0}
IsAt p xs (Some k) = is_at p xs k ≡ true

is-at-later : (p : Record → Bool) (x : Record) (xs : List Record) (o : Option ℕ) → IsAt p xs o → IsAt p (x ∷ xs) (one_further o)
is-at-later p x xs None h = tt
is-at-later p x xs (Some k) h = h

pub place_is : (p : Record → Bool) (n : ℕ) (xs : List Record) → IsAt p xs (place_of p n xs)
place_is p n [] = tt
place_is p n (x ∷ xs) = go (place_is p (cond (p x) (n - 1) n) xs) (p x) refl (eqb n 1)
  where
    go : IsAt p xs (place_of p (cond (p x) (n - 1) n) xs) → (b : Bool) → p x ≡ b → (c : Bool) → IsAt p (x ∷ xs) (cond (b && c) (Some 0) (one_further (place_of p (cond (p x) (n - 1) n) xs)))
    go next true q true = q
    go next true q false = is-at-later p x xs (place_of p (cond (p x) (n - 1) n) xs) next
    go next false q c = is-at-later p x xs (place_of p (cond (p x) (n - 1) n) xs) next

stands-where-at : (p : Record → Bool) (xs : List Record) (o : Option ℕ) (f g : ℕ → Bool) → IsAt p xs o → ((k : ℕ) → is_at p xs k ≡ true → f k ≡ g k) → stands_where o f ≡ stands_where o g
stands-where-at p xs None f g a h = refl
stands-where-at p xs (Some k) f g a h = h k a

-- Renamings --------------------------------------------------------------------------------------------------------

pub eqb-there : (n : ℕ) (τ τ' : ℕ → ℕ) → Renaming n τ τ' → (a b : ℕ) → a < n → b < n → eqb (τ a) (τ b) ≡ eqb a b
eqb-there n τ τ' R a b la lb =
    bool_same (eqb (τ a) (τ b)) (eqb a b)
    (λ e. eq-eqb a b (sym (R.back_there a la) ∙ ap τ' (eqb-true (τ a) (τ b) e) ∙ R.back_there b lb))
    (λ e. eq-eqb (τ a) (τ b) (ap τ (eqb-true a b e)))

-- some number below n is such, under other names
any-there : (n : ℕ) (τ τ' : ℕ → ℕ) → Renaming n τ τ' → (f g : ℕ → Bool) → ((u : ℕ) → u < n → f (τ u) ≡ g u) → any_below n f ≡ any_below n g
any-there n τ τ' R f g h =
    bool_same (any_below n f) (any_below n g)
    (λ e. let r = any_out n f e in any-in n g (τ' r.0) (R.back_below r.0 r.1) (sym (h (τ' r.0) (R.back_below r.0 r.1)) ∙ ap f (R.there_back r.0 r.1) ∙ r.2))
    (λ e. let r = any_out n g e in any-in n f (τ r.0) (R.there_below r.0 r.1) (h r.0 r.1 ∙ r.2))

module _ (c : Counts) (τ τ' α α' : ℕ → ℕ) (Rτ : Renaming c.threads τ τ') (Rα : Renaming c.addresses α α') where
  abbrev pub ρ : Record → Record
  ρ x = renamed τ α x

  pub thread-ρ : (x : Record) → thread_of (ρ x) ≡ τ (thread_of x)
  thread-ρ (Write w) = refl
  thread-ρ (Read r) = refl
  thread-ρ (Fence f) = refl
  thread-ρ (Notify n) = refl
  thread-ρ (Wait w) = refl

  kind-ρ : (x : Record) → kind_of (ρ x) ≡ kind_of x
  kind-ρ (Write w) = refl
  kind-ρ (Read r) = refl
  kind-ρ (Fence f) = refl
  kind-ρ (Notify n) = refl
  kind-ρ (Wait w) = refl

  write-ρ : (x : Record) → is_write (ρ x) ≡ is_write x
  write-ρ (Write w) = refl
  write-ρ (Read r) = refl
  write-ρ (Fence f) = refl
  write-ρ (Notify n) = refl
  write-ρ (Wait w) = refl

  notify-ρ : (x : Record) → is_notify (ρ x) ≡ is_notify x
  notify-ρ (Write w) = refl
  notify-ρ (Read r) = refl
  notify-ρ (Fence f) = refl
  notify-ρ (Notify n) = refl
  notify-ρ (Wait w) = refl

  wait-ρ : (x : Record) → is_wait (ρ x) ≡ is_wait x
  wait-ρ (Write w) = refl
  wait-ρ (Read r) = refl
  wait-ρ (Fence f) = refl
  wait-ρ (Notify n) = refl
  wait-ρ (Wait w) = refl

  value-ρ : (x : Record) → value_of (ρ x) ≡ value_of x
  value-ρ (Write w) = refl
  value-ρ (Read r) = refl
  value-ρ (Fence f) = refl
  value-ρ (Notify n) = refl
  value-ρ (Wait w) = refl

  label-ρ : (x : Record) → label_of (ρ x) ≡ label_of x
  label-ρ (Write w) = refl
  label-ρ (Read r) = refl
  label-ρ (Fence f) = refl
  label-ρ (Notify n) = refl
  label-ρ (Wait w) = refl

  act-ρ : (x : Record) → is_act (ρ x) ≡ is_act x
  act-ρ x = ap is_act_kind (kind-ρ x)

  write-to-ρ : (a : ℕ) → a < c.addresses → (x : Record) → Fits c x → is_write_to (α a) (ρ x) ≡ is_write_to a x
  write-to-ρ a l (Write w) h = eqb-there c.addresses α α' Rα w.address a h.1 l
  write-to-ρ a l (Read r) h = refl
  write-to-ρ a l (Fence f) h = refl
  write-to-ρ a l (Notify n) h = refl
  write-to-ρ a l (Wait w) h = refl

  is-write-to : (a : ℕ) → a < c.addresses → (xs : List Record) → AllFit c xs → (k : ℕ) → is_at (is_write_to (α a)) (map ρ xs) k ≡ is_at (is_write_to a) xs k
  is-write-to a l [] h k = refl
  is-write-to a l (x ∷ xs) h zero = write-to-ρ a l x h.0
  is-write-to a l (x ∷ xs) h (suc k) = is-write-to a l xs h.1 k

  address-ρ : (x : Record) → Fits c x → is_write x ≡ true → (address_of (ρ x) ≡ α (address_of x)) × (address_of x < c.addresses)
  address-ρ (Write w) h e = (refl, h.1)
  address-ρ (Read r) h e = absurd (false≢true e)
  address-ρ (Fence f) h e = absurd (false≢true e)
  address-ρ (Notify n) h e = absurd (false≢true e)
  address-ρ (Wait w) h e = absurd (false≢true e)

  -- the address of a write
  at_address : (xs : List Record) → AllFit c xs → (k : ℕ) → is_at is_write xs k ≡ true → (at_place 0 address_of (map ρ xs) k ≡ α (at_place 0 address_of xs k)) × (at_place 0 address_of xs k < c.addresses)
  at_address [] h k e = absurd (false≢true e)
  at_address (x ∷ xs) h zero e = address-ρ x h.0 e
  at_address (x ∷ xs) h (suc k) e = at_address xs h.1 k e

  precedes-ρ : (E : Edition) (xs : List Record) (e f : ℕ) → precedes E (map ρ xs) e f ≡ precedes E xs e f
  precedes-ρ E xs e f =
      λ i. ltb e f && at_map ρ false (is_event E) xs e (λ x. λ i. write-ρ x i || E.strictly (kind-ρ x i)) i && at_map ρ false (is_event E) xs f (λ x. λ i. write-ρ x i || E.strictly (kind-ρ x i)) i && (at_map ρ false (is_strict E) xs e (λ x. λ i. E.strictly (kind-ρ x i)) i || at_map ρ false (is_strict E) xs f (λ x. λ i. E.strictly (kind-ρ x i)) i || any_below f (λ k. ltb e k && at_map ρ false (is_strict E) xs k (λ x. λ i. E.strictly (kind-ρ x i)) i))

  covered-ρ : (E : Edition) (xs : List Record) (seen : List ℕ) (w : ℕ) → covered E (map ρ xs) seen w ≡ covered E xs seen w
  covered-ρ E xs seen w = λ i. at_map ρ false is_write xs w write-ρ i && any_of seen (λ e. eqb w e || precedes-ρ E xs w e i)

  overwritten-ρ : (E : Edition) (xs : List Record) → AllFit c xs → (seen : List ℕ) (w : ℕ) → is_at is_write xs w ≡ true → overwritten E (map ρ xs) seen w ≡ overwritten E xs seen w
  overwritten-ρ E xs h seen w e =
      ap (λ (n : ℕ). any_below n (λ v. covered E (map ρ xs) seen v && precedes E (map ρ xs) w v && eqb (at_place 0 address_of (map ρ xs) v) (at_place 0 address_of (map ρ xs) w))) (length-map xs ρ) ∙ any_same (length xs) _ _ (λ v l. (λ i. covered-ρ E xs seen v i && precedes-ρ E xs w v i && eqb (at_place 0 address_of (map ρ xs) v) (at_place 0 address_of (map ρ xs) w)) ∙ last v (is_at is_write xs v) refl)
    where
      last : (v : ℕ) (b : Bool) → is_at is_write xs v ≡ b → (b && any_of seen (λ e. eqb v e || precedes E xs v e) && precedes E xs w v && eqb (at_place 0 address_of (map ρ xs) v) (at_place 0 address_of (map ρ xs) w)) ≡ (b && any_of seen (λ e. eqb v e || precedes E xs v e) && precedes E xs w v && eqb (at_place 0 address_of xs v) (at_place 0 address_of xs w))
      last v false q = refl
      last v true q =
          let a = at_address xs h v q in
          let d = at_address xs h w e in
          ap (λ (b : Bool). any_of seen (λ e. eqb v e || precedes E xs v e) && precedes E xs w v && b) ((λ i. eqb (a.0 i) (d.0 i)) ∙ eqb-there c.addresses α α' Rα (at_place 0 address_of xs v) (at_place 0 address_of xs w) a.1 d.1)

  pub fit_append : (xs ys : List Record) → AllFit c xs → AllFit c ys → AllFit c (xs ++ ys)
  fit_append [] ys h k = k
  fit_append (x ∷ xs) ys h k = (h.0, fit_append xs ys h.1 k)

  pub only-fits : (q : Record → Bool) (h : List Record) → AllFit c h → AllFit c (oldest_first q h)
  only-fits q [] f = tt
  only-fits q (x ∷ h) f = fit_append (oldest_first q h) (cond (q x) (x ∷ []) []) (only-fits q h f.1) (elim (q x) as (λ b. AllFit c (cond b (x ∷ []) [])) [ true ↦ (f.0, tt) | false ↦ tt ])

  acts-fits : (u : ℕ) (h : List Record) → AllFit c h → AllFit c (acts_of u h)
  acts-fits u h f = only-fits (λ x. eqb (thread_of x) u && is_act x) h f

  only-ρ : (q p : Record → Bool) → ((x : Record) → Fits c x → q (ρ x) ≡ p x) → (h : List Record) → AllFit c h → oldest_first q (map ρ h) ≡ map ρ (oldest_first p h)
  only-ρ q p e [] f = refl
  only-ρ q p e (x ∷ h) f = (λ i. only-ρ q p e h f.1 i ++ cond (e x f.0 i) (ρ x ∷ []) []) ∙ go (p x)
    where
      go : (b : Bool) → map ρ (oldest_first p h) ++ cond b (ρ x ∷ []) [] ≡ map ρ (oldest_first p h ++ cond b (x ∷ []) [])
      go true = sym (map-append ρ (oldest_first p h) (x ∷ []))
      go false = sym (map-append ρ (oldest_first p h) [])

  pub thread-test : (u : ℕ) → u < c.threads → (x : Record) → Fits c x → eqb (thread_of (ρ x)) (τ u) ≡ eqb (thread_of x) u
  thread-test u l x f = ap (λ (k : ℕ). eqb k (τ u)) (thread-ρ x) ∙ eqb-there c.threads τ τ' Rτ (thread_of x) u (thread-known c x f) l

  pub size-ρ : (u : ℕ) → u < c.threads → (h : List Record) → AllFit c h → count_of (τ u) (map ρ h) ≡ count_of u h
  size-ρ u l [] f = refl
  size-ρ u l (x ∷ h) f = λ i. cond (thread-test u l x f.0 i) (suc (size-ρ u l h f.1 i)) (size-ρ u l h f.1 i)

  pub acts-ρ : (u : ℕ) → u < c.threads → (h : List Record) → AllFit c h → acts_of (τ u) (map ρ h) ≡ map ρ (acts_of u h)
  acts-ρ u l h f = only-ρ (λ x. eqb (thread_of x) (τ u) && is_act x) (λ x. eqb (thread_of x) u && is_act x) (λ x g. λ i. thread-test u l x g i && act-ρ x i) h f

  source-ρ : (u : ℕ) → u < c.threads → (h : List Record) → AllFit c h → (s : Source) → SourceFits c s → source_in (τ u) (map ρ h) (source_renamed τ s) ≡ source_in u h s
  source-ρ u l h f Initial g = refl
  source-ρ u l h f (WriteOf w n) g = λ i. cond (eqb-there c.threads τ τ' Rτ w u g l i) ((ap (place_of is_write n) (acts-ρ u l h f) ∙ place_map ρ is_write n (acts_of u h) write-ρ) i) None

  pub names-ρ : (u : ℕ) → u < c.threads → (h : List Record) → AllFit c h → (x : Record) → Fits c x → names (τ u) (map ρ h) (ρ x) ≡ names u h x
  names-ρ u l h f (Write w) g = refl
  names-ρ u l h f (Read r) g = source-ρ u l h f r.source g.2
  names-ρ u l h f (Fence k) g = refl
  names-ρ u l h f (Notify k) g = refl
  names-ρ u l h f (Wait k) g = (λ i. place_of is_notify (suc ((ap (how_many is_wait) (acts-ρ k.thread g h f) ∙ count_map ρ is_wait (acts_of k.thread h) wait-ρ) i)) (acts-ρ u l h f i)) ∙ place_map ρ is_notify (suc (how_many is_wait (acts_of k.thread h))) (acts_of u h) notify-ρ

  observed-ρ : (L : Law) (r u : ℕ) → r < c.threads → u < c.threads → (h : List Record) → AllFit c h → observed L (τ r) (τ u) (map ρ h) ≡ observed L r u h
  observed-ρ L r u lr lu [] f = refl
  observed-ρ L r u lr lu (x ∷ h) f =
      λ i. cond (thread-test r lr x f.0 i) (L.rule.keeps (λ e g. (ap (λ (xs : List Record). precedes L.edition xs e g) (acts-ρ u lu h f.1) ∙ precedes-ρ L.edition (acts_of u h) e g) i) (observed-ρ L r u lr lu h f.1 i) (kind-ρ x i) (names-ρ u lu h f.1 x f.0 i)) (observed-ρ L r u lr lu h f.1 i)

  -- what a source names is a write
  source-write : (u : ℕ) (h : List Record) (s : Source) → IsAt is_write (acts_of u h) (source_in u h s)
  source-write u h Initial = tt
  source-write u h (WriteOf w n) = elim (eqb w u) as (λ b. IsAt is_write (acts_of u h) (cond b (place_of is_write n (acts_of u h)) None)) [ true ↦ place_is is_write n (acts_of u h) | false ↦ tt ]

  covered-to-ρ : (E : Edition) (a : ℕ) → a < c.addresses → (xs : List Record) → AllFit c xs → (seen : List ℕ) → covered_to E (map ρ xs) seen (α a) ≡ covered_to E xs seen a
  covered-to-ρ E a l xs f seen = λ i. any_below (length-map xs ρ i) (λ w. covered-ρ E xs seen w i && is-write-to a l xs f w i)

  written-to-ρ : (a : ℕ) → a < c.addresses → (xs : List Record) → AllFit c xs → written_to (map ρ xs) (α a) ≡ written_to xs a
  written-to-ρ a l xs f = λ i. any_below (length-map xs ρ i) (λ k. is-write-to a l xs f k i)

  written-behind-ρ : (a : ℕ) → a < c.addresses → (xs : List Record) → AllFit c xs → (w : ℕ) → written_behind (map ρ xs) w (α a) ≡ written_behind xs w a
  written-behind-ρ a l xs f w = λ i. any_below (length-map xs ρ i) (λ k. ltb w k && is-write-to a l xs f k i)

  module _ (L : Law) (h : List Record) (all : AllFit c h) where
    -- what stands earlier than a record of thread t that names these
    abbrev earlier : ℕ → ℕ → (ℕ → Option ℕ) → Before
    earlier t index old = record { index = index; acts = λ u. acts_of u h; seen = λ u. observed L t u h; named = old }

    abbrev earlier-ρ : ℕ → ℕ → (ℕ → Option ℕ) → Before
    earlier-ρ t index new = record { index = index; acts = λ u. acts_of u (map ρ h); seen = λ u. observed L (τ t) u (map ρ h); named = new }

    module _ (t : ℕ) (lt : t < c.threads) (new old : ℕ → Option ℕ) (nameds : (u : ℕ) → u < c.threads → new (τ u) ≡ old u) where
      recs : (u : ℕ) → u < c.threads → acts_of (τ u) (map ρ h) ≡ map ρ (acts_of u h)
      recs u l = acts-ρ u l h all

      seens : (u : ℕ) → u < c.threads → observed L (τ t) (τ u) (map ρ h) ≡ observed L t u h
      seens u l = observed-ρ L t u lt l h all

      other : (u : ℕ) → u < c.threads → not (eqb (τ u) (τ t)) ≡ not (eqb u t)
      other u l = ap not (eqb-there c.threads τ τ' Rτ u t l lt)

      module _ (a : ℕ) (la : a < c.addresses) (u : ℕ) (lu : u < c.threads) (writes : IsAt is_write (acts_of u h) (old u)) where
        other_address : stands_where (new (τ u)) (λ w. not (eqb (at_place 0 address_of (acts_of (τ u) (map ρ h)) w) (α a))) ≡ stands_where (old u) (λ w. not (eqb (at_place 0 address_of (acts_of u h) w) a))
        other_address =
            (λ i. stands_where (nameds u lu i) (λ w. not (eqb (at_place 0 address_of (recs u lu i) w) (α a)))) ∙ stands-where-at is_write (acts_of u h) (old u) _ _ writes (λ k q. let d = at_address (acts_of u h) (acts-fits u h all) k q in ap not (ap (λ (b : ℕ). eqb b (α a)) d.0 ∙ eqb-there c.addresses α α' Rα (at_place 0 address_of (acts_of u h) k) a d.1 la))

        other_value : (v : ℕ) → stands_where (new (τ u)) (λ w. not (eqb (at_place 0 value_of (acts_of (τ u) (map ρ h)) w) v)) ≡ stands_where (old u) (λ w. not (eqb (at_place 0 value_of (acts_of u h) w) v))
        other_value v = (λ i. stands_where (nameds u lu i) (λ w. not (eqb (at_place 0 value_of (recs u lu i) w) v))) ∙ (λ i. stands_where (old u) (λ w. not (eqb (at_map ρ 0 value_of (acts_of u h) w value-ρ i) v)))

        own-later : (eqb (τ u) (τ t) && stands_where (new (τ u)) (λ w. written_behind (acts_of (τ u) (map ρ h)) w (α a))) ≡ (eqb u t && stands_where (old u) (λ w. written_behind (acts_of u h) w a))
        own-later =
            (λ i. eqb-there c.threads τ τ' Rτ u t lu lt i && stands_where (nameds u lu i) (λ w. written_behind (recs u lu i) w (α a))) ∙ (λ i. eqb u t && stands_where (old u) (λ w. written-behind-ρ a la (acts_of u h) (acts-fits u h all) w i))

        over : (not (eqb (τ u) (τ t)) && stands_where (new (τ u)) (λ w. overwritten L.edition (acts_of (τ u) (map ρ h)) (observed L (τ t) (τ u) (map ρ h)) w)) ≡ (not (eqb u t) && stands_where (old u) (λ w. overwritten L.edition (acts_of u h) (observed L t u h) w))
        over =
            (λ i. other u lu i && stands_where (nameds u lu i) (λ w. overwritten L.edition (recs u lu i) (seens u lu i) w)) ∙ ap (λ (b : Bool). not (eqb u t) && b) (stands-where-at is_write (acts_of u h) (old u) _ _ writes (λ k q. overwritten-ρ L.edition (acts_of u h) (acts-fits u h all) (observed L t u h) k q))

      gone : (a : ℕ) → a < c.addresses → (written_to (acts_of (τ t) (map ρ h)) (α a) || any_below c.threads (λ u. not (eqb u (τ t)) && covered_to L.edition (acts_of u (map ρ h)) (observed L (τ t) u (map ρ h)) (α a))) ≡ (written_to (acts_of t h) a || any_below c.threads (λ u. not (eqb u t) && covered_to L.edition (acts_of u h) (observed L t u h) a))
      gone a la =
          λ i. (ap (λ (xs : List Record). written_to xs (α a)) (recs t lt) ∙ written-to-ρ a la (acts_of t h) (acts-fits t h all)) i || any-there c.threads τ τ' Rτ (λ u. not (eqb u (τ t)) && covered_to L.edition (acts_of u (map ρ h)) (observed L (τ t) u (map ρ h)) (α a)) (λ u. not (eqb u t) && covered_to L.edition (acts_of u h) (observed L t u h) a) (λ u lu. (λ j. other u lu j && covered_to L.edition (recs u lu j) (seens u lu j) (α a)) ∙ ap (λ (b : Bool). not (eqb u t) && b) (covered-to-ρ L.edition a la (acts_of u h) (acts-fits u h all) (observed L t u h))) i

      notified : how_many is_notify (acts_of (τ t) (map ρ h)) ≡ how_many is_notify (acts_of t h)
      notified = ap (how_many is_notify) (recs t lt) ∙ count_map ρ is_notify (acts_of t h) notify-ρ

      waited : how_many is_wait (acts_of (τ t) (map ρ h)) ≡ how_many is_wait (acts_of t h)
      waited = ap (how_many is_wait) (recs t lt) ∙ count_map ρ is_wait (acts_of t h) wait-ρ

      absent-notify : any_below c.threads (λ u. not (eqb u (τ t)) && missing (new u)) ≡ any_below c.threads (λ u. not (eqb u t) && missing (old u))
      absent-notify = any-there c.threads τ τ' Rτ _ _ (λ u lu. λ i. other u lu i && missing (nameds u lu i))

      other-label : (l : ℕ) → any_below c.threads (λ u. stands_where (new u) (λ k. not (eqb (at_place 0 label_of (acts_of u (map ρ h)) k) l))) ≡ any_below c.threads (λ u. stands_where (old u) (λ k. not (eqb (at_place 0 label_of (acts_of u h) k) l)))
      other-label l =
          any-there c.threads τ τ' Rτ _ _ (λ u lu. (λ i. stands_where (nameds u lu i) (λ k. not (eqb (at_place 0 label_of (recs u lu i) k) l))) ∙ (λ i. stands_where (old u) (λ k. not (eqb (at_map ρ 0 label_of (acts_of u h) k label-ρ i) l))))

    module _ (index : ℕ) (new old : ℕ → Option ℕ) (nameds : (u : ℕ) → u < c.threads → new (τ u) ≡ old u) where
      read-reasons : (r : ReadRecord) (s : Source) → r.thread < c.threads → r.address < c.addresses → SourceFits c s → ((u : ℕ) → IsAt is_write (acts_of u h) (old u)) → read_reasons L.edition c.threads (earlier-ρ r.thread index new) (record { thread = τ r.thread; address = α r.address; source = source_renamed τ r.source; mode = r.mode; value = r.value }) (source_renamed τ s) ≡ read_reasons L.edition c.threads (earlier r.thread index old) r s
      read-reasons r (WriteOf u n) lt la lu writes =
          λ i. (NotWrittenYet when missing (nameds u lu i))
          ∷ (OtherAddress when other_address r.thread lt new old nameds r.address la u lu (writes u) i)
          ∷ (OtherValue when other_value r.thread lt new old nameds r.address la u lu (writes u) r.value i)
          ∷ (OwnLaterWrite when own-later r.thread lt new old nameds r.address la u lu (writes u) i)
          ∷ (Overwritten when over r.thread lt new old nameds r.address la u lu (writes u) i)
          ∷ []
      read-reasons r Initial lt la ls writes =
          λ i. (OtherValue when not (eqb r.value 0))
          ∷ (InitialGone when gone r.thread lt new old nameds r.address la i)
          ∷ []

    kind-reasons : (x : Record) → Fits c x → (index : ℕ) → kind_reasons L.edition c.threads (earlier-ρ (thread_of x) index (λ u. names u (map ρ h) (ρ x))) (ρ x) ≡ kind_reasons L.edition c.threads (earlier (thread_of x) index (λ u. names u h x)) x
    kind-reasons (Write w) g index = refl
    kind-reasons (Read r) g index = read-reasons index (λ u. names u (map ρ h) (ρ (Read r))) (λ u. names u h (Read r)) (λ u l. names-ρ u l h all (Read r) g) r r.source g.0 g.1 g.2 (λ u. source-write u h r.source)
    kind-reasons (Fence f) g index = refl
    kind-reasons (Notify n) g index =
        λ i. (NotifyOutOfTurn when not (eqb (notified n.thread g (λ u. None) (λ u. None) (λ u l. refl) i) (waited n.thread g (λ u. None) (λ u. None) (λ u l. refl) i))) ∷ []
    kind-reasons (Wait w) g index =
        λ i. (WaitOutOfTurn when not (eqb (notified w.thread g new old nameds i) (suc (waited w.thread g new old nameds i))))
        ∷ (NotifyMissing when absent-notify w.thread g new old nameds i)
        ∷ (OtherLabel when other-label w.thread g new old nameds w.label i)
        ∷ []
      where
        new : ℕ → Option ℕ
        new u = names u (map ρ h) (ρ (Wait w))

        old : ℕ → Option ℕ
        old u = names u h (Wait w)

        nameds : (u : ℕ) → u < c.threads → new (τ u) ≡ old u
        nameds u l = names-ρ u l h all (Wait w) g

    pub verdict-ρ : (x : Record) → Fits c x → verdict L c.threads (map ρ h) (ρ x) ≡ verdict L c.threads h x
    verdict-ρ x g =
        (λ i. first_applying (reasons_of L.edition c.threads (record { index = count_of (thread-ρ x i) (map ρ h); acts = λ u. acts_of u (map ρ h); seen = λ u. observed L (thread-ρ x i) u (map ρ h); named = λ u. names u (map ρ h) (ρ x) }) (ρ x))) ∙ (λ i. first_applying ((TooManyRecords when leb 512 (size-ρ (thread_of x) (thread-known c x g) h all i)) ∷ kind-reasons x g (size-ρ (thread_of x) (thread-known c x g) h all i) i))

pub renaming-rule : RenamingRule
renaming-rule L c τ τ' α α' Rτ Rα [] w t i l = refl
renaming-rule L c τ τ' α α' Rτ Rα (x ∷ h) w t i l =
    λ j. cond (thread-test c τ τ' α α' Rτ Rα t l x (fits c x w.0) j && eqb (size-ρ c τ τ' α α' Rτ Rα t l h (all_fit c h w.1) j) i) (found_as (verdict-ρ c τ τ' α α' Rτ Rα L h (all_fit c h w.1) x (fits c x w.0) j)) (renaming-rule L c τ τ' α α' Rτ Rα h w.1 t i l j)
