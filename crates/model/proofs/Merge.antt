-- The merge rule: a thread's verdicts follow from the threads' own accounts alone.
use Rattle.std.proofs.Common.{◌≡◌, ℕ, suc, ◌≤◌, Bool, true, false, cond, not, ◌&&◌, eqb, ltb, List, [], ◌∷◌, ◌++◌, length, Some, None, Option, sym, refl, ap, ◌∙◌, subst, append_assoc, append-nil, arith, length-append, eq-eqb, eqb-true}
use Rattle.record.specs.declared.kinds.Source.{Source}
use Rattle.record.specs.declared.kinds.Source.TheVariants.{Initial, Write as WriteOf}
use Rattle.record.specs.declared.kinds.Record.{Record}
use Rattle.record.specs.declared.kinds.Record.TheVariants.{Write, Read, Fence, Notify, Wait}
use Rattle.record.specs.WellMade.{thread_of}
use Rattle.model.specs.declared.reasons.Reason.{Reason}
use Rattle.model.specs.Places.{missing, how_many, place_of}
use Rattle.model.specs.Events.{is_write, is_notify, is_wait, is_act, kind_of, count_of, acts_of, source_in, names, precedes, Law, observed}
use Rattle.model.specs.Lawful.{Before, reasons_of, first_applying, verdict, found_as, Found, absent, verdict_at}
use Rattle.model.specs.Merge.{Entry, entry_of, account, Alike, MergeRule}
use Rattle.model.proofs.Places.{Inside, AllInside, StillThere, all-inside-more, each-inside, inside-each, there-inside, place_inside, place-grown, precedes-grown}
use Rattle.model.proofs.Wider.{reasons-wider}

-- The event that a record names, from its own thread's acts and those of u alone -----------------------------------

abbrev pub source_from : ℕ → List Record → Source → Option ℕ
source_from u xs Initial = None
source_from u xs (WriteOf w n) = cond (eqb w u) (place_of is_write n xs) None

abbrev pub names_of : ℕ → List Record → List Record → Record → Option ℕ
names_of u own xs (Write w) = None
names_of u own xs (Read r) = source_from u xs r.source
names_of u own xs (Fence f) = None
names_of u own xs (Notify n) = None
names_of u own xs (Wait w) = place_of is_notify (suc (how_many is_wait own)) xs

source-from : (u : ℕ) (h : List Record) (s : Source) → source_in u h s ≡ source_from u (acts_of u h) s
source-from u h Initial = refl
source-from u h (WriteOf w n) = refl

pub names-of : (u : ℕ) (h : List Record) (x : Record) → names u h x ≡ names_of u (acts_of (thread_of x) h) (acts_of u h) x
names-of u h (Write w) = refl
names-of u h (Read r) = source-from u h r.source
names-of u h (Fence f) = refl
names-of u h (Notify n) = refl
names-of u h (Wait w) = refl

source-inside : (u : ℕ) (h : List Record) (s : Source) → Inside (length (acts_of u h)) (source_in u h s)
source-inside u h Initial = tt
source-inside u h (WriteOf w n) = elim (eqb w u) as (λ b. Inside (length (acts_of u h)) (cond b (place_of is_write n (acts_of u h)) None)) [ true ↦ place_inside is_write n (acts_of u h) | false ↦ tt ]

pub names-inside : (u : ℕ) (h : List Record) (x : Record) → Inside (length (acts_of u h)) (names u h x)
names-inside u h (Write w) = tt
names-inside u h (Read r) = source-inside u h r.source
names-inside u h (Fence f) = tt
names-inside u h (Notify n) = tt
names-inside u h (Wait w) = place_inside is_notify (suc (how_many is_wait (acts_of w.thread h))) (acts_of u h)

source-grown : (u : ℕ) (xs zs : List Record) (s : Source) → StillThere (source_from u xs s) (source_from u (xs ++ zs) s)
source-grown u xs zs Initial = tt
source-grown u xs zs (WriteOf w n) = elim (eqb w u) as (λ b. StillThere (cond b (place_of is_write n xs) None) (cond b (place_of is_write n (xs ++ zs)) None)) [ true ↦ place-grown is_write n xs zs | false ↦ tt ]

pub names-grown : (u : ℕ) (own xs zs : List Record) (x : Record) → StillThere (names_of u own xs x) (names_of u own (xs ++ zs) x)
names-grown u own xs zs (Write w) = tt
names-grown u own xs zs (Read r) = source-grown u xs zs r.source
names-grown u own xs zs (Fence f) = tt
names-grown u own xs zs (Notify n) = tt
names-grown u own xs zs (Wait w) = place-grown is_notify (suc (how_many is_wait own)) xs zs

acts-grow : (u : ℕ) (x : Record) (h : List Record) → length (acts_of u h) ≤ length (acts_of u (x ∷ h))
acts-grow u x h = omega (arith, length-append (acts_of u h) (cond (eqb (thread_of x) u && is_act x) (x ∷ []) []))

pub observed-inside : (L : Law) (r u : ℕ) (h : List Record) → AllInside (length (acts_of u h)) (observed L r u h)
observed-inside L r u [] = tt
observed-inside L r u (x ∷ h) =
    all-inside-more (length (acts_of u h)) (length (acts_of u (x ∷ h))) (observed L r u (x ∷ h)) (acts-grow u x h)
    (elim (eqb (thread_of x) r) as (λ b. AllInside (length (acts_of u h)) (cond b (L.rule.keeps (precedes L.edition (acts_of u h)) (observed L r u h) (kind_of x) (names u h x)) (observed L r u h))) [
      | true ↦ inside-each (length (acts_of u h)) _ (L.rule.from (precedes L.edition (acts_of u h)) (observed L r u h) (kind_of x) (names u h x) (λ k. ltb k (length (acts_of u h))) (each-inside (length (acts_of u h)) (observed L r u h) (observed-inside L r u h)) (there-inside (length (acts_of u h)) (names u h x) (names-inside u h x)))
      | false ↦ observed-inside L r u h
    ])

-- The same from accounts -------------------------------------------------------------------------------------------

-- the acts of an account, the oldest first
abbrev pub own : List Entry → List Record
own [] = []
own (e ∷ es) = own es ++ cond (is_act e.what) (e.what ∷ []) []

pub own_is : (t : ℕ) (h : List Record) → own (account t h) ≡ acts_of t h
own_is t [] = refl
own_is t (x ∷ h) =
    elim (eqb (thread_of x) t) as (λ b. own (cond b (entry_of h x ∷ []) [] ++ account t h) ≡ acts_of t h ++ cond (b && is_act x) (x ∷ []) []) [
      | true ↦ ap (λ (xs : List Record). xs ++ cond (is_act x) (x ∷ []) []) (own_is t h)
      | false ↦ own_is t h ∙ sym (append-nil (acts_of t h))
    ]

-- an account has as many entries as the thread has records
pub account-long : (t : ℕ) (h : List Record) → length (account t h) ≡ count_of t h
account-long t [] = refl
account-long t (x ∷ h) = elim (eqb (thread_of x) t) as (λ b. length (cond b (entry_of h x ∷ []) [] ++ account t h) ≡ cond b (suc (count_of t h)) (count_of t h)) [ true ↦ ap suc (account-long t h) | false ↦ account-long t h ]

-- the history h is a first part of the records S of all threads
abbrev pub Part : (ℕ → List Record) → List Record → Type 0
Part S h = (u : ℕ) → (rest : List Record) × (S u ≡ acts_of u h ++ rest)

pub part-tail : (S : ℕ → List Record) (x : Record) (h : List Record) → Part S (x ∷ h) → Part S h
part-tail S x h p u = (cond (eqb (thread_of x) u && is_act x) (x ∷ []) [] ++ (p u).0, (p u).1 ∙ append_assoc (acts_of u h) (cond (eqb (thread_of x) u && is_act x) (x ∷ []) []) (p u).0)

-- the verdicts of a thread's records, the newest first
abbrev verdicts : Law → ℕ → ℕ → List Record → List (Option Reason)
verdicts L T t [] = []
verdicts L T t (x ∷ h) = cond (eqb (thread_of x) t) (verdict L T h x ∷ []) [] ++ verdicts L T t h

module _ (L : Law) (S : ℕ → List Record) (t : ℕ) where
  abbrev pub names_from : List Entry → Entry → ℕ → Option ℕ
  names_from es e u = cond (eqb u t) (names_of u (own es) (own es) e.what) (cond (e.stood u) (names_of u (own es) (S u) e.what) None)

  abbrev pub wide_from : List Entry → ℕ → List Record
  wide_from es u = cond (eqb u t) (own es) (S u)

  abbrev pub observed_from : ℕ → List Entry → List ℕ
  observed_from u [] = []
  observed_from u (e ∷ es) = L.rule.keeps (precedes L.edition (wide_from es u)) (observed_from u es) (kind_of e.what) (names_from es e u)

  abbrev pub before_from : List Entry → Entry → Before
  before_from es e = record { index = length es; acts = λ u. wide_from es u; seen = λ u. observed_from u es; named = λ u. names_from es e u }

  module _ (T : ℕ) where
    abbrev verdicts_from : List Entry → List (Option Reason)
    verdicts_from [] = []
    verdicts_from (e ∷ es) = first_applying (reasons_of L.edition T (before_from es e) e.what) ∷ verdicts_from es

  pub names-from : (x : Record) (h : List Record) → thread_of x ≡ t → Part S h → (u : ℕ) → names u h x ≡ names_from (account t h) (entry_of h x) u
  names-from x h e p u = go (eqb u t) refl
    where
      own-h : acts_of (thread_of x) h ≡ own (account t h)
      own-h = ap (λ (k : ℕ). acts_of k h) e ∙ sym (own_is t h)

      far : (o : Option ℕ) → names u h x ≡ o → o ≡ cond (not (missing o)) (names_of u (own (account t h)) (S u) x) None
      far None q = refl
      far (Some k) q =
          sym
          (ap (λ (xs : List Record). names_of u (own (account t h)) xs x) (p u).1 ∙ subst (λ (o : Option ℕ). StillThere o (names_of u (own (account t h)) (acts_of u h ++ (p u).0) x)) (ap (λ (xs : List Record). names_of u xs (acts_of u h) x) (sym own-h) ∙ sym (names-of u h x) ∙ q) (names-grown u (own (account t h)) (acts_of u h) (p u).0 x))

      go : (b : Bool) → eqb u t ≡ b → names u h x ≡ cond b (names_of u (own (account t h)) (own (account t h)) x) (cond (not (eqb u (thread_of x)) && not (missing (names u h x))) (names_of u (own (account t h)) (S u) x) None)
      go true q = names-of u h x ∙ (λ i. names_of u (own-h i) ((ap (λ (k : ℕ). acts_of k h) (eqb-true u t q) ∙ sym (own_is t h)) i) x)
      go false q =
          far (names u h x) refl ∙ ap (λ (b : Bool). cond (not b && not (missing (names u h x))) (names_of u (own (account t h)) (S u) x) None) (sym (ap (λ (k : ℕ). eqb u k) e ∙ q))

  -- the other threads' acts may go on
  wide-grown : (h : List Record) → (p : Part S h) → (u : ℕ) → wide_from (account t h) u ≡ acts_of u h ++ cond (eqb u t) [] (p u).0
  wide-grown h p u = go (eqb u t) refl
    where
      go : (b : Bool) → eqb u t ≡ b → cond b (own (account t h)) (S u) ≡ acts_of u h ++ cond b [] (p u).0
      go true q = own_is t h ∙ ap (λ (k : ℕ). acts_of k h) (sym (eqb-true u t q)) ∙ sym (append-nil (acts_of u h))
      go false q = (p u).1

  pub observed-from : (u : ℕ) (h : List Record) → Part S h → observed L t u h ≡ observed_from u (account t h)
  observed-from u [] p = refl
  observed-from u (x ∷ h) p = go (observed-from u h (part-tail S x h p)) (eqb (thread_of x) t) refl
    where
      p' : Part S h
      p' = part-tail S x h p

      go : observed L t u h ≡ observed_from u (account t h) → (b : Bool) → eqb (thread_of x) t ≡ b → cond b (L.rule.keeps (precedes L.edition (acts_of u h)) (observed L t u h) (kind_of x) (names u h x)) (observed L t u h) ≡ observed_from u (cond b (entry_of h x ∷ []) [] ++ account t h)
      go rest true q =
          L.rule.asks (length (acts_of u h)) (precedes L.edition (acts_of u h)) (precedes L.edition (wide_from (account t h) u)) (observed L t u h) (kind_of x) (names u h x) (each-inside (length (acts_of u h)) (observed L t u h) (observed-inside L t u h)) (there-inside (length (acts_of u h)) (names u h x) (names-inside u h x)) (λ e f l. sym (ap (λ (xs : List Record). precedes L.edition xs e f) (wide-grown h p' u) ∙ precedes-grown L.edition (acts_of u h) (cond (eqb u t) [] (p' u).0) e f l))
          ∙ (λ i. L.rule.keeps (precedes L.edition (wide_from (account t h) u)) (rest i) (kind_of x) (names-from x h (eqb-true (thread_of x) t q) p' u i))
      go rest false q = rest

  pub verdict-from : (T : ℕ) (x : Record) (h : List Record) → thread_of x ≡ t → Part S h → verdict L T h x ≡ first_applying (reasons_of L.edition T (before_from (account t h) (entry_of h x)) x)
  verdict-from T x h e p =
      ap first_applying (sym (reasons-wider L.edition T (count_of (thread_of x) h) (λ u. acts_of u h) (wide_from (account t h)) (λ u. cond (eqb u t) [] (p u).0) (λ u. observed L (thread_of x) u h) (λ u. names u h x) (wide-grown h p) (λ u. observed-inside L (thread_of x) u h) (λ u. names-inside u h x) x same))
      ∙ (λ i. first_applying (reasons_of L.edition T (record { index = (ap (λ (k : ℕ). count_of k h) e ∙ sym (account-long t h)) i; acts = wide_from (account t h); seen = λ u. (ap (λ (k : ℕ). observed L k u h) e ∙ observed-from u h p) i; named = λ u. names-from x h e p u i }) x))
    where
      same : wide_from (account t h) (thread_of x) ≡ acts_of (thread_of x) h
      same = ap (λ (b : Bool). cond b (own (account t h)) (S (thread_of x))) (eq-eqb (thread_of x) t e) ∙ own_is t h ∙ ap (λ (k : ℕ). acts_of k h) (sym e)

  verdicts-from : (T : ℕ) (h : List Record) → Part S h → verdicts L T t h ≡ verdicts_from T (account t h)
  verdicts-from T [] p = refl
  verdicts-from T (x ∷ h) p = go (verdicts-from T h (part-tail S x h p)) (eqb (thread_of x) t) refl
    where
      go : verdicts L T t h ≡ verdicts_from T (account t h) → (b : Bool) → eqb (thread_of x) t ≡ b → cond b (verdict L T h x ∷ []) [] ++ verdicts L T t h ≡ verdicts_from T (cond b (entry_of h x ∷ []) [] ++ account t h)
      go rest true q = λ i. verdict-from T x h (eqb-true (thread_of x) t q) (part-tail S x h p) i ∷ rest i
      go rest false q = rest

same-verdicts : (L : Law) (T : ℕ) (h h' : List Record) → Alike h h' → (t : ℕ) → verdicts L T t h ≡ verdicts L T t h'
same-verdicts L T h h' same t =
    verdicts-from L S t T h (λ u. ([], sym (append-nil (acts_of u h)))) ∙ ap (verdicts_from L S t T) (same t) ∙ sym (verdicts-from L S t T h' (λ u. ([], sym (own_is u h) ∙ ap own (same u) ∙ own_is u h' ∙ sym (append-nil (acts_of u h')))))
  where
    S : ℕ → List Record
    S u = acts_of u h

-- The verdict of a record, from its thread's verdicts ---------------------------------------------------------------

abbrev pick : ℕ → List (Option Reason) → Found
pick i [] = absent
pick i (v ∷ vs) = cond (eqb (length vs) i) (found_as v) (pick i vs)

long : (L : Law) (T t : ℕ) (h : List Record) → length (verdicts L T t h) ≡ count_of t h
long L T t [] = refl
long L T t (x ∷ h) = elim (eqb (thread_of x) t) as (λ b. length (cond b (verdict L T h x ∷ []) [] ++ verdicts L T t h) ≡ cond b (suc (count_of t h)) (count_of t h)) [ true ↦ ap suc (long L T t h) | false ↦ long L T t h ]

picked : (L : Law) (T t i : ℕ) (h : List Record) → verdict_at L T t i h ≡ pick i (verdicts L T t h)
picked L T t i [] = refl
picked L T t i (x ∷ h) = go (eqb (thread_of x) t) (picked L T t i h)
  where
    go : (b : Bool) → verdict_at L T t i h ≡ pick i (verdicts L T t h) → cond (b && eqb (count_of t h) i) (found_as (verdict L T h x)) (verdict_at L T t i h) ≡ pick i (cond b (verdict L T h x ∷ []) [] ++ verdicts L T t h)
    go true e = λ j. cond (eqb (sym (long L T t h) j) i) (found_as (verdict L T h x)) (e j)
    go false e = e

pub merge-rule : MergeRule
merge-rule L T h h' same t i = picked L T t i h ∙ ap (pick i) (same-verdicts L T h h' same t) ∙ sym (picked L T t i h')
