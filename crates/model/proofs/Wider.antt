-- A verdict does not change where other threads' records go on behind what it looks at.
use Rattle.std.proofs.Common.{◌≡◌, ℕ, suc, Bool, true, false, not, ◌&&◌, ◌||◌, eqb, leb, List, [], ◌∷◌, ◌++◌, length, Option, sym, refl, ap, ◌∙◌, eqb-true}
use Rattle.record.specs.declared.kinds.Source.{Source}
use Rattle.record.specs.declared.kinds.Source.TheVariants.{Initial, Write as WriteOf}
use Rattle.record.specs.declared.kinds.ReadRecord.{ReadRecord}
use Rattle.record.specs.declared.kinds.Record.{Record}
use Rattle.record.specs.declared.kinds.Record.TheVariants.{Write, Read, Fence, Notify, Wait}
use Rattle.record.specs.WellMade.{thread_of}
use Rattle.model.specs.declared.reasons.Reason.TheVariants.{TooManyRecords, NotWrittenYet, OtherAddress, OtherValue, OwnLaterWrite, Overwritten, InitialGone, NotifyOutOfTurn, WaitOutOfTurn, NotifyMissing, OtherLabel}
use Rattle.model.specs.Places.{at_place, any_below, how_many, missing, stands_where}
use Rattle.model.specs.Events.{address_of, value_of, label_of, is_notify, is_wait, Edition, overwritten, covered_to, written_to, written_behind}
use Rattle.model.specs.Lawful.{Before, Test, ◌when◌, read_reasons, kind_reasons, reasons_of}
use Rattle.model.proofs.Places.{Inside, AllInside, at-grown, any_same, stands-where-same, overwritten-grown, covered-to-grown}

-- under a test, the equation may use that it passed
pub if-same : (b : Bool) (p q : Bool) → (b ≡ true → p ≡ q) → (b && p) ≡ (b && q)
if-same true p q h = h refl
if-same false p q h = refl

module _ (E : Edition) (T : ℕ) (index : ℕ) (R S : ℕ → List Record) (rest : ℕ → List Record) (seen : ℕ → List ℕ) (named : ℕ → Option ℕ) (grown : (u : ℕ) → S u ≡ R u ++ rest u) (inside : (u : ℕ) → AllInside (length (R u)) (seen u)) (there : (u : ℕ) → Inside (length (R u)) (named u)) where
  abbrev less : Before
  less = record { index = index; acts = R; seen = seen; named = named }

  abbrev more : Before
  more = record { index = index; acts = S; seen = seen; named = named }

  at_named : (f : Record → ℕ) (u : ℕ) (p : ℕ → Bool) → stands_where (named u) (λ k. p (at_place 0 f (S u) k)) ≡ stands_where (named u) (λ k. p (at_place 0 f (R u) k))
  at_named f u p =
      stands-where-same (length (R u)) (named u) (λ k. p (at_place 0 f (S u) k)) (λ k. p (at_place 0 f (R u) k)) (there u) (λ k l. ap p (ap (λ (xs : List Record). at_place 0 f xs k) (grown u) ∙ at-grown 0 f (R u) (rest u) k l))

  own-later : (t a u : ℕ) → S t ≡ R t → (eqb u t && stands_where (named u) (λ w. written_behind (S u) w a)) ≡ (eqb u t && stands_where (named u) (λ w. written_behind (R u) w a))
  own-later t a u own = if-same (eqb u t) _ _ (λ e. ap (λ (xs : List Record). stands_where (named u) (λ w. written_behind xs w a)) (ap S (eqb-true u t e) ∙ own ∙ ap R (sym (eqb-true u t e))))

  over-same : (u : ℕ) → stands_where (named u) (λ w. overwritten E (S u) (seen u) w) ≡ stands_where (named u) (λ w. overwritten E (R u) (seen u) w)
  over-same u = stands-where-same (length (R u)) (named u) _ _ (there u) (λ w l. ap (λ (xs : List Record). overwritten E xs (seen u) w) (grown u) ∙ overwritten-grown E (R u) (rest u) (seen u) (inside u) w l)

  gone_same : (t a : ℕ) → any_below T (λ u. not (eqb u t) && covered_to E (S u) (seen u) a) ≡ any_below T (λ u. not (eqb u t) && covered_to E (R u) (seen u) a)
  gone_same t a = any_same T _ _ (λ u l. ap (λ (b : Bool). not (eqb u t) && b) (ap (λ (xs : List Record). covered_to E xs (seen u) a) (grown u) ∙ covered-to-grown E (R u) (rest u) (seen u) (inside u) a))

  read_same : (r : ReadRecord) → S r.thread ≡ R r.thread → (s : Source) → read_reasons E T more r s ≡ read_reasons E T less r s
  read_same r own (WriteOf u n) =
      λ i. (NotWrittenYet when missing (named u))
      ∷ (OtherAddress when at_named address_of u (λ k. not (eqb k r.address)) i)
      ∷ (OtherValue when at_named value_of u (λ k. not (eqb k r.value)) i)
      ∷ (OwnLaterWrite when own-later r.thread r.address u own i)
      ∷ (Overwritten when not (eqb u r.thread) && over-same u i)
      ∷ []
  read_same r own Initial =
      λ i. (OtherValue when not (eqb r.value 0))
      ∷ (InitialGone when written_to (own i) r.address || gone_same r.thread r.address i)
      ∷ []

  kind-same : (x : Record) → S (thread_of x) ≡ R (thread_of x) → kind_reasons E T more x ≡ kind_reasons E T less x
  kind-same (Write w) own = refl
  kind-same (Read r) own = read_same r own r.source
  kind-same (Fence f) own = refl
  kind-same (Notify n) own = λ i. (NotifyOutOfTurn when not (eqb (how_many is_notify (own i)) (how_many is_wait (own i)))) ∷ []
  kind-same (Wait w) own =
      λ i. (WaitOutOfTurn when not (eqb (how_many is_notify (own i)) (suc (how_many is_wait (own i)))))
      ∷ (NotifyMissing when any_below T (λ u. not (eqb u w.thread) && missing (named u)))
      ∷ (OtherLabel when any_same T (λ u. stands_where (named u) (λ k. not (eqb (at_place 0 label_of (S u) k) w.label))) (λ u. stands_where (named u) (λ k. not (eqb (at_place 0 label_of (R u) k) w.label))) (λ u l. at_named label_of u (λ k. not (eqb k w.label))) i)
      ∷ []

  pub reasons-wider : (x : Record) → S (thread_of x) ≡ R (thread_of x) → reasons_of E T more x ≡ reasons_of E T less x
  reasons-wider x own = ap (λ (ts : List Test). (TooManyRecords when leb 512 index) ∷ ts) (kind-same x own)
