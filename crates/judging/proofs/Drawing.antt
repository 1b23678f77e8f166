-- One record asked for, and what a step makes of it.
use Rattle.std.proofs.Common.{◌≡◌, ℕ, ◌<◌, List, ◌∷◌, Some, None, Ok, Err, Option, sym, refl, ap, ◌∙◌, subst, arith}
use Rattle.record.specs.declared.kinds.Counts.{Counts}
use Rattle.record.specs.declared.kinds.Record.{Record}
use Rattle.record.specs.WellMade.{thread_of, checked, AllWellMade}
use Rattle.model.specs.declared.reasons.Reason.{Reason}
use Rattle.model.specs.declared.outcomes.Outcome.{Outcome}
use Rattle.model.specs.Events.{count_of}
use Rattle.model.specs.Lawful.{verdict, unlawful_of}
use Rattle.model.specs.Laws.{by_axioms}
use Rattle.feed.specs.Meaning.{Meaning, Asked, WellMade}
use Rattle.book.specs.declared.book.Book.{Book}
use Rattle.book.specs.Kept.{Kept, WellMadeIn}
use Rattle.judging.specs.declared.faults.Fault.TheVariants.{Unlawful}
use Rattle.judging.specs.Standing.{Standing, behind_first, after_record, after_asking, step_under, advance}
use Rattle.judging.specs.Stands.{Stands, Drawn}

-- where a judge stands whose feed means m
abbrev with-left : Standing → Meaning → Standing
with-left s m = record { left = m; taken = s.taken; told = s.told }

-- the first record that waits is well made
pub first-well-made : (m n : Meaning) (x : Record) → WellMade m → m.waiting ≡ x ∷ n.waiting → WellMadeIn m.counts.threads x
first-well-made m n x w e =
    record { counts = m.counts; threads = refl; addresses = w.in_range.few_addresses; well_made = (subst (AllWellMade m.counts) e w.all_well_made).0 }

below : (c : Counts) (x : Record) → checked c x ≡ Ok tt → thread_of x < c.threads
below c x e = grind (arith, Rattle.std.proofs.lemmas.Bool.Decides.nat_tests)

pub thread-below : (T : ℕ) (x : Record) → WellMadeIn T x → thread_of x < T
thread-below T x w = subst (λ n. thread_of x < n) w.threads (below w.counts x w.well_made)

module _ (m n : Meaning) (x : Record) (a : Asked m (Ok (Some x)) n) where
  behind : behind_first m n.waiting ≡ n
  behind = λ i. record { counts = sym a.1 i; waiting = n.waiting; ending = sym a.2 i }

  -- what asking comes to, by the verdict on the record
  asked : (s : Standing) → s.left ≡ m → (v : Option Reason) → verdict by_axioms m.counts.threads s.taken x ≡ v → after_asking s s.left.waiting ≡ after_record (with-left s m) x n.waiting v
  asked s e v q = ap (λ l. after_asking (with-left s l) l.waiting) e ∙ (ap (after_asking (with-left s m)) a.0 ∙ ap (after_record (with-left s m) x n.waiting) q)

  -- the book's verdict is the model's, behind the records taken
  pub judged : (b : Book) (told : Option Outcome) (w : WellMade m) (k : Counts) → k ≡ m.counts → (r : Option Reason) → ((h : List Record) → Kept k.threads b h → WellMadeIn k.threads x → r ≡ verdict by_axioms k.threads h x) → (s : Standing) → Stands m b told s → r ≡ verdict by_axioms m.counts.threads s.taken x
  judged b told w k e r keeps s st =
      let T : m.counts.threads ≡ k.threads = ap (λ c. c.threads) (sym e) in
      keeps s.taken (subst (λ t. Kept t b s.taken) T st.keeps) (subst (λ t. WellMadeIn t x) T (first-well-made m n x w a.0)) ∙ ap (λ t. verdict by_axioms t s.taken x) (sym T)

  -- so is its index
  pub indexed : (b : Book) (told : Option Outcome) (w : WellMade m) (t i : ℕ) → t ≡ thread_of x → ((threads : ℕ) (h : List Record) → Kept threads b h → t < threads → i ≡ count_of t h) → (s : Standing) → Stands m b told s → i ≡ count_of (thread_of x) s.taken
  indexed b told w t i e keeps s st =
      keeps m.counts.threads s.taken st.keeps (subst (λ k. k < m.counts.threads) (sym e) (thread-below m.counts.threads x (first-well-made m n x w a.0))) ∙ ap (λ k. count_of k s.taken) e

  pub drawn-lawful : (b : Book) (told : Option Outcome) (w : WellMade m) (s : Standing) → Stands m b told s → verdict by_axioms m.counts.threads s.taken x ≡ None → Drawn s (Ok (Some x)) n
  drawn-lawful b told w s st q = (
    asked s st.left_is None q ∙ ap (λ l. record { left = l; taken = x ∷ s.taken; told = None }) behind,
    a.1 ∙ sym (ap (λ l. l.counts) st.left_is),
    ap (λ l. verdict by_axioms l.counts.threads s.taken x) st.left_is ∙ q,
    subst (λ l. WellMadeIn l.counts.threads x) (sym st.left_is) (first-well-made m n x w a.0),
  )

  pub drawn-unlawful : (b : Book) (told : Option Outcome) (s : Standing) (k : Reason) (t i : ℕ) → Stands m b told s → verdict by_axioms m.counts.threads s.taken x ≡ Some k → t ≡ thread_of x → i ≡ count_of (thread_of x) s.taken → Drawn s (Err (Unlawful (record { thread = t; index = i; reason = k }))) n
  drawn-unlawful b told s k t i st q et ei = (
    asked s st.left_is (Some k) q ∙ (λ j. record { left = behind j; taken = s.taken; told = Some (unlawful_of (sym et j) (sym ei j) k) }),
    a.1 ∙ sym (ap (λ l. l.counts) st.left_is),
  )

-- A step -----------------------------------------------------------------------------------------------------------------

-- a step before any outcome was told leaves what asking for a record leaves
stepped : (s t : Standing) (told : Option Outcome) → s.told ≡ told → told ≡ None → after_asking s s.left.waiting ≡ t → advance s ≡ t
stepped s t told e o q = ap (λ k. step_under k s) (e ∙ o) ∙ q

pub went_on : (m n : Meaning) (b b' : Book) (told : Option Outcome) (x : Record) (c : Counts) → told ≡ None → c ≡ n.counts
    → ((h : List Record) → Kept c.threads b h → WellMadeIn c.threads x → verdict by_axioms c.threads h x ≡ None → Kept c.threads b' (x ∷ h))
    → ((s : Standing) → Stands m b told s → Drawn s (Ok (Some x)) n) → (s : Standing) → Stands m b told s → (None ≡ (advance s).told) × Stands n b' told (advance s)
went_on m n b b' told x c o ec keeps drawn s st =
    let d = drawn s st in
    let p = stepped s (record { left = n; taken = x ∷ s.taken; told = None }) told st.told_is o d.0 in
    let T : s.left.counts.threads ≡ c.threads = ap (λ k. k.threads) (sym d.1 ∙ sym ec) in
    let left : m.counts.threads ≡ s.left.counts.threads = ap (λ l. l.counts.threads) (sym st.left_is) in
    let k : Kept c.threads b' (x ∷ s.taken) = keeps s.taken (subst (λ t. Kept t b s.taken) (left ∙ T) st.keeps) (subst (λ t. WellMadeIn t x) T d.3) (subst (λ t. verdict by_axioms t s.taken x ≡ None) T d.2) in (
      sym (ap (λ k. k.told) p),
      subst (Stands n b' told) (sym p) (record { left_is = refl; told_is = sym o; keeps = subst (λ g. Kept g.threads b' (x ∷ s.taken)) ec k }),
    )

pub settled-now : (m n : Meaning) (b b' : Book) (told told' : Option Outcome) (o : Outcome) → told ≡ None → b' ≡ b → told' ≡ Some o
    → ((s : Standing) → Stands m b told s → (after_asking s s.left.waiting ≡ record { left = n; taken = s.taken; told = Some o }) × (n.counts ≡ s.left.counts))
    → (s : Standing) → Stands m b told s → (Some o ≡ (advance s).told) × Stands n b' told' (advance s)
settled-now m n b b' told told' o e eb et drawn s st =
    let d = drawn s st in
    let p = stepped s (record { left = n; taken = s.taken; told = Some o }) told st.told_is e d.0 in
    let T : m.counts.threads ≡ n.counts.threads = ap (λ l. l.counts.threads) (sym st.left_is) ∙ ap (λ k. k.threads) (sym d.1) in (
      sym (ap (λ k. k.told) p),
      subst (Stands n b' told') (sym p) (record { left_is = refl; told_is = sym et; keeps = subst (λ g. Kept n.counts.threads g s.taken) (sym eb) (subst (λ t. Kept t b s.taken) T st.keeps) }),
    )
