-- What the book says of a record is its verdict.
use Rattle.std.proofs.Common.{◌≡◌, ℕ, suc, ◌+◌, ◌-◌, ◌<◌, ◌≤◌, Bool, true, false, cond, not, ◌&&◌, ◌||◌, eqb, ltb, leb, List, length, get_or, slice_get, is_some, Some, None, Option, sym, refl, ap, ◌∙◌, inl, inr, add-one, arith, le-ltb, lt-ltb, eq-eqb, eqb-true, le-leb}
use borrow.Author.Tests.{eqb-false}
use Rattle.std.proofs.lemmas.Option.{slice_get-get_or, slice_get_past}
use Rattle.record.specs.declared.kinds.Counts.{Counts}
use Rattle.record.specs.declared.kinds.Source.{Source}
use Rattle.record.specs.declared.kinds.Source.TheVariants.{Initial, Write as WriteOf}
use Rattle.record.specs.declared.kinds.ReadRecord.{ReadRecord}
use Rattle.record.specs.declared.kinds.WaitRecord.{WaitRecord}
use Rattle.record.specs.declared.kinds.Record.{Record}
use Rattle.record.specs.declared.kinds.Record.TheVariants.{Write, Read, Fence, Notify, Wait}
use Rattle.record.specs.WellMade.{thread_of}
use Rattle.model.specs.declared.reasons.Reason.{Reason}
use Rattle.model.specs.declared.reasons.Reason.TheVariants.{TooManyRecords, NotWrittenYet, OtherAddress, OtherValue, OwnLaterWrite, Overwritten, InitialGone, NotifyOutOfTurn, WaitOutOfTurn, NotifyMissing, OtherLabel}
use Rattle.model.specs.Places.{at_place, is_at, any_below, how_many, place_of, missing, stands_where}
use Rattle.model.specs.Events.{is_write, is_notify, is_wait, address_of, value_of, label_of, count_of, acts_of, source_in, observed, overwritten, covered_to, written_to, written_behind}
use Rattle.model.specs.Laws.{first_edition as E, by_axioms}
use Rattle.model.specs.Lawful.{Before, read_reasons, kind_reasons, first_applying, before_of, verdict}
use Rattle.model.specs.Rank.{rank}
use Rattle.model.proofs.Places.{any_same}
use Rattle.model.proofs.Rank.{overwritten_by_rank, initial_gone_by_rank}
use Rattle.model.proofs.WellMade.{SourceFits, Fits, fits}
use Rattle.book.specs.declared.pages.Written.{Written}
use Rattle.book.specs.declared.pages.Notified.{Notified}
use Rattle.book.specs.declared.pages.Page.{Page}
use Rattle.book.specs.declared.book.Book.{Book}
use Rattle.book.specs.Pages.{write_at, notify_at, view_at, page_at, write_of, notify_of, labelled_otherwise, is_notify_missing, is_other_labelled, is_written_to, later_than, is_later_written, fitting, source_fitting}
use Rattle.book.specs.Views.{overwritten_in, is_overwritten_for, is_initial_gone_for}
use Rattle.book.specs.Said.{any_covered, any_missing, any_other_label, stale, said_write, said_read, said_initial, said_source, said_notify, said_wait, said_kind, said}
use Rattle.book.specs.Kept.{up_to, written_at, notified_at, OwnKept, Kept, WellMadeIn}
use Rattle.book.proofs.Numbers.{Numbered, place-numbered, up_to-less}
use Rattle.book.proofs.Observing.{written-to-is, written-behind-is}

-- Well-made records -------------------------------------------------------------------------------------------------

-- as many threads, and all addresses that a page has room for
abbrev pub room : ℕ → Counts
room T = record { threads = T; addresses = 64 }

source-fits-in : (T : ℕ) (c : Counts) (s : Source) → c.threads ≡ T → SourceFits c s → SourceFits (room T) s
source-fits-in T c Initial e f = tt
source-fits-in T c (WriteOf u n) e f = omega arith

fits-room : (T : ℕ) (c : Counts) (x : Record) → c.threads ≡ T → c.addresses ≤ 64 → Fits c x → Fits (room T) x
fits-room T c (Write w) e l f = (omega (arith, f.0), omega (arith, f.1))
fits-room T c (Read r) e l f = (omega (arith, f.0), omega (arith, f.1), source-fits-in T c r.source e f.2)
fits-room T c (Fence g) e l f = omega arith
fits-room T c (Notify n) e l f = omega arith
fits-room T c (Wait w) e l f = omega arith

pub fits_in : (T : ℕ) (x : Record) → WellMadeIn T x → Fits (room T) x
fits_in T x m = fits-room T m.counts x m.threads m.addresses (fits m.counts x m.well_made)

source-fitting : (T : ℕ) (s : Source) → SourceFits (room T) s → source_fitting T s ≡ true
source-fitting T Initial f = refl
source-fitting T (WriteOf u n) f = lt-ltb u T f

pub fits-fitting : (T : ℕ) (x : Record) → Fits (room T) x → fitting T x ≡ true
fits-fitting T (Write w) f = λ i. lt-ltb w.thread T f.0 i && lt-ltb w.address 64 f.1 i
fits-fitting T (Read r) f = λ i. lt-ltb r.thread T f.0 i && lt-ltb r.address 64 f.1 i && source-fitting T r.source f.2 i
fits-fitting T (Fence g) f = lt-ltb g.thread T f
fits-fitting T (Notify n) f = lt-ltb n.thread T f
fits-fitting T (Wait w) f = lt-ltb w.thread T f

pub thread-below : (T : ℕ) (x : Record) → Fits (room T) x → thread_of x < T
thread-below T (Write w) f = f.0
thread-below T (Read r) f = f.0
thread-below T (Fence g) f = f
thread-below T (Notify n) f = f
thread-below T (Wait w) f = f

-- What a page finds -------------------------------------------------------------------------------------------------

abbrev pub written_there : List Record → Option ℕ → Option Written
written_there xs None = None
written_there xs (Some k) = Some (written_at xs k)

abbrev pub notified_there : List Record → Option ℕ → Option Notified
notified_there xs None = None
notified_there xs (Some k) = Some (notified_at xs k)

module _ (q : Page) (c : ℕ) (xs : List Record) (o : OwnKept q c xs) where
  write-by : (n : ℕ) (r : Option ℕ) → Numbered is_write n xs r → write_of q n ≡ written_there xs r
  write-by n None (inl z) = ap (λ (b : Bool). cond b (slice_get q.writes.items (n - 1)) None) (le-ltb 0 n (omega arith))
  write-by n None (inr l) = ap (λ (b : Bool). cond b (slice_get q.writes.items (n - 1)) None) (lt-ltb 0 n (omega arith)) ∙ slice_get_past q.writes.items (n - 1) (omega (arith, o.written))
  write-by n (Some k) z =
      let less = up_to-less is_write xs k z.0 in
      let s : suc (up_to is_write xs k) ≡ n = z.1 in
      let i : n - 1 ≡ up_to is_write xs k = omega arith in
      ap (λ (b : Bool). cond b (slice_get q.writes.items (n - 1)) None) (lt-ltb 0 n (omega arith))
      ∙ slice_get-get_or q.writes.items (n - 1) (record { address = 0; value = 0; rank = 0 }) (omega (arith, o.written))
      ∙ ap Some (ap (write_at q.writes.items) i ∙ o.writes k z.0)

  -- the write numbered n
  pub write-is : (n : ℕ) → write_of q n ≡ written_there xs (place_of is_write n xs)
  write-is n = write-by n (place_of is_write n xs) (place-numbered is_write n xs)

  notify-by : (j : ℕ) (r : Option ℕ) → Numbered is_notify (suc j) xs r → notify_of q j ≡ notified_there xs r
  notify-by j None (inl z) = absurd (omega arith)
  notify-by j None (inr l) = slice_get_past q.notifies.items j (omega (arith, o.notified))
  notify-by j (Some k) z =
      let less = up_to-less is_notify xs k z.0 in
      let s : suc (up_to is_notify xs k) ≡ suc j = z.1 in
      let i : j ≡ up_to is_notify xs k = omega arith in
      slice_get-get_or q.notifies.items j (record { label = 0; rank = 0 }) (omega (arith, o.notified))
      ∙ ap Some (ap (notify_at q.notifies.items) i ∙ o.notifies k z.0)

  -- the notify of phase j
  pub notify-is : (j : ℕ) → notify_of q j ≡ notified_there xs (place_of is_notify (suc j) xs)
  notify-is j = notify-by j (place_of is_notify (suc j) xs) (place-numbered is_notify (suc j) xs)

  pub missing-is : (j : ℕ) → is_notify_missing q j ≡ missing (place_of is_notify (suc j) xs)
  missing-is j = ap (λ (o : Option Notified). not (is_some o)) (notify-is j) ∙ go (place_of is_notify (suc j) xs)
    where
      go : (r : Option ℕ) → not (is_some (notified_there xs r)) ≡ missing r
      go None = refl
      go (Some k) = refl

  pub label_is : (j l : ℕ) → is_other_labelled q j l ≡ stands_where (place_of is_notify (suc j) xs) (λ k. not (eqb (at_place 0 label_of xs k) l))
  label_is j l = ap (labelled_otherwise l) (notify-is j) ∙ go (place_of is_notify (suc j) xs)
    where
      go : (r : Option ℕ) → labelled_otherwise l (notified_there xs r) ≡ stands_where r (λ k. not (eqb (at_place 0 label_of xs k) l))
      go None = refl
      go (Some k) = refl

-- Verdicts ----------------------------------------------------------------------------------------------------------

module _ (T : ℕ) (b : Book) (h : List Record) (kept : Kept T b h) where
  abbrev ps : List Page
  ps = b.pages

  own : (t : ℕ) → t < T → OwnKept (page_at ps t) (count_of t h) (acts_of t h)
  own t l = (kept.pages t l).own

  module _ (r u n k : ℕ) (lr : r < T) (lu : u < T) (e : is_at is_write (acts_of u h) k ≡ true) (s : suc (up_to is_write (acts_of u h) k) ≡ n) (there : write_of (page_at ps u) n ≡ Some (written_at (acts_of u h) k)) where
    abbrev a : ℕ
    a = at_place 0 address_of (acts_of u h) k

    la : a < 64
    la = (own u lu).low k e

    -- an own write
    later-is : u ≡ r → is_later_written (page_at ps r) n ≡ written_behind (acts_of u h) k a
    later-is q =
        (λ i. is_later_written (page_at ps (sym q i)) n)
        ∙ ap (later_than (page_at ps u) n) there
        ∙ (λ i. ltb (sym s i) (get_or (page_at ps u).last a 0))
        ∙ sym (written-behind-is (acts_of u h) (page_at ps u).last k a la e (own u lu).last)

    -- another thread's write
    overwritten-is : (u ≡ r → ⊥) → is_overwritten_for (view_at (page_at ps r).views u) (page_at ps u) n ≡ overwritten E (acts_of u h) (observed by_axioms r u h) k
    overwritten-is ne =
        ap (overwritten_in (view_at (page_at ps r).views u)) there
        ∙ (λ i. ltb (suc (rank E (acts_of u h) k)) (((kept.pages r lr).views u lu ne).reached a la i))
        ∙ sym (overwritten_by_rank E (acts_of u h) (observed by_axioms r u h) k e)

    pub stale-is : (d : ℕ) → a ≡ d → stale ps r u n ≡ cond (eqb u r && written_behind (acts_of u h) k d) (Some OwnLaterWrite) (cond (not (eqb u r) && overwritten E (acts_of u h) (observed by_axioms r u h) k) (Some Overwritten) None)
    stale-is d q = go (eqb u r) refl
      where
        go : (c : Bool) → eqb u r ≡ c → cond c (cond (is_later_written (page_at ps r) n) (Some OwnLaterWrite) None) (cond (is_overwritten_for (view_at (page_at ps r).views u) (page_at ps u) n) (Some Overwritten) None) ≡ cond (c && written_behind (acts_of u h) k d) (Some OwnLaterWrite) (cond (not c && overwritten E (acts_of u h) (observed by_axioms r u h) k) (Some Overwritten) None)
        go true x = ap (λ (c : Bool). cond c (Some OwnLaterWrite) None) (later-is (eqb-true u r x) ∙ ap (written_behind (acts_of u h) k) q)
        go false x = ap (λ (c : Bool). cond c (Some Overwritten) None) (overwritten-is (eqb-false u r x))

  -- Reads
  module _ (r : ReadRecord) (lr : r.thread < T) (la : r.address < 64) where
    -- what is known before the read, where its source is the one that o finds
    abbrev before : (ℕ → Option ℕ) → Before
    before o = record { index = count_of r.thread h; acts = λ u. acts_of u h; seen = λ u. observed by_axioms r.thread u h; named = o }

    abbrev reasons : ℕ → Option ℕ → Option Reason
    reasons u o =
        cond (missing o) (Some NotWrittenYet)
        (cond (stands_where o (λ w. not (eqb (at_place 0 address_of (acts_of u h) w) r.address))) (Some OtherAddress)
        (cond (stands_where o (λ w. not (eqb (at_place 0 value_of (acts_of u h) w) r.value))) (Some OtherValue)
        (cond (eqb u r.thread && stands_where o (λ w. written_behind (acts_of u h) w r.address)) (Some OwnLaterWrite)
        (cond (not (eqb u r.thread) && stands_where o (λ w. overwritten E (acts_of u h) (observed by_axioms r.thread u h) w)) (Some Overwritten) None))))

    module _ (u n : ℕ) (lu : u < T) where
      abbrev xs : List Record
      xs = acts_of u h

      found : (k : ℕ) → is_at is_write xs k ≡ true → suc (up_to is_write xs k) ≡ n → write_of (page_at ps u) n ≡ Some (written_at xs k) → (c d : Bool) → eqb (at_place 0 address_of xs k) r.address ≡ c → eqb (at_place 0 value_of xs k) r.value ≡ d → cond c (cond d (stale ps r.thread u n) (Some OtherValue)) (Some OtherAddress) ≡ cond (not c) (Some OtherAddress) (cond (not d) (Some OtherValue) (cond (eqb u r.thread && written_behind xs k r.address) (Some OwnLaterWrite) (cond (not (eqb u r.thread) && overwritten E xs (observed by_axioms r.thread u h) k) (Some Overwritten) None)))
      found k e s z false d x y = refl
      found k e s z true false x y = refl
      found k e s z true true x y = stale-is r.thread u n k lr lu e s z r.address (eqb-true _ r.address x)

      by_place : (o : Option ℕ) → Numbered is_write n xs o → write_of (page_at ps u) n ≡ written_there xs o → said_write r (stale ps r.thread u n) (written_there xs o) ≡ reasons u o
      by_place None z e = refl
      by_place (Some k) z e = found k z.0 z.1 e (eqb (at_place 0 address_of xs k) r.address) (eqb (at_place 0 value_of xs k) r.value) refl refl

      read_is : said_read ps r.thread r u n ≡ first_applying (read_reasons E T (before (λ v. source_in v h (WriteOf u n))) r (WriteOf u n))
      read_is =
          let e = write-is (page_at ps u) (count_of u h) xs (own u lu) n in
          ap (said_write r (stale ps r.thread u n)) e
          ∙ by_place (place_of is_write n xs) (place-numbered is_write n xs) e
          ∙ ap (λ (c : Bool). reasons u (cond c (place_of is_write n xs) None)) (sym (eq-eqb u u refl))

    initial-is : said_initial T ps r.thread r ≡ first_applying (read_reasons E T (before (λ v. source_in v h Initial)) r Initial)
    initial-is = go (eqb r.value 0)
      where
        there : (u : ℕ) → u < T → (c : Bool) → eqb u r.thread ≡ c → (not c && is_initial_gone_for (view_at (page_at ps r.thread).views u) (page_at ps u) r.address) ≡ (not c && covered_to E (acts_of u h) (observed by_axioms r.thread u h) r.address)
        there u l true d = refl
        there u l false d =
            (λ i. ltb 0 (((kept.pages r.thread lr).views u l (eqb-false u r.thread d)).reached r.address la i))
            ∙ sym (initial_gone_by_rank E (acts_of u h) (observed by_axioms r.thread u h) r.address)

        here : is_written_to (page_at ps r.thread) r.address ≡ written_to (acts_of r.thread h) r.address
        here = sym (written-to-is (acts_of r.thread h) (page_at ps r.thread).last r.address la (own r.thread lr).last)

        tests : (is_written_to (page_at ps r.thread) r.address || any_covered T ps r.thread r.address) ≡ (written_to (acts_of r.thread h) r.address || any_below T (λ u. not (eqb u r.thread) && covered_to E (acts_of u h) (observed by_axioms r.thread u h) r.address))
        tests = λ i. here i || any_same T (λ u. not (eqb u r.thread) && is_initial_gone_for (view_at (page_at ps r.thread).views u) (page_at ps u) r.address) (λ u. not (eqb u r.thread) && covered_to E (acts_of u h) (observed by_axioms r.thread u h) r.address) (λ u l. there u l (eqb u r.thread) refl) i

        go : (c : Bool) → cond c (cond (is_written_to (page_at ps r.thread) r.address || any_covered T ps r.thread r.address) (Some InitialGone) None) (Some OtherValue) ≡ cond (not c) (Some OtherValue) (cond (written_to (acts_of r.thread h) r.address || any_below T (λ u. not (eqb u r.thread) && covered_to E (acts_of u h) (observed by_axioms r.thread u h) r.address)) (Some InitialGone) None)
        go true = ap (λ (c : Bool). cond c (Some InitialGone) None) tests
        go false = refl

    source_is : (s : Source) → SourceFits (room T) s → said_source T ps r s ≡ first_applying (read_reasons E T (before (λ v. source_in v h s)) r s)
    source_is Initial f = initial-is
    source_is (WriteOf u n) f = read_is u n f

  -- Notifies and waits
  notify-said : (t : ℕ) → t < T → said_notify ps t ≡ cond (not (eqb (how_many is_notify (acts_of t h)) (how_many is_wait (acts_of t h)))) (Some NotifyOutOfTurn) None
  notify-said t l = (λ i. cond (eqb ((own t l).notified i) ((own t l).waits i)) None (Some NotifyOutOfTurn)) ∙ go (eqb (how_many is_notify (acts_of t h)) (how_many is_wait (acts_of t h)))
    where
      go : (c : Bool) → cond c None (Some NotifyOutOfTurn) ≡ cond (not c) (Some NotifyOutOfTurn) None
      go true = refl
      go false = refl

  module _ (w : WaitRecord) (lr : w.thread < T) where
    abbrev r : ℕ
    r = w.thread

    abbrev j : ℕ
    j = how_many is_wait (acts_of r h)

    abbrev lost : ℕ → Bool
    lost u = not (eqb u r) && missing (place_of is_notify (suc j) (acts_of u h))

    abbrev unlike : ℕ → Bool
    unlike u = stands_where (place_of is_notify (suc j) (acts_of u h)) (λ k. not (eqb (at_place 0 label_of (acts_of u h) k) w.label))

    lost-is : any_missing T ps r j ≡ any_below T lost
    lost-is = any_same T _ _ (λ u m. ap (λ (c : Bool). not (eqb u r) && c) (missing-is (page_at ps u) (count_of u h) (acts_of u h) (own u m) j))

    unlike-is : any_other_label T ps j w.label ≡ any_below T unlike
    unlike-is = any_same T _ _ (λ u m. label_is (page_at ps u) (count_of u h) (acts_of u h) (own u m) j w.label)

    turn : eqb (length (page_at ps r).notifies.items) ((page_at ps r).waits + 1) ≡ eqb (how_many is_notify (acts_of r h)) (suc j)
    turn = (λ i. eqb ((own r lr).notified i) ((own r lr).waits i + 1)) ∙ ap (eqb (how_many is_notify (acts_of r h))) (add-one j)

    turned : (c : Bool) (o : Option Reason) → cond c o (Some WaitOutOfTurn) ≡ cond (not c) (Some WaitOutOfTurn) o
    turned true o = refl
    turned false o = refl

    wait-said : said_wait T ps r w.label ≡ first_applying (kind_reasons E T (before_of by_axioms h (Wait w)) (Wait w))
    wait-said =
        (λ i. cond (turn i) (cond (any_missing T ps r ((own r lr).waits i)) (Some NotifyMissing) (cond (any_other_label T ps ((own r lr).waits i) w.label) (Some OtherLabel) None)) (Some WaitOutOfTurn))
        ∙ (λ i. cond (eqb (how_many is_notify (acts_of r h)) (suc j)) (cond (lost-is i) (Some NotifyMissing) (cond (unlike-is i) (Some OtherLabel) None)) (Some WaitOutOfTurn))
        ∙ turned (eqb (how_many is_notify (acts_of r h)) (suc j)) (cond (any_below T lost) (Some NotifyMissing) (cond (any_below T unlike) (Some OtherLabel) None))

  kind-is : (x : Record) → Fits (room T) x → said_kind T ps x ≡ first_applying (kind_reasons E T (before_of by_axioms h x) x)
  kind-is (Write w) f = refl
  kind-is (Read r) f = source_is r f.0 f.1 r.source f.2
  kind-is (Fence g) f = refl
  kind-is (Notify n) f = notify-said n.thread f
  kind-is (Wait w) f = wait-said w f

  pub said-is : (x : Record) → Fits (room T) x → said T ps x ≡ verdict by_axioms T h x
  said-is x f =
      (λ i. cond (le-leb T 8 kept.threads i && fits-fitting T x f i) (cond (leb 512 (page_at ps (thread_of x)).count) (Some TooManyRecords) (said_kind T ps x)) None)
      ∙ (λ i. cond (leb 512 ((own (thread_of x) (thread-below T x f)).counted i)) (Some TooManyRecords) (kind-is x f i))
