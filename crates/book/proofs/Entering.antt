-- A lawful record that is taken is kept.
use Rattle.std.proofs.Common.{◌≡◌, ℕ, zero, suc, ◌<◌, ◌≤◌, Bool, true, false, cond, ◌&&◌, eqb, ltb, leb, List, [], ◌∷◌, ◌++◌, length, set, Some, None, Option, sym, refl, ap, ◌∙◌, subst, ⊎_elim, append-nil, arith, length-set, get_or-set_other, get_or-set_same, le-ltb, lt-ltb, eq-eqb, ne_eqb, eqb-true, le-leb, leb-false}
use mathlib.Core.Bool.{false≢true}
use borrow.Author.Tests.{eqb-false}
use Rattle.std.proofs.lemmas.Bool.{cases_lt, cases_eq}
use Rattle.record.specs.declared.kinds.Source.{Source}
use Rattle.record.specs.declared.kinds.Source.TheVariants.{Initial, Write as WriteOf}
use Rattle.record.specs.declared.kinds.WaitRecord.{WaitRecord}
use Rattle.record.specs.declared.kinds.Record.{Record}
use Rattle.record.specs.declared.kinds.Record.TheVariants.{Write, Read, Fence, Notify, Wait}
use Rattle.record.specs.WellMade.{thread_of}
use Rattle.model.specs.declared.reasons.Reason.{Reason}
use Rattle.model.specs.Places.{at_place, is_at, how_many, place_of}
use Rattle.model.specs.Events.{is_event, is_write, is_notify, is_wait, is_act, address_of, count_of, acts_of, source_in, names, observed}
use Rattle.model.specs.Laws.{first_edition as E, by_axioms, with_named}
use Rattle.model.specs.Lawful.{verdict}
use Rattle.model.specs.Rank.{rank}
use Rattle.model.proofs.Renamed.{IsAt, place_is}
use Rattle.model.proofs.Rank.{write-event, notify-event, at-event, observed-event}
use Rattle.model.proofs.WellMade.{SourceFits, Fits}
use Rattle.book.specs.declared.pages.Written.{Written}
use Rattle.book.specs.declared.pages.Notified.{Notified}
use Rattle.book.specs.declared.pages.Page.{Page}
use Rattle.book.specs.declared.views.View.{View}
use Rattle.book.specs.declared.book.Book.{Book}
use Rattle.book.specs.Pages.{view_at, page_at, is_full, noting, written_up, fitting}
use Rattle.book.specs.Views.{covering, observing, observing_write, observing_notify, read_observing, wait_observing}
use Rattle.book.specs.Taken.{with_view, viewed, read_observed, wait_observed, waiting, source_observed, observed_by, entered, taken}
use Rattle.book.specs.Kept.{OwnKept, ViewKept, PageKept, Kept, WellMadeIn}
use Rattle.book.proofs.Observing.{Events, saw-fence, saw-write, view-grown}
use Rattle.book.proofs.Own.{own-written-up, Low}
use Rattle.book.proofs.Saying.{room, fits_in, fits-fitting, thread-below, written_there, notified_there, write-is, notify-is}

-- One event observed ------------------------------------------------------------------------------------------------

notify-no-write : (xs : List Record) (k : ℕ) → is_at is_notify xs k ≡ true → is_at is_write xs k ≡ false
notify-no-write [] k e = refl
notify-no-write (x ∷ xs) zero e = kinds x e
  where
    kinds : (x : Record) → is_notify x ≡ true → is_write x ≡ false
    kinds (Write w) e = absurd (false≢true e)
    kinds (Read r) e = refl
    kinds (Fence f) e = refl
    kinds (Notify n) e = refl
    kinds (Wait w) e = refl
notify-no-write (x ∷ xs) (suc k) e = notify-no-write xs k e

module _ (v : View) (q : Page) (n : ℕ) (xs : List Record) (seen : List ℕ) (ev : Events xs seen) (kept : ViewKept v xs seen) (own : OwnKept q n xs) where
  abbrev ws : List Written
  ws = q.writes.items

  saw-read : (e : ℕ) → is_at is_write xs e ≡ true → ViewKept (covering (observing v q (suc (rank E xs e))) (at_place 0 address_of xs e) (suc (rank E xs e))) xs (e ∷ seen)
  saw-read e b = saw-write xs ws own.written own.writes v seen ev kept e (at-event is_write (is_event E) (write-event E) xs e b) b

  saw-notify : (e : ℕ) → is_at is_notify xs e ≡ true → ViewKept (observing v q (suc (rank E xs e))) xs (e ∷ seen)
  saw-notify e b = saw-fence xs ws own.written own.writes v seen ev kept e (at-event is_notify (is_event E) (notify-event E) xs e b) (notify-no-write xs e b)

  -- a read of the write numbered k, where there is one
  pub read_kept : (k : ℕ) → ViewKept (read_observing v q k) xs (with_named seen (place_of is_write k xs))
  read_kept k = subst (λ (o : Option Written). ViewKept (observing_write v q o) xs (with_named seen (place_of is_write k xs))) (sym (write-is q n xs own k)) (go (place_of is_write k xs) (place_is is_write k xs))
    where
      go : (o : Option ℕ) → IsAt is_write xs o → ViewKept (observing_write v q (written_there xs o)) xs (with_named seen o)
      go None a = kept
      go (Some e) a = saw-read e a

  -- a wait for the notify of phase j, where there is one
  pub wait-kept : (j : ℕ) → ViewKept (wait_observing v q j) xs (with_named seen (place_of is_notify (suc j) xs))
  wait-kept j = subst (λ (o : Option Notified). ViewKept (observing_notify v q o) xs (with_named seen (place_of is_notify (suc j) xs))) (sym (notify-is q n xs own j)) (go (place_of is_notify (suc j) xs) (place_is is_notify (suc j) xs))
    where
      go : (o : Option ℕ) → IsAt is_notify xs o → ViewKept (observing_notify v q (notified_there xs o)) xs (with_named seen o)
      go None a = kept
      go (Some e) a = saw-notify e a

-- Between two records -----------------------------------------------------------------------------------------------
-- Thread t has observed S of the others, and its own record is not yet written up.

record Midway (T t : ℕ) (h : List Record) (S : ℕ → List ℕ) (ps : List Page) : Type 0 where
  threads : T ≤ 8
  eight : length ps ≡ 8
  others : (r : ℕ) → r < T → (r ≡ t → ⊥) → PageKept T r (page_at ps r) h
  own : OwnKept (page_at ps t) (count_of t h) (acts_of t h)
  view_room : length (page_at ps t).views ≡ 8
  views : (u : ℕ) → u < T → (u ≡ t → ⊥) → ViewKept (view_at (page_at ps t).views u) (acts_of u h) (S u)

own_view : (p : Page) (u : ℕ) (v : View) (n : ℕ) (xs : List Record) → OwnKept p n xs → OwnKept (with_view p u v) n xs
own_view p u v n xs o = record { few = o.few; counted = o.counted; acts = o.acts; stricts = o.stricts; written = o.written; writes = o.writes; low = o.low; last_room = o.last_room; last = o.last; notified = o.notified; notifies = o.notifies; waits = o.waits }

begin : (T t : ℕ) (h : List Record) (b : Book) → t < T → Kept T b h → Midway T t h (λ u. observed by_axioms t u h) b.pages
begin T t h b l k = record { threads = k.threads; eight = k.room; others = λ r m ne. k.pages r m; own = (k.pages t l).own; view_room = (k.pages t l).view_room; views = (k.pages t l).views }

same-views : (T t : ℕ) (h : List Record) (S S' : ℕ → List ℕ) (ps : List Page) → ((u : ℕ) → u < T → (u ≡ t → ⊥) → S u ≡ S' u) → Midway T t h S ps → Midway T t h S' ps
same-views T t h S S' ps e m = record { threads = m.threads; eight = m.eight; others = m.others; own = m.own; view_room = m.view_room; views = λ u l ne. subst (λ (ks : List ℕ). ViewKept (view_at (page_at ps t).views u) (acts_of u h) ks) (e u l ne) (m.views u l ne) }

-- one view is another
look : (T t : ℕ) (h : List Record) (S S' : ℕ → List ℕ) (ps : List Page) (u : ℕ) (v : View) → t < T → u < T → Midway T t h S ps → ViewKept v (acts_of u h) (S' u) → ((k : ℕ) → k < T → (k ≡ t → ⊥) → (k ≡ u → ⊥) → S k ≡ S' k) → Midway T t h S' (viewed ps t u v)
look T t h S S' ps u v lt lu m kv same = record {
  threads = m.threads;
  eight = length-set ps t (with_view (page_at ps t) u v) ∙ m.eight;
  others = λ r l ne. subst (λ (p : Page). PageKept T r p h) (sym (get_or-set_other ps t r (with_view (page_at ps t) u v) _ ne)) (m.others r l ne);
  own = subst (λ (p : Page). OwnKept p (count_of t h) (acts_of t h)) (sym here) (own_view (page_at ps t) u v (count_of t h) (acts_of t h) m.own);
  view_room = ap (λ (p : Page). length p.views) here ∙ length-set (page_at ps t).views u v ∙ m.view_room;
  views = λ k l ne. subst (λ (p : Page). ViewKept (view_at p.views k) (acts_of k h) (S' k)) (sym here) (view k l ne);
}
  where
    here : page_at (set ps t (with_view (page_at ps t) u v)) t ≡ with_view (page_at ps t) u v
    here = get_or-set_same ps t (with_view (page_at ps t) u v) _ (omega (arith, m.eight, m.threads))

    view : (k : ℕ) → k < T → (k ≡ t → ⊥) → ViewKept (view_at (set (page_at ps t).views u v) k) (acts_of k h) (S' k)
    view k l ne =
        ⊎_elim
        (λ (q : k ≡ u). subst (λ (j : ℕ). ViewKept (view_at (set (page_at ps t).views u v) j) (acts_of j h) (S' j)) (sym q) (subst (λ (w : View). ViewKept w (acts_of u h) (S' u)) (sym (get_or-set_same (page_at ps t).views u v _ (omega (arith, m.view_room, m.threads)))) kv))
        (λ (q : k ≡ u → ⊥). subst (λ (w : View). ViewKept w (acts_of k h) (S' k)) (sym (get_or-set_other (page_at ps t).views u k v _ q)) (subst (λ (ks : List ℕ). ViewKept (view_at (page_at ps t).views k) (acts_of k h) ks) (same k l ne q) (m.views k l ne)))
        (cases_eq k u)

-- The record is written up ------------------------------------------------------------------------------------------

acts-other : (x : Record) (h : List Record) (r : ℕ) → (r ≡ thread_of x → ⊥) → acts_of r (x ∷ h) ≡ acts_of r h
acts-other x h r ne = ap (λ (b : Bool). acts_of r h ++ cond (b && is_act x) (x ∷ []) []) (ne_eqb (thread_of x) r (λ z. ne (sym z))) ∙ append-nil (acts_of r h)

acts-own : (x : Record) (h : List Record) → acts_of (thread_of x) (x ∷ h) ≡ acts_of (thread_of x) h ++ cond (is_act x) (x ∷ []) []
acts-own x h = ap (λ (b : Bool). acts_of (thread_of x) h ++ cond (b && is_act x) (x ∷ []) []) (eq-eqb (thread_of x) (thread_of x) refl)

count-other : (x : Record) (h : List Record) (r : ℕ) → (r ≡ thread_of x → ⊥) → count_of r (x ∷ h) ≡ count_of r h
count-other x h r ne = ap (λ (b : Bool). cond b (suc (count_of r h)) (count_of r h)) (ne_eqb (thread_of x) r (λ z. ne (sym z)))

count-own : (x : Record) (h : List Record) → count_of (thread_of x) (x ∷ h) ≡ suc (count_of (thread_of x) h)
count-own x h = ap (λ (b : Bool). cond b (suc (count_of (thread_of x) h)) (count_of (thread_of x) h)) (eq-eqb (thread_of x) (thread_of x) refl)

observed-other : (x : Record) (h : List Record) (r u : ℕ) → (r ≡ thread_of x → ⊥) → observed by_axioms r u (x ∷ h) ≡ observed by_axioms r u h
observed-other x h r u ne = ap (λ (b : Bool). cond b (with_named (observed by_axioms r u h) (names u h x)) (observed by_axioms r u h)) (ne_eqb (thread_of x) r (λ z. ne (sym z)))

observed-own : (x : Record) (h : List Record) (u : ℕ) → observed by_axioms (thread_of x) u (x ∷ h) ≡ with_named (observed by_axioms (thread_of x) u h) (names u h x)
observed-own x h u = ap (λ (b : Bool). cond b (with_named (observed by_axioms (thread_of x) u h) (names u h x)) (observed by_axioms (thread_of x) u h)) (eq-eqb (thread_of x) (thread_of x) refl)

page-other : (T : ℕ) (x : Record) (h : List Record) (r : ℕ) (p : Page) → (r ≡ thread_of x → ⊥) → PageKept T r p h → PageKept T r p (x ∷ h)
page-other T x h r p ne k = record {
  own = subst (λ (n : ℕ). OwnKept p n (acts_of r (x ∷ h))) (sym (count-other x h r ne)) (subst (λ (xs : List Record). OwnKept p (count_of r h) xs) (sym (acts-other x h r ne)) k.own);
  view_room = k.view_room;
  views = λ u l nu. subst (λ (ks : List ℕ). ViewKept (view_at p.views u) (acts_of u (x ∷ h)) ks) (sym (observed-other x h r u ne)) (go u (k.views u l nu) (eqb (thread_of x) u && is_act x));
}
  where
    go : (u : ℕ) → ViewKept (view_at p.views u) (acts_of u h) (observed by_axioms r u h) → (b : Bool) → ViewKept (view_at p.views u) (acts_of u h ++ cond b (x ∷ []) []) (observed by_axioms r u h)
    go u kv true = view-grown (acts_of u h) x (view_at p.views u) (observed by_axioms r u h) (observed-event by_axioms r u h) kv
    go u kv false = subst (λ (xs : List Record). ViewKept (view_at p.views u) xs (observed by_axioms r u h)) (sym (append-nil (acts_of u h))) kv

noting-views : (p : Page) (x : Record) → (noting p x).views ≡ p.views
noting-views p (Write w) = refl
noting-views p (Read r) = refl
noting-views p (Fence f) = refl
noting-views p (Notify n) = refl
noting-views p (Wait w) = refl

written-up-views : (p : Page) (x : Record) → (written_up p x).views ≡ p.views
written-up-views p x = elim (is_full p) as (λ b. (cond b p (noting p x)).views ≡ p.views) [ true ↦ refl | false ↦ noting-views p x ]

-- what x's thread has observed of u with x
abbrev with_record : List Record → Record → ℕ → List ℕ
with_record h x u = with_named (observed by_axioms (thread_of x) u h) (names u h x)

module _ (T : ℕ) (x : Record) (h : List Record) (ps : List Page) (lt : thread_of x < T) (few : count_of (thread_of x) h < 512) (low : Low x) (m : Midway T (thread_of x) h (with_record h x) ps) where
  abbrev t : ℕ
  t = thread_of x

  abbrev after : Page
  after = written_up (page_at ps t) x

  page-own : PageKept T t after (x ∷ h)
  page-own = record {
    own = subst (λ (n : ℕ). OwnKept after n (acts_of t (x ∷ h))) (sym (count-own x h)) (subst (λ (xs : List Record). OwnKept after (suc (count_of t h)) xs) (sym (acts-own x h)) (own-written-up (page_at ps t) (count_of t h) (acts_of t h) m.own few x low));
    view_room = ap length (written-up-views (page_at ps t) x) ∙ m.view_room;
    views = λ u l ne.
        subst (λ (vs : List View). ViewKept (view_at vs u) (acts_of u (x ∷ h)) (observed by_axioms t u (x ∷ h))) (sym (written-up-views (page_at ps t) x))
        (subst (λ (xs : List Record). ViewKept (view_at (page_at ps t).views u) xs (observed by_axioms t u (x ∷ h))) (sym (acts-other x h u ne))
        (subst (λ (ks : List ℕ). ViewKept (view_at (page_at ps t).views u) (acts_of u h) ks) (sym (observed-own x h u)) (m.views u l ne)));
  }

  finish : Kept T (record { pages = entered ps t x }) (x ∷ h)
  finish = record {
    threads = m.threads;
    room = length-set ps t after ∙ m.eight;
    pages = λ r l. ⊎_elim
        (λ (q : r ≡ t). subst (λ (j : ℕ). PageKept T j (page_at (entered ps t x) j) (x ∷ h)) (sym q) (subst (λ (p : Page). PageKept T t p (x ∷ h)) (sym (get_or-set_same ps t after _ (omega (arith, m.eight, m.threads)))) page-own))
        (λ (ne : r ≡ t → ⊥). subst (λ (p : Page). PageKept T r p (x ∷ h)) (sym (get_or-set_other ps t r after _ ne)) (page-other T x h r (page_at ps r) ne (m.others r l ne)))
        (cases_eq r t);
  }

-- What a record's thread observes by it -------------------------------------------------------------------------------

module _ (T : ℕ) (b : Book) (h : List Record) (kept : Kept T b h) where
  abbrev ps : List Page
  ps = b.pages

  abbrev seen : ℕ → ℕ → List ℕ
  seen t u = observed by_axioms t u h

  module _ (t : ℕ) (lt : t < T) where
    abbrev with_source : Source → ℕ → List ℕ
    with_source s u = with_named (seen t u) (source_in u h s)

    -- a read of u's write names no event of another thread
    elsewhere : (u n k : ℕ) → (k ≡ u → ⊥) → seen t k ≡ with_source (WriteOf u n) k
    elsewhere u n k ne = ap (λ (c : Bool). with_named (seen t k) (cond c (place_of is_write n (acts_of k h)) None)) (sym (ne_eqb u k (λ z. ne (sym z))))

    from-other : (u n : ℕ) → u < T → (u ≡ t → ⊥) → Midway T t h (with_source (WriteOf u n)) (read_observed ps t u n)
    from-other u n lu ne =
        look T t h (seen t) (with_source (WriteOf u n)) ps u (read_observing (view_at (page_at ps t).views u) (page_at ps u) n) lt lu (begin T t h b lt kept)
        (subst (λ (c : Bool). ViewKept (read_observing (view_at (page_at ps t).views u) (page_at ps u) n) (acts_of u h) (with_named (seen t u) (cond c (place_of is_write n (acts_of u h)) None))) (sym (eq-eqb u u refl))
        (read_kept (view_at (page_at ps t).views u) (page_at ps u) (count_of u h) (acts_of u h) (seen t u) (observed-event by_axioms t u h) ((kept.pages t lt).views u lu ne) (kept.pages u lu).own n))
        (λ k l nt nu. elsewhere u n k nu)

    mid-source : (s : Source) → SourceFits (room T) s → Midway T t h (with_source s) (source_observed ps t s)
    mid-source Initial f = begin T t h b lt kept
    mid-source (WriteOf u n) f = go (eqb u t) refl
      where
        go : (c : Bool) → eqb u t ≡ c → Midway T t h (with_source (WriteOf u n)) (cond c ps (read_observed ps t u n))
        go true d = same-views T t h (seen t) (with_source (WriteOf u n)) ps (λ k l ne. elsewhere u n k (λ z. ne (z ∙ eqb-true u t d))) (begin T t h b lt kept)
        go false d = from-other u n f (eqb-false u t d)

  module _ (w : WaitRecord) (lt : w.thread < T) where
    abbrev waiter : ℕ
    waiter = w.thread

    abbrev j : ℕ
    j = how_many is_wait (acts_of waiter h)

    -- observed are the notifies of the threads below m
    abbrev up_to_thread : ℕ → ℕ → List ℕ
    up_to_thread m u = cond (ltb u m) (with_record h (Wait w) u) (seen waiter u)

    abbrev Mid : ℕ → List Page → Type 0
    Mid m qs = Midway T waiter h (up_to_thread m) qs

    next-same : (m u : ℕ) → (u ≡ m → ⊥) → up_to_thread m u ≡ up_to_thread (suc m) u
    next-same m u ne = ap (λ (c : Bool). cond c (with_record h (Wait w) u) (seen waiter u)) (⊎_elim (λ (a : u < m). lt-ltb u m a ∙ sym (lt-ltb u (suc m) (omega arith))) (λ (a : m ≤ u). le-ltb u m a ∙ sym (le-ltb u (suc m) (⊎_elim (λ (y : m < u). y) (λ (y : u ≤ m). absurd (ne (omega arith))) (cases_lt m u)))) (cases_lt u m))

    step : (m : ℕ) (qs : List Page) → m < T → (m ≡ waiter → ⊥) → Mid m qs → Mid (suc m) (wait_observed qs waiter m j)
    step m qs lm ne mid =
        let old : ViewKept (view_at (page_at qs waiter).views m) (acts_of m h) (seen waiter m) = subst (λ (c : Bool). ViewKept (view_at (page_at qs waiter).views m) (acts_of m h) (cond c (with_record h (Wait w) m) (seen waiter m))) (le-ltb m m (omega arith)) (mid.views m lm ne) in
        look T waiter h (up_to_thread m) (up_to_thread (suc m)) qs m (wait_observing (view_at (page_at qs waiter).views m) (page_at qs m) j) lt lm mid
        (subst (λ (c : Bool). ViewKept (wait_observing (view_at (page_at qs waiter).views m) (page_at qs m) j) (acts_of m h) (cond c (with_record h (Wait w) m) (seen waiter m))) (sym (lt-ltb m (suc m) (omega arith)))
        (wait-kept (view_at (page_at qs waiter).views m) (page_at qs m) (count_of m h) (acts_of m h) (seen waiter m) (observed-event by_axioms waiter m h) old (mid.others m lm ne).own j))
        (λ u lu nt nm. next-same m u nm)

    all-up-to : (m : ℕ) → m ≤ T → Mid m (waiting m ps waiter j)
    all-up-to zero le = same-views T waiter h (seen waiter) (up_to_thread 0) ps (λ u lu ne. ap (λ (c : Bool). cond c (with_record h (Wait w) u) (seen waiter u)) (sym (le-ltb u 0 (omega arith)))) (begin T waiter h b lt kept)
    all-up-to (suc m) le = go (all-up-to m (omega arith)) (eqb m waiter) refl
      where
        go : Mid m (waiting m ps waiter j) → (c : Bool) → eqb m waiter ≡ c → Mid (suc m) (cond c (waiting m ps waiter j) (wait_observed (waiting m ps waiter j) waiter m j))
        go mid true d = same-views T waiter h (up_to_thread m) (up_to_thread (suc m)) (waiting m ps waiter j) (λ u lu ne. next-same m u (λ z. ne (z ∙ eqb-true m waiter d))) mid
        go mid false d = step m (waiting m ps waiter j) (omega arith) (eqb-false m waiter d) mid

    mid-wait : Midway T waiter h (with_record h (Wait w)) (observed_by T ps (Wait w))
    mid-wait =
        subst (λ (n : ℕ). Midway T waiter h (with_record h (Wait w)) (waiting T ps waiter n)) (sym (kept.pages waiter lt).own.waits)
        (same-views T waiter h (up_to_thread T) (with_record h (Wait w)) (waiting T ps waiter j) (λ u lu ne. ap (λ (c : Bool). cond c (with_record h (Wait w) u) (seen waiter u)) (lt-ltb u T lu)) (all-up-to T (omega arith)))

  mid : (x : Record) → Fits (room T) x → Midway T (thread_of x) h (with_record h x) (observed_by T ps x)
  mid (Write w) f = begin T w.thread h b f.0 kept
  mid (Read r) f = mid-source r.thread f.0 r.source f.2
  mid (Fence g) f = begin T g.thread h b f kept
  mid (Notify n) f = begin T n.thread h b f kept
  mid (Wait w) f = mid-wait w f

  low : (x : Record) → Fits (room T) x → Low x
  low (Write w) f = f.1
  low (Read r) f = tt
  low (Fence g) f = tt
  low (Notify n) f = tt
  low (Wait w) f = tt

  taken-kept : (x : Record) → Fits (room T) x → count_of (thread_of x) h < 512 → Kept T (record { pages = taken T b.pages x }) (x ∷ h)
  taken-kept x f few =
      subst (λ (c : Bool). Kept T (record { pages = cond c (entered (observed_by T ps x) (thread_of x) x) ps }) (x ∷ h)) (λ i. sym (le-leb T 8 kept.threads) i && sym (fits-fitting T x f) i)
      (finish T x h (observed_by T ps x) (thread-below T x f) few (low x f) (mid x f))

-- a lawful record's thread has room
first-not : (c : Bool) (k : Reason) (o : Option Reason) → cond c (Some k) o ≡ None → c ≡ false
first-not true k o e = let z : ◌≡◌ {A = ℕ} 0 1 = cc in absurd (let y : ⊥ = omega arith in y)
first-not false k o e = refl

lawful-few : (T : ℕ) (h : List Record) (x : Record) → verdict by_axioms T h x ≡ None → count_of (thread_of x) h < 512
lawful-few T h x e = leb-false 512 (count_of (thread_of x) h) (first-not (leb 512 (count_of (thread_of x) h)) _ _ e)

-- The other pages ---------------------------------------------------------------------------------------------------

module _ (T : ℕ) (ps : List Page) (u : ℕ) where
  waiting-others : (m t j : ℕ) → (u ≡ t → ⊥) → page_at (waiting m ps t j) u ≡ page_at ps u
  waiting-others zero t j ne = refl
  waiting-others (suc m) t j ne = go (waiting-others m t j ne) (eqb m t)
    where
      go : page_at (waiting m ps t j) u ≡ page_at ps u → (c : Bool) → page_at (cond c (waiting m ps t j) (wait_observed (waiting m ps t j) t m j)) u ≡ page_at ps u
      go next true = next
      go next false = get_or-set_other (waiting m ps t j) t u _ _ ne ∙ next

  source-others : (t : ℕ) (s : Source) → (u ≡ t → ⊥) → page_at (source_observed ps t s) u ≡ page_at ps u
  source-others t Initial ne = refl
  source-others t (WriteOf w n) ne = elim (eqb w t) as (λ c. page_at (cond c ps (read_observed ps t w n)) u ≡ page_at ps u) [ true ↦ refl | false ↦ get_or-set_other ps t u _ _ ne ]

  observed-others : (x : Record) → (u ≡ thread_of x → ⊥) → page_at (observed_by T ps x) u ≡ page_at ps u
  observed-others (Write w) ne = refl
  observed-others (Read r) ne = source-others r.thread r.source ne
  observed-others (Fence f) ne = refl
  observed-others (Notify n) ne = refl
  observed-others (Wait w) ne = waiting-others T w.thread (page_at ps w.thread).waits ne

  taken-others : (x : Record) → (u ≡ thread_of x → ⊥) → page_at (taken T ps x) u ≡ page_at ps u
  taken-others x ne = elim (leb T 8 && fitting T x) as (λ c. page_at (cond c (entered (observed_by T ps x) (thread_of x) x) ps) u ≡ page_at ps u) [ true ↦ get_or-set_other (observed_by T ps x) (thread_of x) u _ _ ne ∙ observed-others x ne | false ↦ refl ]

-- Pages that are those of the book with the record taken ---------------------------------------------------------------

module _ (T : ℕ) (b : Book) (x : Record) (ps : List Page) (e : ps ≡ taken T b.pages x) where
  pub others-stay : (u : ℕ) → (u ≡ thread_of x → ⊥) → page_at ps u ≡ page_at b.pages u
  others-stay u ne = ap (λ (qs : List Page). page_at qs u) e ∙ taken-others T b.pages u x ne

  pub lawful-kept : (h : List Record) → Kept T b h → WellMadeIn T x → verdict by_axioms T h x ≡ None → Kept T (record { pages = ps }) (x ∷ h)
  lawful-kept h k m l = subst (λ (qs : List Page). Kept T (record { pages = qs }) (x ∷ h)) (sym e) (taken-kept T b h k x (fits_in T x m) (lawful-few T h x l))
