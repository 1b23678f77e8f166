-- What a page keeps of its own thread's records, with one more.
use Rattle.std.proofs.Common.{◌≡◌, ℕ, zero, suc, ◌+◌, ◌*◌, ◌<◌, ◌≤◌, max, Bool, true, false, cond, ◌&&◌, ◌||◌, eqb, ◌≢◌, ◌⊎◌, List, [], ◌∷◌, ◌++◌, length, get_or, set, sym, refl, ap, ◌∙◌, subst, inl, inr, ⊎_elim, append-nil, add-one, arith, length-set, get_or-set_other, get_or-set_same, le-ltb, eqb-true}
use mathlib.Core.Bool.{false≢true}
use borrow.Author.Tests.{lt-leb, eqb-false}
use Rattle.std.proofs.lemmas.Bool.{cases_lt}
use Rattle.std.proofs.lemmas.List.{length_push, get_or_append_left, get_or_push}
use Rattle.record.specs.declared.kinds.Mode.{Mode}
use Rattle.record.specs.declared.kinds.Mode.TheVariants.{Relaxed, Strict}
use Rattle.record.specs.declared.kinds.Source.{Source}
use Rattle.record.specs.declared.kinds.WriteRecord.{WriteRecord}
use Rattle.record.specs.declared.kinds.NotifyRecord.{NotifyRecord}
use Rattle.record.specs.declared.kinds.WaitRecord.{WaitRecord}
use Rattle.record.specs.declared.kinds.Record.{Record}
use Rattle.record.specs.declared.kinds.Record.TheVariants.{Write, Read, Fence, Notify, Wait}
use Rattle.model.specs.Places.{at_place, is_at, how_many}
use Rattle.model.specs.Events.{is_write, is_notify, is_wait, is_write_to, is_act, address_of, value_of, label_of}
use Rattle.model.specs.Laws.{first_edition as E}
use Rattle.model.specs.Rank.{bit, rank, strict_before}
use Rattle.model.proofs.Places.{at-grown}
use Rattle.model.proofs.Rank.{at-write-to}
use Rattle.book.specs.declared.pages.Page.{Page}
use Rattle.book.specs.Pages.{is_full, strict_of, tallied, next_rank, noting, written_up}
use Rattle.book.specs.Kept.{up_to, last_to, written_at, notified_at, OwnKept}
use Rattle.book.proofs.Numbers.{is-inside, at-end, count-end, count-few, up_to-grown, up_to-end, up_to-less, rank-grown, rank-end, stricts-end, stricts-few}
use Rattle.book.proofs.Observing.{to-parts}

pub length_more : (xs : List Record) (x : Record) → length (xs ++ x ∷ []) ≡ suc (length xs)
length_more xs x = length_push xs x ∙ add-one (length xs)

-- Lists of what such records hold -----------------------------------------------------------------------------------

module _ {A : Type 0} (p : Record → Bool) (F : List Record → ℕ → A) (grown : (xs zs : List Record) (k : ℕ) → k < length xs → F (xs ++ zs) k ≡ F xs k) (d : A) where
  abbrev pub Listed : List A → List Record → Type 0
  Listed ys xs = (k : ℕ) → is_at p xs k ≡ true → get_or ys (up_to p xs k) d ≡ F xs k

  here : (xs : List Record) (x : Record) (k : ℕ) → is_at p (xs ++ x ∷ []) k ≡ true → (k < length xs) ⊎ (k ≡ length xs)
  here xs x k e = ⊎_elim (λ (l : k < length xs). inl l) (λ (l : length xs ≤ k). inr (let m = is-inside p (xs ++ x ∷ []) k e in omega (arith, length_more xs x))) (cases_lt k (length xs))

  pub listed_same : (ys : List A) (xs : List Record) (x : Record) → p x ≡ false → Listed ys xs → Listed ys (xs ++ x ∷ [])
  listed_same ys xs x f h k e =
      ⊎_elim
      (λ (l : k < length xs). ap (λ (n : ℕ). get_or ys n d) (up_to-grown p xs (x ∷ []) k (omega arith)) ∙ h k (sym (at-grown false p xs (x ∷ []) k l) ∙ e) ∙ sym (grown xs (x ∷ []) k l))
      (λ (q : k ≡ length xs). absurd (false≢true (sym f ∙ sym (at-end false p xs x) ∙ ap (is_at p (xs ++ x ∷ [])) (sym q) ∙ e)))
      (here xs x k e)

  pub listed_more : (ys : List A) (xs : List Record) (x : Record) (y : A) → length ys ≡ how_many p xs → y ≡ F (xs ++ x ∷ []) (length xs) → Listed ys xs → Listed (ys ++ y ∷ []) (xs ++ x ∷ [])
  listed_more ys xs x y long z h k e =
      ⊎_elim
      (λ (l : k < length xs).
      let f : is_at p xs k ≡ true = sym (at-grown false p xs (x ∷ []) k l) ∙ e in
      ap (λ (n : ℕ). get_or (ys ++ y ∷ []) n d) (up_to-grown p xs (x ∷ []) k (omega arith)) ∙ get_or_append_left ys (y ∷ []) d (up_to p xs k) (let m = up_to-less p xs k f in omega arith) ∙ h k f ∙ sym (grown xs (x ∷ []) k l))
      (λ (q : k ≡ length xs). ap (λ (n : ℕ). get_or (ys ++ y ∷ []) n d) (ap (up_to p (xs ++ x ∷ [])) q ∙ up_to-end p xs x) ∙ get_or_push ys y d (how_many p xs) long ∙ z ∙ ap (F (xs ++ x ∷ [])) (sym q))
      (here xs x k e)

written-grown : (xs zs : List Record) (k : ℕ) → k < length xs → written_at (xs ++ zs) k ≡ written_at xs k
written-grown xs zs k l = λ i. record { address = at-grown 0 address_of xs zs k l i; value = at-grown 0 value_of xs zs k l i; rank = suc (rank-grown xs zs k l i) }

notified-grown : (xs zs : List Record) (k : ℕ) → k < length xs → notified_at (xs ++ zs) k ≡ notified_at xs k
notified-grown xs zs k l = λ i. record { label = at-grown 0 label_of xs zs k l i; rank = suc (rank-grown xs zs k l i) }

-- Last writes -------------------------------------------------------------------------------------------------------

last-grown : (xs zs : List Record) (a n : ℕ) → n ≤ length xs → last_to (xs ++ zs) a n ≡ last_to xs a n
last-grown xs zs a zero l = refl
last-grown xs zs a (suc n) l = λ i. max (cond (at-grown false (is_write_to a) xs zs n l i) (suc (up_to-grown is_write xs zs n (omega arith) i)) 0) (last-grown xs zs a n (omega arith) i)

last_end : (xs : List Record) (x : Record) (a : ℕ) → last_to (xs ++ x ∷ []) a (length (xs ++ x ∷ [])) ≡ max (cond (is_write_to a x) (suc (how_many is_write xs)) 0) (last_to xs a (length xs))
last_end xs x a = ap (last_to (xs ++ x ∷ []) a) (length_more xs x) ∙ (λ i. max (cond (at-end false (is_write_to a) xs x i) (suc (up_to-end is_write xs x i)) 0) (last-grown xs (x ∷ []) a (length xs) (omega arith) i))

last-few : (xs : List Record) (a n : ℕ) → last_to xs a n ≤ how_many is_write xs
last-few xs a zero = omega arith
last-few xs a (suc n) = go (last-few xs a n) (is_at (is_write_to a) xs n) refl
  where
    go : last_to xs a n ≤ how_many is_write xs → (b : Bool) → is_at (is_write_to a) xs n ≡ b → max (cond b (suc (up_to is_write xs n)) 0) (last_to xs a n) ≤ how_many is_write xs
    go next true e = omega (arith, up_to-less is_write xs n (to-parts xs a n e).0)
    go next false e = omega arith

abbrev Lasts : List Record → List ℕ → Type 0
Lasts xs ls = (a : ℕ) → a < 64 → get_or ls a 0 ≡ last_to xs a (length xs)

lasts-same : (xs : List Record) (x : Record) (ls : List ℕ) → is_write x ≡ false → Lasts xs ls → Lasts (xs ++ x ∷ []) ls
lasts-same xs x ls f h a l =
    h a l
    ∙ sym
    (last_end xs x a
    ∙ ap (λ (b : Bool). max (cond b (suc (how_many is_write xs)) 0) (last_to xs a (length xs))) (at-write-to a (x ∷ []) 0 ∙ ap (λ (b : Bool). b && eqb (address_of x) a) f)
    ∙ omega arith)

lasts-more : (xs : List Record) (w : WriteRecord) (ls : List ℕ) → length ls ≡ 64 → Lasts xs ls → Lasts (xs ++ Write w ∷ []) (set ls w.address (how_many is_write xs + 1))
lasts-more xs w ls room h a l = go (eqb w.address a) refl ∙ sym (last_end xs (Write w) a)
  where
    go : (b : Bool) → eqb w.address a ≡ b → get_or (set ls w.address (how_many is_write xs + 1)) a 0 ≡ max (cond b (suc (how_many is_write xs)) 0) (last_to xs a (length xs))
    go true d =
        let q : w.address ≡ a = eqb-true w.address a d in
        let room-a : a < length ls = omega arith in
        ap (λ (b : ℕ). get_or (set ls b (how_many is_write xs + 1)) a 0) q
        ∙ get_or-set_same ls a (how_many is_write xs + 1) 0 room-a
        ∙ omega (arith, last-few xs a (length xs))
    go false d =
        let ne : a ≢ w.address = λ z. eqb-false w.address a d (sym z) in
        get_or-set_other ls w.address a (how_many is_write xs + 1) 0 ne ∙ h a l ∙ omega arith

-- the addresses of writes are below 64
abbrev Lows : List Record → Type 0
Lows xs = (k : ℕ) → is_at is_write xs k ≡ true → at_place 0 address_of xs k < 64

lows-more : (xs : List Record) (x : Record) → (is_write x ≡ true → address_of x < 64) → Lows xs → Lows (xs ++ x ∷ [])
lows-more xs x fit h k e =
    ⊎_elim
    (λ (l : k < length xs). let z = h k (sym (at-grown false is_write xs (x ∷ []) k l) ∙ e) in omega (arith, at-grown 0 address_of xs (x ∷ []) k l))
    (λ (l : length xs ≤ k).
    let m = is-inside is_write (xs ++ x ∷ []) k e in
    let q : k ≡ length xs = omega (arith, length_more xs x) in
    let z = fit (sym (at-end false is_write xs x) ∙ ap (is_at is_write (xs ++ x ∷ [])) (sym q) ∙ e) in
    omega (arith, ap (at_place 0 address_of (xs ++ x ∷ [])) q ∙ at-end 0 address_of xs x))
    (cases_lt k (length xs))

-- One more record ---------------------------------------------------------------------------------------------------

pub not_full : (p : Page) (n : ℕ) (xs : List Record) → OwnKept p n xs → n < 512 → is_full p ≡ false
not_full p n xs o l = λ i.
    lt-leb 512 p.count (omega (arith, o.counted)) i
    || le-ltb 512 p.strict (omega (arith, o.stricts, o.acts, stricts-few xs (length xs))) i
    || lt-leb 512 (length p.writes.items) (omega (arith, o.written, o.acts, count-few is_write xs)) i
    || lt-leb 512 (length p.notifies.items) (omega (arith, o.notified, o.acts, count-few is_notify xs)) i
    || lt-leb 512 p.waits (omega (arith, o.waits, o.acts, count-few is_wait xs)) i

-- the address of a write is below 64
abbrev pub Low : Record → Type 0
Low (Write w) = w.address < 64
Low (Read r) = Unit {0}
Low (Fence f) = Unit {0}
Low (Notify n) = Unit {0}
Low (Wait w) = Unit {0}

module _ (p : Page) (n : ℕ) (xs : List Record) (o : OwnKept p n xs) (l : n < 512) where
  tallies : (x : Record) → p.strict + strict_of x ≡ strict_before E (xs ++ x ∷ []) (length (xs ++ x ∷ []))
  tallies x = (λ i. o.stricts i + strict_of x) ∙ sym (stricts-end xs x) ∙ ap (strict_before E (xs ++ x ∷ [])) (sym (length_more xs x))

  ranks : (x : Record) → next_rank p x ≡ suc (rank E (xs ++ x ∷ []) (length xs))
  ranks x = (λ i. 2 * o.stricts i + strict_of x + 1) ∙ add-one _ ∙ ap suc (sym (rank-end xs x))

  counts : (q : Record → Bool) (x : Record) (m : ℕ) → m ≡ how_many q xs → q x ≡ false → m ≡ how_many q (xs ++ x ∷ [])
  counts q x m e f = omega (arith, count-end q xs x, ap bit f)

  counts-more : (q : Record → Bool) (x : Record) (m : ℕ) → m ≡ how_many q xs → q x ≡ true → m + 1 ≡ how_many q (xs ++ x ∷ [])
  counts-more q x m e f = omega (arith, count-end q xs x, ap bit f)

  lists-more : {A : Type 0} (q : Record → Bool) (x : Record) (ys : List A) (y : A) → length ys ≡ how_many q xs → q x ≡ true → length (ys ++ y ∷ []) ≡ how_many q (xs ++ x ∷ [])
  lists-more q x ys y e f = length_push ys y ∙ counts-more q x (length ys) e f

  -- a record that has no place
  own-none : OwnKept (tallied p 0) (suc n) xs
  own-none = record {
    few = omega arith;
    counted = omega (arith, o.counted);
    acts = omega (arith, o.acts);
    stricts = omega (arith, o.stricts);
    written = o.written;
    writes = o.writes;
    low = o.low;
    last_room = o.last_room;
    last = o.last;
    notified = o.notified;
    notifies = o.notifies;
    waits = o.waits;
  }

  -- a record that is no write, notify or wait
  own-plain : (x : Record) → is_write x ≡ false → is_notify x ≡ false → is_wait x ≡ false → OwnKept (tallied p (strict_of x)) (suc n) (xs ++ x ∷ [])
  own-plain x w y z = record {
    few = omega arith;
    counted = omega (arith, o.counted);
    acts = omega (arith, length_more xs x, o.acts);
    stricts = tallies x;
    written = counts is_write x (length p.writes.items) o.written w;
    writes = listed_same is_write written_at written-grown _ p.writes.items xs x w o.writes;
    low = lows-more xs x (λ e. absurd (false≢true (sym w ∙ e))) o.low;
    last_room = o.last_room;
    last = lasts-same xs x p.last w o.last;
    notified = counts is_notify x (length p.notifies.items) o.notified y;
    notifies = listed_same is_notify notified_at notified-grown _ p.notifies.items xs x y o.notifies;
    waits = counts is_wait x p.waits o.waits z;
  }

  own-wait : (w : WaitRecord) → OwnKept (noting p (Wait w)) (suc n) (xs ++ Wait w ∷ [])
  own-wait w = record {
    few = omega arith;
    counted = omega (arith, o.counted);
    acts = omega (arith, length_more xs (Wait w), o.acts);
    stricts = tallies (Wait w);
    written = counts is_write (Wait w) (length p.writes.items) o.written refl;
    writes = listed_same is_write written_at written-grown _ p.writes.items xs (Wait w) refl o.writes;
    low = lows-more xs (Wait w) (λ e. absurd (false≢true e)) o.low;
    last_room = o.last_room;
    last = lasts-same xs (Wait w) p.last refl o.last;
    notified = counts is_notify (Wait w) (length p.notifies.items) o.notified refl;
    notifies = listed_same is_notify notified_at notified-grown _ p.notifies.items xs (Wait w) refl o.notifies;
    waits = counts-more is_wait (Wait w) p.waits o.waits refl;
  }

  own-notify : (y : NotifyRecord) → OwnKept (noting p (Notify y)) (suc n) (xs ++ Notify y ∷ [])
  own-notify y = record {
    few = omega arith;
    counted = omega (arith, o.counted);
    acts = omega (arith, length_more xs (Notify y), o.acts);
    stricts = tallies (Notify y);
    written = counts is_write (Notify y) (length p.writes.items) o.written refl;
    writes = listed_same is_write written_at written-grown _ p.writes.items xs (Notify y) refl o.writes;
    low = lows-more xs (Notify y) (λ e. absurd (false≢true e)) o.low;
    last_room = o.last_room;
    last = lasts-same xs (Notify y) p.last refl o.last;
    notified = lists-more is_notify (Notify y) p.notifies.items _ o.notified refl;
    notifies = listed_more is_notify notified_at notified-grown _ p.notifies.items xs (Notify y) _ o.notified (λ i. record { label = sym (at-end 0 label_of xs (Notify y)) i; rank = ranks (Notify y) i }) o.notifies;
    waits = counts is_wait (Notify y) p.waits o.waits refl;
  }

  own-write : (w : WriteRecord) → w.address < 64 → OwnKept (noting p (Write w)) (suc n) (xs ++ Write w ∷ [])
  own-write w fit = record {
    few = omega arith;
    counted = omega (arith, o.counted);
    acts = omega (arith, length_more xs (Write w), o.acts);
    stricts = tallies (Write w);
    written = lists-more is_write (Write w) p.writes.items _ o.written refl;
    writes = listed_more is_write written_at written-grown _ p.writes.items xs (Write w) _ o.written (λ i. record { address = sym (at-end 0 address_of xs (Write w)) i; value = sym (at-end 0 value_of xs (Write w)) i; rank = ranks (Write w) i }) o.writes;
    low = lows-more xs (Write w) (λ e. fit) o.low;
    last_room = length-set p.last w.address _ ∙ o.last_room;
    last = subst (λ (i : ℕ). Lasts (xs ++ Write w ∷ []) (set p.last w.address (i + 1))) (sym o.written) (lasts-more xs w p.last o.last_room o.last);
    notified = counts is_notify (Write w) (length p.notifies.items) o.notified refl;
    notifies = listed_same is_notify notified_at notified-grown _ p.notifies.items xs (Write w) refl o.notifies;
    waits = counts is_wait (Write w) p.waits o.waits refl;
  }

  -- a read has a place if it is strict
  abbrev read : ℕ → ℕ → Source → Mode → ℕ → Record
  read t a s m v = Read (record { thread = t; address = a; source = s; mode = m; value = v })

  own_read : (t a : ℕ) (s : Source) (m : Mode) (v : ℕ) → OwnKept (noting p (read t a s m v)) (suc n) (xs ++ cond (is_act (read t a s m v)) (read t a s m v ∷ []) [])
  own_read t a s Relaxed v = subst (λ (ys : List Record). OwnKept (tallied p 0) (suc n) ys) (sym (append-nil xs)) own-none
  own_read t a s Strict v = own-plain (read t a s Strict v) refl refl refl

  own-noting : (x : Record) → Low x → OwnKept (noting p x) (suc n) (xs ++ cond (is_act x) (x ∷ []) [])
  own-noting (Write w) fit = own-write w fit
  own-noting (Read r) fit = own_read r.thread r.address r.source r.mode r.value
  own-noting (Fence f) fit = own-plain (Fence f) refl refl refl
  own-noting (Notify y) fit = own-notify y
  own-noting (Wait w) fit = own-wait w

  pub own-written-up : (x : Record) → Low x → OwnKept (written_up p x) (suc n) (xs ++ cond (is_act x) (x ∷ []) [])
  own-written-up x fit = subst (λ (b : Bool). OwnKept (cond b p (noting p x)) (suc n) (xs ++ cond (is_act x) (x ∷ []) [])) (sym (not_full p n xs o l)) (own-noting x fit)
