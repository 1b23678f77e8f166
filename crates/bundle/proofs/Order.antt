-- The records of the logs as they arrive: of each thread its log in order, and the threads in the order of the arrival list.
use Rattle.std.proofs.Common.{◌≡◌, ℕ, suc, ◌+◌, ◌<◌, ◌≤◌, Bool, true, false, cond, not, eqb, leb, List, [], ◌∷◌, ◌++◌, map, reverse, length, get_or, take, set, Some, Ok, Err, filter, Result, sym, refl, ap, ◌∙◌, subst, ⊎_elim, arith}
use mathlib.Core.List.{reverse_aux}
use Rattle.std.proofs.lemmas.List.{append-nil, append_assoc, get_or_past, get_or-set_same, get_or-set_other}
use Rattle.std.proofs.lemmas.List.Sums.{sum_by-cons}
use Rattle.std.proofs.lemmas.Bool.{cases_lt, or_parts, not-false, eqb-true, eqb-false, eq-eqb}
use Rattle.record.specs.declared.kinds.Counts.{Counts}
use Rattle.record.specs.declared.kinds.Record.{Record}
use Rattle.record.specs.declared.causes.Cause.{Cause}
use Rattle.record.specs.declared.causes.Damage.{Damage}
use Rattle.record.specs.declared.layout.Fields.{Fields}
use Rattle.record.specs.Ending.{clean, damaged}
use Rattle.record.specs.Layout.{fields_of}
use Rattle.record.specs.Reading.{decoded, record_of}
use Rattle.record.specs.WellMade.{thread_of}
use Rattle.record.proofs.Decoded.{passed}
use Rattle.feed.specs.Delivery.{well_made_ones, ending_after}
use Rattle.model.specs.Events.{is_of, records_of}
use Rattle.model.specs.Places.{oldest_first}
use Rattle.bundle.specs.Arrivals.{times_named, next_of, arriving}
use Rattle.bundle.specs.Reading.{read_in_log, read_as_arriving}

-- A record in a log is of the log's thread --------------------------------------------------------------------------

thread-either : (b : Bool) (x y : Record) (t : ℕ) → thread_of x ≡ t → thread_of y ≡ t → thread_of (cond b x y) ≡ t
thread-either true x y t p q = p
thread-either false x y t p q = q

thread-of : (f : Fields) → thread_of (record_of f) ≡ f.thread
thread-of f =
    thread-either (eqb f.kind 1) _ _ f.thread refl
    (thread-either (eqb f.kind 2) _ _ f.thread refl
    (thread-either (eqb f.kind 3) _ _ f.thread refl
    (thread-either (eqb f.kind 4) _ _ f.thread refl refl)))

own : (c : Counts) (t : ℕ) (slot : List ℕ) (x : Record) → decoded c (Some t) slot ≡ Ok x → thread_of x ≡ t
own c t slot x e =
    let f = fields_of slot in
    let p = passed c (Some t) f x e in
    let w = or_parts (leb c.threads f.thread) (not (eqb f.thread t)) p.0.thread_right in
    ap thread_of (sym p.1) ∙ (thread-of f ∙ eqb-true f.thread t (not-false (eqb f.thread t) w.1))

-- A thread's records, seen from the oldest --------------------------------------------------------------------------

cond-append : (b : Bool) (x : Record) (xs : List Record) → cond b (x ∷ []) [] ++ xs ≡ cond b (x ∷ xs) xs
cond-append true x xs = refl
cond-append false x xs = refl

oldest-kept : (p : Record → Bool) (xs h : List Record) → oldest_first p (reverse_aux xs h) ≡ oldest_first p h ++ filter p xs
oldest-kept p [] h = sym (append-nil (oldest_first p h))
oldest-kept p (x ∷ xs) h =
    oldest-kept p xs (x ∷ h)
    ∙ (append_assoc (oldest_first p h) (cond (p x) (x ∷ []) []) (filter p xs) ∙ ap (λ l. oldest_first p h ++ l) (cond-append (p x) x (filter p xs)))

pub records-kept : (t : ℕ) (xs : List Record) → records_of t (reverse xs) ≡ filter (is_of t) xs
records-kept t xs = oldest-kept (is_of t) xs []

pub kept-named : (t : ℕ) (xs : List Record) → length (filter (is_of t) xs) ≡ times_named t (map thread_of xs)
kept-named t [] = refl
kept-named t (x ∷ xs) = on (is_of t x) (kept-named t xs) ∙ sym (sum_by-cons (λ u. cond (eqb u t) 1 0) (thread_of x) (map thread_of xs)) where
  on : (b : Bool) → length (filter (is_of t) xs) ≡ times_named t (map thread_of xs) → length (cond b (x ∷ filter (is_of t) xs) (filter (is_of t) xs)) ≡ cond b 1 0 + times_named t (map thread_of xs)
  on true e = omega arith
  on false e = omega arith

-- One entry of the arrival list --------------------------------------------------------------------------------------

some-log : (logs : List (List (List ℕ))) (t : ℕ) (slot : List ℕ) (slots : List (List ℕ)) → get_or logs t [] ≡ slot ∷ slots → t < length logs
some-log logs t slot slots e = ⊎_elim (λ (h : t < length logs). h) (λ (h : length logs ≤ t). absurd (none (sym (get_or_past logs t [] h) ∙ e))) (cases_lt t (length logs)) where
  none : [] ≡ slot ∷ slots → ⊥
  none q = let z : 0 ≡ suc (length slots) = ap length q in omega arith

-- what a log is read as
abbrev reads : Counts → ℕ → List (List ℕ) → List (Result Record Cause)
reads c t slots = map (decoded c (Some t)) slots

-- a thread's records among these
abbrev oks : ℕ → List Record → List (Result Record Cause)
oks t xs = map (λ x. Ok x) (filter (is_of t) xs)

-- A property of logs, an arrival list and what they are read as holds of all if it holds at each end and over each record.
module _ (c : Counts) (P : List (List (List ℕ)) → List ℕ → List (Result Record Cause) → Type 0)
    (none : (logs : List (List (List ℕ))) → P logs [] [])
    (out : (logs : List (List (List ℕ))) (t : ℕ) (ts : List ℕ) → get_or logs t [] ≡ [] → P logs (t ∷ ts) [])
    (one : (logs : List (List (List ℕ))) (t : ℕ) (ts : List ℕ) (slot : List ℕ) (slots : List (List ℕ)) (x : Record) (rs : List (Result Record Cause)) → get_or logs t [] ≡ slot ∷ slots → decoded c (Some t) slot ≡ Ok x → P (set logs t slots) ts rs → P logs (t ∷ ts) (Ok x ∷ rs))
    (bad : (logs : List (List (List ℕ))) (t : ℕ) (ts : List ℕ) (slot : List ℕ) (slots : List (List ℕ)) (k : Cause) (rs : List (Result Record Cause)) → get_or logs t [] ≡ slot ∷ slots → decoded c (Some t) slot ≡ Err k → P logs (t ∷ ts) (Err k ∷ rs)) where
  on_read : (logs : List (List (List ℕ))) (t : ℕ) (ts : List ℕ) (slot : List ℕ) (slots : List (List ℕ)) (rs : List (Result Record Cause)) → get_or logs t [] ≡ slot ∷ slots → P (set logs t slots) ts rs → (r : Result Record Cause) → decoded c (Some t) slot ≡ r → P logs (t ∷ ts) (r ∷ rs)
  on_read logs t ts slot slots rs q h (Ok x) d = one logs t ts slot slots x rs q d h
  on_read logs t ts slot slots rs q h (Err k) d = bad logs t ts slot slots k rs q d

  on-log : (logs : List (List (List ℕ))) (t : ℕ) (ts : List ℕ) → ((slots : List (List ℕ)) → P (set logs t slots) ts (read_as_arriving c (set logs t slots) ts)) → (s : List (List ℕ)) → get_or logs t [] ≡ s → P logs (t ∷ ts) (map (read_in_log c) (next_of t s (λ slots. arriving (set logs t slots) ts)))
  on-log logs t ts next [] q = out logs t ts q
  on-log logs t ts next (slot ∷ slots) q = on_read logs t ts slot slots (read_as_arriving c (set logs t slots) ts) q (next slots) (decoded c (Some t) slot) refl

  pub arrive : (ts : List ℕ) (logs : List (List (List ℕ))) → P logs ts (read_as_arriving c logs ts)
  arrive [] logs = none logs
  arrive (t ∷ ts) logs = on-log logs t ts (λ slots. arrive ts (set logs t slots)) (get_or logs t []) refl

-- a front part of each log, seen with the record that was taken from one
front-own : (c : Counts) (logs : List (List (List ℕ))) (t u : ℕ) (slot : List ℕ) (slots : List (List ℕ)) (x : Record) (n : ℕ) (ys : List (Result Record Cause)) → get_or logs t [] ≡ slot ∷ slots → decoded c (Some t) slot ≡ Ok x → t ≡ u
    → ys ≡ take n (reads c u (get_or (set logs t slots) u [])) → Ok x ∷ ys ≡ take (suc n) (reads c u (get_or logs u []))
front-own c logs t u slot slots x n ys q d e h = subst (λ v. ys ≡ take n (reads c v (get_or (set logs t slots) v [])) → Ok x ∷ ys ≡ take (suc n) (reads c v (get_or logs v []))) e here h where
  here : ys ≡ take n (reads c t (get_or (set logs t slots) t [])) → Ok x ∷ ys ≡ take (suc n) (reads c t (get_or logs t []))
  here k =
      ap (λ y. y ∷ ys) (sym d)
      ∙ (ap (λ l. decoded c (Some t) slot ∷ l) (k ∙ ap (λ s. take n (reads c t s)) (get_or-set_same logs t slots [] (some-log logs t slot slots q)))
      ∙ ap (λ s. take (suc n) (reads c t s)) (sym q))

front-other : (c : Counts) (logs : List (List (List ℕ))) (t u : ℕ) (slots : List (List ℕ)) (n : ℕ) (ys : List (Result Record Cause)) → (u ≡ t → ⊥) → ys ≡ take n (reads c u (get_or (set logs t slots) u [])) → ys ≡ take n (reads c u (get_or logs u []))
front-other c logs t u slots n ys ne h = h ∙ ap (λ s. take n (reads c u s)) (get_or-set_other logs t u slots [] ne)

-- In order -------------------------------------------------------------------------------------------------------------

pub record Follows (c : Counts) (logs : List (List (List ℕ))) (ts : List ℕ) (rs : List (Result Record Cause)) : Type 0 where
  pub threads : map thread_of (well_made_ones rs) ≡ take (length (well_made_ones rs)) ts
  pub records : (u : ℕ) → oks u (well_made_ones rs) ≡ take (length (oks u (well_made_ones rs))) (reads c u (get_or logs u []))

records-more : (c : Counts) (logs : List (List (List ℕ))) (t u : ℕ) (slot : List ℕ) (slots : List (List ℕ)) (x : Record) (xs : List Record) → get_or logs t [] ≡ slot ∷ slots → decoded c (Some t) slot ≡ Ok x
    → oks u xs ≡ take (length (oks u xs)) (reads c u (get_or (set logs t slots) u [])) → oks u (x ∷ xs) ≡ take (length (oks u (x ∷ xs))) (reads c u (get_or logs u []))
records-more c logs t u slot slots x xs q d h = on (eqb (thread_of x) u) refl where
  on : (b : Bool) → eqb (thread_of x) u ≡ b → map (λ x. Ok x) (cond b (x ∷ filter (is_of u) xs) (filter (is_of u) xs)) ≡ take (length (map {B = Result Record Cause} (λ x. Ok x) (cond b (x ∷ filter (is_of u) xs) (filter (is_of u) xs)))) (reads c u (get_or logs u []))
  on true e = front-own c logs t u slot slots x (length (oks u xs)) (oks u xs) q d (sym (own c t slot x d) ∙ eqb-true (thread_of x) u e) h
  on false e = front-other c logs t u slots (length (oks u xs)) (oks u xs) (λ z. eqb-false (thread_of x) u e (own c t slot x d ∙ sym z)) h

pub follows : (c : Counts) (ts : List ℕ) (logs : List (List (List ℕ))) → Follows c logs ts (read_as_arriving c logs ts)
follows c = arrive c (Follows c)
    (λ logs. record { threads = refl; records = λ u. refl })
    (λ logs t ts q. record { threads = refl; records = λ u. refl })
    (λ logs t ts slot slots x rs q d h. record { threads = λ i. own c t slot x d i ∷ h.threads i; records = λ u. records-more c logs t u slot slots x (well_made_ones rs) q d (h.records u) })
    (λ logs t ts slot slots k rs q d. record { threads = refl; records = λ u. refl })

-- All of it ------------------------------------------------------------------------------------------------------------

-- each log is named as often as it has records
abbrev pub Exact : List (List (List ℕ)) → List ℕ → Type 0
Exact logs ts = (u : ℕ) → length (get_or logs u []) ≡ times_named u ts

named-cons : (u t : ℕ) (ts : List ℕ) → times_named u (t ∷ ts) ≡ cond (eqb t u) 1 0 + times_named u ts
named-cons u t ts = sum_by-cons (λ k. cond (eqb k u) 1 0) t ts

named-own : (t : ℕ) (ts : List ℕ) → times_named t (t ∷ ts) ≡ 1 + times_named t ts
named-own t ts = named-cons t t ts ∙ ap (λ b. cond b 1 0 + times_named t ts) (eq-eqb t t refl)

never-out : (logs : List (List (List ℕ))) (t : ℕ) (ts : List ℕ) → get_or logs t [] ≡ [] → Exact logs (t ∷ ts) → ⊥
never-out logs t ts q e =
    let a : 0 ≡ times_named t (t ∷ ts) = sym (ap length q) ∙ e t in
    let b = named-own t ts in
    omega arith

exact-rest : (logs : List (List (List ℕ))) (t : ℕ) (ts : List ℕ) (slot : List ℕ) (slots : List (List ℕ)) → get_or logs t [] ≡ slot ∷ slots → Exact logs (t ∷ ts) → Exact (set logs t slots) ts
exact-rest logs t ts slot slots q e u = on (eqb t u) refl where
  on : (b : Bool) → eqb t u ≡ b → length (get_or (set logs t slots) u []) ≡ times_named u ts
  on true z =
      subst (λ v. length (get_or (set logs t slots) v []) ≡ times_named v ts) (eqb-true t u z)
      (let a : suc (length slots) ≡ times_named t (t ∷ ts) = sym (ap length q) ∙ e t in
      let b = named-own t ts in
      let s : length (get_or (set logs t slots) t []) ≡ length slots = ap length (get_or-set_same logs t slots [] (some-log logs t slot slots q)) in
      let r : length (get_or (set logs t slots) t []) ≡ times_named t ts = omega arith in r)
  on false z =
      ap length (get_or-set_other logs t u slots [] (λ w. eqb-false t u z (sym w)))
      ∙ (e u ∙ (named-cons u t ts ∙ (ap (λ b. cond b 1 0 + times_named u ts) z ∙ (let r : 0 + times_named u ts ≡ times_named u ts = omega arith in r))))

not-clean : (d : Damage) → damaged d ≡ clean → ⊥
not-clean d e = let z : ◌≡◌ {A = ℕ} 0 1 = cc in omega arith

not-damaged : (d : Damage) → clean ≡ damaged d → ⊥
not-damaged d e = let z : ◌≡◌ {A = ℕ} 0 1 = cc in omega arith

pub all-arrive : (c : Counts) (ts : List ℕ) (logs : List (List (List ℕ))) (place : ℕ) → Exact logs ts → ending_after place (read_as_arriving c logs ts) ≡ clean → length (well_made_ones (read_as_arriving c logs ts)) ≡ length ts
all-arrive c = arrive c (λ logs ts rs. (place : ℕ) → Exact logs ts → ending_after place rs ≡ clean → length (well_made_ones rs) ≡ length ts)
    (λ logs place e h. refl)
    (λ logs t ts q place e h. absurd (never-out logs t ts q e))
    (λ logs t ts slot slots x rs q d next place e h. ap suc (next (place + 1) (exact-rest logs t ts slot slots q e) h))
    (λ logs t ts slot slots k rs q d place e h. absurd (not-clean (record { cause = k; place = place; depth = 0 }) h))

-- Damage ---------------------------------------------------------------------------------------------------------------

-- the entry behind the delivered records names the log whose next record is not well made
pub record DamagedAt (c : Counts) (logs : List (List (List ℕ))) (ts : List ℕ) (place : ℕ) (xs : List Record) (d : Damage) : Type 0 where
  pub place_is : d.place ≡ place + length xs
  pub cause_is : (u : ℕ) → u ≡ get_or ts (length xs) 0 → oks u xs ++ Err d.cause ∷ [] ≡ take (length (oks u xs) + 1) (reads c u (get_or logs u []))

cause-more : (c : Counts) (logs : List (List (List ℕ))) (t u : ℕ) (slot : List ℕ) (slots : List (List ℕ)) (x : Record) (xs : List Record) (k : Cause) → get_or logs t [] ≡ slot ∷ slots → decoded c (Some t) slot ≡ Ok x
    → oks u xs ++ Err k ∷ [] ≡ take (length (oks u xs) + 1) (reads c u (get_or (set logs t slots) u [])) → oks u (x ∷ xs) ++ Err k ∷ [] ≡ take (length (oks u (x ∷ xs)) + 1) (reads c u (get_or logs u []))
cause-more c logs t u slot slots x xs k q d h = on (eqb (thread_of x) u) refl where
  on : (b : Bool) → eqb (thread_of x) u ≡ b → map (λ x. Ok x) (cond b (x ∷ filter (is_of u) xs) (filter (is_of u) xs)) ++ Err k ∷ [] ≡ take (length (map {B = Result Record Cause} (λ x. Ok x) (cond b (x ∷ filter (is_of u) xs) (filter (is_of u) xs))) + 1) (reads c u (get_or logs u []))
  on true e =
      let n : suc (length (oks u xs) + 1) ≡ suc (length (oks u xs)) + 1 = omega arith in
      front-own c logs t u slot slots x (length (oks u xs) + 1) (oks u xs ++ Err k ∷ []) q d (sym (own c t slot x d) ∙ eqb-true (thread_of x) u e) h
      ∙ ap (λ m. take m (reads c u (get_or logs u []))) n
  on false e = front-other c logs t u slots (length (oks u xs) + 1) (oks u xs ++ Err k ∷ []) (λ z. eqb-false (thread_of x) u e (own c t slot x d ∙ sym z)) h

damaged-here : (c : Counts) (logs : List (List (List ℕ))) (t : ℕ) (ts : List ℕ) (slot : List ℕ) (slots : List (List ℕ)) (k : Cause) (place : ℕ) (d : Damage) → get_or logs t [] ≡ slot ∷ slots → decoded c (Some t) slot ≡ Err k → damaged (record { cause = k; place = place; depth = 0 }) ≡ damaged d → DamagedAt c logs (t ∷ ts) place [] d
damaged-here c logs t ts slot slots k place d q e h =
    let s : record { cause = k; place = place; depth = 0 } ≡ d = cc in
    subst (DamagedAt c logs (t ∷ ts) place []) s
    (record {
      place_is = let z : place ≡ place + 0 = omega arith in z;
      cause_is = λ u v. subst (λ w. Err k ∷ [] ≡ take 1 (reads c w (get_or logs w []))) (sym v) (ap (λ y. y ∷ []) (sym e) ∙ ap (λ s. take 1 (reads c t s)) (sym q));
    })

damaged-more : (c : Counts) (logs : List (List (List ℕ))) (t : ℕ) (ts : List ℕ) (slot : List ℕ) (slots : List (List ℕ)) (x : Record) (xs : List Record) (place : ℕ) (d : Damage) → get_or logs t [] ≡ slot ∷ slots → decoded c (Some t) slot ≡ Ok x → DamagedAt c (set logs t slots) ts (place + 1) xs d → DamagedAt c logs (t ∷ ts) place (x ∷ xs) d
damaged-more c logs t ts slot slots x xs place d q e h =
    let p = h.place_is in
    record { place_is = omega arith; cause_is = λ u v. cause-more c logs t u slot slots x xs d.cause q e (h.cause_is u v) }

pub damaged-at : (c : Counts) (ts : List ℕ) (logs : List (List (List ℕ))) (place : ℕ) (d : Damage) → ending_after place (read_as_arriving c logs ts) ≡ damaged d → DamagedAt c logs ts place (well_made_ones (read_as_arriving c logs ts)) d
damaged-at c = arrive c (λ logs ts rs. (place : ℕ) (d : Damage) → ending_after place rs ≡ damaged d → DamagedAt c logs ts place (well_made_ones rs) d)
    (λ logs place d h. absurd (not-damaged d h))
    (λ logs t ts q place d h. absurd (not-damaged d h))
    (λ logs t ts slot slots x rs q e next place d h. damaged-more c logs t ts slot slots x (well_made_ones rs) place d q e (next (place + 1) d h))
    (λ logs t ts slot slots k rs q e place d h. damaged-here c logs t ts slot slots k place d q e h)
