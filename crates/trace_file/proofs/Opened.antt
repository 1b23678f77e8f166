-- Opening a file, and one record read from it.
use Rattle.std.proofs.Common.{◌≡◌, ℕ, ◌+◌, ◌/◌, ◌≤◌, false, cond, eqb, ltb, List, ◌∷◌, length, take, drop, Some, None, Ok, Err, Result, sym, refl, ap, ◌∙◌, subst, arith, length-drop, eqb-true, MatchResult}
use Rattle.std.proofs.lemmas.List.{take_rest}
use Rattle.std.proofs.lemmas.Bool.Decides.{nat_tests}
use Rattle.std.specs.Borrow.{Bor}
use Rattle.record.specs.declared.kinds.Counts.{Counts}
use Rattle.record.specs.declared.kinds.Record.{Record}
use Rattle.record.specs.declared.causes.Cause.{Cause}
use Rattle.record.specs.Reading.{decoded}
use Rattle.feed.specs.declared.refusals.Refusal.{Refusal}
use Rattle.feed.specs.declared.refusals.Refusal.TheVariants.{ShortHeader}
use Rattle.feed.specs.Meaning.{Asked, CountsInRange}
use Rattle.feed.specs.Delivery.{delivering}
use Rattle.trace_file.specs.declared.layout.Header.{Header}
use Rattle.trace_file.specs.Layout.{header_of, twelves}
use Rattle.trace_file.specs.Opening.{read_as, in_range, file_meaning, opened, opened_under, header_tested, OpensBehind}
use Rattle.trace_file.specs.Peeking.{Peeked}
use Rattle.trace_file.proofs.Twelves.{twelves-more}
use Rattle.trace_file.proofs.Tested.{header-passed, range_same}

-- One step over what is still to be read.

step-record : (c : Counts) (place : ℕ) (t : List ℕ) (ts : List (List ℕ)) (x : Record) → decoded c None t ≡ Ok x
    → Asked (delivering c place (read_as c (t ∷ ts))) (Ok (Some x)) (delivering c (place + 1) (read_as c ts))
step-record c place t ts x e = rw e (refl, refl, refl)

step-damage : (c : Counts) (place : ℕ) (t : List ℕ) (ts : List (List ℕ)) (k : Cause) → decoded c None t ≡ Err k
    → Asked (delivering c place (read_as c (t ∷ ts))) (Err (record { cause = k; place = place; depth = 0 })) (delivering c place (read_as c (t ∷ ts)))
step-damage c place t ts k e = rw e (refl, refl, refl)

next-record : (c k : Counts) (bs t rest : List ℕ) (place : ℕ) (x : Record) → 12 ≤ length bs → t ≡ take 12 bs → rest ≡ drop 12 bs → k ≡ in_range c → Ok x ≡ decoded k None t
    → Asked (file_meaning c bs place) (Ok (Some x)) (file_meaning c rest (place + 1))
next-record c k bs t rest place x h e f g d =
    let told : decoded (in_range c) None (take 12 bs) ≡ Ok x = (λ i. decoded (sym g i) None (sym e i)) ∙ sym d in
    subst (λ ts. Asked (delivering (in_range c) place (read_as (in_range c) ts)) (Ok (Some x)) (file_meaning c rest (place + 1))) (sym (twelves-more bs h))
    (subst (λ bs'. Asked (delivering (in_range c) place (read_as (in_range c) (take 12 bs ∷ twelves (length (drop 12 bs) / 12) (drop 12 bs)))) (Ok (Some x)) (file_meaning c bs' (place + 1))) (sym f)
    (step-record (in_range c) place (take 12 bs) (twelves (length (drop 12 bs) / 12) (drop 12 bs)) x told))

next-damage : (c k : Counts) (bs t : List ℕ) (place : ℕ) (x : Cause) → 12 ≤ length bs → t ≡ take 12 bs → k ≡ in_range c → Err x ≡ decoded k None t
    → Asked (file_meaning c bs place) (Err (record { cause = x; place = place; depth = 0 })) (file_meaning c bs place)
next-damage c k bs t place x h e g d =
    let told : decoded (in_range c) None (take 12 bs) ≡ Err x = (λ i. decoded (sym g i) None (sym e i)) ∙ sym d in
    subst (λ ts. Asked (delivering (in_range c) place (read_as (in_range c) ts)) (Err (record { cause = x; place = place; depth = 0 })) (delivering (in_range c) place (read_as (in_range c) ts))) (sym (twelves-more bs h))
    (step-damage (in_range c) place (take 12 bs) (twelves (length (drop 12 bs) / 12) (drop 12 bs)) x told)

-- The tests of a whole file --------------------------------------------------------------------------------------------

-- what the tests of the header answer, tells what the bytes mean
opens : (bs : List ℕ) (h : Header) → 16 ≤ length bs → h ≡ header_of bs → (r : Result Counts Refusal) → r ≡ header_tested 4096 (eqb h.«length» (length bs)) h → opened bs ≡ opened_under bs r
opens bs h long e r t =
    let f : ltb (length bs) 16 ≡ false = grind (arith, nat_tests) in
    ap (λ b. cond b (Err ShortHeader) (opened_under bs (header_tested 4096 (eqb (header_of bs).«length» (length bs)) (header_of bs)))) f
    ∙ ap (opened_under bs) (ap (λ g. header_tested 4096 (eqb g.«length» (length bs)) g) (sym e) ∙ sym t)

opened-file : (bs : List ℕ) (h : Header) (c : Counts) → 16 ≤ length bs → h ≡ header_of bs → Ok c ≡ header_tested 4096 (eqb h.«length» (length bs)) h → opened bs ≡ Ok (file_meaning c (drop 16 bs) 0)
opened-file bs h c long e t =
    let q = header-passed 4096 (eqb h.«length» (length bs)) h c (sym t) in
    let whole : h.«length» ≡ length bs = eqb-true _ _ q.fitted in
    let l = q.length_is in
    let d = length-drop 16 bs in
    let n : h.count ≡ length (drop 16 bs) / 12 = omega arith in
    let range : in_range c ≡ c = range_same c (subst CountsInRange q.counts.same q.counts.in_range) in
    opens bs h long e (Ok c) t
    ∙ (ap (λ g. Ok (delivering c 0 (read_as c (twelves g.count (drop 16 bs))))) (sym e)
    ∙ (ap (λ k. Ok (delivering c 0 (read_as c (twelves k (drop 16 bs))))) n
    ∙ ap (λ g. Ok (delivering g 0 (read_as g (twelves (length (drop 16 bs) / 12) (drop 16 bs))))) (sym range)))

pub opens-behind : (bs : List ℕ) (h : Header) → 16 ≤ length bs → h ≡ header_of bs → (r : Result Counts Refusal) → r ≡ header_tested 4096 (eqb h.«length» (length bs)) h
    → MatchResult r (λ c. (16 ≤ length bs) × OpensBehind bs c) (λ e. opened bs ≡ Err e)
opens-behind bs h long e (Ok c) t = (long, λ behind b. let same = b ∙ take_rest bs 16 in (opened-file bs h c long e t ∙ ap (λ k. Ok (file_meaning c k 0)) (sym same), same))
opens-behind bs h long e (Err x) t = opens bs h long e (Err x) t

-- What peeking says --------------------------------------------------------------------------------------------------------

pub peeked : (c k : Counts) (bs t : List ℕ) (rest : Bor (List ℕ)) (place : ℕ) (r : Result Record Cause) → 12 ≤ length bs → t ≡ take 12 bs → rest.now ≡ drop 12 bs → k ≡ in_range c → r ≡ decoded k None t → Peeked c bs place (Some (r, rest))
peeked c k bs t rest place (Ok x) h e f g d =
    let n = length-drop 12 bs in
    let l = ap length f in
    (omega arith, next-record c k bs t rest.now place x h e f g d)
peeked c k bs t rest place (Err x) h e f g d = next-damage c k bs t place x h e g d
