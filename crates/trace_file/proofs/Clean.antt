-- Bytes that open and end clean are the trace file of their counts and records.
use Rattle.std.proofs.Common.{◌≡◌, ℕ, zero, suc, ◌+◌, ◌*◌, ◌<◌, ◌≤◌, Bool, eqb, ltb, List, [], ◌∷◌, ◌++◌, length, get_or, take, drop, None, Ok, Err, Result, sym, refl, ap, ◌∙◌, subst, arith, ltb-false, eqb-true}
use Rattle.std.proofs.lemmas.List.FromFn.{fill_by_all}
use Rattle.std.proofs.lemmas.List.{length-drop, length-take-le, take-append-drop, get_or-take, get_or-drop, nil_from_length}
use Rattle.record.specs.declared.kinds.Counts.{Counts}
use Rattle.record.specs.declared.kinds.Record.{Record}
use Rattle.record.specs.declared.causes.Cause.{Cause}
use Rattle.record.specs.Ending.{clean, damaged}
use Rattle.record.specs.Layout.{two, four, bytes_of}
use Rattle.record.specs.Reading.{decoded}
use Rattle.record.specs.RoundTrip.{AllBytes}
use Rattle.record.proofs.Numerals.{two-high, two-low, four-0, four-1, four-2, four-3}
use Rattle.record.proofs.Decoded.{decoded-is-encoded}
use Rattle.feed.specs.declared.refusals.Refusal.{Refusal}
use Rattle.feed.specs.declared.refusals.Refusal.TheVariants.{ShortHeader}
use Rattle.feed.specs.Meaning.{Meaning}
use Rattle.feed.specs.Delivery.{well_made_ones, ending_after, delivering}
use Rattle.trace_file.specs.Layout.{two_bytes, four_bytes, header_bytes, record_bytes, trace_of, header_of, twelves}
use Rattle.trace_file.specs.Opening.{header_tested, read_as, opened, opened_under}
use Rattle.trace_file.specs.Laws.{CleanIsItsTrace, OneTraceFile}
use Rattle.trace_file.proofs.Tested.{HeaderPassed, header-passed, peel, never, inner}

-- The header -------------------------------------------------------------------------------------------------------

sixteen : (l : List ℕ) → 16 ≤ length l
    → take 16 l ≡ get_or l 0 0 ∷ get_or l 1 0 ∷ get_or l 2 0 ∷ get_or l 3 0 ∷ get_or l 4 0 ∷ get_or l 5 0 ∷ get_or l 6 0 ∷ get_or l 7 0 ∷ get_or l 8 0 ∷ get_or l 9 0 ∷ get_or l 10 0 ∷ get_or l 11 0 ∷ get_or l 12 0 ∷ get_or l 13 0 ∷ get_or l 14 0 ∷ get_or l 15 0 ∷ []
sixteen l h = fill_by_all (λ k. get_or l k 0) (take 16 l) 16 0 (length-take-le 16 l h) (λ k b. get_or-take 16 l k 0 b)

two_bytes-two : (a b : ℕ) → a < 256 → b < 256 → two_bytes (two a b) ≡ a ∷ b ∷ []
two_bytes-two a b h k = λ i. two-high a b h k i ∷ two-low a b h k i ∷ []

four_bytes-four : (a b c d : ℕ) → a < 256 → b < 256 → c < 256 → d < 256 → four_bytes (four a b c d) ≡ a ∷ b ∷ c ∷ d ∷ []
four_bytes-four a b c d h k l m = λ i. four-0 a b c d h k l m i ∷ four-1 a b c d h k l m i ∷ four-2 a b c d h k l m i ∷ four-3 a b c d h k l m i ∷ []

-- the header's fields, written out again, are its bytes
header-same : (bs : List ℕ) → AllBytes bs → 16 ≤ length bs
    → two_bytes (header_of bs).threads ++ (two_bytes (header_of bs).addresses ++ (four_bytes (header_of bs).count ++ (four_bytes (header_of bs).offset ++ four_bytes (header_of bs).«length»))) ≡ take 16 bs
header-same bs h long =
    let b = λ (k : ℕ). get_or bs k 0 in
    (λ i. two_bytes-two (b 0) (b 1) (h 0) (h 1) i ++ (two_bytes-two (b 2) (b 3) (h 2) (h 3) i ++ (four_bytes-four (b 4) (b 5) (b 6) (b 7) (h 4) (h 5) (h 6) (h 7) i ++ (four_bytes-four (b 8) (b 9) (b 10) (b 11) (h 8) (h 9) (h 10) (h 11) i ++ four_bytes-four (b 12) (b 13) (b 14) (b 15) (h 12) (h 13) (h 14) (h 15) i))))
    ∙ sym (sixteen bs long)

pub header_is : (bs : List ℕ) (c : Counts) (fits : Bool) → AllBytes bs → 16 ≤ length bs → HeaderPassed 4096 fits (header_of bs) c → header_bytes c (header_of bs).count ≡ take 16 bs
header_is bs c fits h long p =
    (λ i. two_bytes (sym p.counts.same i).threads ++ (two_bytes (sym p.counts.same i).addresses ++ (four_bytes (header_of bs).count ++ (four_bytes (sym p.offset_is i) ++ four_bytes (sym p.length_is i))))) ∙ header-same bs h long

-- The records ------------------------------------------------------------------------------------------------------

bytes_drop : (n : ℕ) (bs : List ℕ) → AllBytes bs → AllBytes (drop n bs)
bytes_drop n bs h k = subst (λ v. v < 256) (sym (get_or-drop n bs k 0)) (h (n + k))

bytes_take : (n : ℕ) (bs : List ℕ) → AllBytes bs → AllBytes (take n bs)
bytes_take zero bs h k = omega arith
bytes_take (suc n) [] h k = h k
bytes_take (suc n) (b ∷ bs) h zero = h 0
bytes_take (suc n) (b ∷ bs) h (suc k) = bytes_take n bs (λ j. h (suc j)) k

dirty : (d : Rattle.record.specs.declared.causes.Damage.Damage) → damaged d ≡ clean → ⊥
dirty d e = let z : ◌≡◌ {A = ℕ} 0 1 = cc in omega arith

-- the records read, written out again, are the bytes that they were read from, and as many as there are twelves
pub record Whole (n : ℕ) (body : List ℕ) (xs : List Record) : Type 0 where
  pub bytes : record_bytes xs ≡ body
  pub count : length xs ≡ n

whole-more : (n : ℕ) (body : List ℕ) (x : Record) (xs : List Record) → bytes_of x ≡ take 12 body → Whole n (drop 12 body) xs → Whole (suc n) body (x ∷ xs)
whole-more n body x xs e w = record { bytes = (λ i. e i ++ w.bytes i) ∙ take-append-drop 12 body; count = ap suc w.count }

body-whole : (c : Counts) (n place : ℕ) (body : List ℕ) → length body ≡ 12 * n → AllBytes body → ending_after place (read_as c (twelves n body)) ≡ clean → Whole n body (well_made_ones (read_as c (twelves n body)))
body-whole c zero place body l h e = record { bytes = sym (nil_from_length body (omega arith)); count = refl }
body-whole c (suc n) place body l h e =
    let d = length-drop 12 body in
    let twelve : length (take 12 body) ≡ 12 = length-take-le 12 body (omega arith) in
    go (λ p q. body-whole c n p (drop 12 body) (omega arith) (bytes_drop 12 body h) q) (decoded c None (take 12 body)) refl e twelve
  where
    go : ((p : ℕ) → ending_after p (read_as c (twelves n (drop 12 body))) ≡ clean → Whole n (drop 12 body) (well_made_ones (read_as c (twelves n (drop 12 body))))) → (r : Result Record Cause) → decoded c None (take 12 body) ≡ r → ending_after place (r ∷ read_as c (twelves n (drop 12 body))) ≡ clean → length (take 12 body) ≡ 12 → Whole (suc n) body (well_made_ones (r ∷ read_as c (twelves n (drop 12 body))))
    go later (Ok x) q e t = whole-more n body x _ (decoded-is-encoded c None (take 12 body) t (bytes_take 12 body h) x q) (later (place + 1) e)
    go later (Err k) q e t = absurd (dirty _ e)

-- The file ---------------------------------------------------------------------------------------------------------

-- what is known of bytes that opened
pub record OpenedBytes (bs : List ℕ) (m : Meaning) : Type 0 where
  pub long : 16 ≤ length bs
  pub counts : Counts
  pub passed : HeaderPassed 4096 (eqb (header_of bs).«length» (length bs)) (header_of bs) counts
  pub meant : m ≡ delivering counts 0 (read_as counts (twelves (header_of bs).count (drop 16 bs)))

opened-on : (bs : List ℕ) (m : Meaning) → 16 ≤ length bs → (r : Result Counts Refusal) → header_tested 4096 (eqb (header_of bs).«length» (length bs)) (header_of bs) ≡ r → opened_under bs r ≡ Ok m → OpenedBytes bs m
opened-on bs m long (Err x) q e = absurd (never x m e)
opened-on bs m long (Ok c) q e = record { long = long; counts = c; passed = header-passed 4096 (eqb (header_of bs).«length» (length bs)) (header_of bs) c q; meant = sym (inner _ m e) }

pub opened-bytes : (bs : List ℕ) (m : Meaning) → opened bs ≡ Ok m → OpenedBytes bs m
opened-bytes bs m e =
    let p = peel (ltb (length bs) 16) ShortHeader (opened_under bs (header_tested 4096 (eqb (header_of bs).«length» (length bs)) (header_of bs))) m e in
    opened-on bs m (ltb-false (length bs) 16 p.0) (header_tested 4096 (eqb (header_of bs).«length» (length bs)) (header_of bs)) refl p.1

pub clean-is-its-trace : CleanIsItsTrace
clean-is-its-trace bs h m e cl =
    let o = opened-bytes bs m e in
    let c = o.counts in
    let n = (header_of bs).count in
    let long = o.long in
    let whole : (header_of bs).«length» ≡ length bs = eqb-true _ _ o.passed.fitted in
    let l = o.passed.length_is in
    let d = length-drop 16 bs in
    let w : Whole n (drop 16 bs) (well_made_ones (read_as c (twelves n (drop 16 bs)))) = body-whole c n 0 (drop 16 bs) (omega arith) (bytes_drop 16 bs h) (sym (ap (λ k. k.ending) o.meant) ∙ cl) in
    sym (take-append-drop 16 bs)
    ∙ ((λ i. sym (header_is bs c _ h long o.passed) i ++ sym w.bytes i)
    ∙ (ap (λ k. header_bytes c k ++ record_bytes (well_made_ones (read_as c (twelves n (drop 16 bs))))) (sym w.count)
    ∙ ap (λ k. trace_of k.counts k.waiting) (sym o.meant)))

pub one-trace-file : OneTraceFile
one-trace-file bs bs' h h' m e e' c = clean-is-its-trace bs h m e c ∙ sym (clean-is-its-trace bs' h' m e' c)
