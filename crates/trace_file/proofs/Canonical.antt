-- The trace file of a list of records: its header, one record more, and what it opens as.
use Rattle.std.proofs.Common.{◌≡◌, ℕ, ◌+◌, ◌-◌, ◌*◌, ◌<◌, ◌≤◌, Bool, true, false, cond, ◌&&◌, eqb, ltb, leb, List, [], ◌∷◌, ◌++◌, map, length, take, drop, None, Ok, Err, sym, refl, ap, ◌∙◌, subst, arith, eq-eqb}
use Rattle.std.proofs.lemmas.List.{append-nil, append_assoc, length-append, length_push, length-drop, take_at, drop_at, drop-drop}
use Rattle.std.proofs.lemmas.Bool.Decides.{nat_tests}
use Rattle.record.specs.declared.kinds.Counts.{Counts}
use Rattle.record.specs.declared.kinds.Record.{Record}
use Rattle.record.specs.Ending.{clean}
use Rattle.record.specs.Layout.{bytes_of}
use Rattle.record.specs.RoundTrip.{CountsFit}
use Rattle.record.specs.WellMade.{checked, AllWellMade}
use Rattle.record.proofs.Numerals.{two-joined, four-joined}
use Rattle.record.proofs.Encoded.{encoded-is-decoded}
use Rattle.feed.specs.declared.refusals.Refusal.TheVariants.{ShortHeader, ThreadCount, AddressCount, RecordCount, BrokenLayout}
use Rattle.feed.specs.Meaning.{CountsInRange}
use Rattle.feed.specs.Delivery.{well_made_ones, ending_after, delivering}
use Rattle.trace_file.specs.declared.layout.Header.{Header}
use Rattle.trace_file.specs.Layout.{trace_length, header_bytes, record_bytes, trace_of, header_of, twelves}
use Rattle.trace_file.specs.Opening.{outside, counts_tested, laid_out, layout_tested, header_tested, read_as, opened, opened_under}
use Rattle.trace_file.specs.Writing.{begins, begun, length_if, raised, slot_tested_under, append_tested, appends, placed, counted, appended}
use Rattle.trace_file.specs.Laws.{AllStorable, all_appended, AllGranted}
use Rattle.trace_file.proofs.Appended.{writable_then}

-- The header -------------------------------------------------------------------------------------------------------

-- the header of a trace of n records
abbrev pub head_for : Counts → ℕ → Header
head_for c n = record { threads = c.threads; addresses = c.addresses; count = n; offset = 16; «length» = trace_length n }

pub header-decoded : (c : Counts) (n : ℕ) (rest : List ℕ) → CountsInRange c → n ≤ 4096 → header_of (header_bytes c n ++ rest) ≡ head_for c n
header-decoded c n rest r h =
    let r1 = r.few_threads in
    let r2 = r.few_addresses in
    let t = two-joined c.threads (omega arith) in
    let a = two-joined c.addresses (omega arith) in
    let k = four-joined n (omega arith) in
    let l = four-joined (trace_length n) (omega arith) in
    λ i. record { threads = t i; addresses = a i; count = k i; offset = 16; «length» = l i }

pub counts-granted : (c : Counts) → CountsInRange c → counts_tested c.threads c.addresses ≡ Ok c
counts-granted c r =
    let r1 = r.some_thread in
    let r2 = r.few_threads in
    let r3 = r.some_address in
    let r4 = r.few_addresses in
    let t : outside 8 c.threads ≡ false = grind (arith, nat_tests) in
    let a : outside 64 c.addresses ≡ false = grind (arith, nat_tests) in
    ap (λ b. cond b (Err ThreadCount) (cond (outside 64 c.addresses) (Err AddressCount) (Ok c))) t ∙ ap (λ b. cond b (Err AddressCount) (Ok c)) a

pub header-granted : (most : ℕ) (fits : Bool) (c : Counts) (n : ℕ) → CountsInRange c → n ≤ most → fits ≡ true → header_tested most fits (head_for c n) ≡ Ok c
header-granted most fits c n r h f =
    let few : ltb most n ≡ false = grind (arith, nat_tests) in
    let same : eqb (trace_length n) (trace_length n) ≡ true = eq-eqb (trace_length n) (trace_length n) refl in
    ap (layout_tested most fits (head_for c n)) (counts-granted c r)
    ∙ (ap (λ b. cond b (Err RecordCount) (cond (laid_out (head_for c n) && fits) (Ok c) (Err BrokenLayout))) few
    ∙ (ap (λ b. cond (b && fits) (Ok c) (Err BrokenLayout)) same ∙ ap (λ b. cond b (Ok c) (Err BrokenLayout)) f))

-- Lengths ----------------------------------------------------------------------------------------------------------

length-records : (xs : List Record) → length (record_bytes xs) ≡ 12 * length xs
length-records [] = refl
length-records (x ∷ xs) = let h = length-records xs in let e = length-append (bytes_of x) (record_bytes xs) in omega arith

pub length-trace : (c : Counts) (xs : List Record) → length (trace_of c xs) ≡ trace_length (length xs)
length-trace c xs = let h = length-records xs in let e = length-append (header_bytes c (length xs)) (record_bytes xs) in omega arith

records-push : (xs : List Record) (x : Record) → record_bytes (xs ++ x ∷ []) ≡ record_bytes xs ++ bytes_of x
records-push [] x = append-nil (bytes_of x)
records-push (y ∷ xs) x = ap (λ l. bytes_of y ++ l) (records-push xs x) ∙ sym (append_assoc (bytes_of y) (record_bytes xs) (bytes_of x))

-- One record more --------------------------------------------------------------------------------------------------

pub trace-header : (c : Counts) (xs : List Record) (rest : List ℕ) → CountsInRange c → length xs ≤ 4096 → header_of (trace_of c xs ++ rest) ≡ head_for c (length xs)
trace-header c xs rest r h = ap header_of (append_assoc (header_bytes c (length xs)) (record_bytes xs) rest) ∙ header-decoded c (length xs) (record_bytes xs ++ rest) r h

pub appended-more : (c : Counts) (xs : List Record) (rest : List ℕ) (x : Record) → CountsInRange c → length xs ≤ 4096 → appended (trace_of c xs ++ rest) x ≡ trace_of c (xs ++ x ∷ []) ++ drop 12 rest
appended-more c xs rest x r h =
    let bs = trace_of c xs ++ rest in
    let n = length xs in
    let front : take (trace_length n) bs ≡ trace_of c xs = take_at (trace_of c xs) rest (trace_length n) (length-trace c xs) in
    let back : drop (trace_length n + 12) bs ≡ drop 12 rest = sym (drop-drop 12 (trace_length n) bs) ∙ ap (drop 12) (drop_at (trace_of c xs) rest (trace_length n) (length-trace c xs)) in
    let put : placed (trace_length n) (bytes_of x) bs ≡ header_bytes c n ++ ((record_bytes xs ++ bytes_of x) ++ drop 12 rest) =
    (λ i. front i ++ (bytes_of x ++ back i))
    ∙ (append_assoc (header_bytes c n) (record_bytes xs) (bytes_of x ++ drop 12 rest) ∙ ap (λ l. header_bytes c n ++ l) (sym (append_assoc (record_bytes xs) (bytes_of x) (drop 12 rest)))) in
    ap (λ g. counted (g.count + 1) (placed (trace_length g.count) (bytes_of x) bs)) (trace-header c xs rest r h)
    ∙ (ap (counted (n + 1)) put
    ∙ (ap (λ k. header_bytes c k ++ ((record_bytes xs ++ bytes_of x) ++ drop 12 rest)) (sym (length_push xs x))
    ∙ (ap (λ l. header_bytes c (length (xs ++ x ∷ [])) ++ (l ++ drop 12 rest)) (sym (records-push xs x))
    ∙ sym (append_assoc (header_bytes c (length (xs ++ x ∷ []))) (record_bytes (xs ++ x ∷ [])) (drop 12 rest)))))

pub append-granted : (c : Counts) (xs : List Record) (rest : List ℕ) (x : Record) → CountsInRange c → length xs < 4096 → 12 ≤ length rest → checked c x ≡ Ok tt
    → appends (trace_of c xs ++ rest) x ≡ Ok (trace_length (length xs + 1))
append-granted c xs rest x r h room w =
    let bs = trace_of c xs ++ rest in
    let n = length xs in
    let l : length bs ≡ trace_length n + length rest = length-append (trace_of c xs) rest ∙ ap (λ k. k + length rest) (length-trace c xs) in
    let long : ltb (length bs) 16 ≡ false = grind (arith, nat_tests) in
    let fits : leb (trace_length n) (length bs) ≡ true = grind (arith, nat_tests) in
    let enough : 12 ≤ length bs - trace_length n = omega arith in
    let head : header_tested 4095 (leb (trace_length n) (length bs)) (head_for c n) ≡ Ok c = header-granted 4095 (leb (trace_length n) (length bs)) c n r (omega arith) fits in
    let tested : append_tested (head_for c n) (length bs) x ≡ Ok c = ap (slot_tested_under (head_for c n) (length bs) x) head ∙ ap (raised c) (writable_then c x (length bs - trace_length n) w enough) in
    ap (λ b. cond b (Err ShortHeader) (length_if (trace_length ((header_of bs).count + 1)) (append_tested (header_of bs) (length bs) x))) long
    ∙ (ap (λ g. length_if (trace_length (g.count + 1)) (append_tested g (length bs) x)) (trace-header c xs rest r (omega arith))
    ∙ ap (length_if (trace_length (n + 1))) tested)

-- All of them ------------------------------------------------------------------------------------------------------

all-granted : (c : Counts) (done xs : List Record) (rest : List ℕ) → CountsInRange c → length done + length xs ≤ 4096 → AllWellMade c xs → 12 * length xs ≤ length rest → AllGranted (trace_of c done ++ rest) xs
all-granted c done [] rest r h w room = tt
all-granted c done (x ∷ xs) rest r h w room =
    let bs = trace_of c done ++ rest in
    let few : length done ≤ 4096 = omega arith in
    let l = length_push done x in
    let d = length-drop 12 rest in
    let later : AllGranted (trace_of c (done ++ x ∷ []) ++ drop 12 rest) xs = all-granted c (done ++ x ∷ []) xs (drop 12 rest) r (omega arith) w.1 (omega arith) in
    let head = trace-header c done rest r few in
    (append-granted c done rest x r (omega arith) (omega arith) w.0 ∙ ap (λ g. Ok (trace_length (g.count + 1))) (sym head), subst (λ b. AllGranted b xs) (sym (appended-more c done rest x r few)) later)

pub all-appended : (c : Counts) (done xs : List Record) (rest : List ℕ) → CountsInRange c → length done + length xs ≤ 4096 → all_appended (trace_of c done ++ rest) xs ≡ trace_of c (done ++ xs) ++ drop (12 * length xs) rest
all-appended c done [] rest r h = ap (λ l. trace_of c l ++ rest) (sym (append-nil done))
all-appended c done (x ∷ xs) rest r h =
    let l = length_push done x in
    let n : 12 + 12 * length xs ≡ 12 * length (x ∷ xs) = omega arith in
    ap (λ b. all_appended b xs) (appended-more c done rest x r (omega arith))
    ∙ (all-appended c (done ++ x ∷ []) xs (drop 12 rest) r (omega arith)
    ∙ (λ i. trace_of c (append_assoc done (x ∷ []) xs i) ++ (drop-drop (12 * length xs) 12 rest ∙ ap (λ k. drop k rest) n) i))

-- what was begun is an empty trace before the rest
pub granted-from-begun : (c : Counts) (xs : List Record) (buf : List ℕ) → CountsInRange c → length xs ≤ 4096 → AllWellMade c xs → trace_length (length xs) ≤ length buf → AllGranted (begun buf c) xs
granted-from-begun c xs buf r h w room = let d = length-drop 16 buf in all-granted c [] xs (drop 16 buf) r (omega arith) w (omega arith)

pub appended-to-begun : (c : Counts) (xs : List Record) (buf : List ℕ) → CountsInRange c → length xs ≤ 4096 → all_appended (begun buf c) xs ≡ trace_of c xs ++ drop (trace_length (length xs)) buf
appended-to-begun c xs buf r h = all-appended c [] xs (drop 16 buf) r (omega arith) ∙ ap (λ l. trace_of c xs ++ l) (drop-drop (12 * length xs) 16 buf)

-- What it opens as -------------------------------------------------------------------------------------------------

slots-of : (xs : List Record) → twelves (length xs) (record_bytes xs) ≡ map bytes_of xs
slots-of [] = refl
slots-of (x ∷ xs) = ap (λ l. bytes_of x ∷ l) (slots-of xs)

reads_all : (c : Counts) → CountsFit c → (xs : List Record) → AllWellMade c xs → AllStorable xs → read_as c (map bytes_of xs) ≡ map (λ (x : Record). Ok x) xs
reads_all c k [] w s = refl
reads_all c k (x ∷ xs) w s = λ i. encoded-is-decoded c k None x s.0 w.0 refl i ∷ reads_all c k xs w.1 s.1 i

ones-of : (xs : List Record) → well_made_ones (map (λ (x : Record). Ok x) xs) ≡ xs
ones-of [] = refl
ones-of (x ∷ xs) = ap (λ l. x ∷ l) (ones-of xs)

ends-clean : (place : ℕ) (xs : List Record) → ending_after place (map (λ (x : Record). Ok x) xs) ≡ clean
ends-clean place [] = refl
ends-clean place (x ∷ xs) = ends-clean (place + 1) xs

pub trace-opens : (c : Counts) (xs : List Record) → CountsInRange c → length xs ≤ 4096 → AllWellMade c xs → AllStorable xs → opened (trace_of c xs) ≡ Ok (record { counts = c; waiting = xs; ending = clean })
trace-opens c xs r h w s =
    let bs = trace_of c xs in
    let n = length xs in
    let r1 = r.few_threads in
    let r2 = r.few_addresses in
    let l = length-trace c xs in
    let long : ltb (length bs) 16 ≡ false = grind (arith, nat_tests) in
    let whole : eqb (trace_length n) (length bs) ≡ true = eq-eqb (trace_length n) (length bs) (sym l) in
    let head : header_of bs ≡ head_for c n = header-decoded c n (record_bytes xs) r h in
    let tested : header_tested 4096 (eqb (trace_length n) (length bs)) (head_for c n) ≡ Ok c = header-granted 4096 (eqb (trace_length n) (length bs)) c n r h whole in
    let fit : CountsFit c = record { threads_fit = omega arith; addresses_fit = omega arith } in
    let read : read_as c (twelves n (record_bytes xs)) ≡ map (λ (x : Record). Ok x) xs = ap (read_as c) (slots-of xs) ∙ reads_all c fit xs w s in
    ap (λ b. cond b (Err ShortHeader) (opened_under bs (header_tested 4096 (eqb (header_of bs).«length» (length bs)) (header_of bs)))) long
    ∙ (ap (λ g. opened_under bs (header_tested 4096 (eqb g.«length» (length bs)) g)) head
    ∙ (ap (opened_under bs) tested
    ∙ (ap (λ g. Ok (delivering c 0 (read_as c (twelves g.count (record_bytes xs))))) head
    ∙ (ap (λ rs. Ok (delivering c 0 rs)) read ∙ (λ i. Ok (record { counts = c; waiting = ones-of xs i; ending = ends-clean 0 xs i }))))))

pub begin_granted : (c : Counts) (room : ℕ) → CountsInRange c → 16 ≤ room → begins room c ≡ Ok (trace_length 0)
begin_granted c room r h =
    let long : ltb room 16 ≡ false = grind (arith, nat_tests) in
    ap (λ b. cond b (Err ShortHeader) (length_if (trace_length 0) (counts_tested c.threads c.addresses))) long ∙ ap (length_if (trace_length 0)) (counts-granted c r)
