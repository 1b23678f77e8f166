-- Opening a bundle: what it means, and that it delivers its logs in order.
use Rattle.std.proofs.Common.{◌≡◌, ℕ, suc, ◌+◌, ◌*◌, ◌/◌, ◌≤◌, Bool, true, false, cond, List, [], ◌∷◌, ◌++◌, map, length, get_or, take, drop, Some, Ok, Err, filter, Result, sym, refl, ap, ◌∙◌, subst, arith}
use Rattle.std.proofs.lemmas.List.{take_all, length-map}
use Rattle.record.specs.declared.kinds.Counts.{Counts}
use Rattle.record.specs.declared.kinds.Record.{Record}
use Rattle.record.specs.declared.causes.Cause.{Cause}
use Rattle.record.specs.Reading.{decoded}
use Rattle.record.specs.WellMade.{thread_of}
use Rattle.model.specs.Events.{is_of}
use Rattle.feed.specs.declared.refusals.Refusal.{Refusal}
use Rattle.feed.specs.declared.refusals.Refusal.TheVariants.{ArrivalList}
use Rattle.feed.specs.Meaning.{Meaning}
use Rattle.feed.specs.Delivery.{delivering}
use Rattle.trace_file.specs.Layout.{twelves}
use Rattle.trace_file.proofs.Tested.{never, inner, range_same}
use Rattle.bundle.specs.declared.layout.Row.{Row}
use Rattle.std.specs.Borrow.{Bor}
use Rattle.bundle.proofs.Slots.{whole-log}
use Rattle.bundle.specs.declared.testing.Contents.{Contents}
use Rattle.bundle.specs.Layout.{rows_of, slots_of}
use Rattle.bundle.specs.Contents.{contents_of, row_at, Within}
use Rattle.bundle.specs.Arrivals.{times_named, uses_exactly}
use Rattle.bundle.specs.Reading.{read_as_arriving, log_bytes, bytes_of, slots_left, bundle_meaning}
use Rattle.bundle.specs.Opening.{arrivals_of, opened_under, opened}
use Rattle.bundle.specs.Laws.{arrival_list, log_of, delivered_of, InOrder, LogsInOrder, OpensAs}
use Rattle.bundle.proofs.Passed.{ContentsRead, contents-read}
use Rattle.bundle.proofs.Order.{Exact, records-kept, kept-named, follows, all-arrive, damaged-at}
use Rattle.bundle.proofs.Exact.{slots_at, exact}

-- In order --------------------------------------------------------------------------------------------------------------

-- what the contents mean
abbrev held : List ℕ → Contents → Meaning
held bs k = delivering k.counts 0 (read_as_arriving k.counts (map (slots_of bs) k.rows) (arrivals_of bs k.count))

abbrev oks : ℕ → List Record → List (Result Record Cause)
oks t xs = map (λ x. Ok x) (filter (is_of t) xs)

told-oks : (m : Meaning) (t : ℕ) → delivered_of m t ≡ oks t m.waiting
told-oks m t = ap (map (λ x. Ok x)) (records-kept t m.waiting)

-- a log is read as what stands in its slots
log-read : (c : Counts) (bs : List ℕ) (rows : List Row) (t : ℕ) → rows ≡ rows_of bs → map (decoded c (Some t)) (get_or (map (slots_of bs) rows) t []) ≡ log_of c bs t
log-read c bs rows t e = ap (map (decoded c (Some t))) (slots_at bs rows t ∙ ap (λ r. slots_of bs (row_at r t)) e)

-- as many records of a thread are delivered as its log has
all_of : (c : Counts) (t : ℕ) (slots : List (List ℕ)) (xs : List Record) (ts : List ℕ) → length slots ≡ times_named t ts → map thread_of xs ≡ ts → oks t xs ≡ take (length (oks t xs)) (map (decoded c (Some t)) slots) → oks t xs ≡ map (decoded c (Some t)) slots
all_of c t slots xs ts l e h =
    let a : length (oks t xs) ≡ length slots = length-map (filter (is_of t) xs) (λ x. Ok x) ∙ (kept-named t xs ∙ (ap (times_named t) e ∙ sym l)) in
    let b = length-map slots (decoded c (Some t)) in
    h ∙ take_all (length (oks t xs)) (map (decoded c (Some t)) slots) (omega arith)

held-in-order : (bs : List ℕ) (k : Contents) → ContentsRead bs k → uses_exactly k.counts.threads k.rows (arrivals_of bs k.count) ≡ true → InOrder bs (held bs k)
held-in-order bs k r u =
    let c = k.counts in
    let logs = map (slots_of bs) k.rows in
    let ts = arrivals_of bs k.count in
    let m = held bs k in
    let xs = m.waiting in
    let f = follows c ts logs in
    let listed : ts ≡ arrival_list bs = ap (arrivals_of bs) r.count_is in
    let ex : Exact logs ts = exact c.threads bs k.rows ts r.fits.in_range.few_threads (ap length r.rows_are) u in
    record {
      threads = f.threads ∙ ap (take (length xs)) listed;
      records = λ t. told-oks m t ∙ (f.records t ∙ (λ i. take (length (sym (told-oks m t) i)) (log-read c bs k.rows t r.rows_are i)));
      all_threads = λ e. f.threads ∙ (take_all (length xs) ts (let a = all-arrive c ts logs 0 ex e in omega arith) ∙ listed);
      all_records = λ e t. told-oks m t ∙ (all_of c t (get_or logs t []) xs ts (ex t) (f.threads ∙ take_all (length xs) ts (let a = all-arrive c ts logs 0 ex e in omega arith)) (f.records t) ∙ log-read c bs k.rows t r.rows_are);
      damage_place = λ d e. (let p = (damaged-at c ts logs 0 d e).place_is in omega arith);
      damage_cause = λ d e t h.
          (let p = damaged-at c ts logs 0 d e in
          let q = p.place_is in
          let at : d.place ≡ length xs = omega arith in
          ap (λ l. l ++ Err d.cause ∷ []) (told-oks m t)
          ∙ (p.cause_is t (h ∙ (λ i. get_or (sym listed i) (at i) 0)) ∙ (λ i. take (length (sym (told-oks m t) i) + 1) (log-read c bs k.rows t r.rows_are i))));
    }

-- The theorem -----------------------------------------------------------------------------------------------------------

arrivals-on : (bs : List ℕ) (k : Contents) (m : Meaning) → ContentsRead bs k → (b : Bool) → uses_exactly k.counts.threads k.rows (arrivals_of bs k.count) ≡ b → cond b (Ok (held bs k)) (Err ArrivalList) ≡ Ok m → InOrder bs m
arrivals-on bs k m r true u e = subst (InOrder bs) (inner (held bs k) m e) (held-in-order bs k r u)
arrivals-on bs k m r false u e = absurd (never ArrivalList m e)

opened-on : (bs : List ℕ) (m : Meaning) (r : Result Contents Refusal) → contents_of bs ≡ r → opened_under bs r ≡ Ok m → InOrder bs m
opened-on bs m (Err x) q e = absurd (never x m e)
opened-on bs m (Ok k) q e = arrivals-on bs k m (contents-read bs k q) (uses_exactly k.counts.threads k.rows (arrivals_of bs k.count)) refl e

pub logs-in-order : LogsInOrder
logs-in-order bs m e = opened-on bs m (contents_of bs) refl e

-- Opening ---------------------------------------------------------------------------------------------------------------

whole-logs : (bs : List ℕ) (rows : List Row) (logs : List (Bor (List ℕ))) → map bytes_of logs ≡ map (log_bytes bs) rows → ((t : ℕ) → (row_at rows t).offset + 12 * (row_at rows t).count ≤ length bs) → map slots_left logs ≡ map (slots_of bs) rows
whole-logs bs [] [] e h = refl
whole-logs bs [] (log ∷ logs) e h = absurd (let z : ◌≡◌ {A = ℕ} (length (map bytes_of (log ∷ logs))) 0 = ap length e in let f : ⊥ = omega arith in f)
whole-logs bs (row ∷ rows) [] e h = absurd (let z : ◌≡◌ {A = ℕ} 0 (length (map (log_bytes bs) (row ∷ rows))) = ap length e in let f : ⊥ = omega arith in f)
whole-logs bs (row ∷ rows) (log ∷ logs) e h =
    let first : log.now ≡ log_bytes bs row = ap (λ l. get_or l 0 []) e in
    let later : map bytes_of logs ≡ map (log_bytes bs) rows = ap (drop 1) e in
    λ i. (ap (λ l. twelves (length l / 12) l) first ∙ whole-log bs row (h 0)) i ∷ whole-logs bs rows logs later (λ t. h (suc t)) i

held-is : (bs : List ℕ) (k : Contents) (ts : List ℕ) (logs : List (Bor (List ℕ))) → Within (length bs) k → ts ≡ arrivals_of bs k.count → map bytes_of logs ≡ map (log_bytes bs) k.rows → held bs k ≡ bundle_meaning k.counts logs ts 0
held-is bs k ts logs w e l =
    let c = range_same k.counts w.in_range in
    let all = sym (whole-logs bs k.rows logs l w.logs_within) in
    λ i. delivering (sym c i) 0 (read_as_arriving (sym c i) (all i) (sym e i))

-- what the test of the arrival list answers, tells what the bytes mean
pub opens_as : (bs ts : List ℕ) (k : Contents) (b : Bool) → Ok k ≡ contents_of bs → ts ≡ arrivals_of bs k.count → b ≡ uses_exactly k.counts.threads k.rows ts → opened bs ≡ cond b (Ok (held bs k)) (Err ArrivalList)
opens_as bs ts k b e l u = ap (opened_under bs) (sym e) ∙ ap (λ t. cond t (Ok (held bs k)) (Err ArrivalList)) (ap (uses_exactly k.counts.threads k.rows) (sym l) ∙ sym u)

pub opens : (bs : List ℕ) (k : Contents) → Within (length bs) k → opened bs ≡ Ok (held bs k) → OpensAs bs k
opens bs k w e ts logs t l =
    let m = held-is bs k ts logs w t l in
    (e ∙ ap (λ n. Ok n) m, subst (InOrder bs) m (logs-in-order bs (held bs k) e))
