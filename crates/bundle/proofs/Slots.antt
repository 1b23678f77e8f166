-- What is left of a log, and one step of the logs together.
use Rattle.std.proofs.Common.{◌≡◌, ℕ, zero, suc, ◌+◌, ◌*◌, ◌/◌, ◌<◌, ◌≤◌, List, [], ◌∷◌, map, length, get_or, take, drop, set, Some, None, Ok, Err, Result, sym, refl, ap, ◌∙◌, subst, arith, take-add}
use Rattle.std.specs.Borrow.{Bor}
use Rattle.std.proofs.lemmas.List.{drop_more, take_at, drop-take, length-drop, length-take-le, get_or-map, map-set}
use Rattle.record.specs.declared.kinds.Counts.{Counts}
use Rattle.record.specs.declared.kinds.Record.{Record}
use Rattle.record.specs.declared.causes.Cause.{Cause}
use Rattle.record.specs.Reading.{decoded}
use Rattle.feed.specs.Meaning.{Asked}
use Rattle.feed.specs.Delivery.{delivering}
use Rattle.trace_file.specs.Layout.{twelves}
use Rattle.trace_file.specs.Opening.{in_range}
use Rattle.trace_file.proofs.Twelves.{twelves-more}
use Rattle.bundle.specs.declared.layout.Row.{Row}
use Rattle.bundle.specs.Layout.{slots_of}
use Rattle.bundle.specs.Arrivals.{next_of, arriving}
use Rattle.bundle.specs.Reading.{read_in_log, read_as_arriving, log_bytes, slots_left}
use Rattle.bundle.specs.Peeking.{Peeked}

-- One log -------------------------------------------------------------------------------------------------------------

twelves-front : (n : ℕ) (l : List ℕ) → 12 * n ≤ length l → twelves n (take (12 * n) l) ≡ twelves n l
twelves-front zero l h = refl
twelves-front (suc n) l h =
    let m : 12 * suc n ≡ 12 + 12 * n = omega arith in
    let d = length-drop 12 l in
    let front : take 12 (take (12 + 12 * n) l) ≡ take 12 l = ap (take 12) (take-add 12 (12 * n) l) ∙ take_at (take 12 l) (take (12 * n) (drop 12 l)) 12 (length-take-le 12 l (omega arith)) in
    ap (λ k. twelves (suc n) (take k l)) m
    ∙ (λ i. front i ∷ (ap (twelves n) (drop-take 12 (12 * n) l) ∙ twelves-front n (drop 12 l) (omega arith)) i)

-- where a log stands within the bytes, all of it is left
pub whole-log : (bs : List ℕ) (row : Row) → row.offset + 12 * row.count ≤ length bs → twelves (length (log_bytes bs row) / 12) (log_bytes bs row) ≡ slots_of bs row
whole-log bs row h =
    let d = length-drop row.offset bs in
    let l = length-take-le (12 * row.count) (drop row.offset bs) (omega arith) in
    let e : length (log_bytes bs row) / 12 ≡ row.count = omega arith in
    ap (λ n. twelves n (log_bytes bs row)) e ∙ twelves-front row.count (drop row.offset bs) (omega arith)

-- One record ----------------------------------------------------------------------------------------------------------

-- the entry at hand decides
entry : (c : Counts) (logs : List (List (List ℕ))) (ts : List ℕ) (at t : ℕ) → at < length ts → t ≡ get_or ts at 0 → read_as_arriving c logs (drop at ts) ≡ map (read_in_log c) (next_of t (get_or logs t []) (λ slots. arriving (set logs t slots) (drop (at + 1) ts)))
entry c logs ts at t h e = ap (read_as_arriving c logs) (drop_more ts at 0 h) ∙ ap (λ u. read_as_arriving c logs (u ∷ drop (at + 1) ts)) (sym e)

-- nothing is left to be read
ended : (c : Counts) (at : ℕ) (ws : List (Result Record Cause)) → ws ≡ [] → Asked (delivering c at ws) (Ok None) (delivering c at ws)
ended c at ws e = subst (λ w. Asked (delivering c at w) (Ok None) (delivering c at w)) (sym e) (refl, refl, refl)

-- what is left of the entry's log
left : (logs : List (Bor (List ℕ))) (t : ℕ) (log : Bor (List ℕ)) → t < length logs → log ≡ get_or logs t log → get_or (map slots_left logs) t [] ≡ slots_left log
left logs t log h g = get_or-map slots_left logs t log [] h ∙ ap slots_left (sym g)

twelves-none : (bs : List ℕ) → length bs < 12 → twelves (length bs / 12) bs ≡ []
twelves-none bs h = let e : length bs / 12 ≡ 0 = omega arith in ap (λ n. twelves n bs) e

-- the entry's log has no record left
pub peeked-none : (c : Counts) (logs : List (Bor (List ℕ))) (ts : List ℕ) (at t : ℕ) (log : Bor (List ℕ)) → at < length ts → t ≡ get_or ts at 0 → t < length logs → log ≡ get_or logs t log → length log.now < 12 → Peeked c logs ts at None
peeked-none c logs ts at t log h e l g short =
    let all = map slots_left logs in
    let n : get_or all t [] ≡ [] = left logs t log l g ∙ twelves-none log.now short in
    ended (in_range c) at _ (entry (in_range c) all ts at t h e ∙ ap (λ w. map (read_in_log (in_range c)) (next_of t w (λ slots. arriving (set all t slots) (drop (at + 1) ts)))) n)

-- what waits is the record at hand and what the logs hold behind it
behind : (c : Counts) (logs : List (Bor (List ℕ))) (ts : List ℕ) (at t : ℕ) (log rest : Bor (List ℕ)) (slot : List ℕ) → at < length ts → t ≡ get_or ts at 0 → t < length logs → log ≡ get_or logs t log → 12 ≤ length log.now → slot ≡ take 12 log.now → rest.now ≡ drop 12 log.now
    → read_as_arriving c (map slots_left logs) (drop at ts) ≡ decoded c (Some t) slot ∷ read_as_arriving c (map slots_left (set logs t rest)) (drop (at + 1) ts)
behind c logs ts at t log rest slot h e l g long s r =
    let all = map slots_left logs in
    let n : get_or all t [] ≡ slot ∷ slots_left rest = left logs t log l g ∙ (twelves-more log.now long ∙ (λ i. sym s i ∷ twelves (length (sym r i) / 12) (sym r i))) in
    entry c all ts at t h e
    ∙ (ap (λ w. map (read_in_log c) (next_of t w (λ slots. arriving (set all t slots) (drop (at + 1) ts)))) n
    ∙ ap (λ w. decoded c (Some t) slot ∷ read_as_arriving c w (drop (at + 1) ts)) (sym (map-set slots_left logs t rest)))

pub peeked : (c : Counts) (logs : List (Bor (List ℕ))) (ts : List ℕ) (at t : ℕ) (log rest : Bor (List ℕ)) (slot : List ℕ) (r : Result Record Cause) → t < 8 → at < length ts → t ≡ get_or ts at 0 → t < length logs → log ≡ get_or logs t log → 12 ≤ length log.now → slot ≡ take 12 log.now → rest.now ≡ drop 12 log.now → r ≡ read_in_log (in_range c) (t, slot)
    → Peeked c logs ts at (Some (t, r, rest))
peeked c logs ts at t log rest slot (Ok x) few h e l g long s r d =
    let later = read_as_arriving (in_range c) (map slots_left (set logs t rest)) (drop (at + 1) ts) in
    let told : read_as_arriving (in_range c) (map slots_left logs) (drop at ts) ≡ Ok x ∷ later = behind (in_range c) logs ts at t log rest slot h e l g long s r ∙ ap (λ y. y ∷ later) (sym d) in
    (few, h, subst (λ w. Asked (delivering (in_range c) at w) (Ok (Some x)) (delivering (in_range c) (at + 1) later)) (sym told) (refl, refl, refl))
peeked c logs ts at t log rest slot (Err cause) few h e l g long s r d =
    let later = read_as_arriving (in_range c) (map slots_left (set logs t rest)) (drop (at + 1) ts) in
    let told : read_as_arriving (in_range c) (map slots_left logs) (drop at ts) ≡ Err cause ∷ later = behind (in_range c) logs ts at t log rest slot h e l g long s r ∙ ap (λ y. y ∷ later) (sym d) in
    subst (λ w. Asked (delivering (in_range c) at w) (Err (record { cause = cause; place = at; depth = 0 })) (delivering (in_range c) at w)) (sym told) (refl, refl, refl)
