-- An arrival list that passed its test names each log as often as it has records.
use Rattle.std.proofs.Common.{◌≡◌, ℕ, zero, suc, ◌+◌, ◌<◌, ◌≤◌, true, cond, eqb, ltb, List, [], ◌∷◌, map, length, get_or, drop, sym, refl, ap, ◌∙◌, ⊎_elim, arith}
use Rattle.std.proofs.lemmas.List.FromFn.{get_or-map-range_with_len}
use Rattle.std.proofs.lemmas.List.{get_or_past}
use Rattle.std.proofs.lemmas.List.Sums.{sum_by-cons}
use Rattle.std.proofs.lemmas.Bool.{and_parts, eqb-true, ltb-true, ne_eqb, cases_lt}
use Rattle.trace_file.specs.Layout.{twelves}
use Rattle.bundle.specs.declared.layout.Row.{Row}
use Rattle.bundle.specs.Layout.{slots_of}
use Rattle.bundle.specs.Contents.{row_at}
use Rattle.bundle.specs.Arrivals.{names_only, times_named, tallied, rows_tally, uses_exactly}
use Rattle.bundle.proofs.Order.{Exact}

rows_told : (rows : List Row) (ns : List ℕ) (k : ℕ) → rows_tally rows ns ≡ true → k < length rows → (row_at rows k).count ≡ get_or ns k 0
rows_told [] ns k e h = absurd (let z : ⊥ = omega arith in z)
rows_told (row ∷ rows) [] k e h = absurd (let z : ◌≡◌ {A = ℕ} 0 1 = cc in let f : ⊥ = omega arith in f)
rows_told (row ∷ rows) (n ∷ ns) zero e h = eqb-true row.count n (and_parts (eqb row.count n) (rows_tally rows ns) e).0
rows_told (row ∷ rows) (n ∷ ns) (suc k) e h = rows_told rows ns k (and_parts (eqb row.count n) (rows_tally rows ns) e).1 (omega arith)

-- a thread that there is not is not named
never-named : (threads k : ℕ) (ts : List ℕ) → names_only threads ts ≡ true → threads ≤ k → times_named k ts ≡ 0
never-named threads k [] e h = refl
never-named threads k (t ∷ ts) e h =
    let p = and_parts (ltb t threads) (names_only threads ts) e in
    let l : t < threads = ltb-true t threads p.0 in
    let ne : t ≡ k → ⊥ = λ q. (let z : ⊥ = omega arith in z) in
    let rest = never-named threads k ts p.1 h in
    sum_by-cons (λ u. cond (eqb u k) 1 0) t ts ∙ (ap (λ b. cond b 1 0 + times_named k ts) (ne_eqb t k ne) ∙ (let z : 0 + times_named k ts ≡ 0 = omega arith in z))

pub slots_at : (bs : List ℕ) (rows : List Row) (k : ℕ) → get_or (map (slots_of bs) rows) k [] ≡ slots_of bs (row_at rows k)
slots_at bs [] k = refl
slots_at bs (row ∷ rows) zero = refl
slots_at bs (row ∷ rows) (suc k) = slots_at bs rows k

length-twelves : (n : ℕ) (bs : List ℕ) → length (twelves n bs) ≡ n
length-twelves zero bs = refl
length-twelves (suc n) bs = ap suc (length-twelves n (drop 12 bs))

pub exact : (threads : ℕ) (bs : List ℕ) (rows : List Row) (ts : List ℕ) → threads ≤ 8 → length rows ≡ 8 → uses_exactly threads rows ts ≡ true → Exact (map (slots_of bs) rows) ts
exact threads bs rows ts few len e u =
    let p = and_parts (names_only threads ts) (rows_tally rows (tallied ts)) e in
    ap length (slots_at bs rows u) ∙ (length-twelves (row_at rows u).count (drop (row_at rows u).offset bs)
    ∙ ⊎_elim
    (λ (h : u < 8). rows_told rows (tallied ts) u p.1 (omega arith) ∙ get_or-map-range_with_len (λ k. times_named k ts) 0 8 u u 0 h (omega arith))
    (λ (h : 8 ≤ u). ap (λ row. row.count) (get_or_past rows u (record { offset = 0; count = 0 }) (omega arith)) ∙ sym (never-named threads u ts p.0 (omega arith)))
    (cases_lt u 8))
