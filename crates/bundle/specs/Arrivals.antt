-- Arrival lists: a thread for each record, in the order in which the records of all logs arrived.
use Rattle.std.specs.Prelude.{ℕ, Bool, true, false, ◌&&◌, List, [], ◌∷◌, map, count_by, ◌==◌, nat_eq, nat_lt, slice_index_or, slice_set}
use Rattle.std.specs.List.{range_with_len}
use Rattle.bundle.specs.declared.layout.Row.{Row}

-- every entry is a thread of so many
abbrev pub names_only : ℕ → List ℕ → Bool
names_only threads [] = true
names_only threads (t ∷ ts) = nat_lt t threads && names_only threads ts

-- how often a thread is named
abbrev pub times_named : ℕ → List ℕ → ℕ
times_named t ts = count_by (λ u. nat_eq u t) ts

-- how often each of the eight threads is named
abbrev pub tallied : List ℕ → List ℕ
tallied ts = map (λ t. times_named t ts) (range_with_len 0 8)

-- each row has as many records as the tally says
abbrev pub rows_tally : List Row → List ℕ → Bool
rows_tally [] ns = true
rows_tally (row ∷ rows) [] = false
rows_tally (row ∷ rows) (n ∷ ns) = row.count == n && rows_tally rows ns

-- the list names only such threads, and each as often as its log has records
abbrev pub uses_exactly : ℕ → List Row → List ℕ → Bool
uses_exactly threads rows ts = names_only threads ts && rows_tally rows (tallied ts)

-- the next of a thread's log, and then what the rest of the log leads to; nothing where the log is at its end
abbrev pub next_of : ℕ → List (List ℕ) → (List (List ℕ) → List (ℕ × List ℕ)) → List (ℕ × List ℕ)
next_of t [] rest = []
next_of t (slot ∷ slots) rest = (t, slot) ∷ rest slots

-- The twelve bytes of each record as it arrives, with its thread: each entry of the list takes the next of that thread's log.
abbrev pub arriving : List (List (List ℕ)) → List ℕ → List (ℕ × List ℕ)
arriving logs [] = []
arriving logs (t ∷ ts) = next_of t (slice_index_or logs t []) (λ slots. arriving (slice_set logs t slots) ts)
