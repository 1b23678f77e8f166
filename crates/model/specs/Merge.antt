-- The merge rule: when two orders of the same records give each record the same verdict. The lists here are whole lists, the newest first.
use Rattle.std.specs.Prelude.{◌≡◌, ℕ, Bool, false, cond, not, ◌&&◌, List, [], ◌∷◌, ◌++◌, ◌==◌, ◌≢◌}
use Rattle.record.specs.declared.kinds.Record.{Record}
use Rattle.record.specs.WellMade.{thread_of}
use Rattle.model.specs.Places.{missing}
use Rattle.model.specs.Events.{is_of, records_of, count_of, names, Law}
use Rattle.model.specs.Lawful.{verdict_at}

-- a record, with the other threads whose event that it names stood before it
pub record Entry : Type 0 where
  pub what : Record
  pub stood : ℕ → Bool

abbrev pub entry_of : List Record → Record → Entry
entry_of h x = record { what = x; stood = λ u. not (u == thread_of x) && not (missing (names u h x)) }

-- a thread's account of a list: all that it can tell of it, which is an entry for each record of its own, the newest first
abbrev pub account : ℕ → List Record → List Entry
account t [] = []
account t (x ∷ h) = cond (is_of t x) (entry_of h x ∷ []) [] ++ account t h

-- every thread gives the same account of both lists
abbrev pub Alike : List Record → List Record → Type 0
Alike h h' = (t : ℕ) → account t h ≡ account t h'

-- two lists in which every thread gives the same account give each record, by thread and index, the same verdict
abbrev pub MergeRule : Type 0
MergeRule = (L : Law) (T : ℕ) (h h' : List Record) → Alike h h' → (t i : ℕ) → verdict_at L T t i h ≡ verdict_at L T t i h'

-- The same in words of places ---------------------------------------------------------------------------------------

-- thread t has a record with index i, and the event of u that it names stands before it
abbrev pub stood_before : ℕ → ℕ → ℕ → List Record → Bool
stood_before u t i [] = false
stood_before u t i (x ∷ h) = cond (is_of t x && count_of t h == i) (not (missing (names u h x))) (stood_before u t i h)

-- Each thread's own records are the same in both lists; and of each record, the event of another thread that it names
-- (the write that a read names, the j-th notify of a thread's j-th wait) stands before it in the one exactly if in the other.
pub record SameMerge (all all' : List Record) : Type 0 where
  pub own : (t : ℕ) → records_of t all ≡ records_of t all'
  pub stood : (t i u : ℕ) → (u ≢ t) → stood_before u t i all ≡ stood_before u t i all'

abbrev pub MergeRuleByPlaces : Type 0
MergeRuleByPlaces = (L : Law) (T : ℕ) (all all' : List Record) → SameMerge all all' → (t i : ℕ) → verdict_at L T t i all ≡ verdict_at L T t i all'

-- both forms say the same of two lists
pub record AccountsByPlaces : Type 0 where
  pub alike : (all all' : List Record) → SameMerge all all' → Alike all all'
  pub merged : (all all' : List Record) → Alike all all' → SameMerge all all'
