-- Precedence as an order of numbers, and the rules of covering and overwriting by comparing them.
-- Here xs are one thread's acts, the oldest first, and seen the places of those that another thread has observed.
use Rattle.std.specs.Prelude.{◌≡◌, ℕ, zero, suc, ◌+◌, ◌*◌, ◌≤◌, max, Bool, true, false, cond, ◌&&◌, ◌||◌, List, [], ◌∷◌, length, nat_eq, nat_lt}
use Rattle.record.specs.declared.kinds.Record.{Record}
use Rattle.model.specs.Places.{at_place, is_at, any_of}
use Rattle.model.specs.Events.{is_event, is_strict, is_write, is_write_to, address_of, acts_of, Edition, Law, observed, precedes, covered, overwritten, covered_to}

abbrev pub bit : Bool → ℕ
bit true = 1
bit false = 0

-- how many strict events stand before place k
abbrev pub strict_before : Edition → List Record → ℕ → ℕ
strict_before E xs zero = 0
strict_before E xs (suc k) = strict_before E xs k + bit (is_at (is_strict E) xs k)

-- the rank of the event at place k: 2n where it is a relaxed write behind n strict events, 2n + 1 where it is strict
abbrev pub rank : Edition → List Record → ℕ → ℕ
rank E xs k = 2 * strict_before E xs k + bit (is_at (is_strict E) xs k)

-- the largest rank of the places seen
abbrev pub top_seen : Edition → List Record → List ℕ → ℕ
top_seen E xs [] = 0
top_seen E xs (e ∷ es) = max (rank E xs e) (top_seen E xs es)

-- one more than the largest rank of a covered write to the address a among the first n, and 0 where there is none
abbrev pub top_covered : Edition → List Record → List ℕ → ℕ → ℕ → ℕ
top_covered E xs seen a zero = 0
top_covered E xs seen a (suc n) = max (cond (covered E xs seen n && is_at (is_write_to a) xs n) (suc (rank E xs n)) 0) (top_covered E xs seen a n)

pub record RankRules : Type 0 where
  -- one event of a thread precedes another exactly if its rank is smaller
  pub precedes_by_rank : (E : Edition) (xs : List Record) (e f : ℕ) → is_at (is_event E) xs e ≡ true → is_at (is_event E) xs f ≡ true → precedes E xs e f ≡ nat_lt (rank E xs e) (rank E xs f)
  -- ranks never fall along a thread
  pub never_fall : (E : Edition) (xs : List Record) (e f : ℕ) → e ≤ f → rank E xs e ≤ rank E xs f
  -- a write of u is covered for r exactly if it is observed itself, or its rank is below the largest observed
  pub covered_by_rank : (L : Law) (r u : ℕ) (h : List Record) (w : ℕ) → covered L.edition (acts_of u h) (observed L r u h) w ≡ (is_at is_write (acts_of u h) w && (any_of (observed L r u h) (nat_eq w) || nat_lt (rank L.edition (acts_of u h) w) (top_seen L.edition (acts_of u h) (observed L r u h))))
  -- a write is overwritten exactly if its rank is below that of some covered write to its address
  pub overwritten_by_rank : (E : Edition) (xs : List Record) (seen : List ℕ) (w : ℕ) → is_at is_write xs w ≡ true → overwritten E xs seen w ≡ nat_lt (suc (rank E xs w)) (top_covered E xs seen (at_place 0 address_of xs w) (length xs))
  -- the initial value of a is gone, as far as this thread's writes go, exactly if there is such a number
  pub initial_gone_by_rank : (E : Edition) (xs : List Record) (seen : List ℕ) (a : ℕ) → covered_to E xs seen a ≡ nat_lt 0 (top_covered E xs seen a (length xs))
