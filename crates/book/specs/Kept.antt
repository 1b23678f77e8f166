-- What the book keeps of the history that it was written up from, the newest record first.
use Rattle.std.specs.Prelude.{◌≡◌, ℕ, zero, suc, ◌<◌, ◌≤◌, max, Bool, true, cond, List, [], ◌∷◌, length, Ok, ◌≢◌, nat_lt, slice_index}
use Rattle.record.specs.declared.kinds.Counts.{Counts}
use Rattle.record.specs.declared.kinds.Record.{Record}
use Rattle.record.specs.WellMade.{checked}
use Rattle.model.specs.Places.{at_place, is_at, how_many}
use Rattle.model.specs.Events.{is_write, is_notify, is_wait, is_write_to, address_of, value_of, label_of, count_of, acts_of, observed}
use Rattle.model.specs.Laws.{first_edition, by_axioms}
use Rattle.model.specs.Rank.{rank, strict_before, top_seen, top_covered}
use Rattle.book.specs.declared.pages.Written.{Written}
use Rattle.book.specs.declared.pages.Notified.{Notified}
use Rattle.book.specs.declared.pages.Page.{Page}
use Rattle.book.specs.declared.views.View.{View}
use Rattle.book.specs.declared.book.Book.{Book}
use Rattle.book.specs.Pages.{write_at, notify_at, view_at, page_at}

-- how many such records stand before place k of the list
abbrev pub up_to : (Record → Bool) → List Record → ℕ → ℕ
up_to p [] k = 0
up_to p (x ∷ xs) zero = 0
up_to p (x ∷ xs) (suc k) = cond (p x) (suc (up_to p xs k)) (up_to p xs k)

-- of the acts xs: the number, counted from 1, of the last write to the address a among the first n, and 0 where there is none
abbrev pub last_to : List Record → ℕ → ℕ → ℕ
last_to xs a zero = 0
last_to xs a (suc n) = max (cond (is_at (is_write_to a) xs n) (suc (up_to is_write xs n)) 0) (last_to xs a n)

-- the write, the notify at place k of the acts xs, as a page has them
abbrev pub written_at : List Record → ℕ → Written
written_at xs k = record { address = at_place 0 address_of xs k; value = at_place 0 value_of xs k; rank = suc (rank first_edition xs k) }

abbrev pub notified_at : List Record → ℕ → Notified
notified_at xs k = record { label = at_place 0 label_of xs k; rank = suc (rank first_edition xs k) }

-- What a reader's view of another thread says, of whose acts xs it has observed those at the places seen.
pub record ViewKept (v : View) (xs : List Record) (seen : List ℕ) : Type 0 where
  pub room : length v.covered ≡ 64
  -- passed over are the writes whose rank is below the largest observed
  pub within : v.passed ≤ how_many is_write xs
  pub passed : (k : ℕ) → is_at is_write xs k ≡ true → nat_lt (up_to is_write xs k) v.passed ≡ nat_lt (rank first_edition xs k) (top_seen first_edition xs seen)
  -- for each address, one more than the largest rank of a covered write there
  pub reached : (a : ℕ) → a < 64 → slice_index v.covered a ≡ top_covered first_edition xs seen a (length xs)

-- What a page says of its own thread, which has n records and of them the acts xs.
pub record OwnKept (p : Page) (n : ℕ) (xs : List Record) : Type 0 where
  pub few : n ≤ 512
  pub counted : p.count ≡ n
  pub acts : length xs ≤ n
  pub stricts : p.strict ≡ strict_before first_edition xs (length xs)
  pub written : length p.writes.items ≡ how_many is_write xs
  pub writes : (k : ℕ) → is_at is_write xs k ≡ true → write_at p.writes.items (up_to is_write xs k) ≡ written_at xs k
  pub low : (k : ℕ) → is_at is_write xs k ≡ true → at_place 0 address_of xs k < 64
  pub last_room : length p.last ≡ 64
  pub last : (a : ℕ) → a < 64 → slice_index p.last a ≡ last_to xs a (length xs)
  pub notified : length p.notifies.items ≡ how_many is_notify xs
  pub notifies : (k : ℕ) → is_at is_notify xs k ≡ true → notify_at p.notifies.items (up_to is_notify xs k) ≡ notified_at xs k
  pub waits : p.waits ≡ how_many is_wait xs

pub record PageKept (T : ℕ) (t : ℕ) (p : Page) (h : List Record) : Type 0 where
  pub own : OwnKept p (count_of t h) (acts_of t h)
  pub view_room : length p.views ≡ 8
  pub views : (u : ℕ) → u < T → (u ≢ t) → ViewKept (view_at p.views u) (acts_of u h) (observed by_axioms t u h)

-- What a book says of a history of T threads.
pub record Kept (T : ℕ) (b : Book) (h : List Record) : Type 0 where
  pub threads : T ≤ 8
  pub room : length b.pages ≡ 8
  pub pages : (t : ℕ) → t < T → PageKept T t (page_at b.pages t) h

-- The record is well made in a trace of T threads and at most 64 addresses.
pub record WellMadeIn (T : ℕ) (x : Record) : Type 0 where
  pub counts : Counts
  pub threads : counts.threads ≡ T
  pub addresses : counts.addresses ≤ 64
  pub well_made : checked counts x ≡ Ok tt
