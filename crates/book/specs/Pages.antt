-- What the functions of a page compute.
use Rattle.std.specs.Prelude.{ℕ, ◌+◌, ◌-◌, ◌*◌, Bool, true, false, cond, not, ◌&&◌, ◌||◌, List, [], ◌∷◌, ◌++◌, length, replicate, is_some, Some, None, Option, ◌==◌, nat_le, nat_lt, slice_get, slice_index, slice_index_or, slice_set}
use Rattle.record.specs.declared.kinds.Source.{Source}
use Rattle.record.specs.declared.kinds.Source.TheVariants.{Initial, Write as WriteOf}
use Rattle.record.specs.declared.kinds.Record.{Record}
use Rattle.record.specs.declared.kinds.Record.TheVariants.{Write, Read, Fence, Notify, Wait}
use Rattle.model.specs.Events.{is_strict}
use Rattle.model.specs.Laws.{first_edition}
use Rattle.model.specs.Rank.{bit}
use Rattle.book.specs.declared.pages.Written.{Written}
use Rattle.book.specs.declared.pages.Notified.{Notified}
use Rattle.book.specs.declared.pages.Page.{Page}
use Rattle.book.specs.declared.views.View.{View}
use Rattle.book.specs.declared.book.Book.{Book}

-- Entries of lists --------------------------------------------------------------------------------------------------

abbrev pub write_at : List Written → ℕ → Written
write_at ws i = slice_index_or ws i (record { address = 0; value = 0; rank = 0 })

abbrev pub notify_at : List Notified → ℕ → Notified
notify_at ns i = slice_index_or ns i (record { label = 0; rank = 0 })

abbrev pub view_at : List View → ℕ → View
view_at vs u = slice_index_or vs u (record { passed = 0; covered = [] })

abbrev pub page_at : List Page → ℕ → Page
page_at ps t = slice_index_or ps t (record { count = 0; strict = 0; writes = record { items = [] }; last = []; notifies = record { items = [] }; waits = 0; views = [] })

-- Empty pages -------------------------------------------------------------------------------------------------------

abbrev pub empty_view : View
empty_view = record { passed = 0; covered = replicate 64 0 }

abbrev pub empty_page : Page
empty_page = record { count = 0; strict = 0; writes = record { items = [] }; last = replicate 64 0; notifies = record { items = [] }; waits = 0; views = replicate 8 empty_view }

abbrev pub empty_book : Book
empty_book = record { pages = replicate 8 empty_page }

-- What a page says --------------------------------------------------------------------------------------------------

-- the write numbered n from 1, the notify of phase j from 0
abbrev pub write_of : Page → ℕ → Option Written
write_of p n = cond (nat_lt 0 n) (slice_get p.writes.items (n - 1)) None

abbrev pub notify_of : Page → ℕ → Option Notified
notify_of p j = slice_get p.notifies.items j

abbrev pub is_notify_missing : Page → ℕ → Bool
is_notify_missing p j = not (is_some (notify_of p j))

abbrev pub labelled_otherwise : ℕ → Option Notified → Bool
labelled_otherwise l None = false
labelled_otherwise l (Some n) = not (n.label == l)

abbrev pub is_other_labelled : Page → ℕ → ℕ → Bool
is_other_labelled p j l = labelled_otherwise l (notify_of p j)

abbrev pub is_written_to : Page → ℕ → Bool
is_written_to p a = nat_lt 0 (slice_index p.last a)

abbrev pub later_than : Page → ℕ → Option Written → Bool
later_than p n None = false
later_than p n (Some w) = nat_lt n (slice_index p.last w.address)

abbrev pub is_later_written : Page → ℕ → Bool
is_later_written p n = later_than p n (write_of p n)

-- Writing up --------------------------------------------------------------------------------------------------------

-- how many strict events a record is
abbrev pub strict_of : Record → ℕ
strict_of x = bit (is_strict first_edition x)

abbrev pub is_full : Page → Bool
is_full p = nat_le 512 p.count || nat_lt 512 p.strict || nat_le 512 (length p.writes.items) || nat_le 512 (length p.notifies.items) || nat_le 512 p.waits

abbrev pub adding_write : Page → ℕ → ℕ → ℕ → Page
adding_write p a v m = record p { writes = record { items = p.writes.items ++ record { address = a; value = v; rank = m } ∷ [] }; last = slice_set p.last a (length p.writes.items + 1) }

abbrev pub adding_notify : Page → ℕ → ℕ → Page
adding_notify p l m = record p { notifies = record { items = p.notifies.items ++ record { label = l; rank = m } ∷ [] } }

abbrev pub adding_wait : Page → Page
adding_wait p = record p { waits = p.waits + 1 }

-- one more record, with s strict events
abbrev pub tallied : Page → ℕ → Page
tallied p s = record p { count = p.count + 1; strict = p.strict + s }

-- one more than the rank of the thread's next record
abbrev pub next_rank : Page → Record → ℕ
next_rank p x = 2 * p.strict + strict_of x + 1

abbrev pub added : Page → Record → Page
added p (Write w) = adding_write p w.address w.value (next_rank p (Write w))
added p (Read r) = p
added p (Fence f) = p
added p (Notify n) = adding_notify p n.label (next_rank p (Notify n))
added p (Wait w) = adding_wait p

abbrev pub noting : Page → Record → Page
noting p x = tallied (added p x) (strict_of x)

abbrev pub written_up : Page → Record → Page
written_up p x = cond (is_full p) p (noting p x)

-- Records that can stand in a book ------------------------------------------------------------------------------------

abbrev pub source_fitting : ℕ → Source → Bool
source_fitting T Initial = true
source_fitting T (WriteOf u n) = nat_lt u T

abbrev pub fitting : ℕ → Record → Bool
fitting T (Write w) = nat_lt w.thread T && nat_lt w.address 64
fitting T (Read r) = nat_lt r.thread T && nat_lt r.address 64 && source_fitting T r.source
fitting T (Fence f) = nat_lt f.thread T
fitting T (Notify n) = nat_lt n.thread T
fitting T (Wait w) = nat_lt w.thread T
