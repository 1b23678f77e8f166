-- The pages of a book behind one more record.
use Rattle.std.specs.Prelude.{ℕ, zero, suc, cond, ◌&&◌, List, ◌==◌, nat_le, slice_set}
use Rattle.record.specs.declared.kinds.Source.{Source}
use Rattle.record.specs.declared.kinds.Source.TheVariants.{Initial, Write as WriteOf}
use Rattle.record.specs.declared.kinds.Record.{Record}
use Rattle.record.specs.declared.kinds.Record.TheVariants.{Write, Read, Fence, Notify, Wait}
use Rattle.record.specs.WellMade.{thread_of}
use Rattle.book.specs.declared.pages.Page.{Page}
use Rattle.book.specs.declared.views.View.{View}
use Rattle.book.specs.Pages.{view_at, page_at, written_up, fitting}
use Rattle.book.specs.Views.{read_observing, wait_observing}

abbrev pub with_view : Page → ℕ → View → Page
with_view p u v = record p { views = slice_set p.views u v }

-- t has another view of u
abbrev pub viewed : List Page → ℕ → ℕ → View → List Page
viewed ps t u v = slice_set ps t (with_view (page_at ps t) u v)

-- t's view of u becomes what f makes of it and u's page
abbrev pub looked : List Page → ℕ → ℕ → (View → Page → View) → List Page
looked ps t u f = viewed ps t u (f (view_at (page_at ps t).views u) (page_at ps u))

-- t observes u's write numbered n; u's notify of phase j
abbrev pub read_observed : List Page → ℕ → ℕ → ℕ → List Page
read_observed ps t u n = looked ps t u (λ v q. read_observing v q n)

abbrev pub wait_observed : List Page → ℕ → ℕ → ℕ → List Page
wait_observed ps t u j = looked ps t u (λ v q. wait_observing v q j)

-- t observes the notify of phase j of each other thread below n
abbrev pub waiting : ℕ → List Page → ℕ → ℕ → List Page
waiting zero ps t j = ps
waiting (suc u) ps t j = cond (u == t) (waiting u ps t j) (wait_observed (waiting u ps t j) t u j)

-- what a record's thread observes by it
abbrev pub source_observed : List Page → ℕ → Source → List Page
source_observed ps t Initial = ps
source_observed ps t (WriteOf u n) = cond (u == t) ps (read_observed ps t u n)

abbrev pub observed_by : ℕ → List Page → Record → List Page
observed_by T ps (Write w) = ps
observed_by T ps (Read r) = source_observed ps r.thread r.source
observed_by T ps (Fence f) = ps
observed_by T ps (Notify n) = ps
observed_by T ps (Wait w) = waiting T ps w.thread (page_at ps w.thread).waits

abbrev pub entered : List Page → ℕ → Record → List Page
entered ps t x = slice_set ps t (written_up (page_at ps t) x)

abbrev pub taken : ℕ → List Page → Record → List Page
taken T ps x = cond (nat_le T 8 && fitting T x) (entered (observed_by T ps x) (thread_of x) x) ps
