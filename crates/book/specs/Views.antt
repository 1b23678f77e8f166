-- What the functions of a view compute.
use Rattle.std.specs.Prelude.{ℕ, ◌+◌, max, Bool, false, cond, List, [], ◌∷◌, drop, Some, None, Option, nat_lt, slice_index, slice_set}
use Rattle.book.specs.declared.pages.Written.{Written}
use Rattle.book.specs.declared.pages.Notified.{Notified}
use Rattle.book.specs.declared.pages.Page.{Page}
use Rattle.book.specs.declared.views.View.{View}
use Rattle.book.specs.Pages.{write_of, notify_of}

-- the number m is put against what the table has for address a, and the larger one stays
abbrev pub raised : List ℕ → ℕ → ℕ → List ℕ
raised table a m = slice_set table a (max (slice_index table a) m)

abbrev pub covering : View → ℕ → ℕ → View
covering v a m = record v { covered = raised v.covered a m }

-- the writes at the front are passed over, as long as their ranks are below m
abbrev pub passing : ℕ → List Written → View → View
passing m [] v = v
passing m (w ∷ ws) v = cond (nat_lt w.rank m) (passing m ws (record { passed = v.passed + 1; covered = raised v.covered w.address w.rank })) v

-- an event of rank m on the page q is observed
abbrev pub observing : View → Page → ℕ → View
observing v q m = passing m (drop v.passed q.writes.items) v

abbrev pub observing_write : View → Page → Option Written → View
observing_write v q None = v
observing_write v q (Some w) = covering (observing v q w.rank) w.address w.rank

abbrev pub read_observing : View → Page → ℕ → View
read_observing v q n = observing_write v q (write_of q n)

abbrev pub observing_notify : View → Page → Option Notified → View
observing_notify v q None = v
observing_notify v q (Some n) = observing v q n.rank

abbrev pub wait_observing : View → Page → ℕ → View
wait_observing v q j = observing_notify v q (notify_of q j)

abbrev pub overwritten_in : View → Option Written → Bool
overwritten_in v None = false
overwritten_in v (Some w) = nat_lt w.rank (slice_index v.covered w.address)

abbrev pub is_overwritten_for : View → Page → ℕ → Bool
is_overwritten_for v q n = overwritten_in v (write_of q n)

abbrev pub is_initial_gone_for : View → Page → ℕ → Bool
is_initial_gone_for v q a = nat_lt 0 (slice_index v.covered a)
