-- What the pages of a book say of a record, and of a question.
use Rattle.std.specs.Prelude.{ℕ, ◌+◌, Bool, cond, not, ◌&&◌, ◌||◌, List, length, is_some, Some, None, Option, ◌==◌, nat_le, nat_lt}
use Rattle.record.specs.declared.kinds.Source.{Source}
use Rattle.record.specs.declared.kinds.Source.TheVariants.{Initial, Write as WriteOf}
use Rattle.record.specs.declared.kinds.ReadRecord.{ReadRecord}
use Rattle.record.specs.declared.kinds.Record.{Record}
use Rattle.record.specs.declared.kinds.Record.TheVariants.{Write, Read, Fence, Notify, Wait}
use Rattle.record.specs.WellMade.{thread_of}
use Rattle.model.specs.declared.reasons.Reason.{Reason}
use Rattle.model.specs.declared.reasons.Reason.TheVariants.{TooManyRecords, NotWrittenYet, OtherAddress, OtherValue, OwnLaterWrite, Overwritten, InitialGone, NotifyOutOfTurn, WaitOutOfTurn, NotifyMissing, OtherLabel}
use Rattle.model.specs.Places.{any_below}
use Rattle.book.specs.declared.pages.Written.{Written}
use Rattle.book.specs.declared.pages.Page.{Page}
use Rattle.book.specs.Pages.{view_at, page_at, write_of, is_notify_missing, is_other_labelled, is_written_to, is_later_written, fitting}
use Rattle.book.specs.Views.{is_overwritten_for, is_initial_gone_for}

abbrev pub any_covered : ℕ → List Page → ℕ → ℕ → Bool
any_covered T ps t a = any_below T (λ u. not (u == t) && is_initial_gone_for (view_at (page_at ps t).views u) (page_at ps u) a)

abbrev pub any_missing : ℕ → List Page → ℕ → ℕ → Bool
any_missing T ps t j = any_below T (λ u. not (u == t) && is_notify_missing (page_at ps u) j)

abbrev pub any_other_label : ℕ → List Page → ℕ → ℕ → Bool
any_other_label T ps j l = any_below T (λ u. is_other_labelled (page_at ps u) j l)

-- u's write numbered n may not be read by t any more
abbrev pub stale : List Page → ℕ → ℕ → ℕ → Option Reason
stale ps t u n =
    cond (u == t) (cond (is_later_written (page_at ps t) n) (Some OwnLaterWrite) None) (cond (is_overwritten_for (view_at (page_at ps t).views u) (page_at ps u) n) (Some Overwritten) None)

abbrev pub said_write : ReadRecord → Option Reason → Option Written → Option Reason
said_write r o None = Some NotWrittenYet
said_write r o (Some w) = cond (w.address == r.address) (cond (w.value == r.value) o (Some OtherValue)) (Some OtherAddress)

abbrev pub said_read : List Page → ℕ → ReadRecord → ℕ → ℕ → Option Reason
said_read ps t r u n = said_write r (stale ps t u n) (write_of (page_at ps u) n)

abbrev pub said_initial : ℕ → List Page → ℕ → ReadRecord → Option Reason
said_initial T ps t r = cond (r.value == 0) (cond (is_written_to (page_at ps t) r.address || any_covered T ps t r.address) (Some InitialGone) None) (Some OtherValue)

abbrev pub said_source : ℕ → List Page → ReadRecord → Source → Option Reason
said_source T ps r Initial = said_initial T ps r.thread r
said_source T ps r (WriteOf u n) = said_read ps r.thread r u n

abbrev pub said_notify : List Page → ℕ → Option Reason
said_notify ps t = cond (length (page_at ps t).notifies.items == (page_at ps t).waits) None (Some NotifyOutOfTurn)

abbrev pub said_wait : ℕ → List Page → ℕ → ℕ → Option Reason
said_wait T ps t l =
    cond
    (length (page_at ps t).notifies.items == (page_at ps t).waits + 1)
    (cond (any_missing T ps t (page_at ps t).waits) (Some NotifyMissing) (cond (any_other_label T ps (page_at ps t).waits l) (Some OtherLabel) None))
    (Some WaitOutOfTurn)

abbrev pub said_kind : ℕ → List Page → Record → Option Reason
said_kind T ps (Write w) = None
said_kind T ps (Read r) = said_source T ps r r.source
said_kind T ps (Fence f) = None
said_kind T ps (Notify n) = said_notify ps n.thread
said_kind T ps (Wait w) = said_wait T ps w.thread w.label

abbrev pub said : ℕ → List Page → Record → Option Reason
said T ps x = cond (nat_le T 8 && fitting T x) (cond (nat_le 512 (page_at ps (thread_of x)).count) (Some TooManyRecords) (said_kind T ps x)) None

-- Questions ---------------------------------------------------------------------------------------------------------

abbrev pub answered_by : Option Reason → Option Written → Option Bool
answered_by o None = None
answered_by o (Some w) = Some (not (is_some o))

-- whether t may read u's write numbered n, if there is one
abbrev pub asked : ℕ → List Page → ℕ → ℕ → ℕ → Option Bool
asked T ps t u n = cond (nat_le T 8 && nat_lt t T && nat_lt u T) (answered_by (stale ps t u n) (write_of (page_at ps u) n)) None
