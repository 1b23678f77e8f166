-- The eleven reasons for which a record is unlawful, and what a whole list of records comes to.
use Rattle.std.specs.Prelude.{ℕ, suc, Bool, cond, not, ◌&&◌, ◌||◌, List, [], ◌∷◌, Some, None, Option, ◌==◌, nat_eq, nat_le}
use Rattle.record.specs.declared.kinds.Source.{Source}
use Rattle.record.specs.declared.kinds.Source.TheVariants.{Initial, Write as WriteOf}
use Rattle.record.specs.declared.kinds.ReadRecord.{ReadRecord}
use Rattle.record.specs.declared.kinds.Record.{Record}
use Rattle.record.specs.declared.kinds.Record.TheVariants.{Write, Read, Fence, Notify, Wait}
use Rattle.record.specs.WellMade.{thread_of}
use Rattle.record.specs.Ending.{Ending, clean, damaged}
use Rattle.model.specs.declared.reasons.Reason.{Reason}
use Rattle.model.specs.declared.reasons.Reason.TheVariants.{TooManyRecords, NotWrittenYet, OtherAddress, OtherValue, OwnLaterWrite, Overwritten, InitialGone, NotifyOutOfTurn, WaitOutOfTurn, NotifyMissing, OtherLabel}
use Rattle.model.specs.declared.outcomes.Outcome.{Outcome}
use Rattle.model.specs.declared.outcomes.Outcome.TheVariants.{Compliant, Unlawful, Damaged}
use Rattle.model.specs.Places.{at_place, any_below, how_many, missing, stands_where}
use Rattle.model.specs.Events.{address_of, value_of, label_of, is_notify, is_wait, is_of, count_of, acts_of, names, Edition, Law, observed, overwritten, covered_to, written_to, written_behind}

-- What stands earlier than a record, as far as its verdict goes.
pub record Before : Type 0 where
  -- how many records its thread has
  pub index : ℕ
  -- the acts of each thread, the oldest first
  pub acts : ℕ → List Record
  -- the events of each other thread that its thread has observed
  pub seen : ℕ → List ℕ
  -- the event of each thread that it names, if that stands earlier
  pub named : ℕ → Option ℕ

-- The reasons, each with whether it applies, in the order in which they are tested ------------------------------------
-- E is the edition, T the number of threads, and b what stands earlier. An event is its place among its thread's acts:
-- `missing (b.named u)` says that the event of u that the record names does not stand earlier, and `stands_where (b.named u) (λ w. ..)` that it does, at place w, and what holds there.

infix 20 ◌when◌
pub data Test : Type 0 where
  ◌when◌ : Reason → Bool → Test

-- of a read r, by its source: write number n of thread u, or the initial value
abbrev pub read_reasons : Edition → ℕ → Before → ReadRecord → Source → List Test
read_reasons E T b r (WriteOf u n) =
    (NotWrittenYet when missing (b.named u))
    ∷ (OtherAddress when stands_where (b.named u) (λ w. not (at_place 0 address_of (b.acts u) w == r.address)))
    ∷ (OtherValue when stands_where (b.named u) (λ w. not (at_place 0 value_of (b.acts u) w == r.value)))
    ∷ (OwnLaterWrite when nat_eq u r.thread && stands_where (b.named u) (λ w. written_behind (b.acts u) w r.address))
    ∷ (Overwritten when not (u == r.thread) && stands_where (b.named u) (λ w. overwritten E (b.acts u) (b.seen u) w))
    ∷ []
read_reasons E T b r Initial =
    (OtherValue when not (r.value == 0))
    ∷ (InitialGone when written_to (b.acts r.thread) r.address || any_below T (λ u. not (u == r.thread) && covered_to E (b.acts u) (b.seen u) r.address))
    ∷ []

-- of any record, by its kind; a wait is its thread's j-th where j - 1 waits stand earlier, and the j-th notify of u is the event of u that it names
abbrev pub kind_reasons : Edition → ℕ → Before → Record → List Test
kind_reasons E T b (Write w) = []
kind_reasons E T b (Read r) = read_reasons E T b r r.source
kind_reasons E T b (Fence f) = []
kind_reasons E T b (Notify n) =
    (NotifyOutOfTurn when not (how_many is_notify (b.acts n.thread) == how_many is_wait (b.acts n.thread))) ∷ []
kind_reasons E T b (Wait w) =
    (WaitOutOfTurn when not (how_many is_notify (b.acts w.thread) == suc (how_many is_wait (b.acts w.thread))))
    ∷ (NotifyMissing when any_below T (λ u. not (u == w.thread) && missing (b.named u)))
    ∷ (OtherLabel when any_below T (λ u. stands_where (b.named u) (λ k. not (at_place 0 label_of (b.acts u) k == w.label))))
    ∷ []

-- and before all of them, that its thread has no room left
abbrev pub reasons_of : Edition → ℕ → Before → Record → List Test
reasons_of E T b x = (TooManyRecords when nat_le 512 b.index) ∷ kind_reasons E T b x

-- the first reason that applies, if one does
abbrev pub first_applying : List Test → Option Reason
first_applying [] = None
first_applying ((k when applies) ∷ rest) = cond applies (Some k) (first_applying rest)

-- the numbers by which answers name the reasons
abbrev pub reason_number : Reason → ℕ
reason_number TooManyRecords = 1
reason_number NotWrittenYet = 2
reason_number OtherAddress = 3
reason_number OtherValue = 4
reason_number OwnLaterWrite = 5
reason_number Overwritten = 6
reason_number InitialGone = 7
reason_number NotifyOutOfTurn = 8
reason_number WaitOutOfTurn = 9
reason_number NotifyMissing = 10
reason_number OtherLabel = 11

-- Verdicts ----------------------------------------------------------------------------------------------------------

-- what the history h, the newest first, says of all that a verdict on x looks at
abbrev pub before_of : Law → List Record → Record → Before
before_of L h x = record { index = count_of (thread_of x) h; acts = λ u. acts_of u h; seen = λ u. observed L (thread_of x) u h; named = λ u. names u h x }

-- The reason for which x is unlawful behind the history h, or none where it is lawful. The records of h may be lawful or not.
abbrev pub verdict : Law → ℕ → List Record → Record → Option Reason
verdict L T h x = first_applying (reasons_of L.edition T (before_of L h x) x)

-- what is found in a list where a thread's record of some index is looked for
pub data Found : Type 0 where
  lawful : Found
  unlawful : Reason → Found
  absent : Found

abbrev pub found_as : Option Reason → Found
found_as None = lawful
found_as (Some k) = unlawful k

-- the record of thread t with index i, counted from 0 among its thread's records, in the whole list, the newest first
abbrev pub verdict_at : Law → ℕ → ℕ → ℕ → List Record → Found
verdict_at L T t i [] = absent
verdict_at L T t i (x ∷ h) = cond (is_of t x && count_of t h == i) (found_as (verdict L T h x)) (verdict_at L T t i h)

-- Outcomes ----------------------------------------------------------------------------------------------------------

-- what a list comes to that has no unlawful record
abbrev pub outcome_of : Ending → Outcome
outcome_of clean = Compliant
outcome_of (damaged d) = Damaged d

-- the outcome that names the record of thread t with index i, which is unlawful for the reason k
abbrev pub unlawful_of : ℕ → ℕ → Reason → Outcome
unlawful_of t i k = Unlawful (record { thread = t; index = i; reason = k })

-- the outcome of the records xs, the oldest first, with the ending e, behind the history h of lawful ones
abbrev pub outcome_behind : Law → ℕ → List Record → List Record → Ending → Outcome
outcome_behind L T h [] e = outcome_of e
outcome_behind L T h (x ∷ xs) e = elim (verdict L T h x) [ None ↦ outcome_behind L T (x ∷ h) xs e | Some k ↦ unlawful_of (thread_of x) (count_of (thread_of x) h) k ]

-- the outcome of a whole list, the oldest first, with its ending
abbrev pub outcome : Law → ℕ → List Record → Ending → Outcome
outcome L T xs e = outcome_behind L T [] xs e
