-- Traces with their outcomes, each named by what it shows: the rules by example, and what pins their definitions.
use Rattle.std.specs.Prelude.{◌≡◌, ℕ, List, [], ◌∷◌, ◌++◌, replicate}
use Rattle.record.specs.declared.kinds.Mode.TheVariants.{Relaxed, Strict}
use Rattle.record.specs.declared.kinds.Source.TheVariants.{Initial, Write as WriteOf}
use Rattle.record.specs.declared.kinds.Record.{Record}
use Rattle.record.specs.declared.kinds.Record.TheVariants.{Write, Read, Fence, Notify, Wait}
use Rattle.record.specs.declared.causes.Damage.{Damage}
use Rattle.record.specs.Ending.{clean, damaged}
use Rattle.model.specs.declared.reasons.Reason.TheVariants.{TooManyRecords, NotWrittenYet, OtherAddress, OtherValue, OwnLaterWrite, Overwritten, InitialGone, NotifyOutOfTurn, WaitOutOfTurn, NotifyMissing, OtherLabel}
use Rattle.model.specs.declared.outcomes.Outcome.{Outcome}
use Rattle.model.specs.declared.outcomes.Outcome.TheVariants.{Compliant, Damaged}
use Rattle.model.specs.Lawful.{verdict, Found, found_as, lawful, unlawful, unlawful_of, outcome}
use Rattle.model.specs.Laws.{by_axioms}
use Rattle.model.specs.HoldBack.{held_back}

-- two addresses
abbrev pub p : ℕ
p = 0

abbrev pub q : ℕ
q = 1

-- thread t's write of the value v to a, relaxed and strict; a write stores its own number
abbrev pub write : ℕ → ℕ → ℕ → Record
write t a v = Write (record { thread = t; address = a; mode = Relaxed; value = v })

abbrev pub strict_write : ℕ → ℕ → ℕ → Record
strict_write t a v = Write (record { thread = t; address = a; mode = Strict; value = v })

-- thread t reads from a, relaxed, and it was the write number n of u: with that write's value, and with the value v
abbrev pub read_of : ℕ → ℕ → ℕ → ℕ → Record
read_of t a u n = Read (record { thread = t; address = a; source = WriteOf u n; mode = Relaxed; value = n })

abbrev pub read_value : ℕ → ℕ → ℕ → ℕ → ℕ → Record
read_value t a u n v = Read (record { thread = t; address = a; source = WriteOf u n; mode = Relaxed; value = v })

abbrev pub strict_read_of : ℕ → ℕ → ℕ → ℕ → Record
strict_read_of t a u n = Read (record { thread = t; address = a; source = WriteOf u n; mode = Strict; value = n })

-- thread t reads the initial value of a, relaxed and strict, and with the value v
abbrev pub read_initial : ℕ → ℕ → Record
read_initial t a = Read (record { thread = t; address = a; source = Initial; mode = Relaxed; value = 0 })

abbrev pub strict_initial : ℕ → ℕ → Record
strict_initial t a = Read (record { thread = t; address = a; source = Initial; mode = Strict; value = 0 })

abbrev pub initial_value : ℕ → ℕ → ℕ → Record
initial_value t a v = Read (record { thread = t; address = a; source = Initial; mode = Relaxed; value = v })

abbrev pub fence : ℕ → Record
fence t = Fence (record { thread = t })

-- with the label l
abbrev pub notify : ℕ → ℕ → Record
notify t l = Notify (record { thread = t; label = l })

abbrev pub wait : ℕ → ℕ → Record
wait t l = Wait (record { thread = t; label = l })

-- a trace of T threads, the oldest record first, that ends clean has this outcome
abbrev pub Gives : ℕ → List Record → Outcome → Type 0
Gives T xs o = outcome by_axioms T xs clean ≡ o

-- the verdict of every record of a list, also behind an unlawful one
abbrev pub each_verdict : ℕ → List Record → List Record → List Found
each_verdict T h [] = []
each_verdict T h (x ∷ xs) = found_as (verdict by_axioms T h x) ∷ each_verdict T (x ∷ h) xs

abbrev pub Judged : ℕ → List Record → List Found → Type 0
Judged T xs vs = each_verdict T [] xs ≡ vs

-- so much of thread 0 held back makes of the one list the other
abbrev pub HoldsBack : ℕ → List Record → List Record → Type 0
HoldsBack d xs ys = held_back 0 d [] xs ≡ ys

-- The traces that the rules are explained by.
pub record Worked : Type 0 where
  pub own_older_write : Gives 2 (write 0 p 1 ∷ write 0 p 2 ∷ read_of 0 p 0 1 ∷ []) (unlawful_of 0 2 OwnLaterWrite)
  pub overwritten_over_a_fence : Gives 2 (write 0 p 1 ∷ fence 0 ∷ write 0 p 2 ∷ read_of 1 p 0 2 ∷ read_of 1 p 0 1 ∷ []) (unlawful_of 1 1 Overwritten)
  pub relaxed_writes_unordered : Gives 2 (write 0 p 1 ∷ write 0 p 2 ∷ read_of 1 p 0 2 ∷ read_of 1 p 0 1 ∷ []) Compliant
  pub strict_writes_of_two_threads_unordered : Gives 3 (strict_write 0 p 1 ∷ strict_write 1 p 1 ∷ read_of 2 p 0 1 ∷ read_of 2 p 1 1 ∷ read_of 2 p 0 1 ∷ []) Compliant
  pub all_observations_count : Gives 2 (write 0 p 1 ∷ fence 0 ∷ write 0 p 2 ∷ write 0 q 3 ∷ read_of 1 q 0 3 ∷ read_of 1 p 0 2 ∷ read_of 1 p 0 1 ∷ []) (unlawful_of 1 2 Overwritten)
  pub wait_observes_notify : Gives 2 (write 0 p 1 ∷ strict_write 0 p 2 ∷ notify 0 5 ∷ notify 1 5 ∷ wait 1 5 ∷ read_of 1 p 0 1 ∷ []) (unlawful_of 1 2 Overwritten)
  pub initial_gone_once_read : Gives 2 (write 0 p 1 ∷ read_of 1 p 0 1 ∷ read_initial 1 p ∷ []) (unlawful_of 1 1 InitialGone)
  pub initial_while_unobserved : Gives 2 (write 0 p 1 ∷ read_initial 1 p ∷ read_initial 1 p ∷ []) Compliant
  pub wait_before_notify : Gives 2 (notify 0 5 ∷ wait 0 5 ∷ []) (unlawful_of 0 1 NotifyMissing)
  pub two_labels : Gives 2 (notify 0 5 ∷ notify 1 6 ∷ wait 0 5 ∷ []) (unlawful_of 0 1 OtherLabel)
  pub own_write_orders_no_others : Gives 2 (write 0 p 1 ∷ write 1 p 1 ∷ read_of 1 p 0 1 ∷ read_of 1 p 1 1 ∷ []) Compliant

-- A thread has room for 512 records.
pub record Room : Type 0 where
  pub just_full : Gives 1 (replicate 512 (fence 0)) Compliant
  pub one_too_many : Gives 1 (replicate 513 (fence 0)) (unlawful_of 0 512 TooManyRecords)
  pub relaxed_reads_take_room : Gives 1 (replicate 513 (read_initial 0 p)) (unlawful_of 0 512 TooManyRecords)
  pub each_thread_has_its_own : Gives 2 (replicate 512 (fence 0) ++ (fence 1 ∷ [])) Compliant
  pub tested_first : Gives 2 (replicate 512 (fence 0) ++ (read_of 0 p 1 1 ∷ [])) (unlawful_of 0 512 TooManyRecords)

-- Which events precede which.
pub record Precedence : Type 0 where
  pub strict_before_both_orders_nothing : Gives 2 (fence 0 ∷ write 0 p 1 ∷ write 0 p 2 ∷ read_of 1 p 0 2 ∷ read_of 1 p 0 1 ∷ []) Compliant
  pub strict_behind_both_orders_nothing : Gives 2 (write 0 p 1 ∷ write 0 p 2 ∷ fence 0 ∷ read_of 1 p 0 2 ∷ read_of 1 p 0 1 ∷ []) Compliant
  pub strict_older_write_orders : Gives 2 (strict_write 0 p 1 ∷ write 0 p 2 ∷ read_of 1 p 0 2 ∷ read_of 1 p 0 1 ∷ []) (unlawful_of 1 1 Overwritten)
  pub strict_newer_write_orders : Gives 2 (write 0 p 1 ∷ strict_write 0 p 2 ∷ read_of 1 p 0 2 ∷ read_of 1 p 0 1 ∷ []) (unlawful_of 1 1 Overwritten)
  pub strict_read_orders : Gives 2 (write 0 p 1 ∷ strict_initial 0 q ∷ write 0 p 2 ∷ read_of 1 p 0 2 ∷ read_of 1 p 0 1 ∷ []) (unlawful_of 1 1 Overwritten)
  pub notify_orders : Gives 2 (write 0 p 1 ∷ notify 0 5 ∷ write 0 p 2 ∷ read_of 1 p 0 2 ∷ read_of 1 p 0 1 ∷ []) (unlawful_of 1 1 Overwritten)
  pub relaxed_read_orders_nothing : Gives 2 (write 0 p 1 ∷ read_initial 0 q ∷ write 0 p 2 ∷ read_of 1 p 0 2 ∷ read_of 1 p 0 1 ∷ []) Compliant
  pub wait_orders_nothing : Gives 2 (notify 0 5 ∷ notify 1 5 ∷ write 0 p 1 ∷ wait 0 5 ∷ write 0 p 2 ∷ read_of 1 p 0 2 ∷ read_of 1 p 0 1 ∷ []) Compliant
  pub other_threads_fence_orders_nothing : Gives 2 (write 0 p 1 ∷ fence 1 ∷ write 0 p 2 ∷ read_of 1 p 0 2 ∷ read_of 1 p 0 1 ∷ []) Compliant
  pub readers_own_strictness_orders_nothing : Gives 2 (write 0 p 1 ∷ write 0 p 2 ∷ strict_read_of 1 p 0 2 ∷ fence 1 ∷ strict_read_of 1 p 0 1 ∷ []) Compliant

-- What a reader has observed, and what is covered and overwritten for it.
pub record Observing : Type 0 where
  pub the_newer_one_may_follow : Gives 2 (write 0 p 1 ∷ fence 0 ∷ write 0 p 2 ∷ read_of 1 p 0 1 ∷ read_of 1 p 0 1 ∷ read_of 1 p 0 2 ∷ []) Compliant
  pub strict_write_read_twice : Gives 2 (strict_write 0 p 1 ∷ read_of 1 p 0 1 ∷ read_of 1 p 0 1 ∷ []) Compliant
  pub older_observations_count : Gives 2 (write 0 p 1 ∷ fence 0 ∷ write 0 p 2 ∷ write 0 q 3 ∷ read_of 1 p 0 2 ∷ read_of 1 q 0 3 ∷ read_of 1 p 0 1 ∷ []) (unlawful_of 1 2 Overwritten)
  pub others_observations_do_not_count : Gives 3 (write 0 p 1 ∷ fence 0 ∷ write 0 p 2 ∷ read_of 2 p 0 2 ∷ read_of 1 p 0 1 ∷ []) Compliant
  pub read_observes_its_writer_alone : Gives 3 (write 2 q 1 ∷ write 0 p 1 ∷ read_of 1 p 0 1 ∷ read_initial 1 q ∷ []) Compliant
  pub read_observes_the_write_it_names : Gives 2 (write 0 q 1 ∷ write 0 p 2 ∷ read_of 1 p 0 2 ∷ read_initial 1 q ∷ []) Compliant
  pub what_precedes_is_covered : Gives 2 (write 0 p 1 ∷ fence 0 ∷ write 0 q 2 ∷ read_of 1 q 0 2 ∷ read_initial 1 p ∷ []) (unlawful_of 1 1 InitialGone)
  pub notify_covers_what_stands_before_it : Gives 2 (write 0 p 1 ∷ notify 0 5 ∷ notify 1 5 ∷ wait 1 5 ∷ read_initial 1 p ∷ []) (unlawful_of 1 2 InitialGone)
  pub notify_overwrites_nothing : Gives 2 (write 0 p 1 ∷ notify 0 5 ∷ notify 1 5 ∷ wait 1 5 ∷ read_of 1 p 0 1 ∷ []) Compliant
  pub notify_covers_nothing_behind_it : Gives 2 (notify 0 5 ∷ write 0 p 1 ∷ notify 1 5 ∷ wait 1 5 ∷ read_initial 1 p ∷ []) Compliant
  pub second_wait_observes_second_notify : Gives 2 (notify 0 5 ∷ notify 1 5 ∷ wait 0 5 ∷ wait 1 5 ∷ write 0 p 1 ∷ notify 0 5 ∷ notify 1 5 ∷ wait 1 5 ∷ read_initial 1 p ∷ []) (unlawful_of 1 4 InitialGone)
  pub first_wait_observes_first_notify : Gives 2 (notify 0 5 ∷ notify 1 5 ∷ wait 0 5 ∷ write 0 p 1 ∷ notify 0 5 ∷ wait 1 5 ∷ read_initial 1 p ∷ []) Compliant
  pub other_address_overwrites_nothing : Gives 2 (write 0 p 1 ∷ strict_write 0 q 2 ∷ read_of 1 q 0 2 ∷ read_of 1 p 0 1 ∷ []) Compliant
  pub other_address_takes_no_initial_value : Gives 2 (write 0 q 1 ∷ read_of 1 q 0 1 ∷ read_initial 1 p ∷ []) Compliant
  pub local_and_remote_reads_mix : Gives 2 (write 0 p 1 ∷ write 1 p 1 ∷ read_of 1 p 1 1 ∷ read_of 1 p 0 1 ∷ read_of 1 p 1 1 ∷ []) Compliant

-- Each reason by itself, and in its place among the others.
pub record Reasons : Type 0 where
  pub not_written_yet : Gives 2 (read_of 1 p 0 1 ∷ write 0 p 1 ∷ []) (unlawful_of 1 0 NotWrittenYet)
  pub not_written_by_that_thread : Gives 2 (write 1 p 1 ∷ read_of 1 p 0 1 ∷ []) (unlawful_of 1 1 NotWrittenYet)
  pub not_so_many_writes : Gives 2 (write 0 p 1 ∷ fence 0 ∷ read_of 1 p 0 2 ∷ []) (unlawful_of 1 0 NotWrittenYet)
  pub other_address : Gives 2 (write 0 p 1 ∷ read_of 1 q 0 1 ∷ []) (unlawful_of 1 0 OtherAddress)
  pub address_before_value : Gives 2 (write 0 p 1 ∷ read_value 1 q 0 1 2 ∷ []) (unlawful_of 1 0 OtherAddress)
  pub address_before_own_later_write : Gives 2 (write 0 p 1 ∷ write 0 q 2 ∷ read_of 0 q 0 1 ∷ []) (unlawful_of 0 2 OtherAddress)
  pub other_value : Gives 2 (write 0 p 1 ∷ read_value 1 p 0 1 2 ∷ []) (unlawful_of 1 0 OtherValue)
  pub value_before_own_later_write : Gives 2 (write 0 p 1 ∷ write 0 p 2 ∷ read_value 0 p 0 1 2 ∷ []) (unlawful_of 0 2 OtherValue)
  pub value_before_overwritten : Gives 2 (strict_write 0 p 1 ∷ write 0 p 2 ∷ read_of 1 p 0 2 ∷ read_value 1 p 0 1 2 ∷ []) (unlawful_of 1 1 OtherValue)
  pub initial_value_is_zero : Gives 2 (initial_value 1 p 1 ∷ []) (unlawful_of 1 0 OtherValue)
  pub value_before_initial_gone : Gives 2 (write 0 p 1 ∷ initial_value 0 p 1 ∷ []) (unlawful_of 0 1 OtherValue)
  pub own_last_write : Gives 2 (write 0 p 1 ∷ write 0 p 2 ∷ read_of 0 p 0 2 ∷ []) Compliant
  pub own_write_to_another_address : Gives 2 (write 0 p 1 ∷ write 0 q 2 ∷ read_of 0 p 0 1 ∷ []) Compliant
  pub own_write_takes_the_initial_value : Gives 2 (write 0 p 1 ∷ read_initial 0 p ∷ []) (unlawful_of 0 1 InitialGone)
  pub own_write_leaves_another_initial_value : Gives 2 (write 0 q 1 ∷ read_initial 0 p ∷ []) Compliant
  pub second_notify : Gives 2 (notify 0 5 ∷ notify 0 5 ∷ []) (unlawful_of 0 1 NotifyOutOfTurn)
  pub wait_without_notify : Gives 2 (wait 0 5 ∷ []) (unlawful_of 0 0 WaitOutOfTurn)
  pub second_wait : Gives 1 (notify 0 5 ∷ wait 0 5 ∷ wait 0 5 ∷ []) (unlawful_of 0 2 WaitOutOfTurn)
  pub alone_nothing_is_missing : Gives 1 (notify 0 5 ∷ wait 0 5 ∷ notify 0 6 ∷ wait 0 6 ∷ []) Compliant
  pub every_thread_is_waited_for : Gives 3 (notify 0 5 ∷ notify 1 5 ∷ wait 0 5 ∷ []) (unlawful_of 0 1 NotifyMissing)
  pub missing_before_other_label : Gives 2 (notify 0 6 ∷ wait 0 5 ∷ []) (unlawful_of 0 1 NotifyMissing)
  pub the_waiters_own_label : Gives 2 (notify 0 5 ∷ notify 1 6 ∷ wait 0 6 ∷ []) (unlawful_of 0 1 OtherLabel)
  pub each_phase_has_its_label : Gives 2 (notify 0 5 ∷ notify 1 5 ∷ wait 0 5 ∷ wait 1 5 ∷ notify 0 6 ∷ notify 1 6 ∷ wait 1 6 ∷ wait 0 6 ∷ []) Compliant

-- The verdict of every record, also behind unlawful ones.
pub record Behind : Type 0 where
  pub a_write_that_stands_later_was_not_observed : Judged 2 (read_of 1 p 0 1 ∷ write 0 p 1 ∷ read_initial 1 p ∷ []) (unlawful NotWrittenYet ∷ lawful ∷ lawful ∷ [])
  pub an_unlawful_read_observes : Judged 2 (write 0 p 1 ∷ read_value 1 p 0 1 2 ∷ read_initial 1 p ∷ read_of 1 p 0 1 ∷ []) (lawful ∷ unlawful OtherValue ∷ unlawful InitialGone ∷ lawful ∷ [])
  pub a_notify_that_stands_later_was_not_observed : Judged 2 (write 1 p 1 ∷ notify 0 5 ∷ wait 0 5 ∷ notify 1 5 ∷ read_initial 0 p ∷ []) (lawful ∷ lawful ∷ unlawful NotifyMissing ∷ lawful ∷ lawful ∷ [])
  pub unlawful_notifies_and_waits_count : Judged 1 (wait 0 5 ∷ notify 0 5 ∷ wait 0 5 ∷ notify 0 5 ∷ notify 0 5 ∷ wait 0 5 ∷ []) (unlawful WaitOutOfTurn ∷ unlawful NotifyOutOfTurn ∷ unlawful WaitOutOfTurn ∷ unlawful NotifyOutOfTurn ∷ lawful ∷ lawful ∷ [])
  pub turn_before_label : Judged 1 (notify 0 6 ∷ notify 0 6 ∷ wait 0 5 ∷ []) (lawful ∷ unlawful NotifyOutOfTurn ∷ unlawful WaitOutOfTurn ∷ [])
  pub one_overwritten_another_not : Judged 2 (write 0 p 1 ∷ fence 0 ∷ write 0 p 2 ∷ write 0 p 3 ∷ read_of 1 p 0 3 ∷ read_of 1 p 0 1 ∷ read_of 1 p 0 2 ∷ read_initial 1 p ∷ []) (lawful ∷ lawful ∷ lawful ∷ lawful ∷ lawful ∷ unlawful Overwritten ∷ lawful ∷ unlawful InitialGone ∷ [])

-- The ending tells only where no record is unlawful.
pub record Endings : Type 0 where
  pub nothing_at_all : Gives 1 [] Compliant
  pub damaged_behind_lawful_ones : (d : Damage) → outcome by_axioms 2 (write 0 p 1 ∷ read_of 1 p 0 1 ∷ []) (damaged d) ≡ Damaged d
  pub unlawful_before_damaged : (d : Damage) → outcome by_axioms 2 (read_of 1 p 0 1 ∷ []) (damaged d) ≡ unlawful_of 1 0 NotWrittenYet

-- What the hold-back relay makes of a list, with thread 0 held back.
pub record Holding : Type 0 where
  pub held_to_the_end : HoldsBack 2 (fence 0 ∷ write 0 p 1 ∷ fence 1 ∷ []) (fence 1 ∷ fence 0 ∷ write 0 p 1 ∷ [])
  pub no_more_than_fit : HoldsBack 1 (fence 0 ∷ write 0 p 1 ∷ fence 1 ∷ []) (fence 0 ∷ fence 1 ∷ write 0 p 1 ∷ [])
  pub no_read_passes_what_it_may_name : HoldsBack 1 (write 0 p 1 ∷ read_of 1 p 0 1 ∷ []) (write 0 p 1 ∷ read_of 1 p 0 1 ∷ [])
  pub a_read_of_another_thread_passes : HoldsBack 1 (write 0 p 1 ∷ read_of 1 p 2 1 ∷ read_initial 1 p ∷ []) (read_of 1 p 2 1 ∷ read_initial 1 p ∷ write 0 p 1 ∷ [])
  pub a_read_passes_what_is_no_write : HoldsBack 1 (fence 0 ∷ read_of 1 p 0 1 ∷ []) (read_of 1 p 0 1 ∷ fence 0 ∷ [])
  pub no_write_passes_a_read_that_may_name_it : HoldsBack 1 (read_of 0 p 1 1 ∷ write 1 p 1 ∷ []) (read_of 0 p 1 1 ∷ write 1 p 1 ∷ [])
  pub a_write_passes_a_read_of_another_thread : HoldsBack 1 (read_of 0 p 2 1 ∷ write 1 p 1 ∷ []) (write 1 p 1 ∷ read_of 0 p 2 1 ∷ [])
  pub no_wait_passes_a_notify : HoldsBack 2 (notify 0 5 ∷ notify 1 5 ∷ wait 1 5 ∷ []) (notify 1 5 ∷ notify 0 5 ∷ wait 1 5 ∷ [])
  pub no_notify_passes_a_wait : HoldsBack 1 (wait 0 5 ∷ notify 1 5 ∷ []) (wait 0 5 ∷ notify 1 5 ∷ [])
  pub any_of_the_held_hinders : HoldsBack 3 (fence 0 ∷ write 0 p 1 ∷ fence 0 ∷ read_of 1 p 0 1 ∷ []) (fence 0 ∷ write 0 p 1 ∷ fence 0 ∷ read_of 1 p 0 1 ∷ [])
  pub nothing_held_behind_a_stall : HoldsBack 2 (write 0 p 1 ∷ read_of 1 p 0 1 ∷ fence 0 ∷ fence 1 ∷ []) (write 0 p 1 ∷ read_of 1 p 0 1 ∷ fence 1 ∷ fence 0 ∷ [])

pub record Table : Type 0 where
  pub worked : Worked
  pub room : Room
  pub ordering : Precedence
  pub observing : Observing
  pub reasons : Reasons
  pub behind : Behind
  pub endings : Endings
  pub holding : Holding
