-- Each row of the table, by computation.
use Rattle.std.proofs.Common.{refl}
use Rattle.model.specs.Table.{Worked, Room, Precedence, Observing, Reasons, Behind, Endings, Holding, Table}

worked : Worked
worked = record {
  own_older_write = refl;
  overwritten_over_a_fence = refl;
  relaxed_writes_unordered = refl;
  strict_writes_of_two_threads_unordered = refl;
  all_observations_count = refl;
  wait_observes_notify = refl;
  initial_gone_once_read = refl;
  initial_while_unobserved = refl;
  wait_before_notify = refl;
  two_labels = refl;
  own_write_orders_no_others = refl;
}

room : Room
room = record {
  just_full = refl;
  one_too_many = refl;
  relaxed_reads_take_room = refl;
  each_thread_has_its_own = refl;
  tested_first = refl;
}

ordering : Precedence
ordering = record {
  strict_before_both_orders_nothing = refl;
  strict_behind_both_orders_nothing = refl;
  strict_older_write_orders = refl;
  strict_newer_write_orders = refl;
  strict_read_orders = refl;
  notify_orders = refl;
  relaxed_read_orders_nothing = refl;
  wait_orders_nothing = refl;
  other_threads_fence_orders_nothing = refl;
  readers_own_strictness_orders_nothing = refl;
}

observing : Observing
observing = record {
  the_newer_one_may_follow = refl;
  strict_write_read_twice = refl;
  older_observations_count = refl;
  others_observations_do_not_count = refl;
  read_observes_its_writer_alone = refl;
  read_observes_the_write_it_names = refl;
  what_precedes_is_covered = refl;
  notify_covers_what_stands_before_it = refl;
  notify_overwrites_nothing = refl;
  notify_covers_nothing_behind_it = refl;
  second_wait_observes_second_notify = refl;
  first_wait_observes_first_notify = refl;
  other_address_overwrites_nothing = refl;
  other_address_takes_no_initial_value = refl;
  local_and_remote_reads_mix = refl;
}

reasons : Reasons
reasons = record {
  not_written_yet = refl;
  not_written_by_that_thread = refl;
  not_so_many_writes = refl;
  other_address = refl;
  address_before_value = refl;
  address_before_own_later_write = refl;
  other_value = refl;
  value_before_own_later_write = refl;
  value_before_overwritten = refl;
  initial_value_is_zero = refl;
  value_before_initial_gone = refl;
  own_last_write = refl;
  own_write_to_another_address = refl;
  own_write_takes_the_initial_value = refl;
  own_write_leaves_another_initial_value = refl;
  second_notify = refl;
  wait_without_notify = refl;
  second_wait = refl;
  alone_nothing_is_missing = refl;
  every_thread_is_waited_for = refl;
  missing_before_other_label = refl;
  the_waiters_own_label = refl;
  each_phase_has_its_label = refl;
}

behind : Behind
behind = record {
  a_write_that_stands_later_was_not_observed = refl;
  an_unlawful_read_observes = refl;
  a_notify_that_stands_later_was_not_observed = refl;
  unlawful_notifies_and_waits_count = refl;
  turn_before_label = refl;
  one_overwritten_another_not = refl;
}

endings : Endings
endings = record {
  nothing_at_all = refl;
  damaged_behind_lawful_ones = λ d. refl;
  unlawful_before_damaged = λ d. refl;
}

holding : Holding
holding = record {
  held_to_the_end = refl;
  no_more_than_fit = refl;
  no_read_passes_what_it_may_name = refl;
  a_read_of_another_thread_passes = refl;
  a_read_passes_what_is_no_write = refl;
  no_write_passes_a_read_that_may_name_it = refl;
  a_write_passes_a_read_of_another_thread = refl;
  no_wait_passes_a_notify = refl;
  no_notify_passes_a_wait = refl;
  any_of_the_held_hinders = refl;
  nothing_held_behind_a_stall = refl;
}

pub table : Table
table = record { worked = worked; room = room; ordering = ordering; observing = observing; reasons = reasons; behind = behind; endings = endings; holding = holding }
