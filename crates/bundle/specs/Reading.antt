-- What a bundle means of which some records were delivered.
use Rattle.std.specs.Prelude.{ℕ, ◌*◌, ◌/◌, List, map, length, take, drop, Some, Result}
use Rattle.std.specs.Borrow.{Bor}
use Rattle.record.specs.declared.kinds.Counts.{Counts}
use Rattle.record.specs.declared.kinds.Record.{Record}
use Rattle.record.specs.declared.causes.Cause.{Cause}
use Rattle.record.specs.Reading.{decoded}
use Rattle.feed.specs.Meaning.{Meaning}
use Rattle.feed.specs.Delivery.{delivering}
use Rattle.trace_file.specs.Layout.{twelves}
use Rattle.trace_file.specs.Opening.{in_range}
use Rattle.bundle.specs.declared.layout.Row.{Row}
use Rattle.bundle.specs.Arrivals.{arriving}

-- twelve bytes, with the thread in whose log they stand, are read as a record or as none
abbrev pub read_in_log : Counts → ℕ × List ℕ → Result Record Cause
read_in_log c slot = decoded c (Some slot.0) slot.1

-- the records of the logs as they arrive
abbrev pub read_as_arriving : Counts → List (List (List ℕ)) → List ℕ → List (Result Record Cause)
read_as_arriving c logs ts = map (read_in_log c) (arriving logs ts)

-- the bytes of a row's log, as far as those of the bundle reach
abbrev pub log_bytes : List ℕ → Row → List ℕ
log_bytes bs row = take (12 * row.count) (drop row.offset bs)

abbrev pub bytes_of : Bor (List ℕ) → List ℕ
bytes_of log = log.now

-- the records of which a log has twelve bytes left
abbrev pub slots_left : Bor (List ℕ) → List (List ℕ)
slots_left log = twelves (length log.now / 12) log.now

-- what a bundle means of whose arrival list ts those before `at` were delivered
abbrev pub bundle_meaning : Counts → List (Bor (List ℕ)) → List ℕ → ℕ → Meaning
bundle_meaning c logs ts at = delivering (in_range c) at (read_as_arriving (in_range c) (map slots_left logs) (drop at ts))
