-- What the next twelve bytes of a bundle say of asking it for a record.
use Rattle.std.specs.Prelude.{ℕ, ◌+◌, ◌<◌, List, length, Some, None, Ok, Err, Option, Result, slice_set}
use Rattle.std.specs.Borrow.{Bor}
use Rattle.record.specs.declared.kinds.Counts.{Counts}
use Rattle.record.specs.declared.kinds.Record.{Record}
use Rattle.record.specs.declared.causes.Cause.{Cause}
use Rattle.feed.specs.Meaning.{Asked}
use Rattle.bundle.specs.Reading.{bundle_meaning}

-- There is none, and the bundle ends clean here; or a thread's record, which asking delivers and goes on behind; or none that is well made, and the bundle ends damaged here.
abbrev pub Peeked : Counts → List (Bor (List ℕ)) → List ℕ → ℕ → Option (ℕ × Result Record Cause × Bor (List ℕ)) → Type 0
Peeked c logs ts at None = Asked (bundle_meaning c logs ts at) (Ok None) (bundle_meaning c logs ts at)
Peeked c logs ts at (Some (t, Ok x, rest)) = (t < 8) × (at < length ts) × Asked (bundle_meaning c logs ts at) (Ok (Some x)) (bundle_meaning c (slice_set logs t rest) ts (at + 1))
Peeked c logs ts at (Some (t, Err cause, rest)) = Asked (bundle_meaning c logs ts at) (Err (record { cause = cause; place = at; depth = 0 })) (bundle_meaning c logs ts at)
