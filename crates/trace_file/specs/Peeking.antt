-- What the next twelve bytes of a file say of asking it for a record.
use Rattle.std.specs.Prelude.{◌≡◌, ℕ, ◌+◌, List, length, Some, None, Ok, Err, Option, Result}
use Rattle.std.specs.Borrow.{Bor}
use Rattle.record.specs.declared.kinds.Counts.{Counts}
use Rattle.record.specs.declared.kinds.Record.{Record}
use Rattle.record.specs.declared.causes.Cause.{Cause}
use Rattle.feed.specs.Meaning.{Asked}
use Rattle.trace_file.specs.Opening.{file_meaning}

-- They are none, and the file ends clean here; or a record, which asking delivers and goes on behind; or no record, and the file ends damaged here.
abbrev pub Peeked : Counts → List ℕ → ℕ → Option (Result Record Cause × Bor (List ℕ)) → Type 0
Peeked c bs place None = Asked (file_meaning c bs place) (Ok None) (file_meaning c bs place)
Peeked c bs place (Some (Ok x, rest)) = (12 + length rest.now ≡ length bs) × Asked (file_meaning c bs place) (Ok (Some x)) (file_meaning c rest.now (place + 1))
Peeked c bs place (Some (Err cause, rest)) = Asked (file_meaning c bs place) (Err (record { cause = cause; place = place; depth = 0 })) (file_meaning c bs place)
