-- A file's meaning is well made, in whatever state it is read, and its damage is found there.
use Rattle.std.specs.Prelude.{◌≡◌, ℕ, ◌/◌, List, [], ◌∷◌, length, None, Ok, Err, Result, refl}
use Rattle.std.proofs.Common.{arith}
use Rattle.record.specs.declared.kinds.Counts.{Counts}
use Rattle.record.specs.declared.kinds.Record.{Record}
use Rattle.record.specs.declared.causes.Cause.{Cause}
use Rattle.record.specs.Reading.{decoded}
use Rattle.record.proofs.Decoded.{decoded-is-well-made}
use Rattle.feed.specs.Meaning.{CountsInRange, WellMade}
use Rattle.feed.specs.Pile.{FoundHere}
use Rattle.feed.specs.Delivery.{ReadWellMade, delivering-sound, delivering-found}
use Rattle.trace_file.specs.Layout.{twelves}
use Rattle.trace_file.specs.Opening.{read_as, in_range, file_meaning}

pub counts_in_range : (c : Counts) → CountsInRange (in_range c)
counts_in_range c = record { some_thread = omega arith; few_threads = omega arith; some_address = omega arith; few_addresses = omega arith }

one-well-made : (c : Counts) (bs : List ℕ) (rest : List (Result Record Cause)) (r : Result Record Cause) → decoded c None bs ≡ r → ReadWellMade c rest → ReadWellMade c (r ∷ rest)
one-well-made c bs rest (Ok x) e h = (decoded-is-well-made c None bs x e, h)
one-well-made c bs rest (Err cause) e h = h

all_well_made : (c : Counts) (ts : List (List ℕ)) → ReadWellMade c (read_as c ts)
all_well_made c [] = tt
all_well_made c (t ∷ ts) = one-well-made c t (read_as c ts) (decoded c None t) refl (all_well_made c ts)

pub file_sound : (c : Counts) (bs : List ℕ) (place : ℕ) → WellMade (file_meaning c bs place)
file_sound c bs place = delivering-sound (in_range c) place (read_as (in_range c) (twelves (length bs / 12) bs)) (counts_in_range c) (all_well_made (in_range c) (twelves (length bs / 12) bs))

pub file_found : (c : Counts) (bs : List ℕ) (place : ℕ) → FoundHere (file_meaning c bs place).ending
file_found c bs place = delivering-found place (read_as (in_range c) (twelves (length bs / 12) bs))
