-- What a feed means that reads its records one by one: it ends damaged at the first that is not well made, otherwise clean behind the last.
use Rattle.std.specs.Prelude.{◌≡◌, ℕ, ◌+◌, List, [], ◌∷◌, Ok, Err, Result, refl}
use Rattle.record.specs.declared.kinds.Counts.{Counts}
use Rattle.record.specs.declared.kinds.Record.{Record}
use Rattle.record.specs.declared.causes.Cause.{Cause}
use Rattle.record.specs.Ending.{Ending, clean, damaged}
use Rattle.record.specs.WellMade.{checked, AllWellMade}
use Rattle.feed.specs.Meaning.{Meaning, CountsInRange, WellMade}
use Rattle.feed.specs.Pile.{FoundHere}

-- the records before the first that is not well made
abbrev pub well_made_ones : List (Result Record Cause) → List Record
well_made_ones [] = []
well_made_ones (Ok x ∷ rs) = x ∷ well_made_ones rs
well_made_ones (Err cause ∷ rs) = []

-- how it ends, where so many records were delivered already
abbrev pub ending_after : ℕ → List (Result Record Cause) → Ending
ending_after place [] = clean
ending_after place (Ok x ∷ rs) = ending_after (place + 1) rs
ending_after place (Err cause ∷ rs) = damaged (record { cause = cause; place = place; depth = 0 })

-- the meaning of a feed that has delivered so many records and will read these
abbrev pub delivering : Counts → ℕ → List (Result Record Cause) → Meaning
delivering c place rs = record { counts = c; waiting = well_made_ones rs; ending = ending_after place rs }

-- each that was read as a record is well made
abbrev pub ReadWellMade : Counts → List (Result Record Cause) → Type 0
ReadWellMade c [] = Unit {0}
ReadWellMade c (Ok x ∷ rs) = (checked c x ≡ Ok tt) × ReadWellMade c rs
ReadWellMade c (Err cause ∷ rs) = ReadWellMade c rs

ones-well-made : (c : Counts) (rs : List (Result Record Cause)) → ReadWellMade c rs → AllWellMade c (well_made_ones rs)
ones-well-made c [] h = tt
ones-well-made c (Ok x ∷ rs) h = (h.0, ones-well-made c rs h.1)
ones-well-made c (Err cause ∷ rs) h = tt

-- such a meaning is well made
pub delivering-sound : (c : Counts) (place : ℕ) (rs : List (Result Record Cause)) → CountsInRange c → ReadWellMade c rs → WellMade (delivering c place rs)
delivering-sound c place rs r h = record { in_range = r; all_well_made = ones-well-made c rs h }

-- its damage was found here
pub delivering-found : (place : ℕ) (rs : List (Result Record Cause)) → FoundHere (ending_after place rs)
delivering-found place [] = tt
delivering-found place (Ok x ∷ rs) = delivering-found (place + 1) rs
delivering-found place (Err cause ∷ rs) = refl
