-- A bundle's meaning is well made, in whatever state it is read, and its damage is found there.
use Rattle.std.specs.Prelude.{◌≡◌, ℕ, List, [], ◌∷◌, map, drop, Some, Ok, Err, Result, refl}
use Rattle.record.specs.declared.kinds.Counts.{Counts}
use Rattle.record.specs.declared.kinds.Record.{Record}
use Rattle.record.specs.declared.causes.Cause.{Cause}
use Rattle.record.proofs.Decoded.{decoded-is-well-made}
use Rattle.feed.specs.Meaning.{WellMade}
use Rattle.feed.specs.Pile.{FoundHere}
use Rattle.feed.specs.Delivery.{ReadWellMade, delivering-sound, delivering-found}
use Rattle.trace_file.specs.Opening.{in_range}
use Rattle.trace_file.specs.Sound.{counts_in_range}
use Rattle.std.specs.Borrow.{Bor}
use Rattle.bundle.specs.Arrivals.{arriving}
use Rattle.bundle.specs.Reading.{read_in_log, read_as_arriving, slots_left, bundle_meaning}

one-well-made : (c : Counts) (slot : ℕ × List ℕ) (rest : List (Result Record Cause)) (r : Result Record Cause) → read_in_log c slot ≡ r → ReadWellMade c rest → ReadWellMade c (r ∷ rest)
one-well-made c slot rest (Ok x) e h = (decoded-is-well-made c (Some slot.0) slot.1 x e, h)
one-well-made c slot rest (Err cause) e h = h

all_well_made : (c : Counts) (slots : List (ℕ × List ℕ)) → ReadWellMade c (map (read_in_log c) slots)
all_well_made c [] = tt
all_well_made c (slot ∷ slots) = one-well-made c slot (map (read_in_log c) slots) (read_in_log c slot) refl (all_well_made c slots)

pub bundle_sound : (c : Counts) (logs : List (Bor (List ℕ))) (ts : List ℕ) (at : ℕ) → WellMade (bundle_meaning c logs ts at)
bundle_sound c logs ts at = delivering-sound (in_range c) at (read_as_arriving (in_range c) (map slots_left logs) (drop at ts)) (counts_in_range c) (all_well_made (in_range c) (arriving (map slots_left logs) (drop at ts)))

pub bundle_found : (c : Counts) (logs : List (Bor (List ℕ))) (ts : List ℕ) (at : ℕ) → FoundHere (bundle_meaning c logs ts at).ending
bundle_found c logs ts at = delivering-found at (read_as_arriving (in_range c) (map slots_left logs) (drop at ts))
