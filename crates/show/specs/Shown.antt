-- What the viewer says of a trace or bundle beside its records.
use Rattle.std.specs.Prelude.{ℕ, ◌+◌, ◌*◌, Bool, true, false, List, length, is_ok, Some, None, Ok, Err, Option, Result}
use Rattle.record.specs.declared.causes.Damage.{Damage}
use Rattle.record.specs.Ending.{Ending, clean, damaged}
use Rattle.feed.specs.declared.refusals.Refusal.{Refusal}
use Rattle.feed.specs.Meaning.{Meaning}
use Rattle.trace_file.specs.Copying.{copies}
use Rattle.show.specs.declared.Format.{Format}
use Rattle.show.specs.declared.Format.TheVariants.{Trace, Bundle}

-- the bytes can be written again, and are then the same
abbrev pub written_again : List ℕ → Bool
written_again bs = is_ok (copies bs (length bs))

-- the ending that damage, or nothing, stands for
abbrev pub ending_of : Option Damage → Ending
ending_of None = clean
ending_of (Some d) = damaged d

abbrev pub is_clean : Ending → Bool
is_clean clean = true
is_clean (damaged d) = false

-- the bytes open, and end clean
abbrev pub ends_clean : Result Meaning Refusal → Bool
ends_clean (Err e) = false
ends_clean (Ok m) = is_clean m.ending

-- one byte more than the longest of the format has: of a trace file 16 + 12 × 4,096, of what is laid out as a bundle 76 + 8 × 12 × 4,096 + 4,096
abbrev pub most_bytes : Format → ℕ
most_bytes Trace = 16 + 12 * 4096 + 1
most_bytes Bundle = 76 + 8 * (12 * 4096) + 4096 + 1
