-- A feed of one thread and one address with nothing but damage.
use Rattle.std.specs.Prelude.{ℕ, []}
use Rattle.std.proofs.Common.{arith}
use Rattle.record.specs.Ending.{damaged}
use Rattle.record.specs.declared.causes.Cause.TheVariants.{UnknownKind}
use Rattle.feed.specs.Meaning.{Meaning, WellMade}

abbrev pub broken_meaning : ℕ → Meaning
broken_meaning depth = record { counts = record { threads = 1; addresses = 1 }; waiting = []; ending = damaged (record { cause = UnknownKind; place = 0; depth = depth }) }

pub broken_sound : (depth : ℕ) → WellMade (broken_meaning depth)
broken_sound depth = record { in_range = record { some_thread = omega arith; few_threads = omega arith; some_address = omega arith; few_addresses = omega arith }; all_well_made = tt }
