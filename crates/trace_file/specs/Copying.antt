-- What copying a trace file answers, and what it leaves in the target.
use Rattle.std.specs.Prelude.{ℕ, cond, List, ◌++◌, length, drop, Ok, Err, Result, nat_lt}
use Rattle.record.specs.declared.causes.Damage.{Damage}
use Rattle.record.specs.Ending.{Ending, clean, damaged}
use Rattle.feed.specs.declared.refusals.Refusal.{Refusal}
use Rattle.feed.specs.declared.refusals.Refusal.TheVariants.{ShortHeader, NoRoom}
use Rattle.feed.specs.Meaning.{Meaning}
use Rattle.trace_file.specs.declared.faults.Uncopied.{Uncopied}
use Rattle.trace_file.specs.declared.faults.Uncopied.TheVariants.{Refused, Damaged}
use Rattle.trace_file.specs.Opening.{opened}

-- nothing at a clean ending, else the damage
abbrev pub ended_clean : Ending → Result (Unit {0}) Damage
ended_clean clean = Ok tt
ended_clean (damaged d) = Err d

-- n bytes go into a buffer of so many, the first sixteen of them being the header
abbrev pub room_tested : ℕ → ℕ → Result ℕ Uncopied
room_tested n room = cond (nat_lt room 16) (Err (Refused ShortHeader)) (cond (nat_lt room n) (Err (Refused NoRoom)) (Ok n))

abbrev pub copy_tested : ℕ → ℕ → Ending → Result ℕ Uncopied
copy_tested n room clean = room_tested n room
copy_tested n room (damaged d) = Err (Damaged d)

abbrev pub copies_under : ℕ → ℕ → Result Meaning Refusal → Result ℕ Uncopied
copies_under n room (Err e) = Err (Refused e)
copies_under n room (Ok m) = copy_tested n room m.ending

-- how many bytes are copied into a target of so many, or why none is: the source's refusal, its damage, then a short target
abbrev pub copies : List ℕ → ℕ → Result ℕ Uncopied
copies source room = copies_under (length source) room (opened source)

-- the target with the source's own bytes at its front
abbrev pub copied : List ℕ → List ℕ → List ℕ
copied source target = source ++ drop (length source) target
