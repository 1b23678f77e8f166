-- The number of each refusal.
use Rattle.std.specs.Prelude.{ℕ}
use Rattle.feed.specs.declared.refusals.Refusal.{Refusal}
use Rattle.feed.specs.declared.refusals.Refusal.TheVariants.{ShortHeader, ThreadCount, AddressCount, RecordCount, BrokenLayout, ArrivalList, BadRenaming, BadHoldBack, AlreadySettled, NoSuchWrite, NoRoom, NotWellMade}

abbrev pub refusal_number : Refusal → ℕ
refusal_number ShortHeader = 1
refusal_number ThreadCount = 2
refusal_number AddressCount = 3
refusal_number RecordCount = 4
refusal_number BrokenLayout = 5
refusal_number ArrivalList = 6
refusal_number BadRenaming = 7
refusal_number BadHoldBack = 8
refusal_number AlreadySettled = 9
refusal_number NoSuchWrite = 10
refusal_number NoRoom = 11
refusal_number (NotWellMade cause) = 12
