-- How a refusal reads for people.
use Rattle.std.specs.Prelude.{ℕ, List, [], codes}
use Rattle.record.specs.Sentences.{cause_text}
use Rattle.feed.specs.declared.refusals.Refusal.{Refusal}
use Rattle.feed.specs.declared.refusals.Refusal.TheVariants.{ShortHeader, ThreadCount, AddressCount, RecordCount, BrokenLayout, ArrivalList, BadRenaming, BadHoldBack, AlreadySettled, NoSuchWrite, NoRoom, NotWellMade}

abbrev pub refusal_text : Refusal → List ℕ
refusal_text ShortHeader = codes "there are fewer bytes than a header has"
refusal_text ThreadCount = codes "the number of threads is not 1 to 8"
refusal_text AddressCount = codes "the number of addresses is not 1 to 64"
refusal_text RecordCount = codes "there are more than 4096 records"
refusal_text BrokenLayout = codes "offsets or lengths break the layout"
refusal_text ArrivalList = codes "the arrival list does not use each log exactly"
refusal_text BadRenaming = codes "the renaming is no table, or not of as many numbers as the feed has"
refusal_text BadHoldBack = codes "there is no such thread to hold back, or the number to hold is not 1 to 16"
refusal_text AlreadySettled = codes "an outcome was told already"
refusal_text NoSuchWrite = codes "there is no such thread, or no such write was taken"
refusal_text NoRoom = codes "fewer than 12 bytes are free for one more record"
refusal_text (NotWellMade cause) = codes "the record is not well made: "

-- what follows: the cause that it carries
abbrev pub carried_text : Refusal → List ℕ
carried_text ShortHeader = []
carried_text ThreadCount = []
carried_text AddressCount = []
carried_text RecordCount = []
carried_text BrokenLayout = []
carried_text ArrivalList = []
carried_text BadRenaming = []
carried_text BadHoldBack = []
carried_text AlreadySettled = []
carried_text NoSuchWrite = []
carried_text NoRoom = []
carried_text (NotWellMade cause) = cause_text cause
