-- How a trace ends.
use Rattle.record.specs.declared.causes.Damage.{Damage}

-- clean behind its last record, or at the first that is not well made
pub data Ending : Type 0 where
  clean : Ending
  damaged : Damage → Ending
