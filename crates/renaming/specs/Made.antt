-- What a rotation and a table are as renamings.
use Rattle.std.specs.Prelude.{◌≡◌, ℕ, ◌-◌, ◌%◌, List, length}
use Rattle.renaming.specs.declared.rotation.Rotation.{Rotation}
use Rattle.renaming.specs.declared.table.Table.{Table}
use Rattle.renaming.specs.contracts.rotation.RotationRenaming.TheImpl.{ghosts as rotation_of}
use Rattle.renaming.specs.contracts.table.TableRenaming.TheImpl.{ghosts as table_of}
use Rattle.renaming.specs.Rotations.{rotated}
use Rattle.renaming.specs.Tables.{name_of, named_by}

-- it turns so many numbers by so many places, and back
pub record Rotates (r : Rotation) (count by : ℕ) : Type 0 where
  pub counts : rotation_of.total r ≡ count
  pub goes : rotation_of.onward r ≡ rotated count by
  pub returns : rotation_of.backward r ≡ rotated count (count - by % count)

-- its new names are these entries, in their order
pub record HasEntries (t : Table) (entries : List ℕ) : Type 0 where
  pub counts : table_of.total t ≡ length entries
  pub goes : table_of.onward t ≡ name_of entries
  pub returns : table_of.backward t ≡ named_by entries
