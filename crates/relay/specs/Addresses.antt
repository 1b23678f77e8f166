-- Which addresses a renaming can be asked for.
use Rattle.std.specs.Prelude.{◌<◌}
use Rattle.record.specs.declared.kinds.Record.{Record}
use Rattle.record.specs.declared.kinds.Record.TheVariants.{Write, Read, Fence, Notify, Wait}

-- the address of a write or read fits a byte, as every well-made one does
abbrev pub ShortAddress : Record → Type 0
ShortAddress (Write w) = w.address < 256
ShortAddress (Read r) = r.address < 256
ShortAddress (Fence f) = Unit {0}
ShortAddress (Notify n) = Unit {0}
ShortAddress (Wait w) = Unit {0}
