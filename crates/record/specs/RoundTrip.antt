-- Records and their bytes: each way undoes the other.
use Rattle.std.specs.Prelude.{◌≡◌, ℕ, ◌^◌, ◌<◌, false, List, length, Ok, Option, slice_index}
use Rattle.record.specs.declared.kinds.Counts.{Counts}
use Rattle.record.specs.declared.kinds.Source.{Source}
use Rattle.record.specs.declared.kinds.Source.TheVariants.{Initial, Write as WriteOf}
use Rattle.record.specs.declared.kinds.Record.{Record}
use Rattle.record.specs.declared.kinds.Record.TheVariants.{Write, Read, Fence, Notify, Wait}
use Rattle.record.specs.Layout.{bytes_of}
use Rattle.record.specs.Reading.{decoded, foreign}
use Rattle.record.specs.WellMade.{thread_of, checked}

-- Numbers in the logic have no bound; those of the program do.

-- both counts fit a byte, as the program holds them
pub record CountsFit (c : Counts) : Type 0 where
  pub threads_fit : c.threads < 256
  pub addresses_fit : c.addresses < 256

abbrev pub SourceFits : Source → Type 0
SourceFits Initial = Unit {0}
SourceFits (WriteOf t n) = n < 2 ^ 16

-- the numbers of the record fit the fields that hold them
abbrev pub Storable : Record → Type 0
Storable (Write w) = w.value < 2 ^ 32
Storable (Read r) = (r.value < 2 ^ 32) × SourceFits r.source
Storable (Fence f) = Unit {0}
Storable (Notify n) = n.label < 2 ^ 32
Storable (Wait w) = w.label < 2 ^ 32

-- each number of the list is a byte
abbrev pub AllBytes : List ℕ → Type 0
AllBytes bs = (k : ℕ) → slice_index bs k < 256

-- what is written of a well-made record is read as that record, also in its thread's own log
abbrev pub EncodedIsDecoded : Type 0
EncodedIsDecoded =
    (c : Counts) → CountsFit c → (log : Option ℕ) (x : Record) → Storable x → checked c x ≡ Ok tt → foreign log (thread_of x) ≡ false → decoded c log (bytes_of x) ≡ Ok x

-- what is read as a record is written as the same bytes
abbrev pub DecodedIsEncoded : Type 0
DecodedIsEncoded = (c : Counts) (log : Option ℕ) (bs : List ℕ) → length bs ≡ 12 → AllBytes bs → (x : Record) → decoded c log bs ≡ Ok x → bytes_of x ≡ bs

-- what is read as a record is well made
abbrev pub DecodedIsWellMade : Type 0
DecodedIsWellMade = (c : Counts) (log : Option ℕ) (bs : List ℕ) (x : Record) → decoded c log bs ≡ Ok x → checked c x ≡ Ok tt
