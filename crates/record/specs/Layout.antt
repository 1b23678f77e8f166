-- The twelve bytes of a record.
use Rattle.std.specs.Prelude.{ℕ, ◌+◌, ◌*◌, ◌/◌, ◌%◌, List, [], ◌∷◌, slice_index}
use Rattle.record.specs.declared.kinds.Record.{Record}
use Rattle.record.specs.declared.kinds.Record.TheVariants.{Write, Read, Fence, Notify, Wait}
use Rattle.record.specs.declared.layout.Fields.{Fields}
use Rattle.record.specs.Numbers.{kind_number, mode_number, source_writer, source_number}

-- the number that two bytes hold, the more significant first
abbrev pub two : ℕ → ℕ → ℕ
two a b = a * 256 + b

-- the number that four bytes hold, the most significant first
abbrev pub four : ℕ → ℕ → ℕ → ℕ → ℕ
four a b c d = a * 16777216 + b * 65536 + c * 256 + d

-- the fields of twelve bytes
abbrev pub fields_of : List ℕ → Fields
fields_of bs = record { kind = slice_index bs 0; thread = slice_index bs 1; address = two (slice_index bs 2) (slice_index bs 3); writer = slice_index bs 4; mode = slice_index bs 5; number = two (slice_index bs 6) (slice_index bs 7); value = four (slice_index bs 8) (slice_index bs 9) (slice_index bs 10) (slice_index bs 11) }

-- the twelve bytes of the fields
abbrev pub bytes_for : Fields → List ℕ
bytes_for f = f.kind ∷ f.thread ∷ (f.address / 256 % 256) ∷ (f.address % 256) ∷ f.writer ∷ f.mode ∷ (f.number / 256 % 256) ∷ (f.number % 256) ∷ (f.value / 16777216 % 256) ∷ (f.value / 65536 % 256) ∷ (f.value / 256 % 256) ∷ (f.value % 256) ∷ []

-- the fields of a record; those that its kind does not use are zero
abbrev pub fields_for : Record → Fields
fields_for (Write w) = record { kind = kind_number (Write w); thread = w.thread; address = w.address; writer = 0; mode = mode_number w.mode; number = 0; value = w.value }
fields_for (Read r) = record { kind = kind_number (Read r); thread = r.thread; address = r.address; writer = source_writer r.source; mode = mode_number r.mode; number = source_number r.source; value = r.value }
fields_for (Fence f) = record { kind = kind_number (Fence f); thread = f.thread; address = 0; writer = 0; mode = 0; number = 0; value = 0 }
fields_for (Notify n) = record { kind = kind_number (Notify n); thread = n.thread; address = 0; writer = 0; mode = 0; number = 0; value = n.label }
fields_for (Wait w) = record { kind = kind_number (Wait w); thread = w.thread; address = 0; writer = 0; mode = 0; number = 0; value = w.label }

abbrev pub bytes_of : Record → List ℕ
bytes_of x = bytes_for (fields_for x)
