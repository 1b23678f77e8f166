-- What is written of a well-made record is read as that record.
use Rattle.std.proofs.Common.{◌≡◌, ℕ, ◌^◌, ◌<◌, false, Ok, Option, refl, ap, ◌∙◌, arith, lit<}
use Rattle.std.proofs.lemmas.Bool.Decides.{nat_tests}
use Rattle.record.specs.declared.kinds.Counts.{Counts}
use Rattle.record.specs.declared.kinds.Mode.{Mode}
use Rattle.record.specs.declared.kinds.Mode.TheVariants.{Relaxed, Strict}
use Rattle.record.specs.declared.kinds.Source.{Source}
use Rattle.record.specs.declared.kinds.Source.TheVariants.{Initial, Write as WriteOf}
use Rattle.record.specs.declared.kinds.Record.{Record}
use Rattle.record.specs.declared.kinds.Record.TheVariants.{Write, Read, Fence, Notify, Wait}
use Rattle.record.specs.declared.layout.Fields.{Fields}
use Rattle.record.specs.Layout.{fields_of, fields_for, bytes_for}
use Rattle.record.specs.Reading.{fields_read, foreign}
use Rattle.record.specs.RoundTrip.{CountsFit, Storable, SourceFits, EncodedIsDecoded}
use Rattle.record.specs.WellMade.{thread_of, checked}
use Rattle.record.proofs.Numerals.{two-joined, four-joined}

split-joined : (f : Fields) → f.address < 2 ^ 16 → f.number < 2 ^ 16 → f.value < 2 ^ 32 → fields_of (bytes_for f) ≡ f
split-joined f a n v = rw (two-joined f.address a, two-joined f.number n, four-joined f.value v) refl

abbrev ReadsBack : Counts → Option ℕ → Record → Type 0
ReadsBack c log x = checked c x ≡ Ok tt → foreign log (thread_of x) ≡ false → fields_read c log (fields_for x) ≡ Ok x

write-back : (c : Counts) (log : Option ℕ) (t a v : ℕ) (m : Mode) → ReadsBack c log (Write (record { thread = t; address = a; mode = m; value = v }))
write-back c log t a v Relaxed e l = grind (arith, nat_tests)
write-back c log t a v Strict e l = grind (arith, nat_tests)

read_back : (c : Counts) → CountsFit c → (log : Option ℕ) (t a v : ℕ) (m : Mode) (s : Source) → ReadsBack c log (Read (record { thread = t; address = a; source = s; mode = m; value = v }))
read_back c k log t a v Relaxed Initial e l = grind (arith, nat_tests)
read_back c k log t a v Strict Initial e l = grind (arith, nat_tests)
read_back c k log t a v Relaxed (WriteOf u n) e l = grind (arith, nat_tests)
read_back c k log t a v Strict (WriteOf u n) e l = grind (arith, nat_tests)

fields_back : (c : Counts) → CountsFit c → (log : Option ℕ) (x : Record) → ReadsBack c log x
fields_back c k log (Write w) e l = write-back c log w.thread w.address w.value w.mode e l
fields_back c k log (Read r) e l = read_back c k log r.thread r.address r.value r.mode r.source e l
fields_back c k log (Fence f) e l = grind (arith, nat_tests)
fields_back c k log (Notify n) e l = grind (arith, nat_tests)
fields_back c k log (Wait w) e l = grind (arith, nat_tests)

address-fits : (c : Counts) → CountsFit c → (x : Record) → checked c x ≡ Ok tt → (fields_for x).address < 2 ^ 16
address-fits c k (Write w) e = grind (arith, nat_tests)
address-fits c k (Read r) e = grind (arith, nat_tests)
address-fits c k (Fence f) e = lit< tt
address-fits c k (Notify n) e = lit< tt
address-fits c k (Wait w) e = lit< tt

number-of-source : (s : Source) → SourceFits s → Rattle.record.specs.Numbers.source_number s < 2 ^ 16
number-of-source Initial h = lit< tt
number-of-source (WriteOf t n) h = h

number_fits : (x : Record) → Storable x → (fields_for x).number < 2 ^ 16
number_fits (Write w) h = lit< tt
number_fits (Read r) h = number-of-source r.source h.1
number_fits (Fence f) h = lit< tt
number_fits (Notify n) h = lit< tt
number_fits (Wait w) h = lit< tt

value-fits : (x : Record) → Storable x → (fields_for x).value < 2 ^ 32
value-fits (Write w) h = h
value-fits (Read r) h = h.0
value-fits (Fence f) h = lit< tt
value-fits (Notify n) h = h
value-fits (Wait w) h = h

pub encoded-is-decoded : EncodedIsDecoded
encoded-is-decoded c k log x fits e l =
    ap (fields_read c log) (split-joined (fields_for x) (address-fits c k x e) (number_fits x fits) (value-fits x fits)) ∙ fields_back c k log x e l
