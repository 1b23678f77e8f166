-- What a well-made record has, and that renaming keeps it well made.
use Rattle.std.proofs.Common.{◌≡◌, ℕ, ◌<◌, Bool, true, false, cond, not, ◌&&◌, ltb, List, [], ◌∷◌, map, Ok, Err, Result, refl, arith, ltb-true, lt-ltb}
use Rattle.std.proofs.lemmas.Bool.{and_parts}
use Rattle.record.specs.declared.kinds.Counts.{Counts}
use Rattle.record.specs.declared.kinds.Source.{Source}
use Rattle.record.specs.declared.kinds.Source.TheVariants.{Initial, Write as WriteOf}
use Rattle.record.specs.declared.kinds.Record.{Record}
use Rattle.record.specs.declared.kinds.Record.TheVariants.{Write, Read, Fence, Notify, Wait}
use Rattle.record.specs.declared.causes.Cause.{Cause}
use Rattle.record.specs.declared.causes.Cause.TheVariants.{WrongThread, UnknownAddress, UnknownSource}
use Rattle.record.specs.WellMade.{thread_of, nameable, checked, AllWellMade}
use Rattle.model.specs.Renamed.{Renaming, source_renamed, renamed}

abbrev tested : Bool → Bool → Bool → Result (Unit {0}) Cause
tested a b d = cond (not a) (Err WrongThread) (cond (not b) (Err UnknownAddress) (cond (not d) (Err UnknownSource) (Ok tt)))

parts : (a b d : Bool) → tested a b d ≡ Ok tt → (a ≡ true) × (b ≡ true) × (d ≡ true)
parts true true true e = (refl, refl, refl)
parts true true false e = let z : ◌≡◌ {A = ℕ} 0 1 = cc in absurd (omega arith)
parts true false d e = let z : ◌≡◌ {A = ℕ} 0 1 = cc in absurd (omega arith)
parts false b d e = let z : ◌≡◌ {A = ℕ} 0 1 = cc in absurd (omega arith)

abbrev pub SourceFits : Counts → Source → Type 0
SourceFits c Initial = Unit {0}
SourceFits c (WriteOf u n) = u < c.threads

-- threads and addresses are below their counts
abbrev pub Fits : Counts → Record → Type 0
Fits c (Write w) = (w.thread < c.threads) × (w.address < c.addresses)
Fits c (Read r) = (r.thread < c.threads) × (r.address < c.addresses) × SourceFits c r.source
Fits c (Fence f) = f.thread < c.threads
Fits c (Notify n) = n.thread < c.threads
Fits c (Wait w) = w.thread < c.threads

abbrev pub AllFit : Counts → List Record → Type 0
AllFit c [] = Unit {0}
AllFit c (x ∷ xs) = Fits c x × AllFit c xs

module _ (c : Counts) where
  source_fits : (s : Source) → nameable c s ≡ true → SourceFits c s
  source_fits Initial e = tt
  source_fits (WriteOf u n) e = ltb-true u c.threads (and_parts (ltb u c.threads) (ltb 0 n) e).0

  pub fits : (x : Record) → checked c x ≡ Ok tt → Fits c x
  fits (Write w) e = let p = parts (ltb w.thread c.threads) (ltb w.address c.addresses) true e in (ltb-true w.thread c.threads p.0, ltb-true w.address c.addresses p.1)
  fits (Read r) e = let p = parts (ltb r.thread c.threads) (ltb r.address c.addresses) (nameable c r.source) e in (ltb-true r.thread c.threads p.0, ltb-true r.address c.addresses p.1, source_fits r.source p.2)
  fits (Fence f) e = ltb-true f.thread c.threads (parts (ltb f.thread c.threads) true true e).0
  fits (Notify n) e = ltb-true n.thread c.threads (parts (ltb n.thread c.threads) true true e).0
  fits (Wait w) e = ltb-true w.thread c.threads (parts (ltb w.thread c.threads) true true e).0

  pub all_fit : (xs : List Record) → AllWellMade c xs → AllFit c xs
  all_fit [] a = tt
  all_fit (x ∷ xs) a = (fits x a.0, all_fit xs a.1)

  pub thread-known : (x : Record) → Fits c x → thread_of x < c.threads
  thread-known (Write w) f = f.0
  thread-known (Read r) f = f.0
  thread-known (Fence g) f = f
  thread-known (Notify n) f = f
  thread-known (Wait w) f = f

  module _ (τ τ' α α' : ℕ → ℕ) (Rτ : Renaming c.threads τ τ') (Rα : Renaming c.addresses α α') where
    renamed-thread : (t : ℕ) → ltb t c.threads ≡ true → ltb (τ t) c.threads ≡ true
    renamed-thread t e = lt-ltb (τ t) c.threads (Rτ.there_below t (ltb-true t c.threads e))

    renamed-address : (a : ℕ) → ltb a c.addresses ≡ true → ltb (α a) c.addresses ≡ true
    renamed-address a e = lt-ltb (α a) c.addresses (Rα.there_below a (ltb-true a c.addresses e))

    renamed-source : (s : Source) → nameable c s ≡ true → nameable c (source_renamed τ s) ≡ true
    renamed-source Initial e = refl
    renamed-source (WriteOf u n) e = let p = and_parts (ltb u c.threads) (ltb 0 n) e in λ i. renamed-thread u p.0 i && p.1 i

    pub still-well-made : (x : Record) → checked c x ≡ Ok tt → checked c (renamed τ α x) ≡ Ok tt
    still-well-made (Write w) e = let p = parts (ltb w.thread c.threads) (ltb w.address c.addresses) true e in λ i. tested (renamed-thread w.thread p.0 i) (renamed-address w.address p.1 i) true
    still-well-made (Read r) e = let p = parts (ltb r.thread c.threads) (ltb r.address c.addresses) (nameable c r.source) e in λ i. tested (renamed-thread r.thread p.0 i) (renamed-address r.address p.1 i) (renamed-source r.source p.2 i)
    still-well-made (Fence f) e = λ i. tested (renamed-thread f.thread (parts (ltb f.thread c.threads) true true e).0 i) true true
    still-well-made (Notify n) e = λ i. tested (renamed-thread n.thread (parts (ltb n.thread c.threads) true true e).0 i) true true
    still-well-made (Wait w) e = λ i. tested (renamed-thread w.thread (parts (ltb w.thread c.threads) true true e).0 i) true true

    pub all-still-well-made : (xs : List Record) → AllWellMade c xs → AllWellMade c (map (renamed τ α) xs)
    all-still-well-made [] a = tt
    all-still-well-made (x ∷ xs) a = (still-well-made x a.0, all-still-well-made xs a.1)
