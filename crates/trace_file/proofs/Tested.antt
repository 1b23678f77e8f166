-- What a header has that passed its tests.
use Rattle.std.proofs.Common.{◌≡◌, ℕ, ◌≤◌, min, max, Bool, true, false, cond, ◌&&◌, eqb, ltb, Ok, Err, Result, refl, ap, ◌∙◌, arith, ltb-false, eqb-true}
use Rattle.std.proofs.lemmas.Bool.Decides.{nat_tests}
use Rattle.record.specs.declared.kinds.Counts.{Counts}
use Rattle.feed.specs.declared.refusals.Refusal.{Refusal}
use Rattle.feed.specs.declared.refusals.Refusal.TheVariants.{ThreadCount, AddressCount, RecordCount, BrokenLayout}
use Rattle.feed.specs.Meaning.{CountsInRange}
use Rattle.trace_file.specs.declared.layout.Header.{Header}
use Rattle.trace_file.specs.Layout.{trace_length}
use Rattle.trace_file.specs.Opening.{outside, counts_tested, laid_out, layout_tested, header_tested, in_range}

pub never : {R E : Type 0} (x : E) (r : R) → ◌≡◌ {A = Result R E} (Err x) (Ok r) → ⊥
never x r e = let z : ◌≡◌ {A = ℕ} 0 1 = cc in omega arith

pub peel : {R E : Type 0} (b : Bool) (x : E) (rest : Result R E) (r : R) → cond b (Err x) rest ≡ Ok r → (b ≡ false) × (rest ≡ Ok r)
peel true x rest r e = absurd (never x r e)
peel false x rest r e = (refl, e)

unpeel : {R E : Type 0} (b : Bool) (x : E) (y r : R) → cond b (Ok y) (Err x) ≡ Ok r → (b ≡ true) × (y ≡ r)
unpeel true x y r e = (refl, cc)
unpeel false x y r e = absurd (never x r e)

pub inner : {R E : Type 0} (x y : R) → ◌≡◌ {A = Result R E} (Ok x) (Ok y) → x ≡ y
inner x y e = cc

inside : (most n : ℕ) → outside most n ≡ false → (1 ≤ n) × (n ≤ most)
inside most n e = (grind (arith, nat_tests), grind (arith, nat_tests))

both : (a b : Bool) → (a && b) ≡ true → (a ≡ true) × (b ≡ true)
both true b e = (refl, e)
both false b e = absurd (let z : ⊥ = grind (arith, nat_tests) in z)

-- counts that passed are those that were tested
pub record CountsPassed (threads addresses : ℕ) (c : Counts) : Type 0 where
  pub same : record { threads = threads; addresses = addresses } ≡ c
  pub in_range : CountsInRange (record { threads = threads; addresses = addresses })

pub counts-passed : (t a : ℕ) (c : Counts) → counts_tested t a ≡ Ok c → CountsPassed t a c
counts-passed t a c e =
    let p = peel (outside 8 t) ThreadCount _ c e in
    let q = peel (outside 64 a) AddressCount _ c p.1 in
    let x = inside 8 t p.0 in
    let y = inside 64 a q.0 in
    record { same = inner (record { threads = t; addresses = a }) c q.1; in_range = record { some_thread = x.0; few_threads = x.1; some_address = y.0; few_addresses = y.1 } }

-- a header that passed is that of a trace of so many records
pub record HeaderPassed (most : ℕ) (fits : Bool) (h : Header) (c : Counts) : Type 0 where
  pub counts : CountsPassed h.threads h.addresses c
  pub few : h.count ≤ most
  pub offset_is : h.offset ≡ 16
  pub length_is : h.«length» ≡ trace_length h.count
  pub fitted : fits ≡ true

layout-passed : (most : ℕ) (fits : Bool) (h : Header) (c : Counts) (r : Result Counts Refusal) → counts_tested h.threads h.addresses ≡ r → layout_tested most fits h r ≡ Ok c → HeaderPassed most fits h c
layout-passed most fits h c (Err x) d e = absurd (never x c e)
layout-passed most fits h c (Ok k) d e =
    let p = peel (ltb most h.count) RecordCount _ c e in
    let q = unpeel (laid_out h && fits) BrokenLayout k c p.1 in
    let b = both (laid_out h) fits q.0 in
    let l = both (eqb h.offset 16) (eqb h.«length» (trace_length h.count)) b.0 in
    let m : h.count ≤ most = ltb-false most h.count p.0 in
    record { counts = counts-passed h.threads h.addresses c (d ∙ ap (λ x. Ok x) q.1); few = m; offset_is = eqb-true _ _ l.0; length_is = eqb-true _ _ l.1; fitted = b.1 }

pub header-passed : (most : ℕ) (fits : Bool) (h : Header) (c : Counts) → header_tested most fits h ≡ Ok c → HeaderPassed most fits h c
header-passed most fits h c e = layout-passed most fits h c (counts_tested h.threads h.addresses) refl e

pub range_same : (c : Counts) → CountsInRange c → in_range c ≡ c
range_same c r =
    let h1 = r.some_thread in
    let h2 = r.few_threads in
    let h3 = r.some_address in
    let h4 = r.few_addresses in
    let t : max 1 (min 8 c.threads) ≡ c.threads = omega arith in
    let a : max 1 (min 64 c.addresses) ≡ c.addresses = omega arith in
    λ i. record { threads = t i; addresses = a i }
