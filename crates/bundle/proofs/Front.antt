-- A header is that of the bytes whose first 76 it was read from.
use Rattle.std.proofs.Common.{◌≡◌, ℕ, ◌+◌, ◌*◌, ◌<◌, ◌≤◌, false, cond, ltb, List, ◌∷◌, [], length, take, get_or, Ok, Err, sym, ap, ◌∙◌, arith}
use Rattle.std.proofs.lemmas.List.{get_or-take}
use Rattle.std.proofs.lemmas.Bool.Decides.{nat_tests}
use Rattle.record.specs.Layout.{two, four}
use Rattle.feed.specs.declared.refusals.Refusal.TheVariants.{ShortHeader}
use Rattle.bundle.specs.declared.layout.BundleHeader.{BundleHeader}
use Rattle.bundle.specs.Layout.{two_at, four_at, row_of, rows_of, header_of}

front : (bs : List ℕ) (k : ℕ) → k < 76 → get_or (take 76 bs) k 0 ≡ get_or bs k 0
front bs k h = get_or-take 76 bs k 0 h

two-front : (bs : List ℕ) (at : ℕ) → at + 2 ≤ 76 → two_at (take 76 bs) at ≡ two_at bs at
two-front bs at h = λ i. two (front bs at (omega arith) i) (front bs (at + 1) (omega arith) i)

four-front : (bs : List ℕ) (at : ℕ) → at + 4 ≤ 76 → four_at (take 76 bs) at ≡ four_at bs at
four-front bs at h = λ i. four (front bs at (omega arith) i) (front bs (at + 1) (omega arith) i) (front bs (at + 2) (omega arith) i) (front bs (at + 3) (omega arith) i)

row-front : (bs : List ℕ) (t : ℕ) → t < 8 → row_of (take 76 bs) t ≡ row_of bs t
row-front bs t h = λ i. record { offset = four-front bs (12 + 8 * t) (omega arith) i; count = four-front bs (16 + 8 * t) (omega arith) i }

rows-front : (bs : List ℕ) → rows_of (take 76 bs) ≡ rows_of bs
rows-front bs = λ i. row-front bs 0 (omega arith) i ∷ row-front bs 1 (omega arith) i ∷ row-front bs 2 (omega arith) i ∷ row-front bs 3 (omega arith) i ∷ row-front bs 4 (omega arith) i ∷ row-front bs 5 (omega arith) i ∷ row-front bs 6 (omega arith) i ∷ row-front bs 7 (omega arith) i ∷ []

header-front : (bs : List ℕ) → header_of (take 76 bs) ≡ header_of bs
header-front bs = λ i. record { threads = two-front bs 0 (omega arith) i; addresses = two-front bs 2 (omega arith) i; count = four-front bs 4 (omega arith) i; arrivals = four-front bs 8 (omega arith) i; rows = rows-front bs i }

pub header-read : (bs t : List ℕ) (h : BundleHeader) → 76 ≤ length bs → t ≡ take 76 bs → h ≡ header_of t → Ok h ≡ cond (ltb (length bs) 76) (Err ShortHeader) (Ok (header_of bs))
header-read bs t h long e f =
    let b : ltb (length bs) 76 ≡ false = grind (arith, nat_tests) in
    ap (λ k. Ok k) (f ∙ (ap header_of e ∙ header-front bs)) ∙ ap (λ k. cond k (Err ShortHeader) (Ok (header_of bs))) (sym b)
