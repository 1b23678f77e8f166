-- Rows against how often each thread is named.
use Rattle.std.proofs.Common.{◌≡◌, ℕ, ◌&&◌, eqb, List, [], ◌∷◌, length, refl, ap, arith}
use Rattle.std.specs.List.{list_all, zip}
use Rattle.bundle.specs.declared.layout.Row.{Row}
use Rattle.bundle.specs.Arrivals.{rows_tally}

-- a test of each row beside its number is the tally's
pub rows-zipped : (rows : List Row) (ns : List ℕ) → length ns ≡ length rows → list_all (λ (p : Row × ℕ). eqb p.0.count p.1) (zip rows ns) ≡ rows_tally rows ns
rows-zipped [] ns e = refl
rows-zipped (row ∷ rows) [] e = absurd (let z : ⊥ = omega arith in z)
rows-zipped (row ∷ rows) (n ∷ ns) e = ap (λ b. eqb row.count n && b) (rows-zipped rows ns (omega arith))
