-- Bytes taken twelve at a time.
use Rattle.std.proofs.Common.{◌≡◌, ℕ, suc, ◌+◌, ◌/◌, ◌<◌, ◌≤◌, Bool, true, false, cond, ltb, List, ◌∷◌, length, take, drop, Some, None, refl, ap, arith, length-drop, ltb-false, ltb-true}
use Rattle.trace_file.specs.Layout.{twelves, slot_at}

pub twelves-more : (bs : List ℕ) → 12 ≤ length bs → twelves (length bs / 12) bs ≡ take 12 bs ∷ twelves (length (drop 12 bs) / 12) (drop 12 bs)
twelves-more bs h =
    let l = length-drop 12 bs in
    let e : length bs / 12 ≡ suc (length (drop 12 bs) / 12) = omega arith in
    ap (λ n. twelves n bs) e

slot_cases : (bs : List ℕ) (at : ℕ) (t : List ℕ) (b : Bool) → ltb (length bs) (at + 12) ≡ b → Some t ≡ cond b None (Some (take 12 (drop at bs))) → (at + 12 ≤ length bs) × (t ≡ take 12 (drop at bs))
slot_cases bs at t true e q = let z : ◌≡◌ {A = ℕ} 0 1 = cc in absurd (let f : ⊥ = omega arith in f)
slot_cases bs at t false e q = (ltb-false (length bs) (at + 12) e, cc)

pub slot-told : (bs : List ℕ) (at : ℕ) (t : List ℕ) → Some t ≡ slot_at bs at → (at + 12 ≤ length bs) × (t ≡ take 12 (drop at bs))
slot-told bs at t q = slot_cases bs at t (ltb (length bs) (at + 12)) refl q

none-cases : (bs : List ℕ) (at : ℕ) (b : Bool) → ltb (length bs) (at + 12) ≡ b → None ≡ cond b None (Some (take 12 (drop at bs))) → length bs < at + 12
none-cases bs at true e q = ltb-true (length bs) (at + 12) e
none-cases bs at false e q = let z : ◌≡◌ {A = ℕ} 0 1 = cc in absurd (let f : ⊥ = omega arith in f)

pub slot-none : (bs : List ℕ) (at : ℕ) → None ≡ slot_at bs at → length bs < at + 12
slot-none bs at q = none-cases bs at (ltb (length bs) (at + 12)) refl q
