-- Rotations of the numbers below a count.
use Rattle.std.specs.Prelude.{◌≡◌, ℕ, ◌+◌, ◌-◌, ◌*◌, ◌/◌, ◌%◌, ◌<◌, cond, nat_lt}
use Rattle.std.proofs.Common.{ap, ◌∙◌, arith, mod-lt, mod-eq_of_lt, mul-add}
use Rattle.std.proofs.Math.Nat.{mod-add-mod, mod-add-div, add-mul-mod_self_left}
use Rattle.std.proofs.lemmas.Bool.{lt-ltb, cond-true}
use Rattle.model.specs.Renamed.{Renaming}

-- a number below the count, turned round by so many places; any other stays
abbrev pub rotated : ℕ → ℕ → ℕ → ℕ
rotated count by n = cond (nat_lt n count) ((n + by) % count) n

rotated-in : (c k n : ℕ) → n < c → rotated c k n ≡ (n + k) % c
rotated-in c k n h = cond-true (nat_lt n c) ((n + k) % c) n (lt-ltb n c h)

rotated-below : (c k n : ℕ) → 0 < c → n < c → rotated c k n < c
rotated-below c k n some h = let e = rotated-in c k n h in let m = mod-lt (n + k) some in omega arith

-- turned by k and by l, which make up whole rounds
whole-round : (c k l q n : ℕ) → 0 < c → n < c → k + l ≡ c * q → rotated c l (rotated c k n) ≡ n
whole-round c k l q n some h e =
    let first = rotated-in c k n h in
    let inside = rotated-below c k n some h in
    let sum : n + k + l ≡ n + c * q = omega arith in
    rotated-in c l (rotated c k n) inside
    ∙ (ap (λ m. (m + l) % c) first
    ∙ (mod-add-mod (n + k) c l
    ∙ (ap (λ m. m % c) sum
    ∙ (add-mul-mod_self_left n c q ∙ mod-eq_of_lt h))))

-- a turn back makes up whole rounds with the turn there
made_up : (c k : ℕ) → 0 < c → k + (c - k % c) ≡ c * (k / c + 1)
made_up c k some = let r = mod-lt k some in let e = mod-add-div k c in let m = mul-add c (k / c) 1 in omega arith

-- a rotation is a renaming
pub rotation_laws : (c k : ℕ) → 0 < c → Renaming c (rotated c k) (rotated c (c - k % c))
rotation_laws c k some =
    let whole = made_up c k some in
    let turned : c - k % c + k ≡ c * (k / c + 1) = omega arith in
    record {
      there_below = λ n h. rotated-below c k n some h;
      back_below = λ n h. rotated-below c (c - k % c) n some h;
      back_there = λ n h. whole-round c k (c - k % c) (k / c + 1) n some h whole;
      there_back = λ n h. whole-round c (c - k % c) k (k / c + 1) n some h turned;
    }
