-- Numbers of two and four bytes.
use Rattle.std.proofs.Common.{◌≡◌, ℕ, ◌+◌, ◌*◌, ◌/◌, ◌%◌, ◌^◌, ◌<◌, arith}
use native.Mathlib.Nat.{div-div-eq-div-mul}
use Rattle.record.specs.Layout.{two, four}

pub two-joined : (n : ℕ) → n < 2 ^ 16 → two (n / 256 % 256) (n % 256) ≡ n
two-joined n h = omega arith

linear : (n q1 q2 q3 r0 r1 r2 r3 : ℕ) → n ≡ q1 * 256 + r0 → q1 ≡ q2 * 256 + r1 → q2 ≡ q3 * 256 + r2 → r3 ≡ q3 → r3 * 16777216 + r2 * 65536 + r1 * 256 + r0 ≡ n
linear n q1 q2 q3 r0 r1 r2 r3 a b c d = omega arith

pub four-joined : (n : ℕ) → n < 2 ^ 32 → four (n / 16777216 % 256) (n / 65536 % 256) (n / 256 % 256) (n % 256) ≡ n
four-joined n h =
    let e1 = div-div-eq-div-mul n 256 256 in
    let e2 = div-div-eq-div-mul n 65536 256 in
    let b : n / 256 ≡ n / 65536 * 256 + n / 256 % 256 = omega arith in
    let c : n / 65536 ≡ n / 16777216 * 256 + n / 65536 % 256 = omega arith in
    let d : n / 16777216 % 256 ≡ n / 16777216 = omega arith in
    let a : n ≡ n / 256 * 256 + n % 256 = omega arith in
    linear n (n / 256) (n / 65536) (n / 16777216) (n % 256) (n / 256 % 256) (n / 65536 % 256) (n / 16777216 % 256) a b c d

pub two-high : (a b : ℕ) → a < 256 → b < 256 → two a b / 256 % 256 ≡ a
two-high a b h k = omega arith

pub two-low : (a b : ℕ) → a < 256 → b < 256 → two a b % 256 ≡ b
two-low a b h k = omega arith

pub four-0 : (a b c d : ℕ) → a < 256 → b < 256 → c < 256 → d < 256 → four a b c d / 16777216 % 256 ≡ a
four-0 a b c d h k l m = omega arith

pub four-1 : (a b c d : ℕ) → a < 256 → b < 256 → c < 256 → d < 256 → four a b c d / 65536 % 256 ≡ b
four-1 a b c d h k l m = omega arith

pub four-2 : (a b c d : ℕ) → a < 256 → b < 256 → c < 256 → d < 256 → four a b c d / 256 % 256 ≡ c
four-2 a b c d h k l m = omega arith

pub four-3 : (a b c d : ℕ) → a < 256 → b < 256 → c < 256 → d < 256 → four a b c d % 256 ≡ d
four-3 a b c d h k l m = omega arith
