-- A trace file has at most 4,096 records.
use Rattle.std.proofs.Common.{◌≡◌, ℕ, zero, suc, ◌<◌, ◌≤◌, List, ◌∷◌, length, Ok, Err, Result, ap, arith}
use Rattle.record.specs.declared.kinds.Counts.{Counts}
use Rattle.record.specs.declared.kinds.Record.{Record}
use Rattle.record.specs.declared.causes.Cause.{Cause}
use Rattle.feed.specs.Meaning.{Meaning}
use Rattle.feed.specs.Delivery.{well_made_ones}
use Rattle.trace_file.specs.Layout.{twelves}
use Rattle.trace_file.specs.Opening.{opened, read_as}
use Rattle.trace_file.proofs.Clean.{opened-bytes}

ones-few : (r : Result Record Cause) (rs : List (Result Record Cause)) (n : ℕ) → length (well_made_ones rs) ≤ n → length (well_made_ones (r ∷ rs)) ≤ suc n
ones-few (Ok x) rs n h = omega arith
ones-few (Err k) rs n h = omega arith

read-few : (c : Counts) (n : ℕ) (bs : List ℕ) → length (well_made_ones (read_as c (twelves n bs))) ≤ n
read-few c zero bs = omega arith
read-few c (suc n) bs = ones-few _ (read_as c (twelves n _)) n (read-few c n _)

pub waiting_few : (bs : List ℕ) (m : Meaning) → opened bs ≡ Ok m → length m.waiting < 4097
waiting_few bs m e =
    let o = opened-bytes bs m e in
    let f = o.passed.few in
    let r = read-few o.counts (Rattle.trace_file.specs.Layout.header_of bs).count (lib.ListN.drop 16 bs) in
    let q = ap (λ k. length k.waiting) o.meant in
    omega arith
