-- One record appended to the trace in a buffer.
use Rattle.std.proofs.Common.{◌≡◌, ℕ, ◌+◌, ◌-◌, ◌≤◌, false, cond, ltb, List, [], ◌++◌, length, take, drop, Ok, Err, refl, ap, ◌∙◌, add_assoc, arith, take-add}
use borrow.Rule.Slice.PartMut.{put_mid}
use Rattle.std.proofs.lemmas.List.{append-nil, append_assoc, length-drop, length-take, take_all, drop-drop, drop_all}
use Rattle.std.proofs.lemmas.Bool.Decides.{nat_tests}
use Rattle.record.specs.declared.kinds.Counts.{Counts}
use Rattle.record.specs.declared.kinds.Record.{Record}
use Rattle.record.specs.Layout.{bytes_of}
use Rattle.record.specs.WellMade.{checked}
use Rattle.trace_file.specs.declared.faults.Unwritten.TheVariants.{ShortSlot}
use Rattle.trace_file.specs.Writing.{slot_tested, writable, placed}

-- what stands behind the header, as the code lends it
abbrev pub behind : List ℕ → List ℕ
behind bs = take (length bs - 16) (drop 16 bs)

pub room : (bs : List ℕ) → 16 ≤ length bs → 16 + length (behind bs) ≡ length bs
room bs h = simp (length-take, length-drop) (omega arith)

-- a record that passed its test is written into twelve bytes
pub writable_then : (c : Counts) (x : Record) (room : ℕ) → checked c x ≡ Ok tt → 12 ≤ room → writable c x room ≡ Ok tt
writable_then c x room e h = let f : ltb room 12 ≡ false = grind (arith, nat_tests) in ap (λ w. slot_tested w room) e ∙ ap (λ b. cond b (Err ShortSlot) (Ok tt)) f

-- The bytes --------------------------------------------------------------------------------------------------------

-- the rest behind the first a bytes, in the middle of which others are put
middle : (a s : ℕ) (xs ys : List ℕ) → a + s + length ys ≤ length xs
    → put_mid a (length xs - a) xs (put_mid s (length ys) (take (length xs - a) (drop a xs)) ys) ≡ placed (a + s) ys xs
middle a s xs ys h =
    let e : take (length xs - a) (drop a xs) ≡ drop a xs = take_all (length xs - a) (drop a xs) (simp length-drop (omega arith)) in
    let n : drop (length xs - a) (drop a xs) ≡ [] = drop_all (length xs - a) (drop a xs) (simp length-drop (omega arith)) in
    rw (e, n, append-nil, drop-drop (length ys) s (drop a xs), drop-drop (s + length ys) a xs, take-add a s xs, append_assoc, add_assoc) refl

-- a slot of twelve bytes within the list
pub slot-long : (l : List ℕ) (s : ℕ) → s + 12 ≤ length l → 12 ≤ length (take (s + 12 - s) (drop s l))
slot-long l s h = simp (length-take, length-drop) (omega arith)

-- a record written into the slot of one more, in the whole buffer
pub whole : (bs sl : List ℕ) (x : Record) (s : ℕ) → 16 ≤ length bs → s + 12 ≤ length (behind bs) → sl ≡ bytes_of x ++ drop 12 (take (s + 12 - s) (drop s (behind bs)))
    → put_mid 16 (length bs - 16) bs (put_mid s (s + 12 - s) (behind bs) sl) ≡ placed (16 + s) (bytes_of x) bs
whole bs sl x s long h e =
    let k : s + 12 - s ≡ 12 = omega arith in
    let r = room bs long in
    let none : drop 12 (take (s + 12 - s) (drop s (behind bs))) ≡ [] = drop_all 12 (take (s + 12 - s) (drop s (behind bs))) (simp (length-take, length-drop) (omega arith)) in
    let same : sl ≡ bytes_of x = e ∙ (ap (λ l. bytes_of x ++ l) none ∙ append-nil (bytes_of x)) in
    ap (λ l. put_mid 16 (length bs - 16) bs (put_mid s (s + 12 - s) (behind bs) l)) same
    ∙ (ap (λ j. put_mid 16 (length bs - 16) bs (put_mid s j (behind bs) (bytes_of x))) k ∙ middle 16 s bs (bytes_of x) (omega arith))
