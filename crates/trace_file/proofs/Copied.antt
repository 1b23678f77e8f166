-- A clean trace file, written again, is the same bytes.
use Rattle.std.proofs.Common.{◌≡◌, ℕ, ◌≤◌, false, cond, ltb, List, ◌++◌, length, drop, Ok, Err, sym, refl, ap, ◌∙◌, subst, arith, eqb-true}
use Rattle.std.proofs.lemmas.Bool.Decides.{nat_tests}
use Rattle.record.specs.declared.kinds.Counts.{Counts}
use Rattle.record.specs.Ending.{Ending, clean, damaged}
use Rattle.record.specs.RoundTrip.{AllBytes}
use Rattle.feed.specs.declared.refusals.Refusal.TheVariants.{ShortHeader, NoRoom}
use Rattle.feed.specs.Meaning.{Meaning, WellMade}
use Rattle.trace_file.specs.declared.faults.Uncopied.TheVariants.{Refused}
use Rattle.trace_file.specs.Layout.{trace_length, header_of}
use Rattle.trace_file.specs.Opening.{opened}
use Rattle.trace_file.specs.Writing.{begun}
use Rattle.trace_file.specs.Laws.{AllGranted, all_appended}
use Rattle.trace_file.specs.Copying.{ended_clean, copy_tested, copies_under, copies, copied}
use Rattle.trace_file.proofs.Tested.{never, inner}
use Rattle.trace_file.proofs.Canonical.{length-trace, granted-from-begun, appended-to-begun}
use Rattle.trace_file.proofs.Clean.{opened-bytes, clean-is-its-trace}

ended : (e : Ending) (u : Unit {0}) → Ok u ≡ ended_clean e → e ≡ clean
ended clean u q = refl
ended (damaged d) u q = absurd (never d u (sym q))

-- two openings of the same bytes mean the same
same-meaning : (src : List ℕ) (m n : Meaning) → opened src ≡ Ok m → opened src ≡ Ok n → m ≡ n
same-meaning src m n e f = inner m n (sym e ∙ f)

-- what is known of a source that opens, ends clean and has room in the target
pub record CleanSource (src tgt : List ℕ) (m : Meaning) : Type 0 where
  pub bytes : AllBytes src
  pub meant : opened src ≡ Ok m
  pub undamaged : m.ending ≡ clean
  pub sound : WellMade m
  pub header_room : 16 ≤ length tgt
  pub room : length src ≤ length tgt

-- the first opening was read through and ended clean, and the second means the same
pub clean-source : (src tgt : List ℕ) (m n : Meaning) → AllBytes src → opened src ≡ Ok m → (u : Unit {0}) → Ok u ≡ ended_clean m.ending → opened src ≡ Ok n → WellMade n → 16 ≤ length tgt → length src ≤ length tgt → CleanSource src tgt n
clean-source src tgt m n b e u q f w h r =
    record { bytes = b; meant = f; undamaged = ap (λ k. k.ending) (sym (same-meaning src m n e f)) ∙ ended m.ending u q; sound = w; header_room = h; room = r }

its-length : (src tgt : List ℕ) (m : Meaning) → CleanSource src tgt m → length src ≡ trace_length (length m.waiting)
its-length src tgt m s = ap length (clean-is-its-trace src s.bytes m s.meant s.undamaged) ∙ length-trace m.counts m.waiting

few : (src tgt : List ℕ) (m : Meaning) → CleanSource src tgt m → length m.waiting ≤ 4096
few src tgt m s =
    let o = opened-bytes src m s.meant in
    let n = o.passed.few in
    let l = o.passed.length_is in
    let w : (header_of src).«length» ≡ length src = eqb-true _ _ o.passed.fitted in
    let k = its-length src tgt m s in
    omega arith

pub copy-granted : (src tgt : List ℕ) (m : Meaning) (c : Counts) (now : List ℕ) → CleanSource src tgt m → c ≡ m.counts → now ≡ begun tgt c → AllGranted now m.waiting
copy-granted src tgt m c now s e q =
    let k = its-length src tgt m s in
    let r = s.room in
    subst (λ b. AllGranted b m.waiting) (sym (q ∙ ap (begun tgt) e))
    (granted-from-begun m.counts m.waiting tgt s.sound.in_range (few src tgt m s) s.sound.all_well_made (omega arith))

pub copy-bytes : (src tgt : List ℕ) (m : Meaning) (c : Counts) (now : List ℕ) → CleanSource src tgt m → c ≡ m.counts → now ≡ begun tgt c → all_appended now m.waiting ≡ copied src tgt
copy-bytes src tgt m c now s e q =
    ap (λ b. all_appended b m.waiting) (q ∙ ap (begun tgt) e)
    ∙ (appended-to-begun m.counts m.waiting tgt s.sound.in_range (few src tgt m s)
    ∙ (λ i. sym (clean-is-its-trace src s.bytes m s.meant s.undamaged) i ++ drop (sym (its-length src tgt m s) i) tgt))

pub copy-answer : (src tgt : List ℕ) (m : Meaning) → CleanSource src tgt m → Ok (length src) ≡ copies src (length tgt)
copy-answer src tgt m s =
    let h = s.header_room in
    let r = s.room in
    let a : ltb (length tgt) 16 ≡ false = grind (arith, nat_tests) in
    let b : ltb (length tgt) (length src) ≡ false = grind (arith, nat_tests) in
    sym
    (ap (copies_under (length src) (length tgt)) s.meant
    ∙ (ap (copy_tested (length src) (length tgt)) s.undamaged
    ∙ (ap (λ t. cond t (Err (Refused ShortHeader)) (cond (ltb (length tgt) (length src)) (Err (Refused NoRoom)) (Ok (length src)))) a
    ∙ ap (λ t. cond t (Err (Refused NoRoom)) (Ok (length src))) b)))
