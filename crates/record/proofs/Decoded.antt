-- What is read as a record is written as the same bytes, and is well made.
use Rattle.std.proofs.Common.{◌≡◌, ℕ, Bool, true, false, cond, not, ◌&&◌, ◌||◌, eqb, ltb, leb, ◌⊎◌, List, [], ◌∷◌, length, get_or, Ok, Err, Option, Result, sym, refl, ap, ◌∙◌, subst, ⊎_elim, arith}
use Rattle.std.proofs.lemmas.List.FromFn.{fill_by_all}
use Rattle.std.proofs.lemmas.Bool.{cases_eq}
use Rattle.std.proofs.lemmas.Bool.Decides.{nat_tests}
use Rattle.record.specs.declared.kinds.Counts.{Counts}
use Rattle.record.specs.declared.kinds.Source.TheVariants.{Initial, Write as WriteOf}
use Rattle.record.specs.declared.kinds.Record.{Record}
use Rattle.record.specs.declared.kinds.Record.TheVariants.{Read}
use Rattle.record.specs.declared.causes.Cause.TheVariants.{UnknownKind, WrongThread, UnknownAddress, UnknownMode, UnknownSource, UnusedNotZero}
use Rattle.record.specs.declared.layout.Fields.{Fields}
use Rattle.record.specs.Numbers.{mode_number}
use Rattle.record.specs.Layout.{fields_of, fields_for, bytes_for}
use Rattle.record.specs.Reading.{wrong_thread, access, source_named, unused_zero, mode_of, source_of, record_of, fields_read}
use Rattle.record.specs.RoundTrip.{AllBytes, DecodedIsEncoded, DecodedIsWellMade}
use Rattle.record.specs.WellMade.{checked}
use Rattle.record.proofs.Numerals.{two-high, two-low, four-0, four-1, four-2, four-3}

spelled : (bs : List ℕ) → length bs ≡ 12 → bs ≡ get_or bs 0 0 ∷ get_or bs 1 0 ∷ get_or bs 2 0 ∷ get_or bs 3 0 ∷ get_or bs 4 0 ∷ get_or bs 5 0 ∷ get_or bs 6 0 ∷ get_or bs 7 0 ∷ get_or bs 8 0 ∷ get_or bs 9 0 ∷ get_or bs 10 0 ∷ get_or bs 11 0 ∷ []
spelled bs e = fill_by_all (λ k. get_or bs k 0) bs 12 0 e (λ k h. refl)

joined-split : (bs : List ℕ) → length bs ≡ 12 → AllBytes bs → bytes_for (fields_of bs) ≡ bs
joined-split bs e h =
    let h2 = h 2 in
    let h3 = h 3 in
    let h6 = h 6 in
    let h7 = h 7 in
    let h8 = h 8 in
    let h9 = h 9 in
    let ha = h 10 in
    let hb = h 11 in
    rw (
      two-high (get_or bs 2 0) (get_or bs 3 0) h2 h3,
      two-low (get_or bs 2 0) (get_or bs 3 0) h2 h3,
      two-high (get_or bs 6 0) (get_or bs 7 0) h6 h7,
      two-low (get_or bs 6 0) (get_or bs 7 0) h6 h7,
      four-0 (get_or bs 8 0) (get_or bs 9 0) (get_or bs 10 0) (get_or bs 11 0) h8 h9 ha hb,
      four-1 (get_or bs 8 0) (get_or bs 9 0) (get_or bs 10 0) (get_or bs 11 0) h8 h9 ha hb,
      four-2 (get_or bs 8 0) (get_or bs 9 0) (get_or bs 10 0) (get_or bs 11 0) h8 h9 ha hb,
      four-3 (get_or bs 8 0) (get_or bs 9 0) (get_or bs 10 0) (get_or bs 11 0) h8 h9 ha hb,
    ) (sym (spelled bs e))

peel : {R E : Type 0} (b : Bool) (x : E) (rest : Result R E) (r : R) → cond b (Err x) rest ≡ Ok r → (b ≡ false) × (rest ≡ Ok r)
peel true x rest r e = let z : ◌≡◌ {A = ℕ} 0 1 = cc in absurd (let f : ⊥ = omega arith in f)
peel false x rest r e = (refl, e)

inner : {R E : Type 0} (x y : R) → ◌≡◌ {A = Result R E} (Ok x) (Ok y) → x ≡ y
inner x y e = cc

five : (k : ℕ) → (eqb k 0 || ltb 5 k) ≡ false → (k ≡ 1) ⊎ ((k ≡ 2) ⊎ ((k ≡ 3) ⊎ ((k ≡ 4) ⊎ (k ≡ 5))))
five k e = grind (arith, nat_tests)

abbrev F : (k t a w m n v : ℕ) → Fields
F k t a w m n v = record { kind = k; thread = t; address = a; writer = w; mode = m; number = n; value = v }

-- what no cause leaves of the fields of a kind
pub record Passed (c : Counts) (log : Option ℕ) (f : Fields) : Type 0 where
  pub kind_known : (eqb f.kind 0 || ltb 5 f.kind) ≡ false
  pub thread_right : wrong_thread c log f.thread ≡ false
  pub address_is_known : (access f && leb c.addresses f.address) ≡ false
  pub mode_known : (access f && ltb 1 f.mode) ≡ false
  pub source_is_known : (eqb f.kind 2 && not (source_named c f)) ≡ false
  pub unused_is_zero : not (unused_zero f) ≡ false

pub passed : (c : Counts) (log : Option ℕ) (f : Fields) (x : Record) → fields_read c log f ≡ Ok x → Passed c log f × (record_of f ≡ x)
passed c log f x e =
    let p1 = peel (eqb f.kind 0 || ltb 5 f.kind) UnknownKind _ x e in
    let p2 = peel (wrong_thread c log f.thread) WrongThread _ x p1.1 in
    let p3 = peel (access f && leb c.addresses f.address) UnknownAddress _ x p2.1 in
    let p4 = peel (access f && ltb 1 f.mode) UnknownMode _ x p3.1 in
    let p5 = peel (eqb f.kind 2 && not (source_named c f)) UnknownSource _ x p4.1 in
    let p6 = peel (not (unused_zero f)) UnusedNotZero (Ok (record_of f)) x p5.1 in
    (record { kind_known = p1.0; thread_right = p2.0; address_is_known = p3.0; mode_known = p4.0; source_is_known = p5.0; unused_is_zero = p6.0 }, inner (record_of f) x p6.1)

abbrev Same : (c : Counts) (k t a w m n v : ℕ) → Type 0
Same c k t a w m n v = (access (F k t a w m n v) && ltb 1 m) ≡ false → (eqb k 2 && not (source_named c (F k t a w m n v))) ≡ false → not (unused_zero (F k t a w m n v)) ≡ false → fields_for (record_of (F k t a w m n v)) ≡ F k t a w m n v

number-mode : (m : ℕ) → ltb 1 m ≡ false → mode_number (mode_of m) ≡ m
number-mode m h = grind (arith, nat_tests)

same-1 : (c : Counts) (t a w m n v : ℕ) → Same c 1 t a w m n v
same-1 c t a w m n v x y z =
    let e : w ≡ 0 = grind (arith, nat_tests) in let e' : n ≡ 0 = grind (arith, nat_tests) in let d = number-mode m x in cc

same-2 : (c : Counts) (t a w m n v : ℕ) → Same c 2 t a w m n v
same-2 c t a w m n v x y z =
    let d = number-mode m x in
    ⊎_elim (λ (e : w ≡ 255). let n0 : n ≡ 0 = grind (arith, nat_tests) in let s : source_of w n ≡ Initial = grind (arith, nat_tests) in
    (ap (λ s. fields_for (Read (record { thread = t; address = a; source = s; mode = mode_of m; value = v }))) s) ∙ (let q : F 2 t a 255 (mode_number (mode_of m)) 0 v ≡ F 2 t a w m n v = cc in q))
    (λ (e : w ≡ 255 → ⊥). let s : source_of w n ≡ WriteOf w n = grind (arith, nat_tests) in
    (ap (λ s. fields_for (Read (record { thread = t; address = a; source = s; mode = mode_of m; value = v }))) s) ∙ (let q : F 2 t a w (mode_number (mode_of m)) n v ≡ F 2 t a w m n v = cc in q))
    (cases_eq w 255)

same-3 : (c : Counts) (t a w m n v : ℕ) → Same c 3 t a w m n v
same-3 c t a w m n v x y z =
    let e : a ≡ 0 = grind (arith, nat_tests) in let e1 : w ≡ 0 = grind (arith, nat_tests) in let e2 : m ≡ 0 = grind (arith, nat_tests) in let e3 : n ≡ 0 = grind (arith, nat_tests) in let e4 : v ≡ 0 = grind (arith, nat_tests) in cc

same-4 : (c : Counts) (t a w m n v : ℕ) → Same c 4 t a w m n v
same-4 c t a w m n v x y z =
    let e : a ≡ 0 = grind (arith, nat_tests) in let e1 : w ≡ 0 = grind (arith, nat_tests) in let e2 : m ≡ 0 = grind (arith, nat_tests) in let e3 : n ≡ 0 = grind (arith, nat_tests) in cc

same-5 : (c : Counts) (t a w m n v : ℕ) → Same c 5 t a w m n v
same-5 c t a w m n v x y z =
    let e : a ≡ 0 = grind (arith, nat_tests) in let e1 : w ≡ 0 = grind (arith, nat_tests) in let e2 : m ≡ 0 = grind (arith, nat_tests) in let e3 : n ≡ 0 = grind (arith, nat_tests) in cc

-- what holds at each of the five kinds
by_kind : (P : ℕ → Type 0) → P 1 → P 2 → P 3 → P 4 → P 5 → (k : ℕ) → (eqb k 0 || ltb 5 k) ≡ false → P k
by_kind P p1 p2 p3 p4 p5 k h =
    ⊎_elim (λ e. subst P (sym e) p1)
    (⊎_elim (λ e. subst P (sym e) p2)
    (⊎_elim (λ e. subst P (sym e) p3)
    (⊎_elim (λ e. subst P (sym e) p4)
    (λ e. subst P (sym e) p5)))) (five k h)

fields-same : (c : Counts) (log : Option ℕ) (f : Fields) (x : Record) → fields_read c log f ≡ Ok x → fields_for x ≡ f
fields-same c log f x e =
    let p = passed c log f x e in
    let t = f.thread in
    let a = f.address in
    let w = f.writer in
    let m = f.mode in
    let n = f.number in
    let v = f.value in
    sym (ap fields_for p.1)
    ∙ by_kind (λ k. Same c k t a w m n v) (same-1 c t a w m n v) (same-2 c t a w m n v) (same-3 c t a w m n v) (same-4 c t a w m n v) (same-5 c t a w m n v) f.kind p.0.kind_known p.0.mode_known p.0.source_is_known p.0.unused_is_zero

pub decoded-is-encoded : DecodedIsEncoded
decoded-is-encoded c log bs e h x d = ap bytes_for (fields-same c log (fields_of bs) x d) ∙ joined-split bs e h

abbrev Made : (c : Counts) (log : Option ℕ) (k t a w m n v : ℕ) → Type 0
Made c log k t a w m n v =
    wrong_thread c log t ≡ false → (access (F k t a w m n v) && leb c.addresses a) ≡ false → (eqb k 2 && not (source_named c (F k t a w m n v))) ≡ false → checked c (record_of (F k t a w m n v)) ≡ Ok tt

made-1 : (c : Counts) (log : Option ℕ) (t a w m n v : ℕ) → Made c log 1 t a w m n v
made-1 c log t a w m n v x y z = grind (arith, nat_tests)

made-2 : (c : Counts) (log : Option ℕ) (t a w m n v : ℕ) → Made c log 2 t a w m n v
made-2 c log t a w m n v x y z = grind (arith, nat_tests)

made-3 : (c : Counts) (log : Option ℕ) (t a w m n v : ℕ) → Made c log 3 t a w m n v
made-3 c log t a w m n v x y z = grind (arith, nat_tests)

made-4 : (c : Counts) (log : Option ℕ) (t a w m n v : ℕ) → Made c log 4 t a w m n v
made-4 c log t a w m n v x y z = grind (arith, nat_tests)

made-5 : (c : Counts) (log : Option ℕ) (t a w m n v : ℕ) → Made c log 5 t a w m n v
made-5 c log t a w m n v x y z = grind (arith, nat_tests)

pub decoded-is-well-made : DecodedIsWellMade
decoded-is-well-made c log bs x e =
    let f = fields_of bs in
    let p = passed c log f x e in
    let t = f.thread in
    let a = f.address in
    let w = f.writer in
    let m = f.mode in
    let n = f.number in
    let v = f.value in
    sym (ap (checked c) p.1)
    ∙ by_kind (λ k. Made c log k t a w m n v) (made-1 c log t a w m n v) (made-2 c log t a w m n v) (made-3 c log t a w m n v) (made-4 c log t a w m n v) (made-5 c log t a w m n v) f.kind p.0.kind_known p.0.thread_right p.0.address_is_known p.0.source_is_known
