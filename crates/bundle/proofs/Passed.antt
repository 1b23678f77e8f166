-- What a header has that passed its tests.
use Rattle.std.proofs.Common.{◌≡◌, ℕ, zero, suc, ◌+◌, ◌*◌, ◌≤◌, Bool, true, false, cond, ◌||◌, eqb, ltb, List, [], ◌∷◌, length, Some, None, Ok, Err, Option, Result, sym, refl, ap, ◌∙◌, subst, arith}
use Rattle.std.proofs.lemmas.Bool.{and_parts, or_parts, eqb-true, ltb-false, false≢true}
use Rattle.record.specs.declared.kinds.Counts.{Counts}
use Rattle.feed.specs.declared.refusals.Refusal.{Refusal}
use Rattle.feed.specs.declared.refusals.Refusal.TheVariants.{ShortHeader, RecordCount, BrokenLayout}
use Rattle.feed.specs.Meaning.{CountsInRange}
use Rattle.trace_file.specs.Opening.{counts_tested}
use Rattle.trace_file.proofs.Tested.{never, peel, inner, CountsPassed, counts-passed}
use Rattle.bundle.specs.declared.layout.Row.{Row}
use Rattle.bundle.specs.declared.layout.BundleHeader.{BundleHeader}
use Rattle.bundle.specs.declared.testing.Contents.{Contents}
use Rattle.bundle.specs.Layout.{header_of, rows_of}
use Rattle.bundle.specs.Contents.{any_above, row_stands, logs_end, ends_with, layout_tested, header_tested, contents_under, contents_of, row_at, Within}

-- Logs one behind the other ------------------------------------------------------------------------------------------

-- every log ends at the last one's end or before
pub record Before (end at : ℕ) (rows : List Row) : Type 0 where
  pub from : at ≤ end
  pub each : (k : ℕ) → (row_at rows k).offset + 12 * (row_at rows k).count ≤ end

none-some : {A : Type 0} (x : A) → ◌≡◌ {A = Option A} None (Some x) → ⊥
none-some x e = let z : ◌≡◌ {A = ℕ} 0 1 = cc in omega arith

row_ends : (named : Bool) (at end : ℕ) (row : Row) → row_stands named at row ≡ true → at + 12 * row.count ≤ end → row.offset + 12 * row.count ≤ end
row_ends true at end row e h = let o : row.offset ≡ at = eqb-true _ _ e in omega arith
row_ends false at end row e h =
    let p = and_parts (eqb row.offset 0) (eqb row.count 0) e in
    let o : row.offset ≡ 0 = eqb-true _ _ p.0 in
    let n : row.count ≡ 0 = eqb-true _ _ p.1 in
    omega arith

each_row : (end : ℕ) (row : Row) (rows : List Row) → row.offset + 12 * row.count ≤ end → ((k : ℕ) → (row_at rows k).offset + 12 * (row_at rows k).count ≤ end) → (k : ℕ) → (row_at (row ∷ rows) k).offset + 12 * (row_at (row ∷ rows) k).count ≤ end
each_row end row rows h hs zero = h
each_row end row rows h hs (suc k) = hs k

pub logs-before : (threads t at end : ℕ) (rows : List Row) → logs_end threads t at rows ≡ Some end → Before end at rows
logs-before threads t at end [] e = let s : at ≡ end = cc in record { from = omega arith; each = λ k. omega arith }
logs-before threads t at end (row ∷ rows) e = on (logs-before threads (t + 1) (at + 12 * row.count) end rows) (row_stands (ltb t threads) at row) refl e where
  on : (logs_end threads (t + 1) (at + 12 * row.count) rows ≡ Some end → Before end (at + 12 * row.count) rows) → (b : Bool) → row_stands (ltb t threads) at row ≡ b → cond b (logs_end threads (t + 1) (at + 12 * row.count) rows) None ≡ Some end → Before end at (row ∷ rows)
  on next false s q = absurd (none-some end q)
  on next true s q =
      let f = (next q).from in
      record { from = omega arith; each = each_row end row rows (row_ends (ltb t threads) at end row s f) (next q).each }

none_above : (most : ℕ) (rows : List Row) → any_above most rows ≡ false → (t : ℕ) → (row_at rows t).count ≤ most
none_above most [] e t = omega arith
none_above most (row ∷ rows) e zero = ltb-false most row.count (or_parts (ltb most row.count) (any_above most rows) e).0
none_above most (row ∷ rows) e (suc t) = none_above most rows (or_parts (ltb most row.count) (any_above most rows) e).1 t

-- The whole header ---------------------------------------------------------------------------------------------------

pub record HeaderPassed (len : ℕ) (h : BundleHeader) (c : Counts) : Type 0 where
  pub counts : CountsPassed h.threads h.addresses c
  pub few_arrivals : h.count ≤ 4096
  pub few_records : (t : ℕ) → (row_at h.rows t).count ≤ 4096
  pub end : ℕ
  pub logs : logs_end h.threads 0 76 h.rows ≡ Some end
  pub length_is : len ≡ end + h.count

unpeel : {R E : Type 0} (b : Bool) (x : E) (y r : R) → cond b (Ok y) (Err x) ≡ Ok r → (b ≡ true) × (y ≡ r)
unpeel true x y r e = (refl, inner y r e)
unpeel false x y r e = absurd (never x r e)

ends-passed : (len : ℕ) (h : BundleHeader) (c : Counts) → CountsPassed h.threads h.addresses c → h.count ≤ 4096 → ((t : ℕ) → (row_at h.rows t).count ≤ 4096) → (o : Option ℕ) → logs_end h.threads 0 76 h.rows ≡ o → ends_with h len o ≡ true → HeaderPassed len h c
ends-passed len h c p f n None l e = absurd (false≢true e)
ends-passed len h c p f n (Some end) l e =
    let b = and_parts (eqb h.arrivals end) (eqb len (end + h.count)) e in
    record { counts = p; few_arrivals = f; few_records = n; end = end; logs = l; length_is = eqb-true _ _ b.1 }

layout-passed : (len : ℕ) (h : BundleHeader) (c : Counts) (r : Result Counts Refusal) → counts_tested h.threads h.addresses ≡ r → layout_tested len h r ≡ Ok c → HeaderPassed len h c
layout-passed len h c (Err x) d e = absurd (never x c e)
layout-passed len h c (Ok k) d e =
    let p = peel (ltb 4096 h.count || any_above 4096 h.rows) RecordCount _ c e in
    let q = unpeel (ends_with h len (logs_end h.threads 0 76 h.rows)) BrokenLayout k c p.1 in
    let few = or_parts (ltb 4096 h.count) (any_above 4096 h.rows) p.0 in
    ends-passed len h c (counts-passed h.threads h.addresses c (d ∙ ap (λ x. Ok x) q.1)) (ltb-false 4096 h.count few.0) (none_above 4096 h.rows few.1) (logs_end h.threads 0 76 h.rows) refl q.0

pub header-passed : (len : ℕ) (h : BundleHeader) (c : Counts) → header_tested len h ≡ Ok c → HeaderPassed len h c
header-passed len h c e = layout-passed len h c (counts_tested h.threads h.addresses) refl e

pub within : (len : ℕ) (h : BundleHeader) (c : Counts) → Ok c ≡ header_tested len h → Within len (record { counts = c; count = h.count; rows = h.rows })
within len h c e =
    let p = header-passed len h c (sym e) in
    let l = p.length_is in
    let b = logs-before h.threads 0 76 p.end h.rows p.logs in
    record {
      in_range = subst CountsInRange p.counts.same p.counts.in_range;
      few_arrivals = p.few_arrivals;
      few_records = p.few_records;
      arrivals_within = omega arith;
      logs_within = λ k. let r = b.each k in omega arith;
    }

-- what the contents of a bundle are
pub record ContentsRead (bs : List ℕ) (k : Contents) : Type 0 where
  pub rows_are : k.rows ≡ rows_of bs
  pub count_is : k.count ≡ (header_of bs).count
  pub fits : Within (length bs) k

contents-on : (bs : List ℕ) (k : Contents) (r : Result Counts Refusal) → header_tested (length bs) (header_of bs) ≡ r → contents_under (header_of bs) r ≡ Ok k → ContentsRead bs k
contents-on bs k (Err x) d e = absurd (never x k e)
contents-on bs k (Ok c) d e =
    let s : record { counts = c; count = (header_of bs).count; rows = rows_of bs } ≡ k = inner _ k e in
    subst (ContentsRead bs) s (record { rows_are = refl; count_is = refl; fits = within (length bs) (header_of bs) c (sym d) })

pub contents-read : (bs : List ℕ) (k : Contents) → contents_of bs ≡ Ok k → ContentsRead bs k
contents-read bs k e =
    let p = peel (ltb (length bs) 76) ShortHeader (contents_under (header_of bs) (header_tested (length bs) (header_of bs))) k e in
    contents-on bs k (header_tested (length bs) (header_of bs)) refl p.1
