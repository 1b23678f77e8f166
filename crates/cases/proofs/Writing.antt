-- The records of a case, written into a buffer one after the other and judged.
use Rattle.std.proofs.Common.{◌≡◌, ℕ, ◌+◌, ◌*◌, ◌<◌, ◌≤◌, List, ◌∷◌, length, get_or, take, drop, Err, sym, ap, ◌∙◌, subst, add-one, arith, drop-cons}
use Rattle.std.proofs.lemmas.List.{drop_all}
use Rattle.record.specs.declared.kinds.Counts.{Counts}
use Rattle.record.specs.declared.kinds.Record.{Record}
use Rattle.feed.specs.declared.refusals.Refusal.{Refusal}
use Rattle.trace_file.specs.Writing.{begun, appends}
use Rattle.trace_file.specs.Laws.{all_appended, AllGranted, ReadAgain}
use Rattle.trace_file.proofs.Written.{written-is-read}
use Rattle.judging.specs.Lines.{meaning_line, line_of}
use Rattle.cases.specs.Judged.{Fitting, case_line}

module _ (bs : List ℕ) (xs : List Record) (i : ℕ) (d : Record) (l : i < length xs) where
  next : drop i xs ≡ get_or xs i d ∷ drop (i + 1) xs
  next = drop-cons xs i d l ∙ ap (λ k. get_or xs i d ∷ drop k xs) (sym (add-one i))

  -- none is refused
  pub granted : (r : Refusal) → Err r ≡ appends bs (get_or xs i d) → AllGranted bs (drop i xs) → ⊥
  granted r e g =
      let ok = (subst (AllGranted bs) next g).0 in
      let z : ◌≡◌ {A = ℕ} 0 1 = cc in omega arith

-- all are appended
pub finished : (bs end : List ℕ) (xs : List Record) (i : ℕ) → length xs ≤ i → all_appended bs (drop i xs) ≡ end → bs ≡ end
finished bs end xs i l e = sym (ap (all_appended bs) (drop_all i xs l)) ∙ e

-- Judged --------------------------------------------------------------------------------------------------------------

-- so many threads over two addresses
abbrev pub counts : ℕ → Counts
counts threads = record { threads = threads; addresses = 2 }

-- what is written of such records is read again
pub read_again : (threads : ℕ) (xs : List Record) (buf : List ℕ) → Fitting threads xs → length buf ≡ 208 → ReadAgain (counts threads) xs buf
read_again threads xs buf f l = let k = f.few in written-is-read (counts threads) f.in_range xs (omega arith) f.well_made f.storable buf (omega arith)

pub line-is : (threads : ℕ) (xs : List Record) (buf bs : List ℕ) → ReadAgain (counts threads) xs buf → bs ≡ all_appended (begun buf (counts threads)) xs → (n : ℕ) → n ≡ 16 + 12 * length xs → line_of (take n bs) ≡ case_line threads xs
line-is threads xs buf bs w e n q = (λ i. line_of (take (q i) (e i))) ∙ ap meaning_line w.opens
