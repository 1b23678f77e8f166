-- What the book answers to a question.
use Rattle.std.proofs.Common.{◌≡◌, ℕ, ◌<◌, Bool, true, false, cond, not, ◌&&◌, eqb, ltb, List, is_some, Some, None, Option, refl, ap, ◌∙◌, ltb-true, le-leb}
use Rattle.std.proofs.lemmas.Bool.{and_parts}
use Rattle.record.specs.declared.kinds.Record.{Record}
use Rattle.model.specs.declared.reasons.Reason.TheVariants.{OwnLaterWrite, Overwritten}
use Rattle.model.specs.Places.{at_place, place_of}
use Rattle.model.specs.Events.{is_write, address_of, count_of, acts_of, observed, overwritten, written_behind}
use Rattle.model.specs.Laws.{first_edition as E, by_axioms}
use Rattle.book.specs.declared.pages.Page.{Page}
use Rattle.book.specs.declared.book.Book.{Book}
use Rattle.book.specs.Pages.{page_at, write_of}
use Rattle.book.specs.Said.{stale, answered_by, asked}
use Rattle.book.specs.Kept.{Kept}
use Rattle.book.specs.MayRead.{may_read_at, may_read}
use Rattle.book.proofs.Numbers.{Numbered, place-numbered}
use Rattle.book.proofs.Saying.{written_there, write-is, stale-is}

neither : (c w o : Bool) → not (is_some (cond (c && w) (Some OwnLaterWrite) (cond (not c && o) (Some Overwritten) None))) ≡ not (cond c w o)
neither true true o = refl
neither true false o = refl
neither false w true = refl
neither false w false = refl

module _ (T : ℕ) (b : Book) (h : List Record) (kept : Kept T b h) (r u n : ℕ) where
  abbrev ps : List Page
  ps = b.pages

  abbrev xs : List Record
  xs = acts_of u h

  by_place : r < T → u < T → (o : Option ℕ) → Numbered is_write n xs o → write_of (page_at ps u) n ≡ written_there xs o → answered_by (stale ps r u n) (written_there xs o) ≡ may_read_at h r u o
  by_place lr lu None z e = refl
  by_place lr lu (Some k) z e =
      ap (λ o. Some (not (is_some o))) (stale-is T b h kept r u n k lr lu z.0 z.1 e (at_place 0 address_of xs k) refl)
      ∙ ap Some (neither (eqb u r) (written_behind xs k (at_place 0 address_of xs k)) (overwritten E xs (observed by_axioms r u h) k))

  pub asked_is : asked T ps r u n ≡ may_read T h r u n
  asked_is =
      ap (λ (c : Bool). cond (c && ltb r T && ltb u T) (answered_by (stale ps r u n) (write_of (page_at ps u) n)) None) (le-leb T 8 kept.threads)
      ∙ go (ltb r T && ltb u T) refl
    where
      go : (c : Bool) → (ltb r T && ltb u T) ≡ c → cond c (answered_by (stale ps r u n) (write_of (page_at ps u) n)) None ≡ cond c (may_read_at h r u (place_of is_write n xs)) None
      go true d =
          let p = and_parts (ltb r T) (ltb u T) d in
          let lu = ltb-true u T p.1 in
          let e = write-is (page_at ps u) (count_of u h) xs (kept.pages u lu).own n in
          ap (answered_by (stale ps r u n)) e ∙ by_place (ltb-true r T p.0) lu (place_of is_write n xs) (place-numbered is_write n xs) e
      go false d = refl
