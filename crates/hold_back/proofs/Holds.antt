-- What is known while a relay holds back: what comes from below can be held.
use Rattle.std.proofs.Common.{◌≡◌, ℕ, ◌≤◌, true, ◌&&◌, ltb, leb, is_ok, Some, Ok, ap, subst, ◌∙◌, leb-true}
use Rattle.std.proofs.lemmas.Bool.{and_parts}
use Rattle.record.specs.declared.kinds.Counts.{Counts}
use Rattle.record.specs.declared.kinds.Record.{Record}
use Rattle.record.specs.WellMade.{checked, AllWellMade}
use Rattle.feed.specs.Meaning.{Meaning, WellMade, Asked}
use Rattle.feed.specs.Pile.{can_hold}
use Rattle.hold_back.specs.Holding.{same_counts, holding}
use Rattle.hold_back.specs.HoldSound.{counts_same}

-- the record that was delivered is well made
pub delivered-well-made : (m n : Meaning) (x : Record) → WellMade m → Asked m (Ok (Some x)) n → checked m.counts x ≡ Ok tt
delivered-well-made m n x w a = (subst (AllWellMade m.counts) a.0 w.all_well_made).0

pub few-held : (c own : Counts) (h d : ℕ) → holding c h d own ≡ true → d ≤ 16
few-held c own h d e = leb-true d 16 (and_parts (ltb h c.threads && leb 1 d) (leb d 16) (and_parts (can_hold c.threads h d) (same_counts own c) e).0).1

pub can-be-held : (m n : Meaning) (own : Counts) (h d : ℕ) (x : Record) → holding m.counts h d own ≡ true → WellMade m → Asked m (Ok (Some x)) n → is_ok (checked own x) ≡ true
can-be-held m n own h d x e w a =
    let s : own ≡ m.counts = counts_same own m.counts (and_parts (can_hold m.counts.threads h d) (same_counts own m.counts) e).1 in
    ap (λ c. is_ok (checked c x)) s ∙ ap is_ok (delivered-well-made m n x w a)
