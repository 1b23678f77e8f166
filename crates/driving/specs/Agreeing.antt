-- Two sites come to the same.
use Rattle.std.specs.Prelude.{◌≡◌, ℕ, Bool, true, false, ◌&&◌, Some, ◌==◌}
use Rattle.record.specs.Numbers.{cause_number}
use Rattle.model.specs.declared.outcomes.Outcome.{Outcome}
use Rattle.model.specs.declared.outcomes.Outcome.TheVariants.{Compliant, Unlawful, Damaged}
use Rattle.feed.specs.Pile.{Pile, bottom_of}
use Rattle.judging.specs.Sites.{TellsBottom}

-- The two outcomes are of one kind, and if damaged, of one cause and place. Two that are unlawful may name different records.
abbrev pub agreeing : Outcome → Outcome → Bool
agreeing Compliant Compliant = true
agreeing Compliant (Unlawful u) = false
agreeing Compliant (Damaged d) = false
agreeing (Unlawful u) Compliant = false
agreeing (Unlawful u) (Unlawful v) = true
agreeing (Unlawful u) (Damaged d) = false
agreeing (Damaged c) Compliant = false
agreeing (Damaged c) (Unlawful u) = false
agreeing (Damaged c) (Damaged d) = cause_number c.cause == cause_number d.cause && c.place == d.place

-- two outcomes that each tell of the bottom of a pile agree, where the bottoms are the same
abbrev pub SitesAgree : Type 0
SitesAgree = (p q : Pile) → bottom_of p ≡ bottom_of q → (n k : ℕ) (a b : Outcome) → TellsBottom p n (Some a) → TellsBottom q k (Some b) → agreeing a b ≡ true
