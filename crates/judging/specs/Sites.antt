-- What a judge's outcome tells of the bottom of the pile that it was opened on, whatever relays the records came through.
use Rattle.std.specs.Prelude.{◌≡◌, ℕ, ◌<◌, min, reverse, length, Some, Option}
use Rattle.record.specs.declared.causes.Damage.{Damage}
use Rattle.record.specs.Ending.{clean, damaged}
use Rattle.model.specs.declared.reasons.Reason.{Reason}
use Rattle.model.specs.declared.outcomes.Outcome.{Outcome}
use Rattle.model.specs.declared.outcomes.Outcome.TheVariants.{Compliant, Damaged}
use Rattle.model.specs.Laws.{by_axioms}
use Rattle.model.specs.Lawful.{verdict_at, unlawful, unlawful_of}
use Rattle.model.specs.Tells.{AllLawful, StopsAt}
use Rattle.feed.specs.Pile.{Pile, bottom_of, bottoms_records, delivered, relays, thread_at_bottom}

-- how many threads the bottom has
abbrev pub bottoms_threads : Pile → ℕ
bottoms_threads p = (bottom_of p).counts.threads

-- every record of the bottom is lawful there
abbrev pub BottomLawful : Pile → Type 0
BottomLawful p = AllLawful by_axioms (bottoms_threads p) (reverse (bottoms_records p))

-- the bottom's damage, come through every relay of the pile
abbrev pub damage_above : Pile → Damage → Damage
damage_above p d = record { cause = d.cause; place = d.place; depth = min 255 (relays p) }

-- The outcome that stands, if one was told, where so many records were asked for: one by each step, and by each run as many as its budget.
pub record TellsBottom (p : Pile) (asked : ℕ) (told : Option Outcome) : Type 0 where
  -- once more were asked for than the bottom has, an outcome stands
  pub settles : length (bottoms_records p) < asked → (o : Outcome) × (told ≡ Some o)
  -- it is "compliant" exactly if the bottom ends clean and all its records are lawful there
  pub compliant : told ≡ Some Compliant → ((bottom_of p).ending ≡ clean) × BottomLawful p
  pub only_compliant : (o : Outcome) → told ≡ Some o → (bottom_of p).ending ≡ clean → BottomLawful p → o ≡ Compliant
  -- "unlawful" names, with renamings undone, a record of the bottom that is unlawful there for the reported reason
  pub names_unlawful : (t i : ℕ) (k : Reason) → told ≡ Some (unlawful_of t i k) → verdict_at by_axioms (bottoms_threads p) (thread_at_bottom p t) i (reverse (bottoms_records p)) ≡ unlawful k
  -- and every record delivered before it is, undone alike, lawful there
  pub names_first : (t i : ℕ) (k : Reason) → told ≡ Some (unlawful_of t i k) → StopsAt by_axioms (bottoms_threads p) (thread_at_bottom p) (bottoms_records p) (delivered p).waiting t i
  -- it is "damaged" exactly if the bottom ends damaged and all its records are lawful there; cause and place are the bottom's, and depth is the number of relays, at most 255
  pub damage : (d : Damage) → told ≡ Some (Damaged d) → BottomLawful p × ((e : Damage) × ((bottom_of p).ending ≡ damaged e) × (d ≡ damage_above p e))
  pub only_damage : (o : Outcome) (e : Damage) → told ≡ Some o → (bottom_of p).ending ≡ damaged e → BottomLawful p → o ≡ Damaged (damage_above p e)
