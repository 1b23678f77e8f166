-- The edition and the rule of observing that traces are judged by.
use Rattle.std.specs.Prelude.{ℕ, Bool, true, false, List, ◌∷◌, Some, None, Option, refl}
use Rattle.record.specs.declared.kinds.Mode.TheVariants.{Relaxed, Strict}
use Rattle.model.specs.Events.{Kind, a_write, a_read, a_fence, a_notify, a_wait, Edition, Each, IfThere, Rule, Law}

-- strict are strict writes, strict reads, fences and the fence of each notify; a wait is none
abbrev pub strict_kind : Kind → Bool
strict_kind (a_write Relaxed) = false
strict_kind (a_write Strict) = true
strict_kind (a_read Relaxed) = false
strict_kind (a_read Strict) = true
strict_kind a_fence = true
strict_kind a_notify = true
strict_kind a_wait = false

abbrev pub first_edition : Edition
first_edition = record { strictly = strict_kind; notifies = refl }

-- what was there, and one more if there is one
abbrev pub with_named : List ℕ → Option ℕ → List ℕ
with_named seen None = seen
with_named seen (Some e) = e ∷ seen

pub with-named-from : (seen : List ℕ) (o : Option ℕ) (q : ℕ → Bool) → Each q seen → IfThere q o → Each q (with_named seen o)
with-named-from seen None q a b = a
with-named-from seen (Some e) q a b = (b, a)

-- a reader has observed every event that a record of its own named
abbrev pub axioms : Rule
axioms = record { keeps = λ p seen k o. with_named seen o; from = λ p seen k o q a b. with-named-from seen o q a b; asks = λ n p q seen k o a b h. refl }

abbrev pub by_axioms : Law
by_axioms = record { edition = first_edition; rule = axioms }
