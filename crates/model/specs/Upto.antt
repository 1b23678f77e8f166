-- Two lists that are alike up to renaming. The lists b, m and n here are whole lists, the newest first.
use Rattle.std.specs.Prelude.{◌≡◌, ℕ, ◌<◌, List, map, reverse, length}
use Rattle.record.specs.WellMade.{AllWellMade}
use Rattle.record.specs.declared.kinds.Counts.{Counts}
use Rattle.record.specs.declared.kinds.Record.{Record}
use Rattle.record.specs.Ending.{Ending}
use Rattle.model.specs.Events.{count_of, Law}
use Rattle.model.specs.Lawful.{verdict_at}
use Rattle.model.specs.Merge.{Alike}
use Rattle.model.specs.Renamed.{Renaming, renamed}
use Rattle.model.specs.Tells.{unchanged, Told}

-- m is b with its threads and addresses under other names, in an order in which every thread gives the same account:
-- τ and α lead from b to m, τ' and α' back.
pub record Upto (c : Counts) (τ τ' α α' : ℕ → ℕ) (b m : List Record) : Type 0 where
  pub threads : Renaming c.threads τ τ'
  pub addresses : Renaming c.addresses α α'
  pub well_made : AllWellMade c b
  pub alike : Alike (map (renamed τ α) b) m

pub record UptoRules : Type 0 where
  -- of a list and itself
  pub itself : (c : Counts) (b : List Record) → AllWellMade c b → Upto c unchanged unchanged unchanged unchanged b b
  pub backwards : (c : Counts) (τ τ' α α' : ℕ → ℕ) (b m : List Record) → Upto c τ τ' α α' b m → Upto c τ' τ α' α m b
  pub composes : (c : Counts) (τ τ' α α' σ σ' β β' : ℕ → ℕ) (b m n : List Record) → Upto c τ τ' α α' b m → Upto c σ σ' β β' m n → Upto c (λ t. σ (τ t)) (λ t. τ' (σ' t)) (λ a. β (α a)) (λ a. α' (β' a)) b n
  -- what keeps every account of m, or renames m, leads to a list that is alike too: all that a relay owes
  pub reordered : (c : Counts) (τ τ' α α' : ℕ → ℕ) (b m n : List Record) → Upto c τ τ' α α' b m → Alike m n → Upto c τ τ' α α' b n
  pub renamed_further : (c : Counts) (τ τ' α α' σ σ' β β' : ℕ → ℕ) (b m : List Record) → Upto c τ τ' α α' b m → Renaming c.threads σ σ' → Renaming c.addresses β β' → Upto c (λ t. σ (τ t)) (λ t. τ' (σ' t)) (λ a. β (α a)) (λ a. α' (β' a)) b (map (renamed σ β) m)
  -- what m is
  pub well_made : (c : Counts) (τ τ' α α' : ℕ → ℕ) (b m : List Record) → Upto c τ τ' α α' b m → AllWellMade c m
  pub as_long : (c : Counts) (τ τ' α α' : ℕ → ℕ) (b m : List Record) → Upto c τ τ' α α' b m → length m ≡ length b
  pub counts : (c : Counts) (τ τ' α α' : ℕ → ℕ) (b m : List Record) → Upto c τ τ' α α' b m → (t : ℕ) → t < c.threads → count_of (τ t) m ≡ count_of t b
  -- records that correspond have the same verdict
  pub verdicts : (c : Counts) (τ τ' α α' : ℕ → ℕ) (b m : List Record) → Upto c τ τ' α α' b m → (L : Law) (t i : ℕ) → t < c.threads → verdict_at L c.threads (τ t) i m ≡ verdict_at L c.threads t i b
  -- the outcome of the upper list, whatever its ending, tells of the lower one
  pub tells : (c : Counts) (τ τ' α α' : ℕ → ℕ) (b m : List Record) → Upto c τ τ' α α' (reverse b) (reverse m) → (L : Law) (e : Ending) → Told L c.threads τ' b m e
