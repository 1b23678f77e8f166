-- Whether a thread may read a write behind a history.
use Rattle.std.specs.Prelude.{ℕ, Bool, cond, not, ◌&&◌, List, Some, None, Option, ◌==◌, nat_lt}
use Rattle.record.specs.declared.kinds.Record.{Record}
use Rattle.model.specs.Places.{at_place, place_of}
use Rattle.model.specs.Events.{is_write, address_of, acts_of, observed, overwritten, written_behind}
use Rattle.model.specs.Laws.{first_edition, by_axioms}

-- r's own write has no later one of r's to its address behind it; another thread's is not overwritten for r
abbrev pub may_read_at : List Record → ℕ → ℕ → Option ℕ → Option Bool
may_read_at h r u None = None
may_read_at h r u (Some k) =
    Some (not (cond (u == r) (written_behind (acts_of u h) k (at_place 0 address_of (acts_of u h) k)) (overwritten first_edition (acts_of u h) (observed by_axioms r u h) k)))

-- whether r may now read u's write numbered n from 1; none where there is no such thread or write
abbrev pub may_read : ℕ → List Record → ℕ → ℕ → ℕ → Option Bool
may_read T h r u n = cond (nat_lt r T && nat_lt u T) (may_read_at h r u (place_of is_write n (acts_of u h))) None
