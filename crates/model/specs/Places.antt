-- Lists of records, and places in them: the plain words that the rules are written in.
use Rattle.std.specs.Prelude.{ℕ, zero, suc, ◌-◌, Bool, true, false, cond, ◌&&◌, ◌||◌, List, [], ◌∷◌, ◌++◌, Some, None, Option, ◌==◌}
use Rattle.record.specs.declared.kinds.Record.{Record}

-- f of the record at place k of the list, counted from 0, and d where there is none
abbrev pub at_place : {A : Type 0} → A → (Record → A) → List Record → ℕ → A
at_place d f [] k = d
at_place d f (x ∷ xs) zero = f x
at_place d f (x ∷ xs) (suc k) = at_place d f xs k

-- there is a record at place k, and it is such
abbrev pub is_at : (Record → Bool) → List Record → ℕ → Bool
is_at p xs k = at_place false p xs k

-- some number below n is such
abbrev pub any_below : ℕ → (ℕ → Bool) → Bool
any_below zero p = false
any_below (suc n) p = p n || any_below n p

-- some number of the list is such
abbrev pub any_of : List ℕ → (ℕ → Bool) → Bool
any_of [] p = false
any_of (k ∷ ks) p = p k || any_of ks p

-- how many records of the list are such
abbrev pub how_many : (Record → Bool) → List Record → ℕ
how_many p [] = 0
how_many p (x ∷ xs) = cond (p x) (suc (how_many p xs)) (how_many p xs)

-- a place, if there is one, seen from one record further in front
abbrev pub one_further : Option ℕ → Option ℕ
one_further (Some k) = Some (suc k)
one_further None = None

-- the place of the n-th such record of the list, n counted from 1, if there is one
abbrev pub place_of : (Record → Bool) → ℕ → List Record → Option ℕ
place_of p n [] = None
place_of p n (x ∷ xs) = cond (p x && n == 1) (Some 0) (one_further (place_of p (cond (p x) (n - 1) n) xs))

-- there is no such place
abbrev pub missing : Option ℕ → Bool
missing None = true
missing (Some k) = false

-- there is such a place, and the rest holds of it
abbrev pub stands_where : Option ℕ → (ℕ → Bool) → Bool
stands_where None f = false
stands_where (Some k) f = f k

-- the such records of a list that has the newest first, now the oldest first
abbrev pub oldest_first : (Record → Bool) → List Record → List Record
oldest_first p [] = []
oldest_first p (x ∷ h) = oldest_first p h ++ cond (p x) (x ∷ []) []
