-- A renaming by a table: the new names of 0, 1, 2 and so on, in this order.
use Rattle.std.specs.Prelude.{◌≡◌, ℕ, suc, ◌<◌, Bool, true, false, cond, not, ◌&&◌, ◌||◌, List, [], ◌∷◌, length, Option, MatchOption, ◌==◌, nat_lt, slice_index}
use Rattle.renaming.specs.Counts.{allowed}

-- the number stands among the entries
abbrev pub stands : ℕ → List ℕ → Bool
stands n [] = false
stands n (x ∷ xs) = x == n || stands n xs

-- each entry is below the bound, and does not stand again behind itself
abbrev pub each_once_below : ℕ → List ℕ → Bool
each_once_below bound [] = true
each_once_below bound (x ∷ xs) = (nat_lt x bound && not (stands x xs)) && each_once_below bound xs

-- the entries make a table
abbrev pub is_table : List ℕ → Bool
is_table entries = allowed (length entries) && each_once_below (length entries) entries

-- the new name of a number below the count; any other stays
abbrev pub name_of : List ℕ → ℕ → ℕ
name_of entries n = cond (nat_lt n (length entries)) (slice_index entries n) n

-- the first place at which n stands, or the length where it does not
abbrev pub place_of : List ℕ → ℕ → ℕ
place_of [] n = 0
place_of (x ∷ xs) n = cond (x == n) 0 (suc (place_of xs n))

-- the number that has this new name, below the count; any other stays
abbrev pub named_by : List ℕ → ℕ → ℕ
named_by entries n = cond (nat_lt n (length entries)) (place_of entries n) n

-- the number that has this new name, or nothing where this one stays
abbrev pub IsNamed : List ℕ → ℕ → Option ℕ → Type 0
IsNamed entries n o = MatchOption o (named_by entries n ≡ n) (λ k. (named_by entries n ≡ k) × (k < length entries))
