-- How many numbers a renaming is of.
use Rattle.std.specs.Prelude.{ℕ, Bool, ◌&&◌, nat_le}

-- 1 to 64
abbrev pub allowed : ℕ → Bool
allowed count = nat_le 1 count && nat_le count 64
