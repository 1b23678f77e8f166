-- What is held stays well made with one record more.
use Rattle.std.proofs.Common.{◌≡◌, true, ◌&&◌, List, [], ◌∷◌, ◌++◌, is_ok}
use Rattle.std.proofs.lemmas.Bool.{and_parts}
use Rattle.record.specs.declared.kinds.Counts.{Counts}
use Rattle.record.specs.declared.kinds.Record.{Record}
use Rattle.record.specs.WellMade.{checked}
use Rattle.hold_back.specs.Holding.{all_checked}

pub checked-more : (c : Counts) (xs : List Record) (x : Record) → all_checked c xs ≡ true → is_ok (checked c x) ≡ true → all_checked c (xs ++ (x ∷ [])) ≡ true
checked-more c [] x e f = λ i. f i && true
checked-more c (y ∷ xs) x e f = let p = and_parts (is_ok (checked c y)) (all_checked c xs) e in λ i. p.0 i && checked-more c xs x p.1 f i
