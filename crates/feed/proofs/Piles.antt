-- Relays and piles keep every thread's account, up to renaming.
use Rattle.std.proofs.Common.{◌≡◌, ℕ, Bool, true, false, cond, ◌&&◌, eqb, leb, List, [], ◌∷◌, map, reverse, refl, subst, eqb-true}
use mathlib.Core.List.{reverse_aux}
use Rattle.std.proofs.lemmas.Bool.{and_parts}
use Rattle.record.specs.declared.kinds.Counts.{Counts}
use Rattle.record.specs.declared.kinds.Record.{Record}
use Rattle.record.specs.WellMade.{AllWellMade}
use Rattle.model.specs.HoldBack.{held_back}
use Rattle.model.specs.Renamed.{Renaming, renamed}
use Rattle.model.specs.Tells.{unchanged}
use Rattle.model.specs.Upto.{Upto}
use Rattle.model.proofs.HoldBack.{hold-back-rule}
use Rattle.model.proofs.Upto.{same_names, itself, upper-made, reordered, renamed_further}
use Rattle.feed.specs.Pile.{Relay, renames_threads, renames_addresses, holds_back, serves, fits, passed_on, sent_back, thread_below, through, ProperRelay, bottom, on, bottoms_records, delivered, thread_at_bottom}
use Rattle.feed.specs.Alike.{AlikeBy, RelaysKeepAccounts, PilesKeepAccounts, RelaysStayWellMade}

-- Lists from the other end --------------------------------------------------------------------------------------------

map-onto : (f : Record → Record) (xs h : List Record) → map f (reverse_aux xs h) ≡ reverse_aux (map f xs) (map f h)
map-onto f [] h = refl
map-onto f (x ∷ xs) h = map-onto f xs (x ∷ h)

made-onto : (c : Counts) (xs h : List Record) → AllWellMade c xs → AllWellMade c h → AllWellMade c (reverse_aux xs h)
made-onto c [] h f g = g
made-onto c (x ∷ xs) h f g = made-onto c xs (x ∷ h) f.1 (f.0, g)

off-front : (c : Counts) (xs h : List Record) → AllWellMade c (reverse_aux xs h) → AllWellMade c xs × AllWellMade c h
off-front c [] h f = (tt, f)
off-front c (x ∷ xs) h f = let p = off-front c xs (x ∷ h) f in ((p.1.0, p.0), p.1.1)

-- One relay -----------------------------------------------------------------------------------------------------------

module _ (c : Counts) (back : ℕ → ℕ) (b xs : List Record) (a : AlikeBy c back b xs) where
  by-renaming : (σ σ' β β' : ℕ → ℕ) → Renaming c.threads σ σ' → Renaming c.addresses β β' → AlikeBy c (λ t. back (σ' t)) b (map (renamed σ β) xs)
  by-renaming σ σ' β β' S B = record {
    there = λ t. σ (a.there t);
    address_there = λ k. β (a.address_there k);
    address_back = λ k. a.address_back (β' k);
    upto = subst (Upto c (λ t. σ (a.there t)) (λ t. back (σ' t)) (λ k. β (a.address_there k)) (λ k. a.address_back (β' k)) (reverse b)) (map-onto (renamed σ β) xs []) (renamed_further c a.there back a.address_there a.address_back (reverse b) (reverse xs) a.upto σ σ' β β' S B);
  }

  by-holding : (h d : ℕ) → AlikeBy c back b (held_back h d [] xs)
  by-holding h d = record {
    there = a.there;
    address_there = a.address_there;
    address_back = a.address_back;
    upto = reordered c a.there back a.address_there a.address_back (reverse b) (reverse xs) a.upto (reverse (held_back h d [] xs)) (hold-back-rule h d xs).alike;
  }

  served : (count n : ℕ) (there back : ℕ → ℕ) → serves count n ≡ true → Renaming count there back → Renaming n there back
  served count n there back e R = subst (λ k. Renaming k there back) (eqb-true count n (and_parts (leb 1 count && leb count 64) (eqb count n) e).1) R

  -- a relay with good settings
  in-force : (r : Relay) → ProperRelay r → fits c r ≡ true → AlikeBy c (λ t. back (sent_back r t)) b (passed_on r xs)
  in-force (renames_threads count there back') R e = by-renaming there back' unchanged unchanged (served count c.threads there back' e R) (same_names c.addresses)
  in-force (renames_addresses count there back') R e = by-renaming unchanged unchanged there back' (same_names c.threads) (served count c.addresses there back' e R)
  in-force (holds_back h d) R e = by-holding h d

  relayed : (r : Relay) → ProperRelay r → (fit : Bool) → fits c r ≡ fit → AlikeBy c (λ t. back (cond fit (sent_back r t) t)) b (cond fit (passed_on r xs) xs)
  relayed r R true e = in-force r R e
  relayed r R false e = a

pub relays-keep-accounts : RelaysKeepAccounts
relays-keep-accounts r R m back b a = relayed m.counts back b m.waiting a r R (fits m.counts r) refl

-- Piles ---------------------------------------------------------------------------------------------------------------

its_own : (c : Counts) (xs : List Record) → AllWellMade c xs → AlikeBy c unchanged xs xs
its_own c xs f = record { there = unchanged; address_there = unchanged; address_back = unchanged; upto = itself c (reverse xs) (made-onto c xs [] f tt) }

pub piles-keep-accounts : PilesKeepAccounts
piles-keep-accounts (bottom m) w = its_own m.counts m.waiting w.0.all_well_made
piles-keep-accounts (on r p) w = relays-keep-accounts r w.0 (delivered p) (thread_at_bottom p) (bottoms_records p) (piles-keep-accounts p w.1)

pub alike-well-made : (c : Counts) (back : ℕ → ℕ) (b m : List Record) → AlikeBy c back b m → AllWellMade c m
alike-well-made c back b m a = (off-front c m [] (upper-made c a.there back a.address_there a.address_back (reverse b) (reverse m) a.upto)).0

pub relays-stay-well-made : RelaysStayWellMade
relays-stay-well-made r R m w = record {
  in_range = w.in_range;
  all_well_made = alike-well-made m.counts (λ t. thread_below m.counts r t) m.waiting (through r m).waiting (relays-keep-accounts r R m unchanged m.waiting (its_own m.counts m.waiting w.all_well_made));
}
