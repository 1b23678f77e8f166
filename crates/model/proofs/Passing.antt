-- A record that may pass leaves every thread's account as it was.
use Rattle.std.proofs.Common.{◌≡◌, ℕ, suc, ◌-◌, Bool, true, false, cond, not, ◌&&◌, ◌||◌, eqb, List, [], ◌∷◌, ◌++◌, Some, None, Option, sym, refl, ap, ◌∙◌, append-nil, eq-eqb, ne_eqb, eqb-true}
use mathlib.Core.Bool.{false≢true}
use Rattle.record.specs.declared.kinds.Source.{Source}
use Rattle.record.specs.declared.kinds.Source.TheVariants.{Initial, Write as WriteOf}
use Rattle.record.specs.declared.kinds.Record.{Record}
use Rattle.record.specs.declared.kinds.Record.TheVariants.{Write, Read, Fence, Notify, Wait}
use Rattle.record.specs.WellMade.{thread_of}
use Rattle.model.specs.Places.{missing, how_many, place_of, one_further}
use Rattle.model.specs.Events.{is_write, is_notify, is_wait, is_act, acts_of, source_in, names}
use Rattle.model.specs.Merge.{Entry, entry_of, account, Alike}
use Rattle.model.specs.HoldBack.{is_from, reads_from, hinders}
use Rattle.model.proofs.Merge.{own, own_is, names_of, names-of}

place-skip : (p : Record → Bool) (n : ℕ) (xs : List Record) (y : Record) → p y ≡ false → place_of p n (xs ++ (y ∷ [])) ≡ place_of p n xs
place-skip p n [] y e = ap (λ (b : Bool). cond (b && eqb n 1) (Some 0) None) e
place-skip p n (x ∷ xs) y e = ap (λ (o : Option ℕ). cond (p x && eqb n 1) (Some 0) (one_further o)) (place-skip p (cond (p x) (n - 1) n) xs y e)

-- the n-th such record of u, with y behind: the same if y is no such record of u
place-pass : (p : Record → Bool) (n u : ℕ) (xs : List Record) (y : Record) → (eqb (thread_of y) u ≡ true → p y ≡ false) → place_of p n (xs ++ cond (eqb (thread_of y) u && is_act y) (y ∷ []) []) ≡ place_of p n xs
place-pass p n u xs y f = go (eqb (thread_of y) u) refl
  where
    go : (b : Bool) → eqb (thread_of y) u ≡ b → place_of p n (xs ++ cond (b && is_act y) (y ∷ []) []) ≡ place_of p n xs
    go true q = elim (is_act y) as (λ c. place_of p n (xs ++ cond c (y ∷ []) []) ≡ place_of p n xs) [ true ↦ place-skip p n xs y (f q) | false ↦ ap (place_of p n) (append-nil xs) ]
    go false q = ap (place_of p n) (append-nil xs)

under : (a b : Bool) → a ≡ true → (a && b) ≡ false → b ≡ false
under true b p q = q
under false b p q = absurd (false≢true p)

-- whether y stands before x may matter to x: x reads from y's thread and y is a write, or x is a wait and y a notify
abbrev matters : Record → Record → Bool
matters y x = reads_from (thread_of y) x && is_write y || is_wait x && is_notify y

or-known : (a b : Bool) → (a || b) ≡ false → (a ≡ false) × (b ≡ false)
or-known false b e = (refl, e)
or-known true b e = absurd (false≢true (sym e))

turn : (a b : Bool) → (a && b) ≡ false → (b && a) ≡ false
turn true true e = e
turn true false e = refl
turn false true e = refl
turn false false e = refl

-- neither matters to the other
neither : (x y : Record) → hinders y x ≡ false → (matters y x ≡ false) × (matters x y ≡ false)
neither x y e =
    let p = or-known (reads_from (thread_of y) x && is_write y || is_write x && reads_from (thread_of x) y || is_notify x && is_wait y) (is_wait x && is_notify y) e in
    let q = or-known (reads_from (thread_of y) x && is_write y || is_write x && reads_from (thread_of x) y) (is_notify x && is_wait y) p.0 in
    let r = or-known (reads_from (thread_of y) x && is_write y) (is_write x && reads_from (thread_of x) y) q.0 in
    ((λ i. r.0 i || p.1 i), (λ i. turn (is_write x) (reads_from (thread_of x) y) r.1 i || turn (is_notify x) (is_wait y) q.1 i))

source-pass : (u : ℕ) (s : Source) (y : Record) (h : List Record) → (is_from (thread_of y) s && is_write y) ≡ false → source_in u (y ∷ h) s ≡ source_in u h s
source-pass u Initial y h e = refl
source-pass u (WriteOf w n) y h e = go (eqb w u) refl
  where
    go : (b : Bool) → eqb w u ≡ b → cond b (place_of is_write n (acts_of u (y ∷ h))) None ≡ cond b (place_of is_write n (acts_of u h)) None
    go false q = refl
    go true q = place-pass is_write n u (acts_of u h) y (λ s. under (eqb w (thread_of y)) (is_write y) (eq-eqb w (thread_of y) (eqb-true w u q ∙ sym (eqb-true (thread_of y) u s))) e)

names-pass : (x y : Record) (h : List Record) → (thread_of x ≡ thread_of y → ⊥) → matters y x ≡ false → (u : ℕ) → names u (y ∷ h) x ≡ names u h x
names-pass (Write w) y h d e u = refl
names-pass (Read r) y h d e u = source-pass u r.source y h (or-known (is_from (thread_of y) r.source && is_write y) false e).0
names-pass (Fence f) y h d e u = refl
names-pass (Notify n) y h d e u = refl
names-pass (Wait w) y h d e u =
    ap (λ (xs : List Record). place_of is_notify (suc (how_many is_wait xs)) (acts_of u (y ∷ h))) (ap (λ (b : Bool). acts_of w.thread h ++ cond (b && is_act y) (y ∷ []) []) (ne_eqb (thread_of y) w.thread (λ s. d (sym s))) ∙ append-nil (acts_of w.thread h)) ∙ place-pass is_notify (suc (how_many is_wait (acts_of w.thread h))) u (acts_of u h) y (λ s. e)

entries : (x : Record) (h h' : List Record) → ((u : ℕ) → names u h x ≡ names u h' x) → entry_of h x ≡ entry_of h' x
entries x h h' f = λ i. record { what = x; stood = λ u. not (eqb u (thread_of x)) && not (missing (f u i)) }

pub swap : (x y : Record) (h : List Record) → (thread_of x ≡ thread_of y → ⊥) → hinders y x ≡ false → Alike (x ∷ y ∷ h) (y ∷ x ∷ h)
swap x y h d e t = go (eqb (thread_of x) t) (eqb (thread_of y) t) refl refl
  where
    parts : (matters y x ≡ false) × (matters x y ≡ false)
    parts = neither x y e

    go : (b c : Bool) → eqb (thread_of x) t ≡ b → eqb (thread_of y) t ≡ c → cond b (entry_of (y ∷ h) x ∷ []) [] ++ (cond c (entry_of h y ∷ []) [] ++ account t h) ≡ cond c (entry_of (x ∷ h) y ∷ []) [] ++ (cond b (entry_of h x ∷ []) [] ++ account t h)
    go true true p q = absurd (d (eqb-true (thread_of x) t p ∙ sym (eqb-true (thread_of y) t q)))
    go true false p q = ap (λ (n : Entry). n ∷ account t h) (entries x (y ∷ h) h (names-pass x y h d parts.0))
    go false true p q = ap (λ (n : Entry). n ∷ account t h) (sym (entries y (x ∷ h) h (names-pass y x h (λ s. d (sym s)) parts.1)))
    go false false p q = refl

acts-alike : (h h' : List Record) → Alike h h' → (u : ℕ) → acts_of u h ≡ acts_of u h'
acts-alike h h' a u = sym (own_is u h) ∙ ap own (a u) ∙ own_is u h'

pub alike-cons : (z : Record) (h h' : List Record) → Alike h h' → Alike (z ∷ h) (z ∷ h')
alike-cons z h h' a t =
    λ i. cond (eqb (thread_of z) t) (entries z h h' (λ u. names-of u h z ∙ (λ j. names_of u (acts-alike h h' a (thread_of z) j) (acts-alike h h' a u j) z) ∙ sym (names-of u h' z)) i ∷ []) [] ++ a t i
