-- Arrays that a closure fills or maps which each call leaves as it is.
use Rattle.std.proofs.Common.{◌≡◌, ℕ, zero, suc, ◌+◌, ◌<◌, List, [], ◌∷◌, map, length, get_or, sym, refl, ap, ◌∙◌, subst, arith}
use Rattle.std.specs.Array.{IsFromFnResultFrom, MapsFrom}
use Rattle.std.specs.Fn.{Called}
use denote.Param.Members.{Mut}

pub from_fn-at : {F B : Type 0} (g : Mut F (ℕ × Unit {0}) B) (f : F) (h : ℕ → B) → ((i : ℕ) (y : B) (q : F) → Called g f (i, tt) y q → (y ≡ h i) × (q ≡ f)) → (ys : List B) (i n : ℕ) → IsFromFnResultFrom g f ys i n → (k j : ℕ) → k < n → i + k ≡ j → (d : B) → get_or ys j d ≡ h j
from_fn-at g f h s ys i zero w k j l e d = absurd (let z : ⊥ = omega arith in z)
from_fn-at g f h s ys i (suc n) w zero j l e d =
    let first : j ≡ i = omega arith in
    ap (λ m. get_or ys m d) first ∙ (w.2.1 d ∙ ((s i w.1 w.0 w.3).0 ∙ ap h (sym first)))
from_fn-at g f h s ys i (suc n) w (suc k) j l e d =
    from_fn-at g f h s ys (i + 1) n (subst (λ q. IsFromFnResultFrom g q ys (i + 1) n) (s i w.1 w.0 w.3).1 w.4) k j (omega arith) (omega arith) d

pub map-at : {F A B C : Type 0} (g : Mut F (A × Unit {0}) B) (f : F) (v : B → C) (h : A → C) → ((x : A) (y : B) (q : F) → Called g f (x, tt) y q → (v y ≡ h x) × (q ≡ f)) → (xs : List A) (ys : List B) (i n : ℕ) → MapsFrom g f xs ys i n → (k j : ℕ) → k < n → i + k ≡ j → (d : A) (e : B) → v (get_or ys j e) ≡ h (get_or xs j d)
map-at g f v h s xs ys i zero w k j l eq d e = absurd (let z : ⊥ = omega arith in z)
map-at g f v h s xs ys i (suc n) w zero j l eq d e =
    let first : j ≡ i = omega arith in
    ap (λ m. v (get_or ys m e)) first ∙ (ap v (w.4.1 e) ∙ ((s w.1 w.2 w.0 w.5).0 ∙ (ap h (sym (w.3.1 d)) ∙ ap (λ m. h (get_or xs m d)) (sym first))))
map-at g f v h s xs ys i (suc n) w (suc k) j l eq d e =
    map-at g f v h s xs ys (i + 1) n (subst (λ q. MapsFrom g q xs ys (i + 1) n) (s w.1 w.2 w.0 w.5).1 w.6) k j (omega arith) (omega arith) d e

pub maps-alike : {A B C : Type 0} (v : B → C) (h : A → C) (xs : List A) (ys : List B) → length xs ≡ length ys → (d : A) (e : B) → ((k : ℕ) → k < length xs → v (get_or ys k e) ≡ h (get_or xs k d)) → map v ys ≡ map h xs
maps-alike v h [] [] l d e w = refl
maps-alike v h [] (y ∷ ys) l d e w = absurd (let z : ⊥ = omega arith in z)
maps-alike v h (x ∷ xs) [] l d e w = absurd (let z : ⊥ = omega arith in z)
maps-alike v h (x ∷ xs) (y ∷ ys) l d e w = λ i. w 0 (omega arith) i ∷ maps-alike v h xs ys (omega arith) d e (λ k b. w (suc k) (omega arith)) i
