-- A table is a renaming: its entries are distinct and below its length, so each number below it stands there once.
use Rattle.std.specs.Prelude.{◌≡◌, ℕ, zero, suc, ◌<◌, ◌≤◌, true, false, cond, not, ◌&&◌, ◌||◌, List, [], ◌∷◌, length, take, ◌==◌, ◌≢◌, nat_lt, slice_index, refl}
use Rattle.std.proofs.Common.{sym, ap, subst, ◌∙◌, ⊎_elim, arith}
use Rattle.std.proofs.lemmas.List.{length-take-le}
use Rattle.std.proofs.lemmas.Bool.{and_parts, or_parts, or_left, or_right, not-true, cases_eq, cases_Bool, both_ways, ltb-true, lt-ltb, eqb-false, eq-eqb, ne_eqb, cond-true, cond-false}
use Rattle.model.specs.Renamed.{Renaming}
use Rattle.renaming.specs.Counts.{allowed}
use Rattle.renaming.specs.Tables.{stands, each_once_below, is_table, name_of, place_of, named_by}

-- what the test says of each entry
Fresh : ℕ → List ℕ → Type 0
Fresh c [] = Unit {0}
Fresh c (x ∷ xs) = (x < c) × (stands x xs ≡ false) × Fresh c xs

fresh : (c : ℕ) (xs : List ℕ) → each_once_below c xs ≡ true → Fresh c xs
unfolding Fresh
fresh c [] e = tt
fresh c (x ∷ xs) e =
    let p = and_parts (nat_lt x c && not (stands x xs)) (each_once_below c xs) e in
    let q = and_parts (nat_lt x c) (not (stands x xs)) p.0 in
    (ltb-true x c q.0, not-true (stands x xs) q.1, fresh c xs p.1)

-- Each number below the count stands in the table ---------------------------------------------------------------------

-- the entries but for n
without : ℕ → List ℕ → List ℕ
without n [] = []
without n (x ∷ xs) = cond (x == n) (without n xs) (x ∷ without n xs)

without-hit : (n x : ℕ) (xs : List ℕ) → x ≡ n → without n (x ∷ xs) ≡ without n xs
unfolding without
without-hit n x xs e = cond-true (x == n) (without n xs) (x ∷ without n xs) (eq-eqb x n e)

without-miss : (n x : ℕ) (xs : List ℕ) → (x ≢ n) → without n (x ∷ xs) ≡ x ∷ without n xs
unfolding without
without-miss n x xs e = cond-false (x == n) (without n xs) (x ∷ without n xs) (ne_eqb x n e)

stands-without : (n m : ℕ) (xs : List ℕ) → stands m xs ≡ false → stands m (without n xs) ≡ false
unfolding without
stands-without n m [] e = refl
stands-without n m (x ∷ xs) e =
    let p = or_parts (x == m) (stands m xs) e in
    let rest = stands-without n m xs p.1 in
    ⊎_elim (λ (q : x ≡ n). ap (stands m) (without-hit n x xs q) ∙ rest)
    (λ (q : x ≡ n → ⊥). ap (stands m) (without-miss n x xs q) ∙ (ap (λ b. b || stands m (without n xs)) p.0 ∙ rest)) (cases_eq x n)

without-none : (n : ℕ) (xs : List ℕ) → stands n xs ≡ false → without n xs ≡ xs
unfolding without
without-none n [] e = refl
without-none n (x ∷ xs) e =
    let p = or_parts (x == n) (stands n xs) e in
    without-miss n x xs (eqb-false x n p.0) ∙ ap (λ l. x ∷ l) (without-none n xs p.1)

fresh-without : (c : ℕ) (xs : List ℕ) → Fresh (suc c) xs → Fresh c (without c xs)
unfolding Fresh without
fresh-without c [] f = tt
fresh-without c (x ∷ xs) f =
    let rest = fresh-without c xs f.2 in
    let below = f.0 in
    ⊎_elim (λ (q : x ≡ c). subst (Fresh c) (sym (without-hit c x xs q)) rest)
    (λ (q : x ≡ c → ⊥). subst (Fresh c) (sym (without-miss c x xs q)) (omega arith, stands-without c x xs f.1, rest)) (cases_eq x c)

length_without : (c : ℕ) (xs : List ℕ) → Fresh (suc c) xs → length xs ≤ suc (length (without c xs))
unfolding Fresh
length_without c [] f = omega arith
length_without c (x ∷ xs) f =
    ⊎_elim (λ (q : x ≡ c).
    let none = without-none c xs (ap (λ m. stands m xs) (sym q) ∙ f.1) in
    let e = ap length (without-hit c x xs q ∙ none) in omega arith)
    (λ (q : x ≡ c → ⊥). let e = ap length (without-miss c x xs q) in let rest = length_without c xs f.2 in omega arith) (cases_eq x c)

-- no more than c distinct numbers are below c
few : (c : ℕ) (xs : List ℕ) → Fresh c xs → length xs ≤ c
unfolding Fresh
few zero [] f = omega arith
few zero (x ∷ xs) f = let below = f.0 in absurd (let no : ⊥ = omega arith in no)
few (suc c) xs f = let rest = few c (without c xs) (fresh-without c xs f) in let l = length_without c xs f in omega arith

all-stand : (xs : List ℕ) → Fresh (length xs) xs → (n : ℕ) → n < length xs → stands n xs ≡ true
unfolding Fresh
all-stand xs f n h =
    ⊎_elim (λ (e : stands n xs ≡ true). e)
    (λ (e : stands n xs ≡ false). let l = few (length xs) (n ∷ xs) (h, e, f) in absurd (let no : ⊥ = omega arith in no)) (cases_Bool (stands n xs))

-- Places ----------------------------------------------------------------------------------------------------------------

pub place-hit : (n x : ℕ) (xs : List ℕ) → x ≡ n → place_of (x ∷ xs) n ≡ 0
place-hit n x xs e = cond-true (x == n) 0 (suc (place_of xs n)) (eq-eqb x n e)

pub place-miss : (n x : ℕ) (xs : List ℕ) → (x ≢ n) → place_of (x ∷ xs) n ≡ suc (place_of xs n)
place-miss n x xs e = cond-false (x == n) 0 (suc (place_of xs n)) (ne_eqb x n e)

-- a number stands at its place
pub at_its_place : (xs : List ℕ) (n : ℕ) → stands n xs ≡ true → (place_of xs n < length xs) × (slice_index xs (place_of xs n) ≡ n)
at_its_place [] n e = absurd (both_ways false refl e)
at_its_place (x ∷ xs) n e =
    ⊎_elim (λ (q : x ≡ n). let p = place-hit n x xs q in (omega arith, ap (λ k. slice_index (x ∷ xs) k) p ∙ q))
    (λ (q : x ≡ n → ⊥).
    let p = place-miss n x xs q in
    let rest = at_its_place xs n (ap (λ b. b || stands n xs) (sym (ne_eqb x n q)) ∙ e) in
    (omega arith, ap (λ k. slice_index (x ∷ xs) k) p ∙ rest.1)) (cases_eq x n)

pub stands_at : (xs : List ℕ) (k : ℕ) → k < length xs → stands (slice_index xs k) xs ≡ true
stands_at [] k h = absurd (let no : ⊥ = omega arith in no)
stands_at (x ∷ xs) zero h = or_left (x == x) (stands x xs) (eq-eqb x x refl)
stands_at (x ∷ xs) (suc k) h = or_right (x == slice_index xs k) (stands (slice_index xs k) xs) (stands_at xs k (omega arith))

-- each place is that of its number
its-own-place : (c : ℕ) (xs : List ℕ) → Fresh c xs → (k : ℕ) → k < length xs → place_of xs (slice_index xs k) ≡ k
unfolding Fresh
its-own-place c [] f k h = absurd (let no : ⊥ = omega arith in no)
its-own-place c (x ∷ xs) f zero h = place-hit x x xs refl
its-own-place c (x ∷ xs) f (suc k) h =
    let inside : k < length xs = omega arith in
    let other : x ≡ slice_index xs k → ⊥ = λ q. both_ways (stands x xs) f.1 (ap (λ m. stands m xs) q ∙ stands_at xs k inside) in
    place-miss (slice_index xs k) x xs other ∙ ap suc (its-own-place c xs f.2 k inside)

entry-below : (c : ℕ) (xs : List ℕ) → Fresh c xs → (k : ℕ) → k < length xs → slice_index xs k < c
unfolding Fresh
entry-below c [] f k h = absurd (let no : ⊥ = omega arith in no)
entry-below c (x ∷ xs) f zero h = f.0
entry-below c (x ∷ xs) f (suc k) h = entry-below c xs f.2 k (omega arith)

-- The laws --------------------------------------------------------------------------------------------------------------

pub name_in : (xs : List ℕ) (n : ℕ) → n < length xs → name_of xs n ≡ slice_index xs n
name_in xs n h = cond-true (nat_lt n (length xs)) (slice_index xs n) n (lt-ltb n (length xs) h)

pub named_in : (xs : List ℕ) (n : ℕ) → n < length xs → named_by xs n ≡ place_of xs n
named_in xs n h = cond-true (nat_lt n (length xs)) (place_of xs n) n (lt-ltb n (length xs) h)

name_below : (xs : List ℕ) → Fresh (length xs) xs → (n : ℕ) → n < length xs → name_of xs n < length xs
name_below xs f n h = let e = name_in xs n h in let b = entry-below (length xs) xs f n h in omega arith

place-below : (xs : List ℕ) → Fresh (length xs) xs → (n : ℕ) → n < length xs → named_by xs n < length xs
place-below xs f n h = let e = named_in xs n h in let p = at_its_place xs n (all-stand xs f n h) in omega (arith, p.0)

renames : (xs : List ℕ) → Fresh (length xs) xs → Renaming (length xs) (name_of xs) (named_by xs)
renames xs f =
    record {
      there_below = name_below xs f;
      back_below = place-below xs f;
      back_there = λ n h. named_in xs (name_of xs n) (name_below xs f n h) ∙ (ap (place_of xs) (name_in xs n h) ∙ its-own-place (length xs) xs f n h);
      there_back = λ n h. name_in xs (named_by xs n) (place-below xs f n h) ∙ (ap (λ k. slice_index xs k) (named_in xs n h) ∙ (at_its_place xs n (all-stand xs f n h)).1);
    }

-- entries that make a table are a renaming
pub renames_by : (xs : List ℕ) → is_table xs ≡ true → Renaming (length xs) (name_of xs) (named_by xs)
renames_by xs e = renames xs (fresh (length xs) xs (and_parts (allowed (length xs)) (each_once_below (length xs) xs) e).1)

-- and so are those of an array that count
pub table_laws : (entries : List ℕ) (count : ℕ) → length entries ≡ 64 → count ≤ 64 → is_table (take count entries) ≡ true → Renaming count (name_of (take count entries)) (named_by (take count entries))
table_laws entries count whole few e =
    let xs = take count entries in
    subst (λ c. Renaming c (name_of xs) (named_by xs)) (length-take-le count entries (omega arith)) (renames_by xs e)
