-- Calls made one after the other.
use Rattle.std.proofs.Common.{◌≡◌, ℕ, zero, suc, ◌+◌, ◌<◌, ◌≤◌, List, [], ◌∷◌, ◌++◌, length, get_or, take, drop, set, Some, Result, sym, refl, ap, ◌∙◌, append-nil, le_of_suc-le-suc, not-suc-le-zero, add-zero, arith}
use Rattle.std.proofs.lemmas.List.{drop_all}
use Rattle.judging.specs.Standing.{Standing, advance_by}
use Rattle.judging.proofs.Running.{split}
use Rattle.feed.specs.declared.refusals.Refusal.{Refusal}
use Rattle.driving.specs.declared.calls.Reply.{Reply}
use Rattle.driving.specs.declared.calls.Entry.{Entry}
use Rattle.driving.specs.Calls.{asks, answer_to, stands_after, replayed, asked}

-- the entries, where the first i calls were made
abbrev pub made : Standing → List Entry → ℕ → List Entry
made s es i = replayed s (take i es) ++ drop i es

-- where the judge then stands
abbrev pub after : Standing → List Entry → ℕ → Standing
after s es i = advance_by (asked (take i es)) s

abbrev answered : List Entry → ℕ → Entry → (Result Reply Refusal) → List Entry
answered ns i d r = set ns i (record { call = (get_or ns i d).call; answer = Some r })

more : (es : List Entry) (i : ℕ) (s : Standing) (d : Entry) (r : Result Reply Refusal) → i < length es → r ≡ answer_to (get_or (made s es i) i d).call (after s es i) → answered (made s es i) i d r ≡ made s es (suc i)
more [] i s d r l e = absurd (not-suc-le-zero l)
more (e ∷ es) zero s d r l q = ap (λ a. record { call = e.call; answer = Some a } ∷ es) q
more (e ∷ es) (suc i) s d r l q =
    let t = stands_after e.call s in
    let first : Entry = record { call = e.call; answer = Some (answer_to e.call s) } in
    ap (λ ns. first ∷ ns) (more es i t d r (le_of_suc-le-suc l) (q ∙ ap (answer_to (get_or (made t es i) i d).call) (split (asks e.call) (asked (take i es)) s)))

stood : (es : List Entry) (i : ℕ) (s : Standing) (d : Entry) → i < length es → stands_after (get_or (made s es i) i d).call (after s es i) ≡ after s es (suc i)
stood [] i s d l = absurd (not-suc-le-zero l)
stood (e ∷ es) zero s d l = ap (λ n. advance_by n s) (sym (add-zero (asks e.call)))
stood (e ∷ es) (suc i) s d l =
    let t = stands_after e.call s in
    ap (stands_after (get_or (made t es i) i d).call) (split (asks e.call) (asked (take i es)) s) ∙ (stood es i t d (le_of_suc-le-suc l) ∙ sym (split (asks e.call) (asked (take (suc i) es)) s))

-- one call more, on the entries ns as they are
pub made_more : (es ns : List Entry) (i : ℕ) (s : Standing) (d : Entry) (r : Result Reply Refusal) → i < length es → ns ≡ made s es i → r ≡ answer_to (get_or ns i d).call (after s es i) → answered ns i d r ≡ made s es (i + 1)
made_more es ns i s d r l e q =
    let n : suc i ≡ i + 1 = omega arith in
    ap (λ xs. answered xs i d r) e ∙ (more es i s d r l (q ∙ ap (λ xs. answer_to (get_or xs i d).call (after s es i)) e) ∙ ap (made s es) n)

pub stands-more : (es ns : List Entry) (i : ℕ) (s : Standing) (d : Entry) → i < length es → ns ≡ made s es i → stands_after (get_or ns i d).call (after s es i) ≡ after s es (i + 1)
stands-more es ns i s d l e =
    let n : suc i ≡ i + 1 = omega arith in
    ap (λ xs. stands_after (get_or xs i d).call (after s es i)) e ∙ (stood es i s d l ∙ ap (after s es) n)

take_whole : (es : List Entry) (i : ℕ) → length es ≤ i → take i es ≡ es
take_whole [] zero l = refl
take_whole [] (suc i) l = refl
take_whole (e ∷ es) zero l = absurd (not-suc-le-zero l)
take_whole (e ∷ es) (suc i) l = ap (λ xs. e ∷ xs) (take_whole es i (le_of_suc-le-suc l))

pub all_made : (es ns : List Entry) (i : ℕ) (s : Standing) → length es ≤ i → ns ≡ made s es i → ns ≡ replayed s es
all_made es ns i s l e = e ∙ ((λ j. replayed s (take_whole es i l j) ++ drop_all i es l j) ∙ append-nil (replayed s es))
