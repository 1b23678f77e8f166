-- Steps one after the other.
use Rattle.std.proofs.Common.{◌≡◌, ℕ, zero, suc, ◌+◌, ◌-◌, ◌<◌, true, false, List, [], ◌∷◌, length, is_some, Some, None, Ok, Err, Option, sym, refl, ap, ◌∙◌, subst, suc-add, zero-add, add-one, arith}
use Rattle.record.specs.declared.kinds.Record.{Record}
use Rattle.model.specs.declared.reasons.Reason.{Reason}
use Rattle.model.specs.declared.outcomes.Outcome.{Outcome}
use Rattle.model.specs.Lawful.{verdict}
use Rattle.model.specs.Laws.{by_axioms}
use Rattle.feed.specs.declared.refusals.Refusal.TheVariants.{AlreadySettled}
use Rattle.feed.specs.Meaning.{Meaning}
use Rattle.book.specs.declared.book.Book.{Book}
use Rattle.judging.specs.Standing.{Standing, after_record, after_asking, step_under, advance, advance_by}
use Rattle.judging.specs.Stands.{Stands}
use Rattle.judging.specs.Answers.{run_told, unless_settled, tally, run_answer}

pub stays : (n : ℕ) (s : Standing) (o : Outcome) → s.told ≡ Some o → advance_by n s ≡ s
stays zero s o e = refl
stays (suc n) s o e = ap (λ k. advance_by n (step_under k s)) e ∙ stays n s o e

pub split : (n k : ℕ) (s : Standing) → advance_by (n + k) s ≡ advance_by k (advance_by n s)
split zero k s = ap (λ n. advance_by n s) (zero-add k)
split (suc n) k s = ap (λ m. advance_by m s) (suc-add n k) ∙ split n k (advance s)

pub one_more : (n : ℕ) (s : Standing) → advance_by (n + 1) s ≡ advance (advance_by n s)
one_more n s = split n 1 s

-- whether one more record was taken shows in whether an outcome was told
counts-record : (s : Standing) (x : Record) (xs : List Record) (v : Option Reason) → ((after_record s x xs v).told ≡ None → length (after_record s x xs v).taken ≡ length s.taken + 1) × ((o : Outcome) → (after_record s x xs v).told ≡ Some o → length (after_record s x xs v).taken ≡ length s.taken)
counts-record s x xs None = (λ e. sym (add-one (length s.taken)), λ o e. absurd (let z : ◌≡◌ {A = ℕ} 0 1 = cc in let f : ⊥ = omega arith in f))
counts-record s x xs (Some k) = (λ e. absurd (let z : ◌≡◌ {A = ℕ} 0 1 = cc in let f : ⊥ = omega arith in f), λ o e. refl)

counts-asking : (s : Standing) (ws : List Record) → ((after_asking s ws).told ≡ None → length (after_asking s ws).taken ≡ length s.taken + 1) × ((o : Outcome) → (after_asking s ws).told ≡ Some o → length (after_asking s ws).taken ≡ length s.taken)
counts-asking s [] = (λ e. absurd (let z : ◌≡◌ {A = ℕ} 0 1 = cc in let f : ⊥ = omega arith in f), λ o e. refl)
counts-asking s (x ∷ xs) = counts-record s x xs (verdict by_axioms s.left.counts.threads s.taken x)

pub took : (s : Standing) → s.told ≡ None → (advance s).told ≡ None → length (advance s).taken ≡ length s.taken + 1
took s e q =
    let a : advance s ≡ after_asking s s.left.waiting = ap (λ k. step_under k s) e in
    ap (λ t. length t.taken) a ∙ (counts-asking s s.left.waiting).0 (sym (ap (λ t. t.told) a) ∙ q)

pub took-none : (s : Standing) (o : Outcome) → s.told ≡ None → (advance s).told ≡ Some o → length (advance s).taken ≡ length s.taken
took-none s o e q =
    let a : advance s ≡ after_asking s s.left.waiting = ap (λ k. step_under k s) e in
    ap (λ t. length t.taken) a ∙ (counts-asking s s.left.waiting).1 o (sym (ap (λ t. t.told) a) ∙ q)

-- A run --------------------------------------------------------------------------------------------------------------------

-- how a judge stands after some steps of a run
abbrev pub So : Standing → ℕ → Meaning → Book → Option Outcome → Type 0
So s n m b told = Stands m b told (advance_by n s) × (length (advance_by n s).taken ≡ length s.taken + n)

pub so-more : (s : Standing) (n : ℕ) (m m' : Meaning) (b b' : Book) (told told' r : Option Outcome) → told ≡ None → So s n m b told → is_some r ≡ false
    → (r ≡ (advance (advance_by n s)).told) × Stands m' b' told' (advance (advance_by n s)) → So s (n + 1) m' b' told'
so-more s n m m' b b' told told' None o i f a =
    let t = advance_by n s in
    let e = one_more n s in
    let l = took t (i.0.told_is ∙ o) (sym a.0) in
    let k = i.1 in
    (subst (Stands m' b' told') (sym e) a.1, ap (λ u. length u.taken) e ∙ omega arith)
so-more s n m m' b b' told told' (Some p) o i f a = absurd (let z : ◌≡◌ {A = ℕ} 0 1 = cc in let f : ⊥ = omega arith in f)

answered : (s : Standing) (n : ℕ) (t : Standing) (told : Option Outcome) → s.told ≡ None → advance_by n s ≡ t → t.told ≡ told → run_answer n s ≡ Ok (record { outcome = told; taken = tally s t })
answered s n t told o e q = ap (λ k. unless_settled k (run_told s (advance_by n s))) o ∙ (ap (λ u. Ok (run_told s u)) e ∙ ap (λ k. Ok (record { outcome = k; taken = tally s t })) q)

pub run_settled : (s : Standing) (n budget : ℕ) (m₀ m m' : Meaning) (b₀ b b' : Book) (told₀ told told' r : Option Outcome) → told₀ ≡ None → Stands m₀ b₀ told₀ s → n < budget → told ≡ None → So s n m b told → is_some r ≡ true
    → (r ≡ (advance (advance_by n s)).told) × Stands m' b' told' (advance (advance_by n s)) → (Ok (record { outcome = r; taken = n }) ≡ run_answer budget s) × Stands m' b' told' (advance_by budget s)
run_settled s n budget m₀ m m' b₀ b b' told₀ told told' None e₀ st lt e i q a = absurd (let z : ◌≡◌ {A = ℕ} 0 1 = cc in let f : ⊥ = omega arith in f)
run_settled s n budget m₀ m m' b₀ b b' told₀ told told' (Some o) e₀ st lt e i q a =
    let t = advance_by n s in
    let q : (advance t).told ≡ Some o = sym a.0 in
    let rest : budget ≡ n + suc (budget - (n + 1)) = omega arith in
    let whole : advance_by budget s ≡ advance t = ap (λ k. advance_by k s) rest ∙ (split n (suc (budget - (n + 1))) s ∙ stays (budget - (n + 1)) (advance t) o q) in
    let l = took-none t o (i.0.told_is ∙ e) q in
    let k = i.1 in
    let count : tally s (advance t) ≡ n = omega arith in (
      sym (answered s budget (advance t) (Some o) (st.told_is ∙ e₀) whole q ∙ ap (λ j. Ok (record { outcome = Some o; taken = j })) count),
      subst (Stands m' b' told') (sym whole) a.1,
    )

pub run-used : (s : Standing) (n budget : ℕ) (m₀ m : Meaning) (b₀ b : Book) (told₀ told : Option Outcome) → told₀ ≡ None → Stands m₀ b₀ told₀ s → budget ≡ n → told ≡ None → So s n m b told
    → (Ok (record { outcome = None; taken = budget }) ≡ run_answer budget s) × Stands m b told (advance_by budget s)
run-used s n budget m₀ m b₀ b told₀ told e₀ st same e i =
    let k = i.1 in
    let count : tally s (advance_by n s) ≡ budget = omega arith in (
      sym (ap (λ j. run_answer j s) same ∙ (answered s n (advance_by n s) None (st.told_is ∙ e₀) refl (i.0.told_is ∙ e) ∙ ap (λ j. Ok (record { outcome = None; taken = j })) count)),
      subst (λ j. Stands m b told (advance_by j s)) (sym same) i.0,
    )

pub run-refused : (s : Standing) (budget : ℕ) (m : Meaning) (b : Book) (told : Option Outcome) → is_some told ≡ true → Stands m b told s → (Err AlreadySettled ≡ run_answer budget s) × Stands m b told (advance_by budget s)
run-refused s budget m b None e st = absurd (let z : ◌≡◌ {A = ℕ} 0 1 = cc in let f : ⊥ = omega arith in f)
run-refused s budget m b (Some o) e st =
    let q = st.told_is in
    (sym (ap (λ k. unless_settled k (run_told s (advance_by budget s))) q), subst (Stands m b (Some o)) (sym (stays budget s o q)) st)
