-- Two lists alike up to renaming.
use Rattle.std.proofs.Common.{◌≡◌, ℕ, zero, suc, ◌+◌, ◌<◌, ◌≤◌, Bool, true, false, cond, not, ◌&&◌, eqb, ltb, List, [], ◌∷◌, ◌++◌, map, reverse, length, None, Ok, Option, sym, refl, ap, ◌∙◌, subst, ⊎_elim, not-suc-le-zero, arith, ltb-false, ltb-true, eq-eqb, ne_eqb}
use mathlib.Core.Bool.{and-false}
use lib.ListN.{length-map}
use Rattle.std.proofs.lemmas.Bool.{cases_lt}
use Rattle.record.specs.declared.kinds.Counts.{Counts}
use Rattle.record.specs.declared.kinds.Source.{Source}
use Rattle.record.specs.declared.kinds.Source.TheVariants.{Initial, Write as WriteOf}
use Rattle.record.specs.declared.kinds.Record.{Record}
use Rattle.record.specs.declared.kinds.Record.TheVariants.{Write, Read, Fence, Notify, Wait}
use Rattle.record.specs.WellMade.{thread_of, checked, AllWellMade}
use Rattle.model.specs.Places.{missing, how_many, place_of, oldest_first}
use Rattle.model.specs.Events.{is_write, is_notify, is_wait, is_act, records_of, count_of, acts_of, source_in, names, Law}
use Rattle.model.specs.Lawful.{verdict_at}
use Rattle.model.specs.Merge.{Entry, entry_of, account, Alike}
use Rattle.model.specs.Renamed.{Renaming, source_renamed, renamed}
use Rattle.model.specs.Tells.{AllLawful, unchanged}
use Rattle.model.specs.Upto.{Upto, UptoRules}
use Rattle.model.proofs.Merge.{account-long, merge-rule}
use Rattle.model.proofs.ByPlaces.{alike-records}
use Rattle.model.proofs.WellMade.{SourceFits, Fits, fits, all_fit, thread-known, all-still-well-made}
use Rattle.model.proofs.Renamed.{eqb-there, thread-ρ, thread-test, names-ρ, size-ρ, renaming-rule}
use Rattle.model.proofs.Tells.{told}

pub same_names : (n : ℕ) → Renaming n unchanged unchanged
same_names n = record { there_below = λ k l. l; back_below = λ k l. l; back_there = λ k l. refl; there_back = λ k l. refl }

turned : (n : ℕ) (τ τ' : ℕ → ℕ) → Renaming n τ τ' → Renaming n τ' τ
turned n τ τ' R = record { there_below = R.back_below; back_below = R.there_below; back_there = R.there_back; there_back = R.back_there }

after : (n : ℕ) (τ τ' σ σ' : ℕ → ℕ) → Renaming n τ τ' → Renaming n σ σ' → Renaming n (λ t. σ (τ t)) (λ t. τ' (σ' t))
after n τ τ' σ σ' R S = record {
  there_below = λ k l. S.there_below (τ k) (R.there_below k l);
  back_below = λ k l. R.back_below (σ' k) (S.back_below k l);
  back_there = λ k l. ap τ' (S.back_there (τ k) (R.there_below k l)) ∙ R.back_there k l;
  there_back = λ k l. ap σ (R.there_back (σ' k) (S.back_below k l)) ∙ S.there_back k l;
}

-- Lists that are well made -----------------------------------------------------------------------------------------

module _ (c : Counts) where
  well-thread : (x : Record) → checked c x ≡ Ok tt → thread_of x < c.threads
  well-thread x e = thread-known c x (fits c x e)

  made-append : (xs ys : List Record) → AllWellMade c xs → AllWellMade c ys → AllWellMade c (xs ++ ys)
  made-append [] ys h k = k
  made-append (x ∷ xs) ys h k = (h.0, made-append xs ys h.1 k)

  made-front : (xs ys : List Record) → AllWellMade c (xs ++ ys) → AllWellMade c xs
  made-front [] ys f = tt
  made-front (x ∷ xs) ys f = (f.0, made-front xs ys f.1)

  made-back : (xs ys : List Record) → AllWellMade c (xs ++ ys) → AllWellMade c ys
  made-back [] ys f = f
  made-back (x ∷ xs) ys f = made-back xs ys f.1

  made-only : (q : Record → Bool) (h : List Record) → AllWellMade c h → AllWellMade c (oldest_first q h)
  made-only q [] f = tt
  made-only q (x ∷ h) f = made-append (oldest_first q h) (cond (q x) (x ∷ []) []) (made-only q h f.1) (elim (q x) as (λ b. AllWellMade c (cond b (x ∷ []) [])) [ true ↦ (f.0, tt) | false ↦ tt ])

  made_of : (h : List Record) → ((t : ℕ) → AllWellMade c (records_of t h)) → AllWellMade c h
  made_of [] f = tt
  made_of (x ∷ h) f =
      let g : AllWellMade c (x ∷ []) = made-back (records_of (thread_of x) h) (x ∷ []) (subst (λ (b : Bool). AllWellMade c (records_of (thread_of x) h ++ cond b (x ∷ []) [])) (eq-eqb (thread_of x) (thread_of x) refl) (f (thread_of x))) in
      (g.0, made_of h (λ t. made-front (records_of t h) (cond (eqb (thread_of x) t) (x ∷ []) []) (f t)))

  pub alike-made : (h h' : List Record) → Alike h h' → AllWellMade c h → AllWellMade c h'
  alike-made h h' a f = made_of h' (λ t. subst (AllWellMade c) (alike-records h h' a t) (made-only (λ x. eqb (thread_of x) t) h f))

  -- no record is of a thread that is not below the number of threads
  module _ (u : ℕ) (l : c.threads ≤ u) where
    other : (x : Record) → checked c x ≡ Ok tt → eqb (thread_of x) u ≡ false
    other x f = let m : thread_of x < c.threads = well-thread x f in ne_eqb (thread_of x) u (omega arith)

    no-acts : (h : List Record) → AllWellMade c h → acts_of u h ≡ []
    no-acts [] f = refl
    no-acts (x ∷ h) f = λ i. no-acts h f.1 i ++ cond (other x f.0 i && is_act x) (x ∷ []) []

    pub no-account : (h : List Record) → AllWellMade c h → account u h ≡ []
    no-account [] f = refl
    no-account (x ∷ h) f = λ i. cond (other x f.0 i) (entry_of h x ∷ []) [] ++ no-account h f.1 i

    pub no-records : (h : List Record) → AllWellMade c h → count_of u h ≡ 0
    no-records [] f = refl
    no-records (x ∷ h) f = λ i. cond (other x f.0 i) (suc (count_of u h)) (no-records h f.1 i)

    no_source : (h : List Record) (s : Source) → SourceFits c s → source_in u h s ≡ None
    no_source h Initial g = refl
    no_source h (WriteOf w n) g = let k : w < c.threads = g in ap (λ (b : Bool). cond b (place_of is_write n (acts_of u h)) None) (ne_eqb w u (omega arith))

    pub no_names : (h : List Record) → AllWellMade c h → (x : Record) → Fits c x → names u h x ≡ None
    no_names h f (Write w) g = refl
    no_names h f (Read r) g = no_source h r.source g.2
    no_names h f (Fence k) g = refl
    no_names h f (Notify k) g = refl
    no_names h f (Wait k) g = ap (place_of is_notify (suc (how_many is_wait (acts_of k.thread h)))) (no-acts h f)

-- Lengths -----------------------------------------------------------------------------------------------------------

abbrev total : ℕ → (ℕ → ℕ) → ℕ
total zero f = 0
total (suc n) f = f n + total n f

total-none : (n : ℕ) → total n (λ t. 0) ≡ 0
total-none zero = refl
total-none (suc n) = omega (arith, total-none n)

module _ (k : ℕ) (g : ℕ → ℕ) where
  abbrev up : ℕ → ℕ
  up t = cond (eqb k t) (suc (g t)) (g t)

  past : (n : ℕ) → n ≤ k → total n up ≡ total n g
  past zero l = refl
  past (suc n) l = (λ i. cond (ne_eqb k n (omega arith) i) (suc (g n)) (g n) + past n (omega arith) i)

  one_more : (n : ℕ) → k < n → total n up ≡ suc (total n g)
  one_more zero l = absurd (not-suc-le-zero l)
  one_more (suc n) l =
      ⊎_elim
      (λ (m : k < n). let e : up n ≡ g n = ap (λ (b : Bool). cond b (suc (g n)) (g n)) (ne_eqb k n (omega arith)) in omega (arith, one_more n m))
      (λ (m : n ≤ k). let q : k ≡ n = omega arith in let e : up n ≡ suc (g n) = ap (λ (b : Bool). cond b (suc (g n)) (g n)) (eq-eqb k n q) in omega (arith, past n m))
      (cases_lt k n)

pub alike-counts : (h h' : List Record) → Alike h h' → (t : ℕ) → count_of t h ≡ count_of t h'
alike-counts h h' a t = sym (account-long t h) ∙ ap length (a t) ∙ account-long t h'

module _ (c : Counts) where
  all_told : (h : List Record) → AllWellMade c h → total c.threads (λ t. count_of t h) ≡ length h
  all_told [] f = total-none c.threads
  all_told (x ∷ h) f = one_more (thread_of x) (λ t. count_of t h) c.threads (well-thread c x f.0) ∙ ap suc (all_told h f.1)

  pub alike-long : (h h' : List Record) → Alike h h' → AllWellMade c h → length h ≡ length h'
  alike-long h h' a f = sym (all_told h f) ∙ (λ i. total c.threads (λ t. alike-counts h h' a t i)) ∙ all_told h' (alike-made c h h' a f)

-- Renaming keeps accounts -------------------------------------------------------------------------------------------

module _ (c : Counts) (τ τ' α α' : ℕ → ℕ) (Rτ : Renaming c.threads τ τ') (Rα : Renaming c.addresses α α') where
  abbrev ρ : Record → Record
  ρ x = renamed τ α x

  pub made-map : (xs : List Record) → AllWellMade c xs → AllWellMade c (map ρ xs)
  made-map = all-still-well-made c τ τ' α α' Rτ Rα

  abbrev ρE : Entry → Entry
  ρE e = record { what = ρ e.what; stood = λ u. ltb u c.threads && e.stood (τ' u) }

  entry-ρ : (h : List Record) (x : Record) → AllWellMade c h → checked c x ≡ Ok tt → entry_of (map ρ h) (ρ x) ≡ ρE (entry_of h x)
  entry-ρ h x f g = λ i. record { what = ρ x; stood = λ u. flag u (ltb u c.threads) refl i }
    where
      flag : (u : ℕ) (b : Bool) → ltb u c.threads ≡ b → (not (eqb u (thread_of (ρ x))) && not (missing (names u (map ρ h) (ρ x)))) ≡ (b && (not (eqb (τ' u) (thread_of x)) && not (missing (names (τ' u) h x))))
      flag u true q =
          let l : u < c.threads = ltb-true u c.threads q in
          let m : τ' u < c.threads = Rτ.back_below u l in
          ap (λ (k : ℕ). not (eqb k (thread_of (ρ x))) && not (missing (names k (map ρ h) (ρ x)))) (sym (Rτ.there_back u l)) ∙ (λ i. not ((ap (eqb (τ (τ' u))) (thread-ρ c τ τ' α α' Rτ Rα x) ∙ eqb-there c.threads τ τ' Rτ (τ' u) (thread_of x) m (well-thread c x g)) i) && not (missing (names-ρ c τ τ' α α' Rτ Rα (τ' u) m h (all_fit c h f) x (fits c x g) i)))
      flag u false q =
          ap (λ (o : Option ℕ). not (eqb u (thread_of (ρ x))) && not (missing o)) (no_names c u (ltb-false u c.threads q) (map ρ h) (made-map h f) (ρ x) (fits c (ρ x) (made-map (x ∷ []) (g, tt)).0)) ∙ and-false _

  account-ρ : (t : ℕ) → t < c.threads → (h : List Record) → AllWellMade c h → account (τ t) (map ρ h) ≡ map ρE (account t h)
  account-ρ t l [] f = refl
  account-ρ t l (x ∷ h) f =
      (λ i. cond (thread-test c τ τ' α α' Rτ Rα t l x (fits c x f.0) i) (entry-ρ h x f.1 f.0 i ∷ []) [] ++ account-ρ t l h f.1 i) ∙ go (eqb (thread_of x) t)
    where
      go : (b : Bool) → cond b (ρE (entry_of h x) ∷ []) [] ++ map ρE (account t h) ≡ map ρE (cond b (entry_of h x ∷ []) [] ++ account t h)
      go true = refl
      go false = refl

  pub keeps : (h h' : List Record) → AllWellMade c h → Alike h h' → Alike (map ρ h) (map ρ h')
  keeps h h' f a t =
      let f' : AllWellMade c h' = alike-made c h h' a f in
      ⊎_elim
      (λ (l : t < c.threads). let m : τ' t < c.threads = Rτ.back_below t l in ap (λ (k : ℕ). account k (map ρ h)) (sym (Rτ.there_back t l)) ∙ account-ρ (τ' t) m h f ∙ ap (map ρE) (a (τ' t)) ∙ sym (account-ρ (τ' t) m h' f') ∙ ap (λ (k : ℕ). account k (map ρ h')) (Rτ.there_back t l))
      (λ (l : c.threads ≤ t). no-account c t l (map ρ h) (made-map h f) ∙ sym (no-account c t l (map ρ h') (made-map h' f')))
      (cases_lt t c.threads)

  back-source : (s : Source) → SourceFits c s → source_renamed τ' (source_renamed τ s) ≡ s
  back-source Initial g = refl
  back-source (WriteOf u n) g = λ i. WriteOf (Rτ.back_there u g i) n

  back-ρ : (x : Record) → Fits c x → renamed τ' α' (ρ x) ≡ x
  back-ρ (Write w) h = λ i. Write (record { thread = Rτ.back_there w.thread h.0 i; address = Rα.back_there w.address h.1 i; mode = w.mode; value = w.value })
  back-ρ (Read r) h = λ i. Read (record { thread = Rτ.back_there r.thread h.0 i; address = Rα.back_there r.address h.1 i; source = back-source r.source h.2 i; mode = r.mode; value = r.value })
  back-ρ (Fence f) h = λ i. Fence (record { thread = Rτ.back_there f.thread h i })
  back-ρ (Notify n) h = λ i. Notify (record { thread = Rτ.back_there n.thread h i; label = n.label })
  back-ρ (Wait w) h = λ i. Wait (record { thread = Rτ.back_there w.thread h i; label = w.label })

  back-map : (h : List Record) → AllWellMade c h → map (renamed τ' α') (map ρ h) ≡ h
  back-map [] f = refl
  back-map (x ∷ h) f = λ i. back-ρ x (fits c x f.0) i ∷ back-map h f.1 i

source-same : (s : Source) → source_renamed unchanged s ≡ s
source-same Initial = refl
source-same (WriteOf u n) = refl

renamed-same : (x : Record) → renamed unchanged unchanged x ≡ x
renamed-same (Write w) = refl
renamed-same (Read r) = λ i. Read (record { thread = r.thread; address = r.address; source = source-same r.source i; mode = r.mode; value = r.value })
renamed-same (Fence f) = refl
renamed-same (Notify n) = refl
renamed-same (Wait w) = refl

pub map_same : (h : List Record) → map (renamed unchanged unchanged) h ≡ h
map_same [] = refl
map_same (x ∷ h) = λ i. renamed-same x i ∷ map_same h i

module _ (τ α σ β : ℕ → ℕ) where
  source-twice : (s : Source) → source_renamed (λ t. σ (τ t)) s ≡ source_renamed σ (source_renamed τ s)
  source-twice Initial = refl
  source-twice (WriteOf u n) = refl

  twice : (x : Record) → renamed (λ t. σ (τ t)) (λ a. β (α a)) x ≡ renamed σ β (renamed τ α x)
  twice (Write w) = refl
  twice (Read r) = λ i. Read (record { thread = σ (τ r.thread); address = β (α r.address); source = source-twice r.source i; mode = r.mode; value = r.value })
  twice (Fence f) = refl
  twice (Notify n) = refl
  twice (Wait w) = refl

  map-twice : (h : List Record) → map (renamed (λ t. σ (τ t)) (λ a. β (α a))) h ≡ map (renamed σ β) (map (renamed τ α) h)
  map-twice [] = refl
  map-twice (x ∷ h) = λ i. twice x i ∷ map-twice h i

-- The relation ------------------------------------------------------------------------------------------------------

pub itself : (c : Counts) (b : List Record) → AllWellMade c b → Upto c unchanged unchanged unchanged unchanged b b
itself c b f = record { threads = same_names c.threads; addresses = same_names c.addresses; well_made = f; alike = λ t. ap (account t) (map_same b) }

module _ (c : Counts) (τ τ' α α' : ℕ → ℕ) (b m : List Record) (u : Upto c τ τ' α α' b m) where
  made : AllWellMade c (map (renamed τ α) b)
  made = made-map c τ τ' α α' u.threads u.addresses b u.well_made

  pub upper-made : AllWellMade c m
  upper-made = alike-made c (map (renamed τ α) b) m u.alike made

  pub as_long : length m ≡ length b
  as_long = sym (alike-long c (map (renamed τ α) b) m u.alike made) ∙ length-map b (renamed τ α)

  pub counts : (t : ℕ) → t < c.threads → count_of (τ t) m ≡ count_of t b
  counts t l = sym (alike-counts (map (renamed τ α) b) m u.alike (τ t)) ∙ size-ρ c τ τ' α α' u.threads u.addresses t l b (all_fit c b u.well_made)

  pub backwards : Upto c τ' τ α' α m b
  backwards = record {
    threads = turned c.threads τ τ' u.threads;
    addresses = turned c.addresses α α' u.addresses;
    well_made = upper-made;
    alike = λ t. sym (keeps c τ' τ α' α (turned c.threads τ τ' u.threads) (turned c.addresses α α' u.addresses) (map (renamed τ α) b) m made u.alike t) ∙ ap (account t) (back-map c τ τ' α α' u.threads u.addresses b u.well_made);
  }

  pub verdicts : (L : Law) (t i : ℕ) → t < c.threads → verdict_at L c.threads (τ t) i m ≡ verdict_at L c.threads t i b
  verdicts L t i l = sym (merge-rule L c.threads (map (renamed τ α) b) m u.alike (τ t) i) ∙ renaming-rule L c τ τ' α α' u.threads u.addresses b u.well_made t i l

  pub composes : (σ σ' β β' : ℕ → ℕ) (n : List Record) → Upto c σ σ' β β' m n → Upto c (λ t. σ (τ t)) (λ t. τ' (σ' t)) (λ a. β (α a)) (λ a. α' (β' a)) b n
  composes σ σ' β β' n v = record {
    threads = after c.threads τ τ' σ σ' u.threads v.threads;
    addresses = after c.addresses α α' β β' u.addresses v.addresses;
    well_made = u.well_made;
    alike = λ t. ap (account t) (map-twice τ α σ β b) ∙ keeps c σ σ' β β' v.threads v.addresses (map (renamed τ α) b) m made u.alike t ∙ v.alike t;
  }

  pub reordered : (n : List Record) → Alike m n → Upto c τ τ' α α' b n
  reordered n a = record { threads = u.threads; addresses = u.addresses; well_made = u.well_made; alike = λ t. u.alike t ∙ a t }

  pub renamed_further : (σ σ' β β' : ℕ → ℕ) → Renaming c.threads σ σ' → Renaming c.addresses β β' → Upto c (λ t. σ (τ t)) (λ t. τ' (σ' t)) (λ a. β (α a)) (λ a. α' (β' a)) b (map (renamed σ β) m)
  renamed_further σ σ' β β' S B = composes σ σ' β β' (map (renamed σ β) m) (record { threads = S; addresses = B; well_made = upper-made; alike = λ t. refl })

  -- Each record of a well-made list is of a known thread, so that the verdicts of the one list are those of the other.
  known : (t i : ℕ) (h : List Record) → AllWellMade c h → i < count_of t h → t < c.threads
  known t i h f l = ⊎_elim (λ (k : t < c.threads). k) (λ (k : c.threads ≤ t). let z = no-records c t k h f in absurd (omega arith)) (cases_lt t c.threads)

  back-verdict : (L : Law) (t i : ℕ) → t < c.threads → verdict_at L c.threads (τ' t) i b ≡ verdict_at L c.threads t i m
  back-verdict L t i l = sym (verdicts L (τ' t) i (u.threads.back_below t l)) ∙ ap (λ (k : ℕ). verdict_at L c.threads k i m) (u.threads.there_back t l)

  back_count : (t : ℕ) → t < c.threads → count_of (τ' t) b ≡ count_of t m
  back_count t l = sym (counts (τ' t) (u.threads.back_below t l)) ∙ ap (λ (k : ℕ). count_of k m) (u.threads.there_back t l)

  pub down : (L : Law) (t i : ℕ) → i < count_of t m → verdict_at L c.threads (τ' t) i b ≡ verdict_at L c.threads t i m
  down L t i l = back-verdict L t i (known t i m upper-made l)

  pub lift : (L : Law) → AllLawful L c.threads m → AllLawful L c.threads b
  lift L a t i l =
      let k = known t i b u.well_made l in
      sym (verdicts L t i k) ∙ a (τ t) i (omega (arith, counts t k))

  pub lower : (L : Law) → AllLawful L c.threads b → AllLawful L c.threads m
  lower L a t i l =
      let k = known t i m upper-made l in
      sym (back-verdict L t i k) ∙ a (τ' t) i (omega (arith, back_count t k))

pub upto-rules : UptoRules
upto-rules = record {
  itself = itself;
  backwards = backwards;
  composes = λ c τ τ' α α' σ σ' β β' b m n u v. composes c τ τ' α α' b m u σ σ' β β' n v;
  reordered = λ c τ τ' α α' b m n u a. reordered c τ τ' α α' b m u n a;
  renamed_further = λ c τ τ' α α' σ σ' β β' b m u S B. renamed_further c τ τ' α α' b m u σ σ' β β' S B;
  well_made = upper-made;
  as_long = as_long;
  counts = counts;
  verdicts = verdicts;
  tells = λ c τ τ' α α' b m u L e. told L c.threads τ' b m e (down c τ τ' α α' (reverse b) (reverse m) u L) (lift c τ τ' α α' (reverse b) (reverse m) u L) (lower c τ τ' α α' (reverse b) (reverse m) u L);
}
