-- The events of a thread, which of them precede which, and what a reader has observed of another thread's.
-- A history is what stands earlier than a record in the whole list, the newest first: so what stands earlier than its first record is its rest.
use Rattle.std.specs.Prelude.{◌≡◌, ℕ, suc, ◌<◌, Bool, true, false, cond, ◌&&◌, ◌||◌, ltb, List, [], ◌∷◌, length, Some, None, Option, ◌==◌, nat_lt}
use Rattle.record.specs.declared.kinds.Mode.{Mode}
use Rattle.record.specs.declared.kinds.Mode.TheVariants.{Relaxed, Strict}
use Rattle.record.specs.declared.kinds.Source.{Source}
use Rattle.record.specs.declared.kinds.Source.TheVariants.{Initial, Write as WriteOf}
use Rattle.record.specs.declared.kinds.Record.{Record}
use Rattle.record.specs.declared.kinds.Record.TheVariants.{Write, Read, Fence, Notify, Wait}
use Rattle.record.specs.WellMade.{thread_of}
use Rattle.model.specs.Places.{at_place, is_at, any_below, any_of, how_many, place_of, oldest_first}

-- Records -----------------------------------------------------------------------------------------------------------

abbrev pub is_write : Record → Bool
is_write (Write w) = true
is_write (Read r) = false
is_write (Fence f) = false
is_write (Notify n) = false
is_write (Wait w) = false

abbrev pub is_notify : Record → Bool
is_notify (Write w) = false
is_notify (Read r) = false
is_notify (Fence f) = false
is_notify (Notify n) = true
is_notify (Wait w) = false

abbrev pub is_wait : Record → Bool
is_wait (Write w) = false
is_wait (Read r) = false
is_wait (Fence f) = false
is_wait (Notify n) = false
is_wait (Wait w) = true

abbrev pub is_write_to : ℕ → Record → Bool
is_write_to a (Write w) = w.address == a
is_write_to a (Read r) = false
is_write_to a (Fence f) = false
is_write_to a (Notify n) = false
is_write_to a (Wait w) = false

-- the address that a write is to, and the value that it stores
abbrev pub address_of : Record → ℕ
address_of (Write w) = w.address
address_of (Read r) = 0
address_of (Fence f) = 0
address_of (Notify n) = 0
address_of (Wait w) = 0

abbrev pub value_of : Record → ℕ
value_of (Write w) = w.value
value_of (Read r) = 0
value_of (Fence f) = 0
value_of (Notify n) = 0
value_of (Wait w) = 0

-- the label of a notify
abbrev pub label_of : Record → ℕ
label_of (Write w) = 0
label_of (Read r) = 0
label_of (Fence f) = 0
label_of (Notify n) = n.label
label_of (Wait w) = 0

-- Events and editions -----------------------------------------------------------------------------------------------

-- a record's kind with its mode: all that an edition looks at
pub data Kind : Type 0 where
  a_write : Mode → Kind
  a_read : Mode → Kind
  a_fence : Kind
  a_notify : Kind
  a_wait : Kind

abbrev pub kind_of : Record → Kind
kind_of (Write w) = a_write w.mode
kind_of (Read r) = a_read r.mode
kind_of (Fence f) = a_fence
kind_of (Notify n) = a_notify
kind_of (Wait w) = a_wait

-- An edition of the language says which records are strict events. In each, the fence of a notify is one.
pub record Edition : Type 0 where
  pub strictly : Kind → Bool
  pub notifies : strictly a_notify ≡ true

abbrev pub is_strict : Edition → Record → Bool
is_strict E x = E.strictly (kind_of x)

-- the events of a thread are its writes and its strict events
abbrev pub is_event : Edition → Record → Bool
is_event E x = is_write x || is_strict E x

-- An act is a record that has a place among its thread's events, whether or not the edition has it as one: every record but a relaxed read,
-- which is therefore no event in any edition.
abbrev pub is_act_kind : Kind → Bool
is_act_kind (a_write m) = true
is_act_kind (a_read Relaxed) = false
is_act_kind (a_read Strict) = true
is_act_kind a_fence = true
is_act_kind a_notify = true
is_act_kind a_wait = true

abbrev pub is_act : Record → Bool
is_act x = is_act_kind (kind_of x)

-- A thread's part of a history --------------------------------------------------------------------------------------

abbrev pub is_of : ℕ → Record → Bool
is_of t x = thread_of x == t

-- the records of thread t, the oldest first
abbrev pub records_of : ℕ → List Record → List Record
records_of t h = oldest_first (is_of t) h

-- how many they are
abbrev pub count_of : ℕ → List Record → ℕ
count_of t h = how_many (is_of t) h

-- its acts, the oldest first: an event is known by its thread and its place here, which never changes as the history grows
abbrev pub acts_of : ℕ → List Record → List Record
acts_of t h = oldest_first (λ x. is_of t x && is_act x) h

-- Precedence --------------------------------------------------------------------------------------------------------
-- Of one thread's acts xs: the event at e precedes that at f if it stands earlier, and one of the two is strict or a strict event stands between them.
abbrev pub precedes : Edition → List Record → ℕ → ℕ → Bool
precedes E xs e f =
    nat_lt e f && is_at (is_event E) xs e && is_at (is_event E) xs f && (is_at (is_strict E) xs e || is_at (is_strict E) xs f || any_below f (λ k. nat_lt e k && is_at (is_strict E) xs k))

-- What a record names -----------------------------------------------------------------------------------------------

-- of u, behind the history h: the write that a read's source is
abbrev pub source_in : ℕ → List Record → Source → Option ℕ
source_in u h Initial = None
source_in u h (WriteOf w n) = cond (w == u) (place_of is_write n (acts_of u h)) None

-- The event of thread u that a record names, by its place among u's acts, if it stands in the history h:
-- a read names the write that it returns, and a thread's j-th wait names the j-th notify of each thread.
abbrev pub names : ℕ → List Record → Record → Option ℕ
names u h (Write w) = None
names u h (Read r) = source_in u h r.source
names u h (Fence f) = None
names u h (Notify n) = None
names u h (Wait w) = place_of is_notify (suc (how_many is_wait (acts_of w.thread h))) (acts_of u h)

-- What a reader has observed ----------------------------------------------------------------------------------------

-- each number of the list passes the test; the one that is there passes it
abbrev pub Each : (ℕ → Bool) → List ℕ → Type 0
Each q [] = Unit {0}
Each q (k ∷ ks) = (q k ≡ true) × Each q ks

abbrev pub IfThere : (ℕ → Bool) → Option ℕ → Type 0
IfThere q None = Unit {0}
IfThere q (Some k) = q k ≡ true

-- A rule of observing says what a reader keeps of another thread's events, as places, behind a record of its own: from what it kept before,
-- the kind of the record, and the event that the record names. It may ask which events precede which.
pub record Rule : Type 0 where
  pub keeps : (ℕ → ℕ → Bool) → List ℕ → Kind → Option ℕ → List ℕ
  -- it keeps nothing but what it had and what is named
  pub from : (p : ℕ → ℕ → Bool) (seen : List ℕ) (k : Kind) (o : Option ℕ) (q : ℕ → Bool) → Each q seen → IfThere q o → Each q (keeps p seen k o)
  -- it asks what precedes the events that it had and the named one, and of no later ones
  pub asks : (n : ℕ) (p q : ℕ → ℕ → Bool) (seen : List ℕ) (k : Kind) (o : Option ℕ) → Each (λ e. ltb e n) seen → IfThere (λ e. ltb e n) o → ((e f : ℕ) → f < n → p e f ≡ q e f) → keeps p seen k o ≡ keeps q seen k o

-- what a trace is judged by
pub record Law : Type 0 where
  pub edition : Edition
  pub rule : Rule

-- the events of another thread u that r has observed, by place
abbrev pub observed : Law → ℕ → ℕ → List Record → List ℕ
observed L r u [] = []
observed L r u (x ∷ h) =
    cond (is_of r x) (L.rule.keeps (precedes L.edition (acts_of u h)) (observed L r u h) (kind_of x) (names u h x)) (observed L r u h)

-- Of another thread's acts xs, with those at the places seen observed -------------------------------------------------

-- a write is covered when it is an observed event or precedes one
abbrev pub covered : Edition → List Record → List ℕ → ℕ → Bool
covered E xs seen w = is_at is_write xs w && any_of seen (λ e. (w == e) || precedes E xs w e)

-- a write is overwritten when it precedes a covered write to the same address
abbrev pub overwritten : Edition → List Record → List ℕ → ℕ → Bool
overwritten E xs seen w = any_below (length xs) (λ v. covered E xs seen v && precedes E xs w v && at_place 0 address_of xs v == at_place 0 address_of xs w)

-- some write to the address a is covered
abbrev pub covered_to : Edition → List Record → List ℕ → ℕ → Bool
covered_to E xs seen a = any_below (length xs) (λ w. covered E xs seen w && is_at (is_write_to a) xs w)

-- Of a reader's own acts xs -----------------------------------------------------------------------------------------

-- some write is to the address a; some such write stands behind place w
abbrev pub written_to : List Record → ℕ → Bool
written_to xs a = any_below (length xs) (λ k. is_at (is_write_to a) xs k)

abbrev pub written_behind : List Record → ℕ → ℕ → Bool
written_behind xs w a = any_below (length xs) (λ k. nat_lt w k && is_at (is_write_to a) xs k)
