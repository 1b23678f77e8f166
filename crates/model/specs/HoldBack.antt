-- What holding back makes of a list of records, the oldest first, and that no thread can tell.
-- A hold-back relay keeps some of thread h's records back, at most d of them, and lets other threads' records pass them.
use Rattle.std.specs.Prelude.{◌≡◌, ℕ, Bool, false, cond, ◌&&◌, ◌||◌, List, [], ◌∷◌, ◌++◌, reverse, length, ◌==◌, nat_lt}
use Rattle.record.specs.declared.kinds.Source.{Source}
use Rattle.record.specs.declared.kinds.Source.TheVariants.{Initial, Write as WriteOf}
use Rattle.record.specs.declared.kinds.Record.{Record}
use Rattle.record.specs.declared.kinds.Record.TheVariants.{Write, Read, Fence, Notify, Wait}
use Rattle.record.specs.WellMade.{thread_of}
use Rattle.model.specs.Events.{is_write, is_notify, is_wait, is_of, records_of, Law}
use Rattle.model.specs.Lawful.{verdict_at}
use Rattle.model.specs.Merge.{Alike}

-- the source is a write of u
abbrev pub is_from : ℕ → Source → Bool
is_from u Initial = false
is_from u (WriteOf w n) = w == u

-- the record is a read that names a write of u
abbrev pub reads_from : ℕ → Record → Bool
reads_from u (Write w) = false
reads_from u (Read r) = is_from u r.source
reads_from u (Fence f) = false
reads_from u (Notify n) = false
reads_from u (Wait w) = false

-- x may not pass the held record y: it reads from y's thread and y is a write, it is a write and y reads from its thread,
-- or the two are a notify and a wait
abbrev pub hinders : Record → Record → Bool
hinders y x =
    reads_from (thread_of y) x && is_write y || is_write x && reads_from (thread_of x) y || is_notify x && is_wait y || is_wait x && is_notify y

-- x may not pass one of the held records
abbrev pub hindered : List Record → Record → Bool
hindered [] x = false
hindered (y ∷ held) x = hinders y x || hindered held x

-- With x stalled, what is held is delivered, the oldest first, then x, and then the rest with nothing held.
abbrev pub stalled : List Record → Record → List Record → List Record
stalled held x rest = held ++ (x ∷ rest)

-- Where one more record has joined the held ones: if there are more than d, the oldest is delivered. The rest follows, with what is still held.
abbrev pub spilled : ℕ → List Record → (List Record → List Record) → List Record
spilled d [] rest = rest []
spilled d (y ∷ held) rest = cond (nat_lt d (length (y ∷ held))) (y ∷ rest held) (rest (y ∷ held))

-- What is delivered of the records still to come, with those held, the oldest first, of thread h. A record of h joins the held ones.
-- Another is delivered at once if it may pass them all, and stalls if not. At the end the held ones follow.
abbrev pub held_back : ℕ → ℕ → List Record → List Record → List Record
held_back h d held [] = held
held_back h d held (x ∷ xs) =
    cond (is_of h x)
    (spilled d (held ++ (x ∷ [])) (λ more. held_back h d more xs))
    (cond (hindered held x) (stalled held x (held_back h d [] xs)) (x ∷ held_back h d held xs))

-- of a whole list with nothing held: what comes out has the same records, in an order in which every thread gives the same account
pub record HeldBack (h d : ℕ) (xs : List Record) : Type 0 where
  pub alike : Alike (reverse xs) (reverse (held_back h d [] xs))
  pub records : (t : ℕ) → records_of t (reverse (held_back h d [] xs)) ≡ records_of t (reverse xs)
  pub as_many : length (held_back h d [] xs) ≡ length xs
  pub verdicts : (L : Law) (T t i : ℕ) → verdict_at L T t i (reverse (held_back h d [] xs)) ≡ verdict_at L T t i (reverse xs)

abbrev pub HoldBackRule : Type 0
HoldBackRule = (h d : ℕ) (xs : List Record) → HeldBack h d xs
