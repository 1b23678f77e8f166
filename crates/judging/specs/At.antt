-- Where a judge stands, and what it has then told.
use Rattle.std.specs.Prelude.{◌≡◌, ℕ, ◌+◌}
use Rattle.feed.specs.Meaning.{Meaning}
use Rattle.feed.specs.Pile.{Pile, delivered, Proper}
use Rattle.judging.specs.declared.judges.Judge.{Judge}
use Rattle.judging.specs.Standing.{Standing, at_start, advance_by}
use Rattle.judging.specs.Stands.{Stands}
use Rattle.judging.specs.Sites.{TellsBottom}

-- the judge j stands at s, where meaning says what a feed of its kind means
abbrev pub At : {P : Type 0} → (P → Meaning) → Judge P → Standing → Type 0
At meaning j s = Stands (meaning j.pile) j.book j.told s

-- A call on a judge: wherever the judge stood before, the call answers what is due there, and the judge then stands at what comes next.
abbrev pub AnswersFrom : {P A : Type 0} → (P → Meaning) → Judge P → Judge P → A → (Standing → A) → (Standing → Standing) → Type 0
AnswersFrom meaning before after answer due next = (s : Standing) → At meaning before s → (answer ≡ due s) × At meaning after (next s)

-- Of a judge that was opened on a pile and asked for n records before a call, and for k by the call: what then stands tells of the pile's bottom.
abbrev pub TellsOn : {P : Type 0} → (P → Meaning) → Judge P → Judge P → ℕ → Type 0
TellsOn meaning before after k = (p : Pile) → Proper p → (n : ℕ) → At meaning before (advance_by n (at_start (delivered p))) → TellsBottom p (n + k) after.told
