-- What holds of the value in an `Ok`.
use Rattle.std.proofs.Common.{IfOk, Ok, Err, Result}

pub made_more : {X Y : Type 0} (r : Result X Y) (P Q : X → Type 0) → ((x : X) → P x → Q x) → IfOk r P → IfOk r Q
made_more (Ok x) P Q f p = f x p
made_more (Err y) P Q f p = tt
