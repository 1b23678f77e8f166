-- Which bytes open as a bundle, and what they then mean.
use Rattle.std.specs.Prelude.{ℕ, ◌-◌, cond, List, map, length, drop, Ok, Err, Result}
use Rattle.feed.specs.declared.refusals.Refusal.{Refusal}
use Rattle.feed.specs.declared.refusals.Refusal.TheVariants.{ArrivalList}
use Rattle.feed.specs.Meaning.{Meaning}
use Rattle.feed.specs.Delivery.{delivering}
use Rattle.bundle.specs.declared.testing.Contents.{Contents}
use Rattle.bundle.specs.Layout.{slots_of}
use Rattle.bundle.specs.Contents.{contents_of}
use Rattle.bundle.specs.Arrivals.{uses_exactly}
use Rattle.bundle.specs.Reading.{read_as_arriving}

-- the arrival list of n entries: the last bytes of the bundle
abbrev pub arrivals_of : List ℕ → ℕ → List ℕ
arrivals_of bs n = drop (length bs - n) bs

abbrev pub opened_under : List ℕ → Result Contents Refusal → Result Meaning Refusal
opened_under bs (Err e) = Err e
opened_under bs (Ok k) =
    cond (uses_exactly k.counts.threads k.rows (arrivals_of bs k.count))
    (Ok (delivering k.counts 0 (read_as_arriving k.counts (map (slots_of bs) k.rows) (arrivals_of bs k.count))))
    (Err ArrivalList)

-- what the bytes mean as a bundle, or the first refusal
abbrev pub opened : List ℕ → Result Meaning Refusal
opened bs = opened_under bs (contents_of bs)
