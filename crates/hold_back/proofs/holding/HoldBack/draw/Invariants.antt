use Rattle.std.proofs.Common.{◌≡◌, ◌-◌, true, length, None}
use Rattle.hold_back.specs.Holding.{holding, hold_meaning}
use Rattle.hold_back.proofs.holding.HoldBack.draw.Given as goal

abbrev pub invariant-loop-record : goal.invariant-loop-record
invariant-loop-record g l =
    let M = g.F.Feed.meaning in
    let s = l.self in
    let o = l.initial.self in
    (holding (M s.feed).counts s.hold.thread s.hold.capacity s.held.counts ≡ true)
    × (s.held.stalled ≡ None)
    × (hold_meaning s.hold.thread s.hold.capacity s.held.counts s.held.queue.items s.held.stalled (M s.feed) ≡ hold_meaning o.hold.thread o.hold.capacity o.held.counts o.held.queue.items o.held.stalled (M o.feed))

abbrev pub decreases-loop-record : goal.decreases-loop-record
decreases-loop-record g l = l.self.hold.capacity - length l.self.held.queue.items
