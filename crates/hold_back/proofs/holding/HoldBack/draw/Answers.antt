use Rattle.std.proofs.Common.{Some, Ok, rules}
use Rattle.feed.specs.Meaning.{Asked}
use Rattle.hold_back.proofs.Holds.{few-held, can-be-held}
use Rattle.hold_back.proofs.holding.HoldBack.draw.Goals as goal

pub take_in-requires : goal.take_in-requires
take_in-requires g c =
    let F = g.F.Feed in
    let s = c.loop-record.self in
    let m = F.meaning s.feed in
    let n = F.meaning c.next-next.new.self in
    let x = c.in-Ok-Some.record in
    let a : Asked m (Ok (Some x)) n = search rules in
    let i = c.loop-record.invariant in
    record {
      none_stalled = i.1;
      fits = can-be-held m n s.held.counts s.hold.thread s.hold.capacity x i.0 (F.laws.sound s.feed) a;
      few = few-held m.counts s.held.counts s.hold.thread s.hold.capacity i.0;
    }
