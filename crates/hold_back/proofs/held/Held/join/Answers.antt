use Rattle.std.proofs.Common.{ap, ◌∙◌}
use Rattle.hold_back.specs.Holding.{all_checked}
use Rattle.hold_back.proofs.Checks.{checked-more}
use Rattle.hold_back.proofs.held.Held.join.Goals as goal

pub invariant_of-self-clause-held_well_made : goal.invariant_of-self-clause-held_well_made
invariant_of-self-clause-held_well_made c =
    let s = c.args.self.now in
    ap (all_checked s.counts) c.push.ensures.items ∙ checked-more s.counts s.queue.items c.args.record s.held_well_made c.requires.fits
