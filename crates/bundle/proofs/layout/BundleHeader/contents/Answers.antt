use Rattle.std.proofs.Common.{ap}
use Rattle.bundle.specs.Contents.{contents_under}
use Rattle.bundle.proofs.Passed.{within}
use Rattle.bundle.proofs.layout.BundleHeader.contents.Goals as goal

pub returns : goal.returns
returns c =
    let told = c.in_ok-counts.ensures in
    record { answer = ap (contents_under c.args.self.now) told; within = within c.args.length c.args.self.now c.in_ok-counts.counts told }
