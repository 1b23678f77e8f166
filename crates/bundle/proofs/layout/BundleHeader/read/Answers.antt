use Rattle.bundle.proofs.Front.{header-read}
use Rattle.bundle.proofs.layout.BundleHeader.read.Goals as goal

pub returns : goal.returns
returns c =
    let w = c.in-Some.ensures.cases in
    header-read c.args.bytes.now c.in-Some.front.now c.from.result w.enough w.same c.from.ensures
