use Rattle.std.proofs.Common.{◌≡◌, ◌<◌, Bool, true, length, is_ok, sym, ap, ◌∙◌}
use Rattle.trace_file.specs.Opening.{opened}
use Rattle.trace_file.specs.contracts.reading.TraceFileFeed.TheImpl.{ghosts as feed_of}
use Rattle.judging.proofs.Few.{waiting_few}
use Rattle.sites.proofs.Made.{made_more}
use Rattle.sites.proofs.comparing.compare.Goals as goal

pub returns-in-Ok : goal.returns-in-Ok
returns-in-Ok c =
    let m = feed_of.meaning c.in-Ok.file in
    let o = c.in-Ok.ensures.answer in
    made_more c.compare_file.result (λ (same : Bool). length m.waiting < 4097 → same ≡ true) (λ (same : Bool). same ≡ is_ok (opened c.args.bytes.now)) (λ same h. h (waiting_few c.args.bytes.now m o) ∙ sym (ap is_ok o)) c.compare_file.ensures
