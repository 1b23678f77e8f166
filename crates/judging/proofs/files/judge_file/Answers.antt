use Rattle.trace_file.specs.contracts.reading.TraceFileFeed.TheImpl.{ghosts as feed_of}
use Rattle.judging.proofs.Few.{waiting_few}
use Rattle.judging.proofs.files.judge_file.Goals as goal

pub judge_feed-requires : goal.judge_feed-requires
judge_feed-requires c = waiting_few c.args.bytes.now (feed_of.meaning c.in-Ok.file) c.in-Ok.ensures.answer
