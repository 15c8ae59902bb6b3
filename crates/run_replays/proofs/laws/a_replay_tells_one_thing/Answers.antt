use Rattle.run_replays.proofs.OneReplayLaws.{one_replay}
use Rattle.run_replays.proofs.laws.a_replay_tells_one_thing.Goals as goal

pub returns : goal.returns
returns c = one_replay c.a_run_has_one_continuation.ensures.more c.a_run_has_one_continuation.ensures.over c.a_run_has_one_end.ensures.one
