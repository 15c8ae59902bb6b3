use Rattle.item_runs.proofs.Tracks.{follow}
use Rattle.item_runs.proofs.laws.runs_follow_items.Goals as goal

pub returns : goal.returns
returns c = follow c.stretches_go_to_named_labels.ensures c.a_run_has_one_continuation.ensures.more
