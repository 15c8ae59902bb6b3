use Rattle.response_time.proofs.Allowed.{allowed_events}
use Rattle.response_time.proofs.laws.allowed_events_are_schedules.Goals as goal

pub returns : goal.returns
returns c = allowed_events
