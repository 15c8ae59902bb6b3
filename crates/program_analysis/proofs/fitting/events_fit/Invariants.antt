-- What the loop keeps.
use Rattle.std.proofs.Common.{◌<◌, ℕ, get_or}
use Rattle.domain_core.specs.declared.event.Event.{Event}
use Rattle.flow_facts.specs.Writable.{EventIsWritable}
use Rattle.program_analysis.proofs.fitting.events_fit.Given as goal

abbrev pub invariant-loop-event : goal.invariant-loop-event
invariant-loop-event l = (k : ℕ) (d : Event) → k < l.event-index → EventIsWritable (get_or l.events k d)
