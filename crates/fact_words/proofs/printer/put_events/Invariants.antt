-- What was put are the lines of the first members.
use Rattle.std.proofs.Common.{◌≡◌, take}
use Rattle.std.specs.List.{flat_map}
use Rattle.fact_words.specs.Canonical.{event_marks}
use Rattle.fact_words.specs.Printing.{all_put}
use Rattle.fact_words.proofs.printer.put_events.Given as goal

abbrev pub invariant-loop-event : goal.invariant-loop-event
invariant-loop-event l = l.out.items ≡ all_put l.initial.out.items (flat_map event_marks (take l.event-index l.events))
