-- What the walk along the scopes keeps.
use Rattle.std.proofs.Common.{◌≡◌, length}
use Rattle.worklist_rules.specs.Positions.{turn_in}
use Rattle.abstract_exec.proofs.numbers.number_in.Given as goal

abbrev pub invariant-loop-first : goal.invariant-loop-first
invariant-loop-first l = turn_in l.scopes l.position l.scope ≡ turn_in l.fn.scopes l.fn.position l.scope

abbrev pub decreases-loop-first : goal.decreases-loop-first
decreases-loop-first l = length l.scopes
