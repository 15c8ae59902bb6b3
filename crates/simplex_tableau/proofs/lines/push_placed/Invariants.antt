-- What was appended, and then the rest, is all.
use Rattle.std.proofs.Common.{◌≡◌, ◌++◌, ◌-◌, length}
use Rattle.std.specs.Prelude.{◌^◌}
use Rattle.ipet_rows.specs.Programs.{IsWithin}
use Rattle.simplex_rules.specs.Tableaus.{placed}
use Rattle.simplex_tableau.proofs.lines.push_placed.Given as goal

abbrev pub invariant-loop-term : goal.invariant-loop-term
invariant-loop-term l = record {
  all : l.out.items ++ placed l.rest ≡ l.initial.out.items ++ placed l.terms;
  within : IsWithin (2 ^ 32 - 2) l.rest;
}

abbrev pub decreases-loop-term : goal.decreases-loop-term
decreases-loop-term l = length l.rest
