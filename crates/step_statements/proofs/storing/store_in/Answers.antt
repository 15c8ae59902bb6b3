use Rattle.std.proofs.Common.{Option, subst}
use Rattle.std.specs.Prelude.{IfSome}
use Rattle.alf_check.specs.CheckedPrograms.{term_of}
use Rattle.pointer_rules.specs.AbstractValues.{AbstractValue}
use Rattle.pointer_rules.specs.Covering.{IsValue}
use Rattle.transfer_rules.specs.EvaluatingLaws.{cell_size}
use Rattle.step_statements.proofs.TypedLaws.{value_found}
use Rattle.step_statements.proofs.storing.store_in.Goals as goal

pub store_at-requires-clause-value : goal.store_at-requires-clause-value
store_at-requires-clause-value c =
    let typed = c.requires.typed in
    let stored = typed.keeps.stored in
    let of_value = value_found c.args.memory.now typed.table typed.function stored.size (term_of c.args.term.now) (c.in_ok-value.value, c.in_ok-value.faults) c.requires.kept stored.value_has c.in_ok-value.ensures in
    record {
      size = stored.size;
      cell = cell_size stored.size stored.cell;
      is = subst (λ (o : Option AbstractValue). IfSome o (IsValue stored.size)) c.in-Some.is of_value;
    }
