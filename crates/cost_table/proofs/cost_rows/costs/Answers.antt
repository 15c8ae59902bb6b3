use Rattle.std.proofs.Common.{map, sym, subst}
use Rattle.toml.specs.View.{table_view, view}
use Rattle.alf_check.specs.CheckedPrograms.{seen}
use Rattle.cost_table.specs.Costs.{RefusesCosts}
use Rattle.cost_table.specs.Files.{NoDocument, WrongTop, WrongEntry}
use Rattle.cost_table.proofs.cost_rows.costs.Goals as goal

pub returns-in-Err-clause-refused : goal.returns-in-Err-clause-refused
returns-in-Err-clause-refused c = λ other.
    let told = c.in-Err.ensures.refused other in
    subst (RefusesCosts c.args.bytes.now (seen c.args.checked.now)) (sym told.0) (NoDocument told.1)

pub returns-in_default-clause-refused : goal.returns-in_default-clause-refused
returns-in_default-clause-refused c = λ other. WrongTop (record { members = table_view c.in-Ok.table; document = c.in-Ok.ensures.read; untold = c.in_default.ensures.none })

pub returns-clause-refused : goal.returns-clause-refused
returns-clause-refused c = λ other. WrongEntry c.in-Err-all_costs.fault (record {
  entries = map view c.in-Some.values.now;
  told = record { members = table_view c.in-Ok.table; document = c.in-Ok.ensures.read; told = c.in-Some.ensures.entries };
  first = c.in-Err-all_costs.ensures.first other;
})
