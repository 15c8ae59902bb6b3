use Rattle.std.proofs.Common.{map, sym, subst}
use Rattle.toml.specs.View.{table_view, view}
use Rattle.alf_check.specs.CheckedPrograms.{seen}
use Rattle.cost_table.specs.Inputs.{RefusesInputs}
use Rattle.cost_table.specs.Files.{NoDocument, WrongTop, WrongEntry}
use Rattle.cost_table.proofs.input_rows.inputs.Goals as goal

pub returns-in-Err-clause-refused : goal.returns-in-Err-clause-refused
returns-in-Err-clause-refused c = λ other.
    let told = c.in-Err.ensures.refused other in
    subst (RefusesInputs c.args.bytes.now (seen c.args.checked.now)) (sym told.0) (NoDocument told.1)

pub returns-in_default-clause-refused : goal.returns-in_default-clause-refused
returns-in_default-clause-refused c = λ other. WrongTop (record { members = table_view c.in-Ok.table; document = c.in-Ok.ensures.read; untold = sym c.in_default.ensures })

pub returns-clause-refused : goal.returns-clause-refused
returns-clause-refused c = λ other. WrongEntry c.in-Err-all_rows.fault (record {
  entries = map view c.in-Some.values.now;
  told = record { members = table_view c.in-Ok.table; document = c.in-Ok.ensures.read; told = sym c.in-Some.ensures };
  first = c.in-Err-all_rows.ensures.first other;
})
