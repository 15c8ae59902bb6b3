use Rattle.std.proofs.Common.{ℤ, List, length, Option, sym, subst, rules}
use Rattle.toml.specs.View.{table_view}
use Rattle.cost_table.specs.RunValues.{RefusesValues, IsWrongValues, NoValues, OtherCount, NoDocument, WrongTop}
use Rattle.cost_table.proofs.run_values.values.Goals as goal

pub returns-in-Err-clause-refused : goal.returns-in-Err-clause-refused
returns-in-Err-clause-refused c = λ other.
    let told = c.in-Err.ensures.refused other in
    subst (RefusesValues c.args.bytes.now (length c.args.rows.now)) (sym told.0) (NoDocument told.1)

pub returns-in_default-told-clause-refused : goal.returns-in_default-told-clause-refused
returns-in_default-told-clause-refused c = λ other.
    WrongTop (record {
      members = table_view c.in-Ok.table;
      document = c.in-Ok.ensures.read;
      wrong = subst (λ (told : Option (List ℤ)). IsWrongValues (length c.args.rows.now) told) (rw c.in_default-told.is at c.in-Ok-told.ensures) NoValues;
    })

pub returns-then-len-rows-clause-refused : goal.returns-then-len-rows-clause-refused
returns-then-len-rows-clause-refused c = λ other.
    WrongTop (record {
      members = table_view c.in-Ok.table;
      document = c.in-Ok.ensures.read;
      wrong = subst (λ (told : Option (List ℤ)). IsWrongValues (length c.args.rows.now) told) (rw c.in-Some.is at c.in-Ok-told.ensures)
          (OtherCount c.in-Some.numbers.items (λ same. search rules));
    })
