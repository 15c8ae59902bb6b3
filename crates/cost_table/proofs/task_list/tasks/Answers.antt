use Rattle.std.proofs.Common.{map, sym, subst, arith}
use Rattle.std.proofs.lemmas.Bool.Decides.{nat_tests}
use Rattle.std.proofs.lemmas.List.{length-map}
use Rattle.toml.specs.View.{table_view, view}
use Rattle.cost_table.specs.Files.{HasEntries, HasWrongTop, NoDocument, WrongTop, WrongEntry}
use Rattle.cost_table.specs.TaskFiles.{RefusesTasks, TooMany, Otherwise, task_entries}
use Rattle.cost_table.proofs.OneTasks.{few_or_many, wrong_or_many}
use Rattle.cost_table.proofs.KeptTasks.{means_tasks}
use Rattle.cost_table.proofs.task_list.tasks.Goals as goal

pub returns-in-Err-clause-refused : goal.returns-in-Err-clause-refused
returns-in-Err-clause-refused c = λ other.
    let told = c.in-Err.ensures.refused other in
    subst (RefusesTasks c.args.bytes.now) (sym told.0) (Otherwise _ (λ h. told.1 h.told.members h.told.document) (NoDocument told.1))

pub returns-in_default-clause-refused : goal.returns-in_default-clause-refused
returns-in_default-clause-refused c = λ other.
    let wrong : HasWrongTop c.args.bytes.now task_entries = record { members = table_view c.in-Ok.table; document = c.in-Ok.ensures.read; untold = sym c.in_default.ensures } in
    Otherwise _ (wrong_or_many c.args.bytes.now wrong) (WrongTop wrong)

pub returns-then-values-gt64-clause-refused : goal.returns-then-values-gt64-clause-refused
returns-then-values-gt64-clause-refused c = λ other.
    let long = length-map c.in-Some.values.now view in
    TooMany (record {
      entries = map view c.in-Some.values.now;
      told = record { members = table_view c.in-Ok.table; document = c.in-Ok.ensures.read; told = sym c.in-Some.ensures };
      many = grind (arith, long, c.if-values-gt64.true, nat_tests);
    })

pub returns-in-Ok-all_tasks-clause-keep : goal.returns-in-Ok-all_tasks-clause-keep
returns-in-Ok-all_tasks-clause-keep c =
    let long = length-map c.in-Some.values.now view in
    means_tasks c.args.bytes.now c.in-Ok-all_tasks.tasks.items (record {
      entries = map view c.in-Some.values.now;
      told = record { members = table_view c.in-Ok.table; document = c.in-Ok.ensures.read; told = sym c.in-Some.ensures };
      few = grind (arith, long, c.if-values-gt64.false, nat_tests);
      right = c.in-Ok-all_tasks.ensures.right;
      all = c.in-Ok-all_tasks.ensures.all;
    })

pub returns-clause-refused : goal.returns-clause-refused
returns-clause-refused c = λ other.
    let long = length-map c.in-Some.values.now view in
    let told : HasEntries c.args.bytes.now task_entries (map view c.in-Some.values.now) = record { members = table_view c.in-Ok.table; document = c.in-Ok.ensures.read; told = sym c.in-Some.ensures } in
    Otherwise c.in-Err-all_tasks.fault (few_or_many c.args.bytes.now (map view c.in-Some.values.now) told (grind (arith, long, c.if-values-gt64.false, nat_tests)))
    (WrongEntry c.in-Err-all_tasks.fault (record { entries = map view c.in-Some.values.now; told = told; first = c.in-Err-all_tasks.ensures.first other }))
