-- What work gives over told files it gives over others that hold the same under the names that it reads, whatever was
-- read before.
--   Carries w         so it is of the work
--   reading, judging, ending, going_on   of work as it is put together
--   program_carried   of the read of a program, its graph and its scopes
--   tables_carried    of the reads of inputs and costs
use Rattle.std.proofs.Common.{◌≡◌, ℕ, List, [], Result, Option, None, Some, refl, ◌∙◌}
use Rattle.std.specs.Prelude.{IfSome}
use Rattle.flow_base.specs.Outside.{Files}
use Rattle.alf_check.specs.CheckedPrograms.{NumberedProgram}
use Rattle.alf_check.specs.Numbered.{numbered}
use Rattle.c_lowered.specs.Programs.{lowered}
use Rattle.cost_table.specs.CostTables.{one_each}
use Rattle.sweet_words.specs.Files.{file_name}
use Rattle.command_plans.specs.declared.reading.Role.{Role}
use Rattle.command_plans.specs.declared.reading.Role.TheVariants.{Inputs, Costs, Program}
use Rattle.command_plans.specs.Log.{Log, log_with}
use Rattle.command_plans.specs.Outcome.{Outcome}
use Rattle.command_plans.specs.Work.{Work, reads, judged, done, ◌>>=◌}
use Rattle.program_files.specs.Programs.{most_bytes_of_a_file, too_long, ProgramMeans, program_in, CheckMeans, numbered_in}
use Rattle.program_files.specs.Units.{unit_too_long, UnitMeans, unit_in, UnitCheckMeans, checked_unit_in}
use Rattle.program_files.specs.Expanding.{lowered_in, checked_in, GraphMeans, expanded_in}
use Rattle.command_files.specs.Scopes.{ScopesMean, scoped_in}
use Rattle.command_files.specs.Tables.{InputsMean, inputs_told, inputs_in, CostsMean, costs_told, costs_in, tables_in}
use Rattle.sweet_cli.specs.Words.{ProgramFile, Alf, C}

module _ (files later : Files) where
  -- what it gives over the files it gives over the later ones, whatever was read before
  abbrev pub Carries : {A : Type 0} → Work A → Type 0
  Carries {A = A} w = (p q : Log) (a : A) → w.steps.Gives (Some files) p a q → (again : Log) → (last : Log) × w.steps.Gives (Some later) again a last

  reading : (role : Role) (file : List ℕ) (limit : ℕ) (line : List ℕ) → later file ≡ files file
      → Carries (reads role file limit line)
  reading role file limit line same p q bytes (read, short, there) again = (log_with again file, (refl, short, same ∙ there))

  judging : {A : Type 0} (Means : Result A Outcome → Type 0) → Carries (judged Means)
  judging Means p q a (only, still) again = (again, (only, refl))

  ending : {A : Type 0} (a : A) → Carries (done a)
  ending a p q b (is, still) again = (again, (is, refl))

  going_on : {A B : Type 0} (w : Work A) (k : A → Work B) → Carries w → ((a : A) → Carries (k a)) → Carries (w >>= k)
  going_on w k first next p q b (a, mid, g, h) again =
      let here = first p mid a g again in
      let there = next a mid q b h here.0 in
      (there.0, (a, here.0, here.1, there.1))

  -- ---- the program

  of_alf : (file root : List ℕ) → later file ≡ files file → Carries (numbered_in file root)
  unfolding numbered_in program_in
  of_alf file root same =
      going_on (program_in file) (λ whole. judged (CheckMeans whole root))
      (going_on (reads Program file most_bytes_of_a_file too_long) (λ bytes. judged (ProgramMeans bytes)) (reading Program file most_bytes_of_a_file too_long same) (λ bytes. judging (ProgramMeans bytes)))
      (λ whole. judging (CheckMeans whole root))

  of_unit : (file root : List ℕ) → later file ≡ files file → Carries (checked_unit_in file root)
  unfolding checked_unit_in unit_in
  of_unit file root same =
      going_on (unit_in file) (λ unit. judged (UnitCheckMeans unit root))
      (going_on (reads Program file most_bytes_of_a_file unit_too_long) (λ bytes. judged (UnitMeans bytes)) (reading Program file most_bytes_of_a_file unit_too_long same) (λ bytes. judging (UnitMeans bytes)))
      (λ unit. judging (UnitCheckMeans unit root))

  of_c : (file root : List ℕ) → later file ≡ files file → Carries (lowered_in file root)
  unfolding lowered_in
  of_c file root same =
      going_on (checked_unit_in file root) (λ unit. done (numbered (lowered unit) root)) (of_unit file root same) (λ unit. ending (numbered (lowered unit) root))

  of_either : (given : ProgramFile) (root : List ℕ) → later (file_name given) ≡ files (file_name given)
      → Carries (checked_in given root)
  of_either (Alf file) root same = of_alf file root same
  of_either (C file) root same = of_c file root same

  expansion : (given : ProgramFile) (root : List ℕ) → later (file_name given) ≡ files (file_name given)
      → Carries (expanded_in given root)
  unfolding expanded_in
  expansion given root same =
      going_on (checked_in given root) (λ program. judged (GraphMeans program) >>= (λ graph. done (record { program = program; graph = graph })))
      (of_either given root same)
      (λ program. going_on (judged (GraphMeans program)) (λ graph. done (record { program = program; graph = graph })) (judging (GraphMeans program))
      (λ graph. ending (record { program = program; graph = graph })))

  -- of the read of a program, its graph and its scopes
  pub program_carried : (given : ProgramFile) (root : List ℕ) → later (file_name given) ≡ files (file_name given)
      → Carries (scoped_in given root)
  unfolding scoped_in
  program_carried given root same =
      going_on (expanded_in given root) (λ expanded. judged (ScopesMean expanded.graph) >>= (λ scoped. done (record { expanded = expanded; scoped = scoped })))
      (expansion given root same)
      (λ expanded. going_on (judged (ScopesMean expanded.graph)) (λ scoped. done (record { expanded = expanded; scoped = scoped })) (judging (ScopesMean expanded.graph))
      (λ scoped. ending (record { expanded = expanded; scoped = scoped })))

  -- ---- the tables

  of_rows : (program : NumberedProgram) (file : Option (List ℕ)) → IfSome file (λ name. later name ≡ files name)
      → Carries (inputs_in program file)
  unfolding inputs_told
  of_rows program None same = ending []
  of_rows program (Some file) same =
      going_on (reads Inputs file most_bytes_of_a_file too_long) (λ bytes. judged (InputsMean bytes program)) (reading Inputs file most_bytes_of_a_file too_long same) (λ bytes. judging (InputsMean bytes program))

  of_costs : (program : NumberedProgram) (file : Option (List ℕ)) → IfSome file (λ name. later name ≡ files name)
      → Carries (costs_in program file)
  unfolding costs_told
  of_costs program None same = ending one_each
  of_costs program (Some file) same =
      going_on (reads Costs file most_bytes_of_a_file too_long) (λ bytes. judged (CostsMean bytes program)) (reading Costs file most_bytes_of_a_file too_long same) (λ bytes. judging (CostsMean bytes program))

  -- of the reads of inputs and costs
  pub tables_carried : (program : NumberedProgram) (inputs costs : Option (List ℕ))
      → IfSome inputs (λ name. later name ≡ files name)
      → IfSome costs (λ name. later name ≡ files name) → Carries (tables_in program inputs costs)
  unfolding tables_in
  tables_carried program inputs costs same_inputs same_costs =
      going_on (inputs_in program inputs) (λ rows. costs_in program costs >>= (λ spent. done (record { rows = rows; costs = spent })))
      (of_rows program inputs same_inputs)
      (λ rows. going_on (costs_in program costs) (λ spent. done (record { rows = rows; costs = spent })) (of_costs program costs same_costs)
      (λ spent. ending (record { rows = rows; costs = spent })))
