-- On the way to the laws of file.
--   head_left                        once the scope of the parameters is left, the function is known
use Rattle.std.proofs.Common.{◌≡◌, ℕ, List, [], ap}
use Rattle.c_unit.specs.declared.types.Outcome.{Outcome}
use Rattle.c_unit.specs.declared.external.Parameter.{Parameter}
use Rattle.c_rules.specs.Names.{Entry}
use Rattle.c_rules.specs.Units.{function_of}
use Rattle.c_scopes.specs.Views.{Known, declared_in, left}
use Rattle.c_faults.specs.Files.{with_head}
use Rattle.c_faults.specs.FileLaws.{params_known}

-- once the scope of the parameters is left
pub head_left : (o : Outcome) (name : ℕ) (params : List Parameter) (known : Known)
    → left (with_head o name params known) ≡ declared_in (record { token = name; bound = function_of o params }) known
head_left o name params known =
    let e : Entry = record { token = name; bound = function_of o params } in
    ap left (params_known known.words [] (declared_in e known).scopes params)
