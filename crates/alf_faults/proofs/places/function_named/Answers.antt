use Rattle.std.proofs.Common.{◌∙◌, rules, tests}
use Rattle.std.specs.Str.{bytes_eq}
use Rattle.std.proofs.lemmas.Iterator.{YieldsList-from_slice}
use Rattle.std.proofs.lemmas.Iterator.Search.{position_from_yields_List}
use Rattle.alf_program.specs.Tree.{function_of}
use Rattle.alf_faults.proofs.Standing.{position_is, place_within_of}
use Rattle.alf_faults.proofs.places.function_named.Goals as goal

pub returns : goal.returns
returns c =
    let first =
    position_from_yields_List (λ func. bytes_eq func.name c.args.name.now) _ _ c.position.result c.position.ensures.ran (YieldsList-from_slice c.args.funcs.now cc) (λ x b q k. search (rules, tests))
    ∙ position_is function_of (λ func. bytes_eq func.name c.args.name.now) c.args.funcs.now in
    record { first = first; within = place_within_of function_of (λ func. bytes_eq func.name c.args.name.now) c.args.funcs.now c.position.result first }
