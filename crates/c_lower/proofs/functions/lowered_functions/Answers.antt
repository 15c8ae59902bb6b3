-- Before the first function there is room for all.
use Rattle.std.proofs.Common.{List, [], map, rules, refl, subst, sym}
use Rattle.c_unit.specs.declared.external.External.{External}
use Rattle.c_unit.specs.Tree.{external_of}
use Rattle.object_layout.specs.Views.{program_in}
use Rattle.c_lower.specs.Walk.{HaveFewNumbers}
use Rattle.c_lower.proofs.functions.lowered_functions.Goals as goal

pub externals-init : goal.externals-init
externals-init c =
    let few : HaveFewNumbers (program_in c.args.unit.now) (map external_of c.as_slice-rest.result.now) =
    subst (λ (xs : List External). HaveFewNumbers (program_in c.args.unit.now) (map external_of xs)) (sym c.as_slice-rest.ensures.value) c.requires.few in
    (record { file = record { scope = []; made = [] }; here = search rules; all = rw (c.new-funcs.ensures.items, c.as_slice-rest.ensures.value) refl }, search rules, few, search rules)
