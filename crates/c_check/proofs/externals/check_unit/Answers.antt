-- One more is gone through.
use Rattle.std.proofs.Common.{◌≡◌, List, ◌∷◌, map, subst, rules}
use Rattle.c_unit.specs.declared.external.External.{External}
use Rattle.c_unit.specs.Tree.{external_of}
use Rattle.c_unit.specs.Units.{unit_of}
use Rattle.c_check.proofs.Going.{IsUnderWay, goes_on, within}
use Rattle.c_check.proofs.externals.check_unit.Goals as goal

pub externals-preserved : goal.externals-preserved
externals-preserved c =
    let unit = unit_of c.args.unit.now in
    let names = c.args.functions.now.names in
    let x = external_of c.in-Some.external.now in
    let xs = map external_of c.in-Some.others.now in
    let whole : c.externals.rest.now ≡ c.in-Some.external.now ∷ c.in-Some.others.now = search rules in
    let way = subst (λ (rest : List External). IsUnderWay unit.words names unit.externals (map external_of rest) c.externals.count c.externals.scopes) whole c.externals.invariant.0 in
    let low = within unit.words names unit.externals x xs c.externals.count way.names_left c.externals.invariant.1 in
    let counted = c.count_after-count.ensures low in (
      goes_on unit.words names unit.externals x xs c.externals.count c.count_after-count.result c.externals.scopes c.check_external.new.scopes way c.in_default-check_external.ensures.tells
          c.in_default-check_external.ensures.known counted,
      rw counted low,
    )
