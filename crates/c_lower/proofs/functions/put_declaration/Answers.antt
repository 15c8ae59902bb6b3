-- What a declaration declares.
use Rattle.std.proofs.Common.{map, ap, ◌∙◌}
use Rattle.c_unit.specs.Tree.{declarator_of}
use Rattle.c_scopes.specs.Views.{Known}
use Rattle.c_lower.specs.Heads.{with_declarators}
use Rattle.c_lower.proofs.KnownHeads.{declarators_known}
use Rattle.c_lower.proofs.functions.put_declaration.Goals as goal

pub returns : goal.returns
returns c = λ file here.
    let given = c.args.given in
    let declared = map declarator_of c.args.declarators.now in
    c.in_ok-declare.ensures ∙ ap (λ (k : Known). with_declarators given declared k) here ∙ declarators_known c.args.scopes.now.words given file declared
