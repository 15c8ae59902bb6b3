-- The function whose name stands at the token.
use Rattle.std.proofs.Common.{◌≡◌, List, ap, sym, map, ◌∙◌, Some, None}
use Rattle.c_unit.specs.declared.unit.CUnit.{CUnit}
use Rattle.c_unit.specs.Units.{unit_of}
use Rattle.c_rules.specs.Units.{definitions}
use Rattle.c_rules.specs.Recursion.{number_at}
use Rattle.c_scopes.specs.Numbers.{Made}
use Rattle.c_meaning.specs.Objects.{Function}
use Rattle.object_layout.specs.declared.signature.Signature as made
use Rattle.object_layout.specs.Views.{Signature, program_in, named_function, signature_of, signature_or_none}
use Rattle.object_layout.proofs.Functions.{named_some, named_none}
use Rattle.object_layout.proofs.table.Table.result_of.Goals as goal

pub returns-in-Some : goal.returns-in-Some
returns-in-Some c =
    let unit = unit_of c.self.inside.unit.now in
    let token = c.args.token in
    let n = c.in-Some.number in
    let found : number_at unit.words (definitions unit.externals) token ≡ Some n =
    sym (c.number_at.ensures ∙ ap (λ (m : Made). number_at m.words m.names token) c.self.invariant.functions_are) ∙ c.in-Some.is in
    c.result_at.ensures ∙ ap (λ (ss : List made.Signature). (signature_or_none (map signature_of ss) n).result) c.deref.ensures.value
    ∙ ap (λ (ss : List Signature). (signature_or_none ss n).result) c.self.invariant.signatures_are ∙ ap (λ (s : Signature). s.result) (named_some unit token n found)
    ∙ ap (λ (u : CUnit). (named_function (program_in u) token).result) c.self.view_is

pub returns-in-None : goal.returns-in-None
returns-in-None c =
    let unit = unit_of c.self.inside.unit.now in
    let token = c.args.token in
    let found : number_at unit.words (definitions unit.externals) token ≡ None =
    sym (c.number_at.ensures ∙ ap (λ (m : Made). number_at m.words m.names token) c.self.invariant.functions_are) ∙ c.in-None.is in
    sym (ap (λ (f : Function). f.result) (named_none unit token found)) ∙ ap (λ (u : CUnit). (named_function (program_in u) token).result) c.self.view_is
