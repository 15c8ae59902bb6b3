-- What the function of this number gives.
use Rattle.std.proofs.Common.{List, ap, map, ◌∙◌}
use Rattle.c_unit.specs.declared.unit.CUnit.{CUnit}
use Rattle.c_unit.specs.Units.{unit_of}
use Rattle.c_meaning.specs.Objects.{function_at}
use Rattle.object_layout.specs.declared.signature.Signature as made
use Rattle.object_layout.specs.Views.{Signature, program_in, signature_of, signature_or_none}
use Rattle.object_layout.proofs.Functions.{signature_is}
use Rattle.object_layout.proofs.table.Table.result_at.Goals as goal

pub returns : goal.returns
returns c =
    let unit = unit_of c.self.inside.unit.now in
    let n = c.args.number in
    c.result_at.ensures ∙ ap (λ (ss : List made.Signature). (signature_or_none (map signature_of ss) n).result) c.deref.ensures.value
    ∙ ap (λ (ss : List Signature). (signature_or_none ss n).result) c.self.invariant.signatures_are ∙ ap (λ (s : Signature). s.result) (signature_is unit n)
    ∙ ap (λ (u : CUnit). (function_at (program_in u) n).result) c.self.view_is
