-- The name of the function of this number.
use Rattle.std.proofs.Common.{ℕ, ap, ◌∙◌, slice_index_or}
use Rattle.c_unit.specs.declared.unit.CUnit.{CUnit}
use Rattle.c_unit.specs.Units.{unit_of}
use Rattle.c_rules.specs.Names.{text_at}
use Rattle.c_scopes.specs.Numbers.{Made}
use Rattle.c_lowered.specs.Names.{function_name}
use Rattle.object_layout.specs.Views.{program_in}
use Rattle.object_layout.proofs.Functions.{name_at}
use Rattle.object_layout.proofs.table.Table.function_name.Goals as goal

pub returns : goal.returns
returns c =
    let unit = unit_of c.self.inside.unit.now in
    let n = c.args.number in
    c.text_of.ensures ∙ ap (λ (made : Made). text_at made.words (slice_index_or made.names n 0)) c.self.invariant.functions_are
    ∙ ap (λ (token : ℕ). text_at unit.words token) (name_at unit n) ∙ ap (λ (u : CUnit). function_name (program_in u) n) c.self.view_is
