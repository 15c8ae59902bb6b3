use Rattle.std.proofs.Common.{◌≡◌, ◌∙◌, ℕ, List, true, false, ap, sym, arith}
use Rattle.std.specs.Str.{bytes_eq}
use Rattle.std.proofs.lemmas.Option.{slice_get_within}
use Rattle.alf_check.specs.CheckedPrograms.{seen}
use Rattle.cost_table.proofs.Functions.{from_other, from_same}
use Rattle.cost_table.proofs.blocks.function_named.Goals as goal

pub returns-then-is_named : goal.returns-then-is_named
returns-then-is_named c =
    let is : bytes_eq c.func.ensures.function.name c.args.name.now ≡ true = ap (λ (name : List ℕ). bytes_eq name c.args.name.now) (sym c.func.ensures.name) ∙ sym c.if-is_named.ensures in
    sym (c.loop-func.invariant.1 ∙ from_same c.args.name.now (seen c.args.checked.now).funcs c.loop-func.func c.func.ensures.function c.func.ensures.at is)

pub loop-func-preserved : goal.loop-func-preserved
loop-func-preserved c =
    let is : bytes_eq c.func.ensures.function.name c.args.name.now ≡ false = ap (λ (name : List ℕ). bytes_eq name c.args.name.now) (sym c.func.ensures.name) ∙ sym c.if-is_named.ensures in
    let low = slice_get_within (seen c.args.checked.now).funcs c.loop-func.func c.func.ensures.function c.func.ensures.at in (
      omega (arith, low),
      c.loop-func.invariant.1 ∙ from_other c.args.name.now (seen c.args.checked.now).funcs c.loop-func.func c.func.ensures.function c.func.ensures.at is,
    )
