use Rattle.std.proofs.Common.{◌≡◌, ◌∙◌, ℕ, Vec, Global, [], ◌∷◌, length, replicate, ap, rules}
use Rattle.std.proofs.lemmas.List.{map-append}
use Rattle.alf_check.specs.CheckedPrograms.{seen}
use Rattle.cost_table.proofs.Alike.{alike_push, alike_row, alike_table}
use Rattle.cost_table.proofs.Costing.{rows_of}
use Rattle.cost_table.proofs.block_costs.Costs.alike.Goals as goal

pub loop-func-preserved : goal.loop-func-preserved
loop-func-preserved c =
    let row : c.in_ok-row.row.items ≡ alike_row (seen c.args.checked.now) c.args.others c.loop-func.func = c.in_ok-row.ensures.items_if_clones_equal (λ y e. e) ∙ ap (λ (n : ℕ). replicate n c.args.others) c.block_count.ensures in (
      search rules,
      ap rows_of c.in_ok-push.ensures.items ∙ map-append (λ (one : Vec ℕ Global). one.items) c.loop-func.rows.items (c.in_ok-row.row ∷ []) ∙ alike_push (seen c.args.checked.now) c.args.others c.loop-func.func (rows_of c.loop-func.rows.items) c.in_ok-row.row.items c.loop-func.invariant.1 row,
    )

pub returns : goal.returns
returns c =
    let all : c.loop-func.func ≡ length (seen c.args.checked.now).funcs = search rules in
    alike_table (seen c.args.checked.now) c.args.others c.loop-func.func (rows_of c.loop-func.rows.items) all c.loop-func.invariant.1
