-- The rows tell their operators, in the order of the operators.
use denote.Ref.{Bor}
use Rattle.std.proofs.Common.{◌≡◌, ℕ, All, List, [], ◌∷◌, map, Option, Some, None, option_map, refl, ap, ◌∙◌}
use Rattle.std.specs.Prelude.{find}
use Rattle.std.specs.Str.{bytes_eq}
use Rattle.std.proofs.lemmas.List.Elements.{All-head, All-tail}
use Rattle.lists.specs.TestLaws.{by_test}
use Rattle.alf_ops.specs.declared.operator.Op.{Op}
use Rattle.alf_ops.specs.declared.table.OpRow.{OpRow}
use Rattle.alf_ops.specs.Names.{TellsOperator, spelling}
use Rattle.alf_reader.specs.Grammar.{operator_named}
use Rattle.alf_reader.proofs.words.operator_row.Goals as goal

row_named : (text : List ℕ) (rows : List OpRow) → All TellsOperator rows → option_map (λ row. row.op) (find (λ row. bytes_eq row.name.now text) rows) ≡ find (λ op. bytes_eq (spelling op) text) (map (λ row. row.op) rows)
row_named text [] told = refl
row_named text (row ∷ rows) told =
    let name = (All-head TellsOperator row rows told).name in
    by_test (bytes_eq (spelling row.op) text) (λ e. rw (name, e) refl) (λ e. rw (name, e) (row_named text rows (All-tail TellsOperator row rows told)))

op_of : (row : Option (Bor OpRow))
    → option_map (λ row. row.now.op) row ≡ option_map (λ row. row.op) (option_map (λ row. row.now) row)
op_of None = refl
op_of (Some row) = refl

pub returns-clause-op : goal.returns-clause-op
unfolding operator_named
returns-clause-op c =
    let text = c.args.text.now in
    op_of c.row_among.result ∙ ap (option_map (λ row. row.op)) c.row_among.ensures.first ∙ row_named text c.rows.result.now c.rows.ensures.told
    ∙ ap (find (λ (op : Op). bytes_eq (spelling op) text)) c.rows.ensures.order
