-- Numbered expressions in a row.
use Rattle.std.proofs.Common.{◌≡◌, ℕ, List, [], ◌∷◌, map, refl, ap, sym, ◌∙◌, Vec, rules}
use Rattle.std.specs.declared.alloc.Global.{Global}
use Rattle.arrayvec.specs.ArrayVec.{ArrayVec}
use Rattle.alf_ops.specs.declared.operator.Op.{Op}
use Rattle.alf_program.specs.declared.program.Expr.{Expr}
use Rattle.alf_program.specs.declared.program.Expr.TheFolds.{fold-roll-Expr}
use Rattle.alf_program.specs.declared.program.Expr.TheVariants as exprs
use Rattle.alf_program.specs.Tree.{NamedExpression, expression_of, expressions_of, expression_step, NumberedExpression, NumberedExpressions, With, Apply, with_frames, all_with_frames}
use Rattle.alf_program.specs.Tree as text
use Rattle.alf_check.specs.declared.rows.Term.{Term as Numbered}
use Rattle.alf_check.specs.declared.rows.Term.TheFolds.{fold-roll-Term}
use Rattle.alf_check.specs.declared.rows.Term.TheVariants as terms
use Rattle.alf_check.specs.CheckedPrograms.{term_of, term_step}
use Rattle.alf_check.specs.Names.{numbers_of}
use Rattle.alf_check.proofs.expressions.+expressions.Goals as goal

numbered_each : (frame : List ℕ → ℕ) (ts : List NamedExpression)
    → expressions_of (map (with_frames frame) ts) ≡ all_with_frames frame (expressions_of ts)
numbered_each frame [] = refl
numbered_each frame (t ∷ ts) = ap (λ (x : NumberedExpressions). With (with_frames frame t) x) (numbered_each frame ts)

text_applies : (op : Op) (sizes : ArrayVec ℕ) (operands : Vec Expr Global) → expression_of (exprs.Apply op sizes operands) ≡ text.Apply op sizes.items (expressions_of (map expression_of operands.items))
text_applies op sizes operands = ap expression_of (sym (exprs.rolls-Apply op sizes operands)) ∙ fold-roll-Expr NamedExpression expression_step _

applies : (op : Op) (sizes : Vec ℕ Global) (operands : Vec Numbered Global)
    → term_of (terms.Apply op sizes operands) ≡ Apply op sizes.items (expressions_of (map term_of operands.items))
applies op sizes operands = ap term_of (sym (terms.rolls-Apply op sizes operands)) ∙ fold-roll-Term NumberedExpression term_step _

-- an operator with the same sizes and with numbered operands
applied : (frame : List ℕ → ℕ) (op : Op) (sizes copied : List ℕ) (ts : List NamedExpression) (trees : List NumberedExpression) → copied ≡ sizes → trees ≡ map (with_frames frame) ts
    → Apply op copied (expressions_of trees) ≡ with_frames frame (text.Apply op sizes (expressions_of ts))
applied frame op sizes copied ts trees same are =
    ap (λ (x : List ℕ). Apply op x (expressions_of trees)) same ∙ ap (λ (x : NumberedExpressions). Apply op sizes x) (ap expressions_of are ∙ numbered_each frame ts)

pub term-returns-in_ok-from_slice-in-Apply : goal.term-returns-in_ok-from_slice-in-Apply
term-returns-in_ok-from_slice-in-Apply t c =
    let frame = (numbers_of c.args.names.now).frame in
    let a = c.in-Apply in
    rw a.is (applies _ _ _
    ∙ applied frame a.op a.sizes.items c.in_ok-from_slice-in-Apply.field-0.items (map expression_of a.operands.items) (map term_of c.in_ok-operands-in-Apply.operands.items) (search rules) (search rules)
    ∙ ap (with_frames frame) (sym (text_applies a.op a.sizes a.operands)))
