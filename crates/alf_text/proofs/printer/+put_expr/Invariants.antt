use Rattle.std.proofs.Common.{◌≡◌, map, take}
use Rattle.std.specs.List.{flat_map}
use Rattle.alf_program.specs.Tree.{expression_of}
use Rattle.alf_text.specs.Canonical.{term_marks}
use Rattle.alf_text.specs.Printing.{all_put}
use Rattle.alf_text.proofs.printer.+put_expr.Given as goal

abbrev pub invariant-put_exprs-loop-expr : goal.invariant-put_exprs-loop-expr
invariant-put_exprs-loop-expr l = l.out.items ≡ all_put l.fn.out.items (flat_map term_marks (map expression_of (take l.expr-index l.exprs)))
