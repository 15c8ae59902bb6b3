use Rattle.std.proofs.Common.{◌≡◌, ◌++◌, ◌∷◌, [], map}
use Rattle.std.proofs.lemmas.Result.{err_from_is_err_and}
use Rattle.std.proofs.lemmas.List.{map_push}
use Rattle.grammar.specs.RowLaws.{count_starts, count_goes_on, count_fails, count_ends}
use Rattle.alf_program.specs.Tree.{expression_of}
use Rattle.alf_reader.specs.Grammar.{expr}
use Rattle.alf_reader.specs.Reading.{position, fault_of}
use Rattle.alf_reader.proofs.reader.Reader.+expr.Goals as goal

pub operands-loop-init : goal.operands-loop-init
operands-loop-init t c = rw c.new-operands.ensures.items (count_starts (expr c.args.depth) c.args.count (position c.args.self.now))

pub operands-returns-in_err-expr : goal.operands-returns-in_err-expr
operands-returns-in_err-expr t c =
    let p = err_from_is_err_and c.from_residual.result c.from_residual.ensures.1 in
    rw (p.1, p.2) (count_fails (expr c.args.depth) c.args.count (fault_of c.in_err-expr.field-0.0) c.loop.counter (map expression_of c.loop.operands.items) (position c.loop.self) (position c.args.self.now) c.loop-test.true c.in_err-expr.ensures c.loop.invariant)

pub operands-loop-preserved : goal.operands-loop-preserved
operands-loop-preserved t c =
    let e : map expression_of c.push.new.self.items ≡ map expression_of c.loop.operands.items ++ expression_of c.in_ok-expr.field-0 ∷ [] = rw c.in_ok-push.ensures.items (map_push _ c.loop.operands.items c.in_ok-expr.field-0) in
    rw e (count_goes_on (expr c.args.depth) c.args.count c.loop.counter (map expression_of c.loop.operands.items) (position c.loop.self) (position c.args.self.now) (expression_of c.in_ok-expr.field-0) (position c.expr.new.self) c.loop-test.true c.in_ok-expr.ensures c.loop.invariant)

pub operands-returns : goal.operands-returns
operands-returns t c = count_ends (expr c.args.depth) c.args.count c.loop.counter (map expression_of c.loop.operands.items) (position c.loop.self) (position c.args.self.now) c.loop-test.false c.loop.invariant
