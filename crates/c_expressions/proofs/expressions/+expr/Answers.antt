-- The loops over operators and indices: what was made so far, and that each part takes some of the text.
use Rattle.std.proofs.Common.{sym, ◌∙◌}
use Rattle.grammar.specs.TurnLaws.{chain_goes_on, chain_fails}
use Rattle.c_unit.specs.Tree.{expression_of}
use Rattle.c_grammar.specs.Expressions.{at_operation, operation, at_index, index, deeper_of}
use Rattle.c_reader.specs.Reading.{position, fault_of}
use Rattle.c_expressions.proofs.expressions.+expr.Goals as goal

pub operations-chain-smaller : goal.operations-chain-smaller
operations-chain-smaller t c =
    (operation c.args.depth (deeper_of c.args.parens c.args.depth) c.args.logical (expression_of c.chain.value)).exact.shrinks (position c.chain.reader) (expression_of c.in-Ok.next, position c.operation.new.reader) c.in-Ok.ensures

pub operations-chain-preserved : goal.operations-chain-preserved
operations-chain-preserved t c =
    chain_goes_on (at_operation c.args.min c.args.logical) (operation c.args.depth (deeper_of c.args.parens c.args.depth) c.args.logical) (expression_of c.args.left) (expression_of c.chain.value)
    (position c.chain.reader) (position c.args.reader.now) (expression_of c.in-Ok.next) (position c.operation.new.reader) (sym c.at_operation.ensures ∙ c.chain-test.true) c.in-Ok.ensures c.chain.invariant

pub operations-returns-in-Err : goal.operations-returns-in-Err
operations-returns-in-Err t c =
    chain_fails (at_operation c.args.min c.args.logical) (operation c.args.depth (deeper_of c.args.parens c.args.depth) c.args.logical) (expression_of c.args.left) (expression_of c.chain.value)
    (position c.chain.reader) (position c.args.reader.now) (fault_of c.in-Err.error) (sym c.at_operation.ensures ∙ c.chain-test.true) c.in-Err.ensures c.chain.invariant

pub indexed-chain-smaller : goal.indexed-chain-smaller
indexed-chain-smaller t c =
    (index c.args.depth (deeper_of c.args.parens c.args.depth) (expression_of c.chain.value)).exact.shrinks (position c.chain.reader) (expression_of c.in-Ok.next, position c.read_index.new.reader) c.in-Ok.ensures

pub indexed-chain-preserved : goal.indexed-chain-preserved
indexed-chain-preserved t c =
    chain_goes_on at_index (index c.args.depth (deeper_of c.args.parens c.args.depth)) (expression_of c.args.base) (expression_of c.chain.value)
    (position c.chain.reader) (position c.args.reader.now) (expression_of c.in-Ok.next) (position c.read_index.new.reader) (sym c.at_index.ensures ∙ c.chain-test.true) c.in-Ok.ensures c.chain.invariant

pub indexed-returns-in-Err : goal.indexed-returns-in-Err
indexed-returns-in-Err t c =
    chain_fails at_index (index c.args.depth (deeper_of c.args.parens c.args.depth)) (expression_of c.args.base) (expression_of c.chain.value)
    (position c.chain.reader) (position c.args.reader.now) (fault_of c.in-Err.error) (sym c.at_index.ensures ∙ c.chain-test.true) c.in-Err.ensures c.chain.invariant
