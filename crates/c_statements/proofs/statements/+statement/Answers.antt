-- The loop over what stands in a block: what was read so far, and that each statement takes some of the text.
use Rattle.std.proofs.Common.{◌≡◌, ◌++◌, ◌∷◌, [], map, sym, ◌∙◌}
use Rattle.std.proofs.lemmas.List.{map_push}
use Rattle.grammar.specs.RowLaws.{row_goes_on, row_fails, row_ends}
use Rattle.c_unit.specs.Tree.{statement_of}
use Rattle.c_grammar.specs.Statements.{in_block, standing}
use Rattle.c_reader.specs.Reading.{position, fault_of}
use Rattle.c_statements.proofs.statements.+statement.Goals as goal

pub block_items-row-smaller : goal.block_items-row-smaller
block_items-row-smaller t c = (standing c.args.nesting c.args.place).exact.shrinks (position c.row.reader) (statement_of c.in-Ok.item, position c.read_standing.new.reader) c.in-Ok.ensures

pub block_items-row-preserved : goal.block_items-row-preserved
block_items-row-preserved t c =
    let e : map statement_of c.push.new.self.items ≡ map statement_of c.row.items.items ++ statement_of c.in-Ok.item ∷ [] = rw c.in_ok-push-in-Ok.ensures.items (map_push _ c.row.items.items c.in-Ok.item) in
    rw e (row_goes_on in_block (standing c.args.nesting c.args.place) (map statement_of c.row.items.items) (position c.row.reader) (position c.args.reader.now) (statement_of c.in-Ok.item)
    (position c.read_standing.new.reader) (sym c.in_block.ensures ∙ c.row-test.true) c.in-Ok.ensures c.row.invariant)

pub block_items-returns-in-Err : goal.block_items-returns-in-Err
block_items-returns-in-Err t c =
    row_fails in_block (standing c.args.nesting c.args.place) (fault_of c.in-Err.error) (map statement_of c.row.items.items) (position c.row.reader) (position c.args.reader.now)
    (sym c.in_block.ensures ∙ c.row-test.true) c.in-Err.ensures c.row.invariant

pub block_items-returns : goal.block_items-returns
block_items-returns t c =
    row_ends in_block (standing c.args.nesting c.args.place) (map statement_of c.row.items.items) (position c.row.reader) (position c.args.reader.now) (sym c.in_block.ensures ∙ c.row-test.false) c.row.invariant
