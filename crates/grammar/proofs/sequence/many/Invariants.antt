-- The one loop of all lists: what was read, and that each part takes some of the text.
use Rattle.std.proofs.Common.{map}
use Rattle.grammar.specs.Form.{left}
use Rattle.grammar.specs.Rows.{RowSoFar}
use Rattle.grammar.proofs.sequence.many.Given as goal

abbrev pub invariant-loop-reader : goal.invariant-loop-reader
invariant-loop-reader g l =
    RowSoFar (g.P.Part.goes_on l.fn.part) (g.P.Part.rule l.fn.part) (map g.P.Part.view l.values.items) (g.P.Part.reading.position l.reader) (g.P.Part.reading.position l.fn.reader)

abbrev pub decreases-loop-reader : goal.decreases-loop-reader
decreases-loop-reader g l = left (g.P.Part.reading.position l.reader)
