-- What the loop over the parts keeps.
use Rattle.std.proofs.Common.{◌≡◌, ◌++◌, length, All}
use Rattle.line_cache.specs.Lines.{IsPart, line_pairs, notes_of}
use Rattle.line_cache.proofs.outlines.notes.Given as goal

abbrev pub invariant-loop-part : goal.invariant-loop-part
invariant-loop-part l = record {
  done : l.notes.items ++ line_pairs l.shape.line l.rest ≡ notes_of l.shape l.parts;
  small : All IsPart l.rest;
}

abbrev pub decreases-loop-part : goal.decreases-loop-part
decreases-loop-part l = length l.rest
