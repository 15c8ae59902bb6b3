-- What is left to show of `notes`.
use Rattle.std.proofs.Common.{◌∙◌, subst, ℕ, List, All}
use Rattle.std.proofs.lemmas.List.Elements.{All-tail}
use Rattle.line_cache.specs.Lines.{IsPart, notes_of}
use Rattle.line_cache.specs.LineLaws.{notes_suit}
use Rattle.line_cache.proofs.Noting.{pair_more, pairs_over}
use Rattle.line_cache.proofs.outlines.notes.Goals as goal

pub loop-part-preserved : goal.loop-part-preserved
loop-part-preserved c = record {
  done = pair_more c.args.shape.line c.in-Some.part.now c.loop-part.rest.now c.in-Some.further.now c.loop-part.notes.items c.push_lines.new.notes.items (notes_of c.args.shape c.args.parts.now) c.in-Some.ensures.cases.0 c.in_ok-push_lines.ensures
      c.loop-part.invariant.done;
  small = All-tail IsPart c.in-Some.part.now c.in-Some.further.now (subst (λ (parts : List (ℕ × ℕ)). All IsPart parts) c.in-Some.ensures.cases.0 c.loop-part.invariant.small);
}

pub returns-clause-suits : goal.returns-clause-suits
returns-clause-suits c = λ o len costs none is.
    notes_suit c.args.shape c.args.parts.now c.requires.shape c.requires.parts o len costs none
    (is ∙ pairs_over c.args.shape.line c.loop-part.rest.now c.loop-part.notes.items (notes_of c.args.shape c.args.parts.now) c.in_default.ensures.cases c.loop-part.invariant.done)
