-- An outline with the notes of a program's code suits the recorder.
--   parts_fit      each part is one of which notes can be made
--   first_no_size  node 0 is an entry, of no size
--   code_is_noted  so an outline with the notes suits
use Rattle.std.proofs.Common.{◌≡◌, ◌≤◌, ℕ, length, All, sym, ap, ◌∙◌, arith}
use Rattle.std.proofs.lemmas.List.{length-map, get_or-map}
use Rattle.std.proofs.lemmas.List.Elements.{All-weaker}
use Rattle.alf_check.specs.CheckedPrograms.{NumberedProgram}
use Rattle.flow_graph.specs.Nodes.{first_node}
use Rattle.flow_graph.specs.Numbering.{GraphParts}
use Rattle.flow_graph.specs.Expansions.{IsExpansion}
use Rattle.domain_core.specs.Outlines.{Outlined, CostsFit}
use Rattle.line_cache.specs.declared.shape.Shape.{Shape}
use Rattle.line_cache.specs.Lines.{IsShape, IsPart, HasNoSize, IsNoted}
use Rattle.line_cache.specs.LineLaws.{notes_suit}
use Rattle.code_layout.specs.Layouts.{all_statements, most_statements, node_part, parts_of}
use Rattle.code_layout.specs.LayoutLaws.{IsLow, parts_low}
use Rattle.cache_analysis.specs.CodeAccesses.{HasCodeNotes}

module _ (program : NumberedProgram) (graph : GraphParts) (expansion : IsExpansion program graph) (few : all_statements program ≤ most_statements) where
  -- each part is one of which notes can be made
  pub parts_fit : All IsPart (parts_of program graph)
  parts_fit = All-weaker IsLow IsPart (λ part low. (omega (arith, low.0), omega (arith, low.1))) (parts_of program graph) (parts_low program graph expansion few)

  -- node 0 is an entry, of no size
  first_no_size : HasNoSize (parts_of program graph) 0
  first_no_size =
      let some = expansion.some in
      ap (λ (part : ℕ × ℕ). part.1) (get_or-map (node_part program) graph.nodes 0 first_node (0, 0) some ∙ ap (node_part program) expansion.first)

  -- so an outline with the notes suits
  pub code_is_noted : (shape : Shape) (o : Outlined) → IsShape shape → HasCodeNotes program graph shape o
      → length o.nodes ≡ length graph.nodes → CostsFit o → IsNoted o
  code_is_noted shape o shaped noted count costs =
      notes_suit shape (parts_of program graph) shaped parts_fit o (count ∙ sym (length-map graph.nodes (node_part program))) costs first_no_size noted
