-- The accesses of the runs of a program to an instruction cache.
--   code_lines program graph line      the lines of each node's block; an entry has none
--   code_accesses program graph shape c trace   the accesses of a run with these nodes, where the cache has c at first
--   HasCodeNotes program graph shape o   the outline has the notes of the cache and of the lines of its nodes
use Rattle.std.specs.Prelude.{◌≡◌, ℕ, List, slice_index_or}
use Rattle.alf_check.specs.CheckedPrograms.{NumberedProgram}
use Rattle.flow_graph.specs.Numbering.{GraphParts}
use Rattle.domain_core.specs.Outlines.{Outlined}
use Rattle.line_cache.specs.declared.shape.Shape.{Shape}
use Rattle.line_cache.specs.Lines.{notes_of}
use Rattle.line_cache.specs.Lru.{Contents, Access, accesses_past}
use Rattle.line_cache.specs.PartLines.{part_lines}
use Rattle.code_layout.specs.Layouts.{parts_of}

-- the lines of each node's block
abbrev pub code_lines : NumberedProgram → GraphParts → ℕ → ℕ → List ℕ
code_lines program graph line n = part_lines line (slice_index_or (parts_of program graph) n (0, 0))

-- the accesses of a run with these nodes
abbrev pub code_accesses : NumberedProgram → GraphParts → Shape → Contents → List ℕ → List Access
code_accesses program graph shape c trace = accesses_past shape.sets shape.ways (code_lines program graph shape.line) c trace

-- the outline has the notes of the cache and of the lines of its nodes
abbrev pub HasCodeNotes : NumberedProgram → GraphParts → Shape → Outlined → Type 0
HasCodeNotes program graph shape o = o.notes ≡ notes_of shape (parts_of program graph)
