-- The parts are such that notes can be made of them.
use Rattle.std.proofs.Common.{◌∙◌, ℕ, List, All, sym, ap, subst}
use Rattle.alf_check.specs.CheckedPrograms.{NumberedProgram, seen}
use Rattle.domain_core.specs.Outlines.{Outlined}
use Rattle.line_cache.specs.Lines.{IsPart, notes_of}
use Rattle.cache_analysis.proofs.NotedLaws.{parts_fit}
use Rattle.cache_analysis.proofs.lines.set_lines.Goals as goal

pub notes-requires-clause-parts : goal.notes-requires-clause-parts
notes-requires-clause-parts c =
    let program : NumberedProgram = seen c.args.checked.now in
    let graph = c.args.graph.now in
    let fit = parts_fit program graph (c.graphs_are_expansions.ensures program graph c.keeps.ensures c.requires.graph) c.requires.few in
    subst (λ (parts : List (ℕ × ℕ)). All IsPart parts) (sym (c.deref.ensures.value ∙ c.in_ok-parts.ensures)) fit

pub returns : goal.returns
returns c =
    let old : Outlined = c.args.outline.now in
    let made : List ℕ → Outlined = λ notes. record { edges = old.edges; nodes = old.nodes; scopes = old.scopes; notes = notes } in
    c.set_notes.ensures
    ∙ ap made (c.in_ok-notes.ensures.notes ∙ ap (notes_of c.args.shape) (c.deref.ensures.value ∙ c.in_ok-parts.ensures))
