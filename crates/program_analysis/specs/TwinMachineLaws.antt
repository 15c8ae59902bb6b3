-- Laws of twin machines.
--   machines_are_twins            the machines answer with such memories
--   first_twin   the memories at the start
use Rattle.std.proofs.Common.{◌≡◌, ℕ, Bool, List, [], ◌∷◌, map, length, refl, sym, ap, subst, ◌∙◌}
use Rattle.std.specs.List.{AllZip}
use Rattle.alf_ops.specs.declared.history.FrameShape.{FrameShape}
use Rattle.alf_ops.specs.Histories.{offsets}
use Rattle.alf_check.specs.Shapes.{shapes_of}
use Rattle.alf_check.specs.declared.rows.InputRow.{InputRow}
use Rattle.alf_check.specs.CheckedPrograms.{CheckedParts, NumberedProgram, seen}
use Rattle.flow_graph.specs.Numbering.{GraphParts}
use Rattle.memory_model.specs.HeldMemories.{memory_of}
use Rattle.memory_rules.specs.Memories.{Mem, both}
use Rattle.memory_rules.specs.AbstractSets.{abstract_sets}
use Rattle.transfer_rules.specs.Remains.{Remains}
use Rattle.transfer_rules.specs.Filling.{first_memory}
use Rattle.transfer_rules.specs.Stepping.{Goals, goals_left}
use Rattle.transfer_rules.specs.Machines.{numbered_goal, goals_from}
use Rattle.memory_model.specs.KeptMemories.{MemoryParts, memory_in, rows_of, functions_of}
use Rattle.memory_model.specs.Made.{made, frames_from}
use Rattle.memory_model.specs.SeenOrders.{parts_order, joined}
use Rattle.transfer_rules.specs.MadeMachines.{made_at}
use Rattle.transfer_rules.specs.PartMachines.{part_machine}
use Rattle.program_analysis.specs.TwinRuns.{AreTwins, GoesWith}
use Rattle.program_analysis.specs.TwinMachines.{IsProgramOf, IsTwin}

module _ (program : NumberedProgram) (checked other : CheckedParts) (first : IsProgramOf program checked) (second : IsProgramOf program other) where
  -- the two are seen as one program
  same_program : seen checked ≡ seen other
  same_program = first ∙ sym second

  same_functions : functions_of checked ≡ functions_of other
  same_functions = ap (λ (p : NumberedProgram). length p.funcs) same_program

  same_rows : rows_of checked ≡ rows_of other
  same_rows = ap (λ (p : NumberedProgram). shapes_of p.frames) same_program

  -- what is made of a memory
  made_twin : (m : Mem abstract_sets) → IsTwin checked other (made checked m) (made other m)
  made_twin m = record {
    first = refl;
    second = refl;
    running = ap (λ (count : ℕ). map m.runs (offsets 0 count)) same_functions;
    frames = ap (λ (rows : List FrameShape). frames_from m.frames 0 rows) same_rows;
  }

  -- what twins stand for
  same_memory : (t u : MemoryParts) → IsTwin checked other t u → memory_in t ≡ memory_in u
  same_memory t u twin = ap (λ (running : List Bool). memory_of running t.frames) twin.running ∙ ap (memory_of u.running) twin.frames

  joined_twin : (t u v w : MemoryParts) → IsTwin checked other t u → IsTwin checked other v w
      → IsTwin checked other (joined t v) (joined u w)
  joined_twin t u v w one two =
      let m = both abstract_sets (memory_in t) (memory_in v) in
      let same : m ≡ both abstract_sets (memory_in u) (memory_in w) =
      ap (λ (k : Mem abstract_sets). both abstract_sets k (memory_in v)) (same_memory t u one) ∙ ap (both abstract_sets (memory_in u)) (same_memory v w two) in
      subst (λ (c : CheckedParts). IsTwin checked other (made c m) (joined u w)) (sym one.first)
      (subst (λ (c : CheckedParts). IsTwin checked other (made checked m) (made c (both abstract_sets (memory_in u) (memory_in w)))) (sym one.second)
      (subst (λ (k : Mem abstract_sets). IsTwin checked other (made checked m) (made other k)) same (made_twin m)))

  module _ (graph : GraphParts) (rows : List InputRow) where
    -- a step of the one is a step of the other
    same_step : (n : ℕ) (m : Mem abstract_sets)
        → goals_from (seen checked) graph n m ≡ goals_from (seen other) graph n m
    same_step n m = ap (λ (p : NumberedProgram). goals_from p graph n m) same_program

    goes_with : (points : List (ℕ × Mem abstract_sets)) → AllZip (GoesWith (IsTwin checked other)) (map (made_at (made checked)) points) (map (made_at (made other)) points)
    goes_with [] = tt
    goes_with (point ∷ points) = ((made other point.1, made_twin point.1, refl), goes_with points)

    same_first : first_memory (seen checked) rows ≡ first_memory (seen other) rows
    same_first = ap (λ (p : NumberedProgram). first_memory p rows) same_program

    -- the memories at the start
    pub first_twin : IsTwin checked other (part_machine checked graph rows).first (part_machine other graph rows).first
    first_twin = subst (λ (m : Mem abstract_sets). IsTwin checked other (made checked (first_memory (seen checked) rows)) (made other m)) same_first
        (made_twin (first_memory (seen checked) rows))

    abbrev points_of : ℕ → Remains Goals → List (ℕ × Mem abstract_sets)
    points_of n r = map (numbered_goal graph) (goals_left r.left)

    pub machines_are_twins : AreTwins (part_machine checked graph rows) (part_machine other graph rows) parts_order (IsTwin checked other)
    machines_are_twins = record {
      next = λ n t u twin.
          let same : goals_from (seen checked) graph n (memory_in t) ≡ goals_from (seen other) graph n (memory_in u) =
          ap (goals_from (seen checked) graph n) (same_memory t u twin) ∙ same_step n (memory_in u) in
          subst (λ (r : Remains Goals). AllZip (GoesWith (IsTwin checked other)) (map (made_at (made checked)) (points_of n (goals_from (seen checked) graph n (memory_in t)))) (map (made_at (made other)) (points_of n r))) same
          (goes_with (points_of n (goals_from (seen checked) graph n (memory_in t))));
      faults = λ n t u twin.
          ap (λ (m : Mem abstract_sets). (goals_from (seen checked) graph n m).faults) (same_memory t u twin) ∙ ap (λ (r : Remains Goals). r.faults) (same_step n (memory_in u));
      joined = joined_twin;
    }
