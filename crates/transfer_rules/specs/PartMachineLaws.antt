-- Laws of part machines.
--   is_part_machine                  it keeps the laws of a stepper
--   is_part_along                    and its steps lie along the edges of the graph's outline
use Rattle.std.specs.Prelude.{Contains}
use Rattle.std.proofs.Common.{◌≡◌, ℕ, true, List, [], ◌∷◌, length, Some, ◌<◌, refl, sym, ap, subst, ◌∙◌, arith}
use Rattle.lists.specs.MemberLaws.{first_or_further, no_member}
use Rattle.alf_ops.specs.declared.history.RunEvent.{RunEvent}
use Rattle.alf_check.specs.declared.rows.InputRow.{InputRow}
use Rattle.alf_check.specs.CheckedPrograms.{CheckedParts, NumberedProgram, seen}
use Rattle.alf_check.specs.Kept.{IsKept}
use Rattle.flow_graph.specs.Nodes.{function_at, first_node}
use Rattle.flow_graph.specs.Paths.{IsCallPath}
use Rattle.flow_graph.specs.PathLaws.{path_low}
use Rattle.flow_graph.specs.Numbering.{GraphParts}
use Rattle.flow_graph.specs.Expansions.{IsExpansion, node_number}
use Rattle.alf_runs.specs.Steps.{frames_of}
use Rattle.alf_runs.specs.Places.{functions_on}
use Rattle.domain_core.specs.Machines.{IsMachine, IsAlong}
use Rattle.domain_core.specs.Outlines.{Shape}
use Rattle.memory_rules.specs.Memories.{Mem, MemSized}
use Rattle.memory_rules.specs.AbstractSets.{abstract_sets}
use Rattle.transfer_rules.specs.Machines.{CoversHistory, SharpFor, Fits, memory_order, run_machine}
use Rattle.transfer_rules.specs.MachineLaws.{own_order_suits, is_machine, is_along}
use Rattle.transfer_rules.specs.SteppingLaws.{same_along}
use Rattle.memory_model.specs.KeptMemories.{MemoryParts, memory_in, rows_of, functions_of, IsMemory}
use Rattle.memory_model.specs.Made.{made}
use Rattle.memory_model.specs.KeptMemoryLaws.{memory_is, made_is}
use Rattle.memory_model.specs.SeenOrders.{parts_order}
use Rattle.memory_model.specs.SeenOrderLaws.{joined_seen, joined_is}
use Rattle.transfer_rules.specs.Inside.{IsInside}
use Rattle.transfer_rules.specs.Clipped.{clipped}
use Rattle.transfer_rules.specs.ClippedLaws.{clip_within, made_clipped, clip_sized, clip_runs, clip_covers, clip_sharp}
use Rattle.transfer_rules.specs.MadeMachines.{IsMade}
use Rattle.transfer_rules.specs.MadeMachineLaws.{IsOrdered, made_is_machine, made_is_along}
use Rattle.transfer_rules.specs.RunsInsideLaws.{steps_inside, starts_inside}
use Rattle.transfer_rules.specs.PartMachines.{IsOwn, KeepsParts, part_machine}

-- ---- what is made of a memory

-- what is made of it stands for the memory without what lies outside the frames
made_seen : (checked : CheckedParts) (m : Mem abstract_sets)
    → memory_in (made checked m) ≡ clipped (functions_of checked) (rows_of checked) m
made_seen checked m =
    ap memory_in (sym (made_clipped checked m))
    ∙ memory_is checked (clipped (functions_of checked) (rows_of checked) m) (clip_within (functions_of checked) (rows_of checked) m)

made_own : (checked : CheckedParts) (m : Mem abstract_sets) → MemSized abstract_sets m → IsOwn checked (made checked m)
made_own checked m sized = record {
  checked = refl;
  is = subst IsMemory (made_clipped checked m)
      (made_is checked (clipped (functions_of checked) (rows_of checked) m) (clip_within (functions_of checked) (rows_of checked) m) (clip_sized (functions_of checked) (rows_of checked) m sized));
}

-- each function on a call path is one of the program
functions_low : (program : NumberedProgram) → IsKept program → (path : List ℕ) → IsCallPath program path → (f : ℕ)
    → Contains (functions_on program path) f → f < length program.funcs
functions_low program keeps [] calls f among = first_or_further program.root [] f among
    (λ same. subst (λ (g : ℕ). g < length program.funcs) same keeps.root)
    (λ none. no_member f none)
functions_low program keeps (b ∷ path) calls f among = first_or_further (function_at program (b ∷ path)) (functions_on program path) f among
    (λ same. subst (λ (g : ℕ). g < length program.funcs) same (path_low program keeps (b ∷ path) calls))
    (λ rest. functions_low program keeps path calls.1 f rest)

module _ (checked : CheckedParts) (graph : GraphParts) (rows : List InputRow) (kept : KeepsParts checked graph rows) where
  expansion : IsExpansion (seen checked) graph
  expansion = kept.machine.promises.points.expands (seen checked) graph kept.machine.keeps kept.machine.is

  -- functions that run in a memory that fits a node are those of the program
  runs_low : (n : ℕ) (m : Mem abstract_sets) → Fits (seen checked) graph n m → (f : ℕ) → m.runs f ≡ true
      → f < functions_of checked
  runs_low n m fits f on =
      functions_low (seen checked) kept.machine.keeps (node_number graph n).path (expansion.places n fits.low).placed.path f ((fits.along (Some f)).0 on)

  clip_fits : (n : ℕ) (m : Mem abstract_sets) → Fits (seen checked) graph n m
      → Fits (seen checked) graph n (clipped (functions_of checked) (rows_of checked) m)
  clip_fits n m fits = record {
    low = fits.low;
    sized = clip_sized (functions_of checked) (rows_of checked) m fits.sized;
    along = same_along (seen checked) (node_number graph n).path m (clipped (functions_of checked) (rows_of checked) m)
        (clip_runs (functions_of checked) (rows_of checked) m (runs_low n m fits)) fits.along;
  }

  is_made : IsMade memory_in (made checked) (IsOwn checked) (IsInside (rows_of checked)) (run_machine (seen checked) graph rows)
  is_made = record {
    own = λ n m fits. made_own checked m fits.sized;
    fits = λ n m fits. subst (Fits (seen checked) graph n) (sym (made_seen checked m)) (clip_fits n m fits);
    covers = λ n m history fits inside covers.
        subst (λ (k : Mem abstract_sets). CoversHistory (seen checked) k history) (sym (made_seen checked m)) (record {
          sound = covers.sound;
          covers = clip_covers (functions_of checked) (rows_of checked) m history (runs_low n m fits) inside covers.covers;
        });
    sharp = λ n m history fits inside sharp.
        subst (λ (k : Mem abstract_sets). SharpFor (seen checked) k history) (sym (made_seen checked m)) (record {
          sound = sharp.sound;
          sharp = clip_sharp (functions_of checked) (rows_of checked) m history (runs_low n m fits) inside sharp.sharp;
        });
    starts = λ history start. starts_inside kept.stores (seen checked) kept.machine.keeps rows first_node history kept.machine.inputs start;
    goes = λ n k m before later goes inside covers.
        steps_inside kept.stores (seen checked) kept.machine.keeps (node_number graph n) (node_number graph k) before later (expansion.places n goes.from).placed inside covers.sound goes.steps;
    inner = λ n k before later goes same. let low : k < length graph.nodes = goes.to in let at : k ≡ length graph.nodes = same in omega (arith, low, at);
  }

  is_ordered : IsOrdered memory_in (IsOwn checked) (run_machine (seen checked) graph rows) (memory_order (seen checked)) parts_order
  is_ordered = record {
    alike = λ a b first second alike. record { checked = first.checked ∙ sym second.checked; runs = alike.runs; first = first.is; second = second.is };
    above = λ a b history under covers. record { sound = covers.sound; covers = under (frames_of (seen checked)) history covers.sound covers.covers };
    joined = λ a b alike. joined_seen a b alike;
    joined_own = λ a b first alike. record { checked = first.checked; is = joined_is a b alike };
  }

  -- it keeps the laws of a stepper
  pub is_part_machine : IsMachine MemoryParts (List RunEvent) parts_order (part_machine checked graph rows)
  is_part_machine =
      let laws = is_machine (seen checked) graph rows kept.machine (memory_order (seen checked)) (own_order_suits (seen checked)) in
      let made_laws = made_is_machine memory_in (made checked) (IsOwn checked) (IsInside (rows_of checked)) (run_machine (seen checked) graph rows) (memory_order (seen checked)) parts_order laws is_made is_ordered in
      record {
        first_fits = made_laws.first_fits;
        next_fits = made_laws.next_fits;
        joined_fits = made_laws.joined_fits;
        fits_alike = made_laws.fits_alike;
        above_covers = made_laws.above_covers;
        first_covers = made_laws.first_covers;
        next_covers = made_laws.next_covers;
        end_follows = made_laws.end_follows;
        fault_told = made_laws.fault_told;
        sharp_covers = made_laws.sharp_covers;
        first_sharp = made_laws.first_sharp;
        next_sharp = made_laws.next_sharp;
        end_sharp = made_laws.end_sharp;
        fault_sharp = made_laws.fault_sharp;
      }

  -- and its steps lie along the edges of an outline of the graph
  pub is_part_along : (o : Shape) → o.edges ≡ graph.edges → length o.own ≡ length graph.nodes
      → IsAlong MemoryParts (List RunEvent) o (part_machine checked graph rows)
  is_part_along o edges count =
      let along = made_is_along memory_in (made checked) (IsOwn checked) (IsInside (rows_of checked)) (run_machine (seen checked) graph rows) o
      (is_along (seen checked) graph rows kept.machine o edges count) in
      record { exit_is = along.exit_is; next_along = along.next_along; goes_along = along.goes_along; ends_along = along.ends_along }
