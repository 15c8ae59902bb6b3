-- What `run` tells of a run.
--   value_text program value       a word as a signed decimal, a pointer as its frame's name and its offset
--   outcome_lines expanded last outcome   the lines of how a run ends, with the number of its last node
--   run_text expanded last outcome turns cost   the whole text, with the count of its nodes and what they cost
use Rattle.std.specs.Prelude.{ℕ, List, [], ◌∷◌, ◌++◌, Option, None, Some, codes, decimal, slice_get}
use Rattle.std.specs.Option.{option_map_or}
use Rattle.std.specs.List.{flat_map, zip}
use Rattle.std.specs.Fmt.{signed_decimal}
use Rattle.alf_ops.specs.declared.history.Value.{Value}
use Rattle.alf_ops.specs.declared.history.Value.TheVariants.{Int, Ptr}
use Rattle.alf_ops.specs.declared.history.RunFault.{RunFault}
use Rattle.alf_ops.specs.TwosComplement.{signed}
use Rattle.alf_check.specs.declared.rows.FrameRow.{FrameRow}
use Rattle.alf_check.specs.CheckedPrograms.{NumberedProgram}
use Rattle.flow_graph.specs.Names.{quoted}
use Rattle.alf_runs.specs.Outcomes.{Outcome, Ended, Faulted, Lost}
use Rattle.program_files.specs.Expanding.{Expanded}
use Rattle.answer_texts.specs.FaultWords.{fault_word}
use Rattle.answer_texts.specs.ScopeLines.{name_of}

-- ---- values

-- the name of a frame in quotes
abbrev pub frame_text : NumberedProgram → ℕ → List ℕ
frame_text program frame = quoted (option_map_or (λ (row : FrameRow). row.name) (slice_get program.frames frame) [])

-- a word as a signed decimal of its size, a pointer as the name of its frame, a plus and its offset
abbrev pub value_text : NumberedProgram → Value → List ℕ
value_text program (Int size bits) = signed_decimal (signed size bits)
value_text program (Ptr frame offset) = frame_text program frame ++ (43 ∷ decimal offset)

-- a dash where nothing can be loaded
abbrev pub loaded_text : NumberedProgram → Option Value → List ℕ
loaded_text program None = codes "-"
loaded_text program (Some value) = value_text program value

-- ---- lines

abbrev pub returned_line : NumberedProgram → Option Value → List ℕ
returned_line program None = codes "returned\n"
returned_line program (Some value) = codes "returned " ++ (value_text program value ++ 10 ∷ [])

abbrev pub global_line : NumberedProgram → ℕ → Option Value → List ℕ
global_line program frame value = codes "global " ++ (frame_text program frame ++ (32 ∷ (loaded_text program value ++ 10 ∷ [])))

-- a line for each exported frame, in order
abbrev pub global_lines : NumberedProgram → List (ℕ × Option Value) → List ℕ
global_lines program globals = flat_map (λ (global : ℕ × Option Value). global_line program global.0 global.1) globals

-- the fault that ends a run, and the name of the node at which it does
abbrev pub stopped_line : RunFault → List ℕ → List ℕ
stopped_line cause name = codes "stopped " ++ (fault_word cause ++ (32 ∷ (name ++ 10 ∷ [])))

-- how a run ends: with what it returned and what the exported frames hold, or with a fault at its last node
abbrev pub outcome_lines : Expanded → Option ℕ → Outcome → List ℕ
outcome_lines expanded last (Ended outputs) = returned_line expanded.program outputs.returned ++ global_lines expanded.program (zip expanded.program.exports outputs.globals)
outcome_lines expanded last (Faulted cause) = stopped_line cause (option_map_or (name_of expanded.graph) last [])
outcome_lines expanded last Lost = []

-- the count of the run's nodes and their cost come last
abbrev pub run_text : Expanded → Option ℕ → Outcome → ℕ → ℕ → List ℕ
run_text expanded last outcome turns cost =
    outcome_lines expanded last outcome ++ (codes "turns " ++ (decimal turns ++ (codes "\ncost " ++ (decimal cost ++ 10 ∷ []))))
