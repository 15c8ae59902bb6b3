-- What abstract memories hold where functions are entered and where runs start.
--   filled m cell size v            the memory with this value in the cell
--   with_arguments frames vs m      each value in the frame of its argument, at its start
--   with_inits inits m              the words that frames hold at first
--   entered_with program f vs m     function f entered with these arguments
--   range_of row                    the words of an input inside its range
--   first_memory program rows       the memory at the start of runs: it holds each input inside its range
use Rattle.std.specs.Prelude.{ℕ, List, [], ◌∷◌, pos}
use Rattle.alf_check.specs.declared.rows.InitRow.{InitRow}
use Rattle.alf_check.specs.declared.rows.InputRow.{InputRow}
use Rattle.alf_check.specs.CheckedPrograms.{NumberedProgram}
use Rattle.alf_runs.specs.Steps.{frames_of}
use Rattle.alf_runs.specs.Entering.{args_at, inits_at}
use Rattle.progressions.specs.Progressions.{from_to}
use Rattle.strided_rules.specs.Strides.{Stride, norm}
use Rattle.pointer_rules.specs.AbstractValues.{AbstractValue, Words, alone}
use Rattle.memory_rules.specs.Memories.{Mem, fresh, stored, entered}
use Rattle.memory_rules.specs.AbstractSets.{abstract_sets}
use Rattle.transfer_rules.specs.Evaluating.{width_of, word_value}

-- the memory with this value in the cell
abbrev pub filled : Mem abstract_sets → ℕ → ℕ → ℕ → AbstractValue → Mem abstract_sets
filled m frame offset size v = stored abstract_sets m ((frame, offset) ∷ []) size v

-- each value in the frame of its argument, at its start
abbrev pub with_arguments : List ℕ → List AbstractValue → Mem abstract_sets → Mem abstract_sets
with_arguments [] vs m = m
with_arguments (frame ∷ frames) [] m = m
with_arguments (frame ∷ frames) (v ∷ vs) m = with_arguments frames vs (filled m frame 0 (width_of v) v)

-- the words that frames hold at first, in order
abbrev pub with_inits : List InitRow → Mem abstract_sets → Mem abstract_sets
with_inits [] m = m
with_inits (init ∷ inits) m = with_inits inits (filled m init.frame init.offset init.num.size (word_value init.num.size init.num.bits))

-- function f entered with these arguments
abbrev pub entered_with : NumberedProgram → ℕ → List AbstractValue → Mem abstract_sets → Mem abstract_sets
entered_with program f vs m = with_inits (inits_at program f) (with_arguments (args_at program f) vs (entered abstract_sets (frames_of program) m f))

-- the words of an input inside its range
abbrev pub range_of : InputRow → Stride
range_of row = record { size = row.size; numbers = norm row.size (from_to row.low row.high (pos 1)) }

-- each input inside its range, in order
abbrev pub with_inputs : List InputRow → Mem abstract_sets → Mem abstract_sets
with_inputs [] m = m
with_inputs (row ∷ rows) m = with_inputs rows (filled m row.frame row.offset row.size (alone (Words (range_of row))))

-- the memory at the start of runs
abbrev pub first_memory : NumberedProgram → List InputRow → Mem abstract_sets
first_memory program rows = with_inputs rows (entered_with program program.root [] (with_inits program.inits (fresh abstract_sets)))
