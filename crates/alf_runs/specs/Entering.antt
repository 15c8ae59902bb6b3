-- Functions entered and left. What is stored here lies in frames that are active, so that these stores have no fault.
--   with_arguments frames values history   the history after each value is stored at the start of the frame of its argument
--   with_inits inits history               the history after the frames hold what they hold at first
--   entered program f values history       the history after function f is entered with these arguments
use Rattle.std.specs.Prelude.{ℕ, List, [], ◌∷◌, slice_get}
use Rattle.std.specs.Option.{option_map_or}
use Rattle.alf_ops.specs.declared.history.Value.{Value}
use Rattle.alf_ops.specs.declared.history.Value.TheVariants.{Int}
use Rattle.alf_ops.specs.declared.history.RunEvent.{RunEvent}
use Rattle.alf_ops.specs.declared.history.RunEvent.TheVariants.{Enter, Store}
use Rattle.alf_ops.specs.Values.{size_of}
use Rattle.alf_check.specs.declared.rows.InitRow.{InitRow}
use Rattle.alf_check.specs.CheckedPrograms.{NumberedProgram}

-- each value is stored at the start of the frame of its argument, in order
abbrev pub with_arguments : List ℕ → List Value → List RunEvent → List RunEvent
with_arguments [] values history = history
with_arguments (frame ∷ frames) [] history = history
with_arguments (frame ∷ frames) (value ∷ values) history = with_arguments frames values (Store frame 0 (size_of value) value ∷ history)

-- the frames hold what they hold at first: its words are stored in order
abbrev pub with_inits : List InitRow → List RunEvent → List RunEvent
with_inits [] history = history
with_inits (init ∷ inits) history = with_inits inits (Store init.frame init.offset init.num.size (Int init.num.size init.num.bits) ∷ history)

-- the frames of the arguments of function f, and what its frames hold at first
abbrev pub args_at : NumberedProgram → ℕ → List ℕ
args_at program f = option_map_or (λ function. function.args) (slice_get program.funcs f) []

abbrev pub inits_at : NumberedProgram → ℕ → List InitRow
inits_at program f = option_map_or (λ function. function.inits) (slice_get program.funcs f) []

-- function f is entered, gets these arguments, and its frames hold what they hold at first
abbrev pub entered : NumberedProgram → ℕ → List Value → List RunEvent → List RunEvent
entered program f values history = with_inits (inits_at program f) (with_arguments (args_at program f) values (Enter f ∷ history))
