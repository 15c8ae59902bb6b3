-- Stores and loads of a frame of 128 bits, to be worked out.
--   one_frame              the table, with one global frame
--   four_cells             the cells of 32 bits at 0, 4, 8 and 12
--   zeros                  one store of 0 to each of them
--   told before offset size      the joined value and the faults of a load of this cell, where these cells are 0 before, and after 7 is stored to one of the four
--   told_after set offset size   the same where these values alone are stored, at 0
use Rattle.std.specs.Prelude.{ℕ, List, [], ◌∷◌, Option, None}
use Rattle.alf_ops.specs.declared.history.RunFault.{RunFault}
use Rattle.alf_ops.specs.declared.history.FrameShape.{FrameShape}
use Rattle.strided_rules.specs.Strides.{Stride, one_word}
use Rattle.pointer_rules.specs.AbstractValues.{AbstractValue, Words, Places, alone}
use Rattle.memory_rules.specs.Memories.{Mem, fresh, stored, load_all, joined_values, faults_of}
use Rattle.memory_rules.specs.AbstractSets.{abstract_sets}

-- the table, with one global frame
abbrev pub one_frame : List FrameShape
one_frame = record { owner = None; bits = 128 } ∷ []

abbrev pub four_cells : List (ℕ × ℕ)
four_cells = (0, 0) ∷ (0, 4) ∷ (0, 8) ∷ (0, 12) ∷ []

-- one store of 0 to each of them
abbrev pub zeros : List (ℕ × ℕ)
zeros = four_cells

abbrev pub words_alone : Stride → AbstractValue
words_alone words = alone (Words words)

-- a pointer to this frame
abbrev pub pointer_alone : Stride → AbstractValue
pointer_alone members = alone (Places 0 members)

-- each of these cells is 0
abbrev pub zeroed : List (ℕ × ℕ) → Mem abstract_sets
zeroed [] = fresh abstract_sets
zeroed (cell ∷ cells) = stored abstract_sets (zeroed cells) (cell ∷ []) 32 (words_alone (one_word 32 0))

abbrev pub told : List (ℕ × ℕ) → ℕ → ℕ → Option AbstractValue × List RunFault
told before offset size =
    let results = load_all abstract_sets (stored abstract_sets (zeroed before) four_cells 32 (words_alone (one_word 32 7))) ((0, offset) ∷ []) size in
    (joined_values abstract_sets None results, faults_of abstract_sets results)

abbrev pub told_after : AbstractValue → ℕ → ℕ → Option AbstractValue × List RunFault
told_after set offset size =
    let results = load_all abstract_sets (stored abstract_sets (fresh abstract_sets) ((0, 0) ∷ []) 32 set) ((0, offset) ∷ []) size in
    (joined_values abstract_sets None results, faults_of abstract_sets results)
