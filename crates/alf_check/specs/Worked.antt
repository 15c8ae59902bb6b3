-- A program, to be worked out.
--   item name             a jump to this label
--   three_blocks          seven items of three blocks: labels that stand together name one, and a label after a statement begins one
--   two_functions         a global, a function `f` that takes `a`, and a function `m` that calls it
use Rattle.std.specs.Prelude.{ℕ, false, List, [], ◌∷◌, Some, None, codes}
use Rattle.alf_program.specs.declared.program.Num.{Num}
use Rattle.alf_program.specs.Tree.{Number, Address, Load, Null, Store, Jump, Switch, Call, Return, BodyItem, Label, Do, Allocation, Function, WholeProgram}

abbrev pub jump : List ℕ → BodyItem
jump name = Do (Jump name)

abbrev pub three_blocks : List BodyItem
three_blocks = Label (codes "a") ∷ Label (codes "b") ∷ Do Null ∷ Label (codes "c") ∷ jump (codes "a") ∷ Do Null ∷ Do (Return None) ∷ []

abbrev pub five : ℕ → Num
five size = record { signed = false; size = size; bits = 5 }

abbrev pub frame : List ℕ → Allocation
frame name = record { name = name; bits = 8 }

-- `m` calls `f` with 5, has its result in `y`, and then goes round: where `g` holds 5 it is left; `x` holds 5 at first
abbrev pub two_functions : WholeProgram
two_functions = record {
  exports = codes "h" ∷ [];
  labels = [];
  decls = frame (codes "g") ∷ frame (codes "h") ∷ [];
  inits = record { name = codes "h"; offset = 0; num = five 8 } ∷ [];
  funcs = record { name = codes "f"; args = frame (codes "a") ∷ []; decls = frame (codes "b") ∷ []; inits = []; items = Do (Store (Address (codes "b") 0) (Load 8 (Address (codes "a") 0))) ∷ Do (Return (Some (Load 8 (Address (codes "b") 0)))) ∷ [] }
      ∷ record {
        name = codes "m";
        args = [];
        decls = frame (codes "x") ∷ frame (codes "y") ∷ [];
        inits = record { name = codes "x"; offset = 0; num = five 8 } ∷ [];
        items = Label (codes "k") ∷ Do (Call (codes "f") (Number (five 8) ∷ []) (Some (codes "y", 0))) ∷ Do (Switch (Load 8 (Address (codes "g") 0)) ((five 8, codes "e") ∷ []) (codes "k")) ∷ Label (codes "e") ∷ Do (Return None) ∷ [];
      } ∷ [];
}
