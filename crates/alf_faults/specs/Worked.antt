-- Programs with faults, to be worked out.
--   word size bits            a number of this size
--   frame name bits           a frame
--   from_zero name size       what the first bits of a frame hold at first: 0, of this size
--   function_of name items    a function of this name without frames
--   of_functions funcs        a program of these functions
--   with_every_name           a program in which each name stands wrong once
--   with_names_twice          a program in which names stand twice
--   with_items items          a function `m` of these items, with a global frame `x` of 32 bits
--   exported bits, started size   a frame of so many bits that is exported; one of 32 bits that holds a number of this size at first
--   called_behind result, called_before result   `m` calls `f`, which gives 32 bits and stands behind it or before it
--   switched targets          items with a switch on 8 bits and these targets
use Rattle.std.specs.Prelude.{ℕ, false, List, [], ◌∷◌, Option, Some, None, codes}
use Rattle.alf_program.specs.declared.program.Num.{Num}
use Rattle.alf_program.specs.Tree.{NamedExpression, Number, Address, Load, Jump, Switch, Call, Return, BodyItem, Label, Do, Allocation, InitialValue, Function, WholeProgram}

abbrev pub word : ℕ → ℕ → NamedExpression
word size bits = Number (record { signed = false; size = size; bits = bits })

abbrev pub frame : List ℕ → ℕ → Allocation
frame name bits = record { name = name; bits = bits }

abbrev pub from_zero : List ℕ → ℕ → InitialValue
from_zero name size = record { name = name; offset = 0; num = record { signed = false; size = size; bits = 0 } }

abbrev pub function_of : List ℕ → List BodyItem → Function
function_of name items = record { name = name; args = []; decls = []; inits = []; items = items }

abbrev pub of_functions : List Function → WholeProgram
of_functions funcs = record { exports = []; labels = []; decls = []; inits = []; funcs = funcs }

abbrev pub returned : BodyItem
returned = Do (Return None)

-- the exported frame `e`, the exported label `l`, what `i` and `j` hold at first, and what the items of `m` name are
-- nowhere
abbrev pub with_every_name : WholeProgram
with_every_name = record {
  exports = codes "e" ∷ [];
  labels = codes "l" ∷ codes "m" ∷ [];
  decls = frame (codes "x") 32 ∷ [];
  inits = from_zero (codes "i") 8 ∷ [];
  funcs = record {
    name = codes "m";
    args = [];
    decls = frame (codes "y") 8 ∷ [];
    inits = from_zero (codes "j") 8 ∷ [];
    items = Do (Call (codes "f") (Load 8 (Address (codes "a") 0) ∷ Load 8 (Address (codes "y") 0) ∷ []) (Some (codes "r", 0))) ∷ Do (Jump (codes "t")) ∷ [];
  } ∷ [];
}

-- two globals, an argument and a declaration, a function and a label, and a declaration with a global's name
abbrev pub with_names_twice : WholeProgram
with_names_twice = record {
  exports = [];
  labels = [];
  decls = frame (codes "g") 32 ∷ frame (codes "g") 32 ∷ [];
  inits = [];
  funcs = record { name = codes "m"; args = frame (codes "a") 8 ∷ []; decls = frame (codes "a") 8 ∷ frame (codes "g") 8 ∷ []; inits = []; items = Label (codes "b") ∷ Label (codes "b") ∷ Label (codes "m") ∷ returned ∷ [] }
      ∷ function_of (codes "m") (returned ∷ []) ∷ [];
}

abbrev pub with_items : List BodyItem → WholeProgram
with_items items = record (of_functions (function_of (codes "m") items ∷ [])) { decls = frame (codes "x") 32 ∷ [] }

-- a frame that is exported, or holds a number of this size at first
abbrev pub exported : ℕ → WholeProgram
exported bits = record (of_functions []) { exports = codes "x" ∷ []; decls = frame (codes "x") bits ∷ [] }

abbrev pub started : ℕ → WholeProgram
started size = record (of_functions []) { decls = frame (codes "x") 32 ∷ []; inits = from_zero (codes "x") size ∷ [] }

-- `m` calls `f`, whose result goes to `x` or nowhere
abbrev pub calling : Option (List ℕ × ℕ) → Function
calling result = function_of (codes "m") (Do (Call (codes "f") [] result) ∷ returned ∷ [])

abbrev pub giving : Function
giving = function_of (codes "f") (Do (Return (Some (word 32 7))) ∷ [])

abbrev pub called_behind : Option (List ℕ × ℕ) → WholeProgram
called_behind result = record (of_functions (calling result ∷ giving ∷ [])) { decls = frame (codes "x") 32 ∷ [] }

abbrev pub called_before : Option (List ℕ × ℕ) → WholeProgram
called_before result = record (of_functions (giving ∷ calling result ∷ [])) { decls = frame (codes "x") 32 ∷ [] }

-- a target, and a switch on 8 bits with these, all of which lead to its label
abbrev pub target : ℕ → ℕ → Num × List ℕ
target size bits = (record { signed = false; size = size; bits = bits }, codes "k")

abbrev pub switched : List (Num × List ℕ) → List BodyItem
switched targets = Label (codes "k") ∷ Do (Switch (word 8 0) targets (codes "k")) ∷ []
