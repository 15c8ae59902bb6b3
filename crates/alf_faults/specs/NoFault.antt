-- Programs without a fault, by parts.
--   HasNoFault whole                     no part of the program has a fault
--   IsByParts                            the law: there is no fault exactly where this holds
-- and of its parts:
--   DifferInName frames                  no two of the frames have one name
--   HaveOtherNames others frames         no frame has the name of one of the others
--   IsFrameNamed frames name             one of the frames has the name
--   IsFunctionNamed funcs name           one of the functions has the name
--   HasLabel items label                 the label stands among the items
--   ExportHasNoFault, InitHasNoFault     an exported frame, and what a frame holds at first
--   IsSeen whole func name               the function sees a frame of the name
--   SeesFrames whole func e              it sees each frame in the expression
--   ItemHasNoFault whole k func i item   item i of the function, function k, by what it is
--   FunctionHasNoFault whole k func      the function, function k
use Rattle.std.specs.Prelude.{◌≡◌, ◌≢◌, ◌<◌, ◌⊎◌, ◌↔◌, ⊤, ℕ, true, List, [], Option, Some, AllPairs, Contains, slice_get, is_some}
use Rattle.std.specs.List.{AllZip}
use Rattle.alf_program.specs.declared.program.Num.{Num}
use Rattle.alf_program.specs.Tree.{Number, Address, Load, Apply, Empty, With, NamedExpression, NamedExpressions, Null, Store, Jump, Switch, Call, Return, BodyItem, Label, Do, Allocation, InitialValue, Function, WholeProgram, expressions_of}
use Rattle.alf_faults.specs.Places.{frame_place, function_place}
use Rattle.alf_faults.specs.TermSizes.{term_size, is_bytes}
use Rattle.alf_faults.specs.Returns.{first_return}
use Rattle.alf_faults.specs.Sizes.{start_fits, is_export_size, agrees_behind, return_fits}
use Rattle.alf_faults.specs.Faults.{frame_at, faults_in}

-- no two of the frames have one name
abbrev pub DifferInName : List Allocation → Type 0
DifferInName frames = AllPairs (λ a b. a.name ≢ b.name) frames

-- no frame has the name of one of the others
abbrev pub HaveOtherNames : List Allocation → List Allocation → Type 0
HaveOtherNames others frames = (frame other : Allocation) → Contains frames frame → Contains others other → other.name ≢ frame.name

-- one of the frames has the name
abbrev pub IsFrameNamed : List Allocation → List ℕ → Type 0
IsFrameNamed frames name = (frame : Allocation) × Contains frames frame × (frame.name ≡ name)

-- one of the functions has the name
abbrev pub IsFunctionNamed : List Function → List ℕ → Type 0
IsFunctionNamed funcs name = (func : Function) × Contains funcs func × (func.name ≡ name)

-- the label stands among the items
abbrev pub HasLabel : List BodyItem → List ℕ → Type 0
HasLabel items label = Contains items (Label label)

-- the first frame of an exported name has a size that may be exported
pub record ExportHasNoFault (frames : List Allocation) (name : List ℕ) : Type 0 where
  pub frame : Allocation
  pub found : frame_at frames (frame_place frames name) ≡ Some frame
  pub size : is_export_size frame.bits ≡ true

-- the number that a frame holds at first is of whole bytes and lies in the first frame of the name
pub record InitHasNoFault (frames : List Allocation) (init : InitialValue) : Type 0 where
  pub frame : Allocation
  pub found : frame_at frames (frame_place frames init.name) ≡ Some frame
  pub fits : start_fits frame.bits init ≡ true

-- the function sees a frame of the name: a global one, an argument, or a declaration
abbrev pub IsSeen : WholeProgram → Function → List ℕ → Type 0
IsSeen whole func name = IsFrameNamed whole.decls name ⊎ (IsFrameNamed func.args name ⊎ IsFrameNamed func.decls name)

abbrev mutual
  -- it sees each frame in the expression
  pub SeesFrames : WholeProgram → Function → NamedExpression → Type 0
  SeesFrames whole func (Number n) = ⊤
  SeesFrames whole func (Address frame offset) = IsSeen whole func frame
  SeesFrames whole func (Load size at) = SeesFrames whole func at
  SeesFrames whole func (Apply op sizes operands) = SeesAllFrames whole func operands

  -- and in expressions in a row
  pub SeesAllFrames : WholeProgram → Function → NamedExpressions → Type 0
  SeesAllFrames whole func Empty = ⊤
  SeesAllFrames whole func (With e es) = SeesFrames whole func e × SeesAllFrames whole func es

-- no earlier item is the label, and no function has its name
pub record LabelHasNoFault (whole : WholeProgram) (func : Function) (i : ℕ) (label : List ℕ) : Type 0 where
  pub first : (j : ℕ) → j < i → slice_get func.items j ≡ Some (Label label) → ⊥
  pub alone : IsFunctionNamed whole.funcs label → ⊥

-- an address of 32 bits and a value of whole bytes
pub record StoreHasNoFault (whole : WholeProgram) (func : Function) (at value : NamedExpression) : Type 0 where
  pub at_sees : SeesFrames whole func at
  pub value_sees : SeesFrames whole func value
  pub at_size : term_size at ≡ Some 32
  pub value_bytes : is_bytes (term_size value) ≡ true

-- targets of the value's size, with numbers of their own, that lead to labels
pub record SwitchHasNoFault (whole : WholeProgram) (func : Function) (value : NamedExpression)
    (targets : List (Num × List ℕ)) (others : List ℕ) : Type 0 where
  pub sees : SeesFrames whole func value
  pub leads : (target : Num × List ℕ) → Contains targets target → HasLabel func.items target.1
  pub leads_else : HasLabel func.items others
  pub size : ℕ
  pub value_size : term_size value ≡ Some size
  pub sizes : (target : Num × List ℕ) → Contains targets target → target.0.size ≡ size
  pub differ : AllPairs (λ t u. t.0.bits ≢ u.0.bits) targets

-- arguments of the sizes of the called function's, and a result that its first return gives, where that stands before
-- the call
pub record CallHasNoFault (whole : WholeProgram) (k : ℕ) (func : Function) (i : ℕ) (label : List ℕ)
    (args : List NamedExpression) (result : Option (List ℕ × ℕ)) : Type 0 where
  pub sees : SeesAllFrames whole func (expressions_of args)
  pub result_sees : (target : List ℕ × ℕ) → result ≡ Some target → IsSeen whole func target.0
  pub place : ℕ
  pub called : Function
  pub found : function_place whole.funcs label ≡ Some place
  pub at : slice_get whole.funcs place ≡ Some called
  pub sizes : AllZip (λ arg frame. term_size arg ≡ Some frame.bits) args called.args
  pub agrees : agrees_behind place (first_return called.items) k i (is_some result) ≡ true

-- a value of the size of the function's first return, and calls before that one that agree with it
pub record ReturnHasNoFault (whole : WholeProgram) (k : ℕ) (func : Function) (i : ℕ)
    (value : Option NamedExpression) : Type 0 where
  pub sees : (e : NamedExpression) → value ≡ Some e → SeesFrames whole func e
  pub fits : return_fits whole k func i value ≡ true

-- item i of the function, function k, by what it is
abbrev pub ItemHasNoFault : WholeProgram → ℕ → Function → ℕ → BodyItem → Type 0
ItemHasNoFault whole k func i (Label label) = LabelHasNoFault whole func i label
ItemHasNoFault whole k func i (Do Null) = ⊤
ItemHasNoFault whole k func i (Do (Store at value)) = StoreHasNoFault whole func at value
ItemHasNoFault whole k func i (Do (Jump label)) = HasLabel func.items label
ItemHasNoFault whole k func i (Do (Switch value targets others)) = SwitchHasNoFault whole func value targets others
ItemHasNoFault whole k func i (Do (Call label args result)) = CallHasNoFault whole k func i label args result
ItemHasNoFault whole k func i (Do (Return value)) = ReturnHasNoFault whole k func i value

-- the function, function k
pub record FunctionHasNoFault (whole : WholeProgram) (k : ℕ) (func : Function) : Type 0 where
  pub args_differ : DifferInName func.args
  pub args_other : HaveOtherNames whole.decls func.args
  pub decls_differ : DifferInName func.decls
  pub decls_other : HaveOtherNames whole.decls func.decls
  pub decls_apart : HaveOtherNames func.args func.decls
  pub inits : (init : InitialValue) → Contains func.inits init → InitHasNoFault func.decls init
  pub items : (i : ℕ) (item : BodyItem) → slice_get func.items i ≡ Some item → ItemHasNoFault whole k func i item

-- no part of the program has a fault
pub record HasNoFault (whole : WholeProgram) : Type 0 where
  pub exports : (name : List ℕ) → Contains whole.exports name → ExportHasNoFault whole.decls name
  pub labels : (name : List ℕ) → Contains whole.labels name → IsFunctionNamed whole.funcs name
  pub decls_differ : DifferInName whole.decls
  pub inits : (init : InitialValue) → Contains whole.inits init → InitHasNoFault whole.decls init
  pub funcs_differ : AllPairs (λ f g. f.name ≢ g.name) whole.funcs
  pub funcs : (k : ℕ) (func : Function) → slice_get whole.funcs k ≡ Some func → FunctionHasNoFault whole k func

-- there is no fault exactly where no part of the program has one
abbrev pub IsByParts : Type 0
IsByParts = (whole : WholeProgram) → (faults_in whole ≡ []) ↔ HasNoFault whole
