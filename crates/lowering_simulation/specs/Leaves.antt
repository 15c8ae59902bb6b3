-- What the leaves of statements do: tests, single items and calls, each as the unit says. A function f of a unit is
-- lowered to items of an item program. `Rel fs m h` relates a history of the item program to one of the unit, where the
-- functions fs are running, the newest first; object o lies in frame `place o`; and calls lead to functions of a lower
-- rank.
--   ResultFits o v           the value is one that a function gives whose result is o
--   TestAgrees e test        the expression gives 1 where the test holds, 0 where it does not, or the same fault
--   ConditionAgrees scopes e so do the tests of a condition
--   ValueAgrees scopes e     the lowered expression gives the value, or the same fault
--   ItemEnds fs rest end e   what is done from an item on is this ending, with the rest of the items still to come
--   ItemDoes item go         an item does what `go` says
--   CallDoes scopes call n after go   a call gets its arguments, and what comes after it does what `go` says
--   ValueDoes, EffectDoes, LocalsDo, ReturnDoes   so do the items of a value, an effect, declared locals and a return
--   StatementDoes may_break may_continue scopes s n   so do the leaves of a statement, whose calls are numbered from n on, and `break` and
--                            `continue` stand where they may
use Rattle.std.specs.Prelude.{◌≡◌, ◌<◌, ◌+◌, ℕ, zero, suc, Bool, true, false, List, [], ◌∷◌, map, length, ⊤, All, Option, Some, None, Result, Ok, Err}
use Rattle.std.specs.Option.{option_map}
use Rattle.alf_ops.specs.declared.history.Value.{Value}
use Rattle.alf_ops.specs.declared.history.Value.TheVariants as values
use Rattle.alf_ops.specs.declared.history.RunFault.{RunFault}
use Rattle.alf_ops.specs.declared.history.RunEvent.{RunEvent}
use Rattle.alf_ops.specs.Histories.{store}
use Rattle.alf_ops.specs.Pointers.{operands}
use Rattle.alf_ops.specs.Values.{size_of, FitsValue}
use Rattle.alf_program.specs.Tree.{NamedExpression, Address, Store, BodyItem, Do, with_frames}
use Rattle.alf_runs.specs.Expressions as runs
use Rattle.alf_runs.specs.Steps.{frames_of}
use Rattle.item_runs.specs.Stretches.{End, Leaves, Stops}
use Rattle.item_runs.specs.ItemRuns.{ItemProgram, ahead}
use Rattle.c_unit.specs.declared.types.Integer.{Integer}
use Rattle.c_unit.specs.declared.types.Integer.TheVariants as integers
use Rattle.c_unit.specs.declared.types.Scalar.{Scalar}
use Rattle.c_unit.specs.declared.types.Scalar.TheVariants as scalars
use Rattle.c_unit.specs.declared.types.Outcome.{Outcome}
use Rattle.c_unit.specs.declared.types.Outcome.TheVariants as outcomes
use Rattle.c_unit.specs.declared.types.Constant.{Constant}
use Rattle.c_unit.specs.Tree.{Expression, OfConstant, OfName, InParentheses, WithUnary, WithCast, AtIndex, WithBinary, CallTree, ValueTree, OfExpression, OfCall, EffectTree, Assigns, Updates, Steps, Calls, LocalShapeTree, LocalInteger, LocalPointer, LocalArray, LocalTree, Statement, Empty, Declares, Block, If, IfElse, While, Do as DoWhile, For, ForAfter, Switch, Case, Default, Break, Continue, Returns, Does, Statements, Nothing, Then}
use Rattle.c_rules.specs.Names.{Scope, text_at}
use Rattle.c_rules.specs.Statements.{with_local, scopes_after}
use Rattle.c_meaning.specs.Values.{Valued, bits_of_type, bytes_of_type}
use Rattle.c_meaning.specs.Objects.{Program, object_at, shapes_of, function_at, count_at}
use Rattle.c_meaning.specs.Expressions as meaning
use Rattle.c_meaning.specs.Expressions.{kind_of, condition_of}
use Rattle.c_meaning.specs.Endings.{History, Ending, Normal, Broke, Continued, Returned, Faulted, UsedUp, after}
use Rattle.c_meaning.specs.Statements as does
use Rattle.c_meaning.specs.Statements.{callee, given, assigned, updated, one, step_operator, further_elements, returned}
use Rattle.c_lowered.specs.Names.{frame_of, call_name}
use Rattle.c_lowered.specs.Values.{is_true, test_of, value_of, address_of, whole, cut}
use Rattle.c_lowered.specs.Conditions.{Within, by_unary, by_binary}
use Rattle.c_lowered.specs.Effects.{arguments, call_value, calls_in_shape, assign, update, first_element}
use Rattle.c_lowered.specs.Statements.{return_item, calls_in, calls_if}
use Rattle.lowering_values.specs.Embedding.{embedded_value, embedded_result, embedded_results}

-- a function that gives nothing has no value, and one that gives an integer a value of its type
abbrev pub ResultFits : Outcome → Option Value → Type 0
ResultFits outcomes.Nothing None = ⊤
ResultFits outcomes.Nothing (Some v) = ⊥
ResultFits (outcomes.Integer i) None = ⊥
ResultFits (outcomes.Integer i) (Some v) = FitsValue (bits_of_type i) v

-- the first where it is so, else the second
abbrev pub Chosen : Bool → Type 0 → Type 0 → Type 0
Chosen true A B = A
Chosen false A B = B

-- 1 where it holds, 0 where not
abbrev pub as_bit : Result Bool RunFault → Result Value RunFault
as_bit (Ok true) = Ok (values.Int 1 1)
as_bit (Ok false) = Ok (values.Int 1 0)
as_bit (Err fault) = Err fault

module _ (of : ItemProgram) (program : Program) (place : ℕ → ℕ) (Rel : List ℕ → List RunEvent → List RunEvent → Type 0) (rank : ℕ → ℕ) (f : ℕ) where
  abbrev pub within : Within
  within = record { program = program; function = f }

  abbrev pub value_in : List RunEvent → NamedExpression → Result Value RunFault
  value_in m e = runs.value_of (frames_of of.program) m (with_frames (of.numbers f).frame e)

  -- ---- conditions

  abbrev pub TestAgrees : NamedExpression → (History → Result Bool RunFault) → Type 0
  TestAgrees e test = (fs : List ℕ) (m h : List RunEvent) → Rel (f ∷ fs) m h → value_in m e ≡ as_bit (test h)

  abbrev pub PlainAgrees : List Scope → Expression → Type 0
  PlainAgrees scopes e = TestAgrees (is_true (value_of program scopes e)) (λ h. condition_of program scopes h e)

  abbrev pub ConditionAgrees : List Scope → Expression → Type 0
  ConditionAgrees scopes (OfConstant token) = PlainAgrees scopes (OfConstant token)
  ConditionAgrees scopes (OfName token) = PlainAgrees scopes (OfName token)
  ConditionAgrees scopes (InParentheses token inner) = ConditionAgrees scopes inner
  ConditionAgrees scopes (WithUnary op token operand) = Chosen (by_unary op true false) (ConditionAgrees scopes operand) (PlainAgrees scopes (WithUnary op token operand))
  ConditionAgrees scopes (WithCast token to operand) = PlainAgrees scopes (WithCast token to operand)
  ConditionAgrees scopes (AtIndex base token index) = PlainAgrees scopes (AtIndex base token index)
  ConditionAgrees scopes (WithBinary op token left right) =
      Chosen (by_binary op true true false) (ConditionAgrees scopes left × ConditionAgrees scopes right)
      (TestAgrees (test_of op (kind_of program.words scopes left) (kind_of program.words scopes right) (value_of program scopes left) (value_of program scopes right))
      (λ h. condition_of program scopes h (WithBinary op token left right)))

  abbrev pub IfAgrees : List Scope → Option Expression → Type 0
  IfAgrees scopes None = ⊤
  IfAgrees scopes (Some e) = ConditionAgrees scopes e

  abbrev pub ValueAgrees : List Scope → Expression → Type 0
  ValueAgrees scopes e =
      (fs : List ℕ) (m h : List RunEvent) → Rel (f ∷ fs) m h → value_in m (value_of program scopes e) ≡ embedded_result place (meaning.value_of program scopes h e)

  -- ---- items

  -- the stretch goes on after some events
  pub record Goes (fs : List ℕ) (h : History) (end : End) (goal : List RunEvent → End) : Type 0 where
    pub later : List RunEvent
    pub rel : Rel (f ∷ fs) later h
    pub same : end ≡ goal later

  -- it leaves the function with a value that fits
  pub record Gives (fs : List ℕ) (v : Option Value) (h : History) (end : End) : Type 0 where
    pub fits : ResultFits (function_at program f).result v
    pub goes : Goes fs h end (λ m. Leaves (option_map (embedded_value place) v) m)

  abbrev pub ItemEnds : List ℕ → List BodyItem → End → Ending → Type 0
  ItemEnds fs rest end (Normal h) = Goes fs h end (λ m. ahead of f rest m)
  ItemEnds fs rest end (Broke h) = ⊥
  ItemEnds fs rest end (Continued h) = ⊥
  ItemEnds fs rest end (Returned v h) = Gives fs v h end
  ItemEnds fs rest end (Faulted fault) = end ≡ Stops fault
  ItemEnds fs rest end UsedUp = ⊥

  abbrev pub ItemDoes : BodyItem → (History → Ending) → Type 0
  ItemDoes item go = (fs : List ℕ) (m h : List RunEvent) (rest : List BodyItem) → Rel (f ∷ fs) m h → ItemEnds fs rest (ahead of f (item ∷ rest) m) (go h)

  -- ---- calls

  -- a value that is stored in the frame of the result, and what comes after it
  pub record ResultDoes (fs : List ℕ) (m : List RunEvent) (v : Value) (name : List ℕ) (rest after : List BodyItem) (e : Ending) : Type 0 where
    pub later : List RunEvent
    pub stored : store (frames_of of.program) m (values.Ptr ((of.numbers f).frame name) 0) (embedded_value place v) ≡ Ok later
    pub ends : ItemEnds fs rest (ahead of f after later) e

  abbrev pub ResultsDo : Outcome → List ℕ → (List BodyItem → List BodyItem) → (Option Value → History → Ending) → Type 0
  ResultsDo outcomes.Nothing name after go = (fs : List ℕ) (m h : List RunEvent) (rest : List BodyItem) → Rel (f ∷ fs) m h → ItemEnds fs rest (ahead of f (after rest) m) (go None h)
  ResultsDo (outcomes.Integer i) name after go =
      (fs : List ℕ) (m h : List RunEvent) (v : Value) (rest : List BodyItem) → Rel (f ∷ fs) m h → FitsValue (bits_of_type i) v → ResultDoes fs m v name rest (after rest) (go (Some v) h)

  -- the arguments have the same values or the same fault, and each value has the size that it tells
  pub record ArgumentsAre (scopes : List Scope) (call : CallTree) (m h : List RunEvent) : Type 0 where
    pub agree : operands (map (runs.value_of (frames_of of.program) m)
        (map (with_frames (of.numbers f).frame) (arguments program scopes call.arguments (function_at program (callee program call)).parameters)))
        ≡ embedded_results place (operands (does.arguments program scopes h call.arguments (function_at program (callee program call)).parameters))
    pub fit : (vs : List Value) → operands (does.arguments program scopes h call.arguments (function_at program (callee program call)).parameters) ≡ Ok vs
        → All (λ v. FitsValue (size_of v) v) vs

  -- the n-th call goes to a function that is there and has a lower rank
  pub record CallDoes (scopes : List Scope) (call : CallTree) (n : ℕ) (after : List BodyItem → List BodyItem) (go : Option Value → History → Ending) : Type 0 where
    pub named : (of.numbers f).func (text_at program.words call.name) ≡ callee program call
    pub there : callee program call < length program.functions
    pub lower : rank (callee program call) < rank f
    pub arguments_are : (fs : List ℕ) (m h : List RunEvent) → Rel (f ∷ fs) m h → ArgumentsAre scopes call m h
    pub results : ResultsDo (function_at program (callee program call)).result (call_name program f n) after go

  -- ---- values and effects

  abbrev pub ValueDoes : List Scope → ValueTree → ℕ → (NamedExpression → BodyItem) → (Valued → History → Ending)
      → Type 0
  ValueDoes scopes (OfExpression e) n made go = ItemDoes (made (value_of program scopes e)) (λ h. go (meaning.value_of program scopes h e) h)
  ValueDoes scopes (OfCall call) n made go =
      CallDoes scopes call n (λ rest. made (call_value within call n) ∷ rest) (λ v h. go (given (function_at program (callee program call)).result v) h)

  abbrev pub EffectDoes : List Scope → EffectTree → ℕ → Type 0
  EffectDoes scopes (Assigns to token value) n =
      ValueDoes scopes value n (assign (kind_of program.words scopes to) (address_of program scopes to))
      (λ v h. assigned program (kind_of program.words scopes to) h (meaning.address_of program scopes h to) v)
  EffectDoes scopes (Updates to op token e) n =
      ItemDoes (update program scopes to op (kind_of program.words scopes e) (value_of program scopes e))
      (λ h. updated program scopes to op (kind_of program.words scopes e) (meaning.value_of program scopes h e) h)
  EffectDoes scopes (Steps operand up token) n =
      ItemDoes (update program scopes operand (step_operator up) (scalars.Integer integers.Int) (whole 1))
      (λ h. updated program scopes operand (step_operator up) (scalars.Integer integers.Int) one h)
  EffectDoes scopes (Calls call) n = CallDoes scopes call n (λ rest. rest) (λ v h. Normal h)

  abbrev pub IfDoes : List Scope → Option EffectTree → ℕ → Type 0
  IfDoes scopes None n = ⊤
  IfDoes scopes (Some effect) n = EffectDoes scopes effect n

  -- ---- declarations

  abbrev pub FirstDoes : List Scope → Scalar → ℕ → Option ValueTree → ℕ → Type 0
  FirstDoes scopes t token None n = ⊤
  FirstDoes scopes t token (Some value) n =
      ValueDoes scopes value n (assign t (Address (frame_of program token) 0)) (λ v h. assigned program t h (Ok (values.Ptr (object_at program.objects token) 0)) v)

  abbrev pub ElementsDo : ℕ → Integer → ℕ → ℕ → List Constant → Type 0
  ElementsDo token kind offset zero cs = ⊤
  ElementsDo token kind offset (suc count) cs =
      ItemDoes (Do (Store (Address (frame_of program token) offset) (cut kind (first_element program cs))))
      (λ h. after (store (shapes_of program) h (values.Ptr (object_at program.objects token) offset) (does.first_element program.words kind cs)))
      × ElementsDo token kind (offset + bytes_of_type kind) count (further_elements cs)

  abbrev pub ArrayDoes : ℕ → Integer → ℕ → Option (List Constant) → Type 0
  ArrayDoes token kind size None = ⊤
  ArrayDoes token kind size (Some cs) = ElementsDo token kind 0 (count_at program.words size) cs

  abbrev pub ShapeDoes : List Scope → Integer → ℕ → LocalShapeTree → ℕ → Type 0
  ShapeDoes scopes kind token (LocalInteger first) n = FirstDoes scopes (scalars.Integer kind) token first n
  ShapeDoes scopes kind token (LocalPointer first) n = FirstDoes scopes (scalars.Pointer kind) token first n
  ShapeDoes scopes kind token (LocalArray size firsts) n = ArrayDoes token kind size firsts

  abbrev pub LocalsDo : Integer → List Scope → List LocalTree → ℕ → Type 0
  LocalsDo kind scopes [] n = ⊤
  LocalsDo kind scopes (local ∷ locals) n =
      ShapeDoes (with_local kind scopes local) kind local.name local.shape n × LocalsDo kind (with_local kind scopes local) locals (n + calls_in_shape program local.shape)

  -- ---- statements

  abbrev pub ReturnDoes : List Scope → Option ValueTree → ℕ → Type 0
  ReturnDoes scopes None n = ResultFits (function_at program f).result None
  ReturnDoes scopes (Some value) n = ValueDoes scopes value n (return_item within) (returned (function_at program f).result)

  abbrev mutual
    pub StatementDoes : Bool → Bool → List Scope → Statement → ℕ → Type 0
    StatementDoes b c scopes (Empty token) n = ⊤
    StatementDoes b c scopes (Declares first kind locals) n = LocalsDo kind scopes locals n
    StatementDoes b c scopes (Block body) n = StatementsDo b c ([] ∷ scopes) body n
    StatementDoes b c scopes (If condition body) n = ConditionAgrees scopes condition × StatementDoes b c ([] ∷ scopes) body n
    StatementDoes b c scopes (IfElse condition body otherwise) n =
        ConditionAgrees scopes condition × StatementDoes b c ([] ∷ scopes) body n × StatementDoes b c ([] ∷ scopes) otherwise (n + calls_in program body)
    StatementDoes b c scopes (While condition body) n = ConditionAgrees scopes condition × StatementDoes true true ([] ∷ scopes) body n
    StatementDoes b c scopes (DoWhile body condition) n = StatementDoes true true ([] ∷ scopes) body n × ConditionAgrees scopes condition
    StatementDoes b c scopes (For condition last body) n =
        IfAgrees scopes condition × IfDoes scopes last n × StatementDoes true true ([] ∷ scopes) body (n + calls_if program last)
    StatementDoes b c scopes (ForAfter first condition last body) n =
        StatementDoes b c ([] ∷ scopes) first n × IfAgrees (scopes_after ([] ∷ scopes) first) condition
        × IfDoes (scopes_after ([] ∷ scopes) first) last (n + calls_in program first)
        × StatementDoes true true ([] ∷ scopes_after ([] ∷ scopes) first) body (n + calls_in program first + calls_if program last)
    StatementDoes b c scopes (Switch value body) n = ValueAgrees scopes value × StatementsDo true c ([] ∷ scopes) body n
    StatementDoes b c scopes (Case token constant) n = ⊤
    StatementDoes b c scopes (Default token) n = ⊤
    StatementDoes b c scopes (Break token) n = b ≡ true
    StatementDoes b c scopes (Continue token) n = c ≡ true
    StatementDoes b c scopes (Returns token value) n = ReturnDoes scopes value n
    StatementDoes b c scopes (Does effect) n = EffectDoes scopes effect n

    pub StatementsDo : Bool → Bool → List Scope → Statements → ℕ → Type 0
    StatementsDo b c scopes Nothing n = ⊤
    StatementsDo b c scopes (Then s rest) n = StatementDoes b c scopes s n × StatementsDo b c (scopes_after scopes s) rest (n + calls_in program s)
