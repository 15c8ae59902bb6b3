-- Two meanings of a statement, of which the second knows as much as the first, or more.
--   Kept P a b               the second ending is the first, or, where P allows it, of the first turns are used up
--   AllKept P f g            so for each history
--   AtMost P n m             n is m, or, where P allows it, at most m
--   EachCalled G tokens      it holds of each of the names that are called
--   CallKept P program c d token   what a call of the function that a token names does is kept
--   few, more                what a statement stands in, with n turns and with m
--   statements_kept          statements keep what they do with n turns, if calls in them do
--   bodies_kept              so do functions
use Rattle.std.proofs.Common.{ℕ, zero, suc, ◌++◌, Bool, true, false, List, [], ◌∷◌, Option, Some, None, Result, Ok, Err, if◌then◌else◌}
use Rattle.std.specs.Prelude.{⊤}
use Rattle.alf_ops.specs.declared.history.Value.{Value}
use Rattle.alf_ops.specs.declared.history.Value.TheVariants as values
use Rattle.alf_ops.specs.declared.history.RunFault.{RunFault}
use Rattle.alf_ops.specs.Pointers.{operands}
use Rattle.c_unit.specs.declared.types.Integer.{Integer}
use Rattle.c_unit.specs.declared.types.Scalar.{Scalar}
use Rattle.c_unit.specs.declared.types.Scalar.TheVariants as scalars
use Rattle.c_unit.specs.declared.types.Outcome.{Outcome}
use Rattle.c_unit.specs.Tree.{CallTree, ValueTree, OfExpression, OfCall, EffectTree, Assigns, Updates, Steps, Calls, LocalShapeTree, LocalInteger, LocalPointer, LocalArray, LocalTree, Statement, Empty, Declares, Block, If, IfElse, While, Do, For, ForAfter, Switch, Case, Default, Break, Continue, Returns, Does, Statements, Nothing, Then}
use Rattle.c_rules.specs.Names.{Scope, text_at}
use Rattle.c_rules.specs.Statements.{with_local, scopes_after}
use Rattle.c_rules.specs.Recursion.{calls_in_value, calls_if_valued, calls_in_effect, calls_if_done, calls_in_shape, calls_in_locals, calls_in, called_in}
use Rattle.c_meaning.specs.Values.{Valued}
use Rattle.c_meaning.specs.Objects.{Program, object_at, function_at}
use Rattle.c_meaning.specs.Expressions.{kind_of, value_of, address_of, condition_of}
use Rattle.c_meaning.specs.Endings.{History, Ending, Normal, Broke, Continued, Returned, Faulted, UsedUp, then_do, after_body, after_switch, after_call, by_truth, with_values, turns, rounds}
use Rattle.c_meaning.specs.Statements.{Setting, Callees, assigned, number_named, callee, arguments, called, given, valued, effect_done, first_value, shape_done, locals_done, condition_if, effect_if, returned, return_done, is_case, is_default, by_labels, with_word, statement_done, statements_done, from_label}
use Rattle.c_meaning.specs.Programs.{left, body_done}

-- the second is the first, or, where P allows it, of the first turns are used up
pub data Kept (P : Type 0) : Ending → Ending → Type 0 where
  unknown : {e : Ending} → P → Kept P UsedUp e
  same : {e : Ending} → Kept P e e

abbrev pub AllKept : Type 0 → (History → Ending) → (History → Ending) → Type 0
AllKept P f g = (h : History) → Kept P (f h) (g h)

-- n is m, or, where P allows it, at most m
pub data AtMost (P : Type 0) : ℕ → ℕ → Type 0 where
  at_zero : {m : ℕ} → P → AtMost P zero m
  both_zero : AtMost P zero zero
  at_next : {n m : ℕ} → AtMost P n m → AtMost P (suc n) (suc m)

-- ---- going on

same_then : {P : Type 0} → (e : Ending) (f g : History → Ending) → AllKept P f g → Kept P (then_do e f) (then_do e g)
same_then (Normal h) f g kept = kept h
same_then (Broke h) f g kept = same
same_then (Continued h) f g kept = same
same_then (Returned v h) f g kept = same
same_then (Faulted fault) f g kept = same
same_then UsedUp f g kept = same

then_kept : {P : Type 0} → {a b : Ending} (f g : History → Ending) → Kept P a b → AllKept P f g
    → Kept P (then_do a f) (then_do b g)
then_kept f g (unknown allowed) kept = unknown allowed
then_kept f g (same {e = e}) kept = same_then e f g kept

same_body : {P : Type 0} → (e : Ending) (f g : History → Ending) → AllKept P f g
    → Kept P (after_body e f) (after_body e g)
same_body (Normal h) f g kept = kept h
same_body (Broke h) f g kept = same
same_body (Continued h) f g kept = kept h
same_body (Returned v h) f g kept = same
same_body (Faulted fault) f g kept = same
same_body UsedUp f g kept = same

body_kept : {P : Type 0} → {a b : Ending} (f g : History → Ending) → Kept P a b → AllKept P f g
    → Kept P (after_body a f) (after_body b g)
body_kept f g (unknown allowed) kept = unknown allowed
body_kept f g (same {e = e}) kept = same_body e f g kept

switch_kept : {P : Type 0} → {a b : Ending} → Kept P a b → Kept P (after_switch a) (after_switch b)
switch_kept (unknown allowed) = unknown allowed
switch_kept same = same

abbrev AllGiven : Type 0 → (f g : Option Value → History → Ending) → Type 0
AllGiven P f g = (v : Option Value) (h : History) → Kept P (f v h) (g v h)

same_call : {P : Type 0} → (e : Ending) (f g : Option Value → History → Ending) → AllGiven P f g
    → Kept P (after_call e f) (after_call e g)
same_call (Normal h) f g kept = kept None h
same_call (Broke h) f g kept = kept None h
same_call (Continued h) f g kept = kept None h
same_call (Returned v h) f g kept = kept v h
same_call (Faulted fault) f g kept = same
same_call UsedUp f g kept = same

call_kept : {P : Type 0} → {a b : Ending} (f g : Option Value → History → Ending) → Kept P a b → AllGiven P f g
    → Kept P (after_call a f) (after_call b g)
call_kept f g (unknown allowed) kept = unknown allowed
call_kept f g (same {e = e}) kept = same_call e f g kept

truth_kept : {P : Type 0} → (r : Result Bool RunFault) (a b c d : Ending) → Kept P a b → Kept P c d
    → Kept P (by_truth r a c) (by_truth r b d)
truth_kept (Ok true) a b c d held failed = held
truth_kept (Ok false) a b c d held failed = failed
truth_kept (Err fault) a b c d held failed = same

values_kept : {P : Type 0} → (r : Result (List Value) RunFault) (f g : List Value → Ending)
    → ((vs : List Value) → Kept P (f vs) (g vs))
    → Kept P (with_values r f) (with_values r g)
values_kept (Ok vs) f g kept = kept vs
values_kept (Err fault) f g kept = same

word_kept : {P : Type 0} → (r : Valued) (f g : ℕ → Ending) → ((w : ℕ) → Kept P (f w) (g w))
    → Kept P (with_word r f) (with_word r g)
word_kept (Ok (values.Int size w)) f g kept = kept w
word_kept (Ok (values.Ptr object offset)) f g kept = same
word_kept (Err fault) f g kept = same

left_kept : {P : Type 0} → (o : Outcome) (f : ℕ) {a b : Ending} → Kept P a b → Kept P (left o f a) (left o f b)
left_kept o f (unknown allowed) = unknown allowed
left_kept o f same = same

-- ---- loops

turns_kept : {P : Type 0} → {n m : ℕ} → AtMost P n m
    → (test : History → Result Bool RunFault) (body body' last last' : History → Ending)
    → AllKept P body body' → AllKept P last last' → (h : History) → Kept P (turns n test body last h) (turns m test body' last' h)
turns_kept both_zero test body body' last last' kept kept' h = same
turns_kept (at_zero {m = zero} allowed) test body body' last last' kept kept' h = same
turns_kept (at_zero {m = suc m} allowed) test body body' last last' kept kept' h =
    truth_kept (test h) UsedUp (after_body (body' h) (λ t. then_do (last' t) (turns m test body' last'))) (Normal h) (Normal h) (unknown allowed) same
turns_kept (at_next {n = n} {m = m} le) test body body' last last' kept kept' h =
    truth_kept (test h) (after_body (body h) (λ t. then_do (last t) (turns n test body last))) (after_body (body' h) (λ t. then_do (last' t) (turns m test body' last')))
    (Normal h) (Normal h)
    (body_kept (λ t. then_do (last t) (turns n test body last)) (λ t. then_do (last' t) (turns m test body' last')) (kept h)
    (λ t. then_kept (turns n test body last) (turns m test body' last') (kept' t) (turns_kept le test body body' last last' kept kept')))
    same

rounds_kept : {P : Type 0} → {n m : ℕ} → AtMost P n m
    → (body body' : History → Ending) (test : History → Result Bool RunFault) → AllKept P body body'
    → (h : History) → Kept P (rounds n body test h) (rounds m body' test h)
rounds_kept both_zero body body' test kept h = same
rounds_kept (at_zero allowed) body body' test kept h = unknown allowed
rounds_kept (at_next {n = n} {m = m} le) body body' test kept h =
    body_kept (λ t. by_truth (test t) (rounds n body test t) (Normal t)) (λ t. by_truth (test t) (rounds m body' test t) (Normal t)) (kept h)
    (λ t. truth_kept (test t) (rounds n body test t) (rounds m body' test t) (Normal t) (Normal t) (rounds_kept le body body' test kept t) same)

-- ---- what comes after labels

data KeptIf (P : Type 0) : Option Ending → Option Ending → Type 0 where
  neither : KeptIf P None None
  either : {e f : Ending} → Kept P e f → KeptIf P (Some e) (Some f)

chosen_kept : {P : Type 0} → (test : Bool) {a b c d : Option Ending} → KeptIf P a b → KeptIf P c d
    → KeptIf P (if test then a else c) (if test then b else d)
chosen_kept true held failed = held
chosen_kept false held failed = failed

labels_kept : {P : Type 0} → {a b c d : Option Ending} (h : History) → KeptIf P a b → KeptIf P c d
    → Kept P (by_labels a c h) (by_labels b d h)
labels_kept h (either kept) others = kept
labels_kept h neither (either kept) = kept
labels_kept h neither neither = same

-- ---- calls

-- it holds of each of the names that are called
abbrev pub EachCalled : (ℕ → Type 0) → List ℕ → Type 0
EachCalled G [] = ⊤
EachCalled G (token ∷ tokens) = G token × EachCalled G tokens

each_left : (G : ℕ → Type 0) (xs ys : List ℕ) → EachCalled G (xs ++ ys) → EachCalled G xs
each_left G [] ys each = tt
each_left G (x ∷ xs) ys each = (each.0, each_left G xs ys each.1)

each_right : (G : ℕ → Type 0) (xs ys : List ℕ) → EachCalled G (xs ++ ys) → EachCalled G ys
each_right G [] ys each = each
each_right G (x ∷ xs) ys each = each_right G xs ys each.1

-- the number of the function that a token names
abbrev pub number_at_token : Program → ℕ → ℕ
number_at_token program token = number_named program.words program.functions (text_at program.words token)

-- what a call of the function that a token names does is kept
abbrev pub CallKept : Type 0 → Program → Callees → Callees → ℕ → Type 0
CallKept P program c d token = (vs : List Value) (h : History) → Kept P (c (number_at_token program token) vs h) (d (number_at_token program token) vs h)

-- ---- statements

module _ (P : Type 0) (program : Program) (o : Outcome) (n m : ℕ) (le : AtMost P n m) (c d : Callees) where
  abbrev Called : List ℕ → Type 0
  Called tokens = EachCalled (CallKept P program c d) tokens

  left_part : (xs ys : List ℕ) → Called (xs ++ ys) → Called xs
  left_part xs ys each = each_left (CallKept P program c d) xs ys each

  right_part : (xs ys : List ℕ) → Called (xs ++ ys) → Called ys
  right_part xs ys each = each_right (CallKept P program c d) xs ys each

  abbrev few : Setting
  few = record { program = program; result = o; turns = n; callees = c }

  abbrev more : Setting
  more = record { program = program; result = o; turns = m; callees = d }

  called_kept : (scopes : List Scope) (call : CallTree) → CallKept P program c d call.name
      → (h : History) (f g : Option Value → History → Ending) → AllGiven P f g
      → Kept P (called few scopes call h f) (called more scopes call h g)
  called_kept scopes call kept h f g go =
      values_kept (operands (arguments program scopes h call.arguments (function_at program (callee program call)).parameters))
      (λ vs. after_call (c (callee program call) vs h) f) (λ vs. after_call (d (callee program call) vs h) g)
      (λ vs. call_kept f g (kept vs h) go)

  -- what goes on is the same on both sides
  valued_kept : (scopes : List Scope) (value : ValueTree) → Called (calls_in_value value)
      → (h : History) (go : Valued → History → Ending)
      → Kept P (valued few scopes value h go) (valued more scopes value h go)
  valued_kept scopes (OfExpression e) each h go = same
  valued_kept scopes (OfCall call) each h go =
      called_kept scopes call each.0 h (λ v t. go (given (function_at program (callee program call)).result v) t)
      (λ v t. go (given (function_at program (callee program call)).result v) t) (λ v t. same)

  effect_kept : (scopes : List Scope) (e : EffectTree) → Called (calls_in_effect e) → (h : History)
      → Kept P (effect_done few scopes e h) (effect_done more scopes e h)
  effect_kept scopes (Assigns to token value) each h =
      valued_kept scopes value each h (λ v t. assigned program (kind_of program.words scopes to) t (address_of program scopes t to) v)
  effect_kept scopes (Updates to op token e) each h = same
  effect_kept scopes (Steps operand up token) each h = same
  effect_kept scopes (Calls call) each h = called_kept scopes call each.0 h (λ v t. Normal t) (λ v t. Normal t) (λ v t. same)

  first_kept : (scopes : List Scope) (t : Scalar) (object : ℕ) (first : Option ValueTree)
      → Called (calls_if_valued first) → (h : History)
      → Kept P (first_value few scopes t object first h) (first_value more scopes t object first h)
  first_kept scopes t object None each h = same
  first_kept scopes t object (Some value) each h = valued_kept scopes value each h (λ v u. assigned program t u (Ok (values.Ptr object 0)) v)

  shape_kept : (scopes : List Scope) (kind : Integer) (object : ℕ) (shape : LocalShapeTree)
      → Called (calls_in_shape shape) → (h : History)
      → Kept P (shape_done few scopes kind object shape h) (shape_done more scopes kind object shape h)
  shape_kept scopes kind object (LocalInteger first) each h = first_kept scopes (scalars.Integer kind) object first each h
  shape_kept scopes kind object (LocalPointer first) each h = first_kept scopes (scalars.Pointer kind) object first each h
  shape_kept scopes kind object (LocalArray size firsts) each h = same

  locals_kept : (kind : Integer) (scopes : List Scope) (locals : List LocalTree) → Called (calls_in_locals locals)
      → (h : History)
      → Kept P (locals_done few kind scopes locals h) (locals_done more kind scopes locals h)
  locals_kept kind scopes [] each h = same
  locals_kept kind scopes (local ∷ locals) each h =
      then_kept (locals_done few kind (with_local kind scopes local) locals) (locals_done more kind (with_local kind scopes local) locals)
      (shape_kept (with_local kind scopes local) kind (object_at program.objects local.name) local.shape
      (left_part (calls_in_shape local.shape) (calls_in_locals locals) each) h)
      (locals_kept kind (with_local kind scopes local) locals (right_part (calls_in_shape local.shape) (calls_in_locals locals) each))

  effect_if_kept : (scopes : List Scope) (e : Option EffectTree) → Called (calls_if_done e) → (h : History)
      → Kept P (effect_if few scopes e h) (effect_if more scopes e h)
  effect_if_kept scopes None each h = same
  effect_if_kept scopes (Some e) each h = effect_kept scopes e each h

  return_kept : (scopes : List Scope) (value : Option ValueTree) → Called (calls_if_valued value) → (h : History)
      → Kept P (return_done few scopes value h) (return_done more scopes value h)
  return_kept scopes None each h = same
  return_kept scopes (Some value) each h = valued_kept scopes value each h (returned o)

  mutual
    statement_kept : (scopes : List Scope) (s : Statement) → Called (calls_in s) → (h : History)
        → Kept P (statement_done few scopes s h) (statement_done more scopes s h)
    statement_kept scopes (Empty token) each h = same
    statement_kept scopes (Declares first kind locals) each h = locals_kept kind scopes locals each h
    statement_kept scopes (Block body) each h = statements_kept ([] ∷ scopes) body each h
    statement_kept scopes (If condition body) each h =
        truth_kept (condition_of program scopes h condition) (statement_done few ([] ∷ scopes) body h) (statement_done more ([] ∷ scopes) body h) (Normal h) (Normal h)
        (statement_kept ([] ∷ scopes) body each h) same
    statement_kept scopes (IfElse condition body otherwise) each h =
        truth_kept (condition_of program scopes h condition) (statement_done few ([] ∷ scopes) body h) (statement_done more ([] ∷ scopes) body h)
        (statement_done few ([] ∷ scopes) otherwise h) (statement_done more ([] ∷ scopes) otherwise h)
        (statement_kept ([] ∷ scopes) body (left_part (calls_in body) (calls_in otherwise) each) h)
        (statement_kept ([] ∷ scopes) otherwise (right_part (calls_in body) (calls_in otherwise) each) h)
    statement_kept scopes (While condition body) each h =
        turns_kept le (λ t. condition_of program scopes t condition) (statement_done few ([] ∷ scopes) body) (statement_done more ([] ∷ scopes) body) Normal Normal
        (statement_kept ([] ∷ scopes) body each) (λ t. same) h
    statement_kept scopes (Do body condition) each h =
        rounds_kept le (statement_done few ([] ∷ scopes) body) (statement_done more ([] ∷ scopes) body) (λ t. condition_of program scopes t condition)
        (statement_kept ([] ∷ scopes) body each) h
    statement_kept scopes (For condition last body) each h =
        turns_kept le (condition_if program scopes condition) (statement_done few ([] ∷ scopes) body) (statement_done more ([] ∷ scopes) body)
        (effect_if few scopes last) (effect_if more scopes last)
        (statement_kept ([] ∷ scopes) body (right_part (calls_if_done last) (calls_in body) each))
        (effect_if_kept scopes last (left_part (calls_if_done last) (calls_in body) each)) h
    statement_kept scopes (ForAfter first condition last body) each h =
        let inner : List Scope = scopes_after ([] ∷ scopes) first in
        let others : Called (calls_if_done last ++ calls_in body) = right_part (calls_in first) (calls_if_done last ++ calls_in body) each in
        then_kept
        (turns n (condition_if program inner condition) (statement_done few ([] ∷ inner) body) (effect_if few inner last))
        (turns m (condition_if program inner condition) (statement_done more ([] ∷ inner) body) (effect_if more inner last))
        (statement_kept ([] ∷ scopes) first (left_part (calls_in first) (calls_if_done last ++ calls_in body) each) h)
        (turns_kept le (condition_if program inner condition) (statement_done few ([] ∷ inner) body) (statement_done more ([] ∷ inner) body)
        (effect_if few inner last) (effect_if more inner last)
        (statement_kept ([] ∷ inner) body (right_part (calls_if_done last) (calls_in body) others))
        (effect_if_kept inner last (left_part (calls_if_done last) (calls_in body) others)))
    statement_kept scopes (Switch value body) each h =
        word_kept (value_of program scopes h value)
        (λ w. after_switch (by_labels (from_label few ([] ∷ scopes) (is_case program.words w) body h) (from_label few ([] ∷ scopes) is_default body h) h))
        (λ w. after_switch (by_labels (from_label more ([] ∷ scopes) (is_case program.words w) body h) (from_label more ([] ∷ scopes) is_default body h) h))
        (λ w. switch_kept (labels_kept h (label_kept ([] ∷ scopes) (is_case program.words w) body each h) (label_kept ([] ∷ scopes) is_default body each h)))
    statement_kept scopes (Case token constant) each h = same
    statement_kept scopes (Default token) each h = same
    statement_kept scopes (Break token) each h = same
    statement_kept scopes (Continue token) each h = same
    statement_kept scopes (Returns token value) each h = return_kept scopes value each h
    statement_kept scopes (Does effect) each h = effect_kept scopes effect each h

    pub statements_kept : (scopes : List Scope) (ss : Statements) → Called (called_in ss) → (h : History)
        → Kept P (statements_done few scopes ss h) (statements_done more scopes ss h)
    statements_kept scopes Nothing each h = same
    statements_kept scopes (Then s rest) each h =
        then_kept (statements_done few (scopes_after scopes s) rest) (statements_done more (scopes_after scopes s) rest)
        (statement_kept scopes s (left_part (calls_in s) (called_in rest) each) h)
        (statements_kept (scopes_after scopes s) rest (right_part (calls_in s) (called_in rest) each))

    label_kept : (scopes : List Scope) (is_here : Statement → Bool) (ss : Statements) → Called (called_in ss)
        → (h : History)
        → KeptIf P (from_label few scopes is_here ss h) (from_label more scopes is_here ss h)
    label_kept scopes is_here Nothing each h = neither
    label_kept scopes is_here (Then s rest) each h =
        chosen_kept (is_here s) (either (statements_kept (scopes_after scopes s) rest (right_part (calls_in s) (called_in rest) each) h))
        (label_kept (scopes_after scopes s) is_here rest (right_part (calls_in s) (called_in rest) each) h)

pub bodies_kept : (P : Type 0) (program : Program) (n m : ℕ) → AtMost P n m → (c d : Callees) (f : ℕ)
    → EachCalled (CallKept P program c d) (called_in (function_at program f).body) → (h : History) → Kept P (body_done program n c f h) (body_done program m d f h)
bodies_kept P program n m le c d f each h =
    left_kept (function_at program f).result f
    (statements_kept P program (function_at program f).result n m le c d (function_at program f).scopes (function_at program f).body each h)
