-- A unit without faults stands, construct by construct.
--   suits_where_wanted, target_stands   expressions
--   call_stands, value_stands           calls and values
--   effect_stands, locals_stand         effects and locals
--   statement_stands, statements_stand  statements
use Rattle.std.proofs.Common.{◌≡◌, ◌<◌, ◌≤◌, ℕ, zero, suc, Bool, true, false, not, ◌&&◌, ◌==◌, List, [], ◌∷◌, ◌++◌, Option, Some, None, length, slice_get, if◌then◌else◌, refl, sym, ap, ◌∙◌, arith}
use Rattle.std.specs.Option.{is_some}
use Rattle.std.proofs.lemmas.Bool.{eqb-true}
use Rattle.lists.specs.TestLaws.{by_test}
use Rattle.c_unit.specs.declared.types.Integer.{Integer}
use Rattle.c_unit.specs.declared.types.Scalar.{Scalar}
use Rattle.c_unit.specs.declared.types.Scalar.TheVariants as scalars
use Rattle.c_unit.specs.declared.types.Outcome.{Outcome}
use Rattle.c_unit.specs.declared.types.Outcome.TheVariants as outcomes
use Rattle.c_unit.specs.declared.types.Constant.{Constant}
use Rattle.c_unit.specs.Tree.{Expression, CallTree, ValueTree, OfExpression, OfCall, EffectTree, Assigns, Updates, Steps, Calls, LocalShapeTree, LocalInteger, LocalPointer, LocalArray, LocalTree, Statement, Empty, Declares, Block, If, IfElse, While, Do, For, ForAfter, Switch, Case, Default, Break, Continue, Returns, Does, Statements, Nothing, Then}
use Rattle.c_unit.specs.Measures.{first_of}
use Rattle.c_unit.specs.Units.{Word}
use Rattle.c_rules.specs.Faults.{Fault, Unknown, Duplicate, Mistyped, when}
use Rattle.c_rules.specs.Types.{suits, binary_type}
use Rattle.c_rules.specs.Names.{Bound, Variable, Array, Function, Entry, Scope, worth_at, number_of, look_up, is_declared, innermost}
use Rattle.c_rules.specs.Expressions.{designates, type_of, faults_of, unsuited, an_integer, wanted_faults, condition_faults, target_type, target_faults}
use Rattle.c_rules.specs.Calls.{Use, Dropped, Valued, is_defined, use_faults, function_faults, argument_faults, bound_faults, entry_faults, call_faults, value_faults}
use Rattle.c_rules.specs.Statements.{twice_faults, too_many, initialiser_faults, array_faults, with_local, first_value_faults, shape_faults, locals_faults, updated, update_faults, effect_faults, Around, inside, in_loop_of, in_switch_of, around_after, scopes_after, return_faults, if_condition, if_effect, statement_faults, statements_faults}
use Rattle.c_rules.specs.TypedLaws.{apart, not_when, is_type, typed}
use Rattle.c_rules.specs.Standing.{Suits, IsTarget, ArgumentsSuit, IsCall, IsValuedCall, ValueSuits, IfValued, EffectStands, IfDone, IfCondition, AreAtMost, ArrayStands, ShapeStands, LocalsStand, ReturnStands, StatementStands, StatementsStand}

negated : (b : Bool) → not b ≡ false → b ≡ true
negated true clear = refl
negated false clear = absurd (let bad : true ≡ false = clear in cc)

-- a fault alone is no empty list
no_fault : {A : Type 0} (fault : Fault) (faults : List Fault) → fault ∷ faults ≡ [] → A
no_fault fault faults none = absurd (let bad : fault ∷ faults ≡ [] = none in cc)

-- ---- expressions

module _ (words : List Word) (scopes : List Scope) where
  pub suits_where_wanted : (wanted : Scalar) (e : Expression) → wanted_faults words scopes (Some wanted) e ≡ []
      → Suits words scopes wanted e
  suits_where_wanted wanted e none =
      let parts = apart (faults_of words scopes e) (unsuited wanted (type_of words scopes e) (first_of e)) none in
      let r = typed words scopes e parts.0 in
      record {
        type = r.0;
        has = r.1;
        suit = negated (suits wanted r.0) (not_when (not (suits wanted r.0)) (Mistyped (first_of e)) (sym (ap (λ (t : Option Scalar). unsuited wanted t (first_of e)) (is_type words scopes e r.0 r.1)) ∙ parts.1));
      }

  pub target_stands : (e : Expression) → target_faults words scopes e ≡ []
      → (t : Scalar) × IsTarget words scopes e t × (target_type words scopes e ≡ Some t)
  target_stands e none =
      let parts = apart (faults_of words scopes e) (when (is_some (type_of words scopes e) && not (designates words scopes e)) (Mistyped (first_of e))) none in
      let r = typed words scopes e parts.0 in
      let is = is_type words scopes e r.0 r.1 in
      let assignable = negated (designates words scopes e) (sym (ap (λ (x : Option Scalar). is_some x && not (designates words scopes e)) is) ∙ not_when (is_some (type_of words scopes e) && not (designates words scopes e)) (Mistyped (first_of e)) parts.1) in
      (r.0, record { has = r.1; assignable = assignable }, ap (λ (b : Bool). if b then type_of words scopes e else None) assignable ∙ is)

  arguments_suit : (es : List Expression) (ps : List Scalar) → length es ≡ length ps
      → argument_faults words scopes es ps ≡ [] → ArgumentsSuit words scopes es ps
  arguments_suit [] [] same none = tt
  arguments_suit [] (p ∷ ps) same none = absurd (let bad : 0 ≡ suc (length ps) = same in omega arith)
  arguments_suit (e ∷ es) [] same none = absurd (let bad : suc (length es) ≡ 0 = same in omega arith)
  arguments_suit (e ∷ es) (p ∷ ps) same none =
      let parts = apart (wanted_faults words scopes (Some p) e) (argument_faults words scopes es ps) none in
      let fewer : length es ≡ length ps = (let more : suc (length es) ≡ suc (length ps) = same in omega arith) in
      (suits_where_wanted p e parts.0, arguments_suit es ps fewer parts.1)

-- ---- calls and values

module _ (words : List Word) (defined : List ℕ) (scopes : List Scope) (way : Use) (call : CallTree) where
  -- what the callee gives
  pub record Called : Type 0 where
    pub gives : Outcome
    pub stands : IsCall words defined scopes call gives
    pub used : use_faults way gives call.name ≡ []

  of_function : (e : Entry) (o : Outcome) (ps : List Scalar) → look_up words scopes call.name ≡ Some e
      → e.bound ≡ Function o ps → bound_faults words defined scopes way call (Function o ps) ≡ [] → Called
  of_function e o ps found function none =
      let parts = apart (if is_defined words defined call.name then function_faults way o (length call.arguments) (length ps) call.name else Unknown call.name ∷ []) (argument_faults words scopes call.arguments ps) none in
      by_test (is_defined words defined call.name)
      (λ made.
      let uses = apart (use_faults way o call.name) (when (not (length call.arguments == length ps)) (Mistyped call.name))
      (sym (ap (λ (b : Bool). if b then function_faults way o (length call.arguments) (length ps) call.name else Unknown call.name ∷ []) made) ∙ parts.0) in
      let same = eqb-true (length call.arguments) (length ps) (negated (length call.arguments == length ps) (not_when (not (length call.arguments == length ps)) (Mistyped call.name) uses.1)) in
      record {
        gives = o;
        stands = record { entry = e; params = ps; found = found; function = function; made = made; arguments = arguments_suit words scopes call.arguments ps same parts.1 };
        used = uses.0;
      })
      (λ clear. no_fault (Unknown call.name) [] (sym (ap (λ (b : Bool). if b then function_faults way o (length call.arguments) (length ps) call.name else Unknown call.name ∷ []) clear) ∙ parts.0))

  of_bound : (e : Entry) (b : Bound) → look_up words scopes call.name ≡ Some e → e.bound ≡ b
      → bound_faults words defined scopes way call b ≡ [] → Called
  of_bound e (Variable t) found is none = no_fault (Mistyped call.name) (argument_faults words scopes call.arguments []) none
  of_bound e (Array i) found is none = no_fault (Mistyped call.name) (argument_faults words scopes call.arguments []) none
  of_bound e (Function o ps) found is none = of_function e o ps found is none

  of_entry : (x : Option Entry) → look_up words scopes call.name ≡ x → entry_faults words defined scopes way call x ≡ []
      → Called
  of_entry None found none = no_fault (Unknown call.name) (argument_faults words scopes call.arguments []) none
  of_entry (Some e) found none = of_bound e e.bound found refl none

  pub call_stands : call_faults words defined scopes way call ≡ [] → Called
  call_stands none = of_entry (look_up words scopes call.name) refl none

module _ (words : List Word) (defined : List ℕ) (scopes : List Scope) where
  valued : (wanted : Scalar) (call : CallTree) (o : Outcome) → IsCall words defined scopes call o
      → use_faults (Valued (Some wanted)) o call.name ≡ [] → IsValuedCall words defined scopes wanted call
  valued wanted call outcomes.Nothing stands used = no_fault (Mistyped call.name) [] used
  valued wanted call (outcomes.Integer i) stands used =
      record { type = i; call_of = stands; suit = negated (suits wanted (scalars.Integer i)) (not_when (not (suits wanted (scalars.Integer i))) (Mistyped call.name) used) }

  pub value_stands : (wanted : Scalar) (value : ValueTree) → value_faults words defined scopes (Some wanted) value ≡ []
      → ValueSuits words defined scopes wanted value
  value_stands wanted (OfExpression e) none = suits_where_wanted words scopes wanted e none
  value_stands wanted (OfCall call) none = let r = call_stands words defined scopes (Valued (Some wanted)) call none in valued wanted call r.gives r.stands r.used

  if_valued : (wanted : Scalar) (value : Option ValueTree) → first_value_faults words defined scopes wanted value ≡ []
      → IfValued words defined scopes wanted value
  if_valued wanted None none = tt
  if_valued wanted (Some value) none = value_stands wanted value none

  -- ---- effects

  suited : (wanted : Scalar) (given : Option Scalar) → updated wanted given ≡ true
      → (r : Scalar) × (given ≡ Some r) × (suits wanted r ≡ true)
  suited wanted None is = absurd (let bad : false ≡ true = is in cc)
  suited wanted (Some r) is = (r, refl, is)

  pub effect_stands : (effect : EffectTree) → effect_faults words defined scopes effect ≡ []
      → EffectStands words defined scopes effect
  effect_stands (Assigns to token value) none =
      let parts = apart (target_faults words scopes to) (value_faults words defined scopes (target_type words scopes to) value) none in
      let t = target_stands words scopes to parts.0 in
      (t.0, t.1, value_stands t.0 value (sym (ap (λ (x : Option Scalar). value_faults words defined scopes x value) t.2) ∙ parts.1))
  effect_stands (Updates to op token e) none =
      let parts = apart (target_faults words scopes to) (faults_of words scopes e ++ update_faults op (target_type words scopes to) (type_of words scopes e) (first_of to)) none in
      let others = apart (faults_of words scopes e) (update_faults op (target_type words scopes to) (type_of words scopes e) (first_of to)) parts.1 in
      let t = target_stands words scopes to parts.0 in
      let r = typed words scopes e others.0 in
      let fits = sym (ap (λ (x : Option Scalar). update_faults op x (type_of words scopes e) (first_of to)) t.2 ∙ ap (λ (x : Option Scalar). update_faults op (Some t.0) x (first_of to)) (is_type words scopes e r.0 r.1)) ∙ others.1 in
      let given = suited t.0 (binary_type op t.0 r.0) (negated (updated t.0 (binary_type op t.0 r.0)) (not_when (not (updated t.0 (binary_type op t.0 r.0))) (Mistyped (first_of to)) fits)) in
      record { type = t.0; other = r.0; given = given.0; target = t.1; has = r.1; gives = given.1; suit = given.2 }
  effect_stands (Steps operand up token) none = let t = target_stands words scopes operand none in (t.0, t.1)
  effect_stands (Calls call) none = let r = call_stands words defined scopes Dropped call none in (r.gives, r.stands)

  if_done : (effect : Option EffectTree) → if_effect words defined scopes effect ≡ []
      → IfDone words defined scopes effect
  if_done None none = tt
  if_done (Some effect) none = effect_stands effect none

  if_condition_stands : (e : Option Expression) → if_condition words scopes e ≡ [] → IfCondition words scopes e
  if_condition_stands None none = tt
  if_condition_stands (Some e) none = suits_where_wanted words scopes an_integer e none

  return_stands : (o : Outcome) (token : ℕ) (value : Option ValueTree)
      → return_faults words defined scopes o token value ≡ [] → ReturnStands words defined scopes o value
  return_stands outcomes.Nothing token None none = tt
  return_stands outcomes.Nothing token (Some value) none = no_fault (Mistyped token) (value_faults words defined scopes None value) none
  return_stands (outcomes.Integer i) token None none = no_fault (Mistyped token) [] none
  return_stands (outcomes.Integer i) token (Some value) none = value_stands (scalars.Integer i) value none

-- ---- declarations

-- where no initialiser is too many, there are no more than elements
few_firsts : (firsts : List Constant) (count : ℕ) → too_many (slice_get firsts count) ≡ [] → length firsts ≤ count
few_firsts [] count none = let low : 0 ≤ count = omega arith in low
few_firsts (c ∷ cs) zero none = no_fault (Mistyped _) [] none
few_firsts (c ∷ cs) (suc count) none = let fewer = few_firsts cs count none in let more : suc (length cs) ≤ suc count = omega arith in more

at_most : (count : ℕ) (firsts : Option (List Constant)) → initialiser_faults count firsts ≡ [] → AreAtMost count firsts
at_most count None none = tt
at_most count (Some firsts) none = few_firsts firsts count none

above_zero : (n : ℕ) → (n == 0) ≡ false → 0 < n
above_zero zero clear = absurd (let bad : true ≡ false = clear in cc)
above_zero (suc n) clear = let low : 0 < suc n = omega arith in low

pub array_stands : (words : List Word) (size : ℕ) (firsts : Option (List Constant))
    → array_faults words size firsts ≡ [] → ArrayStands words size firsts
array_stands words size firsts none =
    let parts = apart (when (number_of (worth_at words size) == 0) (Mistyped size)) (initialiser_faults (number_of (worth_at words size)) firsts) none in
    record { some = above_zero (number_of (worth_at words size)) (not_when (number_of (worth_at words size) == 0) (Mistyped size) parts.0); fit = at_most (number_of (worth_at words size)) firsts parts.1 }

shape_stands : (words : List Word) (defined : List ℕ) (scopes : List Scope) (kind : Integer) (shape : LocalShapeTree)
    → shape_faults words defined scopes kind shape ≡ [] → ShapeStands words defined scopes kind shape
shape_stands words defined scopes kind (LocalInteger first) none = if_valued words defined scopes (scalars.Integer kind) first none
shape_stands words defined scopes kind (LocalPointer first) none = if_valued words defined scopes (scalars.Pointer kind) first none
shape_stands words defined scopes kind (LocalArray size firsts) none = array_stands words size firsts none

pub locals_stand : (words : List Word) (defined : List ℕ) (kind : Integer) (scopes : List Scope) (locals : List LocalTree) → locals_faults words defined kind scopes locals ≡ [] → LocalsStand words defined kind scopes locals
locals_stand words defined kind scopes [] none = tt
locals_stand words defined kind scopes (local ∷ locals) none =
    let further = with_local kind scopes local in
    let parts = apart (twice_faults words (innermost scopes) local.name) (shape_faults words defined further kind local.shape ++ locals_faults words defined kind further locals) none in
    let others = apart (shape_faults words defined further kind local.shape) (locals_faults words defined kind further locals) parts.1 in
    (not_when (is_declared words (innermost scopes) local.name) (Duplicate local.name) parts.0, shape_stands words defined further kind local.shape others.0, locals_stand words defined kind further locals others.1)

-- ---- statements

module _ (words : List Word) (defined : List ℕ) where
  mutual
    pub statement_stands : (around : Around) (scopes : List Scope) (s : Statement)
        → statement_faults words defined around scopes s ≡ [] → StatementStands words defined around scopes s
    statement_stands around scopes (Empty token) none = tt
    statement_stands around scopes (Declares first kind locals) none = locals_stand words defined kind scopes locals none
    statement_stands around scopes (Block body) none = statements_stand (inside around) ([] ∷ scopes) body none
    statement_stands around scopes (If condition body) none =
        let parts = apart (condition_faults words scopes condition) (statement_faults words defined (inside around) ([] ∷ scopes) body) none in
        (suits_where_wanted words scopes an_integer condition parts.0, statement_stands (inside around) ([] ∷ scopes) body parts.1)
    statement_stands around scopes (IfElse condition body otherwise) none =
        let parts = apart (condition_faults words scopes condition) (statement_faults words defined (inside around) ([] ∷ scopes) body ++ statement_faults words defined (inside around) ([] ∷ scopes) otherwise) none in
        let others = apart (statement_faults words defined (inside around) ([] ∷ scopes) body) (statement_faults words defined (inside around) ([] ∷ scopes) otherwise) parts.1 in
        (suits_where_wanted words scopes an_integer condition parts.0, statement_stands (inside around) ([] ∷ scopes) body others.0, statement_stands (inside around) ([] ∷ scopes) otherwise others.1)
    statement_stands around scopes (While condition body) none =
        let parts = apart (condition_faults words scopes condition) (statement_faults words defined (in_loop_of around) ([] ∷ scopes) body) none in
        (suits_where_wanted words scopes an_integer condition parts.0, statement_stands (in_loop_of around) ([] ∷ scopes) body parts.1)
    statement_stands around scopes (Do body condition) none =
        let parts = apart (statement_faults words defined (in_loop_of around) ([] ∷ scopes) body) (condition_faults words scopes condition) none in
        (statement_stands (in_loop_of around) ([] ∷ scopes) body parts.0, suits_where_wanted words scopes an_integer condition parts.1)
    statement_stands around scopes (For condition after body) none =
        let parts = apart (if_condition words scopes condition) (if_effect words defined scopes after ++ statement_faults words defined (in_loop_of around) ([] ∷ scopes) body) none in
        let others = apart (if_effect words defined scopes after) (statement_faults words defined (in_loop_of around) ([] ∷ scopes) body) parts.1 in
        (if_condition_stands words defined scopes condition parts.0, if_done words defined scopes after others.0, statement_stands (in_loop_of around) ([] ∷ scopes) body others.1)
    statement_stands around scopes (ForAfter first condition after body) none =
        let further = scopes_after ([] ∷ scopes) first in
        let parts = apart (statement_faults words defined (inside around) ([] ∷ scopes) first)
        (if_condition words further condition ++ (if_effect words defined further after ++ statement_faults words defined (in_loop_of around) ([] ∷ further) body)) none in
        let others = apart (if_condition words further condition) (if_effect words defined further after ++ statement_faults words defined (in_loop_of around) ([] ∷ further) body) parts.1 in
        let rest = apart (if_effect words defined further after) (statement_faults words defined (in_loop_of around) ([] ∷ further) body) others.1 in
        (statement_stands (inside around) ([] ∷ scopes) first parts.0, if_condition_stands words defined further condition others.0, if_done words defined further after rest.0, statement_stands (in_loop_of around) ([] ∷ further) body rest.1)
    statement_stands around scopes (Switch value body) none =
        let parts = apart (condition_faults words scopes value) (statements_faults words defined (in_switch_of around) ([] ∷ scopes) body) none in
        (suits_where_wanted words scopes an_integer value parts.0, statements_stand (in_switch_of around) ([] ∷ scopes) body parts.1)
    statement_stands around scopes (Case token c) none = not_when _ (Mistyped token) none
    statement_stands around scopes (Default token) none = not_when around.has_default (Mistyped token) none
    statement_stands around scopes (Break token) none = negated around.may_break (not_when (not around.may_break) (Mistyped token) none)
    statement_stands around scopes (Continue token) none = negated around.in_loop (not_when (not around.in_loop) (Mistyped token) none)
    statement_stands around scopes (Returns token value) none = return_stands words defined scopes around.result token value none
    statement_stands around scopes (Does effect) none = effect_stands words defined scopes effect none

    pub statements_stand : (around : Around) (scopes : List Scope) (ss : Statements)
        → statements_faults words defined around scopes ss ≡ [] → StatementsStand words defined around scopes ss
    statements_stand around scopes Nothing none = tt
    statements_stand around scopes (Then s rest) none =
        let parts = apart (statement_faults words defined around scopes s) (statements_faults words defined (around_after words around s) (scopes_after scopes s) rest) none in
        (statement_stands around scopes s parts.0, statements_stand (around_after words around s) (scopes_after scopes s) rest parts.1)
