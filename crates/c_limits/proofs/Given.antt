-- A function has no more calls with a frame than its names so far count, and so there are few.
use Rattle.std.proofs.Common.{◌≡◌, ◌≤◌, ◌+◌, ℕ, suc, Bool, List, [], ◌∷◌, ◌++◌, length, length-append, map, slice_get, Option, None, Some, if◌then◌else◌, refl, sym, ap, ◌∙◌, arith}
use Rattle.c_unit.specs.declared.types.Integer.{Integer}
use Rattle.c_unit.specs.declared.types.Scalar.{Scalar}
use Rattle.c_unit.specs.declared.types.Outcome.{Outcome}
use Rattle.c_unit.specs.declared.types.Outcome.TheVariants as outcomes
use Rattle.c_unit.specs.declared.external.Parameter.{Parameter}
use Rattle.c_unit.specs.Tree.{CallTree, ValueTree, OfExpression, OfCall, EffectTree, Assigns, Updates, Steps, Calls, LocalShapeTree, LocalInteger, LocalPointer, LocalArray, LocalTree, Statement, Empty, Declares, Block, If, IfElse, While, Do, For, ForAfter, Switch, Case, Default, Break, Continue, Returns, Does, Statements, Nothing, Then, ExternalTree, Declaration, Definition, statements_of}
use Rattle.c_unit.specs.Units.{Word, UnitTree}
use Rattle.c_rules.specs.Names.{Scope, text_at}
use Rattle.c_rules.specs.Statements.{Around, inside, in_loop_of, in_switch_of, around_after, scopes_after, with_local, local_bound, in_function}
use Rattle.c_rules.specs.Units.{element_of, File, definitions, is_function, with_parameter, with_parameters, external_after}
use Rattle.c_rules.specs.UnitsStand.{ExternalsStand}
use Rattle.c_rules.specs.Recursion as names_called
use Rattle.c_rules.specs.Recursion.{called_in}
use Rattle.c_rules.specs.Standing.{IsCall, ValueSuits, IfValued, EffectStands, IfDone, ShapeStands, LocalsStand, ReturnStands, StatementStands, StatementsStand}
use Rattle.c_meaning.specs.Objects.{Object, globals_declared, globals_in, owned_in, all_locals_in, parameter_object, Function, Program, program_of, function_at, functions_in, functions_of}
use Rattle.c_meaning.specs.Statements.{number_named}
use Rattle.c_lowered.specs.Effects.{calls_of_outcome, calls_in_call, calls_in_value, calls_in_effect, calls_in_first, calls_in_shape, calls_in_locals}
use Rattle.c_lowered.specs.Statements.{calls_if, calls_in_returned, calls_in, calls_in_all}
use Rattle.lowering_layout.specs.Declared.{EachEntry, EachScope, EntryAgrees}
use Rattle.lowering_layout.specs.DeclaredLaws.{named_entry}
use Rattle.lowering_layout.specs.Lists.{EachOf}
use Rattle.lowering_layout.specs.Spelled.{HasFewCalls}
use Rattle.c_rules.specs.Counts.{all_tokens_in}
use Rattle.c_rules.specs.SpelledUnits.{FunctionsStand, Shallow, Names, gives, is_known, given, names_after, all_frames_of, tokens_of_declarators}
use Rattle.lowering_layout.specs.Texts.{IsIdentifier}
use Rattle.c_limits.specs.Counted.{calls_of_all}
use Rattle.c_limits.proofs.NameTokens.{declared_tokens, all_tokens}
use Rattle.c_limits.proofs.Objects.{tokens_length}
use Rattle.c_limits.proofs.Callees.{low_named, named_text, function_there}
use Rattle.c_limits.proofs.Calls.{Mirrors, mirrors_after, given_joined, NoFunction, Inside, outermost, deeper, with_inside, local_none, statement_inside, found_outer}

one_if_given : (o : Outcome) → calls_of_outcome o ≡ (if gives o then 1 else 0)
one_if_given outcomes.Nothing = refl
one_if_given (outcomes.Integer i) = refl

module _ (unit : UnitTree) (outer : Scope) (names : Names) (mirrors : Mirrors unit.words outer names) (agree : EachEntry (EntryAgrees unit) outer) where
  abbrev program : Program
  program = program_of unit

  abbrev words : List Word
  words = unit.words

  abbrev defined : List ℕ
  defined = definitions unit.externals

  call_given : (scopes : List Scope) (call : CallTree) (o : Outcome) → Inside outer scopes
      → IsCall words defined scopes call o → calls_in_call program call ≡ given words names (call.name ∷ [])
  call_given scopes call o within is =
      let f : ℕ = number_named words (functions_of unit) (text_at words call.name) in
      let at : slice_get (functions_of unit) f ≡ Some (function_at program f) = function_there program f (low_named words (record { scope = []; made = [] }) unit.externals (text_at words call.name) is.made) in
      let text : text_at words (function_at program f).name ≡ text_at words call.name = named_text words (functions_of unit) (text_at words call.name) (function_at program f) at in
      let found = found_outer words outer scopes call.name is.entry within (ap is_function is.function) is.found in
      let seen = named_entry (EntryAgrees unit) words outer call.name is.entry agree found in
      let result : (function_at program f).result ≡ o = (seen.0 o is.params is.function f (function_at program f) at (text ∙ sym seen.1)).0 in
      let known : is_known (text_at words call.name) names ≡ gives o = mirrors call.name o is.params (record { entry = is.entry; found = found; is = is.function }) in
      let one : calls_in_call program call ≡ (if is_known (text_at words call.name) names then 1 else 0) = ap calls_of_outcome result ∙ one_if_given o ∙ ap (λ (b : Bool). if b then 1 else 0) (sym known) in
      one_more (calls_in_call program call) (if is_known (text_at words call.name) names then 1 else 0) one
    where
      one_more : (a b : ℕ) → a ≡ b → a ≡ b + 0
      one_more a b e = omega arith

  value_given : (scopes : List Scope) (wanted : Scalar) (value : ValueTree) → Inside outer scopes
      → ValueSuits words defined scopes wanted value
      → calls_in_value program value ≡ given words names (names_called.calls_in_value value)
  value_given scopes wanted (OfExpression e) within suits = refl
  value_given scopes wanted (OfCall call) within suits = call_given scopes call (outcomes.Integer suits.type) within suits.call_of

  first_given : (scopes : List Scope) (wanted : Scalar) (first : Option ValueTree) → Inside outer scopes
      → IfValued words defined scopes wanted first
      → calls_in_first program first ≡ given words names (names_called.calls_if_valued first)
  first_given scopes wanted None within suits = refl
  first_given scopes wanted (Some value) within suits = value_given scopes wanted value within suits

  effect_given : (scopes : List Scope) (effect : EffectTree) → Inside outer scopes
      → EffectStands words defined scopes effect
      → calls_in_effect program effect ≡ given words names (names_called.calls_in_effect effect)
  effect_given scopes (Assigns to token value) within stands = value_given scopes stands.0 value within stands.2
  effect_given scopes (Updates to op token e) within stands = refl
  effect_given scopes (Steps operand up token) within stands = refl
  effect_given scopes (Calls call) within stands = call_given scopes call stands.0 within stands.1

  done_given : (scopes : List Scope) (effect : Option EffectTree) → Inside outer scopes
      → IfDone words defined scopes effect
      → calls_if program effect ≡ given words names (names_called.calls_if_done effect)
  done_given scopes None within stands = refl
  done_given scopes (Some effect) within stands = effect_given scopes effect within stands

  shape_given : (scopes : List Scope) (kind : Integer) (shape : LocalShapeTree) → Inside outer scopes
      → ShapeStands words defined scopes kind shape
      → calls_in_shape program shape ≡ given words names (names_called.calls_in_shape shape)
  shape_given scopes kind (LocalInteger first) within stands = first_given scopes _ first within stands
  shape_given scopes kind (LocalPointer first) within stands = first_given scopes _ first within stands
  shape_given scopes kind (LocalArray size firsts) within stands = refl

  locals_given : (kind : Integer) (scopes : List Scope) (locals : List LocalTree) → Inside outer scopes
      → LocalsStand words defined kind scopes locals
      → calls_in_locals program locals ≡ given words names (names_called.calls_in_locals locals)
  locals_given kind scopes [] within stands = refl
  locals_given kind scopes (local ∷ locals) within stands =
      let further : Inside outer (with_local kind scopes local) = with_inside outer (record { token = local.name; bound = local_bound kind local.shape }) scopes (local_none kind local.shape) within in
      omega (
        arith,
        given_joined words names (names_called.calls_in_shape local.shape) (names_called.calls_in_locals locals),
        shape_given (with_local kind scopes local) kind local.shape further stands.1,
        locals_given kind (with_local kind scopes local) locals further stands.2,
      )

  returned_given : (scopes : List Scope) (o : Outcome) (value : Option ValueTree) → Inside outer scopes
      → ReturnStands words defined scopes o value
      → calls_in_returned program value ≡ given words names (names_called.calls_if_valued value)
  returned_given scopes outcomes.Nothing None within stands = refl
  returned_given scopes outcomes.Nothing (Some value) within stands = absurd stands
  returned_given scopes (outcomes.Integer i) None within stands = absurd stands
  returned_given scopes (outcomes.Integer i) (Some value) within stands = value_given scopes _ value within stands

  mutual
    statement_given : (around : Around) (scopes : List Scope) (s : Statement) → Inside outer scopes
        → StatementStands words defined around scopes s
        → calls_in program s ≡ given words names (names_called.calls_in s)
    statement_given around scopes (Empty token) within stands = refl
    statement_given around scopes (Declares first kind locals) within stands = locals_given kind scopes locals within stands
    statement_given around scopes (Block body) within stands = statements_given (inside around) ([] ∷ scopes) body (deeper tt within) stands
    statement_given around scopes (If condition body) within stands = statement_given (inside around) ([] ∷ scopes) body (deeper tt within) stands.1
    statement_given around scopes (IfElse condition body otherwise) within stands =
        omega (
          arith,
          given_joined words names (names_called.calls_in body) (names_called.calls_in otherwise),
          statement_given (inside around) ([] ∷ scopes) body (deeper tt within) stands.1,
          statement_given (inside around) ([] ∷ scopes) otherwise (deeper tt within) stands.2,
        )
    statement_given around scopes (While condition body) within stands = statement_given (in_loop_of around) ([] ∷ scopes) body (deeper tt within) stands.1
    statement_given around scopes (Do body condition) within stands = statement_given (in_loop_of around) ([] ∷ scopes) body (deeper tt within) stands.0
    statement_given around scopes (For condition after body) within stands =
        omega (
          arith,
          given_joined words names (names_called.calls_if_done after) (names_called.calls_in body),
          done_given scopes after within stands.1,
          statement_given (in_loop_of around) ([] ∷ scopes) body (deeper tt within) stands.2,
        )
    statement_given around scopes (ForAfter first condition after body) within stands =
        let own : Inside outer ([] ∷ scopes) = deeper tt within in
        let further : Inside outer (scopes_after ([] ∷ scopes) first) = statement_inside outer ([] ∷ scopes) first own in
        omega (
          arith,
          given_joined words names (names_called.calls_in first) (names_called.calls_if_done after ++ names_called.calls_in body),
          given_joined words names (names_called.calls_if_done after) (names_called.calls_in body),
          statement_given (inside around) ([] ∷ scopes) first own stands.0,
          done_given (scopes_after ([] ∷ scopes) first) after further stands.2,
          statement_given (in_loop_of around) ([] ∷ scopes_after ([] ∷ scopes) first) body (deeper tt further) stands.3,
        )
    statement_given around scopes (Switch value body) within stands = statements_given (in_switch_of around) ([] ∷ scopes) body (deeper tt within) stands.1
    statement_given around scopes (Case token c) within stands = refl
    statement_given around scopes (Default token) within stands = refl
    statement_given around scopes (Break token) within stands = refl
    statement_given around scopes (Continue token) within stands = refl
    statement_given around scopes (Returns token value) within stands = returned_given scopes around.result value within stands
    statement_given around scopes (Does effect) within stands = effect_given scopes effect within stands

    statements_given : (around : Around) (scopes : List Scope) (ss : Statements) → Inside outer scopes
        → StatementsStand words defined around scopes ss → calls_in_all program ss ≡ given words names (called_in ss)
    statements_given around scopes Nothing within stands = refl
    statements_given around scopes (Then s rest) within stands =
        omega (
          arith,
          given_joined words names (names_called.calls_in s) (called_in rest),
          statement_given around scopes s within stands.0,
          statements_given (around_after words around s) (scopes_after scopes s) rest (statement_inside outer scopes s within) stands.1,
        )

-- parameters are no functions
parameter_none : (scope : Scope) (name : Option ℕ) (kind : Scalar) → EachEntry NoFunction scope
    → EachEntry NoFunction (with_parameter scope name kind)
parameter_none scope None kind each = each
parameter_none scope (Some name) kind each = (refl, each)

parameters_none : (scope : Scope) (params : List Parameter) → EachEntry NoFunction scope
    → EachEntry NoFunction (with_parameters scope params)
parameters_none scope [] each = each
parameters_none scope (p ∷ ps) each = parameters_none (with_parameter scope p.name p.kind) ps (parameter_none scope p.name p.kind each)

images_length : {A B : Type 0} (f : A → B) (xs : List A) → length (map f xs) ≡ length xs
images_length f [] = refl
images_length f (x ∷ xs) = ap suc (images_length f xs)

module _ (unit : UnitTree) where
  pub few_calls : (file : File) (xs : List ExternalTree) (names : Names)
      → ExternalsStand unit.words (definitions unit.externals) file xs → Mirrors unit.words file.scope names
      → ((i : ℕ) (function : Function) → slice_get (functions_in file xs) i ≡ Some function → EachScope (EntryAgrees unit) function.scopes)
      → all_frames_of unit.words names xs ≤ 256 → EachOf (HasFewCalls (program_of unit)) (functions_in file xs)
  few_calls file [] names stand mirrors agree few = tt
  few_calls file (Declaration first o ds ∷ xs) names stand mirrors agree few =
      few_calls (external_after file (Declaration first o ds)) xs (names_after unit.words names (Declaration first o ds)) stand.1 (mirrors_after unit.words file (Declaration first o ds) names mirrors) agree
      (let all : length (tokens_of_declarators ds) + all_frames_of unit.words (names_after unit.words names (Declaration first o ds)) xs ≤ 256 = few in omega arith)
  few_calls file (Definition first o name params body ∷ xs) names stand mirrors agree few =
      let x : ExternalTree = Definition first o name params body in
      let further : File = external_after file x in
      let known : Names = names_after unit.words names x in
      let now : Mirrors unit.words further.scope known = mirrors_after unit.words file x names mirrors in
      let all : (length params + (length (all_tokens_in (statements_of body)) + given unit.words known (called_in (statements_of body)))) + all_frames_of unit.words known xs ≤ 256 = few in
      let same : calls_in_all (program_of unit) (statements_of body) ≡ given unit.words known (called_in (statements_of body)) =
      statements_given unit further.scope known now (agree 0 _ refl).1.0 (in_function o) (with_parameters [] params ∷ further.scope ∷ []) (statements_of body) (outermost (parameters_none [] params tt)) stand.0.body_stands in
      (omega arith, few_calls further xs known stand.1 now (λ i function at. agree (suc i) function at) (omega arith))

  -- the objects and the calls of functions that give something are no more than the frames that are counted
  pub calls_counted : (file : File) (xs : List ExternalTree) (names : Names) (k : ℕ)
      → ExternalsStand unit.words (definitions unit.externals) file xs → Mirrors unit.words file.scope names
      → ((i : ℕ) (function : Function) → slice_get (functions_in file xs) i ≡ Some function → EachScope (EntryAgrees unit) function.scopes)
      → FunctionsStand IsIdentifier Shallow unit.words xs
      → length (globals_in unit.words xs) + (length (owned_in unit.words k xs) + calls_of_all (program_of unit) (functions_in file xs)) ≤ all_frames_of unit.words names xs
  calls_counted file [] names k stand mirrors agree named = omega arith
  calls_counted file (Declaration first o ds ∷ xs) names k stand mirrors agree named =
      let here : List Object = globals_declared unit.words (element_of o) ds in
      omega (
        arith,
        length-append here (globals_in unit.words xs),
        tokens_length here,
        ap (λ (ts : List ℕ). length ts) (declared_tokens unit.words (element_of o) ds),
        calls_counted (external_after file (Declaration first o ds)) xs (names_after unit.words names (Declaration first o ds)) k stand.1 (mirrors_after unit.words file (Declaration first o ds) names mirrors) agree named.1,
      )
  calls_counted file (Definition first o name params body ∷ xs) names k stand mirrors agree named =
      let x : ExternalTree = Definition first o name params body in
      let further : File = external_after file x in
      let known : Names = names_after unit.words names x in
      let now : Mirrors unit.words further.scope known = mirrors_after unit.words file x names mirrors in
      let same : calls_in_all (program_of unit) (statements_of body) ≡ given unit.words known (called_in (statements_of body)) =
      statements_given unit further.scope known now (agree 0 _ refl).1.0 (in_function o) (with_parameters [] params ∷ further.scope ∷ []) (statements_of body) (outermost (parameters_none [] params tt)) stand.0.body_stands in
      let ps : List Object = map (parameter_object k) params in
      let ls : List Object = all_locals_in unit.words k (statements_of body) in
      let others : List Object = owned_in unit.words (k + 1) xs in
      omega (
        arith,
        same,
        length-append ps (ls ++ others),
        length-append ls others,
        images_length (parameter_object k) params,
        tokens_length ls,
        ap (λ (ts : List ℕ). length ts) (all_tokens unit.words k (statements_of body)),
        calls_counted further xs known (k + 1) stand.1 now (λ i function at. agree (suc i) function at) named.1,
      )
