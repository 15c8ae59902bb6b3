-- Laws of effects.
--   CalleeOf token o ps    the function of this name is defined, gives o and takes parameters of the types ps
--   ScopesCall scopes      so for each name in the scopes that is declared as a function and defined
--   ResultsUsable   the frames of results that the function has
--   IsAsked         a call of the function's block
--   Makes           what is made of a term is an item that stands
use Rattle.std.proofs.Common.{◌≡◌, ◌<◌, ◌≤◌, ◌+◌, ◌%◌, ℕ, suc, Bool, true, List, [], ◌∷◌, map, slice_get, Contains, option_map, Option, None, Some, refl, sym, ap, ◌∙◌, subst, arith, bytes_eq, if◌then◌else◌}
use Rattle.std.specs.Option.{option_map_or}
use Rattle.std.proofs.lemmas.Option.{none-some}
use Rattle.lists.specs.TestLaws.{by_test}
use Rattle.lists.specs.MemberLaws.{no_member, first_member, further_member, first_or_further}
use Rattle.c_unit.specs.Units.{Word}
use Rattle.alf_program.specs.Tree.{NamedExpression, Address, Load, BodyItem, WholeProgram}
use Rattle.alf_program.specs.Tree as alf
use Rattle.alf_program.specs.Writable.{IsLoadSize}
use Rattle.c_unit.specs.declared.types.Integer.{Integer}
use Rattle.c_unit.specs.declared.types.Integer.TheVariants.{Char, UnsignedChar, Short, UnsignedShort, Int, UnsignedInt}
use Rattle.c_unit.specs.declared.types.Scalar.{Scalar}
use Rattle.c_unit.specs.declared.types.Scalar.TheVariants as scalars
use Rattle.c_unit.specs.declared.types.Outcome.{Outcome}
use Rattle.c_unit.specs.declared.types.Outcome.TheVariants as outcomes
use Rattle.c_unit.specs.declared.expression.Binary.{Binary}
use Rattle.c_unit.specs.declared.external.Parameter.{Parameter}
use Rattle.c_unit.specs.Tree.{Expression, CallTree, ValueTree, OfExpression, OfCall, EffectTree, Assigns, Updates, Steps, Calls}
use Rattle.c_rules.specs.Names.{Function as FunctionBound, Entry, Scope, text_at, look_up}
use Rattle.c_rules.specs.Calls.{is_defined}
use Rattle.c_rules.specs.Units.{types_of}
use Rattle.c_rules.specs.Typed.{HasType}
use Rattle.c_rules.specs.Standing.{ArgumentsSuit, IsCall, ValueSuits, EffectStands}
use Rattle.c_meaning.specs.Values.{bits_of_type}
use Rattle.c_meaning.specs.Objects.{Function, Program, function_at, no_function, bits_of_scalar}
use Rattle.c_meaning.specs.Expressions.{kind_of}
use Rattle.c_meaning.specs.Statements.{number_named, callee, step_operator}
use Rattle.c_lowered.specs.Names.{function_name, call_name}
use Rattle.c_lowered.specs.Values.{whole, value_of, address_of}
use Rattle.c_lowered.specs.Conditions.{Within}
use Rattle.c_lowered.specs.Effects.{result_of, calls_of_outcome, calls_in_call, arguments, result_frame, call_items, result_value, call_value, calls_in_value, value_items, assign, calls_in_effect, update, effect_items}
use Rattle.c_rules.specs.SpelledExpressions.{Every, InCall, InValue, InEffect}
use Rattle.lowering_layout.specs.Lists.{EachOf}
use Rattle.lowering_checks.specs.Terms.{IsUsable, Term}
use Rattle.lowering_checks.proofs.TermLaws.{deeper, address_term, load_term}
use Rattle.lowering_checks.proofs.OperatorLaws.{whole_term, extended_term, cut_to_term, binary_term}
use Rattle.lowering_checks.specs.Values.{deep, ScopesUsable}
use Rattle.lowering_checks.proofs.ValueLaws.{names_stand, value_term, address_term_of}
use Rattle.c_rules.specs.Recursion.{number_at, with_number, numbers_at}
use Rattle.c_rules.specs.Recursion as asked
use Rattle.lowering_checks.proofs.StandingLaws.{called_tokens, called_numbers, ArgumentsFit, ResultStands, CallStands, ItemStands}
use Rattle.lowering_checks.specs.Effects.{Shallow}

pub bytes_of_bits : (i : Integer) → bits_of_type i % 8 ≡ 0
bytes_of_bits Char = refl
bytes_of_bits UnsignedChar = refl
bytes_of_bits Short = refl
bytes_of_bits UnsignedShort = refl
bytes_of_bits Int = refl
bytes_of_bits UnsignedInt = refl

bytes_of_scalar : (t : Scalar) → bits_of_scalar t % 8 ≡ 0
bytes_of_scalar (scalars.Integer i) = bytes_of_bits i
bytes_of_scalar (scalars.Pointer i) = refl

load_bits : (i : Integer) → IsLoadSize (bits_of_type i)
load_bits Char = record { some = omega arith; small = omega arith; bytes = refl }
load_bits UnsignedChar = record { some = omega arith; small = omega arith; bytes = refl }
load_bits Short = record { some = omega arith; small = omega arith; bytes = refl }
load_bits UnsignedShort = record { some = omega arith; small = omega arith; bytes = refl }
load_bits Int = record { some = omega arith; small = omega arith; bytes = refl }
load_bits UnsignedInt = record { some = omega arith; small = omega arith; bytes = refl }

-- ---- the numbers of called functions

number_found : (words : List Word) (fs : List Function) (token : ℕ) (function : Function)
    → slice_get fs (number_named words fs (text_at words token)) ≡ Some function
    → number_at words (map (λ (g : Function). g.name) fs) token ≡ Some (number_named words fs (text_at words token))
number_found words [] token function at = absurd (none-some function at)
number_found words (f ∷ fs) token function at =
    by_test (bytes_eq (text_at words f.name) (text_at words token))
    (λ here. rw here refl)
    (λ further.
    let number : number_named words (f ∷ fs) (text_at words token) ≡ suc (number_named words fs (text_at words token)) =
    ap (λ (b : Bool). if b then 0 else number_named words fs (text_at words token) + 1) further ∙ (omega arith)
    in
    let rest = number_found words fs token function (sym (ap (λ (k : ℕ). slice_get (f ∷ fs) k) number) ∙ at) in
    rw further (ap (option_map (λ (n : ℕ). n + 1)) rest))

number_among : (words : List Word) (names tokens : List ℕ) (token n : ℕ) → Contains tokens token
    → number_at words names token ≡ Some n
    → Contains (numbers_at words names tokens) n
number_among words names [] token n c is = no_member token c
number_among words names (t ∷ ts) token n c is =
    first_or_further t ts token c
    (λ same. subst (λ (x : Option ℕ). Contains (with_number x (numbers_at words names ts)) n)
    (sym (ap (number_at words names) same ∙ is)) (first_member n (numbers_at words names ts)))
    (λ rest. with_more (number_at words names t) (number_among words names ts token n rest is))
  where
    with_more : (x : Option ℕ) → Contains (numbers_at words names ts) n
        → Contains (with_number x (numbers_at words names ts)) n
    with_more None c = c
    with_more (Some m) c = further_member m (numbers_at words names ts) n c

called_number : (program : Program) (f token : ℕ) (function : Function)
    → slice_get program.functions (number_named program.words program.functions (text_at program.words token)) ≡ Some function
    → Contains (called_tokens program f) token
    → Contains (called_numbers program f) (number_named program.words program.functions (text_at program.words token))
called_number program f token function at asked =
    number_among program.words (map (λ (g : Function). g.name) program.functions) (called_tokens program f) token _ asked
    (number_found program.words program.functions token function at)

module _ (whole_program : WholeProgram) (func : alf.Function) (program : Program) (defined : List ℕ) (f labels results : ℕ) where
  -- the frames of results that the function has
  abbrev pub ResultsUsable : Type 0
  ResultsUsable = (k : ℕ) → k < results → IsUsable whole_program func (call_name program f k)

  pub record CalleeOf (token : ℕ) (o : Outcome) (ps : List Scalar) : Type 0 where
    pub function : Function
    pub at : slice_get program.functions (number_named program.words program.functions (text_at program.words token)) ≡ Some function
    pub named : text_at program.words token ≡ function_name program (number_named program.words program.functions (text_at program.words token))
    pub result : function.result ≡ o
    pub takes : types_of function.parameters ≡ ps

  abbrev pub ScopesCall : List Scope → Type 0
  ScopesCall scopes =
      (token : ℕ) (entry : Entry) (o : Outcome) (ps : List Scalar) → look_up program.words scopes token ≡ Some entry
      → entry.bound ≡ FunctionBound o ps → is_defined program.words defined token ≡ true → CalleeOf token o ps

  -- a call of the function's block
  abbrev pub IsAsked : ℕ → Type 0
  IsAsked token = Contains (called_tokens program f) token

  abbrev pub AreItems : List BodyItem → Type 0
  AreItems items = EachOf (ItemStands whole_program func program f labels) items

  abbrev pub within : Within
  within = record { program = program; function = f }

  module _ (usable_results : ResultsUsable) (scopes : List Scope) (usable : ScopesUsable whole_program func program scopes) (calls : ScopesCall scopes) where
    -- ---- expressions

    typed_term : (e : Expression) (t : Scalar) → HasType program.words scopes e t → Shallow e
        → Term whole_program func 32 53 (value_of program scopes e)
    typed_term e t has low =
        deeper whole_program func 32 (deep e) 53 _ (omega (arith, low))
        (value_term whole_program func program scopes usable e (names_stand program.words scopes e t has))

    typed_address : (e : Expression) (t : Scalar) → HasType program.words scopes e t → Shallow e
        → Term whole_program func 32 53 (address_of program scopes e)
    typed_address e t has low =
        deeper whole_program func 32 (deep e) 53 _ (omega (arith, low))
        (address_term_of whole_program func program scopes usable e (names_stand program.words scopes e t has))

    -- ---- calls

    arguments_fit : (es : List Expression) (params : List Parameter)
        → ArgumentsSuit program.words scopes es (types_of params)
        → Every Shallow es → ArgumentsFit whole_program func program f labels (arguments program scopes es params) params
    arguments_fit [] [] suit low = tt
    arguments_fit [] (p ∷ ps) suit low = absurd suit
    arguments_fit (e ∷ es) [] suit low = absurd suit
    arguments_fit (e ∷ es) (p ∷ ps) suit low = (
      deeper whole_program func (bits_of_scalar p.kind) 54 64 _ (omega arith)
          (cut_to_term whole_program func p.kind 53 (value_of program scopes e) (typed_term e suit.0.type suit.0.has low.0)),
      arguments_fit es ps suit.1 low.1,
    )

    result_stands : (o : Outcome) (n : ℕ) → n + calls_of_outcome o ≤ results
        → ResultStands whole_program func program f labels o (result_frame o (call_name program f n))
    result_stands outcomes.Nothing n most = tt
    result_stands (outcomes.Integer i) n most = (usable_results n (omega (arith, most)), refl)

    pub known : (call : CallTree) (o : Outcome) → (stands : IsCall program.words defined scopes call o)
        → CalleeOf call.name o stands.params
    known call o stands = calls call.name stands.entry o stands.params stands.found stands.function stands.made

    at_callee : (call : CallTree) (o : Outcome) (stands : IsCall program.words defined scopes call o)
        → function_at program (callee program call) ≡ (known call o stands).function
    at_callee call o stands = ap (λ (x : Option Function). option_map_or (λ function. function) x no_function) (known call o stands).at

    pub gives : (call : CallTree) (o : Outcome) → IsCall program.words defined scopes call o
        → result_of program call ≡ o
    gives call o stands = ap (λ (g : Function). g.result) (at_callee call o stands) ∙ (known call o stands).result

    call_stands : (call : CallTree) (o : Outcome) (n : ℕ) → IsCall program.words defined scopes call o
        → InCall Shallow call
        → IsAsked call.name → n + calls_in_call program call ≤ results
        → CallStands whole_program func program f labels (text_at program.words call.name)
        (arguments program scopes call.arguments (function_at program (callee program call)).parameters)
        (result_frame (result_of program call) (call_name program f n))
    call_stands call o n stands low asked most =
        let of = known call o stands in
        let same = at_callee call o stands in
        record {
          callee = callee program call;
          function = of.function;
          at = of.at;
          among = called_number program f call.name of.function of.at asked;
          named = of.named;
          fit =
              subst (λ (g : Function). ArgumentsFit whole_program func program f labels
              (arguments program scopes call.arguments g.parameters) of.function.parameters) (sym same)
              (arguments_fit call.arguments of.function.parameters
              (subst (λ (ps : List Scalar). ArgumentsSuit program.words scopes call.arguments ps) (sym of.takes) stands.arguments) low);
          gives =
              subst (λ (r : Outcome). ResultStands whole_program func program f labels r
              (result_frame (result_of program call) (call_name program f n))) (ap (λ (g : Function). g.result) same)
              (result_stands (result_of program call) n most);
        }

    pub call_items_stand : (call : CallTree) (o : Outcome) (n : ℕ) (rest : List BodyItem)
        → IsCall program.words defined scopes call o
        → InCall Shallow call → IsAsked call.name → n + calls_in_call program call ≤ results → AreItems rest
        → AreItems (call_items within scopes call n rest)
    call_items_stand call o n rest stands low asked most are = (call_stands call o n stands low asked most, are)

    result_value_term : (i : Integer) (n : ℕ) → n < results
        → Term whole_program func 32 3 (result_value (outcomes.Integer i) (call_name program f n))
    result_value_term i n low =
        extended_term whole_program func i 2 (Load (bits_of_type i) (Address (call_name program f n) 0))
        (load_term whole_program func (bits_of_type i) 1 (Address (call_name program f n) 0) (load_bits i)
        (address_term whole_program func (call_name program f n) 0 1 (usable_results n low) (omega arith) (omega arith)))

    -- ---- values

    -- what is made of a term is an item that stands
    abbrev pub Makes : (NamedExpression → BodyItem) → Type 0
    Makes made = (e : NamedExpression) → Term whole_program func 32 53 e → ItemStands whole_program func program f labels (made e)

    pub value_items_stand : (wanted : Scalar) (value : ValueTree) (n : ℕ) (made : NamedExpression → BodyItem) (rest : List BodyItem)
        → ValueSuits program.words defined scopes wanted value → InValue Shallow value → EachOf IsAsked (asked.calls_in_value value)
        → n + calls_in_value program value ≤ results → Makes made → AreItems rest → AreItems (value_items within scopes value n made rest)
    value_items_stand wanted (OfExpression e) n made rest suits low asks most makes are =
        (makes (value_of program scopes e) (typed_term e suits.type suits.has low), are)
    value_items_stand wanted (OfCall call) n made rest suits low asks most makes are =
        let o = outcomes.Integer suits.type in
        let is = gives call o suits.call_of in
        let some : n + calls_of_outcome o ≤ results = subst (λ (r : Outcome). n + calls_of_outcome r ≤ results) is most in
        let term : Term whole_program func 32 3 (call_value within call n) =
        subst (λ (r : Outcome). Term whole_program func 32 3 (result_value r (call_name program f n))) (sym is)
        (result_value_term suits.type n (omega (arith, some)))
        in
        (call_stands call o n suits.call_of low asks.0 most, (makes (call_value within call n) (deeper whole_program func 32 3 53 _ (omega arith) term), are))

    -- ---- effects

    pub assign_makes : (t : Scalar) (at : NamedExpression) → Term whole_program func 32 53 at → Makes (assign t at)
    assign_makes t at is e term =
        record {
          at_term = deeper whole_program func 32 53 64 at (omega arith) is;
          bits = bits_of_scalar t;
          value_term = deeper whole_program func (bits_of_scalar t) 54 64 _ (omega arith) (cut_to_term whole_program func t 53 e term);
          bytes = bytes_of_scalar t;
        }

    update_stands : (to : Expression) (op : Binary) (t u : Scalar) (r : NamedExpression)
        → HasType program.words scopes to t
        → Shallow to → Term whole_program func 32 53 r → ItemStands whole_program func program f labels (update program scopes to op u r)
    update_stands to op t u r has low term =
        let kind = kind_of program.words scopes to in
        record {
          at_term = deeper whole_program func 32 53 64 _ (omega arith) (typed_address to t has low);
          bits = bits_of_scalar kind;
          value_term =
              deeper whole_program func (bits_of_scalar kind) 57 64 _ (omega arith)
              (cut_to_term whole_program func kind 56 _ (binary_term whole_program func op kind u 53 (value_of program scopes to) r
              (omega arith) (typed_term to t has low) term));
          bytes = bytes_of_scalar kind;
        }

    pub effect_items_stand : (effect : EffectTree) (n : ℕ) (rest : List BodyItem)
        → EffectStands program.words defined scopes effect
        → InEffect Shallow effect → EachOf IsAsked (asked.calls_in_effect effect)
        → n + calls_in_effect program effect ≤ results → AreItems rest
        → AreItems (effect_items within scopes effect n rest)
    effect_items_stand (Assigns to token value) n rest stands low asks most are =
        value_items_stand stands.0 value n (assign (kind_of program.words scopes to) (address_of program scopes to))
        rest stands.2 low.1 asks most (assign_makes (kind_of program.words scopes to) (address_of program scopes to)
        (typed_address to stands.0 stands.1.has low.0)) are
    effect_items_stand (Updates to op token e) n rest stands low asks most are = (
      update_stands to op stands.type (kind_of program.words scopes e) (value_of program scopes e) stands.target.has low.0
          (typed_term e stands.other stands.has low.1),
      are,
    )
    effect_items_stand (Steps operand up token) n rest stands low asks most are = (
      update_stands operand (step_operator up) stands.0 (scalars.Integer Int) (whole 1) stands.1.has low
          (whole_term whole_program func 1 53 (omega arith) (omega arith)),
      are,
    )
    effect_items_stand (Calls call) n rest stands low asks most are = call_items_stand call stands.0 n rest stands.1 low asks.0 most are
