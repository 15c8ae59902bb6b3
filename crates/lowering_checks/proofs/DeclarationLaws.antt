-- Items of declarations stand.
--   IsLocal o               the object has a frame that may be used, and is not too large
--   found_with              what is found once a name is added: it, or what was found before
--   locals_items_stand      the items of declared locals stand, and the scopes after them are as those before
use Rattle.std.proofs.Common.{◌≡◌, ◌≤◌, ◌+◌, ◌*◌, ℕ, zero, suc, Bool, true, false, List, [], ◌∷◌, map, Option, None, Some, refl, ap, ◌∙◌, subst, arith, bytes_eq, if◌then◌else◌, suc-mul}
use Rattle.std.proofs.lemmas.Option.{same_Some}
use Rattle.lists.specs.TestLaws.{by_test}
use Rattle.alf_program.specs.Tree.{Address, BodyItem, WholeProgram}
use Rattle.alf_program.specs.Tree as alf
use Rattle.c_unit.specs.declared.types.Integer.{Integer}
use Rattle.c_unit.specs.declared.types.Integer.TheVariants.{Char, UnsignedChar, Short, UnsignedShort, Int, UnsignedInt}
use Rattle.c_unit.specs.declared.types.Scalar.{Scalar}
use Rattle.c_unit.specs.declared.types.Scalar.TheVariants as scalars
use Rattle.c_unit.specs.declared.types.Outcome.{Outcome}
use Rattle.c_unit.specs.declared.types.Constant.{Constant}
use Rattle.c_unit.specs.Tree.{ValueTree, LocalShapeTree, LocalInteger, LocalPointer, LocalArray, LocalTree}
use Rattle.c_unit.specs.Units.{Word}
use Rattle.c_tokens.specs.declared.worth.Worth.{Worth}
use Rattle.c_tokens.specs.declared.worth.Worth.TheVariants as worth
use Rattle.c_rules.specs.Names.{Variable, Array, Function as FunctionBound, Entry, Scope, text_at, worth_at, named, or_further, look_up, with_name}
use Rattle.c_rules.specs.Statements.{local_bound, with_local, with_locals}
use Rattle.c_rules.specs.Standing.{IfValued, ShapeStands, LocalsStand}
use Rattle.c_meaning.specs.Values.{bits_of_type, bytes_of_type}
use Rattle.c_meaning.specs.Objects.{Object, Program, count_at, local_object}
use Rattle.c_meaning.specs.Statements.{further_elements}
use Rattle.c_lowered.specs.Names.{frame_of}
use Rattle.c_lowered.specs.Values.{constant_of, size}
use Rattle.c_lowered.specs.Effects.{calls_in_first, calls_in_shape, calls_in_locals, first_element, element_items, first_items, shape_items, locals_items}
use Rattle.c_rules.specs.SpelledExpressions.{IfValue, InShape, InLocals}
use Rattle.c_rules.specs.Recursion as asked
use Rattle.lowering_layout.specs.Lists.{EachOf}
use Rattle.lowering_layout.specs.ListLaws.{each_parts}
use Rattle.lowering_checks.specs.Terms.{IsUsable, Term}
use Rattle.lowering_checks.proofs.TermLaws.{deeper, address_term}
use Rattle.lowering_checks.specs.Constants.{Fits}
use Rattle.lowering_checks.proofs.ConstantLaws.{worth_fits}
use Rattle.lowering_checks.proofs.OperatorLaws.{whole_term, constant_term, negation_term, cut_term}
use Rattle.lowering_checks.specs.Values.{ScopesUsable}
use Rattle.lowering_checks.specs.Effects.{Shallow}
use Rattle.lowering_checks.proofs.EffectLaws.{bytes_of_bits, ResultsUsable, ScopesCall, IsAsked, AreItems, within, assign_makes, value_items_stand}

-- ---- names that are added

found_first : {A : Type 0} (e entry : Entry) (b : Bool) (before : Option Entry) (rest : Option Entry)
    → or_further (if b then Some e else before) rest ≡ Some entry → (e ≡ entry → A) → (or_further before rest ≡ Some entry → A) → A
found_first e entry true before rest found new old = new (same_Some e entry found)
found_first e entry false before rest found new old = old found

-- what is found once a name is added: it, or what was found before
pub found_with : {A : Type 0} (words : List Word) (e : Entry) (scopes : List Scope) (token : ℕ) (entry : Entry)
    → look_up words (with_name e scopes) token ≡ Some entry → (e ≡ entry → A) → (look_up words scopes token ≡ Some entry → A) → A
found_with words e [] token entry found new old = found_first e entry (bytes_eq (text_at words e.token) (text_at words token)) None None found new old
found_with words e (scope ∷ scopes) token entry found new old =
    found_first e entry (bytes_eq (text_at words e.token) (text_at words token)) (named words token scope)
    (look_up words scopes token) found new old

no_function : {A : Type 0} (kind : Integer) (shape : LocalShapeTree) (o : Outcome) (ps : List Scalar)
    → local_bound kind shape ≡ FunctionBound o ps → A
no_function kind (LocalInteger first) o ps is = absurd (let bad : Variable (scalars.Integer kind) ≡ FunctionBound o ps = is in cc)
no_function kind (LocalPointer first) o ps is = absurd (let bad : Variable (scalars.Pointer kind) ≡ FunctionBound o ps = is in cc)
no_function kind (LocalArray size firsts) o ps is = absurd (let bad : Array kind ≡ FunctionBound o ps = is in cc)

-- as many bytes as so many bits
bytes_within : (kind : Integer) (count : ℕ) → count * bits_of_type kind ≤ 262144 → count * bytes_of_type kind ≤ 32768
bytes_within Char count low = omega (arith, low)
bytes_within UnsignedChar count low = omega (arith, low)
bytes_within Short count low = omega (arith, low)
bytes_within UnsignedShort count low = omega (arith, low)
bytes_within Int count low = omega (arith, low)
bytes_within UnsignedInt count low = omega (arith, low)

module _ (whole : WholeProgram) (func : alf.Function) (program : Program) (defined : List ℕ) (f labels results : ℕ) where
  -- the object has a frame that may be used, and is not too large
  pub record IsLocal (o : Object) : Type 0 where
    pub usable : IsUsable whole func (frame_of program o.token)
    pub small : o.bits ≤ 262144

  constant_term_of : (w : Worth) (n : ℕ) → Fits w → 1 ≤ n → Term whole func 32 n (constant_of w)
  constant_term_of worth.NoConstant n fits some = whole_term whole func 0 n (omega arith) some
  constant_term_of worth.TooLarge n fits some = whole_term whole func 0 n (omega arith) some
  constant_term_of (worth.Int w) n fits some = constant_term whole func _ w n fits some
  constant_term_of (worth.UnsignedInt w) n fits some = constant_term whole func _ w n fits some

  first_element_term : (cs : List Constant) → Term whole func 32 2 (first_element program cs)
  first_element_term [] = whole_term whole func 0 2 (omega arith) (omega arith)
  first_element_term (c ∷ cs) =
      let term = constant_term_of (worth_at program.words c.token) 1 (worth_fits (text_at program.words c.token)) (omega arith) in
      by_test c.minus
      (λ minus. rw minus (negation_term whole func 1 (constant_of (worth_at program.words c.token)) term))
      (λ plain. rw plain (deeper whole func 32 1 2 _ (omega arith) term))

  elements_stand : (name : List ℕ) (kind : Integer) (offset count : ℕ) (cs : List Constant) (rest : List BodyItem)
      → IsUsable whole func name → offset + count * bytes_of_type kind ≤ 32768 → AreItems whole func program defined f labels results rest
      → AreItems whole func program defined f labels results (element_items program name kind offset count cs rest)
  elements_stand name kind offset zero cs rest usable most are = are
  elements_stand name kind offset (suc count) cs rest usable most are =
      let more = suc-mul count (bytes_of_type kind) in (
        record {
          at_term = address_term whole func name offset 64 usable (omega (arith, most, more)) (omega arith);
          bits = bits_of_type kind;
          value_term =
              deeper whole func (bits_of_type kind) 3 64 _ (omega arith)
              (cut_term whole func kind 2 (first_element program cs) (first_element_term cs));
          bytes = bytes_of_bits kind;
        },
        elements_stand name kind (offset + bytes_of_type kind) count (further_elements cs) rest usable (omega (arith, most, more)) are,
      )

  module _ (usable_results : ResultsUsable whole func program defined f labels results) where
    abbrev pub AreKnown : List Scope → Type 0
    AreKnown scopes = ScopesUsable whole func program scopes × ScopesCall whole func program defined f labels results scopes

    known_with_local : (kind : Integer) (scopes : List Scope) (local : LocalTree) → AreKnown scopes
        → IsLocal (local_object program.words f kind local) → AreKnown (with_local kind scopes local)
    known_with_local kind scopes local known here =
        let e : Entry = record { token = local.name; bound = local_bound kind local.shape } in (
          λ token entry found is. found_with program.words e scopes token entry found
              (λ same. subst (λ (x : Entry). IsUsable whole func (frame_of program x.token)) same here.usable) (λ before. known.0 token entry before is),
          λ token entry o ps found is made. found_with program.words e scopes token entry found
              (λ same. no_function kind local.shape o ps (ap (λ (x : Entry). x.bound) same ∙ is)) (λ before. known.1 token entry o ps before is made),
        )

    pub known_with_locals : (kind : Integer) (scopes : List Scope) (locals : List LocalTree) → AreKnown scopes
        → EachOf IsLocal (map (local_object program.words f kind) locals) → AreKnown (with_locals kind scopes locals)
    known_with_locals kind scopes [] known here = known
    known_with_locals kind scopes (local ∷ locals) known here =
        known_with_locals kind (with_local kind scopes local) locals (known_with_local kind scopes local known here.0) here.1

    first_items_stand : (scopes : List Scope) (t : Scalar) (name : List ℕ) (first : Option ValueTree) (n : ℕ) (rest : List BodyItem)
        → AreKnown scopes → IsUsable whole func name → IfValued program.words defined scopes t first → IfValue Shallow first
        → EachOf (IsAsked whole func program defined f labels results) (asked.calls_if_valued first)
        → n + calls_in_first program first ≤ results → AreItems whole func program defined f labels results rest
        → AreItems whole func program defined f labels results
        (first_items (within whole func program defined f labels results) scopes t name first n rest)
    first_items_stand scopes t name None n rest known usable suits low asks most are = are
    first_items_stand scopes t name (Some value) n rest known usable suits low asks most are =
        value_items_stand whole func program defined f labels results usable_results scopes known.0 known.1 t value n _ rest suits low asks most
        (assign_makes whole func program defined f labels results usable_results scopes known.0 known.1 t (Address name 0)
        (address_term whole func name 0 53 usable (omega arith) (omega arith))) are

    shape_items_stand : (scopes : List Scope) (kind : Integer) (local : LocalTree) (shape : LocalShapeTree) (n : ℕ)
        (rest : List BodyItem) → local.shape ≡ shape → AreKnown scopes → IsLocal (local_object program.words f kind local)
        → ShapeStands program.words defined scopes kind shape → InShape Shallow shape
        → EachOf (IsAsked whole func program defined f labels results) (asked.calls_in_shape shape)
        → n + calls_in_shape program shape ≤ results → AreItems whole func program defined f labels results rest
        → AreItems whole func program defined f labels results
        (shape_items (within whole func program defined f labels results) scopes kind (frame_of program local.name) shape n rest)
    shape_items_stand scopes kind local (LocalInteger first) n rest is known here stands low asks most are =
        first_items_stand scopes (scalars.Integer kind) (frame_of program local.name)
        first n rest known here.usable stands low asks most are
    shape_items_stand scopes kind local (LocalPointer first) n rest is known here stands low asks most are =
        first_items_stand scopes (scalars.Pointer kind) (frame_of program local.name)
        first n rest known here.usable stands low asks most are
    shape_items_stand scopes kind local (LocalArray token None) n rest is known here stands low asks most are = are
    shape_items_stand scopes kind local (LocalArray token (Some cs)) n rest is known here stands low asks most are =
        let small : count_at program.words token * bits_of_type kind ≤ 262144 =
        subst (λ (x : LocalShapeTree). (local_object program.words f kind
        (record { name = local.name; shape = x })).bits ≤ 262144) is here.small in
        let bytes = bytes_within kind (count_at program.words token) small in
        elements_stand (frame_of program local.name) kind 0 (count_at program.words token) cs rest here.usable (omega (arith, bytes)) are

    pub locals_items_stand : (kind : Integer) (scopes : List Scope) (locals : List LocalTree) (n : ℕ) (rest : List BodyItem)
        → AreKnown scopes → EachOf IsLocal (map (local_object program.words f kind) locals)
        → LocalsStand program.words defined kind scopes locals
        → InLocals Shallow locals → EachOf (IsAsked whole func program defined f labels results) (asked.calls_in_locals locals)
        → n + calls_in_locals program locals ≤ results → AreItems whole func program defined f labels results rest
        → AreItems whole func program defined f labels results (locals_items (within whole func program defined f labels results) kind scopes locals n rest)
    locals_items_stand kind scopes [] n rest known here stands low asks most are = are
    locals_items_stand kind scopes (local ∷ locals) n rest known here stands low asks most are =
        let ask = each_parts (IsAsked whole func program defined f labels results) (asked.calls_in_shape local.shape) (asked.calls_in_locals locals) asks in
        let further = with_local kind scopes local in
        let known_further = known_with_local kind scopes local known here.0 in
        shape_items_stand further kind local local.shape n _ refl known_further here.0 stands.1 low.0 ask.0 (omega (arith, most))
        (locals_items_stand kind further locals (n + calls_in_shape program local.shape) rest known_further here.1 stands.2 low.1 ask.1
        (omega (arith, most)) are)
