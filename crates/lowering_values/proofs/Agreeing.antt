-- Lowered expressions give what those of C give.
use Rattle.std.specs.Prelude.{⊤}
use Rattle.std.proofs.Common.{◌≡◌, ℕ, Bool, true, false, List, Option, Some, None, Ok, Err, refl, sym, ap, ◌∙◌, subst}
use Rattle.alf_ops.specs.declared.history.Value.{Value}
use Rattle.alf_ops.specs.declared.history.Value.TheVariants as values
use Rattle.alf_ops.specs.declared.history.RunEvent.{RunEvent}
use Rattle.alf_ops.specs.Histories.{load}
use Rattle.alf_program.specs.Tree.{NamedExpression, Address, Load}
use Rattle.alf_runs.specs.Expressions.{load_from}
use Rattle.c_tokens.specs.declared.worth.Worth.{Worth}
use Rattle.c_tokens.specs.declared.worth.Worth.TheVariants as worth
use Rattle.c_unit.specs.declared.types.Scalar.{Scalar}
use Rattle.c_unit.specs.declared.types.Scalar.TheVariants as scalars
use Rattle.c_unit.specs.declared.expression.Unary.{Unary}
use Rattle.c_unit.specs.declared.expression.Unary.TheVariants as unary
use Rattle.c_unit.specs.declared.expression.Binary.{Binary}
use Rattle.c_unit.specs.Tree.{Expression, OfName, WithBinary}
use Rattle.c_unit.specs.Units.{UnitTree}
use Rattle.c_rules.specs.Types.{unary_type, addressed}
use Rattle.c_rules.specs.Names.{Bound, Variable, Array, Function, Entry, Scope, worth_at, number_of, look_up}
use Rattle.c_rules.specs.Expressions.{value_type, designates, is_load}
use Rattle.c_rules.specs.Typed.{HasType, constant, object, within, before, converted, indexed, between}
use Rattle.c_meaning.specs.Values.{Valued, on_value, widened, bits_of_type}
use Rattle.c_meaning.specs.Objects.{Program, program_of, objects_of, object_at, shapes_of}
use Rattle.c_meaning.specs.Expressions as meaning
use Rattle.c_meaning.specs.Expressions.{kind_of, pointee, declared_at}
use Rattle.c_lowered.specs.Names.{frame_of}
use Rattle.c_lowered.specs.Values as lowered
use Rattle.lowering_values.specs.Embedding.{embedded_result}
use Rattle.lowering_values.specs.EmbeddingLaws.{LoadsAgree}
use Rattle.lowering_values.specs.OperatorLaws.{as_bit, FitsResult, OperatorsGive, ComparisonsGive, TestsGive, UnariesGive, ExtendsGive, CutsGive, CastsGive, ElementsGive}
use Rattle.lowering_values.specs.Frames.{frame_number, is_object_frame, frames_of, Sees, IsNaming}
use Rattle.lowering_values.specs.Agreement.{Here, value_in, Gives, IsPlain}
use Rattle.lowering_values.proofs.Fitting.{Sizes, value_fits}

-- laws of loads and of operators: what they give agrees
pub record Operators : Type 0 where
  pub loads : LoadsAgree
  pub binary : OperatorsGive
  pub comparisons : ComparisonsGive
  pub tests : TestsGive
  pub unary : UnariesGive
  pub extends : ExtendsGive
  pub cuts : CutsGive
  pub casts : CastsGive
  pub elements : ElementsGive

-- the address of an object that the function sees
pub object_gives : (unit : UnitTree) (f : ℕ) (frame : List ℕ → ℕ) (m : List RunEvent) (token offset : ℕ)
    → IsNaming unit f frame → Sees unit f (object_at (objects_of unit) token)
    → Gives unit frame m (Address (frame_of (program_of unit) token) offset) (Ok (values.Ptr (object_at (objects_of unit) token) offset))
object_gives unit f frame m token offset naming sees = ap (λ (n : ℕ). Ok (values.Ptr n offset)) (naming.objects (object_at (objects_of unit) token) sees)

-- what may be assigned has an address
place_true : (b : Bool) (t r : Scalar) → addressed b t ≡ Some r → b ≡ true
place_true true t r is = refl
place_true false t r is = absurd (let bad : None ≡ Some r = is in cc)

-- both sides of an operator have types
record TypedSides (unit : UnitTree) (scopes : List Scope) (left right : Expression) : Type 0 where
  pub left_type : Scalar
  pub left_has : HasType unit.words scopes left left_type
  pub right_type : Scalar
  pub right_has : HasType unit.words scopes right right_type

abbrev Sides : UnitTree → List Scope → Expression → Type 0
Sides unit scopes (WithBinary op token left right) = TypedSides unit scopes left right
Sides unit scopes e = ⊤

sides_of : (unit : UnitTree) (scopes : List Scope) (e : Expression) (t : Scalar) → HasType unit.words scopes e t
    → Sides unit scopes e
sides_of unit scopes e t (constant {token = token} {t = u} is) = tt
sides_of unit scopes e t (object {token = token} {e = entry} {t = u} found is) = tt
sides_of unit scopes e t (within {token = token} {inner = inner} {t = u} of) = tt
sides_of unit scopes e t (before {op = op} {token = token} {operand = operand} {t = u} {r = r} of is) = tt
sides_of unit scopes e t (converted {token = token} {to = to} {operand = operand} {t = u} {r = r} of is) = tt
sides_of unit scopes e t (indexed {base = base} {token = token} {index = index} {b = b} {i = i} {r = r} of_base of_index is) = tt
sides_of unit scopes e t (between {op = op} {token = token} {left = left} {right = right} {a = a} {b = b} {r = r} of_left of_right is) =
    record { left_type = a; left_has = of_left; right_type = b; right_has = of_right }

module _ (laws : Operators) (sizes : Sizes) (unit : UnitTree) (f : ℕ) (frame : List ℕ → ℕ) (scopes : List Scope) (m h : List RunEvent) (here : Here unit f frame scopes m h) where
  abbrev E : Valued → Valued
  E v = embedded_result (frame_number unit) v

  abbrev G : NamedExpression → Valued → Type 0
  G e v = Gives unit frame m e v

  abbrev X : NamedExpression → Valued
  X e = value_in unit frame m e

  abbrev P : Program
  P = program_of unit

  -- ---- loads

  read_gives : (size : ℕ) (at : NamedExpression) (v : Valued) → G at v
      → G (Load size at) (on_value (λ place. load (shapes_of P) h place size) v)
  read_gives size at v g = ap (λ (place : Valued). load_from (frames_of unit) m size place) g ∙ read v
    where
      read : (v : Valued)
          → load_from (frames_of unit) m size (E v) ≡ E (on_value (λ place. load (shapes_of P) h place size) v)
      read (Ok place) = laws.loads (frame_number unit) (is_object_frame unit) (shapes_of P) (frames_of unit) m h place size here.frames here.agree
      read (Err fault) = refl

  pub loaded_gives : (t : Scalar) (at : NamedExpression) (v : Valued) → G at v
      → G (lowered.loaded t at) (on_value (meaning.loaded P h t) v)
  loaded_gives (scalars.Integer i) at v g =
      laws.extends (frame_number unit) (frames_of unit) frame m i (Load (bits_of_type i) at) (on_value (λ place. load (shapes_of P) h place (bits_of_type i)) v) (read_gives (bits_of_type i) at v g)
      ∙ ap E (once v)
    where
      once : (v : Valued) → on_value (widened i) (on_value (λ place. load (shapes_of P) h place (bits_of_type i)) v) ≡ on_value (meaning.loaded P h (scalars.Integer i)) v
      once (Ok place) = refl
      once (Err fault) = refl
  loaded_gives (scalars.Pointer i) at v g = read_gives 32 at v g ∙ ap E (once v)
    where
      once : (v : Valued)
          → on_value (λ place. load (shapes_of P) h place 32) v ≡ on_value (meaning.loaded P h (scalars.Pointer i)) v
      once (Ok place) = refl
      once (Err fault) = refl

  -- ---- names

  abbrev place_in : Option Entry → ℕ → NamedExpression
  place_in found token = Address (frame_of P (declared_at found token)) 0

  abbrev place_at : Option Entry → ℕ → Value
  place_at found token = values.Ptr (object_at (objects_of unit) (declared_at found token)) 0

  bound_gives : (b : Bound) (t : Scalar) (at : NamedExpression) (place : Value) → value_type b ≡ Some t
      → G at (Ok place) → G (lowered.bound_value b at) (meaning.bound_value P h b place)
  bound_gives (Variable u) t at place typed g = loaded_gives u at (Ok place) g
  bound_gives (Array i) t at place typed g = g
  bound_gives (Function o ps) t at place typed g = absurd (let bad : None ≡ Some t = typed in cc)

  entry_gives : (token : ℕ) (e : Entry) (t : Scalar) → look_up unit.words scopes token ≡ Some e
      → value_type e.bound ≡ Some t → G (place_in (Some e) token) (Ok (place_at (Some e) token))
  entry_gives token e t found typed = object_gives unit f frame m e.token 0 here.naming (here.see token e t found typed)

  name_gives : (token : ℕ) (e : Entry) (t : Scalar) → look_up unit.words scopes token ≡ Some e
      → value_type e.bound ≡ Some t
      → G (lowered.value_of P scopes (OfName token)) (meaning.value_of P scopes h (OfName token))
  name_gives token e t found typed =
      subst (λ (x : Option Entry). G (lowered.name_value x (place_in x token)) (meaning.name_value P h x (place_at x token))) (sym found)
      (bound_gives e.bound t (place_in (Some e) token) (place_at (Some e) token) typed (entry_gives token e t found typed))

  name_place : (token : ℕ) (e : Entry) (t : Scalar) → look_up unit.words scopes token ≡ Some e
      → value_type e.bound ≡ Some t
      → G (lowered.address_of P scopes (OfName token)) (meaning.address_of P scopes h (OfName token))
  name_place token e t found typed =
      subst (λ (x : Option Entry). G (place_in x token) (Ok (place_at x token))) (sym found) (entry_gives token e t found typed)

  constant_gives : (w : Worth) → G (lowered.constant_of w) (Ok (values.Int 32 (number_of w)))
  constant_gives worth.NoConstant = refl
  constant_gives worth.TooLarge = refl
  constant_gives (worth.Int n) = refl
  constant_gives (worth.UnsignedInt n) = refl

  -- ---- expressions

  unary_gives : (op : Unary) (operand : Expression) (place : Bool) (t r : Scalar) → unary_type op place t ≡ Some r
      → G (lowered.value_of P scopes operand) (meaning.value_of P scopes h operand)
      → (place ≡ true → G (lowered.address_of P scopes operand) (meaning.address_of P scopes h operand))
      → G (lowered.unary_value op (kind_of unit.words scopes operand) (lowered.value_of P scopes operand) (lowered.address_of P scopes operand))
      (meaning.unary_value P h op (kind_of unit.words scopes operand) (meaning.value_of P scopes h operand) (meaning.address_of P scopes h operand))
  unary_gives unary.Not operand place t r typed g placed =
      (laws.unary (frame_number unit) (frames_of unit) frame m (lowered.value_of P scopes operand) (lowered.address_of P scopes operand) (meaning.value_of P scopes h operand) (kind_of unit.words scopes operand) g).not_gives
  unary_gives unary.Complement operand place t r typed g placed =
      (laws.unary (frame_number unit) (frames_of unit) frame m (lowered.value_of P scopes operand) (lowered.address_of P scopes operand) (meaning.value_of P scopes h operand) (kind_of unit.words scopes operand) g).complement_gives
  unary_gives unary.Minus operand place t r typed g placed =
      (laws.unary (frame_number unit) (frames_of unit) frame m (lowered.value_of P scopes operand) (lowered.address_of P scopes operand) (meaning.value_of P scopes h operand) (kind_of unit.words scopes operand) g).minus_gives
  unary_gives unary.Plus operand place t r typed g placed = g
  unary_gives unary.Load operand place t r typed g placed =
      loaded_gives (scalars.Integer (pointee (kind_of unit.words scopes operand))) (lowered.value_of P scopes operand) (meaning.value_of P scopes h operand) g
  unary_gives unary.Address operand place t r typed g placed = placed (place_true place t r typed)

  unary_place : (op : Unary) (operand : Expression) → is_load op ≡ true
      → G (lowered.value_of P scopes operand) (meaning.value_of P scopes h operand)
      → G (lowered.value_of P scopes operand) (meaning.unary_address op (meaning.value_of P scopes h operand))
  unary_place unary.Load operand is g = g
  unary_place unary.Not operand is g = absurd (let bad : false ≡ true = is in cc)
  unary_place unary.Complement operand is g = absurd (let bad : false ≡ true = is in cc)
  unary_place unary.Minus operand is g = absurd (let bad : false ≡ true = is in cc)
  unary_place unary.Plus operand is g = absurd (let bad : false ≡ true = is in cc)
  unary_place unary.Address operand is g = absurd (let bad : false ≡ true = is in cc)

  element_gives : (base index : Expression) → G (lowered.value_of P scopes base) (meaning.value_of P scopes h base)
      → G (lowered.value_of P scopes index) (meaning.value_of P scopes h index)
      → G (lowered.element_address (kind_of unit.words scopes base) (kind_of unit.words scopes index) (lowered.value_of P scopes base) (lowered.value_of P scopes index))
      (meaning.element_address (kind_of unit.words scopes base) (meaning.value_of P scopes h base) (meaning.value_of P scopes h index))
  element_gives base index b i =
      laws.elements (frame_number unit) (frames_of unit) frame m (kind_of unit.words scopes base) (kind_of unit.words scopes index)
      (lowered.value_of P scopes base) (lowered.value_of P scopes index) (meaning.value_of P scopes h base) (meaning.value_of P scopes h index) b i

  fits : (e : Expression) → FitsResult 32 (meaning.value_of P scopes h e)
  fits e = value_fits sizes P scopes h here.agree.sound e

  mutual
    pub values_agree : (e : Expression) (t : Scalar) → HasType unit.words scopes e t → IsPlain e
        → G (lowered.value_of P scopes e) (meaning.value_of P scopes h e)
    values_agree e t (constant {token = token} {t = u} is) plain = constant_gives (worth_at unit.words token)
    values_agree e t (object {token = token} {e = entry} {t = u} found is) plain = name_gives token entry u found is
    values_agree e t (within {token = token} {inner = inner} {t = u} of) plain = values_agree inner u of plain
    values_agree e t (before {op = op} {token = token} {operand = operand} {t = u} {r = r} of is) plain =
        unary_gives op operand (designates unit.words scopes operand) u r is (values_agree operand u of plain) (λ placed. addresses_agree operand u of plain placed)
    values_agree e t (converted {token = token} {to = to} {operand = operand} {t = u} {r = r} of is) plain =
        laws.casts (frame_number unit) (frames_of unit) frame m to (lowered.value_of P scopes operand) (meaning.value_of P scopes h operand) (values_agree operand u of plain)
    values_agree e t (indexed {base = base} {token = token} {index = index} {b = b} {i = i} {r = r} of_base of_index is) plain =
        loaded_gives (scalars.Integer (pointee (kind_of unit.words scopes base)))
        (lowered.element_address (kind_of unit.words scopes base) (kind_of unit.words scopes index) (lowered.value_of P scopes base) (lowered.value_of P scopes index))
        (meaning.element_address (kind_of unit.words scopes base) (meaning.value_of P scopes h base) (meaning.value_of P scopes h index))
        (element_gives base index (values_agree base b of_base plain.0) (values_agree index i of_index plain.1))
    values_agree e t (between {op = op} {token = token} {left = left} {right = right} {a = a} {b = b} {r = r} of_left of_right is) plain =
        laws.binary (frame_number unit) (frames_of unit) frame m op (kind_of unit.words scopes left) (kind_of unit.words scopes right)
        (lowered.value_of P scopes left) (lowered.value_of P scopes right) (meaning.value_of P scopes h left) (meaning.value_of P scopes h right)
        here.frames.apart plain.0 (values_agree left a of_left plain.1) (values_agree right b of_right plain.2) (fits right)

    pub addresses_agree : (e : Expression) (t : Scalar) → HasType unit.words scopes e t → IsPlain e
        → designates unit.words scopes e ≡ true
        → G (lowered.address_of P scopes e) (meaning.address_of P scopes h e)
    addresses_agree e t (constant {token = token} {t = u} is) plain placed = absurd (let bad : false ≡ true = placed in cc)
    addresses_agree e t (object {token = token} {e = entry} {t = u} found is) plain placed = name_place token entry u found is
    addresses_agree e t (within {token = token} {inner = inner} {t = u} of) plain placed = addresses_agree inner u of plain placed
    addresses_agree e t (before {op = op} {token = token} {operand = operand} {t = u} {r = r} of is) plain placed =
        unary_place op operand placed (values_agree operand u of plain)
    addresses_agree e t (converted {token = token} {to = to} {operand = operand} {t = u} {r = r} of is) plain placed = absurd (let bad : false ≡ true = placed in cc)
    addresses_agree e t (indexed {base = base} {token = token} {index = index} {b = b} {i = i} {r = r} of_base of_index is) plain placed =
        element_gives base index (values_agree base b of_base plain.0) (values_agree index i of_index plain.1)
    addresses_agree e t (between {op = op} {token = token} {left = left} {right = right} {a = a} {b = b} {r = r} of_left of_right is) plain placed =
        absurd (let bad : false ≡ true = placed in cc)

  -- ---- tests

  pub test_agrees : (e : Expression) (t : Scalar) → HasType unit.words scopes e t → IsPlain e
      → X (lowered.is_true (lowered.value_of P scopes e)) ≡ as_bit (meaning.condition_of P scopes h e)
  test_agrees e t typed plain =
      laws.tests (frame_number unit) (frames_of unit) frame m (lowered.value_of P scopes e) (meaning.value_of P scopes h e) (values_agree e t typed plain)

  pub comparison_agrees : (op : Binary) (token : ℕ) (left right : Expression) (t : Scalar)
      → HasType unit.words scopes (WithBinary op token left right) t → IsPlain (WithBinary op token left right)
      → X (lowered.test_of op (kind_of unit.words scopes left) (kind_of unit.words scopes right) (lowered.value_of P scopes left) (lowered.value_of P scopes right))
      ≡ as_bit (meaning.condition_of P scopes h (WithBinary op token left right))
  comparison_agrees op token left right t typed plain =
      let sides = sides_of unit scopes (WithBinary op token left right) t typed in
      laws.comparisons (frame_number unit) (frames_of unit) frame m op (kind_of unit.words scopes left) (kind_of unit.words scopes right)
      (lowered.value_of P scopes left) (lowered.value_of P scopes right) (meaning.value_of P scopes h left) (meaning.value_of P scopes h right)
      here.frames.apart plain.0 (values_agree left sides.left_type sides.left_has plain.1) (values_agree right sides.right_type sides.right_has plain.2) (fits right)
