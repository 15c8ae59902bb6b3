-- Each object of a unit has a row of its own among those of the lowered program.
use Rattle.std.specs.Prelude.{slice_get, nat_le, ◌||◌, ◌==◌}
use Rattle.std.specs.Option.{option_map, option_map_or}
use Rattle.std.specs.List.{list_any, range_with_len}
use Rattle.std.proofs.Common.{◌≡◌, ◌<◌, ◌≤◌, ◌+◌, ℕ, zero, suc, Bool, true, false, List, [], ◌∷◌, ◌++◌, map, length, Option, Some, None, refl, sym, ap, ◌∙◌, subst, arith, ltb, ltb-true, ltb-false}
use Rattle.std.proofs.lemmas.Option.{none-some, same_Some, slice_get-map, slice_get_within, slice_get_past}
use Rattle.std.proofs.lemmas.Bool.{eq-eqb, le-leb}
use Rattle.lists.specs.TestLaws.{by_test}
use Rattle.lists.specs.MemberLaws.{placed as member_at}
use Rattle.alf_ops.specs.declared.history.FrameShape.{FrameShape}
use Rattle.alf_check.specs.declared.rows.FrameRow.{FrameRow}
use Rattle.alf_check.specs.Numbers.{row_for, frame_rows, first_frame}
use Rattle.c_unit.specs.Tree.{ExternalTree, Declaration, Definition, statements_of}
use Rattle.c_unit.specs.Units.{Word, UnitTree}
use Rattle.c_rules.specs.Units.{File, with_parameters, external_after}
use Rattle.c_meaning.specs.Objects as meaning
use Rattle.c_meaning.specs.Objects.{Object, Function, Program, program_of, objects_of, functions_in, functions_of, parameter_object, all_locals_in, owned_in, globals_in, shape_of_object}
use Rattle.c_lowered.specs.Names.{name_at, frame_of}
use Rattle.c_lowered.specs.Frames.{parameter_frames, all_frames_in, global_frames}
use Rattle.c_lowered.specs.Programs.{lowered_function, lowered_from, lowered}
use Rattle.lowering_layout.specs.Lists.{EachOf, Apart}
use Rattle.lowering_layout.specs.ListLaws.{each_when, each_both, each_joined, each_parts, each_at}
use Rattle.lowering_layout.specs.Spelled.{HasNames}
use Rattle.lowering_layout.specs.PartFrames.{HasFrame}
use Rattle.lowering_layout.specs.PlaceLaws.{frame_at, names_differ_at}
use Rattle.lowering_layout.specs.Checked.{IsGlobal}
use Rattle.lowering_layout.specs.CheckedLaws.{all_owned, parameters_owned, globals_global}
use Rattle.lowering_layout.specs.Views.{globals_part}
use Rattle.lowering_layout.proofs.ViewLemmas.{all_frames_apart}
use Rattle.lowering_layout.specs.ViewLaws.{view_of}
use Rattle.lowering_values.specs.Frames.{row_number, frame_number, is_object_frame, frames_of, FramesStand}
use Rattle.lowering_layout.proofs.Rows.{RowsDiffer, rows_apart, one_number, found_row, global_at, arg_at, decl_at}

pub by_object : {A : Type 0} (x : Option Object) → (x ≡ None → A) → ((o : Object) → x ≡ Some o → A) → A
by_object None first second = first refl
by_object (Some o) first second = second o refl

-- ---- functions, lowered

pub lowered_at : (program : Program) (k : ℕ) (functions : List Function) (f : ℕ) (function : Function)
    → slice_get functions f ≡ Some function
    → slice_get (lowered_from program k functions) f ≡ Some (lowered_function program (k + f) function)
lowered_at program k [] f function at = absurd (none-some function at)
lowered_at program k (g ∷ gs) zero function at =
    ap (λ (x : Function). Some (lowered_function program k x)) (same_Some g function at) ∙ ap (λ (n : ℕ). Some (lowered_function program n function)) (let e : k ≡ k + 0 = omega arith in e)
lowered_at program k (g ∷ gs) (suc f) function at =
    lowered_at program (suc k) gs f function at ∙ ap (λ (n : ℕ). Some (lowered_function program n function)) (let e : suc k + f ≡ k + suc f = omega arith in e)

-- ---- what holds of the objects of each function holds of all

module _ (P : Object → Type 0) (words : List Word) where
  pub from_functions : (k : ℕ) (file : File) (xs : List ExternalTree)
      → ((i : ℕ) (function : Function) → slice_get (functions_in file xs) i ≡ Some function → EachOf P (map (parameter_object (k + i)) function.parameters) × EachOf P (all_locals_in words (k + i) function.body))
      → EachOf P (owned_in words k xs)
  from_functions k file [] each = tt
  from_functions k file (Declaration first o ds ∷ xs) each = from_functions k (external_after file (Declaration first o ds)) xs each
  from_functions k file (Definition first o name params body ∷ xs) each =
      let own = each 0 (record { name = name; result = o; parameters = params; scopes = with_parameters [] params ∷ (external_after file (Definition first o name params body)).scope ∷ []; body = statements_of body }) refl in
      let same : k + 0 ≡ k = omega arith in
      each_joined P (map (parameter_object k) params) (all_locals_in words k (statements_of body) ++ owned_in words (k + 1) xs)
      (subst (λ (n : ℕ). EachOf P (map (parameter_object n) params)) same own.0)
      (each_joined P (all_locals_in words k (statements_of body)) (owned_in words (k + 1) xs)
      (subst (λ (n : ℕ). EachOf P (all_locals_in words n (statements_of body))) same own.1)
      (from_functions (k + 1) (external_after file (Definition first o name params body)) xs
      (λ i function at.
      let next : k + suc i ≡ (k + 1) + i = omega arith in
      let further = each (suc i) function at in (
        subst (λ (n : ℕ). EachOf P (map (parameter_object n) function.parameters)) next further.0,
        subst (λ (n : ℕ). EachOf P (all_locals_in words n function.body)) next further.1,
      ))))

  -- and the other way round
  pub to_function : (k : ℕ) (file : File) (xs : List ExternalTree) (i : ℕ) (function : Function)
      → slice_get (functions_in file xs) i ≡ Some function → EachOf P (owned_in words k xs)
      → EachOf P (map (parameter_object (k + i)) function.parameters) × EachOf P (all_locals_in words (k + i) function.body)
  to_function k file [] i function at all = absurd (none-some function at)
  to_function k file (Declaration first o ds ∷ xs) i function at all = to_function k (external_after file (Declaration first o ds)) xs i function at all
  to_function k file (Definition first o name params body ∷ xs) zero function at all =
      let same : k ≡ k + 0 = omega arith in
      let here = same_Some (record { name = name; result = o; parameters = params; scopes = with_parameters [] params ∷ (external_after file (Definition first o name params body)).scope ∷ []; body = statements_of body }) function at in
      let first = each_parts P (map (parameter_object k) params) (all_locals_in words k (statements_of body) ++ owned_in words (k + 1) xs) all in
      let second = each_parts P (all_locals_in words k (statements_of body)) (owned_in words (k + 1) xs) first.1 in
      subst (λ (x : Function). EachOf P (map (parameter_object (k + 0)) x.parameters) × EachOf P (all_locals_in words (k + 0) x.body)) here
      (subst (λ (n : ℕ). EachOf P (map (parameter_object n) params) × EachOf P (all_locals_in words n (statements_of body))) same (first.0, second.0))
  to_function k file (Definition first o name params body ∷ xs) (suc i) function at all =
      let next : (k + 1) + i ≡ k + suc i = omega arith in
      let first_parts = each_parts P (map (parameter_object k) params) (all_locals_in words k (statements_of body) ++ owned_in words (k + 1) xs) all in
      let second = each_parts P (all_locals_in words k (statements_of body)) (owned_in words (k + 1) xs) first_parts.1 in
      let rest = to_function (k + 1) (external_after file (Definition first o name params body)) xs i function at second.1 in
      subst (λ (n : ℕ). EachOf P (map (parameter_object n) function.parameters) × EachOf P (all_locals_in words n function.body)) next rest

-- ---- rows

module _ (unit : UnitTree) (names : HasNames (program_of unit)) where
  abbrev P : Program
  P = program_of unit

  abbrev rows : List FrameRow
  rows = frame_rows (lowered unit)

  pub record HasRow (o : Object) : Type 0 where
    pub number : ℕ
    pub row : FrameRow
    pub at : slice_get rows number ≡ Some row
    pub owned : row.owner ≡ o.owner
    pub named : row.name ≡ frame_of P o.token
    pub sized : row.bits ≡ o.bits

  function_at : (f : ℕ) (function : Function) → slice_get P.functions f ≡ Some function
      → slice_get (lowered unit).funcs f ≡ Some (lowered_function P f function)
  function_at f function at = lowered_at P 0 P.functions f function at ∙ ap (λ (n : ℕ). Some (lowered_function P n function)) (let e : 0 + f ≡ f = omega arith in e)

  global_row : (o : Object) → IsGlobal unit.words o × HasFrame P (global_frames P) o → HasRow o
  global_row o has =
      let frame = has.1.frame in
      let at = member_at (global_frames P) frame has.1.among in
      record { number = has.1.among.0; row = row_for None frame; at = global_at (lowered unit) has.1.among.0 frame at; owned = sym has.0; named = has.1.name; sized = has.1.bits }

  parameter_row : (f : ℕ) (function : Function) → slice_get P.functions f ≡ Some function → (o : Object)
      → (o.owner ≡ Some f) × HasFrame P (parameter_frames P function.parameters) o → HasRow o
  parameter_row f function at o has =
      let frame = has.1.frame in
      let at_frame = member_at (parameter_frames P function.parameters) frame has.1.among in
      record {
        number = first_frame (lowered unit) f + has.1.among.0;
        row = row_for (Some f) frame;
        at = arg_at (lowered unit) f (lowered_function P f function) has.1.among.0 frame (function_at f function at) at_frame;
        owned = sym has.0;
        named = has.1.name;
        sized = has.1.bits;
      }

  local_row : (f : ℕ) (function : Function) → slice_get P.functions f ≡ Some function → (o : Object)
      → (o.owner ≡ Some f) × HasFrame P (all_frames_in P f 0 function.body) o → HasRow o
  local_row f function at o has =
      let frame = has.1.frame in
      let at_frame = member_at (all_frames_in P f 0 function.body) frame has.1.among in
      record {
        number = (first_frame (lowered unit) f + length (parameter_frames P function.parameters)) + has.1.among.0;
        row = row_for (Some f) frame;
        at = decl_at (lowered unit) f (lowered_function P f function) has.1.among.0 frame (function_at f function at) at_frame;
        owned = sym has.0;
        named = has.1.name;
        sized = has.1.bits;
      }

  each_row : EachOf HasRow (objects_of unit)
  each_row =
      each_joined HasRow (globals_in unit.words unit.externals) (owned_in unit.words 0 unit.externals)
      (each_when (λ (o : Object). IsGlobal unit.words o × HasFrame P (global_frames P) o) HasRow (globals_in unit.words unit.externals) (λ o has. global_row o has)
      (each_both (IsGlobal unit.words) (HasFrame P (global_frames P)) (globals_in unit.words unit.externals) (globals_global unit.words unit.externals) (globals_part unit names 0).objects_have))
      (from_functions HasRow unit.words 0 (record { scope = []; made = [] }) unit.externals
      (λ i function at.
      let view = view_of unit names i function at in
      let here : i ≡ 0 + i = omega arith in (
        subst (λ (n : ℕ). EachOf HasRow (map (parameter_object n) function.parameters)) here
            (each_when (λ (o : Object). (o.owner ≡ Some i) × HasFrame P (parameter_frames P function.parameters) o) HasRow (map (parameter_object i) function.parameters) (λ o has. parameter_row i function at o has)
            (each_both (λ (o : Object). o.owner ≡ Some i) (HasFrame P (parameter_frames P function.parameters)) (map (parameter_object i) function.parameters)
            (parameters_owned unit.words i function.parameters) view.args.objects_have)),
        subst (λ (n : ℕ). EachOf HasRow (all_locals_in unit.words n function.body)) here
            (each_when (λ (o : Object). (o.owner ≡ Some i) × HasFrame P (all_frames_in P i 0 function.body) o) HasRow (all_locals_in unit.words i function.body) (λ o has. local_row i function at o has)
            (each_both (λ (o : Object). o.owner ≡ Some i) (HasFrame P (all_frames_in P i 0 function.body)) (all_locals_in unit.words i function.body)
            (all_owned unit.words i function.body) view.decls.objects_have)),
      )))

  pub apart : Apart RowsDiffer rows
  apart = rows_apart (lowered unit) (all_frames_apart unit names)

  -- the row of an object, at its number
  pub record RowOf (i : ℕ) (o : Object) : Type 0 where
    pub row : FrameRow
    pub at : slice_get rows (frame_number unit i) ≡ Some row
    pub owned : row.owner ≡ o.owner
    pub named : row.name ≡ name_at P i
    pub sized : row.bits ≡ o.bits

  number_of : (i : ℕ) (o : Object) → slice_get (objects_of unit) i ≡ Some o
      → frame_number unit i ≡ row_number o.owner (name_at P i) rows
  number_of i o at =
      ap (λ (x : Option Object). option_map_or (λ (object : Object). row_number object.owner (name_at P i) rows) x (length rows + i)) at

  pub row_of : (i : ℕ) (o : Object) → slice_get (objects_of unit) i ≡ Some o → RowOf i o
  row_of i o at =
      let has = each_at HasRow (objects_of unit) i o at each_row in
      let named : has.row.name ≡ name_at P i = has.named ∙ frame_at P names i o at in
      let found = found_row o.owner (name_at P i) rows has.number has.row has.at has.owned named in
      let at_number : slice_get rows (frame_number unit i) ≡ Some found.row = ap (λ (n : ℕ). slice_get rows n) (number_of i o at) ∙ found.at in
      let one : frame_number unit i ≡ has.number = one_number rows (frame_number unit i) has.number found.row has.row apart at_number has.at (found.named ∙ sym named) in
      record { row = has.row; at = ap (λ (n : ℕ). slice_get rows n) one ∙ has.at; owned = has.owned; named = named; sized = has.sized }

  -- a row with the name of an object is its row
  pub number_is : (i : ℕ) (o : Object) (n : ℕ) (row : FrameRow) → slice_get (objects_of unit) i ≡ Some o
      → slice_get rows n ≡ Some row → row.name ≡ name_at P i → n ≡ frame_number unit i
  number_is i o n row at at_row named =
      let own = row_of i o at in
      one_number rows n (frame_number unit i) row own.row apart at_row own.at (named ∙ sym own.named)

  -- ---- frames stand

  pub past : (i : ℕ) → slice_get (objects_of unit) i ≡ None → frame_number unit i ≡ length rows + i
  past i at = ap (λ (x : Option Object). option_map_or (λ (object : Object). row_number object.owner (name_at P i) rows) x (length rows + i)) at

  abbrev shape : FrameRow → FrameShape
  shape row = record { owner = row.owner; bits = row.bits }

  same_shape : (row : FrameRow) (o : Object) → row.owner ≡ o.owner → row.bits ≡ o.bits → shape row ≡ shape_of_object o
  same_shape row o owned sized = λ i. record { owner = owned i; bits = sized i }

  same : (i : ℕ) → slice_get (frames_of unit) (frame_number unit i) ≡ slice_get (meaning.shapes_of P) i
  same i =
      by_object (slice_get (objects_of unit) i)
      (λ none.
      slice_get-map shape rows (frame_number unit i)
      ∙ ap (λ (n : ℕ). option_map shape (slice_get rows n)) (past i none)
      ∙ ap (λ (x : Option FrameRow). option_map shape x) (slice_get_past rows (length rows + i) (omega arith))
      ∙ sym (slice_get-map shape_of_object (objects_of unit) i ∙ ap (λ (x : Option Object). option_map shape_of_object x) none))
      (λ o at.
      let own = row_of i o at in
      slice_get-map shape rows (frame_number unit i)
      ∙ ap (λ (x : Option FrameRow). option_map shape x) own.at
      ∙ ap (λ (x : FrameShape). Some x) (same_shape own.row o own.owned own.sized)
      ∙ sym (slice_get-map shape_of_object (objects_of unit) i ∙ ap (λ (x : Option Object). option_map shape_of_object x) at))

  below : (i : ℕ) (o : Object) → slice_get (objects_of unit) i ≡ Some o → frame_number unit i < length rows
  below i o at = let own = row_of i o at in slice_get_within rows (frame_number unit i) own.row own.at

  one_name : (i j : ℕ) (o p : Object) → slice_get (objects_of unit) i ≡ Some o → slice_get (objects_of unit) j ≡ Some p
      → name_at P i ≡ name_at P j → i ≡ j
  one_name i j o p at_i at_j e =
      by_test (ltb i j)
      (λ low. absurd (names_differ_at P names i j o p at_i at_j (ltb-true i j low) e))
      (λ high. by_test (ltb j i)
      (λ low. absurd (names_differ_at P names j i p o at_j at_i (ltb-true j i low) (sym e)))
      (λ other. let p : j ≤ i = ltb-false i j high in let q : i ≤ j = ltb-false j i other in omega (arith, p, q)))

  differ : (i j : ℕ) → frame_number unit i ≡ frame_number unit j → i ≡ j
  differ i j e =
      by_object (slice_get (objects_of unit) i)
      (λ none. by_object (slice_get (objects_of unit) j)
      (λ none_too. let a = past i none in let b = past j none_too in omega (arith, a, b, e))
      (λ p at. let a = past i none in let b = below j p at in absurd (omega (arith, a, b, e))))
      (λ o at. by_object (slice_get (objects_of unit) j)
      (λ none. let a = past j none in let b = below i o at in absurd (omega (arith, a, b, e)))
      (λ p at_too.
      let r = row_of i o at in
      let s = row_of j p at_too in
      let one : Some r.row ≡ Some s.row = sym r.at ∙ ap (λ (n : ℕ). slice_get rows n) e ∙ s.at in
      one_name i j o p at at_too (sym r.named ∙ ap (λ (x : FrameRow). x.name) (same_Some r.row s.row one) ∙ s.named)))

  any_of : (test : ℕ → Bool) (start count i : ℕ) → i < count → test (start + i) ≡ true
      → list_any test (range_with_len start count) ≡ true
  any_of test start zero i low is = absurd (omega (arith, low))
  any_of test start (suc count) zero low is =
      ap (λ (b : Bool). b || list_any test (range_with_len (start + 1) count)) (ap test (let e : start ≡ start + 0 = omega arith in e) ∙ is)
  any_of test start (suc count) (suc i) low is =
      ap (λ (b : Bool). test start || b) (any_of test (start + 1) count i (omega (arith, low)) (ap test (let e : (start + 1) + i ≡ start + suc i = omega arith in e) ∙ is)) ∙ or_true (test start)
    where
      or_true : (b : Bool) → (b || true) ≡ true
      or_true true = refl
      or_true false = refl

  or_second : (a b : Bool) → b ≡ true → (a || b) ≡ true
  or_second true b is = refl
  or_second false b is = is

  told : (i : ℕ) → is_object_frame unit (frame_number unit i) ≡ true
  told i =
      by_object (slice_get (objects_of unit) i)
      (λ none.
      or_second (list_any (λ o. frame_number unit o == frame_number unit i) (range_with_len 0 (length (objects_of unit)))) (nat_le (length rows) (frame_number unit i))
      (le-leb (length rows) (frame_number unit i) (let a = past i none in omega (arith, a))))
      (λ o at.
      ap (λ (b : Bool). b || nat_le (length rows) (frame_number unit i))
      (any_of (λ o. frame_number unit o == frame_number unit i) 0 (length (objects_of unit)) i (slice_get_within (objects_of unit) i o at)
      (eq-eqb (frame_number unit (0 + i)) (frame_number unit i) (ap (frame_number unit) (let e : 0 + i ≡ i = omega arith in e)))))

  pub frames_stand : FramesStand unit
  frames_stand = record { same = same; apart = differ; told = told }

-- function f of the lowered program
pub numbered_at : (unit : UnitTree) (f : ℕ) (function : Function) → slice_get (functions_of unit) f ≡ Some function
    → slice_get (lowered unit).funcs f ≡ Some (lowered_function (program_of unit) f function)
numbered_at unit f function at =
    lowered_at (program_of unit) 0 (functions_of unit) f function at ∙ ap (λ (n : ℕ). Some (lowered_function (program_of unit) n function)) (let e : 0 + f ≡ f = omega arith in e)
