-- What the names of frames in a function's code stand for.
use Rattle.std.specs.Prelude.{slice_get, unwrap_or, nat_le, ◌||◌, ◌==◌}
use Rattle.std.specs.Option.{option_map, option_map_or}
use Rattle.std.specs.List.{list_any, range_with_len}
use Rattle.std.proofs.Common.{◌≡◌, ◌⊎◌, ◌<◌, ◌≤◌, ◌+◌, ℕ, zero, suc, Bool, false, List, [], map, length, Contains, Option, Some, None, refl, sym, ap, ◌∙◌, subst, arith, ⊎_elim}
use Rattle.std.proofs.lemmas.Option.{none-some, same_Some, slice_get_within}
use Rattle.std.proofs.lemmas.Bool.{ne_eqb, leb-true}
use Rattle.lists.specs.TestLaws.{by_test}
use Rattle.lists.specs.MemberLaws.{placed as member_at}
use Rattle.alf_program.specs.Tree.{Allocation}
use Rattle.alf_faults.specs.Places.{frame_place}
use Rattle.alf_check.specs.declared.rows.FrameRow.{FrameRow}
use Rattle.alf_check.specs.Numbers.{row_for, frame_rows, first_frame, placed, numbers_in}
use Rattle.c_unit.specs.declared.types.Integer.{Integer}
use Rattle.c_unit.specs.Units.{UnitTree}
use Rattle.c_meaning.specs.Values.{bits_of_type}
use Rattle.c_meaning.specs.Objects as meaning
use Rattle.c_meaning.specs.Objects.{Object, Function, Program, program_of, objects_of, parameter_object, all_locals_in, owned_in, globals_in}
use Rattle.c_lowered.specs.Names.{name_at, call_name}
use Rattle.c_lowered.specs.Frames.{parameter_frames, all_frames_in, global_frames}
use Rattle.c_lowered.specs.Programs.{lowered_function, lowered}
use Rattle.lowering_layout.specs.Lists.{EachOf}
use Rattle.lowering_layout.specs.ListLaws.{each_when, each_both, each_joined, each_at}
use Rattle.lowering_layout.specs.Spelled.{HasNames}
use Rattle.lowering_layout.specs.PartFrames.{HasFrame}
use Rattle.lowering_layout.specs.PlaceLaws.{frame_at, call_is_no_object}
use Rattle.lowering_layout.specs.Checked.{IsGlobal}
use Rattle.lowering_layout.specs.CheckedLaws.{all_owned, parameters_owned, globals_global}
use Rattle.lowering_layout.specs.Views.{globals_part}
use Rattle.lowering_layout.specs.ViewLaws.{view_of}
use Rattle.lowering_values.specs.Frames.{frame_number, is_object_frame, Sees, IsResultFrame, IsNaming}
use Rattle.lowering_layout.proofs.Rows.{one_number, global_at, arg_at, decl_at, placed_at, not_placed}
use Rattle.lowering_layout.proofs.Objects.{by_object, past, lowered_at, from_functions, row_of, number_is, apart}

pub by_place : {A : Type 0} (x : Option ℕ) → (x ≡ None → A) → ((p : ℕ) → x ≡ Some p → A) → A
by_place None first second = first refl
by_place (Some p) first second = second p refl

no_member_of : (test : ℕ → Bool) (start count : ℕ) → ((i : ℕ) → i < count → test (start + i) ≡ false)
    → list_any test (range_with_len start count) ≡ false
no_member_of test start zero each = refl
no_member_of test start (suc count) each =
    ap (λ (b : Bool). b || list_any test (range_with_len (start + 1) count)) (ap test (let e : start ≡ start + 0 = omega arith in e) ∙ each 0 (omega arith))
    ∙ no_member_of test (start + 1) count (λ i low. ap test (let e : (start + 1) + i ≡ start + suc i = omega arith in e) ∙ each (suc i) (omega (arith, low)))

module _ (unit : UnitTree) (names : HasNames (program_of unit)) where
  abbrev P : Program
  P = program_of unit

  abbrev rows : List FrameRow
  rows = frame_rows (lowered unit)

  -- ---- objects in the view of their function

  data IsIn (o : Object) : Type 0 where
    in_globals : o.owner ≡ None → HasFrame P (global_frames P) o → IsIn o
    in_args : (f : ℕ) (function : Function) → slice_get P.functions f ≡ Some function → o.owner ≡ Some f
        → HasFrame P (parameter_frames P function.parameters) o → IsIn o
    in_decls : (f : ℕ) (function : Function) → slice_get P.functions f ≡ Some function → o.owner ≡ Some f
        → HasFrame P (all_frames_in P f 0 function.body) o → IsIn o

  each_in : EachOf IsIn (objects_of unit)
  each_in =
      each_joined IsIn (globals_in unit.words unit.externals) (owned_in unit.words 0 unit.externals)
      (each_when (λ (o : Object). IsGlobal unit.words o × HasFrame P (global_frames P) o) IsIn (globals_in unit.words unit.externals) (λ o has. in_globals has.0 has.1)
      (each_both (IsGlobal unit.words) (HasFrame P (global_frames P)) (globals_in unit.words unit.externals) (globals_global unit.words unit.externals) (globals_part unit names 0).objects_have))
      (from_functions IsIn unit.words 0 (record { scope = []; made = [] }) unit.externals
      (λ i function at.
      let view = view_of unit names i function at in
      let here : i ≡ 0 + i = omega arith in (
        subst (λ (n : ℕ). EachOf IsIn (map (parameter_object n) function.parameters)) here
            (each_when (λ (o : Object). (o.owner ≡ Some i) × HasFrame P (parameter_frames P function.parameters) o) IsIn (map (parameter_object i) function.parameters) (λ o has. in_args i function at has.0 has.1)
            (each_both (λ (o : Object). o.owner ≡ Some i) (HasFrame P (parameter_frames P function.parameters)) (map (parameter_object i) function.parameters)
            (parameters_owned unit.words i function.parameters) view.args.objects_have)),
        subst (λ (n : ℕ). EachOf IsIn (all_locals_in unit.words n function.body)) here
            (each_when (λ (o : Object). (o.owner ≡ Some i) × HasFrame P (all_frames_in P i 0 function.body) o) IsIn (all_locals_in unit.words i function.body) (λ o has. in_decls i function at has.0 has.1)
            (each_both (λ (o : Object). o.owner ≡ Some i) (HasFrame P (all_frames_in P i 0 function.body)) (all_locals_in unit.words i function.body)
            (all_owned unit.words i function.body) view.decls.objects_have)),
      )))

  module _ (f : ℕ) (function : Function) (at : slice_get P.functions f ≡ Some function) where
    abbrev globals : List Allocation
    globals = global_frames P

    abbrev args : List Allocation
    args = parameter_frames P function.parameters

    abbrev decls : List Allocation
    decls = all_frames_in P f 0 function.body

    abbrev first : ℕ
    first = first_frame (lowered unit) f

    abbrev frame : List ℕ → ℕ
    frame = (numbers_in (lowered unit) first (lowered_function P f function)).frame

    here : slice_get (lowered unit).funcs f ≡ Some (lowered_function P f function)
    here = lowered_at P 0 P.functions f function at ∙ ap (λ (n : ℕ). Some (lowered_function P n function)) (let e : 0 + f ≡ f = omega arith in e)

    -- a row of this name
    record IsNamed (name : List ℕ) (n : ℕ) : Type 0 where
      pub row : FrameRow
      pub stands : slice_get rows n ≡ Some row
      pub named : row.name ≡ name

    -- the name is that of a frame that the function sees
    data InView (name : List ℕ) : Type 0 where
      of_globals : (a : Allocation) → Contains globals a → a.name ≡ name → InView name
      of_args : (a : Allocation) → Contains args a → a.name ≡ name → InView name
      of_decls : (a : Allocation) → Contains decls a → a.name ≡ name → InView name

    no_view : (name : List ℕ) → InView name → frame_place globals name ≡ None → frame_place args name ≡ None
        → frame_place decls name ≡ None → ⊥
    no_view name (of_globals a c e) g h d = not_placed globals name g a c e
    no_view name (of_args a c e) g h d = not_placed args name h a c e
    no_view name (of_decls a c e) g h d = not_placed decls name d a c e

    named_frame : (name : List ℕ) → InView name → IsNamed name (frame name)
    named_frame name is =
        by_place (frame_place globals name)
        (λ g. by_place (frame_place args name)
        (λ h. by_place (frame_place decls name)
        (λ d. absurd (no_view name is g h d))
        (λ p d.
        let found = placed_at decls name p d in
        let number : frame name ≡ (first + length args) + p =
        ap (λ (x : Option ℕ). unwrap_or (option_map (λ place. 0 + place) x) (unwrap_or (placed first args name) (unwrap_or (placed (first + length args) decls name) 0))) g
        ∙ ap (λ (x : Option ℕ). unwrap_or (option_map (λ place. first + place) x) (unwrap_or (placed (first + length args) decls name) 0)) h
        ∙ ap (λ (x : Option ℕ). unwrap_or (option_map (λ place. (first + length args) + place) x) 0) d
        in
        record {
          row = row_for (Some f) found.frame;
          stands = ap (λ (n : ℕ). slice_get rows n) number ∙ decl_at (lowered unit) f (lowered_function P f function) p found.frame here found.at;
          named = found.named;
        }))
        (λ p h.
        let found = placed_at args name p h in
        let number : frame name ≡ first + p =
        ap (λ (x : Option ℕ). unwrap_or (option_map (λ place. 0 + place) x) (unwrap_or (placed first args name) (unwrap_or (placed (first + length args) decls name) 0))) g
        ∙ ap (λ (x : Option ℕ). unwrap_or (option_map (λ place. first + place) x) (unwrap_or (placed (first + length args) decls name) 0)) h
        in
        record {
          row = row_for (Some f) found.frame;
          stands = ap (λ (n : ℕ). slice_get rows n) number ∙ arg_at (lowered unit) f (lowered_function P f function) p found.frame here found.at;
          named = found.named;
        }))
        (λ p g.
        let found = placed_at globals name p g in
        let number : frame name ≡ p =
        ap (λ (x : Option ℕ). unwrap_or (option_map (λ place. 0 + place) x) (unwrap_or (placed first args name) (unwrap_or (placed (first + length args) decls name) 0))) g
        ∙ (let e : 0 + p ≡ p = omega arith in e)
        in
        record { row = row_for None found.frame; stands = ap (λ (n : ℕ). slice_get rows n) number ∙ global_at (lowered unit) p found.frame found.at; named = found.named })

    -- ---- objects

    same_function : (g : ℕ) (other : Function) → slice_get P.functions g ≡ Some other → g ≡ f → other ≡ function
    same_function g other at_g e = same_Some other function (sym at_g ∙ ap (λ (n : ℕ). slice_get P.functions n) e ∙ at)

    viewed : (i : ℕ) (o : Object) → slice_get (objects_of unit) i ≡ Some o → (o.owner ≡ None) ⊎ (o.owner ≡ Some f)
        → IsIn o → InView (name_at P i)
    viewed i o at_o seen (in_globals owned has) = of_globals has.frame has.among (has.name ∙ frame_at P names i o at_o)
    viewed i o at_o seen (in_args g other at_g owned has) =
        ⊎_elim
        (λ (none : o.owner ≡ None). absurd (none-some g (sym none ∙ owned)))
        (λ (own : o.owner ≡ Some f).
        let e : g ≡ f = same_Some g f (sym owned ∙ own) in
        let same = same_function g other at_g e in
        of_args has.frame (subst (λ (x : Function). Contains (parameter_frames P x.parameters) has.frame) same has.among) (has.name ∙ frame_at P names i o at_o))
        seen
    viewed i o at_o seen (in_decls g other at_g owned has) =
        ⊎_elim
        (λ (none : o.owner ≡ None). absurd (none-some g (sym none ∙ owned)))
        (λ (own : o.owner ≡ Some f).
        let e : g ≡ f = same_Some g f (sym owned ∙ own) in
        let same = same_function g other at_g e in
        of_decls has.frame (subst (λ (n : ℕ). Contains (all_frames_in P n 0 function.body) has.frame) e (subst (λ (x : Function). Contains (all_frames_in P g 0 x.body) has.frame) same has.among)) (has.name ∙ frame_at P names i o at_o))
        seen

    object_number : (i : ℕ) → Sees unit f i → frame (name_at P i) ≡ frame_number unit i
    object_number i sees =
        let is = each_at IsIn (objects_of unit) i sees.object sees.at each_in in
        let named = named_frame (name_at P i) (viewed i sees.object sees.at sees.seen is) in
        number_is unit names i sees.object (frame (name_at P i)) named.row sees.at named.stands named.named

    -- ---- results

    result_number : (k : ℕ) (i : Integer) → Contains decls (record { name = call_name P f k; bits = bits_of_type i })
        → IsResultFrame unit f i (frame (call_name P f k))
    result_number k i among = record { row = row_for (Some f) result; at = at_number; owned = refl; sized = refl; other = no_object }
      where
        result : Allocation
        result = record { name = call_name P f k; bits = bits_of_type i }

        number : ℕ
        number = (first + length args) + among.0

        at_row : slice_get rows number ≡ Some (row_for (Some f) result)
        at_row = decl_at (lowered unit) f (lowered_function P f function) among.0 result here (member_at decls result among)

        named : IsNamed (call_name P f k) (frame (call_name P f k))
        named = named_frame (call_name P f k) (of_decls result among refl)

        one : frame (call_name P f k) ≡ number
        one = one_number rows (frame (call_name P f k)) number named.row (row_for (Some f) result) (apart unit names) named.stands at_row named.named

        at_number : slice_get rows (frame (call_name P f k)) ≡ Some (row_for (Some f) result)
        at_number = ap (λ (n : ℕ). slice_get rows n) one ∙ at_row

        low : frame (call_name P f k) < length rows
        low = slice_get_within rows (frame (call_name P f k)) (row_for (Some f) result) at_number

        within : f < length P.functions
        within = slice_get_within P.functions f function at

        differs : (j : ℕ) (o : Object) → slice_get (objects_of unit) j ≡ Some o
            → frame_number unit j ≡ frame (call_name P f k) → ⊥
        differs j o at_o e =
            let own = row_of unit names j o at_o in
            let same : own.row ≡ row_for (Some f) result = same_Some own.row (row_for (Some f) result) (sym own.at ∙ ap (λ (n : ℕ). slice_get rows n) e ∙ at_number) in
            call_is_no_object P names j o f k at_o within (sym own.named ∙ ap (λ (x : FrameRow). x.name) same)

        no_object : is_object_frame unit (frame (call_name P f k)) ≡ false
        no_object =
            ap (λ (b : Bool). b || nat_le (length rows) (frame (call_name P f k)))
            (no_member_of (λ o. frame_number unit o == frame (call_name P f k)) 0 (length (objects_of unit))
            (λ j within_objects. ne_eqb (frame_number unit (0 + j)) (frame (call_name P f k))
            (λ e. by_object (slice_get (objects_of unit) (0 + j))
            (λ none. let a = past unit names (0 + j) none in absurd (omega (arith, a, e, low)))
            (λ o at_o. differs (0 + j) o at_o e))))
            ∙ by_test (nat_le (length rows) (frame (call_name P f k)))
            (λ high. let up : length rows ≤ frame (call_name P f k) = leb-true (length rows) (frame (call_name P f k)) high in absurd (omega (arith, up, low)))
            (λ is. is)

    own_body : meaning.function_at P f ≡ function
    own_body = ap (λ (x : Option Function). option_map_or (λ function. function) x meaning.no_function) at

    pub naming : IsNaming unit f frame
    naming = record {
      objects = λ o sees. object_number o sees;
      results = λ k i among. result_number k i (subst (λ (x : Function). Contains (all_frames_in P f 0 x.body) (record { name = call_name P f k; bits = bits_of_type i })) own_body among);
    }
