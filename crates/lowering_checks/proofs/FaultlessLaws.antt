-- Laws of faultless.
--   funcs_here, funcs_back   the functions of the lowered program are those of the unit, in order
--   item_faultless           an item that stands has no fault
--   no_fault                 so has no part of the lowered program
--   last_value   what a function's end returns
use Rattle.std.proofs.Common.{◌≡◌, ◌≢◌, ◌<◌, ◌≤◌, ◌^◌, ◌+◌, ◌||◌, ℕ, zero, suc, Bool, true, false, not, List, [], ◌∷◌, ◌++◌, length, slice_get, Contains, Option, None, Some, is_some, refl, sym, ap, ◌∙◌, subst, arith, eq-eqb, ◌%◌}
use Rattle.std.specs.List.{AllZip}
use Rattle.std.specs.Option.{option_map_or}
use Rattle.std.proofs.lemmas.Option.{none-some, same_Some, slice_get_within}
use Rattle.lists.specs.MemberLaws.{no_member, placed}
use Rattle.lists.specs.ImageLaws.{mapped}
use Rattle.alf_program.specs.declared.program.Num.{Num}
use Rattle.alf_program.specs.Tree.{NamedExpression, Null, Store, Jump, Switch, Call, Return, BodyItem, Label, Do, Allocation, expressions_of}
use Rattle.alf_program.specs.Tree as alf
use Rattle.alf_faults.specs.declared.returns.FirstReturn.{FirstReturn}
use Rattle.alf_faults.specs.TermSizes.{term_size, is_bytes}
use Rattle.alf_faults.specs.Returns.{agrees, is_before}
use Rattle.alf_faults.specs.Places.{function_place}
use Rattle.alf_faults.specs.Sizes.{agrees_behind}
use Rattle.alf_faults.specs.NoFault as faults
use Rattle.alf_program.specs.Writable.{IsName}
use Rattle.alf_faults.specs.NoFault.{HasLabel, SeesFrames, SeesAllFrames, CallHasNoFault, ItemHasNoFault, FunctionHasNoFault, HasNoFault}
use Rattle.alf_faults.specs.NoFaultLaws.{agreeing_fits}
use Rattle.c_unit.specs.declared.types.Outcome.{Outcome}
use Rattle.c_unit.specs.declared.types.Outcome.TheVariants as outcomes
use Rattle.c_unit.specs.declared.external.Parameter.{Parameter}
use Rattle.c_unit.specs.Units.{UnitTree}
use Rattle.c_rules.specs.UnitsStand.{UnitStands}
use Rattle.c_meaning.specs.Objects.{Object, objects_of, Function, Program, program_of, function_at, no_function, integers_of}
use Rattle.c_lowered.specs.Names.{function_name, frame_of}
use Rattle.c_lowered.specs.Values.{whole, cut}
use Rattle.c_lowered.specs.Statements.{labels_in_all}
use Rattle.c_lowered.specs.Frames.{global_frames, parameter_frames, all_frames_in}
use Rattle.c_lowered.specs.Programs.{last_return, nowhere, function_items, lowered_function, lowered_from, lowered}
use Rattle.lowering_simulation.specs.Counts.{count}
use Rattle.lowering_simulation.specs.LabelLaws.{label_stands}
use Rattle.lowering_simulation.specs.Places.{Stands}
use Rattle.lowering_simulation.specs.PlaceLaws.{stands_all, after_all}
use Rattle.lowering_layout.specs.Lists.{EachOf, Apart, Across}
use Rattle.lowering_layout.specs.ListLaws.{each_at, each_member, each_when, apart_pairs}
use Rattle.lowering_layout.specs.Spelled.{HasNames}
use Rattle.lowering_layout.specs.DifferLaws.{functions_differ, label_is_no_function}
use Rattle.lowering_layout.specs.PlaceLaws.{apart_of_places}
use Rattle.lowering_layout.specs.PartFrames.{DifferInName, IsObject, HasFrame}
use Rattle.lowering_layout.specs.Views.{globals, globals_part, all_objects}
use Rattle.lowering_checks.proofs.StandingLaws.{IsLabel, TargetStands, ArgumentsFit, ResultStands, CallStands, ReturnStands, ItemStands}
use Rattle.lowering_checks.specs.Functions.{IsMeasured}
use Rattle.lowering_checks.proofs.FunctionLaws.{object_name, view, items_stand}
use Rattle.lowering_checks.proofs.GlobalLaws.{Found, globals_found, Exported, exports_stand, Holds, inits_stand}
use Rattle.lowering_checks.specs.Returns.{is_given}
use Rattle.lowering_checks.proofs.ReturnLaws.{label_among, label_once, bits_given, FirstReturns, agrees_as, return_gives, result_has, first_returns, place_at}

-- ---- functions in order

pub funcs_here : (program : Program) (j : ℕ) (fs : List Function) (i : ℕ) (function : Function)
    → slice_get fs i ≡ Some function
    → slice_get (lowered_from program j fs) i ≡ Some (lowered_function program (j + i) function)
funcs_here program j [] i function at = absurd (none-some function at)
funcs_here program j (f ∷ fs) zero function at =
    ap Some (ap (λ (g : Function). lowered_function program j g) (same_Some f function at) ∙ ap (λ (n : ℕ). lowered_function program n function) (let same : j ≡ j + 0 = omega arith in same))
funcs_here program j (f ∷ fs) (suc i) function at =
    funcs_here program (suc j) fs i function at ∙ ap (λ (n : ℕ). Some (lowered_function program n function)) (let same : suc j + i ≡ j + suc i = omega arith in same)

pub record IsLowered (program : Program) (j : ℕ) (fs : List Function) (i : ℕ) (func : alf.Function) : Type 0 where
  pub function : Function
  pub at : slice_get fs i ≡ Some function
  pub is : lowered_function program (j + i) function ≡ func

pub funcs_back : (program : Program) (j : ℕ) (fs : List Function) (i : ℕ) (func : alf.Function)
    → slice_get (lowered_from program j fs) i ≡ Some func → IsLowered program j fs i func
funcs_back program j [] i func at = absurd (none-some func at)
funcs_back program j (f ∷ fs) zero func at = record { function = f; at = refl; is = ap (λ (n : ℕ). lowered_function program n f) (let same : j + 0 ≡ j = omega arith in same) ∙ same_Some (lowered_function program j f) func at }
funcs_back program j (f ∷ fs) (suc i) func at =
    let rest = funcs_back program (suc j) fs i func at in
    record { function = rest.function; at = rest.at; is = ap (λ (n : ℕ). lowered_function program n rest.function) (let same : j + suc i ≡ suc j + i = omega arith in same) ∙ rest.is }

-- what a function's end returns
abbrev pub last_value : Outcome → Option NamedExpression
last_value outcomes.Nothing = None
last_value (outcomes.Integer i) = Some (cut i (whole 0))

pub last_is : (o : Outcome) → last_return o ≡ Do (Return (last_value o))
last_is outcomes.Nothing = refl
last_is (outcomes.Integer i) = refl

either_true : (a b : Bool) → b ≡ true → (a || b) ≡ true
either_true true b e = refl
either_true false b e = e

module _ (unit : UnitTree) (names : HasNames (program_of unit)) (stands : UnitStands unit) (measured : IsMeasured unit names) where
  abbrev program : Program
  program = program_of unit

  -- ---- the functions of the lowered program

  pub func_at : (k : ℕ) (function : Function) → slice_get program.functions k ≡ Some function
      → slice_get (lowered unit).funcs k ≡ Some (lowered_function program k function)
  func_at k function at = funcs_here program 0 program.functions k function at ∙ ap (λ (n : ℕ). Some (lowered_function program n function)) (let same : 0 + k ≡ k = omega arith in same)

  pub record IsOf (k : ℕ) (func : alf.Function) : Type 0 where
    pub function : Function
    pub at : slice_get program.functions k ≡ Some function
    pub is : lowered_function program k function ≡ func

  pub func_of : (k : ℕ) (func : alf.Function) → slice_get (lowered unit).funcs k ≡ Some func → IsOf k func
  func_of k func at =
      let back = funcs_back program 0 program.functions k func at in
      record { function = back.function; at = back.at; is = ap (λ (n : ℕ). lowered_function program n back.function) (let same : k ≡ 0 + k = omega arith in same) ∙ back.is }

  name_of : (k : ℕ) (func : alf.Function) → (of : IsOf k func) → func.name ≡ function_name program k
  name_of k func of = ap (λ (g : alf.Function). g.name) (sym of.is)

  pub funcs_apart : Apart (λ (f g : alf.Function). f.name ≢ g.name) (lowered unit).funcs
  funcs_apart =
      apart_of_places (λ (f g : alf.Function). f.name ≢ g.name) (lowered unit).funcs
      (λ i j f g at_i at_j before e.
      let a = func_of i f at_i in
      let b = func_of j g at_j in
      let same = functions_differ program names i j (slice_get_within program.functions i a.function a.at) (slice_get_within program.functions j b.function b.at) (sym (name_of i f a) ∙ e ∙ name_of j g b) in
      absurd (omega (arith, same, before)))

  -- ---- one function

  module _ (k : ℕ) (function : Function) (at : slice_get program.functions k ≡ Some function) where
    abbrev pub items : List BodyItem
    items = function_items program k function

    abbrev pub func : alf.Function
    func = lowered_function program k function

    abbrev pub many : ℕ
    many = labels_in_all function.body

    pub few_labels : many < 2 ^ 64
    few_labels = each_at (λ (g : Function). labels_in_all g.body < 2 ^ 64) program.functions k function at measured.few_labels

    low_k : k < length program.functions
    low_k = slice_get_within program.functions k function at

    abbrev pub Own : List ℕ → Type 0
    Own name = IsLabel (lowered unit) func program k many name

    counted_once : (name : List ℕ) → Own name → count name items ≡ 1
    counted_once name own =
        let few = few_labels in
        subst (λ (x : List ℕ). count x items ≡ 1) (sym own.is) (label_stands program k function own.number own.low (omega (arith, few)))

    has_label : (name : List ℕ) → Own name → HasLabel items name
    has_label name own = let once = counted_once name own in label_among name items (omega (arith, once))

    -- ---- returns

    pub ending : Stands items (last_return function.result ∷ [])
    ending =
        after_all items (record { program = program; function = k }) function.scopes function.body 0 0 nowhere (last_return function.result ∷ []) (stands_all items)

    pub first_of : FirstReturns (function_at program k).result 0 items
    first_of =
        let e = ending in
        let whole_items : e.before ++ (Do (Return (last_value function.result)) ∷ []) ≡ items = ap (λ (x : BodyItem). e.before ++ (x ∷ [])) (sym (last_is function.result)) ∙ e.so in
        subst (λ (xs : List BodyItem). FirstReturns (function_at program k).result 0 xs) whole_items
        (first_returns (lowered unit) func program k many 0 e.before (last_value function.result)
        (subst (λ (xs : List BodyItem). EachOf (ItemStands (lowered unit) func program k many) xs) (sym whole_items) (items_stand unit names stands measured k function at)))

  -- ---- calls

  result_at : (k : ℕ) (function : Function) → slice_get program.functions k ≡ Some function
      → (function_at program k).result ≡ function.result
  result_at k function at = ap (λ (x : Option Function). (option_map_or (λ function. function) x no_function).result) at

  -- each call of a function agrees with its first return
  calls_agree : (k : ℕ) (function : Function) (at : slice_get program.functions k ≡ Some function) (caller : alf.Function) (label : List ℕ) (args : List NamedExpression) (result : Option (List ℕ × ℕ)) → Contains (lowered unit).funcs caller
      → Contains caller.items (Do (Call label args result)) → label ≡ (func k function at).name → agrees (is_some result) (first_of k function at).found ≡ true
  calls_agree k function at caller label args result among calls named =
      let of = func_of among.0 caller (placed (lowered unit).funcs caller among) in
      let there : Contains (function_items program among.0 of.function) (Do (Call label args result)) = subst (λ (g : alf.Function). Contains g.items (Do (Call label args result))) (sym of.is) calls in
      let stand = each_member (ItemStands (lowered unit) (func among.0 of.function of.at) program among.0 (labels_in_all of.function.body)) (function_items program among.0 of.function) (Do (Call label args result)) there
      (items_stand unit names stands measured among.0 of.function of.at)
      in
      let same : stand.callee ≡ k = functions_differ program names stand.callee k (slice_get_within program.functions stand.callee stand.function stand.at) (slice_get_within program.functions k function at) (sym stand.named ∙ named) in
      let outcome : stand.function.result ≡ (function_at program k).result = sym (result_at stand.callee stand.function stand.at) ∙ ap (λ (n : ℕ). (function_at program n).result) same in
      let has : is_some result ≡ is_given (function_at program k).result = result_has (lowered unit) (func among.0 of.function of.at) program among.0 (labels_in_all of.function.body) stand.function.result result stand.gives ∙ ap is_given outcome in
      ap (λ (b : Bool). agrees b (first_of k function at).found) has ∙ agrees_as (function_at program k).result (first_of k function at).found (first_of k function at).gives

  -- ---- items

  module _ (k : ℕ) (function : Function) (at : slice_get program.functions k ≡ Some function) where
    args_see : (args : List NamedExpression) (params : List Parameter)
        → ArgumentsFit (lowered unit) (func k function at) program k (many k function at) args params
        → SeesAllFrames (lowered unit) (func k function at) (expressions_of args)
    args_see [] [] fit = tt
    args_see [] (p ∷ ps) fit = absurd fit
    args_see (e ∷ es) [] fit = absurd fit
    args_see (e ∷ es) (p ∷ ps) fit = (fit.0.sees, args_see es ps fit.1)

    args_sized : (args : List NamedExpression) (params : List Parameter)
        → ArgumentsFit (lowered unit) (func k function at) program k (many k function at) args params
        → AllZip (λ (arg : NamedExpression) (frame : Allocation). term_size arg ≡ Some frame.bits) args (parameter_frames program params)
    args_sized [] [] fit = tt
    args_sized [] (p ∷ ps) fit = absurd fit
    args_sized (e ∷ es) [] fit = absurd fit
    args_sized (e ∷ es) (p ∷ ps) fit = (fit.0.size, args_sized es ps fit.1)

    result_seen : (o : Outcome) (result : Option (List ℕ × ℕ))
        → ResultStands (lowered unit) (func k function at) program k (many k function at) o result
        → (target : List ℕ × ℕ) → result ≡ Some target → faults.IsSeen (lowered unit) (func k function at) target.0
    result_seen outcomes.Nothing None stand target is = absurd (none-some target is)
    result_seen outcomes.Nothing (Some to) stand target is = absurd stand
    result_seen (outcomes.Integer i) None stand target is = absurd (none-some target is)
    result_seen (outcomes.Integer i) (Some to) stand target is = subst (λ (x : List ℕ × ℕ). faults.IsSeen (lowered unit) (func k function at) x.0) (same_Some to target is) stand.0.seen

    call_agrees : (i : ℕ) (callee : ℕ) (called : Function) (there : slice_get program.functions callee ≡ Some called) (result : Option (List ℕ × ℕ)) → ResultStands (lowered unit) (func k function at) program k (many k function at) called.result result
        → agrees (is_some result) (first_of callee called there).found ≡ true
    call_agrees i callee called there result stand =
        ap (λ (b : Bool). agrees b (first_of callee called there).found) (result_has (lowered unit) (func k function at) program k (many k function at) called.result result stand ∙ ap is_given (sym (result_at callee called there)))
        ∙ agrees_as (function_at program callee).result (first_of callee called there).found (first_of callee called there).gives

    call_faultless : (i : ℕ) (label : List ℕ) (args : List NamedExpression) (result : Option (List ℕ × ℕ))
        → CallStands (lowered unit) (func k function at) program k (many k function at) label args result
        → CallHasNoFault (lowered unit) k (func k function at) i label args result
    call_faultless i label args result stand =
        let called = func stand.callee stand.function stand.at in
        let first = first_of stand.callee stand.function stand.at in
        let there = func_at stand.callee stand.function stand.at in
        record {
          sees = args_see args stand.function.parameters stand.fit;
          result_sees = result_seen stand.function.result result stand.gives;
          place = stand.callee;
          called = called;
          found = subst (λ (x : List ℕ). function_place (lowered unit).funcs x ≡ Some stand.callee) (sym stand.named) (place_at (lowered unit).funcs stand.callee called funcs_apart there);
          at = there;
          sizes = args_sized args stand.function.parameters stand.fit;
          agrees =
              ap (λ (o : Option FirstReturn). agrees_behind stand.callee o k i (is_some result)) first.first
              ∙ either_true (not (is_before stand.callee first.found.item k i)) (agrees (is_some result) first.found) (call_agrees i stand.callee stand.function stand.at result stand.gives);
        }

    return_faultless : (i : ℕ) (value : Option NamedExpression) → ReturnStands (lowered unit) (func k function at) program k (many k function at) (function_at program k).result value
        → faults.ReturnHasNoFault (lowered unit) k (func k function at) i value
    return_faultless i value stand =
        let first = first_of k function at in
        record {
          sees = value_seen (function_at program k).result value stand;
          fits = agreeing_fits (lowered unit) k (func k function at) i value first.found (bits_given (function_at program k).result) first.first first.gives.size
              (return_gives (lowered unit) (func k function at) program k (many k function at) (function_at program k).result value stand)
              (λ caller label args result among calls named. calls_agree k function at caller label args result among calls named);
        }
      where
        value_seen : (o : Outcome) (given : Option NamedExpression)
            → ReturnStands (lowered unit) (func k function at) program k (many k function at) o given
            → (e : NamedExpression) → given ≡ Some e → SeesFrames (lowered unit) (func k function at) e
        value_seen outcomes.Nothing None stand e is = absurd (none-some e is)
        value_seen outcomes.Nothing (Some x) stand e is = absurd stand
        value_seen (outcomes.Integer i) None stand e is = absurd stand
        value_seen (outcomes.Integer i) (Some x) stand e is = subst (λ (y : NamedExpression). SeesFrames (lowered unit) (func k function at) y) (same_Some x e is) stand.sees

    bytes_hold : (bits : ℕ) (value : NamedExpression) → term_size value ≡ Some bits → bits % 8 ≡ 0
        → is_bytes (term_size value) ≡ true
    bytes_hold bits value size bytes = ap is_bytes size ∙ eq-eqb (bits % 8) 0 bytes

    item_faultless : (i : ℕ) (item : BodyItem) → slice_get (items k function at) i ≡ Some item
        → ItemStands (lowered unit) (func k function at) program k (many k function at) item
        → ItemHasNoFault (lowered unit) k (func k function at) i item
    item_faultless i (Label label) there stand =
        let once = counted_once k function at label stand in
        record {
          first = λ j before other. label_once label (items k function at) j i (omega (arith, once)) before other there;
          alone = λ named.
              let of = func_of named.1.0 named.0 (placed (lowered unit).funcs named.0 named.1) in
              label_is_no_function program names k named.1.0 stand.number (low_k k function at) (slice_get_within program.functions named.1.0 of.function of.at) (sym (name_of named.1.0 named.0 of) ∙ named.2 ∙ stand.is);
        }
    item_faultless i (Do Null) there stand = tt
    item_faultless i (Do (Store at_e value)) there stand = record { at_sees = stand.at_term.sees; value_sees = stand.value_term.sees; at_size = stand.at_term.size; value_bytes = bytes_hold stand.bits value stand.value_term.size stand.bytes }
    item_faultless i (Do (Jump label)) there stand = has_label k function at label stand
    item_faultless i (Do (Switch value targets others)) there stand = record {
      sees = stand.value_term.sees;
      leads = λ target c. has_label k function at target.1 (each_member (TargetStands (lowered unit) (func k function at) program k (many k function at) stand.size) targets target c stand.each).leads;
      leads_else = has_label k function at others stand.leads_else;
      size = stand.size;
      value_size = stand.value_term.size;
      sizes = λ target c. (each_member (TargetStands (lowered unit) (func k function at) program k (many k function at) stand.size) targets target c stand.each).same;
      differ = apart_pairs (λ (t u : Num × List ℕ). t.0.bits ≢ u.0.bits) targets stand.differ;
    }
    item_faultless i (Do (Call label args result)) there stand = call_faultless i label args result stand
    item_faultless i (Do (Return value)) there stand = return_faultless i value stand

    other_names : (xs ys : List Allocation) → Across DifferInName xs ys → faults.HaveOtherNames xs ys
    other_names xs ys across frame other c d = each_member (DifferInName other) ys frame c (each_member (λ (a : Allocation). EachOf (DifferInName a) ys) xs other d across)

    function_faultless : FunctionHasNoFault (lowered unit) k (func k function at)
    function_faultless =
        let seen = view unit names stands measured k function at in
        record {
          args_differ = apart_pairs DifferInName (parameter_frames program function.parameters) seen.args.apart;
          args_other = other_names (global_frames program) (parameter_frames program function.parameters) seen.globals_args;
          decls_differ = apart_pairs DifferInName (all_frames_in program k 0 function.body) seen.decls.apart;
          decls_other = other_names (global_frames program) (all_frames_in program k 0 function.body) seen.globals_decls;
          decls_apart = other_names (parameter_frames program function.parameters) (all_frames_in program k 0 function.body) seen.args_decls;
          inits = λ init c. no_member init c;
          items = λ i item there. item_faultless i item there (each_at (ItemStands (lowered unit) (func k function at) program k (many k function at)) (items k function at) i item there (items_stand unit names stands measured k function at));
        }

  -- ---- globals

  pub globals_named : EachOf (λ (o : Object). IsName (frame_of program o.token) × (o.bits ≤ 262144)) (globals unit names)
  globals_named =
      each_when (IsObject program) (λ (o : Object). IsName (frame_of program o.token) × (o.bits ≤ 262144)) (globals unit names)
      (λ o is. (object_name unit names stands measured o is, each_at (λ (o : Object). o.bits ≤ 262144) (objects_of unit) is.0 o is.1 measured.small)) (all_objects unit names).0

  pub global_has : EachOf (HasFrame program (global_frames program)) (globals unit names)
  global_has = (globals_part unit names 0).objects_have

  pub globals_apart : Apart DifferInName (global_frames program)
  globals_apart = (globals_part unit names 0).apart

  found : EachOf (Found program (globals unit names) (global_frames program) global_has globals_apart globals_named) (globals unit names)
  found = globals_found program (globals unit names) (global_frames program) global_has globals_apart globals_named

  pub exports : EachOf (Exported program (globals unit names) (global_frames program) global_has globals_apart globals_named) (integers_of unit)
  exports = exports_stand program (globals unit names) (global_frames program) global_has globals_apart globals_named unit.externals found

  pub inits : EachOf (Holds program (globals unit names) (global_frames program) global_has globals_apart globals_named) (lowered unit).inits
  inits = inits_stand program (globals unit names) (global_frames program) global_has globals_apart globals_named unit.externals found

  -- no part of the lowered program has a fault
  pub no_fault : HasNoFault (lowered unit)
  no_fault = record {
    exports = λ name c.
        let of = mapped (frame_of program) (integers_of unit) name c in
        subst (λ (x : List ℕ). faults.ExportHasNoFault (global_frames program) x) of.2
        (each_member (Exported program (globals unit names) (global_frames program) global_has globals_apart globals_named) (integers_of unit) of.0 of.1 exports).0;
    labels = λ name c. no_member name c;
    decls_differ = apart_pairs DifferInName (global_frames program) globals_apart;
    inits = λ init c. (each_member (Holds program (globals unit names) (global_frames program) global_has globals_apart globals_named) (lowered unit).inits init c inits).0;
    funcs_differ = apart_pairs (λ (f g : alf.Function). f.name ≢ g.name) (lowered unit).funcs funcs_apart;
    funcs = λ k func there.
        let of = func_of k func there in
        subst (λ (g : alf.Function). FunctionHasNoFault (lowered unit) k g) of.is (function_faultless k of.function of.at);
  }
