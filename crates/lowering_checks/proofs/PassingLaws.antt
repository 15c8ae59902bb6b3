-- The lowered program of a unit can be written, and passes the checks.
--   can_be_written     it can be written
--   calls_are_ranked   its calls lead from higher ranks to lower ones
--   root_stands        there is a function with the root's name
use Rattle.std.proofs.Common.{◌≡◌, ◌<◌, ◌≤◌, ◌^◌, ◌+◌, ◌||◌, ℕ, zero, suc, Bool, true, false, List, [], ◌∷◌, map, flat_map, length, slice_get, slice_index, slice_index_or, Contains, All, IfSome, Option, None, Some, is_some, refl, sym, ap, ◌∙◌, subst, arith, bytes_eq, unwrap_or}
use Rattle.std.specs.Prelude.{IsSome}
use Rattle.std.specs.List.{list_any}
use Rattle.std.specs.Option.{option_map_or}
use Rattle.std.proofs.lemmas.Option.{none-some, same_Some, slice_get_within}
use Rattle.std.proofs.lemmas.Slice.Eq.{bytes_eq-Decides}
use Rattle.std.proofs.lemmas.List.Elements.{All-nil}
use Rattle.lists.specs.TestLaws.{by_test}
use Rattle.lists.specs.MemberLaws.{no_member, placed, first_or_further, all_members}
use Rattle.lists.specs.ImageLaws.{all_images, from_joined}
use Rattle.alf_program.specs.declared.program.Num.{Num}
use Rattle.alf_program.specs.Tree.{NamedExpression, Null, Store, Jump, Switch, Call, Return, BodyItem, Label, Do, Allocation}
use Rattle.alf_program.specs.Tree as alf
use Rattle.alf_program.specs.Writable.{IsName, ExpressionIsWritable, TargetIsWritable, ItemIsWritable, is_ending, ends_well, AllocationIsWritable, AddressIsWritable, InitialIsWritable, FunctionIsWritable, IsWritable}
use Rattle.alf_faults.specs.Places.{function_place}
use Rattle.alf_check.specs.Numbers.{func_number}
use Rattle.alf_check.specs.Checking.{called_by, calls_in}
use Rattle.graph_walks.specs.Calls.{IsRanked}
use Rattle.c_unit.specs.declared.types.Outcome.{Outcome}
use Rattle.c_unit.specs.declared.types.Outcome.TheVariants as outcomes
use Rattle.c_unit.specs.declared.external.Parameter.{Parameter}
use Rattle.c_unit.specs.Tree.{Statements, ExternalTree, Declaration, Definition}
use Rattle.c_unit.specs.Units.{Word, UnitTree}
use Rattle.c_rules.specs.Names.{text_at}
use Rattle.c_rules.specs.Recursion.{called_in, numbers_at, rows_of, calls_of}
use Rattle.c_rules.specs.Statements.{in_function}
use Rattle.c_rules.specs.Units.{File, definitions, external_after}
use Rattle.c_rules.specs.UnitsStand.{UnitStands}
use Rattle.c_rules.specs.Programs.{has_root}
use Rattle.c_meaning.specs.Objects.{Object, Function, Program, program_of, function_at, no_function, functions_in, objects_of, integers_of, parameter_object, all_locals_in, bits_of_scalar}
use Rattle.c_lowered.specs.Names.{function_name, frame_of}
use Rattle.c_lowered.specs.Statements.{labels_in_all, calls_in_all}
use Rattle.c_lowered.specs.Frames.{global_frames, parameter_frames, all_frames_in}
use Rattle.c_lowered.specs.Programs.{last_return, function_items, lowered_function, lowered_from, lowered}
use Rattle.lowering_layout.specs.Lists.{EachOf}
use Rattle.lowering_layout.specs.ListLaws.{each_at, each_member, each_when, each_both, each_all}
use Rattle.lowering_layout.specs.Spelled.{HasNames, HasFewCalls}
use Rattle.lowering_layout.specs.NameTextLaws.{function_is_name, label_is_name, call_is_name}
use Rattle.lowering_layout.specs.PartFrames.{IsObject, IsFrameOf, of_object, of_result}
use Rattle.lowering_layout.specs.Views.{globals, globals_part, all_objects}
use Rattle.lowering_checks.specs.Terms.{Term}
use Rattle.lowering_checks.proofs.StandingLaws.{called_numbers, IsLabel, TargetStands, ArgumentsFit, ResultStands, ReturnStands, ItemStands}
use Rattle.lowering_checks.specs.Functions.{IsMeasured}
use Rattle.lowering_checks.proofs.FunctionLaws.{object_name, view, block, sizes_small, items_stand}
use Rattle.lowering_checks.proofs.ReturnLaws.{ends_with, place_at}
use Rattle.lowering_checks.proofs.GlobalLaws.{Exported, Holds}
use Rattle.lowering_checks.proofs.FaultlessLaws.{func_at, func_of, funcs_apart, ending, few_labels, globals_named, global_has, globals_apart, exports, inits}
use Rattle.lowering_checks.proofs.SizeLaws.{IsFrameSize, all_sizes, parameters_sizes, globals_sizes}

-- ---- rows of calls

names_of_functions : (file : File) (xs : List ExternalTree)
    → definitions xs ≡ map (λ (g : Function). g.name) (functions_in file xs)
names_of_functions file [] = refl
names_of_functions file (Declaration first o ds ∷ xs) = names_of_functions (external_after file (Declaration first o ds)) xs
names_of_functions file (Definition first o name params body ∷ xs) = ap (λ (names : List ℕ). name ∷ names) (names_of_functions (external_after file (Definition first o name params body)) xs)

row_at : (words : List Word) (names : List ℕ) (file : File) (xs : List ExternalTree) (k : ℕ) (function : Function)
    → slice_get (functions_in file xs) k ≡ Some function
    → slice_index_or (rows_of words names xs) k [] ≡ numbers_at words names (called_in function.body)
row_at words names file [] k function at = absurd (none-some function at)
row_at words names file (Declaration first o ds ∷ xs) k function at = row_at words names (external_after file (Declaration first o ds)) xs k function at
row_at words names file (Definition first o name params body ∷ xs) zero function at = ap (λ (g : Function). numbers_at words names (called_in g.body)) (same_Some _ function at)
row_at words names file (Definition first o name params body ∷ xs) (suc k) function at = row_at words names (external_after file (Definition first o name params body)) xs k function at

rows_count : (words : List Word) (names : List ℕ) (file : File) (xs : List ExternalTree)
    → length (rows_of words names xs) ≡ length (functions_in file xs)
rows_count words names file [] = refl
rows_count words names file (Declaration first o ds ∷ xs) = rows_count words names (external_after file (Declaration first o ds)) xs
rows_count words names file (Definition first o name params body ∷ xs) = ap suc (rows_count words names (external_after file (Definition first o name params body)) xs)

-- a row of images is the image of what stands there
pub record IsRow {A : Type 0} (row : A → List ℕ) (xs : List A) (k v : ℕ) : Type 0 where
  pub x : A
  pub at : slice_get xs k ≡ Some x
  pub among : Contains (row x) v

row_of : {A : Type 0} (row : A → List ℕ) (xs : List A) (k v : ℕ) → Contains (slice_index_or (map row xs) k []) v
    → IsRow row xs k v
row_of row [] k v c = no_member v c
row_of row (x ∷ xs) zero v c = record { x = x; at = refl; among = c }
row_of row (x ∷ xs) (suc k) v c = let rest = row_of row xs k v c in record { x = rest.x; at = rest.at; among = rest.among }

images_count : {A B : Type 0} (f : A → B) (xs : List A) → length (map f xs) ≡ length xs
images_count f [] = refl
images_count f (x ∷ xs) = ap suc (images_count f xs)

lowered_count : (program : Program) (j : ℕ) (fs : List Function) → length (lowered_from program j fs) ≡ length fs
lowered_count program j [] = refl
lowered_count program j (f ∷ fs) = ap suc (lowered_count program (suc j) fs)

-- a function with the root's name
pub record IsRoot (words : List Word) (fs : List Function) (root : List ℕ) : Type 0 where
  pub number : ℕ
  pub function : Function
  pub at : slice_get fs number ≡ Some function
  pub named : text_at words function.name ≡ root

root_found : (words : List Word) (file : File) (xs : List ExternalTree) (root : List ℕ)
    → list_any (λ name. bytes_eq (text_at words name) root) (definitions xs) ≡ true
    → IsRoot words (functions_in file xs) root
root_found words file [] root some = absurd (let bad : false ≡ true = some in cc)
root_found words file (Declaration first o ds ∷ xs) root some = root_found words (external_after file (Declaration first o ds)) xs root some
root_found words file (Definition first o name params body ∷ xs) root some =
    by_test (bytes_eq (text_at words name) root)
    (λ here. record { number = 0; function = _; at = refl; named = (bytes_eq-Decides (text_at words name) root).0 here })
    (λ further.
    let rest = root_found words (external_after file (Definition first o name params body)) xs root (sym (ap (λ (b : Bool). b || list_any (λ name. bytes_eq (text_at words name) root) (definitions xs)) further) ∙ some) in
    record { number = suc rest.number; function = rest.function; at = rest.at; named = rest.named })

module _ (unit : UnitTree) (names : HasNames (program_of unit)) (stands : UnitStands unit) (measured : IsMeasured unit names) where
  abbrev program : Program
  program = program_of unit

  -- ---- frames

  frame_is_name : (f lo hi : ℕ) (os : List Object) (a : Allocation) → hi ≤ 256 → IsFrameOf program f lo hi os a
      → IsName a.name
  frame_is_name f lo hi os a most (of_object o c is name bits) = subst IsName (sym name) (object_name unit names stands measured o is)
  frame_is_name f lo hi os a most (of_result k from to function few name) = subst IsName (sym name) (call_is_name program names f k function (omega (arith, to, most)))

  frames_written : (f lo hi : ℕ) (os : List Object) (frames : List Allocation) → hi ≤ 256
      → EachOf (IsFrameOf program f lo hi os) frames → EachOf (λ (a : Allocation). IsFrameSize a.bits) frames
      → All AllocationIsWritable frames
  frames_written f lo hi os frames most known sized =
      each_all AllocationIsWritable frames
      (each_when (λ (a : Allocation). IsFrameOf program f lo hi os a × IsFrameSize a.bits) AllocationIsWritable frames
      (λ a h. record { name = frame_is_name f lo hi os a most h.0; some = h.1.some; bytes = h.1.bytes; small = h.1.small })
      (each_both (IsFrameOf program f lo hi os) (λ (a : Allocation). IsFrameSize a.bits) frames known sized))

  global_sizes : EachOf (λ (a : Allocation). IsFrameSize a.bits) (global_frames program)
  global_sizes =
      let small : EachOf (λ (o : Object). o.bits ≤ 262144) (globals unit names) = each_when (IsObject program) (λ (o : Object). o.bits ≤ 262144) (globals unit names) (λ o is. each_at (λ (o : Object). o.bits ≤ 262144) (objects_of unit) is.0 o is.1 measured.small) (all_objects unit names).0 in
      let sized = globals_sizes program (definitions unit.externals) 0 (record { scope = []; made = [] }) unit.externals stands small in
      each_when (IsFrameOf program 0 0 0 (globals unit names)) (λ (a : Allocation). IsFrameSize a.bits) (global_frames program) (λ a is. size_of sized a is) (globals_part unit names 0).known
    where
      size_of : EachOf (λ (o : Object). IsFrameSize o.bits) (globals unit names) → (a : Allocation)
          → IsFrameOf program 0 0 0 (globals unit names) a → IsFrameSize a.bits
      size_of sized a (of_object o c is name bits) = subst IsFrameSize (sym bits) (each_member (λ (o : Object). IsFrameSize o.bits) (globals unit names) o c sized)
      size_of sized a (of_result k from to function few name) = absurd (omega (arith, to))

  -- ---- items

  module _ (k : ℕ) (function : Function) (at : slice_get program.functions k ≡ Some function) where
    abbrev func : alf.Function
    func = lowered_function program k function

    abbrev many : ℕ
    many = labels_in_all function.body

    label_written : (name : List ℕ) → IsLabel (lowered unit) func program k many name → IsName name
    label_written name own =
        let few = few_labels unit names stands measured k function at in
        subst IsName (sym own.is) (label_is_name program names k own.number (slice_get_within program.functions k function at) (let low = own.low in omega (arith, few, low)))

    term_written : (s : ℕ) (e : NamedExpression) → Term (lowered unit) func s 64 e → ExpressionIsWritable e
    term_written s e term = record { parts = term.parts; depth = term.depth }

    args_written : (args : List NamedExpression) (params : List Parameter)
        → ArgumentsFit (lowered unit) func program k many args params → EachOf ExpressionIsWritable args
    args_written [] [] fit = tt
    args_written [] (p ∷ ps) fit = absurd fit
    args_written (e ∷ es) [] fit = absurd fit
    args_written (e ∷ es) (p ∷ ps) fit = (term_written (bits_of_scalar p.kind) e fit.0, args_written es ps fit.1)

    result_written : (o : Outcome) (result : Option (List ℕ × ℕ))
        → ResultStands (lowered unit) func program k many o result → IfSome result AddressIsWritable
    result_written outcomes.Nothing None stand = tt
    result_written outcomes.Nothing (Some to) stand = absurd stand
    result_written (outcomes.Integer i) None stand = absurd stand
    result_written (outcomes.Integer i) (Some to) stand = record { name = stand.0.written; offset = subst (λ (n : ℕ). n < 2 ^ 32) (sym stand.1) (omega arith) }

    return_written : (o : Outcome) (value : Option NamedExpression)
        → ReturnStands (lowered unit) func program k many o value → IfSome value ExpressionIsWritable
    return_written outcomes.Nothing None stand = tt
    return_written outcomes.Nothing (Some e) stand = absurd stand
    return_written (outcomes.Integer i) None stand = absurd stand
    return_written (outcomes.Integer i) (Some e) stand = term_written _ e stand

    target_written : (size : ℕ) (target : Num × List ℕ) → 1 ≤ size → size ≤ 64
        → TargetStands (lowered unit) func program k many size target → TargetIsWritable target
    target_written size target some small stand = record {
      num = record { some = (let same = stand.same in omega (arith, same, some)); small = (let same = stand.same in omega (arith, same, small)); fits = subst (λ (n : ℕ). target.0.bits < 2 ^ n) (sym stand.same) stand.low };
      label = label_written target.1 stand.leads;
    }

    item_written : (item : BodyItem) → ItemStands (lowered unit) func program k many item → ItemIsWritable item
    item_written (Label label) stand = label_written label stand
    item_written (Do Null) stand = tt
    item_written (Do (Store to value)) stand = (term_written 32 to stand.at_term, term_written stand.bits value stand.value_term)
    item_written (Do (Jump label)) stand = label_written label stand
    item_written (Do (Switch value targets others)) stand = (
      term_written stand.size value stand.value_term,
      each_all TargetIsWritable targets (each_when (TargetStands (lowered unit) func program k many stand.size) TargetIsWritable targets (λ t is. target_written stand.size t stand.some stand.small is) stand.each),
      label_written others stand.leads_else,
    )
    item_written (Do (Call label args result)) stand = (
      subst IsName (sym stand.named) (function_is_name program names stand.callee (slice_get_within program.functions stand.callee stand.function stand.at)),
      each_all ExpressionIsWritable args (args_written args stand.function.parameters stand.fit),
      result_written stand.function.result result stand.gives,
    )
    item_written (Do (Return value)) stand = return_written (function_at program k).result value stand

    last_ends : (o : Outcome) → is_ending (last_return o) ≡ true
    last_ends outcomes.Nothing = refl
    last_ends (outcomes.Integer i) = refl

    pub function_written : FunctionIsWritable func
    function_written =
        let seen = view unit names stands measured k function at in
        let end = ending unit names stands measured k function at in
        let calls : calls_in_all program function.body ≤ 256 = each_at (HasFewCalls program) program.functions k function at names.few_calls in
        record {
          name = function_is_name program names k (slice_get_within program.functions k function at);
          args = frames_written k 0 0 (map (parameter_object k) function.parameters) (parameter_frames program function.parameters) (omega arith) seen.args.known (parameters_sizes program (definitions unit.externals) k function.parameters);
          decls = frames_written k 0 (0 + calls_in_all program function.body) (all_locals_in unit.words k function.body) (all_frames_in program k 0 function.body) (omega (arith, calls)) seen.decls.known
              (all_sizes program (definitions unit.externals) k (in_function function.result) function.scopes function.body 0 (block unit names stands measured k function at).body (sizes_small unit names stands measured k function at));
          inits = All-nil InitialIsWritable;
          items = each_all ItemIsWritable (function_items program k function)
              (each_when (ItemStands (lowered unit) func program k many) ItemIsWritable (function_items program k function) item_written (items_stand unit names stands measured k function at));
          ends = subst (λ (xs : List BodyItem). ends_well xs ≡ true) end.so (ends_with end.before (last_return function.result) (last_ends function.result));
        }

  -- ---- the whole program

  pub can_be_written : IsWritable (lowered unit)
  can_be_written = record {
    exports = all_images IsName (frame_of program) (integers_of unit)
        (λ token c. (each_member (Exported program (globals unit names) (global_frames program) (global_has unit names stands measured) (globals_apart unit names stands measured) (globals_named unit names stands measured)) (integers_of unit) token c (exports unit names stands measured)).1);
    labels = All-nil IsName;
    decls = frames_written 0 0 0 (globals unit names) (global_frames program) (omega arith) (globals_part unit names 0).known global_sizes;
    inits = all_members InitialIsWritable (lowered unit).inits
        (λ init c. (each_member (Holds program (globals unit names) (global_frames program) (global_has unit names stands measured) (globals_apart unit names stands measured) (globals_named unit names stands measured)) (lowered unit).inits init c (inits unit names stands measured)).1);
    funcs = all_members FunctionIsWritable (lowered unit).funcs
        (λ func c. let of = func_of unit names stands measured c.0 func (placed (lowered unit).funcs func c) in subst FunctionIsWritable of.is (function_written c.0 of.function of.at));
    few_functions = (let count = lowered_count program 0 program.functions in let few = measured.few_functions in omega (arith, count, few));
    few_frames = measured.few_frames;
    few_bytes = measured.few_bytes;
  }

  -- ---- calls

  called_is : (k v : ℕ) (function : Function) (at : slice_get program.functions k ≡ Some function) (item : BodyItem)
      → ItemStands (lowered unit) (lowered_function program k function) program k (labels_in_all function.body) item
      → Contains (called_by (lowered unit).funcs item) v
      → Contains (called_numbers program k) v
  called_is k v function at (Label label) stand c = no_member v c
  called_is k v function at (Do Null) stand c = no_member v c
  called_is k v function at (Do (Store to value)) stand c = no_member v c
  called_is k v function at (Do (Jump label)) stand c = no_member v c
  called_is k v function at (Do (Switch value targets others)) stand c = no_member v c
  called_is k v function at (Do (Return value)) stand c = no_member v c
  called_is k v function at (Do (Call label args result)) stand c =
      let place : function_place (lowered unit).funcs label ≡ Some stand.callee =
      subst (λ (x : List ℕ). function_place (lowered unit).funcs x ≡ Some stand.callee) (sym stand.named)
      (place_at (lowered unit).funcs stand.callee (lowered_function program stand.callee stand.function) (funcs_apart unit names stands measured) (func_at unit names stands measured stand.callee stand.function stand.at))
      in
      let number : func_number (lowered unit).funcs label ≡ stand.callee = ap (λ (x : Option ℕ). unwrap_or x 0) place in
      first_or_further (func_number (lowered unit).funcs label) [] v c (λ same. subst (λ (n : ℕ). Contains (called_numbers program k) n) (sym number ∙ same) stand.among) (λ rest. no_member v rest)

  edge_is : (u v : ℕ) → Contains (slice_index_or (calls_in (lowered unit)) u []) v
      → Contains (slice_index_or (calls_of unit) u []) v
  edge_is u v c =
      let row = row_of (λ (g : alf.Function). flat_map (called_by (lowered unit).funcs) g.items) (lowered unit).funcs u v c in
      let of = func_of unit names stands measured u row.x row.at in
      let there : Contains (flat_map (called_by (lowered unit).funcs) (function_items program u of.function)) v = subst (λ (g : alf.Function). Contains (flat_map (called_by (lowered unit).funcs) g.items) v) (sym of.is) row.among in
      let item = from_joined (called_by (lowered unit).funcs) (function_items program u of.function) v there in
      let called = called_is u v of.function of.at item.0 (each_member (ItemStands (lowered unit) (lowered_function program u of.function) program u (labels_in_all of.function.body)) (function_items program u of.function) item.0 item.1 (items_stand unit names stands measured u of.function of.at)) item.2 in
      let same_body : (function_at program u).body ≡ of.function.body = ap (λ (x : Option Function). (option_map_or (λ function. function) x no_function).body) of.at in
      let same_names = names_of_functions (record { scope = []; made = [] }) unit.externals in
      let numbers : called_numbers program u ≡ numbers_at unit.words (definitions unit.externals) (called_in of.function.body) =
      ap (λ (ns : List ℕ). numbers_at unit.words ns (called_in (function_at program u).body)) (sym same_names) ∙ ap (λ (body : Statements). numbers_at unit.words (definitions unit.externals) (called_in body)) same_body
      in
      subst (λ (ns : List ℕ). Contains ns v) (numbers ∙ sym (row_at unit.words (definitions unit.externals) (record { scope = []; made = [] }) unit.externals u of.function of.at)) called

  pub calls_are_ranked : (ranks : List ℕ) → IsRanked (calls_of unit) ranks → IsRanked (calls_in (lowered unit)) ranks
  calls_are_ranked ranks ranked =
      let count : length (calls_in (lowered unit)) ≡ length (calls_of unit) =
      images_count (λ (g : alf.Function). flat_map (called_by (lowered unit).funcs) g.items) (lowered unit).funcs ∙ lowered_count program 0 program.functions ∙ sym (rows_count unit.words (definitions unit.externals) (record { scope = []; made = [] }) unit.externals)
      in
      record {
        one_each = ranked.one_each ∙ sym count;
        within = λ f low. subst (λ (n : ℕ). slice_index ranks f < n) (sym count) (ranked.within f (subst (λ (n : ℕ). f < n) count low));
        falls = λ f g call. ranked.falls f g (edge_is f g call);
      }

  pub root_stands : (root : List ℕ) → has_root unit root ≡ true → IsSome (function_place (lowered unit).funcs root)
  root_stands root some =
      let found = root_found unit.words (record { scope = []; made = [] }) unit.externals root some in
      let named : function_name program found.number ≡ root = ap (λ (x : Option Function). text_at unit.words (option_map_or (λ function. function) x no_function).name) found.at ∙ found.named in
      let place = place_at (lowered unit).funcs found.number (lowered_function program found.number found.function) (funcs_apart unit names stands measured) (func_at unit names stands measured found.number found.function found.at) in
      ap is_some (subst (λ (x : List ℕ). function_place (lowered unit).funcs x ≡ Some found.number) named place)
