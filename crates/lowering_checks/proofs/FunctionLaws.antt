-- Laws of functions.
--   FunctionStands words globals defined function   its block stands in the parameters and what the file has declared before it
--   functions_stand         so does each function of a unit
--   IsGlobalToken   an entry of an object is a global's
--   IsFound         a function of the name is found where one is defined
use Rattle.std.proofs.Common.{◌≡◌, ◌<◌, ◌≤◌, ◌+◌, ◌||◌, ℕ, suc, Bool, true, false, List, [], ◌∷◌, map, length, slice_get, Contains, Option, None, Some, refl, sym, ap, ◌∙◌, subst, arith, bytes_eq, if◌then◌else◌, inl, inr}
use Rattle.std.specs.Option.{option_map_or}
use Rattle.std.proofs.lemmas.Option.{none-some, slice_get_within}
use Rattle.std.proofs.lemmas.Slice.Eq.{bytes_eq-Decides}
use Rattle.lists.specs.MemberLaws.{contained}
use Rattle.alf_program.specs.Tree as alf
use Rattle.alf_program.specs.Writable.{IsName}
use Rattle.c_unit.specs.declared.types.Outcome.{Outcome}
use Rattle.c_unit.specs.declared.types.Outcome.TheVariants as outcomes
use Rattle.c_unit.specs.declared.external.Parameter.{Parameter}
use Rattle.c_unit.specs.Tree.{ShapeTree, GlobalInteger, GlobalArray, FunctionOf, DeclaratorTree, ExternalTree, Declaration, Definition, statements_of}
use Rattle.c_unit.specs.Units.{Word, UnitTree}
use Rattle.c_rules.specs.Names.{Entry, Scope, text_at}
use Rattle.c_rules.specs.Calls.{is_defined}
use Rattle.c_rules.specs.Recursion.{called_in}
use Rattle.c_rules.specs.Statements.{in_function}
use Rattle.c_rules.specs.Standing.{StatementsStand}
use Rattle.c_rules.specs.Units.{File, definitions, element_of, global_bound, with_global, with_declarators, with_parameter, with_parameters, external_after}
use Rattle.c_rules.specs.UnitsStand.{ExternalsStand, UnitStands}
use Rattle.c_meaning.specs.Objects.{Object, Function, Program, program_of, function_at, no_function, parameter_object, token_of_parameter, all_locals_in, global_object, globals_declared, globals_in, objects_of, functions_in, functions_of}
use Rattle.c_meaning.specs.Statements.{number_named}
use Rattle.c_lowered.specs.Names.{frame_of}
use Rattle.c_lowered.specs.Statements.{labels_in_all, calls_in_all}
use Rattle.c_lowered.specs.Frames.{global_frames}
use Rattle.c_lowered.specs.Values.{whole, cut}
use Rattle.c_lowered.specs.Programs.{last_return, nowhere, function_items, lowered_function, lowered}
use Rattle.c_rules.specs.SpelledExpressions.{InStatements}
use Rattle.lowering_layout.specs.Declared.{EachEntry, EachScope, EntryAgrees}
use Rattle.lowering_layout.specs.DeclaredLaws.{found_entry, entries_agree}
use Rattle.lowering_layout.specs.Lists.{EachOf}
use Rattle.lowering_layout.specs.ListLaws.{each_when, each_both, each_parts, each_member, each_at}
use Rattle.lowering_layout.specs.Spelled.{HasNames, HasFewCalls}
use Rattle.lowering_layout.specs.PlaceLaws.{frame_at, each_of_places}
use Rattle.lowering_layout.specs.NameTextLaws.{object_is_name, call_is_name}
use Rattle.lowering_layout.specs.PartFrames.{IsObject, HasFrame}
use Rattle.lowering_layout.specs.Views.{View, globals, own_objects, all_objects}
use Rattle.lowering_layout.specs.ViewLaws.{each_own, view_of}
use Rattle.lowering_checks.specs.Terms.{IsUsable}
use Rattle.lowering_checks.proofs.OperatorLaws.{whole_term, cut_term}
use Rattle.lowering_checks.proofs.TermLaws.{deeper}
use Rattle.lowering_checks.specs.Values.{ScopesUsable}
use Rattle.lowering_checks.specs.Values as values
use Rattle.lowering_checks.proofs.StandingLaws.{ItemStands}
use Rattle.lowering_checks.proofs.StandingLaws as standing_laws
use Rattle.lowering_checks.specs.Effects.{Shallow}
use Rattle.lowering_checks.proofs.EffectLaws.{ResultsUsable, ScopesCall, IsAsked}
use Rattle.lowering_checks.proofs.DeclarationLaws.{IsLocal}
use Rattle.lowering_checks.proofs.StatementLaws.{all_items_stand}
use Rattle.lowering_checks.specs.Functions.{IsMeasured}

either_true : {A : Type 0} (a b : Bool) → (a || b) ≡ true → (a ≡ true → A) → (a ≡ false → b ≡ true → A) → A
either_true true b e f g = f refl
either_true false b e f g = g refl e

-- ---- where blocks stand

module _ (words : List Word) (globals : List Object) (defined : List ℕ) where
  -- an entry of an object is a global's
  pub record IsGlobalToken (token : ℕ) : Type 0 where
    pub o : Object
    pub among : Contains globals o
    pub is : o.token ≡ token

  abbrev pub EntryIsGlobal : Entry → Type 0
  EntryIsGlobal e = values.IsObject e.bound → IsGlobalToken e.token

  pub record FunctionStands (function : Function) : Type 0 where
    pub scope : Scope
    pub scopes : function.scopes ≡ with_parameters [] function.parameters ∷ scope ∷ []
    pub entries : EachEntry EntryIsGlobal scope
    pub body : StatementsStand words defined (in_function function.result) function.scopes function.body

  entry_is_global : (o : Outcome) (name : ℕ) (shape : ShapeTree)
      → EachOf (Contains globals) (global_object words (element_of o) name shape)
      → EntryIsGlobal (record { token = name; bound = global_bound o shape })
  entry_is_global o name (GlobalInteger first) among is = record { o = _; among = among.0; is = refl }
  entry_is_global o name (GlobalArray size firsts) among is = record { o = _; among = among.0; is = refl }
  entry_is_global o name (FunctionOf params) among is = absurd (none-some is.0 is.1)

  declarators_entries : (o : Outcome) (file : File) (ds : List DeclaratorTree)
      → EachOf (Contains globals) (globals_declared words (element_of o) ds) → EachEntry EntryIsGlobal file.scope
      → EachEntry EntryIsGlobal (with_declarators o file ds).scope
  declarators_entries o file [] among entries = entries
  declarators_entries o file (d ∷ ds) among entries =
      let parts = each_parts (Contains globals) (global_object words (element_of o) d.name d.shape) (globals_declared words (element_of o) ds) among in
      declarators_entries o (with_global file d.name (global_bound o d.shape)) ds parts.1 (entry_is_global o d.name d.shape parts.0, entries)

  pub functions_stand : (file : File) (xs : List ExternalTree) → ExternalsStand words defined file xs
      → EachEntry EntryIsGlobal file.scope → EachOf (Contains globals) (globals_in words xs)
      → EachOf FunctionStands (functions_in file xs)
  functions_stand file [] stands entries among = tt
  functions_stand file (Declaration first o ds ∷ xs) stands entries among =
      let parts = each_parts (Contains globals) (globals_declared words (element_of o) ds) (globals_in words xs) among in
      functions_stand (external_after file (Declaration first o ds)) xs stands.1 (declarators_entries o file ds parts.0 entries) parts.1
  functions_stand file (Definition first o name params body ∷ xs) stands entries among =
      let further = external_after file (Definition first o name params body) in
      let later : EachEntry EntryIsGlobal further.scope = (λ is. absurd (none-some is.0 is.1), entries) in
      (record { scope = further.scope; scopes = refl; entries = later; body = stands.0.body_stands }, functions_stand further xs stands.1 later among)

-- ---- functions that are defined

-- a function of the name is found where one is defined
pub record IsFound (words : List Word) (fs : List Function) (token : ℕ) : Type 0 where
  pub function : Function
  pub at : slice_get fs (number_named words fs (text_at words token)) ≡ Some function
  pub named : text_at words function.name ≡ text_at words token

found_further : (words : List Word) (f : Function) (fs : List Function) (token : ℕ)
    → bytes_eq (text_at words f.name) (text_at words token) ≡ false → IsFound words fs token
    → IsFound words (f ∷ fs) token
found_further words f fs token other found =
    let number : number_named words (f ∷ fs) (text_at words token) ≡ suc (number_named words fs (text_at words token)) =
    ap (λ (b : Bool). if b then 0 else number_named words fs (text_at words token) + 1) other ∙ (omega arith)
    in
    record { function = found.function; at = ap (λ (k : ℕ). slice_get (f ∷ fs) k) number ∙ found.at; named = found.named }

pub defined_found : (words : List Word) (file : File) (xs : List ExternalTree) (token : ℕ)
    → is_defined words (definitions xs) token ≡ true → IsFound words (functions_in file xs) token
defined_found words file [] token made = absurd (let bad : false ≡ true = made in cc)
defined_found words file (Declaration first o ds ∷ xs) token made = defined_found words (external_after file (Declaration first o ds)) xs token made
defined_found words file (Definition first o name params body ∷ xs) token made =
    let further = external_after file (Definition first o name params body) in
    let f : Function = record { name = name; result = o; parameters = params; scopes = with_parameters [] params ∷ further.scope ∷ []; body = statements_of body } in
    either_true (bytes_eq (text_at words name) (text_at words token)) (is_defined words (definitions xs) token) made
    (λ same. record {
      function = f;
      at = ap (λ (k : ℕ). slice_get (f ∷ functions_in further xs) k) (ap (λ (b : Bool). if b then 0 else number_named words (functions_in further xs) (text_at words token) + 1) same);
      named = (bytes_eq-Decides (text_at words name) (text_at words token)).0 same;
    })
    (λ other rest. found_further words f (functions_in further xs) token other (defined_found words further xs token rest))

-- ---- one function

module _ (unit : UnitTree) (names : HasNames (program_of unit)) (stands : UnitStands unit) (measured : IsMeasured unit names) where
  abbrev pub program : Program
  program = program_of unit

  abbrev pub defined : List ℕ
  defined = definitions unit.externals

  pub object_name : (o : Object) → IsObject program o → IsName (frame_of program o.token)
  object_name o is = subst IsName (sym (frame_at program names is.0 o is.1)) (object_is_name program names is.0 o is.1)

  module _ (k : ℕ) (function : Function) (at : slice_get (functions_of unit) k ≡ Some function) where
    abbrev pub func : alf.Function
    func = lowered_function program k function

    pub view : View program (globals unit names) k function
    view = view_of unit names k function at

    pub low : k < length program.functions
    low = slice_get_within program.functions k function at

    global_usable : (o : Object) → Contains (globals unit names) o
        → IsUsable (lowered unit) func (frame_of program o.token)
    global_usable o among =
        let has = each_member (HasFrame program (global_frames program)) (globals unit names) o among view.globals_part.objects_have in
        record { seen = inl (has.frame, has.among, has.name); written = object_name o (each_member (IsObject program) (globals unit names) o among (all_objects unit names).0) }

    pub own_are : EachOf (IsObject program) (own_objects unit.words k function)
    own_are = subst (λ (n : ℕ). EachOf (IsObject program) (own_objects unit.words n function)) (let same : 0 + k ≡ k = omega arith in same) (each_own (IsObject program) unit.words 0 program.functions k function at (all_objects unit names).1)

    params_usable : EachOf (λ (o : Object). IsUsable (lowered unit) func (frame_of program o.token)) (map (parameter_object k) function.parameters)
    params_usable =
        each_when (λ (o : Object). HasFrame program _ o × IsObject program o) (λ (o : Object). IsUsable (lowered unit) func (frame_of program o.token)) (map (parameter_object k) function.parameters)
        (λ o h. record { seen = inr (inl (h.0.frame, h.0.among, h.0.name)); written = object_name o h.1 })
        (each_both (HasFrame program _) (IsObject program) (map (parameter_object k) function.parameters) view.args.objects_have
        (each_parts (IsObject program) (map (parameter_object k) function.parameters) (all_locals_in unit.words k function.body) own_are).0)

    pub sizes_small : EachOf (λ (o : Object). o.bits ≤ 262144) (all_locals_in unit.words k function.body)
    sizes_small =
        let all : EachOf (λ (o : Object). o.bits ≤ 262144) (own_objects unit.words k function) =
        each_when (IsObject program) (λ (o : Object). o.bits ≤ 262144) (own_objects unit.words k function) (λ o is. each_at (λ (o : Object). o.bits ≤ 262144) (objects_of unit) is.0 o is.1 measured.small) own_are
        in
        (each_parts (λ (o : Object). o.bits ≤ 262144) (map (parameter_object k) function.parameters) (all_locals_in unit.words k function.body) all).1

    abbrev pub few : ℕ
    few = calls_in_all program function.body

    abbrev pub many : ℕ
    many = labels_in_all function.body

    locals_local : EachOf (IsLocal (lowered unit) func program defined k many few) (all_locals_in unit.words k function.body)
    locals_local =
        each_when (λ (o : Object). (HasFrame program _ o × IsObject program o) × (o.bits ≤ 262144)) (IsLocal (lowered unit) func program defined k many few) (all_locals_in unit.words k function.body)
        (λ o h. record { usable = record { seen = inr (inr (h.0.0.frame, h.0.0.among, h.0.0.name)); written = object_name o h.0.1 }; small = h.1 })
        (each_both (λ (o : Object). HasFrame program _ o × IsObject program o) (λ (o : Object). o.bits ≤ 262144) (all_locals_in unit.words k function.body)
        (each_both (HasFrame program _) (IsObject program) (all_locals_in unit.words k function.body) view.decls.objects_have
        (each_parts (IsObject program) (map (parameter_object k) function.parameters) (all_locals_in unit.words k function.body) own_are).1) sizes_small)

    results_usable : ResultsUsable (lowered unit) func program defined k many few
    results_usable n small =
        let has = view.decls.results_have n (omega arith) (omega (arith, small)) in
        let calls : calls_in_all program function.body ≤ 256 = each_at (HasFewCalls program) program.functions k function at names.few_calls in
        record { seen = inr (inr (has.frame, has.among, has.name)); written = call_is_name program names k n low (omega (arith, small, calls)) }

    -- ---- scopes

    abbrev pub EntryUsable : Entry → Type 0
    EntryUsable e = values.IsObject e.bound → IsUsable (lowered unit) func (frame_of program e.token)

    parameter_entry : (scope : Scope) (p : Parameter) (name : Option ℕ) → p.name ≡ name
        → IsUsable (lowered unit) func (frame_of program (token_of_parameter p)) → EachEntry EntryUsable scope
        → EachEntry EntryUsable (with_parameter scope name p.kind)
    parameter_entry scope p None is usable entries = entries
    parameter_entry scope p (Some token) is usable entries =
        (λ object. subst (λ (x : Option ℕ). IsUsable (lowered unit) func (frame_of program (option_map_or (λ name. name) x p.first))) is usable, entries)

    parameters_entries : (scope : Scope) (ps : List Parameter)
        → EachOf (λ (o : Object). IsUsable (lowered unit) func (frame_of program o.token)) (map (parameter_object k) ps)
        → EachEntry EntryUsable scope → EachEntry EntryUsable (with_parameters scope ps)
    parameters_entries scope [] usable entries = entries
    parameters_entries scope (p ∷ ps) usable entries = parameters_entries (with_parameter scope p.name p.kind) ps usable.1 (parameter_entry scope p p.name refl usable.0 entries)

    globals_entries : (scope : Scope) → EachEntry (EntryIsGlobal unit.words (globals unit names) defined) scope
        → EachEntry EntryUsable scope
    globals_entries [] entries = tt
    globals_entries (e ∷ es) entries =
        (λ object. let g = entries.0 object in subst (λ (token : ℕ). IsUsable (lowered unit) func (frame_of program token)) g.is (global_usable g.o g.among), globals_entries es entries.1)

    all_globals : EachOf (Contains (globals unit names)) (globals_in unit.words unit.externals)
    all_globals = each_of_places (Contains (globals unit names)) (globals unit names) (λ i o here. contained (globals unit names) i o here)

    pub block : FunctionStands unit.words (globals unit names) defined function
    block = each_at (FunctionStands unit.words (globals unit names) defined) program.functions k function at (functions_stand unit.words (globals unit names) defined (record { scope = []; made = [] }) unit.externals stands tt all_globals)

    scopes_usable : ScopesUsable (lowered unit) func program function.scopes
    scopes_usable token entry found object =
        let each : EachScope EntryUsable function.scopes =
        subst (λ (scopes : List Scope). EachScope EntryUsable scopes) (sym block.scopes) (parameters_entries [] function.parameters params_usable tt, (globals_entries block.scope block.entries, tt))
        in
        (found_entry EntryUsable unit.words function.scopes token entry each found).0 object

    scopes_call : ScopesCall (lowered unit) func program defined k many few function.scopes
    scopes_call token entry o ps found is made =
        let seen = found_entry (EntryAgrees unit) unit.words function.scopes token entry (entries_agree unit stands k function at) found in
        let callee = defined_found unit.words (record { scope = []; made = [] }) unit.externals token made in
        let number = number_named unit.words program.functions (text_at unit.words token) in
        let agrees = seen.0 o ps is number callee.function callee.at (callee.named ∙ sym seen.1) in
        record {
          function = callee.function;
          at = callee.at;
          named = sym callee.named ∙ sym (ap (λ (x : Option Function). text_at unit.words (option_map_or (λ function. function) x no_function).name) callee.at);
          result = agrees.0;
          takes = agrees.1;
        }

    pub same_function : function_at program k ≡ function
    same_function = ap (λ (x : Option Function). option_map_or (λ function. function) x no_function) at

    asks : EachOf (IsAsked (lowered unit) func program defined k many few) (called_in function.body)
    asks =
        subst (λ (g : Function). EachOf (λ (token : ℕ). Contains (called_in g.body) token) (called_in function.body)) (sym same_function)
        (each_of_places (λ (token : ℕ). Contains (called_in function.body) token) (called_in function.body) (λ i token here. contained (called_in function.body) i token here))

    -- ---- items

    last_stands : (o : Outcome) → (function_at program k).result ≡ o
        → ItemStands (lowered unit) func program k many (last_return o)
    last_stands outcomes.Nothing is = subst (λ (r : Outcome). standing_laws.ReturnStands (lowered unit) func program k many r None) (sym is) tt
    last_stands (outcomes.Integer i) is =
        subst (λ (r : Outcome). standing_laws.ReturnStands (lowered unit) func program k many r (Some (cut i (whole 0)))) (sym is) (deeper (lowered unit) func _ 2 64 _ (omega arith) (cut_term (lowered unit) func i 1 _ (whole_term (lowered unit) func 0 1 (omega arith) (omega arith))))

    pub items_stand : EachOf (ItemStands (lowered unit) func program k many) (function_items program k function)
    items_stand =
        let result : (function_at program k).result ≡ function.result = ap (λ (g : Function). g.result) same_function in
        all_items_stand (lowered unit) func program defined k many few results_usable (in_function function.result) function.scopes function.body 0 0 nowhere (last_return function.result ∷ [])
        block.body (each_at (λ (g : Function). InStatements Shallow Shallow g.body) program.functions k function at measured.shallow) (scopes_usable, scopes_call) locals_local asks (omega arith) (omega arith)
        (record { break = λ bad. absurd (let f : false ≡ true = bad in cc); continue = λ bad. absurd (let f : false ≡ true = bad in cc); result = sym result })
        (last_stands function.result result, tt)
