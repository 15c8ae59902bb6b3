-- Laws of declared.
--   entries_agree            so it is with each entry that a function's block sees
--   named_entry   what is found is an entry, under the same text
use Rattle.std.proofs.Common.{◌≡◌, ℕ, zero, suc, Bool, true, false, ◌&&◌, List, [], ◌∷◌, slice_get, Option, Some, None, if◌then◌else◌, bytes_eq, eqb-true, ◌==◌, refl, sym, ap, ap₂, ◌∙◌, subst}
use Rattle.std.specs.Option.{is_some}
use Rattle.std.proofs.lemmas.Option.{none-some, same_Some}
use Rattle.std.proofs.lemmas.Slice.Eq.{bytes_eq-Decides}
use Rattle.std.proofs.lemmas.Bool.{false≢true}
use Rattle.lists.specs.TestLaws.{by_test}
use Rattle.c_unit.specs.declared.types.Integer.{Integer}
use Rattle.c_unit.specs.declared.types.Integer.TheVariants.{Char, UnsignedChar, Short, UnsignedShort, Int, UnsignedInt}
use Rattle.c_unit.specs.declared.types.Scalar.{Scalar}
use Rattle.c_unit.specs.declared.types.Scalar.TheVariants as scalars
use Rattle.c_unit.specs.declared.types.Outcome.{Outcome}
use Rattle.c_unit.specs.declared.types.Outcome.TheVariants as outcomes
use Rattle.c_unit.specs.declared.external.Parameter.{Parameter}
use Rattle.c_unit.specs.Tree.{ShapeTree, GlobalInteger, GlobalArray, FunctionOf, DeclaratorTree, ExternalTree, Declaration, Definition}
use Rattle.c_unit.specs.Units.{Word, UnitTree}
use Rattle.c_rules.specs.Types.{rank, same_integer, same_scalar, same_outcome}
use Rattle.c_rules.specs.Names.{Bound, Variable, Array, Function, Entry, Scope, text_at, named, or_further, look_up}
use Rattle.c_rules.specs.Units.{definitions, types_of, same_types, function_of, is_function, is_of_type, with_parameter, with_parameters, File, with_global, global_bound, with_declarators, external_after}
use Rattle.c_rules.specs.UnitsStand.{AgreesWith, ShapeStands, DeclaratorsStand, ExternalsStand, UnitStands}
use Rattle.c_meaning.specs.Objects as meaning
use Rattle.c_meaning.specs.Objects.{functions_in, functions_of}
use Rattle.lowering_layout.specs.Declared.{EachEntry, EachScope, HasFunction, last, EntryAgrees}

-- ---- types that are the same

abbrev of_rank : ℕ → Integer
of_rank n =
    if n == rank Char then Char else if n == rank UnsignedChar then UnsignedChar else if n == rank Short then Short
    else if n == rank UnsignedShort then UnsignedShort else if n == rank Int then Int else UnsignedInt

rank_back : (a : Integer) → of_rank (rank a) ≡ a
rank_back Char = refl
rank_back UnsignedChar = refl
rank_back Short = refl
rank_back UnsignedShort = refl
rank_back Int = refl
rank_back UnsignedInt = refl

one_integer : (a b : Integer) → same_integer a b ≡ true → a ≡ b
one_integer a b same = sym (rank_back a) ∙ ap of_rank (eqb-true (rank a) (rank b) same) ∙ rank_back b

one_scalar : (p q : Scalar) → same_scalar p q ≡ true → p ≡ q
one_scalar (scalars.Integer a) (scalars.Integer b) same = ap (λ (i : Integer). scalars.Integer i) (one_integer a b same)
one_scalar (scalars.Integer a) (scalars.Pointer b) same = absurd (false≢true same)
one_scalar (scalars.Pointer a) (scalars.Integer b) same = absurd (false≢true same)
one_scalar (scalars.Pointer a) (scalars.Pointer b) same = ap (λ (i : Integer). scalars.Pointer i) (one_integer a b same)

one_outcome : (o p : Outcome) → same_outcome o p ≡ true → o ≡ p
one_outcome outcomes.Nothing outcomes.Nothing same = refl
one_outcome outcomes.Nothing (outcomes.Integer b) same = absurd (false≢true same)
one_outcome (outcomes.Integer a) outcomes.Nothing same = absurd (false≢true same)
one_outcome (outcomes.Integer a) (outcomes.Integer b) same = ap (λ (i : Integer). outcomes.Integer i) (one_integer a b same)

both : (a b : Bool) → (a && b) ≡ true → (a ≡ true) × (b ≡ true)
both true true e = (refl, refl)
both true false e = absurd (false≢true e)
both false true e = absurd (false≢true e)
both false false e = absurd (false≢true e)

one_types : (ps qs : List Scalar) → same_types ps qs ≡ true → ps ≡ qs
one_types [] [] same = refl
one_types [] (q ∷ qs) same = absurd (false≢true same)
one_types (p ∷ ps) [] same = absurd (false≢true same)
one_types (p ∷ ps) (q ∷ qs) same =
    let parts : (same_scalar p q ≡ true) × (same_types ps qs ≡ true) = both (same_scalar p q) (same_types ps qs) same in
    ap₂ (λ (x : Scalar) (xs : List Scalar). x ∷ xs) (one_scalar p q parts.0) (one_types ps qs parts.1)

-- ---- entries of scopes

-- what is found is an entry, under the same text
pub named_entry : (P : Entry → Type 0) (words : List Word) (scope : Scope) (token : ℕ) (e : Entry) → EachEntry P scope
    → named words token scope ≡ Some e → P e × (text_at words e.token ≡ text_at words token)
named_entry P words [] token e each at = absurd (none-some e at)
named_entry P words (f ∷ fs) token e each at =
    by_test (bytes_eq (text_at words f.token) (text_at words token))
    (λ t. let same : f ≡ e = same_Some f e (sym (ap (λ (b : Bool). if b then Some f else named words token fs) t) ∙ at) in (
      subst P same each.0,
      subst (λ (x : Entry). text_at words x.token ≡ text_at words token) same ((bytes_eq-Decides (text_at words f.token) (text_at words token)).0 t),
    ))
    (λ t. named_entry P words fs token e each.1 (sym (ap (λ (b : Bool). if b then Some f else named words token fs) t) ∙ at))

first_found : (P : Entry → Type 0) (x further : Option Entry) (e : Entry) → ((f : Entry) → x ≡ Some f → P f)
    → ((f : Entry) → further ≡ Some f → P f) → or_further x further ≡ Some e → P e
first_found P None further e here there at = there e at
first_found P (Some f) further e here there at = here e at

pub found_entry : (P : Entry → Type 0) (words : List Word) (scopes : List Scope) (token : ℕ) (e : Entry)
    → EachScope P scopes → look_up words scopes token ≡ Some e → P e × (text_at words e.token ≡ text_at words token)
found_entry P words [] token e each at = absurd (none-some e at)
found_entry P words (scope ∷ scopes) token e each at =
    first_found (λ (f : Entry). P f × (text_at words f.token ≡ text_at words token)) (named words token scope) (look_up words scopes token) e
    (λ f here. named_entry P words scope token f each.0 here) (λ f there. found_entry P words scopes token f each.1 there) at

-- ---- functions of a scope

abbrev outcome_in : Bound → Outcome
outcome_in (Variable t) = outcomes.Nothing
outcome_in (Array i) = outcomes.Nothing
outcome_in (Function o ps) = o

abbrev types_in : Bound → List Scalar
types_in (Variable t) = []
types_in (Array i) = []
types_in (Function o ps) = ps

-- a name is looked up by its text
same_named : (words : List Word) (scope : Scope) (token other : ℕ) → text_at words token ≡ text_at words other
    → named words token scope ≡ named words other scope
same_named words [] token other same = refl
same_named words (e ∷ es) token other same =
    ap₂ (λ (text : List ℕ) (further : Option Entry). if bytes_eq (text_at words e.token) text then Some e else further) same (same_named words es token other same)

one_function : (words : List Word) (scope : Scope) (token other : ℕ) (o p : Outcome) (ps qs : List Scalar)
    → text_at words token ≡ text_at words other
    → HasFunction words scope token o ps → HasFunction words scope other p qs → (o ≡ p) × (ps ≡ qs)
one_function words scope token other o p ps qs same a b =
    let entries : a.entry ≡ b.entry = same_Some a.entry b.entry (sym a.found ∙ same_named words scope token other same ∙ b.found) in
    let bounds : Function o ps ≡ Function p qs = sym a.is ∙ ap (λ (e : Entry). e.bound) entries ∙ b.is in
    (ap outcome_in bounds, ap types_in bounds)

module _ (words : List Word) where
  -- one name more
  abbrev with_entry : ℕ → Bound → Scope → Scope
  with_entry name bound scope = record { token = name; bound = bound } ∷ scope

  newest : (name : ℕ) (bound : Bound) (o : Outcome) (ps : List Scalar) (scope : Scope) → bound ≡ Function o ps
      → HasFunction words (with_entry name bound scope) name o ps
  newest name bound o ps scope is =
      let e : Entry = record { token = name; bound = bound } in
      record { entry = e; found = ap (λ (b : Bool). if b then Some e else named words name scope) ((bytes_eq-Decides (text_at words name) (text_at words name)).1 refl); is = is }

  -- a declaration that agrees with what was known keeps it
  abbrev Keeps : Scope → ℕ → Bound → Type 0
  Keeps scope name bound = (token : ℕ) (o : Outcome) (ps : List Scalar) → HasFunction words scope token o ps → text_at words name ≡ text_at words token → bound ≡ Function o ps

  kept_by_entry : (scope : Scope) (name : ℕ) (bound : Bound) → Keeps scope name bound
      → (token : ℕ) (o : Outcome) (ps : List Scalar)
      → HasFunction words scope token o ps → HasFunction words (with_entry name bound scope) token o ps
  kept_by_entry scope name bound keeps token o ps has =
      let e : Entry = record { token = name; bound = bound } in
      by_test (bytes_eq (text_at words name) (text_at words token))
      (λ t. record {
        entry = e;
        found = ap (λ (b : Bool). if b then Some e else named words token scope) t;
        is = keeps token o ps has ((bytes_eq-Decides (text_at words name) (text_at words token)).0 t);
      })
      (λ t. record { entry = has.entry; found = ap (λ (b : Bool). if b then Some e else named words token scope) t ∙ has.found; is = has.is })

  -- the entry that a name has, where it has one
  agreeing : (o p : Outcome) (params : List Parameter) (ps : List Scalar) (x : Option Entry) (e : Entry)
      → AgreesWith o params x → x ≡ Some e → e.bound ≡ Function p ps → Function o (types_of params) ≡ Function p ps
  agreeing o p params ps None e agrees at is = absurd (none-some e at)
  agreeing o p params ps (Some f) e agrees at is =
      let bound : f.bound ≡ Function p ps = ap (λ (x : Entry). x.bound) (same_Some f e at) ∙ is in
      let same : (same_outcome p o && same_types ps (types_of params)) ≡ true = sym (ap (is_of_type o (types_of params)) bound) ∙ agrees in
      let parts : (same_outcome p o ≡ true) × (same_types ps (types_of params) ≡ true) = both (same_outcome p o) (same_types ps (types_of params)) same in
      ap₂ (λ (x : Outcome) (xs : List Scalar). Function x xs) (sym (one_outcome p o parts.0)) (sym (one_types ps (types_of params) parts.1))

  keeps_function : (scope : Scope) (name : ℕ) (o : Outcome) (params : List Parameter)
      → AgreesWith o params (named words name scope) → Keeps scope name (function_of o params)
  keeps_function scope name o params agrees token p ps has same =
      agreeing o p params ps (named words name scope) has.entry agrees (same_named words scope name token same ∙ has.found) has.is

  keeps_object : (scope : Scope) (name : ℕ) (bound : Bound) → is_some (named words name scope) ≡ false
      → Keeps scope name bound
  keeps_object scope name bound new token o ps has same =
      absurd (false≢true (sym new ∙ ap (λ (x : Option Entry). is_some x) (same_named words scope name token same ∙ has.found)))

  keeps_shape : (scope : Scope) (name : ℕ) (o : Outcome) (shape : ShapeTree) → ShapeStands words scope o name shape
      → Keeps scope name (global_bound o shape)
  keeps_shape scope name o (GlobalInteger c) stands = keeps_object scope name (global_bound o (GlobalInteger c)) stands
  keeps_shape scope name o (GlobalArray size firsts) stands = keeps_object scope name (global_bound o (GlobalArray size firsts)) stands.0
  keeps_shape scope name o (FunctionOf params) stands = keeps_function scope name o params stands.2

  kept_by_declarators : (o : Outcome) (file : File) (ds : List DeclaratorTree) → DeclaratorsStand words o file ds
      → (token : ℕ) (p : Outcome) (ps : List Scalar)
      → HasFunction words file.scope token p ps → HasFunction words (with_declarators o file ds).scope token p ps
  kept_by_declarators o file [] stands token p ps has = has
  kept_by_declarators o file (d ∷ ds) stands token p ps has =
      kept_by_declarators o (with_global file d.name (global_bound o d.shape)) ds stands.1 token p ps
      (kept_by_entry file.scope d.name (global_bound o d.shape) (keeps_shape file.scope d.name o d.shape stands.0) token p ps has)

  kept_to_last : (defined : List ℕ) (file : File) (xs : List ExternalTree) → ExternalsStand words defined file xs
      → (token : ℕ) (p : Outcome) (ps : List Scalar)
      → HasFunction words file.scope token p ps → HasFunction words (last words file xs).scope token p ps
  kept_to_last defined file [] stands token p ps has = has
  kept_to_last defined file (Declaration first o ds ∷ xs) stands token p ps has =
      kept_to_last defined (external_after file (Declaration first o ds)) xs stands.1 token p ps (kept_by_declarators o file ds stands.0 token p ps has)
  kept_to_last defined file (Definition first o name params body ∷ xs) stands token p ps has =
      kept_to_last defined (external_after file (Definition first o name params body)) xs stands.1 token p ps
      (kept_by_entry file.scope name (function_of o params) (keeps_function file.scope name o params stands.0.agrees) token p ps has)

  -- each function that is defined has its type at the end
  defined_last : (defined : List ℕ) (file : File) (xs : List ExternalTree) → ExternalsStand words defined file xs
      → (i : ℕ) (function : meaning.Function)
      → slice_get (functions_in file xs) i ≡ Some function → HasFunction words (last words file xs).scope function.name function.result (types_of function.parameters)
  defined_last defined file [] stands i function at = absurd (none-some function at)
  defined_last defined file (Declaration first o ds ∷ xs) stands i function at = defined_last defined (external_after file (Declaration first o ds)) xs stands.1 i function at
  defined_last defined file (Definition first o name params body ∷ xs) stands zero function at =
      subst (λ (g : meaning.Function). HasFunction words (last words file (Definition first o name params body ∷ xs)).scope g.name g.result (types_of g.parameters)) (same_Some _ function at)
      (kept_to_last defined (external_after file (Definition first o name params body)) xs stands.1 name o (types_of params) (newest name (function_of o params) o (types_of params) file.scope refl))
  defined_last defined file (Definition first o name params body ∷ xs) stands (suc i) function at =
      defined_last defined (external_after file (Definition first o name params body)) xs stands.1 i function at

  -- ---- what a function's block sees

  module _ (end : Scope) where
    -- a function's entry has the type that its name has at the end
    abbrev InLast : Entry → Type 0
    InLast e = (o : Outcome) (ps : List Scalar) → e.bound ≡ Function o ps → HasFunction words end e.token o ps

    abbrev ToLast : Scope → Type 0
    ToLast scope = (token : ℕ) (p : Outcome) (ps : List Scalar) → HasFunction words scope token p ps → HasFunction words end token p ps

    declarators_in : (o : Outcome) (file : File) (ds : List DeclaratorTree) → DeclaratorsStand words o file ds
        → ToLast (with_declarators o file ds).scope
        → EachEntry InLast file.scope → EachEntry InLast (with_declarators o file ds).scope
    declarators_in o file [] stands to_last known = known
    declarators_in o file (d ∷ ds) stands to_last known =
        let further : File = with_global file d.name (global_bound o d.shape) in
        declarators_in o further ds stands.1 to_last
        ((λ p ps is. to_last d.name p ps (kept_by_declarators o further ds stands.1 d.name p ps (newest d.name (global_bound o d.shape) p ps file.scope is))), known)

    parameter_in : (scope : Scope) (name : Option ℕ) (kind : Scalar) → EachEntry InLast scope
        → EachEntry InLast (with_parameter scope name kind)
    parameter_in scope None kind known = known
    parameter_in scope (Some name) kind known = ((λ o ps is. absurd (false≢true (ap is_function is))), known)

    parameters_in : (scope : Scope) (params : List Parameter) → EachEntry InLast scope
        → EachEntry InLast (with_parameters scope params)
    parameters_in scope [] known = known
    parameters_in scope (p ∷ ps) known = parameters_in (with_parameter scope p.name p.kind) ps (parameter_in scope p.name p.kind known)

    block_sees : (defined : List ℕ) (file : File) (xs : List ExternalTree) → ExternalsStand words defined file xs
        → (last words file xs).scope ≡ end → EachEntry InLast file.scope
        → (i : ℕ) (function : meaning.Function) → slice_get (functions_in file xs) i ≡ Some function → EachScope InLast function.scopes
    block_sees defined file [] stands is known i function at = absurd (none-some function at)
    block_sees defined file (Declaration first o ds ∷ xs) stands is known i function at =
        let further : File = with_declarators o file ds in
        let to_last : ToLast further.scope = λ token p ps has. subst (λ (scope : Scope). HasFunction words scope token p ps) is (kept_to_last defined further xs stands.1 token p ps has) in
        block_sees defined further xs stands.1 is (declarators_in o file ds stands.0 to_last known) i function at
    block_sees defined file (Definition first o name params body ∷ xs) stands is known zero function at =
        let further : File = external_after file (Definition first o name params body) in
        let own : InLast (record { token = name; bound = function_of o params }) =
        λ p ps e. subst (λ (scope : Scope). HasFunction words scope name p ps) is (kept_to_last defined further xs stands.1 name p ps (newest name (function_of o params) p ps file.scope e)) in
        subst (λ (g : meaning.Function). EachScope InLast g.scopes) (same_Some _ function at) (parameters_in [] params tt, ((own, known), tt))
    block_sees defined file (Definition first o name params body ∷ xs) stands is known (suc i) function at =
        let further : File = external_after file (Definition first o name params body) in
        let own : InLast (record { token = name; bound = function_of o params }) =
        λ p ps e. subst (λ (scope : Scope). HasFunction words scope name p ps) is (kept_to_last defined further xs stands.1 name p ps (newest name (function_of o params) p ps file.scope e)) in
        block_sees defined further xs stands.1 is (own, known) i function at

-- ---- entries and definitions

each_entry_when : (P Q : Entry → Type 0) (scope : Scope) → ((e : Entry) → P e → Q e) → EachEntry P scope
    → EachEntry Q scope
each_entry_when P Q [] f each = tt
each_entry_when P Q (e ∷ es) f each = (f e each.0, each_entry_when P Q es f each.1)

each_scope_when : (P Q : Entry → Type 0) (scopes : List Scope) → ((e : Entry) → P e → Q e) → EachScope P scopes
    → EachScope Q scopes
each_scope_when P Q [] f each = tt
each_scope_when P Q (scope ∷ scopes) f each = (each_entry_when P Q scope f each.0, each_scope_when P Q scopes f each.1)

pub entries_agree : (unit : UnitTree) → UnitStands unit → (k : ℕ) (block : meaning.Function)
    → slice_get (functions_of unit) k ≡ Some block → EachScope (EntryAgrees unit) block.scopes
entries_agree unit stands k block at =
    let defined : List ℕ = definitions unit.externals in
    let first : File = record { scope = []; made = [] } in
    let end : Scope = (last unit.words first unit.externals).scope in
    each_scope_when (InLast unit.words end) (EntryAgrees unit) block.scopes
    (λ e in_last o ps is i function there same.
    one_function unit.words end function.name e.token function.result o (types_of function.parameters) ps same
    (defined_last unit.words defined first unit.externals stands i function there) (in_last o ps is))
    (block_sees unit.words end defined first unit.externals stands refl tt k block at)
