-- What scopes of a function know.
--   EntryKnown unit f e      the function sees the object of the entry, or the entry agrees with the function that is defined
--   IsOwn unit f o           function f sees the object
--   scopes_see, statement_known   scopes see what they know, also after a statement
--   each_block               so do those of each function, whose block stands and whose locals it sees
use Rattle.std.proofs.Common.{◌≡◌, ◌⊎◌, ℕ, zero, suc, ◌+◌, false, List, [], ◌∷◌, ◌++◌, map, slice_get, Option, Some, None, refl, sym, ap, ◌∙◌, subst, inl, inr, arith}
use Rattle.std.specs.Option.{option_map_or}
use Rattle.std.proofs.lemmas.Bool.{false≢true}
use Rattle.std.proofs.lemmas.Option.{none-some, same_Some}
use Rattle.c_unit.specs.declared.types.Integer.{Integer}
use Rattle.c_unit.specs.declared.types.Scalar.{Scalar}
use Rattle.c_unit.specs.declared.types.Outcome.{Outcome}
use Rattle.c_unit.specs.declared.external.Parameter.{Parameter}
use Rattle.c_unit.specs.Tree.{LocalShapeTree, LocalInteger, LocalPointer, LocalArray, LocalTree, Statement, Declares, ShapeTree, GlobalInteger, GlobalArray, FunctionOf, DeclaratorTree, ExternalTree, Declaration, Definition, statements_of}
use Rattle.c_unit.specs.Units.{UnitTree}
use Rattle.c_rules.specs.Names.{Entry, Scope, with_name}
use Rattle.c_rules.specs.Expressions.{value_type}
use Rattle.c_rules.specs.Statements.{local_bound, with_local, with_locals, scopes_after, in_function}
use Rattle.c_rules.specs.Units.{definitions, element_of, is_function, with_parameter, with_parameters, File, with_global, global_bound, with_declarators, external_after}
use Rattle.c_rules.specs.Standing.{StatementsStand}
use Rattle.c_rules.specs.UnitsStand.{ExternalsStand, UnitStands}
use Rattle.c_meaning.specs.Objects as meaning
use Rattle.c_meaning.specs.Objects.{Object, program_of, objects_of, object_at, functions_in, functions_of, parameter_object, local_object, locals_in, all_locals_in, global_object, globals_declared, globals_in, owned_in}
use Rattle.lowering_layout.specs.Lists.{EachOf}
use Rattle.lowering_layout.specs.ListLaws.{each_parts}
use Rattle.lowering_layout.specs.CheckedLaws.{all_owned}
use Rattle.lowering_layout.specs.Spelled.{HasNames}
use Rattle.lowering_layout.specs.PlaceLaws.{each_of_places, object_found}
use Rattle.lowering_layout.specs.Declared.{EachEntry, EachScope, EntryAgrees}
use Rattle.lowering_layout.specs.DeclaredLaws.{found_entry, entries_agree}
use Rattle.lowering_values.specs.Frames.{Sees, ScopesSee}

-- the function sees the object of the entry
abbrev pub EntrySeen : UnitTree → ℕ → Entry → Type 0
EntrySeen unit f e = (t : Scalar) → value_type e.bound ≡ Some t → Sees unit f (object_at (objects_of unit) e.token)

pub record EntryKnown (unit : UnitTree) (f : ℕ) (e : Entry) : Type 0 where
  pub seen : EntrySeen unit f e
  pub agrees : EntryAgrees unit e

abbrev pub ScopesKnown : UnitTree → ℕ → List Scope → Type 0
ScopesKnown unit f scopes = EachScope (EntryKnown unit f) scopes

abbrev pub IsOwn : UnitTree → ℕ → Object → Type 0
IsOwn unit f o = Sees unit f (object_at (objects_of unit) o.token)

pub scopes_see : (unit : UnitTree) (f : ℕ) (scopes : List Scope) → ScopesKnown unit f scopes → ScopesSee unit f scopes
scopes_see unit f scopes known token e t found is = (found_entry (EntryKnown unit f) unit.words scopes token e known found).0.seen t is

-- ---- locals

named_known : (unit : UnitTree) (f : ℕ) (e : Entry) (scopes : List Scope) → EntryKnown unit f e
    → ScopesKnown unit f scopes → ScopesKnown unit f (with_name e scopes)
named_known unit f e [] one known = ((one, tt), tt)
named_known unit f e (scope ∷ scopes) one known = ((one, known.0), known.1)

no_local_function : (kind : Integer) (shape : LocalShapeTree) → is_function (local_bound kind shape) ≡ false
no_local_function kind (LocalInteger first) = refl
no_local_function kind (LocalPointer first) = refl
no_local_function kind (LocalArray size firsts) = refl

pub local_known : (unit : UnitTree) (f : ℕ) (kind : Integer) (scopes : List Scope) (local : LocalTree)
    → ScopesKnown unit f scopes → Sees unit f (object_at (objects_of unit) local.name)
    → ScopesKnown unit f (with_local kind scopes local)
local_known unit f kind scopes local known sees =
    named_known unit f (record { token = local.name; bound = local_bound kind local.shape }) scopes
    (record { seen = λ t is. sees; agrees = λ o ps is. absurd (false≢true (sym (no_local_function kind local.shape) ∙ ap is_function is)) }) known

locals_known : (unit : UnitTree) (f : ℕ) (kind : Integer) (scopes : List Scope) (locals : List LocalTree)
    → ScopesKnown unit f scopes
    → EachOf (IsOwn unit f) (map (local_object unit.words f kind) locals) → ScopesKnown unit f (with_locals kind scopes locals)
locals_known unit f kind scopes [] known own = known
locals_known unit f kind scopes (local ∷ locals) known own = locals_known unit f kind (with_local kind scopes local) locals (local_known unit f kind scopes local known own.0) own.1

pub statement_known : (unit : UnitTree) (f : ℕ) (scopes : List Scope) (s : Statement) → ScopesKnown unit f scopes
    → EachOf (IsOwn unit f) (locals_in unit.words f s) → ScopesKnown unit f (scopes_after scopes s)
statement_known unit f scopes (Declares first kind locals) known own = locals_known unit f kind scopes locals known own
statement_known unit f scopes _ known own = known

-- ---- functions

each_entry_both : (P Q : Entry → Type 0) (scope : Scope) → EachEntry P scope → EachEntry Q scope
    → EachEntry (λ e. P e × Q e) scope
each_entry_both P Q [] p q = tt
each_entry_both P Q (e ∷ es) p q = ((p.0, q.0), each_entry_both P Q es p.1 q.1)

entry_known : (unit : UnitTree) (f : ℕ) (scope : Scope) → EachEntry (EntrySeen unit f) scope
    → EachEntry (EntryAgrees unit) scope → EachEntry (EntryKnown unit f) scope
entry_known unit f [] seen agrees = tt
entry_known unit f (e ∷ es) seen agrees = (record { seen = seen.0; agrees = agrees.0 }, entry_known unit f es seen.1 agrees.1)

scope_known : (unit : UnitTree) (f : ℕ) (scopes : List Scope) → EachScope (EntrySeen unit f) scopes
    → EachScope (EntryAgrees unit) scopes → ScopesKnown unit f scopes
scope_known unit f [] seen agrees = tt
scope_known unit f (scope ∷ scopes) seen agrees = (entry_known unit f scope seen.0 agrees.0, scope_known unit f scopes seen.1 agrees.1)

module _ (unit : UnitTree) (names : HasNames (program_of unit)) where
  -- an object is seen by its owner, and a global one by each function
  abbrev IsSeen : Object → Type 0
  IsSeen o = (f : ℕ) → (o.owner ≡ None) ⊎ (o.owner ≡ Some f) → IsOwn unit f o

  sees_at : (i : ℕ) (o : Object) → slice_get (objects_of unit) i ≡ Some o → IsSeen o
  sees_at i o at f owned =
      record { object = o; at = ap (slice_get (objects_of unit)) (object_found (program_of unit) names i o at) ∙ at; seen = owned }

  all_seen : EachOf IsSeen (objects_of unit)
  all_seen = each_of_places IsSeen (objects_of unit) sees_at

  abbrev GlobalSeen : Entry → Type 0
  GlobalSeen e = (f : ℕ) → EntrySeen unit f e

  global_seen : (o : Outcome) (name : ℕ) (shape : ShapeTree)
      → EachOf IsSeen (global_object unit.words (element_of o) name shape)
      → GlobalSeen (record { token = name; bound = global_bound o shape })
  global_seen o name (GlobalInteger c) seen f t is = seen.0 f (inl refl)
  global_seen o name (GlobalArray size firsts) seen f t is = seen.0 f (inl refl)
  global_seen o name (FunctionOf params) seen f t is = absurd (none-some t is)

  declarators_seen : (o : Outcome) (file : File) (ds : List DeclaratorTree)
      → EachOf IsSeen (globals_declared unit.words (element_of o) ds) → EachEntry GlobalSeen file.scope
      → EachEntry GlobalSeen (with_declarators o file ds).scope
  declarators_seen o file [] seen known = known
  declarators_seen o file (d ∷ ds) seen known =
      let parts = each_parts IsSeen (global_object unit.words (element_of o) d.name d.shape) (globals_declared unit.words (element_of o) ds) seen in
      declarators_seen o (with_global file d.name (global_bound o d.shape)) ds parts.1 (global_seen o d.name d.shape parts.0, known)

  parameter_seen : (f : ℕ) (scope : Scope) (name : Option ℕ) (first : ℕ) (kind : Scalar)
      → EachEntry (EntrySeen unit f) scope
      → Sees unit f (object_at (objects_of unit) (option_map_or (λ n. n) name first))
      → EachEntry (EntrySeen unit f) (with_parameter scope name kind)
  parameter_seen f scope None first kind known sees = known
  parameter_seen f scope (Some name) first kind known sees = ((λ t is. sees), known)

  parameters_seen : (f : ℕ) (scope : Scope) (params : List Parameter) → EachEntry (EntrySeen unit f) scope
      → EachOf IsSeen (map (parameter_object f) params) → EachEntry (EntrySeen unit f) (with_parameters scope params)
  parameters_seen f scope [] known seen = known
  parameters_seen f scope (p ∷ ps) known seen = parameters_seen f (with_parameter scope p.name p.kind) ps (parameter_seen f scope p.name p.first p.kind known (seen.0 f (inr refl))) seen.1

  file_seen : (f : ℕ) (scope : Scope) → EachEntry GlobalSeen scope → EachEntry (EntrySeen unit f) scope
  file_seen f [] known = tt
  file_seen f (e ∷ es) known = (known.0 f, file_seen f es known.1)

  -- a block stands, in scopes that see their objects, and its locals are seen
  pub record BlockSeen (f : ℕ) (function : meaning.Function) : Type 0 where
    pub stands : StatementsStand unit.words (definitions unit.externals) (in_function function.result) function.scopes function.body
    pub scopes_seen : EachScope (EntrySeen unit f) function.scopes
    pub locals_seen : EachOf IsSeen (all_locals_in unit.words f function.body)

  block_seen : (k : ℕ) (file : File) (xs : List ExternalTree)
      → ExternalsStand unit.words (definitions unit.externals) file xs → EachOf IsSeen (globals_in unit.words xs)
      → EachOf IsSeen (owned_in unit.words k xs)
      → EachEntry GlobalSeen file.scope → (i : ℕ) (function : meaning.Function) → slice_get (functions_in file xs) i ≡ Some function → BlockSeen (k + i) function
  block_seen k file [] stands globals owned known i function at = absurd (none-some function at)
  block_seen k file (Declaration first o ds ∷ xs) stands globals owned known i function at =
      let parts = each_parts IsSeen (globals_declared unit.words (element_of o) ds) (globals_in unit.words xs) globals in
      block_seen k (with_declarators o file ds) xs stands.1 parts.1 owned (declarators_seen o file ds parts.0 known) i function at
  block_seen k file (Definition first o name params body ∷ xs) stands globals owned known zero function at =
      let locals : List Object = all_locals_in unit.words k (statements_of body) in
      let parts = each_parts IsSeen (map (parameter_object k) params) (locals ++ owned_in unit.words (k + 1) xs) owned in
      let own = each_parts IsSeen locals (owned_in unit.words (k + 1) xs) parts.1 in
      let here : BlockSeen k (record {
        name = name;
        result = o;
        parameters = params;
        scopes = with_parameters [] params ∷ (external_after file (Definition first o name params body)).scope ∷ [];
        body = statements_of body;
      }) = record {
        stands = stands.0.body_stands;
        scopes_seen = (parameters_seen k [] params tt parts.0, (((λ t is. absurd (none-some t is)), file_seen k file.scope known), tt));
        locals_seen = own.0;
      } in
      subst (λ (n : ℕ). BlockSeen n function) (let e : k ≡ k + 0 = omega arith in e) (subst (λ (g : meaning.Function). BlockSeen k g) (same_Some _ function at) here)
  block_seen k file (Definition first o name params body ∷ xs) stands globals owned known (suc i) function at =
      let locals : List Object = all_locals_in unit.words k (statements_of body) in
      let parts = each_parts IsSeen (map (parameter_object k) params) (locals ++ owned_in unit.words (k + 1) xs) owned in
      let own = each_parts IsSeen locals (owned_in unit.words (k + 1) xs) parts.1 in
      subst (λ (n : ℕ). BlockSeen n function) (let e : k + 1 + i ≡ k + suc i = omega arith in e)
      (block_seen (k + 1) (external_after file (Definition first o name params body)) xs stands.1 globals own.1 ((λ f t is. absurd (none-some t is)), known) i function at)

  own_locals : (f : ℕ) (os : List Object) → EachOf IsSeen os → EachOf (λ (o : Object). o.owner ≡ Some f) os
      → EachOf (IsOwn unit f) os
  own_locals f [] seen owned = tt
  own_locals f (o ∷ os) seen owned = (seen.0 f (inr owned.0), own_locals f os seen.1 owned.1)

-- a block of the unit: it stands in scopes that are known, and its locals are its own
pub record BlockKnown (unit : UnitTree) (f : ℕ) (function : meaning.Function) : Type 0 where
  pub stands : StatementsStand unit.words (definitions unit.externals) (in_function function.result) function.scopes function.body
  pub known : ScopesKnown unit f function.scopes
  pub own : EachOf (IsOwn unit f) (all_locals_in unit.words f function.body)

pub each_block : (unit : UnitTree) → HasNames (program_of unit) → UnitStands unit
    → (f : ℕ) (function : meaning.Function) → slice_get (functions_of unit) f ≡ Some function
    → BlockKnown unit f function
each_block unit names stands f function at =
    let parts = each_parts (IsSeen unit names) (globals_in unit.words unit.externals) (owned_in unit.words 0 unit.externals) (all_seen unit names) in
    let seen : BlockSeen unit names f function =
    subst (λ (n : ℕ). BlockSeen unit names n function) (let e : 0 + f ≡ f = omega arith in e)
    (block_seen unit names 0 (record { scope = []; made = [] }) unit.externals stands parts.0 parts.1 tt f function at) in
    record {
      stands = seen.stands;
      known = scope_known unit f function.scopes seen.scopes_seen (entries_agree unit stands f function at);
      own = own_locals unit names f (all_locals_in unit.words f function.body) seen.locals_seen (all_owned unit.words f function.body);
    }
