-- What the names so far know of functions is what these give, so each call that has a frame is counted.
use Rattle.std.proofs.Common.{◌≡◌, ◌+◌, ℕ, Bool, true, false, List, [], ◌∷◌, ◌++◌, Option, None, Some, if◌then◌else◌, bytes_eq, refl, sym, ap, ◌∙◌, subst, arith, append_assoc, append-nil}
use Rattle.std.proofs.lemmas.Bool.{false≢true}
use Rattle.std.proofs.lemmas.Option.{none-some, same_Some}
use Rattle.lists.specs.TestLaws.{by_test}
use Rattle.c_unit.specs.declared.types.Integer.{Integer}
use Rattle.c_unit.specs.declared.types.Scalar.{Scalar}
use Rattle.c_unit.specs.declared.types.Outcome.{Outcome}
use Rattle.c_unit.specs.declared.types.Outcome.TheVariants as outcomes
use Rattle.c_unit.specs.Tree.{LocalShapeTree, LocalInteger, LocalPointer, LocalArray, LocalTree, Statement, Declares, ShapeTree, GlobalInteger, GlobalArray, FunctionOf, DeclaratorTree, ExternalTree, Declaration, Definition}
use Rattle.c_unit.specs.Units.{Word}
use Rattle.c_rules.specs.Names.{Bound, Variable, Array, Function, Entry, Scope, text_at, named, or_further, look_up, with_name}
use Rattle.c_rules.specs.Statements.{scopes_after, with_local, with_locals, local_bound}
use Rattle.c_rules.specs.Units.{File, types_of, is_function, with_global, global_bound, with_declarators, external_after}
use Rattle.lowering_layout.specs.Declared.{EachEntry, HasFunction}
use Rattle.lowering_layout.specs.DeclaredLaws.{named_entry}
use Rattle.c_rules.specs.SpelledUnits.{Names, gives, known_after, is_known, given, names_of_shape, names_of_declarators, names_after}

-- ---- names that are known

known_last : (known : Bool) (text : List ℕ) (names : Names) (d : List ℕ × Bool)
    → known_after known text (names ++ (d ∷ [])) ≡ (if bytes_eq d.0 text then d.1 else known_after known text names)
known_last known text [] d = refl
known_last known text (n ∷ names) d = known_last (if bytes_eq n.0 text then n.1 else known) text names d

abbrev outcome_in : Bound → Outcome
outcome_in (Variable t) = outcomes.Nothing
outcome_in (Array i) = outcomes.Nothing
outcome_in (Function o ps) = o

module _ (words : List Word) where
  -- what the scope has of functions the names know
  abbrev pub Mirrors : Scope → Names → Type 0
  Mirrors scope names = (token : ℕ) (o : Outcome) (ps : List Scalar) → HasFunction words scope token o ps → is_known (text_at words token) names ≡ gives o

  further_function : (e : Entry) (scope : Scope) (token : ℕ) (o : Outcome) (ps : List Scalar)
      → bytes_eq (text_at words e.token) (text_at words token) ≡ false → HasFunction words (e ∷ scope) token o ps
      → HasFunction words scope token o ps
  further_function e scope token o ps other has =
      record { entry = has.entry; found = sym (ap (λ (b : Bool). if b then Some e else named words token scope) other) ∙ has.found; is = has.is }

  newest_is : (e : Entry) (scope : Scope) (token : ℕ) (o : Outcome) (ps : List Scalar)
      → bytes_eq (text_at words e.token) (text_at words token) ≡ true → HasFunction words (e ∷ scope) token o ps
      → e.bound ≡ Function o ps
  newest_is e scope token o ps same has =
      subst (λ (x : Entry). x.bound ≡ Function o ps) (sym (same_Some e has.entry (sym (ap (λ (b : Bool). if b then Some e else named words token scope) same) ∙ has.found))) has.is

  mirrors_object : (e : Entry) (scope : Scope) (names : Names) → is_function e.bound ≡ false → Mirrors scope names
      → Mirrors (e ∷ scope) names
  mirrors_object e scope names object mirrors token o ps has =
      by_test (bytes_eq (text_at words e.token) (text_at words token))
      (λ t. absurd (false≢true (sym object ∙ ap is_function (newest_is e scope token o ps t has))))
      (λ t. mirrors token o ps (further_function e scope token o ps t has))

  mirrors_function : (name : ℕ) (p : Outcome) (qs : List Scalar) (scope : Scope) (names : Names) → Mirrors scope names
      → Mirrors (record { token = name; bound = Function p qs } ∷ scope) (names ++ ((text_at words name, gives p) ∷ []))
  mirrors_function name p qs scope names mirrors token o ps has =
      let e : Entry = record { token = name; bound = Function p qs } in
      let last = known_last false (text_at words token) names (text_at words name, gives p) in
      by_test (bytes_eq (text_at words name) (text_at words token))
      (λ t. last ∙ ap (λ (b : Bool). if b then gives p else is_known (text_at words token) names) t ∙ ap (λ (x : Bound). gives (outcome_in x)) (newest_is e scope token o ps t has))
      (λ t. last ∙ ap (λ (b : Bool). if b then gives p else is_known (text_at words token) names) t ∙ mirrors token o ps (further_function e scope token o ps t has))

  mirrors_shape : (o : Outcome) (name : ℕ) (shape : ShapeTree) (scope : Scope) (names : Names) → Mirrors scope names → Mirrors (record { token = name; bound = global_bound o shape } ∷ scope) (names ++ names_of_shape words o name shape)
  mirrors_shape o name (GlobalInteger c) scope names mirrors =
      subst (λ (ns : Names). Mirrors (record { token = name; bound = global_bound o (GlobalInteger c) } ∷ scope) ns) (sym (append-nil names)) (mirrors_object _ scope names refl mirrors)
  mirrors_shape o name (GlobalArray size firsts) scope names mirrors =
      subst (λ (ns : Names). Mirrors (record { token = name; bound = global_bound o (GlobalArray size firsts) } ∷ scope) ns) (sym (append-nil names)) (mirrors_object _ scope names refl mirrors)
  mirrors_shape o name (FunctionOf params) scope names mirrors = mirrors_function name o (types_of params) scope names mirrors

  mirrors_declarators : (o : Outcome) (file : File) (ds : List DeclaratorTree) (names : Names)
      → Mirrors file.scope names → Mirrors (with_declarators o file ds).scope (names ++ names_of_declarators words o ds)
  mirrors_declarators o file [] names mirrors = subst (λ (ns : Names). Mirrors file.scope ns) (sym (append-nil names)) mirrors
  mirrors_declarators o file (d ∷ ds) names mirrors =
      subst (λ (ns : Names). Mirrors (with_declarators o (with_global file d.name (global_bound o d.shape)) ds).scope ns) (append_assoc names (names_of_shape words o d.name d.shape) (names_of_declarators words o ds))
      (mirrors_declarators o (with_global file d.name (global_bound o d.shape)) ds (names ++ names_of_shape words o d.name d.shape) (mirrors_shape o d.name d.shape file.scope names mirrors))

  pub mirrors_after : (file : File) (x : ExternalTree) (names : Names) → Mirrors file.scope names
      → Mirrors (external_after file x).scope (names_after words names x)
  mirrors_after file (Declaration first o ds) names mirrors = mirrors_declarators o file ds names mirrors
  mirrors_after file (Definition first o name params body) names mirrors = mirrors_function name o (types_of params) file.scope names mirrors

  pub mirrors_nothing : Mirrors [] []
  mirrors_nothing token o ps has = absurd (none-some has.entry has.found)

  pub given_joined : (names : Names) (xs ys : List ℕ)
      → given words names (xs ++ ys) ≡ given words names xs + given words names ys
  given_joined names [] ys = omega arith
  given_joined names (x ∷ xs) ys = omega (arith, given_joined names xs ys)

-- ---- scopes inside of a file's

abbrev pub NoFunction : Entry → Type 0
NoFunction e = is_function e.bound ≡ false

pub data Inside (outer : Scope) : List Scope → Type 0 where
  outermost : {scope : Scope} → EachEntry NoFunction scope → Inside outer (scope ∷ outer ∷ [])
  deeper : {scope : Scope} {scopes : List Scope} → EachEntry NoFunction scope → Inside outer scopes
      → Inside outer (scope ∷ scopes)

pub with_inside : (outer : Scope) (e : Entry) (scopes : List Scope) → NoFunction e → Inside outer scopes
    → Inside outer (with_name e scopes)
with_inside outer e _ none (outermost each) = outermost (none, each)
with_inside outer e _ none (deeper each within) = deeper (none, each) within

pub local_none : (kind : Integer) (shape : LocalShapeTree) → is_function (local_bound kind shape) ≡ false
local_none kind (LocalInteger first) = refl
local_none kind (LocalPointer first) = refl
local_none kind (LocalArray size firsts) = refl

locals_inside : (outer : Scope) (kind : Integer) (scopes : List Scope) (locals : List LocalTree) → Inside outer scopes
    → Inside outer (with_locals kind scopes locals)
locals_inside outer kind scopes [] within = within
locals_inside outer kind scopes (local ∷ locals) within =
    locals_inside outer kind (with_local kind scopes local) locals (with_inside outer (record { token = local.name; bound = local_bound kind local.shape }) scopes (local_none kind local.shape) within)

pub statement_inside : (outer : Scope) (scopes : List Scope) (s : Statement) → Inside outer scopes
    → Inside outer (scopes_after scopes s)
statement_inside outer scopes (Declares first kind locals) within = locals_inside outer kind scopes locals within
statement_inside outer scopes _ within = within

-- a function that is found stands in the file's scope
outer_found : (words : List Word) (scope : Scope) (token : ℕ) (x further : Option Entry) (e : Entry)
    → named words token scope ≡ x → EachEntry NoFunction scope → is_function e.bound ≡ true
    → or_further x further ≡ Some e → further ≡ Some e
outer_found words scope token None further e here each is at = at
outer_found words scope token (Some f) further e here each is at =
    absurd (false≢true (sym (named_entry NoFunction words scope token f each here).0 ∙ subst (λ (g : Entry). is_function g.bound ≡ true) (sym (same_Some f e at)) is))

pub found_outer : (words : List Word) (outer : Scope) (scopes : List Scope) (token : ℕ) (e : Entry)
    → Inside outer scopes → is_function e.bound ≡ true → look_up words scopes token ≡ Some e
    → named words token outer ≡ Some e
found_outer words outer _ token e (outermost {scope = scope} each) is at =
    last_found (named words token outer) (outer_found words scope token (named words token scope) (or_further (named words token outer) None) e refl each is at)
  where
    last_found : (x : Option Entry) → or_further x None ≡ Some e → x ≡ Some e
    last_found None at = absurd (none-some e at)
    last_found (Some f) at = at
found_outer words outer _ token e (deeper {scope = scope} {scopes = scopes} each within) is at =
    found_outer words outer scopes token e within is (outer_found words scope token (named words token scope) (look_up words scopes token) e refl each is at)
