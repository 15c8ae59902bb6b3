-- Laws of checked.
--   locals_owned, parameters_owned   what a function declares is owned by it
--   program_has_names                a unit that the checks pass and whose names are spelled has names
use Rattle.std.proofs.Common.{◌≡◌, ◌≢◌, ◌<◌, ◌≤◌, ◌+◌, ◌||◌, ℕ, suc, Bool, true, false, List, [], ◌∷◌, ◌++◌, map, length, None, Some, refl, sym, ap, ◌∙◌, subst, arith, bytes_eq, is_some, if◌then◌else◌}
use Rattle.std.proofs.lemmas.Option.{none-some, same_Some}
use Rattle.std.proofs.lemmas.Slice.Eq.{bytes_eq-Decides}
use Rattle.lists.specs.TestLaws.{by_test}
use Rattle.c_unit.specs.declared.types.Integer.{Integer}
use Rattle.c_unit.specs.declared.types.Outcome.{Outcome}
use Rattle.c_unit.specs.declared.external.Parameter.{Parameter}
use Rattle.c_unit.specs.Tree.{LocalTree, Statement, Empty, Declares, Block, If, IfElse, While, Do, For, ForAfter, Switch, Case, Default, Break, Continue, Returns, Does, Statements, Nothing, Then, ShapeTree, GlobalInteger, GlobalArray, FunctionOf, DeclaratorTree, ExternalTree, Declaration, Definition, statements_of}
use Rattle.c_unit.specs.Units.{Word, UnitTree}
use Rattle.c_rules.specs.Names.{Entry, Scope, text_at, named}
use Rattle.c_rules.specs.Calls.{is_defined}
use Rattle.c_rules.specs.Units.{File, definitions, element_of, global_bound, with_global, with_declarators, external_after}
use Rattle.c_rules.specs.UnitsStand.{DeclaratorsStand, ExternalsStand}
use Rattle.c_rules.specs.UnitsStandLaws.{unit_stands}
use Rattle.c_rules.specs.Programs.{IsProgram}
use Rattle.c_meaning.specs.Objects.{Object, Function, program_of, locals_in, all_locals_in, local_object, parameter_object, owned_in, global_object, globals_declared, globals_in, functions_in, functions_of}
use Rattle.lowering_layout.specs.Lists.{EachOf, Apart, Across}
use Rattle.lowering_layout.specs.ListLaws.{each_when, each_joined, each_of_all, each_image, apart_joined, apart_when}
use Rattle.lowering_layout.specs.Spelled.{NamesAreSpelled, HasNames, OfOtherNames, DifferAsGlobals, IsOwned}
use Rattle.lowering_layout.specs.Checked.{OwnedBy, IsGlobal, IsNew, NewAfter, NotMade}

-- ---- tests

either_false : (a b : Bool) → (a || b) ≡ false → (a ≡ false) × (b ≡ false)
either_false true b e = absurd (let bad : true ≡ false = e in cc)
either_false false b e = (refl, e)

texts_differ : (a b : List ℕ) → bytes_eq a b ≡ false → a ≢ b
texts_differ a b e same = absurd (let bad : true ≡ false = sym ((bytes_eq-Decides a b).1 same) ∙ e in cc)

module _ (words : List Word) where
  -- ---- what a function owns

  mutual
    pub locals_owned : (f : ℕ) (s : Statement) → EachOf (OwnedBy words f) (locals_in words f s)
    locals_owned f (Empty token) = tt
    locals_owned f (Declares first kind locals) = each_image (OwnedBy words f) (local_object words f kind) locals (each_of_all (λ (l : LocalTree). OwnedBy words f (local_object words f kind l)) locals (λ l. refl))
    locals_owned f (Block body) = all_owned f body
    locals_owned f (If condition body) = locals_owned f body
    locals_owned f (IfElse condition body otherwise) = each_joined (OwnedBy words f) (locals_in words f body) (locals_in words f otherwise) (locals_owned f body) (locals_owned f otherwise)
    locals_owned f (While condition body) = locals_owned f body
    locals_owned f (Do body condition) = locals_owned f body
    locals_owned f (For condition last body) = locals_owned f body
    locals_owned f (ForAfter first condition last body) = each_joined (OwnedBy words f) (locals_in words f first) (locals_in words f body) (locals_owned f first) (locals_owned f body)
    locals_owned f (Switch value body) = all_owned f body
    locals_owned f (Case token c) = tt
    locals_owned f (Default token) = tt
    locals_owned f (Break token) = tt
    locals_owned f (Continue token) = tt
    locals_owned f (Returns token value) = tt
    locals_owned f (Does effect) = tt

    pub all_owned : (f : ℕ) (ss : Statements) → EachOf (OwnedBy words f) (all_locals_in words f ss)
    all_owned f Nothing = tt
    all_owned f (Then s rest) = each_joined (OwnedBy words f) (locals_in words f s) (all_locals_in words f rest) (locals_owned f s) (all_owned f rest)

  pub parameters_owned : (f : ℕ) (params : List Parameter) → EachOf (OwnedBy words f) (map (parameter_object f) params)
  parameters_owned f params = each_image (OwnedBy words f) (parameter_object f) params (each_of_all (λ (p : Parameter). OwnedBy words f (parameter_object f p)) params (λ p. refl))

  owned_below : (f count : ℕ) (os : List Object) → f < count → EachOf (OwnedBy words f) os → EachOf (IsOwned count) os
  owned_below f count os low own = each_when (OwnedBy words f) (IsOwned count) os (λ o is g also. let same = same_Some f g (sym is ∙ also) in omega (arith, low, same)) own

  owned_among : (k count : ℕ) (file : File) (xs : List ExternalTree) → k + length (functions_in file xs) ≤ count
      → EachOf (IsOwned count) (owned_in words k xs)
  owned_among k count file [] low = tt
  owned_among k count file (Declaration first o ds ∷ xs) low = owned_among k count (external_after file (Declaration first o ds)) xs low
  owned_among k count file (Definition first o name params body ∷ xs) low =
      let further = external_after file (Definition first o name params body) in
      let fewer : k + suc (length (functions_in further xs)) ≤ count = low in
      each_joined (IsOwned count) (map (parameter_object k) params) (all_locals_in words k (statements_of body) ++ owned_in words (k + 1) xs)
      (owned_below k count (map (parameter_object k) params) (omega (arith, fewer)) (parameters_owned k params))
      (each_joined (IsOwned count) (all_locals_in words k (statements_of body)) (owned_in words (k + 1) xs)
      (owned_below k count (all_locals_in words k (statements_of body)) (omega (arith, fewer)) (all_owned k (statements_of body)))
      (owned_among (k + 1) count further xs (omega (arith, fewer))))

  -- ---- globals

  object_global : (kind : Integer) (name : ℕ) (shape : ShapeTree)
      → EachOf (IsGlobal words) (global_object words kind name shape)
  object_global kind name (GlobalInteger first) = (refl, tt)
  object_global kind name (GlobalArray size firsts) = (refl, tt)
  object_global kind name (FunctionOf params) = tt

  declared_global : (kind : Integer) (ds : List DeclaratorTree)
      → EachOf (IsGlobal words) (globals_declared words kind ds)
  declared_global kind [] = tt
  declared_global kind (d ∷ ds) = each_joined (IsGlobal words) (global_object words kind d.name d.shape) (globals_declared words kind ds) (object_global kind d.name d.shape) (declared_global kind ds)

  pub globals_global : (xs : List ExternalTree) → EachOf (IsGlobal words) (globals_in words xs)
  globals_global [] = tt
  globals_global (Declaration first o ds ∷ xs) = each_joined (IsGlobal words) (globals_declared words (element_of o) ds) (globals_in words xs) (declared_global (element_of o) ds) (globals_global xs)
  globals_global (Definition first o name params body ∷ xs) = globals_global xs

  pub owned_owned : (k : ℕ) (xs : List ExternalTree) → EachOf (λ (o : Object). o.owner ≢ None) (owned_in words k xs)
  owned_owned k [] = tt
  owned_owned k (Declaration first o ds ∷ xs) = owned_owned k xs
  owned_owned k (Definition first o name params body ∷ xs) =
      each_joined (λ (o : Object). o.owner ≢ None) (map (parameter_object k) params) (all_locals_in words k (statements_of body) ++ owned_in words (k + 1) xs)
      (each_when (OwnedBy words k) (λ (o : Object). o.owner ≢ None) (map (parameter_object k) params) (λ o is none. absurd (none-some k (sym none ∙ is))) (parameters_owned k params))
      (each_joined (λ (o : Object). o.owner ≢ None) (all_locals_in words k (statements_of body)) (owned_in words (k + 1) xs)
      (each_when (OwnedBy words k) (λ (o : Object). o.owner ≢ None) (all_locals_in words k (statements_of body)) (λ o is none. absurd (none-some k (sym none ∙ is))) (all_owned k (statements_of body)))
      (owned_owned (k + 1) xs))

  new_before : (e : Entry) (scope : Scope) (token : ℕ) → IsNew words (e ∷ scope) token
      → (text_at words e.token ≢ text_at words token) × IsNew words scope token
  new_before e scope token new =
      by_test (bytes_eq (text_at words e.token) (text_at words token))
      (λ same. absurd (let bad : true ≡ false = sym (ap (λ (b : Bool). is_some (if b then Some e else named words token scope)) same) ∙ new in cc))
      (λ other. (texts_differ (text_at words e.token) (text_at words token) other, sym (ap (λ (b : Bool). is_some (if b then Some e else named words token scope)) other) ∙ new))

  abbrev DifferInText : Object → Object → Type 0
  DifferInText o p = text_at words o.token ≢ text_at words p.token

  differs_from_object : (kind : Integer) (name : ℕ) (shape : ShapeTree) (p : Object)
      → text_at words name ≢ text_at words p.token
      → EachOf (λ (o : Object). DifferInText o p) (global_object words kind name shape)
  differs_from_object kind name (GlobalInteger first) p other = (other, tt)
  differs_from_object kind name (GlobalArray size firsts) p other = (other, tt)
  differs_from_object kind name (FunctionOf params) p other = tt

  before_declarators : (o : Outcome) (kind : Integer) (file : File) (ds : List DeclaratorTree) (p : Object)
      → IsNew words (with_declarators o file ds).scope p.token
      → EachOf (λ (q : Object). DifferInText q p) (globals_declared words kind ds) × IsNew words file.scope p.token
  before_declarators o kind file [] p new = (tt, new)
  before_declarators o kind file (d ∷ ds) p new =
      let rest = before_declarators o kind (with_global file d.name (global_bound o d.shape)) ds p new in
      let first = new_before (record { token = d.name; bound = global_bound o d.shape }) file.scope p.token rest.1 in
      (each_joined (λ (q : Object). DifferInText q p) (global_object words kind d.name d.shape) (globals_declared words kind ds) (differs_from_object kind d.name d.shape p first.0) rest.0, first.1)

  across_turned : {A : Type 0} (R : A → A → Type 0) (xs ys : List A) → EachOf (λ y. EachOf (λ x. R x y) xs) ys
      → Across R xs ys
  across_turned R [] ys h = tt
  across_turned R (x ∷ xs) ys h = (each_when (λ y. EachOf (λ z. R z y) (x ∷ xs)) (R x) ys (λ y k. k.0) h, across_turned R xs ys (each_when (λ y. EachOf (λ z. R z y) (x ∷ xs)) (λ y. EachOf (λ z. R z y) xs) ys (λ y k. k.1) h))

  -- what is declared at file level, by declarators and by all
  new_object : (scope : Scope) (o : Outcome) (kind : Integer) (name : ℕ) (shape : ShapeTree) (file : File) (ds : List DeclaratorTree) → DeclaratorsStand words o file (record { name = name; shape = shape } ∷ ds)
      → EachOf (NewAfter words file.scope) (global_object words kind name shape)
  new_object scope o kind name (GlobalInteger first) file ds stands = (stands.0, tt)
  new_object scope o kind name (GlobalArray size firsts) file ds stands = (stands.0.0, tt)
  new_object scope o kind name (FunctionOf params) file ds stands = tt

  alone : (kind : Integer) (name : ℕ) (shape : ShapeTree) → Apart DifferInText (global_object words kind name shape)
  alone kind name (GlobalInteger first) = (tt, tt)
  alone kind name (GlobalArray size firsts) = (tt, tt)
  alone kind name (FunctionOf params) = tt

  declared_apart : (o : Outcome) (kind : Integer) (file : File) (ds : List DeclaratorTree)
      → DeclaratorsStand words o file ds
      → EachOf (NewAfter words file.scope) (globals_declared words kind ds)
      × Apart DifferInText (globals_declared words kind ds)
  declared_apart o kind file [] stands = (tt, tt)
  declared_apart o kind file (d ∷ ds) stands =
      let bound = global_bound o d.shape in
      let entry : Entry = record { token = d.name; bound = bound } in
      let rest = declared_apart o kind (with_global file d.name bound) ds stands.1 in
      let before : EachOf (λ (p : Object). (text_at words d.name ≢ text_at words p.token) × IsNew words file.scope p.token) (globals_declared words kind ds) =
      each_when (NewAfter words (entry ∷ file.scope)) (λ (p : Object). (text_at words d.name ≢ text_at words p.token) × IsNew words file.scope p.token) (globals_declared words kind ds) (λ p new. new_before entry file.scope p.token new) rest.0
      in (
        each_joined (NewAfter words file.scope) (global_object words kind d.name d.shape) (globals_declared words kind ds) (new_object file.scope o kind d.name d.shape file ds stands)
            (each_when (λ (p : Object). (text_at words d.name ≢ text_at words p.token) × IsNew words file.scope p.token) (NewAfter words file.scope) (globals_declared words kind ds) (λ p h. h.1) before),
        apart_joined DifferInText (global_object words kind d.name d.shape) (globals_declared words kind ds) (alone kind d.name d.shape) rest.1
            (across_turned DifferInText (global_object words kind d.name d.shape) (globals_declared words kind ds)
            (each_when (λ (p : Object). (text_at words d.name ≢ text_at words p.token) × IsNew words file.scope p.token) (λ (p : Object). EachOf (λ (q : Object). DifferInText q p) (global_object words kind d.name d.shape)) (globals_declared words kind ds)
            (λ p h. differs_from_object kind d.name d.shape p h.0) before)),
      )

  globals_apart : (defined : List ℕ) (file : File) (xs : List ExternalTree) → ExternalsStand words defined file xs
      → EachOf (NewAfter words file.scope) (globals_in words xs) × Apart DifferInText (globals_in words xs)
  globals_apart defined file [] stands = (tt, tt)
  globals_apart defined file (Declaration first o ds ∷ xs) stands =
      let here = declared_apart o (element_of o) file ds stands.0 in
      let rest = globals_apart defined (external_after file (Declaration first o ds)) xs stands.1 in
      let before = each_when (NewAfter words (with_declarators o file ds).scope) (λ (p : Object). EachOf (λ (q : Object). DifferInText q p) (globals_declared words (element_of o) ds) × IsNew words file.scope p.token) (globals_in words xs)
      (λ p new. before_declarators o (element_of o) file ds p new) rest.0
      in (
        each_joined (NewAfter words file.scope) (globals_declared words (element_of o) ds) (globals_in words xs) here.0
            (each_when (λ (p : Object). EachOf (λ (q : Object). DifferInText q p) (globals_declared words (element_of o) ds) × IsNew words file.scope p.token) (NewAfter words file.scope) (globals_in words xs) (λ p h. h.1) before),
        apart_joined DifferInText (globals_declared words (element_of o) ds) (globals_in words xs) here.1 rest.1
            (across_turned DifferInText (globals_declared words (element_of o) ds) (globals_in words xs)
            (each_when (λ (p : Object). EachOf (λ (q : Object). DifferInText q p) (globals_declared words (element_of o) ds) × IsNew words file.scope p.token) (λ (p : Object). EachOf (λ (q : Object). DifferInText q p) (globals_declared words (element_of o) ds)) (globals_in words xs)
            (λ p h. h.0) before)),
      )
  globals_apart defined file (Definition first o name params body ∷ xs) stands =
      let further = external_after file (Definition first o name params body) in
      let rest = globals_apart defined further xs stands.1 in
      (each_when (NewAfter words further.scope) (NewAfter words file.scope) (globals_in words xs) (λ p new. (new_before _ file.scope p.token new).1) rest.0, rest.1)

  all_apart : (gs os : List Object) → Apart DifferInText gs → EachOf (λ (o : Object). o.owner ≢ None) os
      → Apart (DifferAsGlobals words) (gs ++ os)
  all_apart gs os apart own =
      apart_joined (DifferAsGlobals words) gs os (apart_when DifferInText (DifferAsGlobals words) gs (λ o p h a b. h) apart) (owned_apart os own)
      (each_of_all (λ (o : Object). EachOf (DifferAsGlobals words o) os) gs (λ o. each_when (λ (p : Object). p.owner ≢ None) (DifferAsGlobals words o) os (λ p h a b. absurd (h b)) own))
    where
      owned_apart : (ps : List Object) → EachOf (λ (o : Object). o.owner ≢ None) ps → Apart (DifferAsGlobals words) ps
      owned_apart [] own = tt
      owned_apart (p ∷ ps) own = (each_of_all (DifferAsGlobals words p) ps (λ q a b. absurd (own.0 a)), owned_apart ps own.1)

  -- ---- functions

  same_made : (o : Outcome) (file : File) (ds : List DeclaratorTree) → (with_declarators o file ds).made ≡ file.made
  same_made o file [] = refl
  same_made o file (d ∷ ds) = same_made o (with_global file d.name (global_bound o d.shape)) ds

  functions_apart : (defined : List ℕ) (file : File) (xs : List ExternalTree) → ExternalsStand words defined file xs
      → EachOf (NotMade words file.made) (functions_in file xs) × Apart (OfOtherNames words) (functions_in file xs)
  functions_apart defined file [] stands = (tt, tt)
  functions_apart defined file (Declaration first o ds ∷ xs) stands =
      let further = external_after file (Declaration first o ds) in
      let rest = functions_apart defined further xs stands.1 in
      (subst (λ (made : List ℕ). EachOf (NotMade words made) (functions_in further xs)) (same_made o file ds) rest.0, rest.1)
  functions_apart defined file (Definition first o name params body ∷ xs) stands =
      let further = external_after file (Definition first o name params body) in
      let rest = functions_apart defined further xs stands.1 in
      let before : EachOf (λ (f : Function). (text_at words name ≢ text_at words f.name) × NotMade words file.made f) (functions_in further xs) =
      each_when (NotMade words further.made) (λ (f : Function). (text_at words name ≢ text_at words f.name) × NotMade words file.made f) (functions_in further xs)
      (λ f not_made. let parts = either_false (bytes_eq (text_at words name) (text_at words f.name)) (is_defined words file.made f.name) not_made in (texts_differ (text_at words name) (text_at words f.name) parts.0, parts.1)) rest.0
      in (
        (stands.0.only, each_when (λ (f : Function). (text_at words name ≢ text_at words f.name) × NotMade words file.made f) (NotMade words file.made) (functions_in further xs) (λ f h. h.1) before),
        (each_when (λ (f : Function). (text_at words name ≢ text_at words f.name) × NotMade words file.made f) (λ (f : Function). text_at words name ≢ text_at words f.name) (functions_in further xs) (λ f h. h.0) before, rest.1),
      )

-- ---- programs

abbrev start : File
start = record { scope = []; made = [] }

pub program_has_names : (unit : UnitTree) (root ranks : List ℕ) → IsProgram unit root ranks → NamesAreSpelled unit
    → HasNames (program_of unit)
program_has_names unit root ranks program spelled =
    let words = unit.words in
    let stands = unit_stands unit program.no_faults in
    let globals = globals_in words unit.externals in
    let owned = owned_in words 0 unit.externals in
    let count = length (functions_of unit) in
    record {
      functions = spelled.functions;
      functions_differ = (functions_apart words (definitions unit.externals) start unit.externals stands).1;
      objects = spelled.objects;
      tokens = spelled.tokens;
      globals_differ = all_apart words globals owned (globals_apart words (definitions unit.externals) start unit.externals stands).1 (owned_owned words 0 unit.externals);
      owned = each_joined (IsOwned count) globals owned
          (each_when (IsGlobal words) (IsOwned count) globals (λ o none f is. absurd (none-some f (sym none ∙ is))) (globals_global words unit.externals))
          (owned_among words 0 count start unit.externals (omega arith));
      few = spelled.few;
      few_calls = spelled.few_calls;
    }
