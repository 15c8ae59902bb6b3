-- The function that a call of a unit runs.
use Rattle.std.proofs.Common.{◌≡◌, ◌<◌, ℕ, suc, ◌+◌, Bool, true, false, ◌||◌, List, [], ◌∷◌, length, get_or, slice_get, Option, Some, if◌then◌else◌, bytes_eq, refl, sym, ap, ◌∙◌, subst, arith}
use Rattle.std.specs.Option.{option_map_or}
use Rattle.std.specs.List.{list_any}
use Rattle.std.proofs.lemmas.Bool.{false≢true}
use Rattle.std.proofs.lemmas.Option.{none-some, same_Some, slice_get-get_or}
use Rattle.std.proofs.lemmas.Slice.Eq.{bytes_eq-Decides}
use Rattle.c_unit.specs.Tree.{ExternalTree, Declaration, Definition}
use Rattle.c_unit.specs.Units.{Word}
use Rattle.c_rules.specs.Names.{text_at}
use Rattle.c_rules.specs.Units.{File, definitions, external_after}
use Rattle.c_meaning.specs.Objects.{Program, Function, no_function, functions_in, function_at}
use Rattle.c_meaning.specs.Statements.{number_named}

-- ---- numbers of names

low_after : (test : Bool) (n count : ℕ) → (test ≡ false → n < count) → (if test then 0 else n + 1) < suc count
low_after true n count low = omega arith
low_after false n count low = let l : n < count = low refl in omega arith

or_further : (a b : Bool) → (a || b) ≡ true → a ≡ false → b ≡ true
or_further true b e is = absurd (false≢true (sym is))
or_further false true e is = refl
or_further false false e is = e

-- a name that is defined has the number of a function
pub low_named : (words : List Word) (file : File) (xs : List ExternalTree) (name : List ℕ)
    → list_any (λ other. bytes_eq (text_at words other) name) (definitions xs) ≡ true
    → number_named words (functions_in file xs) name < length (functions_in file xs)
low_named words file [] name is = absurd (false≢true is)
low_named words file (Declaration first o ds ∷ xs) name is = low_named words (external_after file (Declaration first o ds)) xs name is
low_named words file (Definition first o token params body ∷ xs) name is =
    let further : File = external_after file (Definition first o token params body) in
    let test : Bool = bytes_eq (text_at words token) name in
    low_after test (number_named words (functions_in further xs) name) (length (functions_in further xs))
    (λ other. low_named words further xs name (or_further test (list_any (λ t. bytes_eq (text_at words t) name) (definitions xs)) is other))

-- ---- the function of a name

named_after : (words : List Word) (g h : Function) (fs : List Function) (name : List ℕ) (test : Bool)
    → test ≡ bytes_eq (text_at words g.name) name
    → slice_get (g ∷ fs) (if test then 0 else number_named words fs name + 1) ≡ Some h → ((slice_get fs (number_named words fs name) ≡ Some h) → text_at words h.name ≡ name) → text_at words h.name ≡ name
named_after words g h fs name true is at further =
    subst (λ (x : Function). text_at words x.name ≡ name) (same_Some g h at) ((bytes_eq-Decides (text_at words g.name) name).0 (sym is))
named_after words g h fs name false is at further =
    let e : number_named words fs name + 1 ≡ suc (number_named words fs name) = omega arith in
    further (subst (λ (n : ℕ). slice_get (g ∷ fs) n ≡ Some h) e at)

pub named_text : (words : List Word) (fs : List Function) (name : List ℕ) (h : Function)
    → slice_get fs (number_named words fs name) ≡ Some h → text_at words h.name ≡ name
named_text words [] name h at = absurd (none-some h at)
named_text words (g ∷ fs) name h at = named_after words g h fs name (bytes_eq (text_at words g.name) name) refl at (λ there. named_text words fs name h there)

pub function_there : (program : Program) (f : ℕ) → f < length program.functions
    → slice_get program.functions f ≡ Some (function_at program f)
function_there program f low =
    let at : slice_get program.functions f ≡ Some (get_or program.functions f no_function) = slice_get-get_or program.functions f no_function low in
    at ∙ ap (λ (g : Function). Some g) (sym (ap (λ (x : Option Function). option_map_or (λ function. function) x no_function) at))
