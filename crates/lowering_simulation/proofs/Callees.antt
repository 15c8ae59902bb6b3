-- Calls of a unit, by the numbers of functions.
--   low_number               a name that is defined has the number of a function
--   number_found             the calls of the program have that number
--   call_falls               each call leads to a lower rank
--   lowered_at, func_is      so does the lowered program number its functions
use Rattle.std.proofs.Common.{◌≡◌, ◌<◌, ℕ, zero, suc, ◌+◌, Bool, true, false, ◌||◌, List, [], ◌∷◌, length, get_or, slice_get, Contains, Option, Some, None, if◌then◌else◌, bytes_eq, unwrap_or, refl, sym, ap, ap₂, ◌∙◌, subst, arith}
use Rattle.std.specs.Prelude.{slice_index}
use Rattle.std.specs.Option.{option_map, option_map_or}
use Rattle.std.specs.List.{list_any}
use Rattle.std.proofs.lemmas.Bool.{false≢true}
use Rattle.std.proofs.lemmas.Option.{none-some, same_Some, slice_get-get_or}
use Rattle.std.proofs.lemmas.Slice.Eq.{bytes_eq-Decides}
use Rattle.lists.specs.MemberLaws.{no_member, first_member, further_member, first_or_further}
use Rattle.graph_walks.specs.Calls.{IsRanked}
use Rattle.alf_faults.specs.Places.{function_place}
use Rattle.alf_check.specs.Numbers.{func_number}
use Rattle.c_unit.specs.Tree.{ExternalTree, Declaration, Definition}
use Rattle.c_unit.specs.Units.{Word, UnitTree}
use Rattle.c_rules.specs.Names.{text_at}
use Rattle.c_rules.specs.Calls.{is_defined}
use Rattle.c_rules.specs.Units.{File, definitions, external_after}
use Rattle.c_rules.specs.Recursion.{called_in, number_at, with_number, numbers_at, rows_of, calls_of}
use Rattle.c_meaning.specs.Objects.{Program, Function, no_function, functions_in, functions_of, function_at}
use Rattle.c_meaning.specs.Statements.{number_named}
use Rattle.c_lowered.specs.Names.{function_name}
use Rattle.c_lowered.specs.Programs.{lowered_function, lowered_from}

-- ---- numbers of names

low_after : (test : Bool) (n count : ℕ) → (test ≡ false → n < count) → (if test then 0 else n + 1) < suc count
low_after true n count low = omega arith
low_after false n count low = let l : n < count = low refl in omega arith

or_further : (a b : Bool) → (a || b) ≡ true → a ≡ false → b ≡ true
or_further true b e is = absurd (false≢true (sym is))
or_further false true e is = refl
or_further false false e is = e

-- a name that is defined has the number of a function
pub low_named : (words : List Word) (file : File) (xs : List ExternalTree) (name : List ℕ)
    → list_any (λ other. bytes_eq (text_at words other) name) (definitions xs) ≡ true
    → number_named words (functions_in file xs) name < length (functions_in file xs)
low_named words file [] name is = absurd (false≢true is)
low_named words file (Declaration first o ds ∷ xs) name is = low_named words (external_after file (Declaration first o ds)) xs name is
low_named words file (Definition first o token params body ∷ xs) name is =
    let further : File = external_after file (Definition first o token params body) in
    let test : Bool = bytes_eq (text_at words token) name in
    low_after test (number_named words (functions_in further xs) name) (length (functions_in further xs))
    (λ other. low_named words further xs name (or_further test (list_any (λ t. bytes_eq (text_at words t) name) (definitions xs)) is other))

found_after : (test : Bool) (x : Option ℕ) (n : ℕ) → (test ≡ false → x ≡ Some n)
    → (if test then Some 0 else option_map (λ k. k + 1) x) ≡ Some (if test then 0 else n + 1)
found_after true x n found = refl
found_after false x n found = ap (option_map (λ k. k + 1)) (found refl)

-- the calls of the program have that number
pub number_found : (words : List Word) (file : File) (xs : List ExternalTree) (token : ℕ)
    → is_defined words (definitions xs) token ≡ true
    → number_at words (definitions xs) token ≡ Some (number_named words (functions_in file xs) (text_at words token))
number_found words file [] token is = absurd (false≢true is)
number_found words file (Declaration first o ds ∷ xs) token is = number_found words (external_after file (Declaration first o ds)) xs token is
number_found words file (Definition first o name params body ∷ xs) token is =
    let further : File = external_after file (Definition first o name params body) in
    let test : Bool = bytes_eq (text_at words name) (text_at words token) in
    found_after test (number_at words (definitions xs) token) (number_named words (functions_in further xs) (text_at words token))
    (λ other. number_found words further xs token (or_further test (is_defined words (definitions xs) token) is other))

-- ---- ranks

row_at : (words : List Word) (names : List ℕ) (file : File) (xs : List ExternalTree) (f : ℕ) (function : Function)
    → slice_get (functions_in file xs) f ≡ Some function
    → get_or (rows_of words names xs) f [] ≡ numbers_at words names (called_in function.body)
row_at words names file [] f function at = absurd (none-some function at)
row_at words names file (Declaration first o ds ∷ xs) f function at = row_at words names (external_after file (Declaration first o ds)) xs f function at
row_at words names file (Definition first o name params body ∷ xs) zero function at = ap (λ (g : Function). numbers_at words names (called_in g.body)) (same_Some _ function at)
row_at words names file (Definition first o name params body ∷ xs) (suc f) function at = row_at words names (external_after file (Definition first o name params body)) xs f function at

member_with : (x : Option ℕ) (numbers : List ℕ) (g : ℕ) → Contains numbers g → Contains (with_number x numbers) g
member_with None numbers g c = c
member_with (Some n) numbers g c = further_member n numbers g c

-- each name that is called has its number among those of the calls
called_numbers : (words : List Word) (names : List ℕ) (tokens : List ℕ) (token : ℕ) (g : ℕ) → Contains tokens token
    → number_at words names token ≡ Some g → Contains (numbers_at words names tokens) g
called_numbers words names [] token g c is = no_member token c
called_numbers words names (t ∷ tokens) token g c is =
    first_or_further t tokens token c
    (λ e. subst (λ (x : Option ℕ). Contains (with_number x (numbers_at words names tokens)) g) (sym (ap (number_at words names) e ∙ is)) (first_member g (numbers_at words names tokens)))
    (λ rest. member_with (number_at words names t) (numbers_at words names tokens) g (called_numbers words names tokens token g rest is))

pub call_falls : (unit : UnitTree) (ranks : List ℕ) → IsRanked (calls_of unit) ranks → (f : ℕ) (function : Function)
    → slice_get (functions_of unit) f ≡ Some function → (token : ℕ)
    → Contains (called_in function.body) token → is_defined unit.words (definitions unit.externals) token ≡ true
    → slice_index ranks (number_named unit.words (functions_of unit) (text_at unit.words token)) < slice_index ranks f
call_falls unit ranks ranked f function at token c is =
    let names : List ℕ = definitions unit.externals in
    let g : ℕ = number_named unit.words (functions_of unit) (text_at unit.words token) in
    ranked.falls f g
    (subst (λ (row : List ℕ). Contains row g) (sym (row_at unit.words names (record { scope = []; made = [] }) unit.externals f function at))
    (called_numbers unit.words names (called_in function.body) token g c (number_found unit.words (record { scope = []; made = [] }) unit.externals token is)))

-- ---- the lowered program

pub lowered_at : (program : Program) (k : ℕ) (fs : List Function) (f : ℕ) (function : Function)
    → slice_get fs f ≡ Some function
    → slice_get (lowered_from program k fs) f ≡ Some (lowered_function program (k + f) function)
lowered_at program k [] f function at = absurd (none-some function at)
lowered_at program k (g ∷ fs) zero function at =
    ap₂ (λ (n : ℕ) (x : Function). Some (lowered_function program n x)) (let same : k ≡ k + 0 = omega arith in same) (same_Some g function at)
lowered_at program k (g ∷ fs) (suc f) function at =
    lowered_at program (suc k) fs f function at ∙ ap (λ (n : ℕ). Some (lowered_function program n function)) (let same : suc k + f ≡ k + suc f = omega arith in same)

place_after : (test other : Bool) (x : Option ℕ) (n count : ℕ) → other ≡ test → (if test then 0 else n + 1) < suc count
    → (n < count → x ≡ Some n)
    → (if other then Some 0 else option_map (λ k. k + 1) x) ≡ Some (if test then 0 else n + 1)
place_after true other x n count same low found = ap (λ (b : Bool). if b then Some 0 else option_map (λ k. k + 1) x) same
place_after false other x n count same low found =
    ap (λ (b : Bool). if b then Some 0 else option_map (λ k. k + 1) x) same ∙ ap (option_map (λ k. k + 1)) (found (omega arith))

-- each function stands at its number
abbrev Same : Program → ℕ → List Function → Type 0
Same program k fs = (i : ℕ) (g : Function) → slice_get fs i ≡ Some g → slice_get program.functions (k + i) ≡ Some g

func_place : (program : Program) (k : ℕ) (fs : List Function) (name : List ℕ) → Same program k fs
    → number_named program.words fs name < length fs
    → function_place (lowered_from program k fs) name ≡ Some (number_named program.words fs name)
func_place program k [] name same low = absurd (omega arith)
func_place program k (g ∷ fs) name same low =
    let here : slice_get program.functions k ≡ Some g = subst (λ (n : ℕ). slice_get program.functions n ≡ Some g) (let e : k + 0 ≡ k = omega arith in e) (same 0 g refl) in
    let text : function_name program k ≡ text_at program.words g.name = ap (λ (x : Option Function). text_at program.words (option_map_or (λ function. function) x no_function).name) here in
    place_after (bytes_eq (text_at program.words g.name) name) (bytes_eq (function_name program k) name) (function_place (lowered_from program (suc k) fs) name)
    (number_named program.words fs name) (length fs) (ap (λ (t : List ℕ). bytes_eq t name) text) low
    (λ further. func_place program (suc k) fs name (λ i h at. subst (λ (n : ℕ). slice_get program.functions n ≡ Some h) (let e : k + suc i ≡ suc k + i = omega arith in e) (same (suc i) h at)) further)

pub func_is : (program : Program) (name : List ℕ)
    → number_named program.words program.functions name < length program.functions
    → func_number (lowered_from program 0 program.functions) name ≡ number_named program.words program.functions name
func_is program name low =
    ap (λ (x : Option ℕ). unwrap_or x 0) (func_place program 0 program.functions name (λ i g at. subst (λ (n : ℕ). slice_get program.functions n ≡ Some g) (let e : i ≡ 0 + i = omega arith in e) at) low)

-- ---- the function of a name

named_after : (words : List Word) (g h : Function) (fs : List Function) (name : List ℕ) (test : Bool)
    → test ≡ bytes_eq (text_at words g.name) name
    → slice_get (g ∷ fs) (if test then 0 else number_named words fs name + 1) ≡ Some h → ((slice_get fs (number_named words fs name) ≡ Some h) → text_at words h.name ≡ name) → text_at words h.name ≡ name
named_after words g h fs name true is at further =
    subst (λ (x : Function). text_at words x.name ≡ name) (same_Some g h at) ((bytes_eq-Decides (text_at words g.name) name).0 (sym is))
named_after words g h fs name false is at further =
    let e : number_named words fs name + 1 ≡ suc (number_named words fs name) = omega arith in
    further (subst (λ (n : ℕ). slice_get (g ∷ fs) n ≡ Some h) e at)

pub named_text : (words : List Word) (fs : List Function) (name : List ℕ) (h : Function)
    → slice_get fs (number_named words fs name) ≡ Some h → text_at words h.name ≡ name
named_text words [] name h at = absurd (none-some h at)
named_text words (g ∷ fs) name h at = named_after words g h fs name (bytes_eq (text_at words g.name) name) refl at (λ there. named_text words fs name h there)

pub function_there : (program : Program) (f : ℕ) → f < length program.functions
    → slice_get program.functions f ≡ Some (function_at program f)
function_there program f low =
    let at : slice_get program.functions f ≡ Some (get_or program.functions f no_function) = slice_get-get_or program.functions f no_function low in
    at ∙ ap (λ (g : Function). Some g) (sym (ap (λ (x : Option Function). option_map_or (λ function. function) x no_function) at))
