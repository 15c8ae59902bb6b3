-- Functions by their numbers and by their names.
--   names_are, signatures_are   the names of all functions, and what they give and take
--   name_at                     the name of the function of this number
--   signature_is                what that function gives and takes
--   named_some, named_none      what the function gives and takes whose name stands at a token
use Rattle.std.proofs.Common.{◌≡◌, ◌+◌, ℕ, zero, suc, List, [], ◌∷◌, map, length, Option, Some, None, slice_get, slice_index_or, refl, ap, sym, ◌∙◌, arith}
use Rattle.std.specs.Option.{option_map, option_map_or}
use Rattle.std.specs.Str.{bytes_eq}
use Rattle.lists.specs.TestLaws.{by_test}
use Rattle.c_unit.specs.Tree.{ExternalTree, Declaration, Definition}
use Rattle.c_unit.specs.Units.{Word, UnitTree}
use Rattle.c_rules.specs.Names.{text_at}
use Rattle.c_rules.specs.Recursion.{number_at}
use Rattle.c_rules.specs.Units.{File, definitions, external_after}
use Rattle.c_meaning.specs.Objects.{Function, functions_in, functions_of, function_at, no_function, program_of}
use Rattle.c_meaning.specs.Statements.{number_named}
use Rattle.object_layout.specs.Views.{Signature, signature_at, signatures_of, signature_or_none, named_function}

abbrev name_of : Function → ℕ
name_of f = f.name

names_in : (file : File) (xs : List ExternalTree) → map name_of (functions_in file xs) ≡ definitions xs
names_in file [] = refl
names_in file (Declaration first o ds ∷ xs) = names_in (external_after file (Declaration first o ds)) xs
names_in file (Definition first o name params body ∷ xs) = ap (λ (ns : List ℕ). name ∷ ns) (names_in (external_after file (Definition first o name params body)) xs)

signatures_in : (file : File) (xs : List ExternalTree) → map signature_at (functions_in file xs) ≡ signatures_of xs
signatures_in file [] = refl
signatures_in file (Declaration first o ds ∷ xs) = signatures_in (external_after file (Declaration first o ds)) xs
signatures_in file (Definition first o name params body ∷ xs) =
    ap (λ (ss : List Signature). record { result = o; parameters = params } ∷ ss) (signatures_in (external_after file (Definition first o name params body)) xs)

abbrev function_or_none : List Function → ℕ → Function
function_or_none fs n = option_map_or (λ f. f) (slice_get fs n) no_function

name_of_nth : (fs : List Function) (n : ℕ) → slice_index_or (map name_of fs) n 0 ≡ (function_or_none fs n).name
name_of_nth [] n = refl
name_of_nth (f ∷ fs) zero = refl
name_of_nth (f ∷ fs) (suc n) = name_of_nth fs n

signature_of_nth : (fs : List Function) (n : ℕ)
    → signature_or_none (map signature_at fs) n ≡ signature_at (function_or_none fs n)
signature_of_nth [] n = refl
signature_of_nth (f ∷ fs) zero = refl
signature_of_nth (f ∷ fs) (suc n) = signature_of_nth fs n

-- the name of the function of this number
pub name_at : (unit : UnitTree) (n : ℕ)
    → slice_index_or (definitions unit.externals) n 0 ≡ (function_at (program_of unit) n).name
name_at unit n = ap (λ (ns : List ℕ). slice_index_or ns n 0) (sym (names_in (record { scope = []; made = [] }) unit.externals)) ∙ name_of_nth (functions_of unit) n

-- what that function gives and takes
pub signature_is : (unit : UnitTree) (n : ℕ)
    → signature_or_none (signatures_of unit.externals) n ≡ signature_at (function_at (program_of unit) n)
signature_is unit n =
    ap (λ (ss : List Signature). signature_or_none ss n) (sym (signatures_in (record { scope = []; made = [] }) unit.externals)) ∙ signature_of_nth (functions_of unit) n

shifted : (number : Option ℕ) (n : ℕ)
    → option_map_or (λ k. k) (option_map (λ k. k + 1) number) (suc n) ≡ option_map_or (λ k. k) number n + 1
shifted None n = omega arith
shifted (Some k) n = refl

-- the number by which a name is looked up
numbered : (words : List Word) (fs : List Function) (token : ℕ) → option_map_or (λ k. k) (number_at words (map name_of fs) token) (length fs) ≡ number_named words fs (text_at words token)
numbered words [] token = refl
numbered words (f ∷ fs) token =
    by_test (bytes_eq (text_at words f.name) (text_at words token)) (λ e. rw e refl)
    (λ e. rw e (shifted (number_at words (map name_of fs) token) (length fs) ∙ ap (λ (n : ℕ). n + 1) (numbered words fs token)))

past_all : (fs : List Function) → function_or_none fs (length fs) ≡ no_function
past_all [] = refl
past_all (f ∷ fs) = past_all fs

number_in : (unit : UnitTree) (token : ℕ) → option_map_or (λ k. k) (number_at unit.words (definitions unit.externals) token) (length (functions_of unit)) ≡ number_named unit.words (functions_of unit) (text_at unit.words token)
number_in unit token =
    ap (λ (ns : List ℕ). option_map_or (λ k. k) (number_at unit.words ns token) (length (functions_of unit))) (sym (names_in (record { scope = []; made = [] }) unit.externals))
    ∙ numbered unit.words (functions_of unit) token

pub named_some : (unit : UnitTree) (token n : ℕ) → number_at unit.words (definitions unit.externals) token ≡ Some n
    → signature_or_none (signatures_of unit.externals) n ≡ signature_at (named_function (program_of unit) token)
named_some unit token n e =
    let here : n ≡ number_named unit.words (functions_of unit) (text_at unit.words token) = sym (ap (λ (k : Option ℕ). option_map_or (λ m. m) k (length (functions_of unit))) e) ∙ number_in unit token in
    signature_is unit n ∙ ap (λ (k : ℕ). signature_at (function_at (program_of unit) k)) here

pub named_none : (unit : UnitTree) (token : ℕ) → number_at unit.words (definitions unit.externals) token ≡ None
    → named_function (program_of unit) token ≡ no_function
named_none unit token e =
    let here : length (functions_of unit) ≡ number_named unit.words (functions_of unit) (text_at unit.words token) = sym (ap (λ (k : Option ℕ). option_map_or (λ m. m) k (length (functions_of unit))) e) ∙ number_in unit token in
    ap (λ (k : ℕ). function_at (program_of unit) k) (sym here) ∙ past_all (functions_of unit)
