-- What a whole unit counts, in the order of the text.
--   Names                        the functions that are declared so far, the latest last: the name, and whether it gives a value
--   names_after words names x    those after what stands at file level
--   frames_of words names x      how many frames it takes: one for each object, for each parameter and local, and for each call of a function that is known to give a value
--   elements_of words x          how many elements its arrays have
--   tokens_of x                  the tokens that declare objects, parameters and locals in it
--   IsCounted unit               the unit is within the limits; its tokens ascend, and are identifiers, as are the names of its functions; and no expression is deep
use Rattle.std.specs.Prelude.{◌≡◌, ◌≤◌, ℕ, suc, ◌+◌, Bool, true, false, List, [], ◌∷◌, ◌++◌, length, ⊤, Option, Some, None, if◌then◌else◌}
use Rattle.std.specs.List.{list_all}
use Rattle.std.specs.Option.{is_some}
use Rattle.std.specs.Str.{bytes_eq}
use Rattle.c_unit.specs.Limits.{most_functions, most_frames, most_elements, most_depth}
use Rattle.c_unit.specs.declared.types.Outcome.{Outcome}
use Rattle.c_unit.specs.declared.types.Outcome.TheVariants as outcomes
use Rattle.c_unit.specs.declared.external.Parameter.{Parameter}
use Rattle.c_unit.specs.Tree.{Expression, ShapeTree, GlobalInteger, GlobalArray, FunctionOf, DeclaratorTree, ExternalTree, Declaration, Definition, statements_of}
use Rattle.c_unit.specs.Measures.{depth_of}
use Rattle.c_unit.specs.Units.{Word, UnitTree}
use Rattle.c_rules.specs.Names.{text_at, worth_at, number_of}
use Rattle.c_rules.specs.Recursion.{called_in}
use Rattle.c_rules.specs.Units.{definitions}
use Rattle.c_rules.specs.SpelledExpressions.{InStatements}
use Rattle.c_rules.specs.Counts.{all_tokens_in, all_elements_in}

abbrev pub Names : Type 0
Names = List (List ℕ × Bool)

abbrev pub gives : Outcome → Bool
gives outcomes.Nothing = false
gives (outcomes.Integer i) = true

abbrev pub known_after : Bool → List ℕ → Names → Bool
known_after known text [] = known
known_after known text (d ∷ ds) = known_after (if bytes_eq d.0 text then d.1 else known) text ds

-- the latest declaration with this name says that the function gives a value
abbrev pub is_known : List ℕ → Names → Bool
is_known text names = known_after false text names

-- how many calls at these tokens have a frame
abbrev pub given : List Word → Names → List ℕ → ℕ
given words names [] = 0
given words names (t ∷ ts) = (if is_known (text_at words t) names then 1 else 0) + given words names ts

abbrev pub names_of_shape : List Word → Outcome → ℕ → ShapeTree → Names
names_of_shape words o name (GlobalInteger first) = []
names_of_shape words o name (GlobalArray size firsts) = []
names_of_shape words o name (FunctionOf params) = (text_at words name, gives o) ∷ []

abbrev pub names_of_declarators : List Word → Outcome → List DeclaratorTree → Names
names_of_declarators words o [] = []
names_of_declarators words o (d ∷ ds) = names_of_shape words o d.name d.shape ++ names_of_declarators words o ds

abbrev pub names_after : List Word → Names → ExternalTree → Names
names_after words names (Declaration first o ds) = names ++ names_of_declarators words o ds
names_after words names (Definition first o name params body) = names ++ (text_at words name, gives o) ∷ []

-- ---- objects

abbrev pub tokens_of_shape : ℕ → ShapeTree → List ℕ
tokens_of_shape name (GlobalInteger first) = name ∷ []
tokens_of_shape name (GlobalArray size firsts) = name ∷ []
tokens_of_shape name (FunctionOf params) = []

abbrev pub tokens_of_declarators : List DeclaratorTree → List ℕ
tokens_of_declarators [] = []
tokens_of_declarators (d ∷ ds) = tokens_of_shape d.name d.shape ++ tokens_of_declarators ds

abbrev pub token_if : Option ℕ → List ℕ
token_if None = []
token_if (Some token) = token ∷ []

abbrev pub tokens_of_parameters : List Parameter → List ℕ
tokens_of_parameters [] = []
tokens_of_parameters (p ∷ ps) = token_if p.name ++ tokens_of_parameters ps

abbrev pub tokens_of : ExternalTree → List ℕ
tokens_of (Declaration first o ds) = tokens_of_declarators ds
tokens_of (Definition first o name params body) = tokens_of_parameters params ++ all_tokens_in (statements_of body)

abbrev pub all_tokens_of : List ExternalTree → List ℕ
all_tokens_of [] = []
all_tokens_of (x ∷ xs) = tokens_of x ++ all_tokens_of xs

abbrev pub elements_of_shape : List Word → ShapeTree → ℕ
elements_of_shape words (GlobalInteger first) = 0
elements_of_shape words (GlobalArray size firsts) = number_of (worth_at words size)
elements_of_shape words (FunctionOf params) = 0

abbrev pub elements_of_declarators : List Word → List DeclaratorTree → ℕ
elements_of_declarators words [] = 0
elements_of_declarators words (d ∷ ds) = elements_of_shape words d.shape + elements_of_declarators words ds

abbrev pub elements_of : List Word → ExternalTree → ℕ
elements_of words (Declaration first o ds) = elements_of_declarators words ds
elements_of words (Definition first o name params body) = all_elements_in words (statements_of body)

abbrev pub all_elements_of : List Word → List ExternalTree → ℕ
all_elements_of words [] = 0
all_elements_of words (x ∷ xs) = elements_of words x + all_elements_of words xs

-- ---- frames

abbrev pub frames_of : List Word → Names → ExternalTree → ℕ
frames_of words names (Declaration first o ds) = length (tokens_of_declarators ds)
frames_of words names (Definition first o name params body) =
    length params + (length (all_tokens_in (statements_of body)) + given words (names_after words names (Definition first o name params body)) (called_in (statements_of body)))

abbrev pub all_frames_of : List Word → Names → List ExternalTree → ℕ
all_frames_of words names [] = 0
all_frames_of words names (x ∷ xs) = frames_of words names x + all_frames_of words (names_after words names x) xs

-- ---- names and depths

-- 1 to 28 bytes, as `IsNamed` says of each
abbrev pub Ascends : (List ℕ → Type 0) → List Word → ℕ → ℕ → List ℕ → Type 0
Ascends IsNamed words n m [] = n ≤ m
Ascends IsNamed words n m (t ∷ ts) = (n ≤ t) × IsNamed (text_at words t) × Ascends IsNamed words (suc t) m ts

abbrev pub FunctionStands : (List ℕ → Type 0) → (Expression → Type 0) → List Word → ExternalTree → Type 0
FunctionStands IsNamed P words (Declaration first o ds) = ⊤
FunctionStands IsNamed P words (Definition first o name params body) = IsNamed (text_at words name) × (list_all (λ (p : Parameter). is_some p.name) params ≡ true) × InStatements P P (statements_of body)

abbrev pub FunctionsStand : (List ℕ → Type 0) → (Expression → Type 0) → List Word → List ExternalTree → Type 0
FunctionsStand IsNamed P words [] = ⊤
FunctionsStand IsNamed P words (x ∷ xs) = FunctionStands IsNamed P words x × FunctionsStand IsNamed P words xs

abbrev pub Shallow : Expression → Type 0
Shallow e = depth_of e ≤ most_depth

pub record IsCounted (IsNamed : List ℕ → Type 0) (unit : UnitTree) : Type 0 where
  pub frames : all_frames_of unit.words [] unit.externals ≤ most_frames
  pub elements : all_elements_of unit.words unit.externals ≤ most_elements
  pub functions : length (definitions unit.externals) ≤ most_functions
  pub last : ℕ
  pub tokens : Ascends IsNamed unit.words 0 last (all_tokens_of unit.externals)
  pub stand : FunctionsStand IsNamed Shallow unit.words unit.externals
