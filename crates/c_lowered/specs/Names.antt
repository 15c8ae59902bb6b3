-- Names in a lowered program.
--   function_name program f   a function keeps its name
--   label_name program f k    the label of this number in a function: `f::Lk`
--   call_name program f k     the frame of the result of the function's call of this number: `f::$k`
--   frame_names program       the frames of the objects, in their order: a global `x` is `x`; a parameter or local x of f is `f::x`, and
--                             its k-th further declaration in f `f::x::k`
--   name_at program object    the name of the frame of the object of this number
--   frame_of program token    that of the object which this token declares
use Rattle.std.specs.Prelude.{ℕ, zero, suc, ◌==◌, ◌&&◌, ◌++◌, Bool, true, false, List, [], ◌∷◌, Option, Some, None, slice_get, if◌then◌else◌, codes, decimal}
use Rattle.std.specs.Option.{option_map_or}
use Rattle.std.specs.Str.{bytes_eq}
use Rattle.c_unit.specs.Units.{Word}
use Rattle.c_rules.specs.Names.{text_at}
use Rattle.c_meaning.specs.Objects.{Object, Program, function_at, object_at}

-- ---- functions, labels, calls

abbrev pub function_name : Program → ℕ → List ℕ
function_name program f = text_at program.words (function_at program f).name

-- a name of a function's own
abbrev pub within : Program → ℕ → List ℕ → List ℕ
within program f name = function_name program f ++ (codes "::" ++ name)

abbrev pub label_name : Program → ℕ → ℕ → List ℕ
label_name program f k = within program f (codes "L" ++ decimal k)

abbrev pub call_name : Program → ℕ → ℕ → List ℕ
call_name program f k = within program f (codes "$" ++ decimal k)

-- ---- objects

abbrev pub same_owner : Option ℕ → Option ℕ → Bool
same_owner None None = true
same_owner None (Some g) = false
same_owner (Some f) None = false
same_owner (Some f) (Some g) = f == g

-- another declaration of the same name by the same owner
abbrev pub is_like : List Word → Object → Object → Bool
is_like words o other = same_owner o.owner other.owner && bytes_eq (text_at words o.token) (text_at words other.token)

abbrev pub count_like : List Word → Object → List Object → ℕ
count_like words o [] = 0
count_like words o (other ∷ others) = if is_like words o other then suc (count_like words o others) else count_like words o others

-- what a further declaration adds to the name
abbrev pub further : ℕ → List ℕ
further zero = []
further (suc k) = codes "::" ++ decimal (suc k)

abbrev pub owned_name : Program → Option ℕ → List ℕ → ℕ → List ℕ
owned_name program None text k = text
owned_name program (Some f) text k = within program f (text ++ further k)

abbrev pub name_of_object : Program → List Object → Object → List ℕ
name_of_object program earlier o = owned_name program o.owner (text_at program.words o.token) (count_like program.words o earlier)

abbrev pub names_from : Program → List Object → List Object → List (List ℕ)
names_from program earlier [] = []
names_from program earlier (o ∷ os) = name_of_object program earlier o ∷ names_from program (o ∷ earlier) os

abbrev pub frame_names : Program → List (List ℕ)
frame_names program = names_from program [] program.objects

abbrev pub name_at : Program → ℕ → List ℕ
name_at program object = option_map_or (λ name. name) (slice_get (frame_names program) object) []

abbrev pub frame_of : Program → ℕ → List ℕ
frame_of program token = name_at program (object_at program.objects token)
