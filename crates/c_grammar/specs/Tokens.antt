-- Single tokens, and what is counted. Each rule is exact by its type.
--   Fault              how a text departs; a place is the number of a token, or none at the end of the text
--   Seen               a token as the grammar sees it
--   Place              where a text is read from: the tokens ahead, and what there may still be of what is counted
--   Rule some A        a part of the grammar that spells values of type A, and takes some of the text where some is true
--   misfit others t    the departure of a token that does not fit where these others might stand
--   mark w others      the token with this text; its number
--   one_function, some_frames, some_elements, declares   what is counted, and which functions are known to give a value
use Rattle.std.specs.Prelude.{ℕ, ◌+◌, ◌||◌, List, [], ◌∷◌, ◌++◌, Bool, true, false, Result, Ok, Err, Option, Some, None, if◌then◌else◌}
use Rattle.std.specs.Str.{bytes_eq}
use Rattle.flow_base.specs.declared.place.Which.{Which}
use Rattle.flow_base.specs.declared.place.Which.TheVariants as which
pub use Rattle.c_unit.specs.Limits.{most_functions, most_frames, most_elements, most_depth, most_parens, most_nesting}
use Rattle.grammar.specs.Form.{At, first}
use Rattle.grammar.specs.Rule.{token, judge, refuse, spend, ◌>>=◌, ◌>>◌}
use Rattle.grammar.specs.Rule as rules
use Rattle.c_grammar.specs.declared.symbol.Symbol.{Symbol}
use Rattle.c_grammar.specs.declared.symbol.Symbol.TheVariants as symbols
use Rattle.c_grammar.specs.declared.others.Others.{Others}
use Rattle.c_grammar.specs.Symbols.{goes_with}

-- how a text departs from the grammar
pub data Fault : Type 0 where
  -- this token does not fit, or the end of the text does not
  Syntax : Option ℕ → Fault
  -- this number is too large
  Number : ℕ → Fault
  -- this token is outside the profile
  OutOfProfile : ℕ → Fault
  -- this quantity comes to this number, which is above its limit
  Limit : Which → ℕ → Fault

-- a token: what it is to the grammar, its number, and its bytes
pub record Seen : Type 0 where
  pub symbol : Symbol
  pub number : ℕ
  pub text : List ℕ

-- how many functions, frames and elements there may still be, and the functions that are declared, the latest last: the
-- name, and whether it gives a value
pub record Room : Type 0 where
  pub functions : ℕ
  pub frames : ℕ
  pub elements : ℕ
  pub names : List (List ℕ × Bool)

abbrev pub Place : Type 0
Place = At Seen Room

abbrev pub Rule : Bool → Type 0 → Type 1
Rule some A = rules.Rule Seen Room Fault some A

-- ---- one token

-- a number that is too large comes first, then what has no place, then what might stand here
abbrev pub misfit_of : Symbol → Bool → ℕ → Fault
misfit_of symbols.TooLarge may n = Number n
misfit_of symbols.Unplaced may n = OutOfProfile n
misfit_of _ true n = OutOfProfile n
misfit_of _ false n = Syntax (Some n)

abbrev pub misfit : Others → Seen → Fault
misfit o t = misfit_of t.symbol (goes_with o t.symbol) t.number

-- one token; at the end of the text none fits
abbrev pub one : {A : Type 0} → (Seen → Result A Fault) → Rule true A
one fit = token (λ at. Syntax None) (λ t at. fit t)

abbrev pub fits_text : List ℕ → Others → Seen → Result ℕ Fault
fits_text w o t = if bytes_eq t.text w then Ok t.number else Err (misfit o t)

-- the token with this text
unfoldable pub mark : List ℕ → Others → Rule true ℕ
mark w o = one (fits_text w o)

abbrev pub fits_name_of : Symbol → Others → Seen → Result Seen Fault
fits_name_of symbols.Name o t = Ok t
fits_name_of _ o t = Err (misfit o t)

-- a name
unfoldable pub name : Others → Rule true Seen
name o = one (λ t. fits_name_of t.symbol o t)

abbrev pub fits_constant_of : Symbol → Others → Seen → Result (ℕ × ℕ) Fault
fits_constant_of (symbols.Constant n) o t = Ok (t.number, n)
fits_constant_of _ o t = Err (misfit o t)

-- a constant: its number as a token, and its value
unfoldable pub constant : Others → Rule true (ℕ × ℕ)
constant o = one (λ t. fits_constant_of t.symbol o t)

-- ---- what comes next

abbrev pub is_first : (Seen → Bool) → Option Seen → Bool
is_first is None = false
is_first is (Some t) = is t

-- the next token has this text
abbrev pub at_text : List ℕ → Place → Bool
at_text w at = is_first (λ t. bytes_eq t.text w) (first at)

-- the next token is such a symbol
abbrev pub at_symbol : (Symbol → Bool) → Place → Bool
at_symbol is at = is_first (λ t. is t.symbol) (first at)

abbrev pub number_of : Option Seen → ℕ
number_of None = 0
number_of (Some t) = t.number

-- the number of the next token
unfoldable pub next_number : Rule false ℕ
next_number = judge (λ at. Ok (number_of (first at)))

-- the next token does not fit, or the text ends
abbrev pub misfit_next : Others → Option Seen → Fault
misfit_next o None = Syntax None
misfit_next o (Some t) = misfit o t

-- whether the next token has this text
unfoldable pub sees : List ℕ → Rule false Bool
sees w = judge (λ at. Ok (at_text w at))

-- whether the next token is such a symbol
abbrev pub sees_symbol : (Symbol → Bool) → Rule false Bool
sees_symbol is = judge (λ at. Ok (at_symbol is at))

-- the next token has this text, or does not fit
unfoldable pub before : List ℕ → Others → Rule false (Unit {0})
before w o = judge (λ at. if at_text w at then Ok tt else Err (misfit_next o (first at)))

-- the next token has one of these texts, or does not fit
unfoldable pub before_either : List ℕ → List ℕ → Others → Rule false (Unit {0})
before_either w v o = judge (λ at. if at_text w at || at_text v at then Ok tt else Err (misfit_next o (first at)))

-- the one rule where it is true, the other where not
abbrev pub either : {some : Bool} {A : Type 0} → Bool → Rule some A → Rule some A → Rule some A
either true p q = p
either false p q = q

abbrev pub over : {A : Type 0} {some : Bool} → Which → ℕ → Rule some A
over w n = refuse (λ at. Limit w (n + 1))

-- ---- what is counted

-- one more function is defined
unfoldable pub one_function : Rule false (Unit {0})
one_function = spend (λ room. room.functions) (λ room n. record { functions = n; frames = room.frames; elements = room.elements; names = room.names }) (Limit which.Functions (most_functions + 1)) 1

-- so many more frames
unfoldable pub some_frames : ℕ → Rule false (Unit {0})
some_frames count = spend (λ room. room.frames) (λ room n. record { functions = room.functions; frames = n; elements = room.elements; names = room.names }) (Limit which.Frames (most_frames + 1)) count

-- so many more elements of arrays
unfoldable pub some_elements : ℕ → Rule false (Unit {0})
some_elements count = spend (λ room. room.elements) (λ room n. record { functions = room.functions; frames = room.frames; elements = n; names = room.names }) (Limit which.Elements (most_elements + 1)) count

-- the function with this name is declared, and gives a value or not
unfoldable pub declares : List ℕ → Bool → Rule false (Unit {0})
declares text gives = spend (λ room. 0) (λ room n. record { functions = room.functions; frames = room.frames; elements = room.elements; names = room.names ++ (text, gives) ∷ [] }) (Limit which.Functions 0) 0

-- the latest declaration with this name says that the function gives a value
abbrev pub latest_gives : List ℕ → Bool → List (List ℕ × Bool) → Bool
latest_gives text known [] = known
latest_gives text known (d ∷ ds) = latest_gives text (if bytes_eq d.0 text then d.1 else known) ds

unfoldable pub gives_value : List ℕ → List (List ℕ × Bool) → Bool
gives_value text names = latest_gives text false names
