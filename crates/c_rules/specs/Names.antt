-- What names are bound to.
--   text_at words token    the bytes of a token
--   worth_at words token   what it is worth as a constant
--   number_of worth        the number of a constant, and constant_type its type
--   Bound                  a variable with its type; an array with the type of its elements; or a function with what it gives and takes
--   Entry                  a name in a scope: the token that declares it, by which its object is known, and what it is bound to
--   Scope                  the names of one scope, the newest first; scopes in a row stand from the innermost outward
--   named words token scope   what this name is bound to in the scope
--   look_up words scopes token   what the name at the token means
--   is_declared words scope token   the name at the token stands in the scope
--   with_name e scopes     one name more in the innermost scope
use Rattle.std.specs.Prelude.{ℕ, ◌==◌, Bool, List, [], ◌∷◌, Option, Some, None, slice_get, if◌then◌else◌}
use Rattle.std.specs.Option.{is_some, option_map_or}
use Rattle.std.specs.Str.{bytes_eq}
use Rattle.c_unit.specs.declared.types.Integer.{Integer}
use Rattle.c_unit.specs.declared.types.Integer.TheVariants.{Int, UnsignedInt}
use Rattle.c_unit.specs.declared.types.Scalar.{Scalar}
use Rattle.c_unit.specs.declared.types.Scalar.TheVariants as scalars
use Rattle.c_unit.specs.declared.types.Outcome.{Outcome}
use Rattle.c_unit.specs.Units.{Word}
use Rattle.c_tokens.specs.declared.worth.Worth.{Worth}
use Rattle.c_tokens.specs.declared.worth.Worth.TheVariants as worth
use Rattle.c_tokens.specs.Worth.{number_worth, character_worth}

-- ---- tokens

abbrev pub text_at : List Word → ℕ → List ℕ
text_at words token = option_map_or (λ word. word.text) (slice_get words token) []

-- a constant that begins with a quote is a character
abbrev pub worth_of_text : List ℕ → Worth
worth_of_text [] = worth.NoConstant
worth_of_text (b ∷ bs) = if b == 39 then character_worth (b ∷ bs) else number_worth (b ∷ bs)

abbrev pub worth_at : List Word → ℕ → Worth
worth_at words token = worth_of_text (text_at words token)

abbrev pub number_of : Worth → ℕ
number_of worth.NoConstant = 0
number_of worth.TooLarge = 0
number_of (worth.Int n) = n
number_of (worth.UnsignedInt n) = n

-- in a unit that some text spells each constant is worth a number
abbrev pub constant_type : Worth → Scalar
constant_type worth.NoConstant = scalars.Integer Int
constant_type worth.TooLarge = scalars.Integer Int
constant_type (worth.Int n) = scalars.Integer Int
constant_type (worth.UnsignedInt n) = scalars.Integer UnsignedInt

-- ---- scopes

pub data Bound : Type 0 where
  Variable : Scalar → Bound
  Array : Integer → Bound
  Function : Outcome → List Scalar → Bound

pub record Entry : Type 0 where
  pub token : ℕ
  pub bound : Bound

abbrev pub Scope : Type 0
Scope = List Entry

-- the entry of this name
abbrev pub named : List Word → ℕ → Scope → Option Entry
named words token [] = None
named words token (e ∷ es) = if bytes_eq (text_at words e.token) (text_at words token) then Some e else named words token es

abbrev pub or_further : Option Entry → Option Entry → Option Entry
or_further None further = further
or_further (Some e) further = Some e

-- what the name at the token means: the innermost scope that has it says
abbrev pub look_up : List Word → List Scope → ℕ → Option Entry
look_up words [] token = None
look_up words (scope ∷ scopes) token = or_further (named words token scope) (look_up words scopes token)

-- the name at the token stands in the scope
abbrev pub is_declared : List Word → Scope → ℕ → Bool
is_declared words scope token = is_some (named words token scope)

abbrev pub innermost : List Scope → Scope
innermost [] = []
innermost (scope ∷ scopes) = scope

-- one name more in the innermost scope
abbrev pub with_name : Entry → List Scope → List Scope
with_name e [] = (e ∷ []) ∷ []
with_name e (scope ∷ scopes) = (e ∷ scope) ∷ scopes
