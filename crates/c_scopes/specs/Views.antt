-- What the code's values stand for.
--   bound_of b    what a name is bound to
--   entry_of e    a name in a scope
--   others xs     all but the first, if there is one
--   Known         the words of a unit, and the scopes in a row where something stands in it
--   entered, declared_in e, left   what is known a scope further in, with one name more in the innermost scope, and a scope further out
use Rattle.std.specs.Prelude.{List, [], ◌∷◌}
use Rattle.c_unit.specs.Units.{Word}
use Rattle.c_scopes.specs.declared.entry.Bound as bounds
use Rattle.c_scopes.specs.declared.entry.Bound.TheVariants as variants
use Rattle.c_scopes.specs.declared.entry.Entry as entries
use Rattle.c_rules.specs.Names.{Bound, Variable, Array, Function, Entry, Scope, with_name}

abbrev pub bound_of : bounds.Bound → Bound
bound_of (variants.Variable t) = Variable t
bound_of (variants.Array i) = Array i
bound_of (variants.Function o ps) = Function o ps.items

abbrev pub entry_of : entries.Entry → Entry
entry_of e = record { token = e.token; bound = bound_of e.bound }

-- the words of a unit, and the scopes in a row where something stands in it
pub record Known : Type 0 where
  pub words : List Word
  pub scopes : List Scope

-- all but the first, if there is one
abbrev pub others : {A : Type 0} → List A → List A
others [] = []
others (x ∷ xs) = xs

-- a scope more, inside the others
abbrev pub entered : Known → Known
entered known = record known { scopes = [] ∷ known.scopes }

-- one name more in the innermost scope
abbrev pub declared_in : Entry → Known → Known
declared_in e known = record known { scopes = with_name e known.scopes }

-- the innermost scope is left
abbrev pub left : Known → Known
left known = record known { scopes = others known.scopes }
