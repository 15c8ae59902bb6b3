-- Values, in two parts.
--   value_calls within scopes value n rest   the call of this number, if the value is one, and `rest` after it
--   value_term within scopes value n         the value
use Rattle.std.specs.Prelude.{ℕ, List}
use Rattle.alf_program.specs.Tree.{NamedExpression, BodyItem}
use Rattle.c_unit.specs.Tree.{ValueTree, OfExpression, OfCall}
use Rattle.c_rules.specs.Names.{Scope}
use Rattle.c_lowered.specs.Values.{value_of}
use Rattle.c_lowered.specs.Conditions.{Within}
use Rattle.c_lowered.specs.Effects.{call_items, call_value}

abbrev pub value_calls : Within → List Scope → ValueTree → ℕ → List BodyItem → List BodyItem
value_calls within scopes (OfExpression e) n rest = rest
value_calls within scopes (OfCall call) n rest = call_items within scopes call n rest

abbrev pub value_term : Within → List Scope → ValueTree → ℕ → NamedExpression
value_term within scopes (OfExpression e) n = value_of within.program scopes e
value_term within scopes (OfCall call) n = call_value within call n
