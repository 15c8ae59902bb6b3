-- All tokens of a text can be printed.
use Rattle.c_grammar.specs.Tokens.{Place, Seen}
use Rattle.c_grammar.specs.Units.{unit}
use Rattle.c_grammar.specs.UnitWalkLaws.{UnitWalk, unit_goes}
use Rattle.c_text.proofs.StatementsTake.{good_statements}
use Rattle.c_text.proofs.Taking.{Good}
use Rattle.c_text.proofs.TypesTake.{array_takes, declares_takes, good_walk, one_function_takes, quiet_so, some_frames_takes}
use Rattle.c_unit.specs.Tree.{ExternalTree}
use Rattle.grammar.specs.Each.{Each}
use Rattle.grammar.specs.Form.{first_of}
use Rattle.std.proofs.Common.{List, [], false, ◌∷◌, ◌≡◌}
use Rattle.std.specs.Option.{is_some}
use Rattle.std.specs.Prelude.{⊤}

abbrev good_units : UnitWalk good_walk
good_units = record {
  statements = good_statements;
  External = λ x m. ⊤;
  Externals = λ xs m. ⊤;
  frames = λ count. quiet_so (some_frames_takes count);
  functions = quiet_so one_function_takes;
  known = λ text gives. quiet_so (declares_takes text gives);
  arrays = quiet_so array_takes;
  declarations = λ n o ds. tt;
  definitions = λ n o name ps ss m _. tt;
  no_externals = tt;
  more_externals = λ x xs a m _ _. tt;
}

pub nothing_left : (ts : List Seen) → is_some (first_of ts) ≡ false → Each Good ts
nothing_left [] e = tt
nothing_left (t ∷ ts) e = absurd cc

-- all tokens of a whole text
pub unit_takes : (at : Place) (externals : List ExternalTree) (rest : Place) → unit.form.Spells at externals rest
    → Each Good at.ahead
unfolding unit
unit_takes at externals rest s = ((unit_goes good_units).each at externals rest s).1 (nothing_left rest.ahead s.1)
