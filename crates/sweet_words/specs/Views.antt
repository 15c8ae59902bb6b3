-- The table of the commands in the code, as definitions see it.
use Rattle.std.specs.Prelude.{map}
use Rattle.clap.specs.Walk.{Rule}
use Rattle.sweet_words.specs.declared.forms.Form.{Form as Row}
use Rattle.sweet_words.specs.declared.program.Place.{Place}
use Rattle.sweet_words.specs.declared.program.Place.TheVariants.{Positional, Value, Flag}
use Rattle.sweet_words.specs.Forms.{Text, Form}
use Rattle.sweet_words.specs.Shapes.{positional_rule, value_rule, flag_rule}

-- the form that a row of the table writes
abbrev pub form_in : Row → Form
form_in row = record {
  name = row.name.now;
  positionals = map (λ name. name.now) row.positionals.now;
  values = map (λ name. name.now) row.values.now;
  flags = map (λ name. name.now) row.flags.now;
}

-- what an argument is read as
abbrev pub rule_at : Place → Text → Rule
rule_at Positional name = positional_rule name
rule_at Value name = value_rule name
rule_at Flag name = flag_rule name
