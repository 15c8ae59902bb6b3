-- The commands as `clap` reads them.
--   rules_of     the arguments of a command
--   shape_in     a command of the table
--   program      the whole command, with one subcommand for each form
use Rattle.std.specs.Prelude.{true, false, Bool, List, [], ◌∷◌, ◌++◌, map, Some, codes}
use Rattle.clap.specs.Walk.{Rule}
use Rattle.clap.specs.Simple.{App, Shape, new_rule, new_shape, on_top}
use Rattle.clap.specs.declared.builder.action.ArgAction.TheVariants.{Set, SetTrue}
use Rattle.sweet_words.specs.Forms.{Text, Form, forms}

abbrev pub positional_rule : Text → Rule
positional_rule name = record (new_rule name) { action = Some Set; required = true }

abbrev pub value_rule : Text → Rule
value_rule name = record (new_rule name) { long = Some name; action = Some Set }

abbrev pub flag_rule : Text → Rule
flag_rule name = record (new_rule name) { long = Some name; action = Some SetTrue }

-- the command with more arguments
abbrev pub with_rules : App → List Rule → App
with_rules app rules = on_top (λ s. record s { rules = s.rules ++ rules }) app

abbrev pub rules_of : Form → List Rule
rules_of form = map positional_rule form.positionals ++ (map value_rule form.values ++ map flag_rule form.flags)

abbrev pub shape_in : Form → Shape
shape_in form = record (new_shape form.name) { rules = rules_of form }

-- no name of the program among the words, no help or version, and a subcommand is required
abbrev pub top : Shape
top = record (new_shape (codes "sweet")) {
  is_leaf = false;
  no_binary_name = true;
  disable_help_flag = true;
  disable_help_subcommand = true;
  disable_version_flag = true;
  subcommand_required = true;
}

-- the list has no element
abbrev pub has_none : {X : Type 0} → List X → Bool
has_none [] = true
has_none (x ∷ xs) = false

-- the program with these forms so far, which is a leaf while it has none
abbrev pub program_so_far : List Form → App
program_so_far table = record { top = record top { is_leaf = has_none table }; subs = map shape_in table }

abbrev pub program_of : List Form → App
program_of table = record { top = top; subs = map shape_in table }

abbrev pub program : App
program = program_of forms
