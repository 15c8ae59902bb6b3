-- The commands, and what each takes after its name.
--   Text      a word, as its bytes
--   Form      a command: its name, its positionals, its options with a value, its flags
--   named     the first of some names that is this text
--   forms     the table of the commands
--   form_named  the form of a command by its name
use Rattle.std.specs.Prelude.{ℕ, List, [], ◌∷◌, Option, find, codes}
use Rattle.std.specs.Str.{bytes_eq}

abbrev pub Text : Type 0
Text = List ℕ

-- a command: each positional is required, and an option may be left out
pub record Form : Type 0 where
  pub name : Text
  pub positionals : List Text
  pub values : List Text
  pub flags : List Text

-- the first of the names that is this text
abbrev pub named : Text → List Text → Option Text
named text names = find (λ name. bytes_eq name text) names

abbrev pub analyse_form : Form
analyse_form = record {
  name = codes "analyse";
  positionals = codes "file" ∷ [];
  values = codes "root" ∷ codes "inputs" ∷ codes "costs" ∷ codes "turns" ∷ codes "merge" ∷ codes "pivots" ∷ [];
  flags = codes "cert" ∷ [];
}

abbrev pub check_form : Form
check_form = record {
  name = codes "check";
  positionals = codes "file" ∷ codes "report" ∷ [];
  values = codes "root" ∷ codes "inputs" ∷ codes "costs" ∷ [];
  flags = [];
}

abbrev pub replay_form : Form
replay_form = record {
  name = codes "replay";
  positionals = codes "file" ∷ codes "report" ∷ [];
  values = codes "at" ∷ codes "root" ∷ codes "inputs" ∷ codes "costs" ∷ [];
  flags = [];
}

abbrev pub lower_form : Form
lower_form = record { name = codes "lower"; positionals = codes "file" ∷ []; values = codes "root" ∷ []; flags = [] }

abbrev pub print_form : Form
print_form = record { name = codes "print"; positionals = codes "file" ∷ []; values = []; flags = [] }

abbrev pub run_form : Form
run_form = record {
  name = codes "run";
  positionals = codes "file" ∷ [];
  values = codes "root" ∷ codes "inputs" ∷ codes "costs" ∷ codes "turns" ∷ [];
  flags = [];
}

abbrev pub generate_form : Form
generate_form = record { name = codes "generate"; positionals = codes "number" ∷ []; values = []; flags = [] }

abbrev pub migrate_form : Form
migrate_form = record { name = codes "migrate"; positionals = codes "report" ∷ []; values = []; flags = [] }

abbrev pub cache_form : Form
cache_form = record {
  name = codes "cache";
  positionals = codes "file" ∷ [];
  values = codes "sets" ∷ codes "ways" ∷ codes "line" ∷ codes "penalty"
      ∷ codes "root" ∷ codes "inputs" ∷ codes "costs" ∷ codes "turns" ∷ codes "merge" ∷ [];
  flags = [];
}

abbrev pub worst_form : Form
worst_form = record {
  name = codes "worst";
  positionals = codes "file" ∷ [];
  values = codes "splits" ∷ codes "root" ∷ codes "inputs" ∷ codes "costs" ∷ codes "turns" ∷ codes "merge" ∷ codes "pivots" ∷ [];
  flags = [];
}

abbrev pub tasks_form : Form
tasks_form = record { name = codes "tasks"; positionals = codes "file" ∷ []; values = []; flags = [] }

-- the commands that are built
abbrev pub forms : List Form
forms = analyse_form ∷ check_form ∷ replay_form ∷ lower_form ∷ print_form ∷ run_form ∷ generate_form ∷ migrate_form
    ∷ cache_form ∷ worst_form ∷ tasks_form ∷ []

-- the form of the command that the word names
abbrev pub form_named : Text → List Form → Option Form
form_named word table = find (λ form. bytes_eq form.name word) table
