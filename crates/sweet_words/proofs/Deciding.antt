-- What `clap` makes of all the words is the command of the words.
use Rattle.std.specs.Prelude.{◌≡◌, true, ⊤, List, [], ◌∷◌, Option, None, Some, option_map, option_and_then}
use Rattle.std.specs.Str.{bytes_eq}
use Rattle.std.proofs.Common.{refl, sym, ap, ◌∙◌, subst}
use Rattle.clap.specs.Kinds.{Kinds}
use Rattle.clap.specs.Walk.{Row, nothing_held, rows_after, first_of, stop_after}
use Rattle.clap.specs.Simple.{App, subcommand_of, entered, names_of}
use Rattle.clap.specs.declared.error.kind.ErrorKind.{ErrorKind}
use Rattle.clap.specs.Faults.{fault_of, built_fault, is_simple_and_free}
use Rattle.sweet_words.specs.Forms.{Text, Form, forms, form_named}
use Rattle.sweet_words.specs.Given.{Uses, uses_of, value_in}
use Rattle.sweet_words.specs.Shapes.{program, program_of}
use Rattle.sweet_words.specs.Commands.{command_of, command_in, command_named}
use Rattle.sweet_words.specs.Matched.{command_from}
use Rattle.sweet_words.proofs.Looks.{by_test}
use Rattle.sweet_words.proofs.Walking.{built_rules, HasSeats, guard}
use Rattle.sweet_words.proofs.Serving.{HasValues, serves}
use Rattle.sweet_words.proofs.Closing.{level_is, rows_with_defaults}
use Rattle.sweet_words.proofs.Entering.{built_program, built_is, named_level, unnamed_fails, empty_fails, entered_named}
use Rattle.sweet_words.proofs.Finding.{value_is}

-- ---- the table

-- each argument of each form is found where it stands and by its name
abbrev pub IsTable : List Form → Type 0
IsTable [] = ⊤
IsTable (form ∷ table) = HasSeats (built_rules form) 1 form.positionals × HasValues (built_rules form) form.values × IsTable table

-- no two arguments of a form have one name: each line of the table computes
forms_are : IsTable forms
forms_are = (
  (refl, refl, refl),
  (refl, (refl, (refl, (refl, (refl, (refl, tt)))))),
  (
    (refl, refl, (refl, refl, refl)),
    (refl, (refl, (refl, tt))),
    (
      (refl, refl, (refl, refl, refl)),
      (refl, (refl, (refl, (refl, tt)))),
      (
        (refl, refl, refl),
        (refl, tt),
        (
          (refl, refl, refl),
          tt,
          (
            (refl, refl, refl),
            (refl, (refl, (refl, (refl, tt)))),
            (
              (refl, refl, refl),
              tt,
              (
                (refl, refl, refl),
                tt,
                (
                  (refl, refl, refl),
                  (refl, (refl, (refl, (refl, (refl, (refl, (refl, (refl, (refl, tt))))))))),
                  (
                    (refl, refl, refl),
                    (refl, (refl, (refl, (refl, (refl, (refl, (refl, tt))))))),
                    (
                      (refl, refl, refl),
                      tt,
                      tt,
                    ),
                  ),
                ),
              ),
            ),
          ),
        ),
      ),
    ),
  ),
)

pub record IsForm (form : Form) : Type 0 where
  pub seats : HasSeats (built_rules form) 1 form.positionals
  pub values : HasValues (built_rules form) form.values

form_is : (word : Text) (table : List Form) (form : Form) → IsTable table → form_named word table ≡ Some form
    → IsForm form
form_is word [] form has e = absurd (cc)
form_is word (first ∷ table) form has e = by_test (bytes_eq first.name word)
    (λ here. let same : Some first ≡ Some form = rw here at e in let it : first ≡ form = cc in subst IsForm it (record { seats = has.0; values = has.1 }))
    (λ past. let later : form_named word table ≡ Some form = rw past at e in form_is word table form has.2 later)

pub simple : is_simple_and_free program ≡ true
simple = refl

-- ---- the words

fault_is : (table : List Form) (words : List Text)
    → fault_of (program_of table) words ≡ built_fault (built_program table) nothing_held words
fault_is table words = ap (λ (a : App). built_fault a nothing_held words) (built_is table)

subcommand_is : (name : Text) (words : List Text) (form : Form) → form_named name forms ≡ Some form
    → subcommand_of program (name ∷ words) ≡ Some (form.name, rows_after (built_rules form) [] words)
subcommand_is name words form e =
    ap (λ (a : App). entered a (stop_after a.top.rules (names_of a) (name ∷ words))) (built_is forms) ∙ entered_named name words forms form e

-- the words of one command of a table, by the fault of the whole
pub level_at : (table : List Form) → IsTable table → (name : Text) (words : List Text) (form : Form)
    → form_named name table ≡ Some form
    → guard (fault_of (program_of table) (name ∷ words)) (Some (rows_after (built_rules form) [] words)) ≡ option_map (rows_with_defaults form) (uses_of form words)
level_at table are name words form e =
    let is = form_is name table form are e in
    ap (λ kinds. guard kinds (Some (rows_after (built_rules form) [] words))) (fault_is table (name ∷ words))
    ∙ named_level name words table form (Some (rows_after (built_rules form) [] words)) e
    ∙ level_is form is.seats (serves form is.values) words

rows_make : (form : Form) (rows : List Row) (found : Option Uses)
    → Some rows ≡ option_map (rows_with_defaults form) found
    → command_named form.name (λ id. first_of id rows) ≡ option_and_then (λ uses. command_named form.name (value_in form uses)) found
rows_make form rows None e = absurd (cc)
rows_make form rows (Some uses) e =
    let same : rows ≡ rows_with_defaults form uses = cc in
    ap (λ (rs : List Row). command_named form.name (λ id. first_of id rs)) same ∙ ap (command_named form.name) (λ i id. value_is form uses id i)

no_rows : (form : Form) (found : Option Uses) → None ≡ option_map (rows_with_defaults form) found
    → option_and_then (λ uses. command_named form.name (value_in form uses)) found ≡ None
no_rows form None e = refl
no_rows form (Some uses) e = absurd (cc)

-- words that are taken are the command that their rows make
pub taken : (words : List Text) → fault_of program words ≡ []
    → command_from (subcommand_of program words) ≡ command_of words
taken [] none = absurd (let bad : guard (fault_of program []) (Some []) ≡ None = ap (λ kinds. guard kinds (Some [])) (fault_is forms []) ∙ empty_fails forms (Some []) in
    let good : Some [] ≡ None = rw none at bad in cc)
taken (name ∷ words) none = go (form_named name forms) refl
  where
    go : (found : Option Form) → form_named name forms ≡ found
        → command_from (subcommand_of program (name ∷ words)) ≡ command_of (name ∷ words)
    go None e = absurd (let bad : guard (fault_of program (name ∷ words)) (Some []) ≡ None =
        ap (λ kinds. guard kinds (Some [])) (fault_is forms (name ∷ words)) ∙ unnamed_fails name words forms (Some []) e in
        let good : Some [] ≡ None = rw none at bad in cc)
    go (Some form) e =
        let level = level_at forms forms_are name words form e in
        let rows : Some (rows_after (built_rules form) [] words) ≡ option_map (rows_with_defaults form) (uses_of form words) =
        ap (λ kinds. guard kinds (Some (rows_after (built_rules form) [] words))) (sym none) ∙ level in
        ap command_from (subcommand_is name words form e) ∙ rows_make form (rows_after (built_rules form) [] words) (uses_of form words) rows
        ∙ ap (option_and_then (λ f. command_in f words)) (sym e)

-- words that are refused are no command
pub refused : (words : List Text) (kind : ErrorKind) (kinds : Kinds) → fault_of program words ≡ kind ∷ kinds
    → command_of words ≡ None
refused [] kind kinds some = refl
refused (name ∷ words) kind kinds some = go (form_named name forms) refl
  where
    go : (found : Option Form) → form_named name forms ≡ found → command_of (name ∷ words) ≡ None
    go None e = ap (option_and_then (λ f. command_in f words)) e
    go (Some form) e =
        let rows : None ≡ option_map (rows_with_defaults form) (uses_of form words) =
        ap (λ all. guard all (Some (rows_after (built_rules form) [] words))) (sym some) ∙ level_at forms forms_are name words form e in
        ap (option_and_then (λ f. command_in f words)) e ∙ no_rows form (uses_of form words) rows
