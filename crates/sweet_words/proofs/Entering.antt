-- The first word names the command, and the words after it are read by that command.
use Rattle.std.specs.Prelude.{◌≡◌, ℕ, Bool, true, false, ◌&&◌, ◌+◌, List, [], ◌∷◌, ◌++◌, map, min, fold, None, Some, if◌then◌else◌, find, option_map, codes}
use Rattle.std.specs.Str.{bytes_eq}
use Rattle.std.proofs.Common.{refl, sym, ap, ◌∙◌, subst, append-nil, append_assoc}
use Rattle.std.proofs.lemmas.Slice.Eq.{bytes_eq-Decides}
use Rattle.clap.specs.Lexer.{usize_max}
use Rattle.clap.specs.Kinds.{Kinds}
use Rattle.clap.specs.Walk.{Names, Walk, walked, walk_from, nothing_held, rows_after, answers_to, idle, stop_after}
use Rattle.clap.specs.Simple.{App, Shape, built, filled_from, label_of, names_of, entered, inherited, built_leaf}
use Rattle.clap.specs.Faults.{built_fault, entered_fault, level_fault, walk_fault, defaults_fault}
use Rattle.clap.proofs.FaultLemmas.{stopped_fault}
use Rattle.sweet_words.specs.Forms.{Text, Form, form_named}
use Rattle.sweet_words.specs.Shapes.{top, program_of, positional_rule, value_rule, flag_rule, shape_in}
use Rattle.sweet_words.proofs.Looks.{by_test, look, plain_word_is, end_is, long_is, short_is}
use Rattle.sweet_words.proofs.Walking.{seat, seats, valued, flagged, built_rules, built_shape, leaf, Rows, guard, guard-or_else}

-- ---- the program as it is built

fill_flags : (i : ℕ) (names : List Text) → filled_from i (map flag_rule names) ≡ map flagged names
fill_flags i [] = refl
fill_flags i (name ∷ names) = ap (λ rs. flagged name ∷ rs) (fill_flags i names)

fill_values : (i : ℕ) (names flags : List Text)
    → filled_from i (map value_rule names ++ map flag_rule flags) ≡ map valued names ++ map flagged flags
fill_values i [] flags = fill_flags i flags
fill_values i (name ∷ names) flags = ap (λ rs. valued name ∷ rs) (fill_values i names flags)

fill_seats : (i : ℕ) (names values flags : List Text)
    → filled_from i (map positional_rule names ++ (map value_rule values ++ map flag_rule flags)) ≡ seats i names (map valued values ++ map flagged flags)
fill_seats i [] values flags = fill_values i values flags
fill_seats i (name ∷ names) values flags = ap (λ rs. seat name i ∷ rs) (fill_seats (min (i + 1) usize_max) names values flags)

-- what a parse reads of the built program
abbrev pub built_top : Shape
built_top = record top { is_built = true }

abbrev pub built_program : List Form → App
built_program table = record { top = built_top; subs = map built_shape table }

built_sub : (form : Form) → built_leaf (inherited built_top (shape_in form)) ≡ built_shape form
built_sub form = ap (leaf form.name) (fill_seats 1 form.positionals form.values form.flags)

built_subs : (table : List Form)
    → map built_leaf (map (inherited built_top) (map shape_in table)) ≡ map built_shape table
built_subs [] = refl
built_subs (form ∷ table) = (λ i. built_sub form i ∷ built_subs table i)

pub built_is : (table : List Form) → built (program_of table) ≡ built_program table
built_is table = ap (λ (subs : List Shape). record { top = built_top; subs = subs }) (built_subs table)

-- ---- the command of a name

names_found : (word : Text) (table : List Form) → find (answers_to word) (names_of (built_program table)) ≡ option_map (λ form. (form.name, [])) (form_named word table)
names_found word [] = refl
names_found word (form ∷ table) = by_test (bytes_eq form.name word) (λ e. rw e refl) (λ e. rw e (names_found word table))

subs_found : (word : Text) (table : List Form)
    → find (λ s. answers_to word (label_of s)) (map built_shape table) ≡ option_map built_shape (form_named word table)
subs_found word [] = refl
subs_found word (form ∷ table) = by_test (bytes_eq form.name word) (λ e. rw e refl) (λ e. rw e (subs_found word table))

pub name_found : (word : Text) (table : List Form) (form : Form) → form_named word table ≡ Some form → form.name ≡ word
name_found word [] form e = absurd (cc)
name_found word (first ∷ table) form e = by_test (bytes_eq first.name word)
    (λ here. let same : Some first ≡ Some form = rw here at e in
    let it : first ≡ form = cc in
    subst (λ (f : Form). f.name ≡ word) it ((bytes_eq-Decides first.name word).0 here))
    (λ past. let later : form_named word table ≡ Some form = rw past at e in name_found word table form later)

-- ---- the walk at the top

-- the words after the command's name are kept for it
keeps : (names : Names) (w : Walk) (name : Text) (before words : List Text)
    → fold (walked [] names) (record w { stopped = Some (name, before) }) words ≡ record w { stopped = Some (name, before ++ words) }
unfolding walked
keeps names w name before [] = ap (λ (ws : List Text). record w { stopped = Some (name, ws) }) (sym (append-nil before))
keeps names w name before (word ∷ words) =
    keeps names w name (before ++ word ∷ []) words ∙ ap (λ (ws : List Text). record w { stopped = Some (name, ws) }) (append_assoc before (word ∷ []) words)

help_is_no_command : (test : Bool) (kinds : Kinds) → (if test && false then kinds else []) ≡ []
help_is_no_command true kinds = refl
help_is_no_command false kinds = refl

-- the first word is the name of a command
named_walk : (word : Text) (words : List Text) (table : List Form) (form : Form) → form_named word table ≡ Some form
    → fold (walked [] (names_of (built_program table))) (walk_from nothing_held) (word ∷ words) ≡ record (walk_from nothing_held) { stopped = Some (form.name, words) }
unfolding walked
named_walk word words table form e =
    rw (names_found word table, e) (keeps (names_of (built_program table)) (walk_from nothing_held) form.name [] words)

named_fault : (word : Text) (words : List Text) (table : List Form) (form : Form) → form_named word table ≡ Some form
    → walk_fault built_top (names_of (built_program table)) (walk_from nothing_held) (word ∷ words) ≡ []
unfolding walk_fault walked
named_fault word words table form e =
    rw (names_found word table, e, help_is_no_command (bytes_eq form.name (codes "help")) _)
    (stopped_fault built_top (names_of (built_program table)) (walk_from nothing_held) (form.name, []) words)

entered_is : (word : Text) (words : List Text) (table : List Form) (form : Form) → form_named word table ≡ Some form
    → entered (built_program table) (Some (form.name, words)) ≡ Some (form.name, rows_after (built_rules form) [] words)
entered_is word words table form e =
    let same = name_found word table form e in
    let found : form_named form.name table ≡ Some form = subst (λ (n : Text). form_named n table ≡ Some form) (sym same) e in
    rw (subs_found form.name table, found) refl

fault_entered : (word : Text) (words : List Text) (table : List Form) (form : Form) → form_named word table ≡ Some form
    → entered_fault (built_program table) (Some (form.name, words)) ≡ level_fault (built_shape form) [] nothing_held words false []
fault_entered word words table form e =
    let same = name_found word table form e in
    let found : form_named form.name table ≡ Some form = subst (λ (n : Text). form_named n table ≡ Some form) (sym same) e in
    rw (subs_found form.name table, found) refl

-- the fault is that of the command alone
pub named_level : (word : Text) (words : List Text) (table : List Form) (form : Form) (rows : Rows)
    → form_named word table ≡ Some form
    → guard (built_fault (built_program table) nothing_held (word ∷ words)) rows ≡ guard (level_fault (built_shape form) [] nothing_held words false []) rows
unfolding defaults_fault
named_level word words table form rows e =
    let below = level_fault (built_shape form) [] nothing_held words false [] in
    rw (named_fault word words table form e, named_walk word words table form e, entered_is word words table form e, fault_entered word words table form e)
    (guard-or_else below [] rows)

-- where the walk stands after `--`
abbrev after_end : Walk
after_end = record { held = nothing_held; waiting = idle; position = 1; is_trailing = true; stopped = None }

end_walk : (word : Text) (words : List Text) (table : List Form) → form_named word table ≡ None
    → bytes_eq word (45 ∷ 45 ∷ []) ≡ true
    → fold (walked [] (names_of (built_program table))) (walk_from nothing_held) (word ∷ words) ≡ fold (walked [] (names_of (built_program table))) after_end words
unfolding walked
end_walk word words table e ends = rw (names_found word table, e, ends) refl

end_fault : (word : Text) (words : List Text) (table : List Form) → form_named word table ≡ None
    → bytes_eq word (45 ∷ 45 ∷ []) ≡ true
    → walk_fault built_top (names_of (built_program table)) (walk_from nothing_held) (word ∷ words) ≡ walk_fault built_top (names_of (built_program table)) after_end words
unfolding walk_fault walked
end_fault word words table e ends = rw (names_found word table, e, ends) refl

-- after `--` a word stands for nothing, and without one the command is missing
end_fails : (word : Text) (words : List Text) (table : List Form) (rows : Rows) → form_named word table ≡ None
    → bytes_eq word (45 ∷ 45 ∷ []) ≡ true
    → guard (built_fault (built_program table) nothing_held (word ∷ words)) rows ≡ None
unfolding walk_fault defaults_fault
end_fails word [] table rows e ends = rw (end_fault word [] table e ends, end_walk word [] table e ends) refl
end_fails word (next ∷ words) table rows e ends = rw (end_fault word (next ∷ words) table e ends) refl

-- no command has the name
pub unnamed_fails : (word : Text) (words : List Text) (table : List Form) (rows : Rows) → form_named word table ≡ None
    → guard (built_fault (built_program table) nothing_held (word ∷ words)) rows ≡ None
unfolding walk_fault walked defaults_fault
unnamed_fails word words table rows e = elim (look [] (λ c. refl) word) [
  | plain_word_is w ↦ rw (names_found word table, e, w.no_end, w.fault [] None, w.met idle [] None) refl
  | end_is w ↦ end_fails word words table rows e w.ends
  | long_is p w ↦ rw (names_found word table, e, w.no_end, w.long) refl
  | short_is w ↦ rw (names_found word table, e, w.no_end, w.long, w.fault [] None) refl
]

-- no word is no command
pub empty_fails : (table : List Form) (rows : Rows)
    → guard (built_fault (built_program table) nothing_held []) rows ≡ None
unfolding walk_fault walked defaults_fault
empty_fails table rows = refl

-- the subcommand is met with its rows
pub entered_named : (word : Text) (words : List Text) (table : List Form) (form : Form)
    → form_named word table ≡ Some form
    → entered (built_program table) (stop_after [] (names_of (built_program table)) (word ∷ words)) ≡ Some (form.name, rows_after (built_rules form) [] words)
entered_named word words table form e =
    ap (λ (w : Walk). entered (built_program table) w.stopped) (named_walk word words table form e) ∙ entered_is word words table form e
