-- What one level of the parse comes to, with the checks after the walk.
use Rattle.std.specs.Prelude.{◌≡◌, ℕ, Bool, true, false, not, ◌&&◌, ◌||◌, ◌==◌, ◌+◌, List, [], ◌∷◌, ◌++◌, map, length, min, fold, Option, None, Some, if◌then◌else◌, option_map, option_and_then}
use Rattle.std.specs.List.{list_any, list_all}
use Rattle.std.specs.Str.{bytes_eq}
use Rattle.std.proofs.Common.{refl, sym, ap, ◌∙◌, append-nil, append_assoc}
use Rattle.clap.specs.Lexer.{usize_max}
use Rattle.clap.specs.Kinds.{Kinds, or_else}
use Rattle.clap.specs.Walk.{Rule, Row, has_row, at_row, more_values, walk_from, with_default, default_rows, nothing_held, walk, settled, finished, rows_after, reading_by}
use Rattle.clap.specs.Takes.{is_given}
use Rattle.clap.specs.Facts.{explicit_source}
use Rattle.clap.specs.Faults.{level_fault, walk_fault, settle_fault, defaults_fault, default_fault, given_default_fault, check_fault}
use Rattle.clap.specs.declared.parser.matches.ValueSource.TheVariants.{CommandLine, DefaultValue}
use Rattle.clap.specs.declared.builder.value_parser.Reading.TheVariants.{AsWritten}
use Rattle.clap.proofs.WalkLemmas.{list_any-map}
use Rattle.sweet_words.specs.Forms.{Text, Form}
use Rattle.sweet_words.specs.Given.{Uses, free, given, is_used, is_once, if_whole, uses_of}
use Rattle.sweet_words.proofs.Looks.{by_test}
use Rattle.sweet_words.proofs.Walking.{seat, seats, valued, flagged, optional, built_rules, built_shape, Rows, guard, guard-or_else, outcome, with_row, after_uses, after, HasSeats, Serves, follows}

-- ---- rows of uses

abbrev pub row : Text × Text → Row
row entry = record { id = entry.0; values = entry.1 ∷ []; count = None; source = Some CommandLine; reading = AsWritten }

pub row_added : (id : Text) (change : Row → List Row) (missing rows : List Row) → has_row id rows ≡ false
    → at_row id change missing rows ≡ rows ++ missing
row_added id change missing [] none = refl
row_added id change missing (r ∷ rows) none = by_test (bytes_eq r.id id)
    (λ e. let bad : true ≡ false = rw e at none in absurd (cc))
    (λ e. let later : has_row id rows ≡ false = rw e at none in rw e (ap (λ rs. r ∷ rs) (row_added id change missing rows later)))

with_row_added : (name value : Text) (rows : List Row) → has_row name rows ≡ false
    → with_row name value rows ≡ rows ++ row (name, value) ∷ []
with_row_added name value rows none =
    let same : at_row name (λ _. []) [] rows ≡ rows = row_added name (λ _. []) [] rows none ∙ append-nil rows in
    ap (λ rs. at_row name (more_values CommandLine (value ∷ [])) (row (name, value) ∷ []) rs) same ∙ row_added name (more_values CommandLine (value ∷ [])) (row (name, value) ∷ []) rows none

used_rows : (name : Text) (uses : Uses) → has_row name (map row uses) ≡ is_used name uses
used_rows name uses = sym (list_any-map (λ (r : Row). bytes_eq r.id name) row uses)

abbrev if_once : Bool → Uses → Rows
if_once once uses = if once then Some (map row uses) else None

map_row_append : (before : Uses) (entry : Text × Text)
    → map row before ++ row entry ∷ [] ≡ map row (before ++ entry ∷ [])
map_row_append [] entry = refl
map_row_append (first ∷ before) entry = ap (λ rs. row first ∷ rs) (map_row_append before entry)

rows_of_uses : (before uses : Uses) → after_uses (map row before) uses ≡ if_once (is_once before uses) (before ++ uses)
rows_of_uses before [] = ap (λ us. Some (map row us)) (sym (append-nil before))
rows_of_uses before (entry ∷ uses) = by_test (is_used entry.0 before)
    (λ e. rw (used_rows entry.0 before, e) refl)
    (λ e. let fresh : has_row entry.0 (map row before) ≡ false = used_rows entry.0 before ∙ e in
    rw (fresh, e) (ap (λ rs. after_uses rs uses) (with_row_added entry.0 entry.1 (map row before) fresh ∙ map_row_append before entry)
    ∙ rows_of_uses (before ++ entry ∷ []) uses ∙ ap (if_once (is_once (before ++ entry ∷ []) uses)) (append_assoc before (entry ∷ []) uses)))

-- ---- defaults

no_default_fault : (rows : List Row) (a : Rule) → given_default_fault a a.defaults ≡ [] → default_fault rows a ≡ []
no_default_fault rows a e = by_test (has_row a.id rows || length a.defaults == 0) (λ t. rw t refl) (λ t. rw (t, e) refl)

flags_default : (names : List Text) (rows : List Row) → defaults_fault rows (map flagged names) ≡ []
unfolding defaults_fault
flags_default [] rows = refl
flags_default (name ∷ names) rows = rw (no_default_fault rows (flagged name) refl) (flags_default names (with_default rows (flagged name)))

values_default : (names flags : List Text) (rows : List Row)
    → defaults_fault rows (map valued names ++ map flagged flags) ≡ []
unfolding defaults_fault
values_default [] flags rows = flags_default flags rows
values_default (name ∷ names) flags rows = rw (no_default_fault rows (valued name) refl) (values_default names flags (with_default rows (valued name)))

seats_default : (i : ℕ) (names : List Text) (rest : List Rule) → ((rows : List Row) → defaults_fault rows rest ≡ [])
    → (rows : List Row) → defaults_fault rows (seats i names rest) ≡ []
unfolding defaults_fault
seats_default i [] rest pass rows = pass rows
seats_default i (name ∷ names) rest pass rows =
    rw (no_default_fault rows (seat name i) refl) (seats_default (min (i + 1) usize_max) names rest pass (with_default rows (seat name i)))

-- no default is refused
defaults_pass : (form : Form) (rows : List Row) → defaults_fault rows (built_rules form) ≡ []
defaults_pass form = seats_default 1 form.positionals (optional form) (values_default form.values form.flags)

-- ---- what is required

-- the row of a default gives nothing
default_gives : (id : Text) (r : Row) → explicit_source r.source ≡ false → (rows : List Row)
    → is_given id (rows ++ r ∷ []) ≡ is_given id rows
default_gives id r weak [] = by_test (bytes_eq r.id id) (λ e. rw (e, weak) refl) (λ e. rw e refl)
default_gives id r weak (first ∷ rows) = by_test (bytes_eq first.id id) (λ e. rw e refl) (λ e. rw e (default_gives id r weak rows))

default_kept : (id : Text) (rows : List Row) (a : Rule) → is_given id (with_default rows a) ≡ is_given id rows
default_kept id rows a = by_test (has_row a.id rows) (λ e. rw e refl) (λ e. rw e (go a.defaults e))
  where
    go : (defaults : List Text) → has_row a.id rows ≡ false
        → is_given id (default_rows a.id (reading_by a) defaults rows) ≡ is_given id rows
    go [] e = refl
    go (v ∷ vs) e = ap (is_given id) (row_added a.id (more_values DefaultValue (v ∷ vs)) _ rows e) ∙ default_gives id _ refl rows

defaults_kept : (id : Text) (rules : List Rule) (rows : List Row)
    → is_given id (fold with_default rows rules) ≡ is_given id rows
defaults_kept id [] rows = refl
defaults_kept id (a ∷ rules) rows = defaults_kept id rules (with_default rows a) ∙ default_kept id rows a

given_is_used : (name : Text) (uses : Uses) → is_given name (map row uses) ≡ is_used name uses
given_is_used name [] = refl
given_is_used name (entry ∷ uses) = by_test (bytes_eq entry.0 name) (λ e. rw e refl) (λ e. rw e (given_is_used name uses))

abbrev lacks : List Row → Rule → Bool
lacks rows a = a.required && not (is_given a.id rows)

flags_lack : (names : List Text) (rows : List Row) → list_any (lacks rows) (map flagged names) ≡ false
flags_lack [] rows = refl
flags_lack (name ∷ names) rows = flags_lack names rows

values_lack : (names flags : List Text) (rows : List Row)
    → list_any (lacks rows) (map valued names ++ map flagged flags) ≡ false
values_lack [] flags rows = flags_lack flags rows
values_lack (name ∷ names) flags rows = values_lack names flags rows

-- a positional is lacking exactly where it is not used
seats_lack : (i : ℕ) (names : List Text) (rest : List Rule) (rows : List Row) (uses : Uses)
    → ((id : Text) → is_given id rows ≡ is_used id uses)
    → list_any (lacks rows) rest ≡ false → list_any (lacks rows) (seats i names rest) ≡ not (list_all (λ name. is_used name uses) names)
seats_lack i [] rest rows uses same none = none
seats_lack i (name ∷ names) rest rows uses same none = by_test (is_used name uses)
    (λ e. rw (same name, e) (seats_lack (min (i + 1) usize_max) names rest rows uses same none))
    (λ e. rw (same name, e) refl)

-- ---- one level

-- the checks after the walk, on the rows at its end
abbrev closing : Form → List Row → Rows
closing form rows = guard (defaults_fault rows (built_rules form))
    (guard (check_fault (built_shape form) (fold with_default rows (built_rules form)) false) (Some (fold with_default rows (built_rules form))))

guard_then : (a : Kinds) (rows : Rows) (f : List Row → Rows)
    → guard a (option_and_then f rows) ≡ option_and_then f (guard a rows)
guard_then [] rows f = refl
guard_then (k ∷ ks) rows f = refl

-- the rows of a command with the defaults
abbrev pub rows_with_defaults : Form → Uses → List Row
rows_with_defaults form uses = fold with_default (map row uses) (built_rules form)

-- the rows are there where no fault is
abbrev pub level_rows : Form → List Text → Rows
level_rows form words = guard (level_fault (built_shape form) [] nothing_held words false []) (Some (rows_after (built_rules form) [] words))

level_splits : (form : Form) (words : List Text) → level_rows form words ≡ option_and_then (closing form) (outcome form (built_rules form) (walk_from nothing_held) words)
unfolding outcome
level_splits form words =
    let rules = built_rules form in
    let s = built_shape form in
    let end = (walk rules [] nothing_held words).held in
    let rows = (settled rules end).rows in
    let faults = walk_fault s [] (walk_from nothing_held) words in
    let last = settle_fault rules false end in
    let defaults = defaults_fault rows rules in
    let check = check_fault s (finished rules end) false in
    guard-or_else faults (or_else last (or_else defaults check)) _
    ∙ ap (guard faults) (guard-or_else last (or_else defaults check) _ ∙ ap (guard last) (guard-or_else defaults check _) ∙ guard_then last (Some rows) (closing form))
    ∙ guard_then faults (guard last (Some rows)) (closing form)

closes : (form : Form) (uses : Uses) → closing form (map row uses) ≡ (if list_all (λ name. is_used name uses) form.positionals then Some (rows_with_defaults form uses) else None)
closes form uses =
    let rows = rows_with_defaults form uses in
    let same : (id : Text) → is_given id rows ≡ is_used id uses = λ id. defaults_kept id (built_rules form) (map row uses) ∙ given_is_used id uses in
    let lack = seats_lack 1 form.positionals (optional form) rows uses same (values_lack form.values form.flags rows) in
    rw (defaults_pass form (map row uses)) (by_test (list_all (λ name. is_used name uses) form.positionals)
    (λ e. rw (lack, e) refl)
    (λ e. rw (lack, e) refl))

-- the words of a command pass exactly where they are whole uses, and give the rows of these
pub level_is : (form : Form) → HasSeats (built_rules form) 1 form.positionals → Serves form (built_rules form)
    → (words : List Text)
    → level_rows form words ≡ option_map (rows_with_defaults form) (uses_of form words)
level_is form seated serves words =
    level_splits form words
    ∙ ap (option_and_then (closing form)) ((follows form (built_rules form) serves words).free 1 form.positionals [] None seated)
    ∙ go (given form free form.positionals words)
  where
    go : (found : Option Uses) → option_and_then (closing form) (after [] found) ≡ option_map (rows_with_defaults form) (option_and_then (if_whole form) found)
    go None = refl
    go (Some uses) = ap (option_and_then (closing form)) (rows_of_uses [] uses) ∙ by_test (is_once [] uses)
        (λ e. rw e (closes form uses ∙ by_test (list_all (λ name. is_used name uses) form.positionals) (λ t. rw t refl) (λ t. rw t refl)))
        (λ e. rw e refl)
