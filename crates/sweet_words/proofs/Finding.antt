-- The values of names in the rows of a parse.
use Rattle.std.specs.Prelude.{◌≡◌, ℕ, Bool, true, false, ◌+◌, List, [], ◌∷◌, ◌++◌, map, min, fold, Option, None, Some, if◌then◌else◌, codes, is_some, slice_get}
use Rattle.std.specs.Str.{bytes_eq}
use Rattle.std.proofs.Common.{refl, sym, ap, ◌∙◌, subst}
use Rattle.std.proofs.lemmas.Slice.Eq.{bytes_eq-Decides}
use Rattle.clap.specs.Lexer.{usize_max}
use Rattle.clap.specs.Walk.{Rule, Row, has_row, with_default, more_values, first_of}
use Rattle.clap.specs.declared.parser.matches.ValueSource.TheVariants.{DefaultValue}
use Rattle.clap.specs.declared.builder.value_parser.Reading.TheVariants.{AsWritten}
use Rattle.sweet_words.specs.Forms.{Text, Form, named}
use Rattle.sweet_words.specs.Given.{Uses, value_of, value_in, or_false}
use Rattle.sweet_words.proofs.Looks.{by_test}
use Rattle.sweet_words.proofs.Walking.{seat, seats, valued, flagged, optional}
use Rattle.sweet_words.proofs.Closing.{row, row_added, rows_with_defaults}

-- a name that has a row has a value
abbrev Filled : Text → List Row → Type 0
Filled id rows = has_row id rows ≡ is_some (first_of id rows)

filled_uses : (id : Text) (uses : Uses) → Filled id (map row uses)
filled_uses id [] = refl
filled_uses id (entry ∷ uses) = by_test (bytes_eq entry.0 id) (λ e. rw e refl) (λ e. rw e (filled_uses id uses))

-- the row of a flag that is left out
abbrev left_out : Text → Row
left_out name = record { id = name; values = codes "false" ∷ []; count = None; source = Some DefaultValue; reading = AsWritten }

abbrev false_if : Bool → Option Text
false_if test = if test then Some (codes "false") else None

-- the first of two values
abbrev or_other : Option Text → Option Text → Option Text
or_other (Some text) other = Some text
or_other None other = other

stands : (found other : Option Text) → true ≡ is_some found → found ≡ or_other found other
stands (Some text) other e = refl
stands None other e = absurd (cc)

first_added : (id name : Text) (rows : List Row) → Filled id rows
    → first_of id (rows ++ left_out name ∷ []) ≡ or_other (first_of id rows) (false_if (bytes_eq name id))
first_added id name [] filled = by_test (bytes_eq name id) (λ e. rw e refl) (λ e. rw e refl)
first_added id name (r ∷ rows) filled = by_test (bytes_eq r.id id)
    (λ e. let there : true ≡ is_some (slice_get r.values 0) = rw e at filled in rw e (stands (slice_get r.values 0) (false_if (bytes_eq name id)) there))
    (λ e. let later : Filled id rows = rw e at filled in rw e (first_added id name rows later))

filled_added : (id name : Text) (rows : List Row) → Filled id rows → Filled id (rows ++ left_out name ∷ [])
filled_added id name [] filled = by_test (bytes_eq name id) (λ e. rw e refl) (λ e. rw e refl)
filled_added id name (r ∷ rows) filled = by_test (bytes_eq r.id id)
    (λ e. let there : true ≡ is_some (slice_get r.values 0) = rw e at filled in rw e there)
    (λ e. let later : Filled id rows = rw e at filled in rw e (filled_added id name rows later))

-- the value of a name, when one more flag is known to have no other
or_flag : (id name : Text) (names : List Text) (found : Option Text) → or_false (or_other found (false_if (bytes_eq name id))) (named id names) ≡ or_false found (named id (name ∷ names))
or_flag id name names (Some text) = refl
or_flag id name names None = by_test (bytes_eq name id) (λ e. rw e refl) (λ e. rw e refl)

found_stays : (found a b : Option Text) → true ≡ is_some found → or_false found a ≡ or_false found b
found_stays (Some text) a b e = refl
found_stays None a b e = absurd (cc)

or_none : (found : Option Text) → found ≡ or_false found None
or_none (Some text) = refl
or_none None = refl

-- a flag that is used has no other value
or_used : (id name : Text) (names : List Text) (rows : List Row) → Filled id rows → has_row name rows ≡ true
    → or_false (first_of id rows) (named id names) ≡ or_false (first_of id rows) (named id (name ∷ names))
or_used id name names rows filled has = by_test (bytes_eq name id)
    (λ e. let same : name ≡ id = (bytes_eq-Decides name id).0 e in
    let there : true ≡ is_some (first_of id rows) = sym (subst (λ (n : Text). has_row n rows ≡ true) same has) ∙ filled in
    found_stays (first_of id rows) (named id names) (named id (name ∷ names)) there)
    (λ e. rw e refl)

default_stays : (name : Text) (rows : List Row) → has_row name rows ≡ true → with_default rows (flagged name) ≡ rows
default_stays name rows e = rw e refl

default_comes : (name : Text) (rows : List Row) → has_row name rows ≡ false
    → with_default rows (flagged name) ≡ rows ++ left_out name ∷ []
default_comes name rows e = rw e (row_added name (more_values DefaultValue (codes "false" ∷ [])) (left_out name ∷ []) rows e)

flags_default : (id : Text) (names : List Text) (rows : List Row) → Filled id rows
    → first_of id (fold with_default rows (map flagged names)) ≡ or_false (first_of id rows) (named id names)
flags_default id [] rows filled = or_none (first_of id rows)
flags_default id (name ∷ names) rows filled = by_test (has_row name rows)
    (λ e. ap (λ (rs : List Row). first_of id (fold with_default rs (map flagged names))) (default_stays name rows e)
    ∙ flags_default id names rows filled ∙ or_used id name names rows filled e)
    (λ e. ap (λ (rs : List Row). first_of id (fold with_default rs (map flagged names))) (default_comes name rows e)
    ∙ flags_default id names (rows ++ left_out name ∷ []) (filled_added id name rows filled)
    ∙ ap (λ found. or_false found (named id names)) (first_added id name rows filled) ∙ or_flag id name names (first_of id rows))

-- an argument with a value has no default
no_default : (a : Rule) (rows : List Row) → a.defaults ≡ [] → with_default rows a ≡ rows
no_default a rows e = by_test (has_row a.id rows) (λ t. rw t refl) (λ t. rw (t, e) refl)

values_default : (names flags : List Text) (rows : List Row)
    → fold with_default rows (map valued names ++ map flagged flags) ≡ fold with_default rows (map flagged flags)
values_default [] flags rows = refl
values_default (name ∷ names) flags rows =
    ap (λ (rs : List Row). fold with_default rs (map valued names ++ map flagged flags)) (no_default (valued name) rows refl) ∙ values_default names flags rows

seats_default : (i : ℕ) (names : List Text) (rest : List Rule) (rows : List Row)
    → fold with_default rows (seats i names rest) ≡ fold with_default rows rest
seats_default i [] rest rows = refl
seats_default i (name ∷ names) rest rows =
    ap (λ (rs : List Row). fold with_default rs (seats (min (i + 1) usize_max) names rest)) (no_default (seat name i) rows refl)
    ∙ seats_default (min (i + 1) usize_max) names rest rows

first_used : (id : Text) (uses : Uses) → first_of id (map row uses) ≡ value_of id uses
first_used id [] = refl
first_used id (entry ∷ uses) = by_test (bytes_eq entry.0 id) (λ e. rw e refl) (λ e. rw e (first_used id uses))

-- the value of a name in the rows is that of its use, or of its flag
pub value_is : (form : Form) (uses : Uses) (id : Text)
    → first_of id (rows_with_defaults form uses) ≡ value_in form uses id
value_is form uses id =
    ap (first_of id) (seats_default 1 form.positionals (optional form) (map row uses) ∙ values_default form.values form.flags (map row uses))
    ∙ flags_default id form.flags (map row uses) (filled_uses id uses)
    ∙ ap (λ found. or_false found (named id form.flags)) (first_used id uses)
