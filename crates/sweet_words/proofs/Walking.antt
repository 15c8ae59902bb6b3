-- What `clap`'s walk over the words of one command comes to.
use Rattle.std.specs.Prelude.{◌≡◌, ℕ, Bool, true, false, ◌&&◌, ◌+◌, List, [], ◌∷◌, ◌++◌, map, min, fold, Option, None, Some, if◌then◌else◌, codes}
use Rattle.std.specs.Str.{bytes_eq}
use Rattle.std.proofs.Common.{refl, sym, ap, ◌∙◌}
use Rattle.clap.specs.Lexer.{usize_max}
use Rattle.clap.specs.Kinds.{Kinds, or_else}
use Rattle.clap.specs.Walk.{Rule, Row, Held, Waiting, idle, option, Walk, walked, settled, arg_by_id, arg_by_index, arg_by_long, arg_by_short, with_values, without, pushed, is_pending, long_word, after_step}
use Rattle.clap.specs.Walk as clap_walk
use Rattle.clap.specs.Simple.{Shape, filled, with_index, new_shape}
use Rattle.clap.specs.Faults.{walk_fault, turn_fault, settle_fault, repeat_fault, long_fault, step_fault}
use Rattle.clap.specs.declared.parser.matches.ValueSource.TheVariants.{CommandLine}
use Rattle.clap.specs.declared.builder.value_parser.Reading.TheVariants.{AsWritten}
use Rattle.sweet_words.specs.Forms.{Text, Form, named}
use Rattle.sweet_words.specs.Given.{Uses, free, wants, ended, with_use, seated, given, option_used}
use Rattle.sweet_words.specs.Shapes.{positional_rule, value_rule, flag_rule}
use Rattle.sweet_words.proofs.Looks.{holding, plain_word_is, end_is, long_is, short_is, look}
use Rattle.std.proofs.lemmas.Slice.Eq.{bytes_eq-Decides}

-- ---- rules as they are built

abbrev pub seat : Text → ℕ → Rule
seat name i = with_index i (filled (positional_rule name))

abbrev pub valued : Text → Rule
valued name = filled (value_rule name)

abbrev pub flagged : Text → Rule
flagged name = filled (flag_rule name)

abbrev pub seats : ℕ → List Text → List Rule → List Rule
seats i [] rest = rest
seats i (name ∷ names) rest = seat name i ∷ seats (min (i + 1) usize_max) names rest

abbrev pub optional : Form → List Rule
optional form = map valued form.values ++ map flagged form.flags

abbrev pub built_rules : Form → List Rule
built_rules form = seats 1 form.positionals (optional form)

-- a built subcommand with these rules
abbrev pub leaf : Text → List Rule → Shape
leaf name rules = record (new_shape name) {
  rules = rules;
  is_built = true;
  disable_help_flag = true;
  disable_help_subcommand = true;
  disable_version_flag = true;
  no_binary_name = true;
}

abbrev pub built_shape : Form → Shape
built_shape form = leaf form.name (built_rules form)

-- ---- what the walk asks of the rules

-- each positional that is left has its place, from i on, and is found by its name
abbrev pub HasSeats : List Rule → ℕ → List Text → Type 0
HasSeats rules i [] = arg_by_index rules i ≡ None
HasSeats rules i (name ∷ left) = (arg_by_index rules i ≡ Some (seat name i)) × (arg_by_id rules name ≡ Some (seat name i)) × HasSeats rules (min (i + 1) usize_max) left

abbrev pub option_rule : Option Text → Option Text → Option Rule
option_rule (Some name) flag = Some (valued name)
option_rule None (Some name) = Some (flagged name)
option_rule None None = None

pub record Serves (form : Form) (rules : List Rule) : Type 0 where
  pub longs : (name : Text) → arg_by_long rules name ≡ option_rule (named name form.values) (named name form.flags)
  pub shorts : (c : ℕ) → arg_by_short rules c ≡ None
  pub value_ids : (text name : Text) → named text form.values ≡ Some name → arg_by_id rules name ≡ Some (valued name)

-- ---- faults stop

abbrev pub Rows : Type 0
Rows = Option (List Row)

abbrev pub guard : Kinds → Rows → Rows
guard [] rows = rows
guard (k ∷ ks) rows = None

pub guard-or_else : (a b : Kinds) (rows : Rows) → guard (or_else a b) rows ≡ guard a (guard b rows)
guard-or_else [] b rows = refl
guard-or_else (k ∷ ks) b rows = refl

pub guard-None : (a : Kinds) → guard a None ≡ None
guard-None [] = refl
guard-None (k ∷ ks) = refl

-- the rows at the end of the walk, where no step of it fails
unfoldable pub outcome : Form → List Rule → Walk → List Text → Rows
outcome form rules w words = guard (walk_fault (leaf form.name rules) [] w words)
    (guard (settle_fault rules false (fold (walked rules []) w words).held)
    (Some (settled rules (fold (walked rules []) w words).held).rows))

outcome-next : (form : Form) (rules : List Rule) (w : Walk) (word : Text) (words : List Text)
    → outcome form rules w (word ∷ words) ≡ guard (turn_fault (leaf form.name rules) [] w word) (outcome form rules (walked rules [] w word) words)
unfolding walk_fault outcome
outcome-next form rules w word words =
    guard-or_else (turn_fault (leaf form.name rules) [] w word) (walk_fault (leaf form.name rules) [] (walked rules [] w word) words) _

-- ---- uses on top of rows

abbrev pub with_row : Text → Text → List Row → List Row
with_row name value rows = with_values name AsWritten CommandLine (value ∷ []) (without name rows)

-- the rows after the uses, where none repeats a name
abbrev pub after_uses : List Row → Uses → Rows
after_uses rows [] = Some rows
after_uses rows (entry ∷ uses) = guard (repeat_fault false entry.0 rows) (after_uses (with_row entry.0 entry.1 rows) uses)

abbrev pub after : List Row → Option Uses → Rows
after rows None = None
after rows (Some uses) = after_uses rows uses

pub after-with_use : (rows : List Row) (name value : Text) (uses : Option Uses)
    → guard (repeat_fault false name rows) (after (with_row name value rows) uses) ≡ after rows (with_use name value uses)
after-with_use rows name value None = guard-None (repeat_fault false name rows)
after-with_use rows name value (Some uses) = refl

-- ---- where the walk stands

abbrev pub standing : Waiting → Bool → ℕ → Held → Walk
standing waiting trailing i held = record { held = held; waiting = waiting; position = i; is_trailing = trailing; stopped = None }

-- what is pending is used, and then the uses of the words
abbrev pub settles : List Rule → Held → Option Uses → Rows
settles rules held uses = guard (settle_fault rules false held) (after (settled rules held).rows uses)

-- the walk over the words gives what the words are
pub record Follows (form : Form) (rules : List Rule) (words : List Text) : Type 0 where
  pub free : (i : ℕ) (left : List Text) (rows : List Row) (pending : Option (Text × List Text)) → HasSeats rules i left
      → outcome form rules (standing idle false i (holding rows pending)) words ≡ settles rules (holding rows pending) (given form free left words)
  pub wants : (i : ℕ) (left : List Text) (rows : List Row) (name : Text) → HasSeats rules i left
      → arg_by_id rules name ≡ Some (valued name)
      → outcome form rules (standing (option name) false i (holding rows (Some (name, [])))) words ≡ after rows (given form (wants name) left words)
  pub ended : (i : ℕ) (left : List Text) (rows : List Row) (pending : Option (Text × List Text)) (waiting : Waiting)
      → HasSeats rules i left
      → outcome form rules (standing waiting true i (holding rows pending)) words ≡ settles rules (holding rows pending) (given form ended left words)

follows-nil : (form : Form) (rules : List Rule) → Follows form rules []
unfolding walk_fault given outcome
follows-nil form rules = record {
  free = λ i left rows pending has. refl;
  wants = λ i left rows name has found. rw found refl;
  ended = λ i left rows pending waiting has. refl;
}

-- ---- one word

-- a positional that takes one value first uses what is pending
seat_turn : (test : Bool) (fault : Kinds) (a b : Held) (go : Held → Rows)
    → guard (if test && false then [] else fault) (go (if test && false then a else b)) ≡ guard fault (go b)
seat_turn true fault a b go = refl
seat_turn false fault a b go = refl

-- a use with a value that each parser takes fails only where it repeats a name
taken : (rows : List Row) (name value : Text) (uses : Option Uses)
    → guard (or_else (repeat_fault false name rows) []) (after (with_row name value rows) uses) ≡ after rows (with_use name value uses)
taken rows name value uses = guard-or_else (repeat_fault false name rows) [] _ ∙ after-with_use rows name value uses

-- the pending value of a positional is used
seat_settles : (rules : List Rule) (rows : List Row) (name word : Text) (i : ℕ) (uses : Option Uses)
    → arg_by_id rules name ≡ Some (seat name i)
    → settles rules (holding rows (Some (name, word ∷ []))) uses ≡ after rows (with_use name word uses)
seat_settles rules rows name word i uses found = rw found (taken rows name word uses)

-- the pending value of an option is used
value_settles : (rules : List Rule) (rows : List Row) (name word : Text) (uses : Option Uses)
    → arg_by_id rules name ≡ Some (valued name)
    → settles rules (holding rows (Some (name, word ∷ []))) uses ≡ after rows (with_use name word uses)
value_settles rules rows name word uses found = rw found (taken rows name word uses)

ended-cons : (form : Form) (rules : List Rule) (word : Text) (words : List Text) → Follows form rules words
    → (i : ℕ) (left : List Text) (rows : List Row) (pending : Option (Text × List Text)) (waiting : Waiting) → HasSeats rules i left
    → outcome form rules (standing waiting true i (holding rows pending)) (word ∷ words) ≡ settles rules (holding rows pending) (given form ended left (word ∷ words))
unfolding walked given
ended-cons form rules word words next i [] rows pending waiting has =
    outcome-next form rules (standing waiting true i (holding rows pending)) word words ∙ rw has (sym (guard-None (settle_fault rules false (holding rows pending))))
ended-cons form rules word words next i (name ∷ left) rows pending waiting has =
    let held = holding rows pending in
    let used = (settled rules held).rows in
    let after_word = next.ended (min (i + 1) usize_max) left used (Some (name, word ∷ [])) idle has.2 ∙ seat_settles rules used name word i (given form ended left words) has.1 in
    outcome-next form rules (standing waiting true i held) word words ∙ rw (has.0)
    (seat_turn (is_pending (seat name i) pending) (settle_fault rules false held) held (settled rules held)
    (λ h. outcome form rules (standing idle true (min (i + 1) usize_max) (pushed name word h)) words)
    ∙ ap (guard (settle_fault rules false held)) after_word)

-- a text is itself
bytes_same : (text : Text) → bytes_eq text text ≡ true
bytes_same text = (bytes_eq-Decides text text).1 refl

-- an option that still wants its value fails when something else comes
wants_fails : (rules : List Rule) (rows : List Row) (name : Text) (uses : Option Uses)
    → arg_by_id rules name ≡ Some (valued name)
    → settles rules (holding rows (Some (name, []))) uses ≡ None
wants_fails rules rows name uses found = rw found refl

-- whatever option comes instead, known or not
wants-long : (rules : List Rule) (rows : List Row) (name text : Text) (value flag attached : Option Text) (later : Kinds) (rest : Rows)
    → arg_by_id rules name ≡ Some (valued name) → arg_by_long rules text ≡ option_rule value flag
    → guard (or_else (long_fault rules false (arg_by_long rules text) attached (holding rows (Some (name, [])))) later) rest ≡ None
wants-long rules rows name text (Some known) flag (Some word) later rest found is = rw (is, found) refl
wants-long rules rows name text (Some known) flag None later rest found is = rw (is, found) refl
wants-long rules rows name text None (Some known) (Some word) later rest found is = rw is refl
wants-long rules rows name text None (Some known) None later rest found is = rw (is, found) refl
wants-long rules rows name text None None attached later rest found is = rw is refl

wants-cons : (form : Form) (rules : List Rule) (word : Text) (words : List Text) → Serves form rules
    → Follows form rules words
    → (i : ℕ) (left : List Text) (rows : List Row) (name : Text) → HasSeats rules i left → arg_by_id rules name ≡ Some (valued name)
    → outcome form rules (standing (option name) false i (holding rows (Some (name, [])))) (word ∷ words) ≡ after rows (given form (wants name) left (word ∷ words))
unfolding walked given
wants-cons form rules word words serves next i left rows name has found =
    let held = holding rows (Some (name, [])) in
    outcome-next form rules (standing (option name) false i held) word words ∙ elim (look rules serves.shorts word) [
      | plain_word_is w ↦ rw (w.plain, w.no_end, w.fault rows (Some (name, [])), w.met (option name) rows (Some (name, [])), found, bytes_same name)
          (next.free i left rows (Some (name, word ∷ [])) has ∙ value_settles rules rows name word (given form free left words) found)
      | end_is w ↦ rw (w.plain, w.ends) (next.ended i left rows (Some (name, [])) (option name) has ∙ wants_fails rules rows name (given form ended left words) found)
      | long_is p w ↦ rw (w.plain, w.no_end, w.long) (wants-long rules rows name p.0 (named p.0 form.values) (named p.0 form.flags) p.1 _ _ found (serves.longs p.0))
      | short_is w ↦ rw (w.plain, w.no_end, w.long, w.fault rows (Some (name, []))) refl
    ]

-- an option, known or not, where nothing waits
free-long : (form : Form) (rules : List Rule) (words : List Text) → Follows form rules words
    → (i : ℕ) (left : List Text) (rows : List Row) (pending : Option (Text × List Text)) → HasSeats rules i left
    → (word text : Text) (value flag attached : Option Text) → arg_by_long rules text ≡ option_rule value flag → ((name : Text) → value ≡ Some name → arg_by_id rules name ≡ Some (valued name))
    → guard (or_else (long_fault rules false (arg_by_long rules text) attached (holding rows pending))
    (step_fault (leaf form.name rules) i (long_word rules idle word text attached (holding rows pending)).0 (long_word rules idle word text attached (holding rows pending)).1))
    (outcome form rules (after_step rules word (standing idle false i (holding rows pending))
    (long_word rules idle word text attached (holding rows pending)).0 (long_word rules idle word text attached (holding rows pending)).1) words)
    ≡ settles rules (holding rows pending) (option_used value flag attached left (λ d l. given form d l words))
free-long form rules words next i left rows pending has word text (Some name) flag (Some value) is ids =
    let held = holding rows pending in
    let used = (settled rules held).rows in
    let uses = given form free left words in
    rw is (guard-or_else (or_else (settle_fault rules false held) (or_else (repeat_fault false name used) [])) [] _
    ∙ guard-or_else (settle_fault rules false held) (or_else (repeat_fault false name used) []) _
    ∙ ap (guard (settle_fault rules false held)) (ap (guard (or_else (repeat_fault false name used) [])) (next.free i left (with_row name value used) None has) ∙ taken used name value uses))
free-long form rules words next i left rows pending has word text (Some name) flag None is ids =
    let held = holding rows pending in
    rw is (guard-or_else (settle_fault rules false held) [] _
    ∙ ap (guard (settle_fault rules false held)) (next.wants i left (settled rules held).rows name has (ids name refl)))
free-long form rules words next i left rows pending has word text None (Some name) (Some value) is ids = rw is (sym (guard-None (settle_fault rules false (holding rows pending))))
free-long form rules words next i left rows pending has word text None (Some name) None is ids =
    let held = holding rows pending in
    let used = (settled rules held).rows in
    let uses = given form free left words in
    rw is (guard-or_else (or_else (settle_fault rules false held) (or_else (repeat_fault false name used) [])) [] _
    ∙ guard-or_else (settle_fault rules false held) (or_else (repeat_fault false name used) []) _
    ∙ ap (guard (settle_fault rules false held)) (ap (guard (or_else (repeat_fault false name used) [])) (next.free i left (with_row name (codes "true") used) None has)
    ∙ taken used name (codes "true") uses))
free-long form rules words next i left rows pending has word text None None attached is ids = rw is (sym (guard-None (settle_fault rules false (holding rows pending))))

-- a plain word where nothing waits
free-seat : (form : Form) (rules : List Rule) (word : Text) (words : List Text) → Follows form rules words
    → (i : ℕ) (left : List Text) (rows : List Row) (pending : Option (Text × List Text)) → HasSeats rules i left
    → guard (step_fault (leaf form.name rules) i (holding rows pending) clap_walk.value)
    (outcome form rules (after_step rules word (standing idle false i (holding rows pending)) (holding rows pending) clap_walk.value) words)
    ≡ settles rules (holding rows pending) (seated left word (λ l. given form free l words))
free-seat form rules word words next i [] rows pending has = rw has (sym (guard-None (settle_fault rules false (holding rows pending))))
free-seat form rules word words next i (name ∷ left) rows pending has =
    let held = holding rows pending in
    let used = (settled rules held).rows in
    let after_word = next.free (min (i + 1) usize_max) left used (Some (name, word ∷ [])) has.2 ∙ seat_settles rules used name word i (given form free left words) has.1 in
    rw (has.0) (seat_turn (is_pending (seat name i) pending) (settle_fault rules false held) held (settled rules held)
    (λ h. outcome form rules (standing idle false (min (i + 1) usize_max) (pushed name word h)) words)
    ∙ ap (guard (settle_fault rules false held)) after_word)

free-cons : (form : Form) (rules : List Rule) (word : Text) (words : List Text) → Serves form rules
    → Follows form rules words
    → (i : ℕ) (left : List Text) (rows : List Row) (pending : Option (Text × List Text)) → HasSeats rules i left
    → outcome form rules (standing idle false i (holding rows pending)) (word ∷ words) ≡ settles rules (holding rows pending) (given form free left (word ∷ words))
unfolding walked given
free-cons form rules word words serves next i left rows pending has =
    let held = holding rows pending in
    outcome-next form rules (standing idle false i held) word words ∙ elim (look rules serves.shorts word) [
      | plain_word_is w ↦ rw (w.plain, w.no_end, w.fault rows pending, w.met idle rows pending) (free-seat form rules word words next i left rows pending has)
      | end_is w ↦ rw (w.plain, w.ends) (next.ended i left rows pending idle has)
      | long_is p w ↦ rw (w.plain, w.no_end, w.long)
          (free-long form rules words next i left rows pending has word p.0 (named p.0 form.values) (named p.0 form.flags) p.1 (serves.longs p.0) (serves.value_ids p.0))
      | short_is w ↦ rw (w.plain, w.no_end, w.long, w.fault rows pending) (sym (guard-None (settle_fault rules false held)))
    ]

-- the walk over any words gives what they are
pub follows : (form : Form) (rules : List Rule) → Serves form rules → (words : List Text) → Follows form rules words
follows form rules serves [] = follows-nil form rules
follows form rules serves (word ∷ words) =
    let next = follows form rules serves words in
    record {
      free = free-cons form rules word words serves next;
      wants = wants-cons form rules word words serves next;
      ended = ended-cons form rules word words next;
    }
