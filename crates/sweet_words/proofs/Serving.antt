-- The rules of a command serve its form.
use Rattle.std.specs.Prelude.{◌≡◌, ℕ, Bool, not, ◌&&◌, ◌+◌, ⊤, List, [], ◌∷◌, ◌++◌, map, min, None, Some, find, is_some}
use Rattle.std.specs.Str.{bytes_eq}
use Rattle.std.proofs.Common.{refl, ◌∙◌, subst}
use Rattle.clap.specs.Lexer.{usize_max}
use Rattle.clap.specs.Walk.{Rule, arg_by_id, has_long, has_short}
use Rattle.sweet_words.specs.Forms.{Text, Form, named}
use Rattle.sweet_words.proofs.Looks.{by_test}
use Rattle.sweet_words.proofs.Walking.{seats, valued, flagged, optional, built_rules, option_rule, Serves}

abbrev takes_long : Text → Rule → Bool
takes_long name a = not (is_some a.index) && has_long a name

flags_by_long : (names : List Text) (text : Text)
    → find (takes_long text) (map flagged names) ≡ option_rule None (named text names)
flags_by_long [] text = refl
flags_by_long (name ∷ names) text = by_test (bytes_eq name text) (λ e. rw e refl) (λ e. rw e (flags_by_long names text))

values_by_long : (names flags : List Text) (text : Text)
    → find (takes_long text) (map valued names ++ map flagged flags) ≡ option_rule (named text names) (named text flags)
values_by_long [] flags text = flags_by_long flags text
values_by_long (name ∷ names) flags text = by_test (bytes_eq name text) (λ e. rw e refl) (λ e. rw e (values_by_long names flags text))

seats_by_long : (i : ℕ) (names : List Text) (rest : List Rule) (text : Text)
    → find (takes_long text) (seats i names rest) ≡ find (takes_long text) rest
seats_by_long i [] rest text = refl
seats_by_long i (name ∷ names) rest text = seats_by_long (min (i + 1) usize_max) names rest text

abbrev takes_short : ℕ → Rule → Bool
takes_short c a = not (is_some a.index) && has_short a c

flags_by_short : (names : List Text) (c : ℕ) → find (takes_short c) (map flagged names) ≡ None
flags_by_short [] c = refl
flags_by_short (name ∷ names) c = flags_by_short names c

values_by_short : (names flags : List Text) (c : ℕ)
    → find (takes_short c) (map valued names ++ map flagged flags) ≡ None
values_by_short [] flags c = flags_by_short flags c
values_by_short (name ∷ names) flags c = values_by_short names flags c

seats_by_short : (i : ℕ) (names : List Text) (rest : List Rule) (c : ℕ)
    → find (takes_short c) (seats i names rest) ≡ find (takes_short c) rest
seats_by_short i [] rest c = refl
seats_by_short i (name ∷ names) rest c = seats_by_short (min (i + 1) usize_max) names rest c

-- each option with a value is found by its name
abbrev pub HasValues : List Rule → List Text → Type 0
HasValues rules [] = ⊤
HasValues rules (name ∷ names) = (arg_by_id rules name ≡ Some (valued name)) × HasValues rules names

value_found : (rules : List Rule) (names : List Text) → HasValues rules names → (text name : Text)
    → named text names ≡ Some name → arg_by_id rules name ≡ Some (valued name)
value_found rules [] has text name e = absurd (cc)
value_found rules (first ∷ names) has text name e = by_test (bytes_eq first text)
    (λ here. let same : Some first ≡ Some name = rw here at e in subst (λ (n : Text). arg_by_id rules n ≡ Some (valued n)) (cc) has.0)
    (λ past. let later : named text names ≡ Some name = rw past at e in value_found rules names has.1 text name later)

pub serves : (form : Form) → HasValues (built_rules form) form.values → Serves form (built_rules form)
serves form has = record {
  longs = λ text. seats_by_long 1 form.positionals (optional form) text ∙ values_by_long form.values form.flags text;
  shorts = λ c. seats_by_short 1 form.positionals (optional form) c ∙ values_by_short form.values form.flags c;
  value_ids = value_found (built_rules form) form.values has;
}
