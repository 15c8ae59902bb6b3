-- What the words after a command's name give.
--   Uses        names with their values, in the order of the words
--   Due         what the next word may be
--   is_plain    the word is no option
--   given       the uses that the words are, where they are uses of what the command has
--   is_once     no use repeats the name of an earlier one
--   uses_of     the uses of a command, where each name is used once and each positional is there
use Rattle.std.specs.Prelude.{ℕ, Bool, true, false, not, ◌&&◌, ◌||◌, ◌==◌, List, [], ◌∷◌, ◌++◌, Option, None, Some, if◌then◌else◌, codes, option_and_then, find, option_map}
use Rattle.std.specs.List.{list_any, list_all}
use Rattle.std.specs.Str.{bytes_eq, chars}
use Rattle.clap.specs.Lexer.{long_of}
use Rattle.sweet_words.specs.Forms.{Text, Form, named}

-- a positional or an option by its name, with its value
abbrev pub Uses : Type 0
Uses = List (Text × Text)

-- what the next word may be: an option or a positional; the value of the option of this name; or a
-- positional alone, since the options have ended
pub data Due : Type 0 where
  free : Due
  wants : Text → Due
  ended : Due

-- nothing stands there
abbrev pub is_nothing : List ℕ → Bool
is_nothing [] = true
is_nothing (x ∷ xs) = false

-- the word is no dash (45) with a character after it
abbrev pub is_plain : Text → Bool
is_plain [] = true
is_plain (x ∷ rest) = not (x == 45) || is_nothing (chars rest)

-- one more use before the others
abbrev pub with_use : Text → Text → Option Uses → Option Uses
with_use name value None = None
with_use name value (Some uses) = Some ((name, value) ∷ uses)

-- the word is the value of the first of the positionals that are left
abbrev pub seated : List Text → Text → (List Text → Option Uses) → Option Uses
seated [] word next = None
seated (name ∷ left) word next = with_use name word (next left)

-- an option takes the value that is in its word, and else the next word
abbrev pub value_used : Text → Option Text → List Text → (Due → List Text → Option Uses) → Option Uses
value_used name (Some value) left next = with_use name value (next free left)
value_used name None left next = next (wants name) left

-- a flag takes no value, and stands for `true`
abbrev pub flag_used : Text → Option Text → List Text → (Due → List Text → Option Uses) → Option Uses
flag_used name (Some value) left next = None
flag_used name None left next = with_use name (codes "true") (next free left)

-- what an option of the command does, found among those with a value and among the flags
abbrev pub option_used : Option Text → Option Text → Option Text → List Text → (Due → List Text → Option Uses)
    → Option Uses
option_used (Some name) flag value left next = value_used name value left next
option_used None (Some name) value left next = flag_used name value left next
option_used None None value left next = None

-- `--name` or `--name=value`; no word with one dash is an option
abbrev pub dashed : Form → Option (Text × Option Text) → List Text → (Due → List Text → Option Uses) → Option Uses
dashed form None left next = None
dashed form (Some p) left next = option_used (named p.0 form.values) (named p.0 form.flags) p.1 left next

-- one word, where `next` gives the uses of the words after it; `--` ends the options
abbrev pub word_used : Form → Due → List Text → Text → (Due → List Text → Option Uses) → Option Uses
word_used form free left word next =
    if is_plain word then seated left word (next free)
    else if bytes_eq word (codes "--") then next ended left
    else dashed form (long_of word) left next
word_used form (wants name) left word next = if is_plain word then with_use name word (next free left) else None
word_used form ended left word next = seated left word (next ended)

-- no value is due at the end
abbrev pub nothing_due : Due → Option Uses
nothing_due (wants name) = None
nothing_due _ = Some []

-- the uses that the words are, where these positionals are left
unfoldable pub given : Form → Due → List Text → List Text → Option Uses
given form due left [] = nothing_due due
given form due left (word ∷ words) = word_used form due left word (λ d l. given form d l words)

-- the name is used
abbrev pub is_used : Text → Uses → Bool
is_used name uses = list_any (λ entry. bytes_eq entry.0 name) uses

-- no use repeats a name that was used before
abbrev pub is_once : Uses → Uses → Bool
is_once before [] = true
is_once before (entry ∷ uses) = not (is_used entry.0 before) && is_once (before ++ entry ∷ []) uses

-- each name is used once, and each positional is there
abbrev pub is_whole : Form → Uses → Bool
is_whole form uses = is_once [] uses && list_all (λ name. is_used name uses) form.positionals

-- the uses, where they are whole
abbrev pub if_whole : Form → Uses → Option Uses
if_whole form uses = if is_whole form uses then Some uses else None

-- what the words after the command's name give
abbrev pub uses_of : Form → List Text → Option Uses
uses_of form words = option_and_then (if_whole form) (given form free form.positionals words)

-- the value of the first use of the name
abbrev pub value_of : Text → Uses → Option Text
value_of name uses = option_map (λ entry. entry.1) (find (λ entry. bytes_eq entry.0 name) uses)

-- a flag that is left out stands for `false`
abbrev pub or_false : Option Text → Option Text → Option Text
or_false (Some value) flag = Some value
or_false None (Some name) = Some (codes "false")
or_false None None = None

-- the value of the name, of an option that is left out none
abbrev pub value_in : Form → Uses → Text → Option Text
value_in form uses name = or_false (value_of name uses) (named name form.flags)
