-- What the definitions of words come to.
--   joined            `--name=value`, in one word
--   IsOption          the text names an option of the command that takes a value
--   HaveTwoSpellings  a value may stand in the option's word or after it
--   HaveAnyOrder      an option with its value may change places with a positional, and with another
--   HaveNamesOnce     no name is used twice, and each positional is there
use Rattle.std.specs.Prelude.{◌≡◌, ⊤, true, false, List, [], ◌∷◌, ◌++◌, Some}
use Rattle.std.specs.List.{list_all}
use Rattle.clap.specs.Lexer.{has_byte}
use Rattle.sweet_words.specs.Forms.{Text, Form, named}
use Rattle.sweet_words.specs.Given.{Uses, free, given, is_plain, is_nothing, is_used, uses_of, with_use}
use Rattle.sweet_words.specs.Commands.{command_in}

-- `--name`
abbrev pub alone : Text → Text
alone name = 45 ∷ 45 ∷ name

-- `--name=value`
abbrev pub joined : Text → Text → Text
joined name value = 45 ∷ 45 ∷ (name ++ 61 ∷ value)

-- the command has an option with a value of this name, which is not empty and has no `=`
pub record IsOption (form : Form) (name : Text) : Type 0 where
  pub there : named name form.values ≡ Some name
  pub some : is_nothing name ≡ false
  pub plain : has_byte 61 name ≡ false

-- `--x=v` gives v to the option x, whatever v is
abbrev pub HaveJoined : Type 0
HaveJoined = (form : Form) (name value : Text) → IsOption form name → (left words : List Text)
    → given form free left (joined name value ∷ words) ≡ with_use name value (given form free left words)

-- `--x v` is the same, where v is plain
abbrev pub HaveTwoSpellings : Type 0
HaveTwoSpellings = (form : Form) (name value : Text) → IsOption form name → is_plain value ≡ true → (left words : List Text)
    → given form free left (alone name ∷ value ∷ words) ≡ given form free left (joined name value ∷ words)

-- an option may stand before or after a positional
abbrev pub HaveAnyPlace : Type 0
HaveAnyPlace = (form : Form) (name value word : Text) → IsOption form name → is_plain word ≡ true → (words : List Text)
    → command_in form (joined name value ∷ word ∷ words) ≡ command_in form (word ∷ joined name value ∷ words)

-- two options may stand in either order
abbrev pub HaveAnyOrder : Type 0
HaveAnyOrder = (form : Form) (name value other found : Text) → IsOption form name → IsOption form other → (words : List Text)
    → command_in form (joined name value ∷ joined other found ∷ words) ≡ command_in form (joined other found ∷ joined name value ∷ words)

-- no name stands twice
abbrev pub NamesDiffer : Uses → Type 0
NamesDiffer [] = ⊤
NamesDiffer (entry ∷ uses) = (is_used entry.0 uses ≡ false) × NamesDiffer uses

-- a command uses each name once at most, and each positional
abbrev pub HaveNamesOnce : Type 0
HaveNamesOnce = (form : Form) (words : List Text) (uses : Uses) → uses_of form words ≡ Some uses
    → NamesDiffer uses × (list_all (λ name. is_used name uses) form.positionals ≡ true)
