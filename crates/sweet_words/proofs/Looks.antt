-- What a word looks like to `clap`: plain, `--`, with two dashes, or with one.
use Rattle.std.specs.Prelude.{◌≡◌, ℕ, Bool, true, false, ◌==◌, List, [], ◌∷◌, Option, None, Some}
use Rattle.std.specs.Str.{bytes_eq, chars}
use Rattle.std.proofs.Common.{refl, sym, subst}
use Rattle.std.proofs.lemmas.Bool.{eqb-true}
use Rattle.clap.specs.Lexer.{long_of}
use Rattle.clap.specs.Walk.{Rule, Row, Held, Waiting, arg_by_short, long_or_other, plain_word, bundle_met}
use Rattle.clap.specs.Faults.{flag_word_fault, flags_fault}
use Rattle.clap.specs.declared.error.kind.ErrorKind.TheVariants.{UnknownArgument}
use Rattle.sweet_words.specs.Forms.{Text}
use Rattle.sweet_words.specs.Given.{is_plain}

abbrev pub holding : List Row → Option (Text × List Text) → Held
holding rows pending = record { rows = rows; pending = pending; skip = 0 }

-- two ways, by a test
pub by_test : {A : Type 0} (b : Bool) → (b ≡ true → A) → (b ≡ false → A) → A
by_test true holds fails = holds refl
by_test false holds fails = fails refl

-- the word goes to a positional or is a value
pub record IsPlainWord (rules : List Rule) (word : Text) : Type 0 where
  pub plain : is_plain word ≡ true
  pub no_end : bytes_eq word (45 ∷ 45 ∷ []) ≡ false
  pub fault : (rows : List Row) (pending : Option (Text × List Text))
      → flag_word_fault rules false (long_of word) word (holding rows pending) ≡ []
  pub met : (waiting : Waiting) (rows : List Row) (pending : Option (Text × List Text))
      → long_or_other rules waiting word (long_of word) (holding rows pending) ≡ plain_word rules waiting word (holding rows pending)

-- the word is `--`
pub record IsEnd (word : Text) : Type 0 where
  pub plain : is_plain word ≡ false
  pub ends : bytes_eq word (45 ∷ 45 ∷ []) ≡ true

-- the word has two dashes and a name
pub record IsLong (word : Text) (p : Text × Option Text) : Type 0 where
  pub plain : is_plain word ≡ false
  pub no_end : bytes_eq word (45 ∷ 45 ∷ []) ≡ false
  pub long : long_of word ≡ Some p

-- the word has one dash and a character after it
pub record IsShort (rules : List Rule) (word : Text) : Type 0 where
  pub plain : is_plain word ≡ false
  pub no_end : bytes_eq word (45 ∷ 45 ∷ []) ≡ false
  pub long : long_of word ≡ None
  pub fault : (rows : List Row) (pending : Option (Text × List Text))
      → flag_word_fault rules false None word (holding rows pending) ≡ UnknownArgument ∷ []

pub data Look (rules : List Rule) (word : Text) : Type 0 where
  plain_word_is : IsPlainWord rules word → Look rules word
  end_is : IsEnd word → Look rules word
  long_is : (p : Text × Option Text) → IsLong word p → Look rules word
  short_is : IsShort rules word → Look rules word

-- one dash, and then no dash
one_dash : (rules : List Rule) → ((c : ℕ) → arg_by_short rules c ≡ None) → (y : ℕ) (rest : Text) → (y == 45) ≡ false
    → (cs : List ℕ) → chars (y ∷ rest) ≡ cs → Look rules (45 ∷ y ∷ rest)
unfolding flags_fault bundle_met
one_dash rules shorts y rest other [] spelled = plain_word_is (record {
  plain = rw spelled refl;
  no_end = rw other refl;
  fault = λ rows pending. rw (other, other, spelled) refl;
  met = λ waiting rows pending. rw (other, other, spelled) refl;
})
one_dash rules shorts y rest other (c ∷ cs) spelled = short_is (record {
  plain = rw spelled refl;
  no_end = rw other refl;
  long = rw other refl;
  fault = λ rows pending. rw (other, spelled, shorts c) refl;
})

two_dashes : (rules : List Rule) (rest : Text) → Look rules (45 ∷ 45 ∷ rest)
unfolding chars
two_dashes rules [] = end_is (record { plain = refl; ends = refl })
two_dashes rules (z ∷ zs) = long_is _ (record { plain = refl; no_end = refl; long = refl })

a_dash : (rules : List Rule) → ((c : ℕ) → arg_by_short rules c ≡ None) → (rest : Text) → Look rules (45 ∷ rest)
unfolding chars
a_dash rules shorts [] = plain_word_is (record { plain = refl; no_end = refl; fault = λ rows pending. refl; met = λ waiting rows pending. refl })
a_dash rules shorts (y ∷ rest) = by_test (y == 45)
    (λ e. subst (λ (n : ℕ). Look rules (45 ∷ n ∷ rest)) (sym (eqb-true y 45 e)) (two_dashes rules rest))
    (λ e. one_dash rules shorts y rest e (chars (y ∷ rest)) refl)

no_dash : (rules : List Rule) (x : ℕ) (rest : Text) → (x == 45) ≡ false → Look rules (x ∷ rest)
no_dash rules x rest other = plain_word_is (record {
  plain = rw other refl;
  no_end = rw other refl;
  fault = λ rows pending. rw (other, other) refl;
  met = λ waiting rows pending. rw (other, other) refl;
})

-- each word is one of these
pub look : (rules : List Rule) → ((c : ℕ) → arg_by_short rules c ≡ None) → (word : Text) → Look rules word
look rules shorts [] = plain_word_is (record { plain = refl; no_end = refl; fault = λ rows pending. refl; met = λ waiting rows pending. refl })
look rules shorts (x ∷ rest) = by_test (x == 45)
    (λ e. subst (λ (n : ℕ). Look rules (n ∷ rest)) (sym (eqb-true x 45 e)) (a_dash rules shorts rest))
    (no_dash rules x rest)
