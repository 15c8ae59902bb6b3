-- What rules take.
--   Good words n ts    the tokens ahead have ascending numbers from n on, and each is what the words have there
--   Later at rest      nothing is counted, and what is left stands later
use Rattle.std.proofs.Common.{◌≡◌, ◌≤◌, ℕ, suc, Bool, List, [], ◌∷◌}
use Rattle.std.specs.Prelude.{⊤}
use Rattle.c_unit.specs.Units.{Word}
use Rattle.c_rules.specs.Names.{text_at, worth_at, number_of}
use Rattle.c_grammar.specs.declared.symbol.Symbol.TheVariants as symbols
use Rattle.c_grammar.specs.Tokens.{Seen, Place}
use Rattle.lowering_layout.specs.Texts.{IsIdentifier}

module _ (words : List Word) where
  -- a token is what the words have at its number
  pub record Faithful (t : Seen) : Type 0 where
    pub text : text_at words t.number ≡ t.text
    pub name : t.symbol ≡ symbols.Name → IsIdentifier t.text
    pub constant : (n : ℕ) → t.symbol ≡ symbols.Constant n → number_of (worth_at words t.number) ≡ n

  abbrev pub Good : ℕ → List Seen → Type 0
  Good n [] = ⊤
  Good n (t ∷ ts) = (n ≤ t.number) × Faithful t × Good (suc t.number) ts

-- nothing is counted, and what is left stands later
pub record Later (at rest : Place) : Type 0 where
  pub good : (words : List Word) (n : ℕ) → Good words n at.ahead → Good words n rest.ahead
  pub room : rest.room ≡ at.room
