-- What rules count.
--   Tokens n m ts      the tokens ascend from n on and are below m, and each is an identifier
--   given names ts     how many calls at these tokens have a frame
--   Taken n at rest P  from a position on tokens are declared, calls made and elements counted as P says
--   Quietly p R        p counts nothing, and what it spells keeps R
--   Fits p post        what p counts
use Rattle.std.proofs.Common.{◌≡◌, ◌≤◌, ◌+◌, ℕ, suc, Bool, List, [], ◌∷◌, length, if◌then◌else◌}
use Rattle.grammar.specs.Form.{Form}
use Rattle.c_unit.specs.Units.{Word}
use Rattle.c_rules.specs.Names.{text_at}
use Rattle.c_grammar.specs.Tokens.{Fault, Seen, Room, Place, gives_value}
use Rattle.lowering_layout.specs.Texts.{IsIdentifier}
use Rattle.c_limits.specs.Taking.{Good, Later}

module _ (words : List Word) where
  abbrev pub Tokens : ℕ → ℕ → List ℕ → Type 0
  Tokens n m [] = n ≤ m
  Tokens n m (t ∷ ts) = (n ≤ t) × IsIdentifier (text_at words t) × Tokens (suc t) m ts

  abbrev pub one_if : Bool → ℕ
  one_if b = if b then 1 else 0

  abbrev pub given : List (List ℕ × Bool) → List ℕ → ℕ
  given names [] = 0
  given names (t ∷ ts) = one_if (gives_value (text_at words t) names) + given names ts

  pub record Taken (n : ℕ) (at rest : Place) (P : List ℕ → List ℕ → ℕ → Type 0) : Type 0 where
    pub ds : List ℕ
    pub calls : List ℕ
    pub el : ℕ
    pub m : ℕ
    pub tokens : Tokens n m ds
    pub good : Good words m rest.ahead
    pub frames : at.room.frames ≡ (length ds + given at.room.names calls) + rest.room.frames
    pub elements : at.room.elements ≡ el + rest.room.elements
    pub functions : rest.room.functions ≡ at.room.functions
    pub names : rest.room.names ≡ at.room.names
    pub holds : P ds calls el

  pub record Quietly {A : Type 0} (p : Form Seen Room Fault A) (R : A → Type 0) : Type 0 where
    pub each : (at : Place) (x : A) (rest : Place) → p.Spells at x rest → Later at rest × R x

  pub record Fits {A : Type 0} (p : Form Seen Room Fault A) (post : A → List ℕ → List ℕ → ℕ → Type 0) : Type 0 where
    pub each : (at : Place) (x : A) (rest : Place) → p.Spells at x rest → (n : ℕ) → Good words n at.ahead
        → Taken n at rest (post x)
