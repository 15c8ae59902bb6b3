-- How many tokens rules take.
--   Less p, Strict p     p leaves no more tokens, and fewer
use Rattle.std.proofs.Common.{◌≤◌, ◌<◌, ◌+◌, ℕ, Bool, true, false, List, [], ◌∷◌, Ok, arith}
use Rattle.grammar.specs.Form.{Form, left}
use Rattle.grammar.specs.Exact.{Fewer}
use Rattle.c_grammar.specs.Tokens.{Fault, Seen, Room, Place, Rule}

pub record Less {A : Type 0} (p : Form Seen Room Fault A) : Type 0 where
  pub each : (at : Place) (x : A) (rest : Place) → p.Spells at x rest → left rest ≤ left at

pub record Strict {A : Type 0} (p : Form Seen Room Fault A) : Type 0 where
  pub each : (at : Place) (x : A) (rest : Place) → p.Spells at x rest → left rest < left at

-- a rule leaves no more tokens, and one that takes some leaves fewer
fewer : {A : Type 0} {some : Bool} (r : Rule some A) (at : Place) (x : A) (rest : Place) → r.form.Spells at x rest
    → Fewer some (left rest) (left at)
fewer r at x rest s = r.exact.shrinks at (x, rest) (r.exact.alone at (Ok (x, rest)) s)

no_more : (some : Bool) (a b : ℕ) → Fewer some a b → a ≤ b
no_more true a b low = omega arith
no_more false a b low = low

pub less : {A : Type 0} {some : Bool} (r : Rule some A) → Less r.form
less {some = some} r = record { each = λ at x rest s. no_more some (left rest) (left at) (fewer r at x rest s) }

pub strict : {A : Type 0} (r : Rule true A) → Strict r.form
strict r = record { each = λ at x rest s. fewer r at x rest s }

abbrev pub total : {A : Type 0} → (A → ℕ) → List A → ℕ
total f [] = 0
total f (x ∷ xs) = f x + total f xs
