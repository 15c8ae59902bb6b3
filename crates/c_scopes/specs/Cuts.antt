-- Scopes as cuts of names in a row.
--   scopes_from es starts   the names cut where scopes start, the newest scope first; a start counts the names before it
--   IsCut n starts          the starts of n names: each is at most the next newer one, and the oldest is 0
--   begun starts            a first scope begins, where there is none
use Rattle.std.specs.Prelude.{◌≡◌, ◌≤◌, ◌-◌, ℕ, List, [], ◌∷◌, length, take, drop}
use Rattle.c_rules.specs.Names.{Scope}

abbrev pub scopes_from : Scope → List ℕ → List Scope
scopes_from es [] = []
scopes_from es (start ∷ starts) = take (length es - start) es ∷ scopes_from (drop (length es - start) es) starts

abbrev pub IsCut : ℕ → List ℕ → Type 0
IsCut n [] = n ≡ 0
IsCut n (start ∷ starts) = (start ≤ n) × IsCut start starts

-- a first scope begins, where there is none
abbrev pub begun : List ℕ → List ℕ
begun [] = 0 ∷ []
begun (start ∷ starts) = start ∷ starts
