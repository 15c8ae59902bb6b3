-- Nodes in the order in which a run entered them, each with the scope that it was entered in.
--   entered a path      the node a stands in the path
--   met a t path        so with the scope t
--   paired_in p a b path   the node a stands at or after b, with the same scope, which passes the test
--   paired a b path     so with any scope
--   path_sightings n path   what a recorder of n nodes has seen that keeps the path
--   AreBelow n path     each node is one of the first n
--   AreOwn o path       each scope is the own scope of its node
--   AreWithin path scopes   each scope is one of those
--   with_scope scopes t   the scopes, and t after them where it is not among them
--   scopes_in path      the scopes of the path, each once, in the order in which they are met first
--   IsSmall o           numbers of nodes and scopes have 16 bits
use Rattle.std.specs.Prelude.{◌≡◌, ◌<◌, ◌≤◌, ℕ, List, [], ◌∷◌, ◌++◌, Bool, true, false, not, ◌&&◌, ◌||◌, ◌==◌, length, filter, if◌then◌else◌}
use Rattle.std.specs.List.{list_any}
use Rattle.domain_core.specs.Outlines.{Outlined, Shape}
use Rattle.recorder_rules.specs.Generated.{generated}
use Rattle.recorder_rules.specs.LoopRules.{own_of}
use Rattle.recorder_rules.specs.Tables.{tabled}
use Rattle.recorder_rules.specs.PairRules.{Sightings}
use Rattle.pair_recorder.specs.declared.seen.Seen.{Seen}

-- the node a stands in the path
abbrev pub entered : ℕ → List Seen → Bool
entered a [] = false
entered a (e ∷ path) = (a == e.node) || entered a path

-- and so with the scope t
abbrev pub met : ℕ → ℕ → List Seen → Bool
met a t [] = false
met a t (e ∷ path) = ((a == e.node) && (t == e.scope)) || met a t path

-- the node a stands at or after b, with the same scope, which passes the test: the newest node stands last
abbrev pub paired_in : (ℕ → Bool) → ℕ → ℕ → List Seen → Bool
paired_in p a b [] = false
paired_in p a b (e ∷ path) = (p e.scope && ((b == e.node) && met a e.scope (e ∷ path))) || paired_in p a b path

-- and so with any scope
abbrev pub paired : ℕ → ℕ → List Seen → Bool
paired a b path = paired_in (λ t. true) a b path

-- what a recorder of n nodes has seen that keeps the path
abbrev pub path_sightings : ℕ → List Seen → Sightings
path_sightings n path = record { seen = generated n (λ a. entered a path); pairs = tabled n n (λ a b. paired a b path) }

-- each node is one of the first n
abbrev pub AreBelow : ℕ → List Seen → Type 0
AreBelow n [] = Unit {0}
AreBelow n (e ∷ path) = (e.node < n) × AreBelow n path

-- each scope is the own scope of its node
abbrev pub AreOwn : Shape → List Seen → Type 0
AreOwn o [] = Unit {0}
AreOwn o (e ∷ path) = (own_of o e.node ≡ e.scope) × AreOwn o path

-- each scope is one of those
abbrev pub AreWithin : List Seen → List ℕ → Type 0
AreWithin [] scopes = Unit {0}
AreWithin (e ∷ path) scopes = (list_any (λ s. e.scope == s) scopes ≡ true) × AreWithin path scopes

-- the scopes, and t after them where it is not among them
abbrev pub with_scope : List ℕ → ℕ → List ℕ
with_scope scopes t = if list_any (λ s. t == s) scopes then scopes else scopes ++ t ∷ []

-- the scopes of the path, each once, in the order in which they are met first
abbrev pub scopes_in : List Seen → List ℕ
scopes_in [] = []
scopes_in (e ∷ path) = e.scope ∷ filter (λ s. not (s == e.scope)) (scopes_in path)

-- numbers of nodes and scopes have 16 bits
abbrev pub IsSmall : Outlined → Type 0
IsSmall o = (length o.nodes ≤ 65536) × (length o.scopes ≤ 65536)
