-- Positions: where a state stands, put so that lesser ones come first.
--   header_rank o t           the rank of the header of the scope t
--   position_by o turn n      for each scope around the node n, from the outermost, the rank of its header and its number; last the rank of n
--   position_of o trace       the position at the end of a trace, whose newest node is written first
--   IsPosition o n position   each scope around the node n has the rank of its header and some number there, and n its rank
--   turn_in scopes position t the number of the scope t in the position of a node with these scopes around it, or 0
--   entered o k t turn        the number of a scope around the node k once k is entered
--   moved_position o n position k   the position after an edge from n to k
use Rattle.std.specs.Prelude.{◌≡◌, ℕ, ◌+◌, ◌==◌, List, [], ◌∷◌, ◌++◌, if◌then◌else◌, slice_index}
use Rattle.domain_core.specs.Outlines.{Shape, header_of, scopes_around}
use Rattle.domain_core.specs.Executions.{is_header, turns_of}

-- the rank of the header of the scope t
abbrev pub header_rank : Shape → ℕ → ℕ
header_rank o t = slice_index o.ranks (header_of o.scopes t)

-- the rank of its header and its number, for each of these scopes
abbrev pub ranks_and_turns : Shape → (ℕ → ℕ) → List ℕ → List ℕ
ranks_and_turns o turn [] = []
ranks_and_turns o turn (t ∷ scopes) = header_rank o t ∷ turn t ∷ ranks_and_turns o turn scopes

-- the position at the node n, where each scope has its number
abbrev pub position_by : Shape → (ℕ → ℕ) → ℕ → List ℕ
position_by o turn n = ranks_and_turns o turn (scopes_around o n) ++ slice_index o.ranks n ∷ []

-- the position at the end of a trace
abbrev pub position_of : Shape → List ℕ → List ℕ
position_of o [] = []
position_of o (n ∷ past) = position_by o (λ t. slice_index (turns_of o (n ∷ past)) t) n

-- some number for each scope around the node n
abbrev pub IsPosition : Shape → ℕ → List ℕ → Type 0
IsPosition o n position = (turn : ℕ → ℕ) × (position ≡ position_by o turn n)

-- the number of the scope t in a position
abbrev pub turn_in : List ℕ → List ℕ → ℕ → ℕ
turn_in [] position t = 0
turn_in (s ∷ scopes) [] t = 0
turn_in (s ∷ scopes) (rank ∷ []) t = 0
turn_in (s ∷ scopes) (rank ∷ turn ∷ position) t = if t == s then turn else turn_in scopes position t

-- the number of a scope around the node k once k is entered, from its number before
abbrev pub entered : Shape → ℕ → ℕ → ℕ → ℕ
entered o k t turn = if is_header o t k then turn + 1 else turn

-- the position after an edge from n to k
abbrev pub moved_position : Shape → ℕ → List ℕ → ℕ → List ℕ
moved_position o n position k = position_by o (λ t. entered o k t (turn_in (scopes_around o n) position t)) k
