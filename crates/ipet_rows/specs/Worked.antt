-- Rows of small outlines, to be worked out.
--   EntryAndBlock     an entry and one block that ends the run: two flows and two totals
--   LoopOfTen         a loop of ten turns: its two rows, and the two of its body's count
--   LoopOfSome        a loop of up to eleven turns: the greatest count holds it from above, the least from below
--   FaultColumnLast   a fault has a column of its own
--   PairOfLoop        a pair weighs the header against its two nodes
--   two_rows          columns that cost 5 and 6, an equation and an at-most row
--   two_terms         2 at place 0 and 3 at place 2
use Rattle.std.specs.Prelude.{◌≡◌, ℕ, ℤ, pos, negsuc, true, false, None, Some, List, [], ◌∷◌, drop}
use Rattle.alf_ops.specs.declared.history.RunFault.TheVariants.{Divide, Uninit}
use Rattle.domain_core.specs.declared.scope_kind.ScopeKind.TheVariants.{Call, Loop as LoopScope}
use Rattle.domain_core.specs.Outlines.{Shape}
use Rattle.flow_facts.specs.declared.fact.Fact.TheVariants.{Loop, Count, Dead, Total, Pair, Alarm}
use Rattle.ipet_rows.specs.Programs.{Row, Program}
use Rattle.ipet_rows.specs.Rows.{program_of}

abbrev pub two_nodes : Shape
two_nodes = record { edges = (0, 1) ∷ (1, 2) ∷ []; own = 0 ∷ 0 ∷ []; ranks = 0 ∷ 1 ∷ []; scopes = record { parent = None; header = 0; kind = Call } ∷ [] }

abbrev pub equation : List (ℕ × ℤ) → ℤ → Row
equation terms right = record { equation = true; terms = terms; right = right }

abbrev pub most : List (ℕ × ℤ) → ℤ → Row
most terms right = record { equation = false; terms = terms; right = right }

-- an entry and one block that ends the run, each there once
abbrev pub EntryAndBlock : Type 0
EntryAndBlock = (program_of two_nodes (0 ∷ 1 ∷ []) (Total 0 1 1 ∷ Total 1 1 1 ∷ [])).rows
    ≡ equation ((0, pos 1) ∷ []) (pos 1)
    ∷ equation ((0, negsuc 0) ∷ (1, pos 1) ∷ []) (pos 0)
    ∷ most ((0, pos 1) ∷ []) (pos 1)
    ∷ most ((0, negsuc 0) ∷ []) (negsuc 0)
    ∷ most ((1, pos 1) ∷ []) (pos 1)
    ∷ most ((1, negsuc 0) ∷ []) (negsuc 0)
    ∷ []

-- edges 0-1, 1-2, 2-3, 2-4, 3-2 and 4-5: a loop with header 2 and body 3
abbrev pub one_loop : Shape
one_loop = record {
  edges = (0, 1) ∷ (1, 2) ∷ (2, 3) ∷ (2, 4) ∷ (3, 2) ∷ (4, 5) ∷ [];
  own = 0 ∷ 0 ∷ 1 ∷ 1 ∷ 0 ∷ [];
  ranks = 0 ∷ 1 ∷ 2 ∷ 3 ∷ 4 ∷ [];
  scopes = record { parent = None; header = 0; kind = Call } ∷ record { parent = Some 0; header = 2; kind = LoopScope } ∷ [];
}

-- a loop of ten turns: after five flows the two rows of the loop, and last the two of its body's count
abbrev pub LoopOfTen : Type 0
LoopOfTen = drop 5 (program_of one_loop (0 ∷ 1 ∷ 1 ∷ 1 ∷ 1 ∷ []) (Loop 1 11 11 ∷ Count 1 3 10 10 ∷ [])).rows
    ≡ most ((1, negsuc 10) ∷ (2, pos 1) ∷ (3, pos 1) ∷ []) (pos 0)
    ∷ most ((1, pos 11) ∷ (2, negsuc 0) ∷ (3, negsuc 0) ∷ []) (pos 0)
    ∷ most ((1, negsuc 9) ∷ (4, pos 1) ∷ []) (pos 0)
    ∷ most ((1, pos 10) ∷ (4, negsuc 0) ∷ []) (pos 0)
    ∷ []

-- a loop whose header comes 1 to 11 times and its body 0 to 10: the greatest holds from above, the least from below
abbrev pub LoopOfSome : Type 0
LoopOfSome = drop 5 (program_of one_loop (0 ∷ 1 ∷ 1 ∷ 1 ∷ 1 ∷ []) (Loop 1 1 11 ∷ Count 1 3 0 10 ∷ [])).rows
    ≡ most ((1, negsuc 10) ∷ (2, pos 1) ∷ (3, pos 1) ∷ []) (pos 0)
    ∷ most ((1, pos 1) ∷ (2, negsuc 0) ∷ (3, negsuc 0) ∷ []) (pos 0)
    ∷ most ((1, negsuc 9) ∷ (4, pos 1) ∷ []) (pos 0)
    ∷ most ((4, negsuc 0) ∷ []) (pos 0)
    ∷ []

-- a fault has a column of its own, after the edges, however many alarms there are
abbrev pub FaultColumnLast : Type 0
FaultColumnLast = (program_of two_nodes (3 ∷ 7 ∷ []) (Dead 0 ∷ Alarm 1 Divide ∷ Alarm 1 Uninit ∷ [])).costs ≡ 3 ∷ 7 ∷ 7 ∷ []

-- a pair weighs the header against its two nodes
abbrev pub PairOfLoop : Type 0
PairOfLoop = drop 5 (program_of one_loop (0 ∷ 1 ∷ 1 ∷ 1 ∷ 1 ∷ []) (Pair 1 3 4 ∷ [])).rows ≡ most ((2, negsuc 0) ∷ (3, negsuc 0) ∷ (4, pos 1) ∷ (5, pos 1) ∷ []) (pos 0) ∷ []

-- x0 - x1 = 3 and 4 x1 <= 7
abbrev pub two_rows : Program
two_rows = record { costs = 5 ∷ 6 ∷ []; rows = equation ((0, pos 1) ∷ (1, negsuc 0) ∷ []) (pos 3) ∷ most ((1, pos 4) ∷ []) (pos 7) ∷ [] }

abbrev pub two_terms : List (ℕ × ℤ)
two_terms = (0, pos 2) ∷ (2, pos 3) ∷ []
