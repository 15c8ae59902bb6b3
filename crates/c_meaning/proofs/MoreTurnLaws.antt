-- More turns keep what is known.
--   at_most                  n is at most m
--   ending_kept, outcome_kept   the ending and the outcome with n turns are kept with more
use Rattle.std.proofs.Common.{◌≡◌, ◌≢◌, ℕ, zero, suc, ◌+◌, ◌≤◌, List, [], ◌∷◌, length, refl, arith}
use Rattle.std.specs.Prelude.{⊤}
use Rattle.alf_ops.specs.declared.history.Value.{Value}
use Rattle.c_unit.specs.Units.{UnitTree}
use Rattle.c_rules.specs.Recursion.{called_in}
use Rattle.c_meaning.specs.Objects.{Program, program_of, function_at}
use Rattle.c_meaning.specs.Endings.{History, Ending}
use Rattle.c_meaning.specs.Statements.{Callees}
use Rattle.c_meaning.specs.Programs.{Cell, entered, function_done, start_history, ending, Unfinished, outcome_of, root_of, outcome}
use Rattle.c_meaning.proofs.KeepingLaws.{Kept, unknown, same, AtMost, at_zero, at_next, EachCalled, CallKept, number_at_token, bodies_kept}

at_most : (n m : ℕ) → n ≤ m → AtMost ⊤ n m
at_most zero m le = at_zero tt
at_most (suc n) zero le = absurd (omega arith)
at_most (suc n) (suc m) le = at_next (at_most n m (omega arith))

-- what holds of all names holds of those that are called
each_of_all : (G : ℕ → Type 0) → ((token : ℕ) → G token) → (tokens : List ℕ) → EachCalled G tokens
each_of_all G all [] = tt
each_of_all G all (token ∷ tokens) = (all token, each_of_all G all tokens)

functions_kept : (program : Program) (n m : ℕ) → AtMost ⊤ n m → (depth further : ℕ) → AtMost ⊤ depth further
    → (f : ℕ) (vs : List Value) (h : History) → Kept ⊤ (function_done program n depth f vs h) (function_done program m further f vs h)
functions_kept program n m le zero further shallow f vs h = unknown tt
functions_kept program n m le (suc depth) zero deeper f vs h = elim deeper [ ]
functions_kept program n m le (suc depth) (suc further) (at_next deeper) f vs h =
    bodies_kept ⊤ program n m le (function_done program n depth) (function_done program m further) f
    (each_of_all (CallKept ⊤ program (function_done program n depth) (function_done program m further))
    (λ token. functions_kept program n m le depth further deeper (number_at_token program token)) (called_in (function_at program f).body))
    (entered program f vs h)

pub ending_kept : (unit : UnitTree) (root n m : ℕ) (cells : List Cell) → n ≤ m
    → Kept ⊤ (ending unit root n cells) (ending unit root m cells)
ending_kept unit root n m cells le =
    let program : Program = program_of unit in
    let count : ℕ = length program.functions in
    let few : Callees = function_done program n (count + n) in
    let more : Callees = function_done program m (count + m) in
    let deeper : AtMost ⊤ (count + n) (count + m) = at_most (count + n) (count + m) (omega arith) in
    bodies_kept ⊤ program n m (at_most n m le) few more root
    (each_of_all (CallKept ⊤ program few more) (λ token. functions_kept program n m (at_most n m le) (count + n) (count + m) deeper (number_at_token program token))
    (called_in (function_at program root).body))
    (start_history unit root cells)

kept_outcome : (unit : UnitTree) {a b : Ending} → Kept ⊤ a b → outcome_of unit a ≢ Unfinished
    → outcome_of unit b ≡ outcome_of unit a
kept_outcome unit (unknown allowed) known = absurd (known refl)
kept_outcome unit same known = refl

pub outcome_kept : (unit : UnitTree) (root : List ℕ) (n m : ℕ) (cells : List Cell) → n ≤ m
    → outcome unit root n cells ≢ Unfinished
    → outcome unit root m cells ≡ outcome unit root n cells
outcome_kept unit root n m cells le = kept_outcome unit (ending_kept unit (root_of unit root) n m cells le)
