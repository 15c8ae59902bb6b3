-- The pivot rule: choices, the step, the run.
--   leaving t            the row: a negative right side, the least basic place
--   entering row d n     the place: a negative number, the least ratio, ties by place
--   pivoted neg r e t    the step
use Rattle.std.specs.Prelude.{ℕ, zero, suc, ℤ, pos, neg_ℤ, ◌*ℤ◌, ◌-ℤ◌, ◌-◌, int_lt, nat_lt, ◌&&◌, ◌||◌, not, Bool, true, false, List, [], ◌∷◌, Option, None, Some, if◌then◌else◌, length}
use Rattle.std.specs.Int.{int_div_euclid}
use Rattle.std.specs.List.{list_any}
use Rattle.whole_numbers.specs.Numbers.{gcd}
use Rattle.ipet_rows.specs.Rows.{vanishes}
use Rattle.ipet_rows.specs.Programs.{Program}
use Rattle.ipet_rows.specs.Firsts.{fits, entry}
use Rattle.ipet_rows.specs.Verdicts.{verdict}
use Rattle.ipet_rows.specs.declared.verdict.Verdict.{Verdict}
use Rattle.ipet_rows.specs.declared.verdict.Verdict.TheVariants.{Holds, Negative, Wide, Column, Bound}
use Rattle.simplex_rules.specs.Lines.{times_line, cleared}
use Rattle.simplex_rules.specs.Tableaus.{Held, Tableau, held_at, number_at, basic_at, width_of, slacks_from, multipliers}

-- the row chosen so far, with row k as well
abbrev pub leaving_with : Tableau → ℕ → Option ℕ → Option ℕ
leaving_with t k None = if int_lt (number_at t k 0) (pos 0) then Some k else None
leaving_with t k (Some best) = if int_lt (number_at t k 0) (pos 0) && nat_lt (basic_at t k) (basic_at t best) then Some k else Some best

-- among the first n rows, the one with a negative right side whose basic place is least
abbrev pub leaving_of : Tableau → ℕ → Option ℕ
leaving_of t zero = None
leaving_of t (suc n) = leaving_with t n (leaving_of t n)

-- the row that is chosen
abbrev pub leaving : Tableau → Option ℕ
leaving t = leaving_of t (length t.rows)

-- the place chosen so far, with place j as well; ratios are compared by products
abbrev pub entering_with : List ℤ → List ℤ → ℕ → Option ℕ → Option ℕ
entering_with row d j None = if int_lt (entry row j) (pos 0) then Some j else None
entering_with row d j (Some best) = if int_lt (entry row j) (pos 0) && int_lt (entry d j *ℤ neg_ℤ (entry row best)) (entry d best *ℤ neg_ℤ (entry row j)) then Some j else Some best

-- among the first n variables, the one of least ratio
abbrev pub entering : List ℤ → List ℤ → ℕ → Option ℕ
entering row d zero = None
entering row d (suc n) = entering_with row d (suc (suc n)) (entering row d n)

-- the rows after a pivot on the row h, at place r, on the place e
abbrev pub replaced : ℕ → List ℤ → List Held → List Held
replaced e h [] = []
replaced e h (k ∷ ks) = record { basic = k.basic; line = cleared e h k.line } ∷ replaced e h ks

abbrev pub exchanged : ℕ → ℕ → List ℤ → List Held → List Held
exchanged r e h [] = []
exchanged zero e h (k ∷ ks) = record { basic = e; line = h } ∷ replaced e h ks
exchanged (suc r) e h (k ∷ ks) = record { basic = k.basic; line = cleared e h k.line } ∷ exchanged r e h ks

-- the pivot of row r, times u, on place e
abbrev pub pivoted : ℤ → ℕ → ℕ → Tableau → Tableau
pivoted u r e t =
    let h = times_line u (held_at t.rows r).line in
    record { rows = exchanged r e h t.rows; objective = cleared e h t.objective }

-- a test of a choice: its two products fit
abbrev pub choice_wide : List ℤ → List ℤ → ℕ → Option ℕ → Bool
choice_wide row d j None = false
choice_wide row d j (Some best) = int_lt (entry row j) (pos 0) && not (fits (entry d j *ℤ neg_ℤ (entry row best)) && fits (entry d best *ℤ neg_ℤ (entry row j)))

-- some product of the choice among the first n variables is wide
abbrev pub entering_wide : List ℤ → List ℤ → ℕ → Bool
entering_wide row d zero = false
entering_wide row d (suc n) = entering_wide row d n || choice_wide row d (suc (suc n)) (entering row d n)

-- some product or difference of a mixture is wide
abbrev pub mixed_wide : ℤ → ℤ → List ℤ → List ℤ → Bool
mixed_wide a b [] [] = false
mixed_wide a b [] (y ∷ h) = not (fits (b *ℤ y) && fits (pos 0 -ℤ (b *ℤ y))) || mixed_wide a b [] h
mixed_wide a b (x ∷ f) [] = not (fits (a *ℤ x)) || mixed_wide a b f []
mixed_wide a b (x ∷ f) (y ∷ h) = not (fits (a *ℤ x) && fits (b *ℤ y) && fits ((a *ℤ x) -ℤ (b *ℤ y))) || mixed_wide a b f h

-- freeing the line of place e makes a wide number; a line without the place is left as it is
abbrev pub cleared_wide : ℕ → List ℤ → List ℤ → Bool
cleared_wide e h f =
    let g = gcd (entry h e) (entry f e) in
    not (vanishes (entry f e)) && mixed_wide (int_div_euclid (entry h e) g) (int_div_euclid (entry f e) g) f h

-- some row but row r makes a wide number
abbrev pub rows_wide : ℕ → ℕ → List ℤ → List Held → Bool
rows_wide r e h [] = false
rows_wide zero e h (k ∷ ks) = list_any (λ (k : Held). cleared_wide e h k.line) ks
rows_wide (suc r) e h (k ∷ ks) = cleared_wide e h k.line || rows_wide r e h ks

-- the verdict is that a number is wide
abbrev pub is_wide : Verdict → Bool
is_wide (Holds v) = false
is_wide (Negative k) = false
is_wide (Wide k) = true
is_wide (Column e) = false
is_wide (Bound v) = false

-- the multipliers of the tableau are wide for the test of them
abbrev pub handed_wide : Program → Tableau → Bool
handed_wide p t = is_wide (verdict p (entry t.objective 1) (multipliers p.rows (slacks_from p) t.objective) 0)

-- some number of the line is wide
abbrev pub line_wide : List ℤ → Bool
line_wide f = list_any (λ x. not (fits x)) f

-- some number of the pivot is wide: of the row that leaves, turned, of the other rows, the objective, and the test of
-- the multipliers
abbrev pub pivot_wide : Program → ℕ → ℕ → Tableau → Bool
pivot_wide p r e t =
    let h = times_line (neg_ℤ (pos 1)) (held_at t.rows r).line in
    line_wide h || rows_wide r e h t.rows || cleared_wide e h t.objective || handed_wide p (pivoted (neg_ℤ (pos 1)) r e t)

-- how a run ends
pub data RunEnd : Type 0 where
  Least : RunEnd
  TooWide : ℕ → RunEnd
  Pivots : RunEnd

-- the last tableau, and how the run ends
pub record Ended : Type 0 where
  pub tableau : Tableau
  pub end : RunEnd

-- the number of variables
abbrev pub variables_of : Program → ℕ
variables_of p = width_of p - 2

-- the pivot on the place that enters; a row that no place enters cannot come where a point is feasible
abbrev pub after_place : Program → ℕ → ℕ → Tableau → (Tableau → Ended) → Option ℕ → Ended
after_place p made r t go_on None = record { tableau = t; end = TooWide (suc made) }
after_place p made r t go_on (Some e) =
    if pivot_wide p r e t then record { tableau = t; end = TooWide (suc made) } else go_on (pivoted (neg_ℤ (pos 1)) r e t)

-- what follows the choice of the row
abbrev pub after_row : Program → ℕ → Tableau → (Tableau → Ended) → Option ℕ → Ended
after_row p made t go_on None = record { tableau = t; end = Least }
after_row p made t go_on (Some r) =
    let row = (held_at t.rows r).line in
    if entering_wide row t.objective (variables_of p) then record { tableau = t; end = TooWide (suc made) }
    else after_place p made r t go_on (entering row t.objective (variables_of p))

-- where no pivot is left
abbrev pub at_limit : Tableau → Option ℕ → Ended
at_limit t None = record { tableau = t; end = Least }
at_limit t (Some r) = record { tableau = t; end = Pivots }

-- the run with n pivots left, where some were made
abbrev pub run : Program → ℕ → ℕ → Tableau → Ended
run p zero made t = at_limit t (leaving t)
run p (suc n) made t = after_row p made t (run p n (suc made)) (leaving t)

-- the opening i: a row and a place
abbrev pub opening_at : List (ℕ × ℕ) → ℕ → ℕ × ℕ
opening_at [] i = (0, 0)
opening_at (o ∷ os) zero = o
opening_at (o ∷ os) (suc i) = opening_at os i

-- the first m pivots of the opening
abbrev pub opened : List (ℕ × ℕ) → ℕ → Tableau → Tableau
opened os zero t = t
opened os (suc m) t = pivoted (pos 1) (opening_at os m).0 (opening_at os m).1 (opened os m t)
