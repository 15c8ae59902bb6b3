-- The run of the rule, turn by turn, and what the solver tells of it.
use Rattle.std.proofs.Common.{◌≡◌, ℕ, ℤ, zero, suc, ◌+◌, ◌-◌, ◌<◌, ◌≤◌, arith, refl, sym, ap, ◌∙◌, subst, List, Option, Some, None}
use Rattle.std.specs.Prelude.{◌*ℤ◌, ◌≤ℤ◌, if◌then◌else◌}
use Rattle.lists.specs.TestLaws.{by_test}
use Rattle.ipet_rows.specs.Programs.{Program}
use Rattle.ipet_rows.specs.Firsts.{entry}
use Rattle.ipet_rows.specs.Duals.{IsDual, dual_sum}
use Rattle.ipet_rows.specs.Fractions.{part_of, whole_of}
use Rattle.ipet_rows.specs.Points.{worth}
use Rattle.simplex_rules.specs.Tableaus.{Tableau, held_at}
use Rattle.simplex_rules.specs.PivotRule.{leaving, entering, entering_wide, pivot_wide, RunEnd, TooWide, Ended, variables_of, after_place, after_row, at_limit, run}
use Rattle.simplex_rules.specs.Promise.{handed, Answers}
use Rattle.simplex_rules.specs.Runs.{IsRight, IsRight}
use Rattle.simplex_rules.specs.ReadOff.{IsReadOff, IsLeastPoint}
use Rattle.simplex_rules.specs.OpeningPlaces.{started, ended}
use Rattle.simplex_tableau.specs.Sparse.{Seen}
use Rattle.simplex_tableau.specs.Started.{IsStarted}
use Rattle.path_lp.specs.declared.solved.SolveEnd.{SolveEnd}
use Rattle.path_lp.specs.declared.solved.SolveEnd.TheVariants.{Wide}
use Rattle.path_lp.specs.Handing.{IsHanded}
use Rattle.path_lp.specs.Stepping.{Stands, stepped_to, stepped, IsNext}
use Rattle.path_lp.specs.Solving.{ShowsEnd, IsSolved, HoldFrom, OnLeast, IsOptimal, opening_worth}

-- ---- one turn

run_more : (p : Program) (n made : ℕ) (t : Tableau) → made < n
    → run p (n - made) made t ≡ after_row p made t (run p (n - (made + 1)) (made + 1)) (leaving t)
run_more p n made t less =
    ap (λ (k : ℕ). run p k made t) (let e : n - made ≡ suc (n - (made + 1)) = omega arith in e)
    ∙ ap (λ (k : ℕ). after_row p made t (run p (n - (made + 1)) k) (leaving t)) (let e : suc made ≡ made + 1 = omega arith in e)

-- what follows a pivot of row r, or its want
after_step : ℕ → Tableau → (Tableau → Ended) → Option Tableau → Ended
after_step made t go_on None = record { tableau = t; end = TooWide (suc made) }
after_step made t go_on (Some t') = go_on t'

after_place_is : (p : Program) (made r : ℕ) (t : Tableau) (go_on : Tableau → Ended) (o : Option ℕ)
    → after_place p made r t go_on o ≡ after_step made t go_on (stepped_to p r t o)
unfolding after_step
after_place_is p made r t go_on None = refl
after_place_is p made r t go_on (Some e) = by_test (pivot_wide p r e t) (λ wide. rw wide refl) (λ narrow. rw narrow refl)

after_row_is : (p : Program) (made r : ℕ) (t : Tableau) (go_on : Tableau → Ended)
    → after_row p made t go_on (Some r) ≡ after_step made t go_on (stepped p r t)
unfolding after_step
after_row_is p made r t go_on = by_test (entering_wide (held_at t.rows r).line t.objective (variables_of p))
    (λ wide. rw wide refl)
    (λ narrow. rw narrow (after_place_is p made r t go_on (entering (held_at t.rows r).line t.objective (variables_of p))))

run_step : (p : Program) (n made r : ℕ) (t : Tableau) → made < n → leaving t ≡ Some r
    → run p (n - made) made t ≡ after_step made t (run p (n - (made + 1)) (made + 1)) (stepped p r t)
run_step p n made r t less chosen =
    run_more p n made t less ∙ ap (λ (o : Option ℕ). after_row p made t (run p (n - (made + 1)) (made + 1)) o) chosen ∙ after_row_is p made r t (run p (n - (made + 1)) (made + 1))

pub run_least : (p : Program) (n made : ℕ) (t : Tableau) (x : Ended) (scale : ℤ) (y : List ℤ) (e : SolveEnd) → made < n
    → leaving t ≡ None → run p (n - made) made t ≡ x
    → IsSolved p (at_limit t None) scale y e → IsSolved p x scale y e
run_least p n made t x scale y e less none so solved =
    subst (λ (z : Ended). IsSolved p z scale y e) (sym (ap (λ (o : Option ℕ). after_row p made t (run p (n - (made + 1)) (made + 1)) o) none) ∙ sym (run_more p n made t less) ∙ so) solved

pub run_wide : (p : Program) (n made r : ℕ) (t : Tableau) (x : Ended) (scale : ℤ) (y : List ℤ) → made < n
    → leaving t ≡ Some r → stepped p r t ≡ None
    → run p (n - made) made t ≡ x
    → IsHanded p t scale y → IsSolved p x scale y (Wide (made + 1))
unfolding after_step
run_wide p n made r t x scale y less chosen wide so is =
    let last : Ended = record { tableau = t; end = TooWide (suc made) } in
    let told : IsSolved p last scale y (Wide (made + 1)) = record { duals = is; end = omega arith } in
    subst (λ (z : Ended). IsSolved p z scale y (Wide (made + 1)))
    (sym (ap (λ (o : Option Tableau). after_step made t (run p (n - (made + 1)) (made + 1)) o) wide) ∙ sym (run_step p n made r t less chosen) ∙ so) told

pub run_goes : (p : Program) (n made r : ℕ) (t : Tableau) (new : Seen) (x : Ended) (scale : ℤ) (y : List ℤ) → made < n
    → leaving t ≡ Some r → IsNext p r t new scale y
    → run p (n - made) made t ≡ x → run p (n - (made + 1)) (made + 1) new.tableau ≡ x
unfolding after_step
run_goes p n made r t new x scale y less chosen next so =
    sym (ap (λ (o : Option Tableau). after_step made t (run p (n - (made + 1)) (made + 1)) o) next.step) ∙ sym (run_step p n made r t less chosen) ∙ so

pub run_ends : (p : Program) (n made : ℕ) (t : Tableau) (x : Ended) (scale : ℤ) (y : List ℤ) (e : SolveEnd) → n ≤ made
    → run p (n - made) made t ≡ x
    → IsSolved p (at_limit t (leaving t)) scale y e → IsSolved p x scale y e
run_ends p n made t x scale y e past so solved =
    subst (λ (z : Ended). IsSolved p z scale y e) (ap (λ (k : ℕ). run p k made t) (let q : 0 ≡ n - made = omega arith in q) ∙ so) solved

-- ---- the whole

pub start_stands : (p : Program) (os : List (ℕ × ℕ)) (s : Seen) → IsRight p (started p os) → IsStarted p os s
    → Stands p s
start_stands p os s right start = record { width = start.width; right = subst (λ (t : Tableau). IsRight p t) (sym start.tableau) right }

pub solved_run : (p : Program) (os : List (ℕ × ℕ)) (n : ℕ) (s : Seen) (scale : ℤ) (y : List ℤ) (e : SolveEnd)
    → IsStarted p os s
    → IsSolved p (run p n 0 s.tableau) scale y e
    → IsSolved p (ended p os n) scale y e
solved_run p os n s scale y e start solved = subst (λ (t : Tableau). IsSolved p (run p n 0 t) scale y e) start.tableau solved

pub solved_dual : (p : Program) (x : Ended) (scale : ℤ) (y : List ℤ) (e : SolveEnd) → Answers p x
    → IsSolved p x scale y e → IsDual p scale y
solved_dual p x scale y e answers solved =
    subst (λ (z : ℤ). IsDual p z y) (sym solved.duals.scale_is) (subst (λ (l : List ℤ). IsDual p (entry x.tableau.objective 1) l) (sym solved.duals.multipliers) answers.dual)

pub solved_holds : (p : Program) (x : Ended) (scale : ℤ) (y : List ℤ) (e : SolveEnd)
    → HoldFrom p (entry x.tableau.objective 1) (handed p x.tableau)
    → IsSolved p x scale y e → HoldFrom p scale y
solved_holds p x scale y e holds solved =
    subst (λ (z : ℤ). HoldFrom p z y) (sym solved.duals.scale_is) (subst (λ (l : List ℤ). HoldFrom p (entry x.tableau.objective 1) l) (sym solved.duals.multipliers) holds)

pub solved_most : (p : Program) (os : List (ℕ × ℕ)) (x : Ended) (scale : ℤ) (y : List ℤ) (e : SolveEnd)
    → dual_sum p (handed p x.tableau) ≤ℤ (opening_worth p os *ℤ entry x.tableau.objective 1) → IsSolved p x scale y e → dual_sum p y ≤ℤ (opening_worth p os *ℤ scale)
solved_most p os x scale y e most solved =
    subst (λ (z : ℤ). dual_sum p y ≤ℤ (opening_worth p os *ℤ z)) (sym solved.duals.scale_is)
    (subst (λ (l : List ℤ). dual_sum p l ≤ℤ (opening_worth p os *ℤ entry x.tableau.objective 1)) (sym solved.duals.multipliers) most)

optimal : (p : Program) (x : Ended) (scale : ℤ) (y : List ℤ) (point : List (ℤ × ℤ)) → IsHanded p x.tableau scale y
    → IsReadOff p x.tableau point
    → IsLeastPoint p x point → IsOptimal p scale y point
optimal p x scale y point is read least = record {
  is = read.is;
  feasible = least.feasible;
  cost = ap (λ (z : ℤ). z *ℤ worth p (part_of point)) is.scale_is ∙ least.worth ∙ ap (λ (l : List ℤ). dual_sum p l *ℤ whole_of point) (sym is.multipliers);
}

point_least : (p : Program) (x : Ended) (t : Tableau) (end : RunEnd) (scale : ℤ) (y : List ℤ) (e : SolveEnd)
    → x.tableau ≡ t → x.end ≡ end
    → ((point : List (ℤ × ℤ)) → x.end ≡ RunEnd.Least → IsReadOff p x.tableau point → IsLeastPoint p x point)
    → IsHanded p x.tableau scale y → ShowsEnd p t end e → OnLeast e (λ point. IsOptimal p scale y point)
point_least p x t RunEnd.Least scale y (SolveEnd.Least point) same end law is shows =
    let read : IsReadOff p x.tableau point.items = subst (λ (s : Tableau). IsReadOff p s point.items) (sym same) shows in
    optimal p x scale y point.items is read (law point.items end read)
point_least p x t RunEnd.Least scale y (Wide n) same end law is shows = tt
point_least p x t RunEnd.Least scale y SolveEnd.Pivots same end law is shows = tt
point_least p x t (TooWide k) scale y (SolveEnd.Least point) same end law is shows = absurd shows
point_least p x t (TooWide k) scale y (Wide n) same end law is shows = tt
point_least p x t (TooWide k) scale y SolveEnd.Pivots same end law is shows = tt
point_least p x t RunEnd.Pivots scale y (SolveEnd.Least point) same end law is shows = absurd shows
point_least p x t RunEnd.Pivots scale y (Wide n) same end law is shows = tt
point_least p x t RunEnd.Pivots scale y SolveEnd.Pivots same end law is shows = tt

pub solved_least : (p : Program) (x : Ended) (scale : ℤ) (y : List ℤ) (e : SolveEnd)
    → ((point : List (ℤ × ℤ)) → x.end ≡ RunEnd.Least → IsReadOff p x.tableau point → IsLeastPoint p x point) → IsSolved p x scale y e
    → OnLeast e (λ point. IsOptimal p scale y point)
solved_least p x scale y e law solved = point_least p x x.tableau x.end scale y e refl refl law solved.duals solved.end
