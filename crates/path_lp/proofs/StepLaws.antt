-- One pivot of the rule.
use Rattle.std.proofs.Common.{◌≡◌, ℕ, ℤ, pos, neg_ℤ, zero, suc, ◌-◌, ◌<◌, arith, refl, sym, ap, ◌∙◌, subst, List, [], ◌∷◌, length, Option, Some, None, Bool, true, false}
use Rattle.std.specs.Prelude.{◌<ℤ◌, ◌||◌, if◌then◌else◌}
use Rattle.std.proofs.lemmas.Int.{ints}
use Rattle.std.proofs.lemmas.Bool.{or_left, or_right, or_from}
use Rattle.std.proofs.lemmas.Option.{none-some, same_Some}
use Rattle.lists.specs.TestLaws.{by_test}
use Rattle.ipet_rows.specs.Programs.{Row, Program}
use Rattle.ipet_rows.specs.Firsts.{entry}
use Rattle.ipet_rows.specs.Verdicts.{verdict}
use Rattle.simplex_rules.specs.Lines.{times_line}
use Rattle.simplex_rules.specs.Tableaus.{Tableau, held_at, number_at, next_slack, multipliers, slacks_from}
use Rattle.simplex_rules.specs.PivotRule.{entering, entering_wide, pivot_wide, handed_wide, is_wide, line_wide, rows_wide, cleared_wide, pivoted, variables_of}
use Rattle.simplex_rules.specs.Choices.{IsEntering, EnteringIs}
use Rattle.simplex_rules.specs.ChoiceLaws.{entering_is}
use Rattle.simplex_rules.specs.Runs.{IsRight}
use Rattle.simplex_rules.specs.RunLaws.{right_pivot}
use Rattle.simplex_rules.specs.Promise.{handed}
use Rattle.simplex_tableau.specs.Sparse.{Seen}
use Rattle.simplex_tableau.specs.Stepped.{CanPivot, step_wide, IsPivoted}
use Rattle.simplex_tableau.specs.Choosing.{entering_answer}
use Rattle.path_lp.specs.Handing.{IsHanded}
use Rattle.path_lp.specs.Stepping.{Stands, stepped_to, stepped, IsNext}

-- ---- the choice

answer_none : (row d : List ℤ) (n : ℕ) → entering_answer row d n ≡ None → entering_wide row d n ≡ true
answer_none row d n none = by_test (entering_wide row d n)
    (λ wide. wide)
    (λ narrow. absurd (none-some (entering row d n) (sym none ∙ (let e : entering_answer row d n ≡ Some (entering row d n) = rw narrow refl in e))))

answer_some : (row d : List ℤ) (n : ℕ) (o : Option ℕ) → entering_answer row d n ≡ Some o
    → (entering_wide row d n ≡ false) × (entering row d n ≡ o)
answer_some row d n o some = by_test (entering_wide row d n)
    (λ wide. absurd (none-some o ((let e : None ≡ entering_answer row d n = rw wide refl in e) ∙ some)))
    (λ narrow. (narrow, same_Some (entering row d n) o ((let e : Some (entering row d n) ≡ entering_answer row d n = rw narrow refl in e) ∙ some)))

in_width : (p : Program) (s : Seen) (row d : List ℤ) → Stands p s
    → entering_answer row d (s.width - 2) ≡ entering_answer row d (variables_of p)
in_width p s row d stands = ap (λ (w : ℕ). entering_answer row d (w - 2)) stands.width

pub choice_too_wide : (p : Program) (r : ℕ) (s : Seen) → Stands p s
    → None ≡ entering_answer (held_at s.tableau.rows r).line s.tableau.objective (s.width - 2)
    → stepped p r s.tableau ≡ None
choice_too_wide p r s stands none =
    let row = (held_at s.tableau.rows r).line in
    rw (answer_none row s.tableau.objective (variables_of p) (sym (none ∙ in_width p s row s.tableau.objective stands))) refl

step_is : (p : Program) (r : ℕ) (t : Tableau) (o : Option ℕ)
    → entering_answer (held_at t.rows r).line t.objective (variables_of p) ≡ Some o
    → stepped p r t ≡ stepped_to p r t o
step_is p r t o some =
    let both = answer_some (held_at t.rows r).line t.objective (variables_of p) o some in
    let one : stepped p r t ≡ stepped_to p r t (entering (held_at t.rows r).line t.objective (variables_of p)) = rw both.0 refl in
    one ∙ ap (λ (x : Option ℕ). stepped_to p r t x) both.1

step_of : (p : Program) (r : ℕ) (s : Seen) (o : Option ℕ) → Stands p s
    → Some o ≡ entering_answer (held_at s.tableau.rows r).line s.tableau.objective (s.width - 2)
    → stepped p r s.tableau ≡ stepped_to p r s.tableau o
step_of p r s o stands some = step_is p r s.tableau o (sym (some ∙ in_width p s (held_at s.tableau.rows r).line s.tableau.objective stands))

pub nothing_enters : (p : Program) (r : ℕ) (s : Seen) → Stands p s
    → Some None ≡ entering_answer (held_at s.tableau.rows r).line s.tableau.objective (s.width - 2)
    → stepped p r s.tableau ≡ None
nothing_enters p r s stands none = step_of p r s None stands none

entering_at : (row d : List ℤ) (n e : ℕ) (o : Option ℕ) → o ≡ Some e → EnteringIs row d n o → IsEntering row d n e
entering_at row d n e None some is = absurd (none-some e some)
entering_at row d n e (Some c) some is = subst (λ (x : ℕ). IsEntering row d n x) (same_Some c e some) is

enters : (p : Program) (r e : ℕ) (s : Seen) → Stands p s
    → entering_answer (held_at s.tableau.rows r).line s.tableau.objective (s.width - 2) ≡ Some (Some e)
    → IsEntering (held_at s.tableau.rows r).line s.tableau.objective (variables_of p) e
enters p r e s stands some =
    let row = (held_at s.tableau.rows r).line in
    let both = answer_some row s.tableau.objective (variables_of p) (Some e) (sym (in_width p s row s.tableau.objective stands) ∙ some) in
    entering_at row s.tableau.objective (variables_of p) e (entering row s.tableau.objective (variables_of p)) both.1 (entering_is row s.tableau.objective (variables_of p))

pub place_below : (p : Program) (r e : ℕ) (s : Seen) → Stands p s
    → entering_answer (held_at s.tableau.rows r).line s.tableau.objective (s.width - 2) ≡ Some (Some e)
    → number_at s.tableau r e <ℤ pos 0
place_below p r e s stands some = (enters p r e s stands some).below

-- ---- the pivot

pub sound_can : (p : Program) (s : Seen) (r : ℕ) → Stands p s → r < length s.tableau.rows → CanPivot s.tableau r
sound_can p s r stands below =
    let sound = stands.right.sound in
    record {
      own = λ k less other. sound.own k less;
      apart = λ k less other. sound.apart r k below less (λ (q : r ≡ k). other (sym q));
      flat = sound.flat r below;
      scale = sound.scale;
    }

any_of : (a b c : Bool) → (a || (b || c)) ≡ true → ((a || b) || c) ≡ true
any_of true b c any = refl
any_of false b c any = any

none_of : (a b c : Bool) → (a || (b || c)) ≡ false → ((a || b) || c) ≡ false
none_of true b c none = none
none_of false b c none = none

wide_step : (p : Program) (r e : ℕ) (t : Tableau) → step_wide r e t ≡ true → pivot_wide p r e t ≡ true
wide_step p r e t wide =
    let h = times_line (neg_ℤ (pos 1)) (held_at t.rows r).line in
    or_left (line_wide h || rows_wide r e h t.rows || cleared_wide e h t.objective) (handed_wide p (pivoted (neg_ℤ (pos 1)) r e t))
    (any_of (line_wide h) (rows_wide r e h t.rows) (cleared_wide e h t.objective) wide)

wide_handed : (p : Program) (r e : ℕ) (t : Tableau) → handed_wide p (pivoted (neg_ℤ (pos 1)) r e t) ≡ true
    → pivot_wide p r e t ≡ true
wide_handed p r e t wide =
    let h = times_line (neg_ℤ (pos 1)) (held_at t.rows r).line in
    or_right (line_wide h || rows_wide r e h t.rows || cleared_wide e h t.objective) (handed_wide p (pivoted (neg_ℤ (pos 1)) r e t)) wide

narrow_both : (p : Program) (r e : ℕ) (t : Tableau) → step_wide r e t ≡ false
    → handed_wide p (pivoted (neg_ℤ (pos 1)) r e t) ≡ false → pivot_wide p r e t ≡ false
narrow_both p r e t narrow test =
    let h = times_line (neg_ℤ (pos 1)) (held_at t.rows r).line in
    or_from (line_wide h || rows_wide r e h t.rows || cleared_wide e h t.objective) (handed_wide p (pivoted (neg_ℤ (pos 1)) r e t))
    (none_of (line_wide h) (rows_wide r e h t.rows) (cleared_wide e h t.objective) narrow) test

to_wide : (p : Program) (r e : ℕ) (t : Tableau) → pivot_wide p r e t ≡ true → stepped_to p r t (Some e) ≡ None
to_wide p r e t wide = rw wide refl

to_more : (p : Program) (r e : ℕ) (t : Tableau) → pivot_wide p r e t ≡ false
    → stepped_to p r t (Some e) ≡ Some (pivoted (neg_ℤ (pos 1)) r e t)
to_more p r e t narrow = rw narrow refl

pub pivot_too_wide : (p : Program) (r e : ℕ) (s : Seen) → Stands p s
    → entering_answer (held_at s.tableau.rows r).line s.tableau.objective (s.width - 2) ≡ Some (Some e)
    → step_wide r e s.tableau ≡ true → stepped p r s.tableau ≡ None
pivot_too_wide p r e s stands some wide = step_of p r s (Some e) stands (sym some) ∙ to_wide p r e s.tableau (wide_step p r e s.tableau wide)

pub more_stands : (p : Program) (r e : ℕ) (s new : Seen) → Stands p s → r < length s.tableau.rows
    → entering_answer (held_at s.tableau.rows r).line s.tableau.objective (s.width - 2) ≡ Some (Some e) → IsPivoted r e s new → Stands p new
more_stands p r e s new stands below some made = record {
  width = made.width ∙ stands.width;
  right = subst (λ (t : Tableau). IsRight p t) (sym made.tableau) (right_pivot p s.tableau r e stands.right below (enters p r e s stands some));
}

-- ---- the test of what is handed out

multipliers_count : (rs : List Row) (s : ℕ) (d : List ℤ) → length (multipliers rs s d) ≡ length rs
multipliers_count [] s d = refl
multipliers_count (r ∷ rs) s d = ap suc (multipliers_count rs (next_slack r.equation s) d)

pub handed_count : (p : Program) (t : Tableau) (scale : ℤ) (y : List ℤ) → IsHanded p t scale y
    → length y ≡ length p.rows
handed_count p t scale y is = ap length is.multipliers ∙ multipliers_count p.rows (slacks_from p) t.objective

pub handed_scale : (p : Program) (s : Seen) (scale : ℤ) (y : List ℤ) → Stands p s → IsHanded p s.tableau scale y
    → pos 0 <ℤ scale
handed_scale p s scale y stands is = omega (arith, ints, is.scale_is, stands.right.sound.scale)

test_is : (p : Program) (t : Tableau) (scale : ℤ) (y : List ℤ) → IsHanded p t scale y
    → is_wide (verdict p scale y 0) ≡ handed_wide p t
test_is p t scale y is = ap (λ (z : ℤ). is_wide (verdict p z y 0)) is.scale_is ∙ ap (λ (l : List ℤ). is_wide (verdict p (entry t.objective 1) l 0)) is.multipliers

pub handed_too_wide : (p : Program) (r e : ℕ) (s new : Seen) (scale : ℤ) (y : List ℤ) → Stands p s
    → entering_answer (held_at s.tableau.rows r).line s.tableau.objective (s.width - 2) ≡ Some (Some e) → IsPivoted r e s new → IsHanded p new.tableau scale y
    → is_wide (verdict p scale y 0) ≡ true → stepped p r s.tableau ≡ None
handed_too_wide p r e s new scale y stands some made is wide =
    step_of p r s (Some e) stands (sym some)
    ∙ to_wide p r e s.tableau (wide_handed p r e s.tableau (ap (λ (t : Tableau). handed_wide p t) (sym made.tableau) ∙ sym (test_is p new.tableau scale y is) ∙ wide))

pub next_is : (p : Program) (r e : ℕ) (s new : Seen) (scale : ℤ) (y : List ℤ) → Stands p s → r < length s.tableau.rows
    → entering_answer (held_at s.tableau.rows r).line s.tableau.objective (s.width - 2) ≡ Some (Some e) → IsPivoted r e s new → IsHanded p new.tableau scale y
    → is_wide (verdict p scale y 0) ≡ false → IsNext p r s.tableau new scale y
next_is p r e s new scale y stands below some made is narrow = record {
  stands = more_stands p r e s new stands below some made;
  step = step_of p r s (Some e) stands (sym some)
      ∙ to_more p r e s.tableau (narrow_both p r e s.tableau made.narrow (ap (λ (t : Tableau). handed_wide p t) (sym made.tableau) ∙ sym (test_is p new.tableau scale y is) ∙ narrow))
      ∙ ap (λ (t : Tableau). Some t) (sym made.tableau);
  handed = is;
}
