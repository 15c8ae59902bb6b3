-- The first lines by terms show the first lines of the definition.
use Rattle.std.proofs.Common.{◌≡◌, ℕ, ℤ, pos, neg_ℤ, zero, suc, ◌+◌, ◌-◌, ◌<◌, ◌≤◌, arith, refl, sym, ap, ◌∙◌, subst, List, [], ◌∷◌, ◌++◌, length, Bool, true, false, ⊎_elim}
use Rattle.std.specs.Prelude.{◌+ℤ◌, ◌≤ℤ◌}
use Rattle.std.proofs.lemmas.Int.{ints}
use Rattle.std.proofs.lemmas.Bool.{cases_eq}
use Rattle.lists.specs.TestLaws.{by_test}
use Rattle.whole_numbers.specs.Numbers.{Divides}
use Rattle.whole_numbers.specs.DivisionLaws.{divides_at_most}
use Rattle.ipet_rows.specs.Rows.{vanishes}
use Rattle.ipet_rows.specs.UseLaws.{vanish_is}
use Rattle.ipet_rows.specs.Sums.{coefficient, coefficient_of, StartsAbove, IsAscending}
use Rattle.ipet_rows.specs.Programs.{Row, Program, IsWithin, row_at}
use Rattle.ipet_rows.specs.SumLaws.{term_here, term_elsewhere}
use Rattle.ipet_rows.specs.DualRowLaws.{found_here, found_later}
use Rattle.dual_check.specs.Terms.{term_if}
use Rattle.simplex_rules.specs.Lines.{spread, line_gcd}
use Rattle.simplex_rules.specs.Tableaus.{Held, Tableau, Generator, placed, turned, slack_line, next_slack, row_lines, generators, width_from, cost_terms, objective_line, slacks_from, width_of, held_of}
use Rattle.simplex_rules.specs.FirstTableauLaws.{beyond, within_more, spread_is}
use Rattle.simplex_rules.specs.HandedOutLaws.{width_above}
use Rattle.dual_check.specs.Small.{IsUpTo}
use Rattle.simplex_rules.specs.StepLaws.{divisor_above, line_gcd_least, line_gcd_divides}
use Rattle.simplex_tableau.proofs.TermLemmas.{turned_within}
use Rattle.simplex_tableau.specs.Sparse.{HeldTerms, shown_rows, seen, IsKept, AreKept}
use Rattle.simplex_tableau.specs.FirstTerms.{first_terms, slack_held, row_held, first_rows, some_costs, first_costs, AreSmall}
use Rattle.simplex_tableau.specs.Started.{IsFirst}

-- ---- numbers of joined terms

joined : (xs ys : List (ℕ × ℤ)) (j : ℕ) → coefficient (xs ++ ys) j ≡ coefficient xs j +ℤ coefficient ys j
joined [] ys j = omega (arith, ints)
joined (x ∷ xs) ys j = omega (arith, ints, joined xs ys j)

nothing_there : (k j : ℕ) → coefficient_of (k, pos 0) j ≡ pos 0
nothing_there k j = ⊎_elim (λ (e : k ≡ j). term_here k j (pos 0) e) (λ (d : k ≡ j → ⊥). term_elsewhere k j (pos 0) d) (cases_eq k j)

term_or_none : (k : ℕ) (z : ℤ) (j : ℕ) → coefficient (term_if k z) j ≡ coefficient_of (k, z) j
term_or_none k z j = by_test (vanishes z)
    (λ (v : vanishes z ≡ true). rw v (let e : coefficient_of (k, z) j ≡ pos 0 = ap (λ (x : ℤ). coefficient_of (k, x) j) (vanish_is z v) ∙ nothing_there k j in sym e))
    (λ (v : vanishes z ≡ false). rw v (omega (arith, ints)))

spread_same : (n j : ℕ) (f g : List (ℕ × ℤ)) → ((i : ℕ) → coefficient f i ≡ coefficient g i)
    → spread n j f ≡ spread n j g
spread_same zero j f g same = refl
spread_same (suc n) j f g same = ap (λ (x : ℤ). x ∷ spread n (suc j) f) (same j) ∙ ap (λ (l : List ℤ). coefficient g j ∷ l) (spread_same n (suc j) f g same)

first_number : (right : ℤ) (ts : List (ℕ × ℤ)) (s j : ℕ)
    → coefficient (first_terms right ts s) j ≡ coefficient (slack_line right ts s).1 j
first_number right ts s j =
    omega (arith, ints, joined (term_if 0 right) (placed ts ++ ((s, pos 1) ∷ [])) j, term_or_none 0 right j, joined (placed ts) ((s, pos 1) ∷ []) j)

cost_number : (cs : List ℕ) (j i : ℕ) → coefficient (some_costs cs j) i ≡ coefficient (cost_terms cs j) i
cost_number [] j i = refl
cost_number (c ∷ cs) j i =
    omega (arith, ints, joined (term_if j (neg_ℤ (pos c))) (some_costs cs (suc j)) i, term_or_none j (neg_ℤ (pos c)) i, cost_number cs (suc j) i)

-- ---- what the first rows show

two_heads : (x y : Held) (f h : List Held) → x ≡ y → f ≡ h → x ∷ f ≡ y ∷ h
two_heads x y f h one rest = ap (λ (z : Held). z ∷ f) one ∙ ap (λ (l : List Held). y ∷ l) rest

slack_shown : (w : ℕ) (right : ℤ) (ts : List (ℕ × ℤ)) (s : ℕ)
    → ◌≡◌ {A = Held} (record { basic = s; line = spread w 0 (first_terms right ts s) }) (record { basic = s; line = spread w 0 (slack_line right ts s).1 })
slack_shown w right ts s =
    ap (λ (l : List ℤ). let h : Held = record { basic = s; line = l } in h) (spread_same w 0 (first_terms right ts s) (slack_line right ts s).1 (first_number right ts s))

row_shown : (w : ℕ) (b : Bool) (r : Row) (s : ℕ) (more : List HeldTerms) (rest : List Generator)
    → shown_rows w more ≡ held_of w rest
    → shown_rows w (row_held b r s ++ more) ≡ held_of w (row_lines b r s rest)
row_shown w true r s more rest same =
    two_heads (record { basic = s; line = spread w 0 (first_terms r.right r.terms s) }) (record { basic = s; line = spread w 0 (slack_line r.right r.terms s).1 })
    (shown_rows w (slack_held (neg_ℤ r.right) (turned r.terms) (suc s) ∷ more)) (held_of w (slack_line (neg_ℤ r.right) (turned r.terms) (suc s) ∷ rest))
    (slack_shown w r.right r.terms s)
    (two_heads (record { basic = suc s; line = spread w 0 (first_terms (neg_ℤ r.right) (turned r.terms) (suc s)) }) (record { basic = suc s; line = spread w 0 (slack_line (neg_ℤ r.right) (turned r.terms) (suc s)).1 })
    (shown_rows w more) (held_of w rest) (slack_shown w (neg_ℤ r.right) (turned r.terms) (suc s)) same)
row_shown w false r s more rest same =
    two_heads (record { basic = s; line = spread w 0 (first_terms r.right r.terms s) }) (record { basic = s; line = spread w 0 (slack_line r.right r.terms s).1 })
    (shown_rows w more) (held_of w rest) (slack_shown w r.right r.terms s) same

rows_shown : (w : ℕ) (rs : List Row) (s : ℕ) → shown_rows w (first_rows rs s) ≡ held_of w (generators rs s)
rows_shown w [] s = refl
rows_shown w (r ∷ rs) s = row_shown w r.equation r s (first_rows rs (next_slack r.equation s)) (generators rs (next_slack r.equation s)) (rows_shown w rs (next_slack r.equation s))

-- ---- order and width

placed_within : (n m : ℕ) (ts : List (ℕ × ℤ)) → IsWithin n ts → n + 2 ≤ m → IsWithin m (placed ts)
placed_within n m [] within room = tt
placed_within n m (t ∷ ts) within room = (omega (arith, within.0), placed_within n m ts within.1 room)

within_joined : (w : ℕ) (xs ys : List (ℕ × ℤ)) → IsWithin w xs → IsWithin w ys → IsWithin w (xs ++ ys)
within_joined w [] ys one two = two
within_joined w (x ∷ xs) ys one two = (one.0, within_joined w xs ys one.1 two)

within_term : (w k : ℕ) (z : ℤ) → k < w → IsWithin w (term_if k z)
within_term w k z below = by_test (vanishes z) (λ v. rw v tt) (λ v. rw v (below, tt))

starts_placed : (c s : ℕ) (ts : List (ℕ × ℤ)) → StartsAbove c ts → suc (suc c) < s
    → StartsAbove (suc (suc c)) (placed ts ++ ((s, pos 1) ∷ []))
starts_placed c s [] above less = less
starts_placed c s (t ∷ ts) above less = omega (arith, above)

placed_rise : (n s : ℕ) (ts : List (ℕ × ℤ)) → IsWithin n ts → n + 2 ≤ s → IsAscending ts
    → IsAscending (placed ts ++ ((s, pos 1) ∷ []))
placed_rise n s [] within room rises = (tt, tt)
placed_rise n s (t ∷ ts) within room rises = (starts_placed t.0 s ts rises.0 (omega (arith, within.0)), placed_rise n s ts within.1 room rises.1)

starts_first : (s : ℕ) (ts : List (ℕ × ℤ)) → 2 ≤ s → StartsAbove 0 (placed ts ++ ((s, pos 1) ∷ []))
starts_first s [] least = omega arith
starts_first s (t ∷ ts) least = omega arith

pub first_rises : (n : ℕ) (right : ℤ) (ts : List (ℕ × ℤ)) (s : ℕ) → IsWithin n ts → n + 2 ≤ s → IsAscending ts
    → IsAscending (first_terms right ts s)
first_rises n right ts s within room rises = by_test (vanishes right)
    (λ v. rw v (placed_rise n s ts within room rises))
    (λ v. rw v (starts_first s ts (omega (arith, room)), placed_rise n s ts within room rises))

first_within : (w n : ℕ) (right : ℤ) (ts : List (ℕ × ℤ)) (s : ℕ) → IsWithin n ts → n + 2 ≤ s → s < w
    → IsWithin w (first_terms right ts s)
first_within w n right ts s within room below =
    within_joined w (term_if 0 right) (placed ts ++ ((s, pos 1) ∷ [])) (within_term w 0 right (omega (arith, below)))
    (within_joined w (placed ts) ((s, pos 1) ∷ []) (placed_within n w ts within (omega (arith, room, below))) (below, tt))

-- ---- the divisor

one_divisor : (d : ℤ) → pos 0 ≤ℤ d → Divides d (pos 1) → d ≡ pos 1
one_divisor d least m =
    let above = divisor_above d (pos 1) least m (omega (arith, ints)) in
    let most = divides_at_most d (pos 1) m (omega (arith, ints)) least in
    omega (arith, ints, above, most)

-- a line with 1 among its numbers
pub with_one : (w j : ℕ) (ts : List (ℕ × ℤ)) → IsWithin w ts → coefficient ts j ≡ pos 1 → IsKept w ts
with_one w j ts within one = record {
  within = within;
  one = one_divisor (line_gcd (spread w 0 ts)) (line_gcd_least (spread w 0 ts))
      (subst (λ (z : ℤ). Divides (line_gcd (spread w 0 ts)) z) (spread_is w ts j within ∙ one) (line_gcd_divides (spread w 0 ts) j));
}

own_slack : (n : ℕ) (right : ℤ) (ts : List (ℕ × ℤ)) (s : ℕ) → IsWithin n ts → n + 2 ≤ s
    → coefficient (first_terms right ts s) s ≡ pos 1
own_slack n right ts s within room =
    let first : coefficient_of (0, right) s ≡ pos 0 = term_elsewhere 0 s right (λ (e : 0 ≡ s). absurd (omega (arith, room))) in
    let none : coefficient (placed ts) s ≡ pos 0 = beyond s (placed ts) s (placed_within n s ts within room) (omega arith) in
    let own : coefficient_of (s, pos 1) s ≡ pos 1 = term_here s s (pos 1) refl in
    omega (arith, ints, joined (term_if 0 right) (placed ts ++ ((s, pos 1) ∷ [])) s, term_or_none 0 right s, joined (placed ts) ((s, pos 1) ∷ []) s, first, none, own)

slack_kept : (w n : ℕ) (right : ℤ) (ts : List (ℕ × ℤ)) (s : ℕ) → IsWithin n ts → n + 2 ≤ s → s < w
    → IsKept w (first_terms right ts s)
slack_kept w n right ts s within room below = with_one w s (first_terms right ts s) (first_within w n right ts s within room below) (own_slack n right ts s within room)

EachKept : ℕ → List HeldTerms → Type 0
EachKept w [] = Unit {0}
EachKept w (h ∷ hs) = IsKept w h.terms × EachKept w hs

each_at : (w : ℕ) (rows : List HeldTerms) → EachKept w rows → AreKept w rows
unfolding EachKept
each_at w [] each_one k below = absurd (omega arith)
each_at w (h ∷ hs) each_one zero below = each_one.0
each_at w (h ∷ hs) each_one (suc k) below = each_at w hs each_one.1 k (omega arith)

row_kept : (w n : ℕ) (b : Bool) (r : Row) (s : ℕ) (more : List HeldTerms) → IsWithin n r.terms → n + 2 ≤ s
    → next_slack b s ≤ w → EachKept w more
    → EachKept w (row_held b r s ++ more)
unfolding EachKept
row_kept w n true r s more within room below rest = (
  slack_kept w n r.right r.terms s within room (omega arith),
  (slack_kept w n (neg_ℤ r.right) (turned r.terms) (suc s) (turned_within n r.terms within) (omega (arith, room)) (omega arith), rest),
)
row_kept w n false r s more within room below rest = (slack_kept w n r.right r.terms s within room (omega arith), rest)

next_most : (b : Bool) (s : ℕ) → s ≤ next_slack b s
next_most true s = omega arith
next_most false s = omega arith

rows_kept : (w n : ℕ) (rs : List Row) (s : ℕ) → ((k : ℕ) → IsWithin n (row_at rs k).terms) → n + 2 ≤ s
    → width_from rs s ≤ w → EachKept w (first_rows rs s)
unfolding EachKept
rows_kept w n [] s within room most = tt
rows_kept w n (r ∷ rs) s within room most =
    let next = next_slack r.equation s in
    let more = next_most r.equation s in
    let above = width_above rs (next_slack r.equation s) in
    row_kept w n r.equation r s (first_rows rs (next_slack r.equation s)) (within 0) room (omega (arith, above, most))
    (rows_kept w n rs (next_slack r.equation s) (λ k. within (suc k)) (omega (arith, room, more)) most)

-- ---- the objective

costs_within : (w : ℕ) (cs : List ℕ) (j : ℕ) → j + length cs ≤ w → IsWithin w (some_costs cs j)
costs_within w [] j room = tt
costs_within w (c ∷ cs) j room = within_joined w (term_if j (neg_ℤ (pos c))) (some_costs cs (suc j)) (within_term w j (neg_ℤ (pos c)) (omega arith)) (costs_within w cs (suc j) (omega arith))

costs_start : (c j : ℕ) (cs : List ℕ) → c < j → StartsAbove c (some_costs cs j)
costs_start c j [] less = tt
costs_start c j (d ∷ cs) less = by_test (vanishes (neg_ℤ (pos d))) (λ v. rw v (costs_start c (suc j) cs (omega arith))) (λ v. rw v less)

costs_rise : (cs : List ℕ) (j : ℕ) → IsAscending (some_costs cs j)
costs_rise [] j = tt
costs_rise (c ∷ cs) j = by_test (vanishes (neg_ℤ (pos c))) (λ v. rw v (costs_rise cs (suc j))) (λ v. rw v (costs_start j (suc j) cs (omega arith), costs_rise cs (suc j)))

pub first_costs_rise : (cs : List ℕ) → IsAscending (first_costs cs)
first_costs_rise cs = (costs_start 1 2 cs (omega arith), costs_rise cs 2)

cost_low : (cs : List ℕ) (j i : ℕ) → i < j → coefficient (some_costs cs j) i ≡ pos 0
cost_low [] j i less = refl
cost_low (c ∷ cs) j i less =
    omega (
      arith,
      ints,
      joined (term_if j (neg_ℤ (pos c))) (some_costs cs (suc j)) i,
      term_or_none j (neg_ℤ (pos c)) i,
      term_elsewhere j i (neg_ℤ (pos c)) (λ (e : j ≡ i). absurd (omega arith)),
      cost_low cs (suc j) i (omega arith),
    )

-- ---- the whole

rows_are_kept : (w : ℕ) (p : Program) → ((k : ℕ) → IsWithin (length p.costs) (row_at p.rows k).terms) → w ≡ width_of p
    → AreKept w (first_rows p.rows (slacks_from p))
rows_are_kept w p within width = each_at w (first_rows p.rows (slacks_from p)) (rows_kept w (length p.costs) p.rows (slacks_from p) within (omega arith) (omega (arith, width)))

costs_are_kept : (w : ℕ) (p : Program) → w ≡ width_of p → IsKept w (first_costs p.costs)
costs_are_kept w p width =
    let above = width_above p.rows (slacks_from p) in
    with_one w 1 (first_costs p.costs) (omega (arith, above, width), costs_within w p.costs 2 (omega (arith, above, width)))
    (omega (arith, ints, term_here 1 1 (pos 1) refl, cost_low p.costs 2 1 (omega arith)))

objective_number : (cs : List ℕ) (i : ℕ) → coefficient (first_costs cs) i ≡ coefficient (objective_line cs).1 i
objective_number cs i = omega (arith, ints, cost_number cs 2 i)

first_made : (w : ℕ) (p : Program) → w ≡ width_of p
    → IsFirst p (seen w (first_rows p.rows (slacks_from p)) (first_costs p.costs))
first_made w p width =
    let rows : shown_rows w (first_rows p.rows (slacks_from p)) ≡ held_of (width_of p) (generators p.rows (slacks_from p)) =
    rows_shown w p.rows (slacks_from p) ∙ ap (λ (n : ℕ). held_of n (generators p.rows (slacks_from p))) width in
    let objective : spread w 0 (first_costs p.costs) ≡ spread (width_of p) 0 (objective_line p.costs).1 =
    spread_same w 0 (first_costs p.costs) (objective_line p.costs).1 (objective_number p.costs) ∙ ap (λ (n : ℕ). spread n 0 (objective_line p.costs).1) width in
    record {
      width = width;
      tableau = ap (λ (x : List Held). let t : Tableau = record { rows = x; objective = spread w 0 (first_costs p.costs) } in t) rows
          ∙ ap (λ (x : List ℤ). let t : Tableau = record { rows = held_of (width_of p) (generators p.rows (slacks_from p)); objective = x } in t) objective;
    }

pub first_kept : (w : ℕ) (p : Program) (lines : List HeldTerms)
    → ((k : ℕ) → IsWithin (length p.costs) (row_at p.rows k).terms) → w ≡ width_of p
    → lines ≡ first_rows p.rows (slacks_from p) → AreKept w lines
first_kept w p lines within width are = subst (λ (l : List HeldTerms). AreKept w l) (sym are) (rows_are_kept w p within width)

pub costs_kept : (w : ℕ) (p : Program) (costs : List (ℕ × ℤ)) → w ≡ width_of p → costs ≡ first_costs p.costs
    → IsKept w costs
costs_kept w p costs width are = subst (λ (l : List (ℕ × ℤ)). IsKept w l) (sym are) (costs_are_kept w p width)

pub first_is : (w : ℕ) (p : Program) (lines : List HeldTerms) (costs : List (ℕ × ℤ)) → w ≡ width_of p
    → lines ≡ first_rows p.rows (slacks_from p)
    → costs ≡ first_costs p.costs
    → IsFirst p (seen w lines costs)
first_is w p lines costs width are objective =
    subst (λ (l : List HeldTerms). IsFirst p (seen w l costs)) (sym are) (subst (λ (l : List (ℕ × ℤ)). IsFirst p (seen w (first_rows p.rows (slacks_from p)) l)) (sym objective) (first_made w p width))

-- ---- small numbers

pub small_terms : (ts : List (ℕ × ℤ)) → IsAscending ts → ((e : ℕ) → IsUpTo 8589934592 (coefficient ts e)) → AreSmall ts
small_terms [] rises small = tt
small_terms (t ∷ ts) rises small =
    let here : t.1 ≡ coefficient (t ∷ ts) t.0 = found_here t ts t.0 rises refl in (
      subst (λ (z : ℤ). IsUpTo 8589934592 z) (sym here) (small t.0),
      small_terms ts rises.1 (λ e. ⊎_elim
          (λ (q : t.0 ≡ e).
          let none : coefficient ts e ≡ pos 0 = (let sum : coefficient (t ∷ ts) e ≡ coefficient_of t e +ℤ coefficient ts e = refl in
          let whole : t.1 ≡ coefficient (t ∷ ts) e = found_here t ts e rises q in omega (arith, ints, sum, whole, term_here t.0 e t.1 q)) in
          (omega (arith, ints, none), omega (arith, ints, none)))
          (λ (d : t.0 ≡ e → ⊥). subst (λ (z : ℤ). IsUpTo 8589934592 z) (sym (found_later t ts e d)) (small e))
          (cases_eq t.0 e)),
    )

pub slack_rises : (right : ℤ) (ts : List (ℕ × ℤ)) (s : ℕ) → 2 ≤ s → IsWithin (s - 2) ts → IsAscending ts
    → IsAscending (first_terms right ts s)
slack_rises right ts s least within rises = first_rises (s - 2) right ts s within (omega arith) rises

pub slack_room : (s : ℕ) (ts : List (ℕ × ℤ)) → s < 4294967296 → IsWithin (s - 2) ts → IsWithin 4294967294 ts
slack_room s ts most within = within_more (s - 2) 4294967294 ts within (omega arith)

pub terms_room : (p : Program) (k s : ℕ) → ((k : ℕ) → IsWithin (length p.costs) (row_at p.rows k).terms)
    → length p.costs + 2 ≤ s
    → IsWithin (s - 2) (row_at p.rows k).terms
terms_room p k s within room = within_more (length p.costs) (s - 2) (row_at p.rows k).terms (within k) (omega arith)
