-- A tableau by terms after a pivot.
use Rattle.std.proofs.Common.{◌≡◌, ℕ, ℤ, pos, neg_ℤ, zero, suc, ◌<◌, ◌≤◌, arith, refl, sym, ap, ◌∙◌, subst, List, [], ◌∷◌, length, ⊎_elim, true}
use Rattle.std.specs.Prelude.{◌<ℤ◌, ◌≤ℤ◌, ◌*ℤ◌}
use Rattle.std.proofs.lemmas.Int.{ints}
use Rattle.std.proofs.lemmas.Bool.{cases_eq, or_left, or_right, or_from}
use Rattle.ipet_rows.specs.Sums.{coefficient}
use Rattle.ipet_rows.specs.Programs.{IsWithin}
use Rattle.ipet_rows.specs.Firsts.{entry}
use Rattle.simplex_rules.specs.Lines.{spread, times_line, line_gcd, cleared}
use Rattle.simplex_rules.specs.Tableaus.{Held, Tableau, held_at, number_at, basic_at}
use Rattle.simplex_rules.specs.PivotRule.{exchanged, cleared_wide, rows_wide, line_wide}
use Rattle.simplex_rules.specs.StepLaws.{entry_times}
use Rattle.simplex_rules.specs.FirstTableauLaws.{spread_is}
use Rattle.simplex_tableau.specs.Shown.{IsTurned, IsTurnedWide}
use Rattle.simplex_tableau.proofs.DivisorLaws.{turned_gcd}
use Rattle.simplex_tableau.specs.Sparse.{HeldTerms, terms_at, shown_rows, Seen, seen, IsKept, AreKept}
use Rattle.simplex_tableau.specs.Stepped.{IsFreeable, IsStepped, IsStepWide, IsSomeWide, IsReplaced, exchange_wide, step_wide, IsExchanged, IsPivoted, IsOpened}
use Rattle.simplex_tableau.proofs.Shown.{shown_count, number_shown, basic_shown}
use Rattle.simplex_tableau.proofs.Exchange.{exchanged_rows, rows_narrow, some_row_wide}

-- ---- what freeing asks

pub cost_freeable : (w : ℕ) (rows : List HeldTerms) (d : List (ℕ × ℤ)) (t : Seen) (h : List (ℕ × ℤ)) (x : HeldTerms)
    → seen w rows d ≡ t → IsKept w d
    → pos 1 ≤ℤ entry t.tableau.objective 1 → coefficient h 1 ≡ pos 0 → x ≡ record { basic = 1; terms = d } → IsFreeable h x
cost_freeable w rows d t h x same kept scale flat is =
    let above : pos 1 ≤ℤ entry (spread w 0 d) 1 = subst (λ (s : Seen). pos 1 ≤ℤ entry s.tableau.objective 1) (sym same) scale in
    let there = spread_is w d 1 kept.within in
    subst (λ (y : HeldTerms). IsFreeable h y) (sym is) (record { own = omega (arith, ints, above, there); apart = flat })

pub row_below : (w : ℕ) (rows : List HeldTerms) (d : List (ℕ × ℤ)) (t : Seen) (r : ℕ) → seen w rows d ≡ t
    → r < length t.tableau.rows → r < length rows
row_below w rows d t r same below =
    let shown : r < length (shown_rows w rows) = subst (λ (s : Seen). r < length s.tableau.rows) (sym same) below in
    omega (arith, shown, shown_count w rows)

pub rows_freeable : (w : ℕ) (rows : List HeldTerms) (d : List (ℕ × ℤ)) (t : Seen) (r : ℕ) (h : List (ℕ × ℤ))
    → seen w rows d ≡ t → AreKept w rows
    → ((k : ℕ) → k < length t.tableau.rows → (k ≡ r → ⊥) → pos 1 ≤ℤ number_at t.tableau k (basic_at t.tableau k))
    → ((k : ℕ) → k < length t.tableau.rows → (k ≡ r → ⊥) → coefficient h (basic_at t.tableau k) ≡ pos 0)
    → (k : ℕ) → k < length rows → (k ≡ r → ⊥) → IsFreeable h (terms_at rows k)
rows_freeable w rows d t r h same kept own apart k below other =
    let less : k < length (shown_rows w rows) = omega (arith, below, shown_count w rows) in
    let there : k < length t.tableau.rows = subst (λ (s : Seen). k < length s.tableau.rows) same less in
    let own_ : pos 1 ≤ℤ entry (held_at (shown_rows w rows) k).line (held_at (shown_rows w rows) k).basic =
    subst (λ (s : Seen). pos 1 ≤ℤ number_at s.tableau k (basic_at s.tableau k)) (sym same) (own k there other) in
    let apart_ : coefficient h (held_at (shown_rows w rows) k).basic ≡ pos 0 =
    subst (λ (s : Seen). coefficient h (basic_at s.tableau k) ≡ pos 0) (sym same) (apart k there other) in
    let basic : (held_at (shown_rows w rows) k).basic ≡ (terms_at rows k).basic = basic_shown w rows k below in
    let number = number_shown w rows k (terms_at rows k).basic below (kept k below).within in
    let own_there : pos 1 ≤ℤ entry (held_at (shown_rows w rows) k).line (terms_at rows k).basic =
    subst (λ (j : ℕ). pos 1 ≤ℤ entry (held_at (shown_rows w rows) k).line j) basic own_ in
    record {
      own = omega (arith, ints, number, own_there);
      apart = subst (λ (j : ℕ). coefficient h j ≡ pos 0) basic apart_;
    }

-- ---- what is made

pub rows_are_wide : (w e r : ℕ) (h : List (ℕ × ℤ)) (rows : List HeldTerms) (d : List (ℕ × ℤ)) (t : Seen)
    → seen w rows d ≡ t → AreKept w rows → IsKept t.width h
    → IsSomeWide e h r rows → exchange_wide r e (spread t.width 0 h) t.tableau ≡ true
rows_are_wide w e r h rows d t same kept by some =
    let width : w ≡ t.width = ap (λ (s : Seen). s.width) same in
    let within : IsWithin w h = subst (λ (n : ℕ). IsWithin n h) (sym width) by.within in
    subst (λ (s : Seen). exchange_wide r e (spread s.width 0 h) s.tableau ≡ true) same
    (or_left (rows_wide r e (spread w 0 h) (shown_rows w rows)) (cleared_wide e (spread w 0 h) (spread w 0 d)) (some_row_wide w e h within r rows kept some))

pub cost_is_wide : (w e r : ℕ) (h : List (ℕ × ℤ)) (rows : List HeldTerms) (d : List (ℕ × ℤ)) (t : Seen) (x : HeldTerms)
    → seen w rows d ≡ t → IsKept w d
    → IsKept t.width h
    → x ≡ record { basic = 1; terms = d } → IsStepWide e h x → exchange_wide r e (spread t.width 0 h) t.tableau ≡ true
cost_is_wide w e r h rows d t x same kept by is wide =
    let width : w ≡ t.width = ap (λ (s : Seen). s.width) same in
    let within : IsWithin w h = subst (λ (n : ℕ). IsWithin n h) (sym width) by.within in
    let wide_ = subst (λ (y : HeldTerms). IsStepWide e h y) is wide in
    subst (λ (s : Seen). exchange_wide r e (spread s.width 0 h) s.tableau ≡ true) same
    (or_right (rows_wide r e (spread w 0 h) (shown_rows w rows)) (cleared_wide e (spread w 0 h) (spread w 0 d)) (wide_.wide w kept.within within))

two_parts : (a b : List Held) (c d : List ℤ) → a ≡ b → c ≡ d
    → ◌≡◌ {A = Tableau} (record { rows = a; objective = c }) (record { rows = b; objective = d })
two_parts a b c d one two = ap (λ (x : List Held). let t : Tableau = record { rows = x; objective = c } in t) one ∙ ap (λ (x : List ℤ). let t : Tableau = record { rows = b; objective = x } in t) two

module _ (w e r : ℕ) (h : List (ℕ × ℤ)) (rows more : List HeldTerms) (d : List (ℕ × ℤ)) (t : Seen) (x y : HeldTerms)
    (same : seen w rows d ≡ t) (kept : AreKept w rows) (cost_kept : IsKept w d) (by : IsKept t.width h) (below : r < length t.tableau.rows)
    (is : x ≡ record { basic = 1; terms = d }) (cost : IsStepped e h x y) (rest : IsReplaced e h r rows more) where
  width_is : w ≡ t.width
  width_is = ap (λ (s : Seen). s.width) same

  by_kept : IsKept w h
  by_kept = subst (λ (n : ℕ). IsKept n h) (sym width_is) by

  cost_done : IsStepped e h (record { basic = 1; terms = d }) y
  cost_done = subst (λ (z : HeldTerms). IsStepped e h z y) is cost

  pub exchanged_is : (out : List (ℕ × ℤ)) → out ≡ y.terms → IsExchanged r e (spread t.width 0 h) t (seen w more out)
  exchanged_is out made =
      let all : IsExchanged r e (spread w 0 h) (seen w rows d) (seen w more y.terms) = record {
        width = refl;
        tableau = two_parts (shown_rows w more) (exchanged r e (spread w 0 h) (shown_rows w rows)) (spread w 0 y.terms) (cleared e (spread w 0 h) (spread w 0 d))
            (exchanged_rows w e h by_kept.within r rows more kept rest.count (row_below w rows d t r same below) rest.stepped rest.there)
            (cost_done.line w cost_kept by_kept.within);
        narrow = or_from (rows_wide r e (spread w 0 h) (shown_rows w rows)) (cleared_wide e (spread w 0 h) (spread w 0 d))
            (rows_narrow w e h by_kept.within r rows more kept rest.count rest.stepped) (cost_done.narrow w cost_kept.within by_kept.within);
      } in
      subst (λ (ts : List (ℕ × ℤ)). IsExchanged r e (spread t.width 0 h) t (seen w more ts)) (sym made)
      (subst (λ (s : Seen). IsExchanged r e (spread s.width 0 h) s (seen w more y.terms)) same all)

  pub rows_kept : AreKept w more
  rows_kept k less = ⊎_elim
      (λ (q : k ≡ r).
      let here : terms_at more k ≡ record { basic = e; terms = h } = ap (λ (n : ℕ). terms_at more n) q ∙ rest.there in
      subst (λ (z : HeldTerms). IsKept w z.terms) (sym here) by_kept)
      (λ (other : k ≡ r → ⊥).
      let old : k < length rows = omega (arith, less, rest.count) in
      (rest.stepped k old other).kept w (kept k old) by_kept.within)
      (cases_eq k r)

  pub cost_stays_kept : (out : List (ℕ × ℤ)) → out ≡ y.terms → IsKept w out
  cost_stays_kept out made = subst (λ (ts : List (ℕ × ℤ)). IsKept w ts) (sym made) (cost_done.kept w cost_kept by_kept.within)

-- ---- the row, turned

pub turned_kept : (w : ℕ) (f out : List (ℕ × ℤ)) → IsTurned f out → IsKept w f → IsKept w out
turned_kept w f out turned kept = record {
  within = turned.within w kept.within;
  one = ap line_gcd (turned.line w) ∙ turned_gcd (spread w 0 f) ∙ kept.one;
}

turned_number : (w : ℕ) (f out : List (ℕ × ℤ)) (l : List ℤ) (j : ℕ) → IsTurned f out → IsKept w f → l ≡ spread w 0 f
    → coefficient out j ≡ neg_ℤ (pos 1) *ℤ entry l j
turned_number w f out l j turned kept shown =
    sym (spread_is w out j (turned.within w kept.within)) ∙ ap (λ (x : List ℤ). entry x j) (turned.line w) ∙ entry_times (neg_ℤ (pos 1)) (spread w 0 f) j
    ∙ ap (λ (x : List ℤ). neg_ℤ (pos 1) *ℤ entry x j) (sym shown)

pub turned_above : (w : ℕ) (f out : List (ℕ × ℤ)) (l : List ℤ) (j : ℕ) → IsTurned f out → IsKept w f → l ≡ spread w 0 f
    → entry l j <ℤ pos 0 → pos 0 <ℤ coefficient out j
turned_above w f out l j turned kept shown low = omega (arith, ints, turned_number w f out l j turned kept shown, low)

pub turned_none : (w : ℕ) (f out : List (ℕ × ℤ)) (l : List ℤ) (j : ℕ) → IsTurned f out → IsKept w f → l ≡ spread w 0 f
    → entry l j ≡ pos 0 → coefficient out j ≡ pos 0
turned_none w f out l j turned kept shown none = omega (arith, ints, turned_number w f out l j turned kept shown, none)

pub line_too_wide : (w r e : ℕ) (f : List (ℕ × ℤ)) (t : Tableau) → IsTurnedWide f → IsKept w f
    → (held_at t.rows r).line ≡ spread w 0 f → step_wide r e t ≡ true
line_too_wide w r e f t wide kept shown =
    let h = times_line (neg_ℤ (pos 1)) (held_at t.rows r).line in
    or_left (line_wide h) (exchange_wide r e h t) (ap (λ (l : List ℤ). line_wide (times_line (neg_ℤ (pos 1)) l)) shown ∙ wide.wide w kept.within)

line_is : (w r : ℕ) (f out : List (ℕ × ℤ)) (t : Tableau) → IsTurned f out → (held_at t.rows r).line ≡ spread w 0 f
    → spread w 0 out ≡ times_line (neg_ℤ (pos 1)) (held_at t.rows r).line
line_is w r f out t turned shown = turned.line w ∙ ap (λ (l : List ℤ). times_line (neg_ℤ (pos 1)) l) (sym shown)

pub rest_too_wide : (w r e : ℕ) (f out : List (ℕ × ℤ)) (t : Tableau) → IsTurned f out
    → (held_at t.rows r).line ≡ spread w 0 f
    → exchange_wide r e (spread w 0 out) t ≡ true → step_wide r e t ≡ true
rest_too_wide w r e f out t turned shown wide =
    let h = times_line (neg_ℤ (pos 1)) (held_at t.rows r).line in
    or_right (line_wide h) (exchange_wide r e h t) (ap (λ (l : List ℤ). exchange_wide r e l t) (sym (line_is w r f out t turned shown)) ∙ wide)

pub pivot_is : (r e : ℕ) (f out : List (ℕ × ℤ)) (old new : Seen) → IsTurned f out
    → (held_at old.tableau.rows r).line ≡ spread old.width 0 f
    → IsExchanged r e (spread old.width 0 out) old new → IsPivoted r e old new
pivot_is r e f out old new turned shown x =
    let h = times_line (neg_ℤ (pos 1)) (held_at old.tableau.rows r).line in
    let is = line_is old.width r f out old.tableau turned shown in
    record {
      width = x.width;
      tableau = subst (λ (l : List ℤ). ◌≡◌ {A = Tableau} new.tableau (record { rows = exchanged r e l old.tableau.rows; objective = cleared e l old.tableau.objective })) is x.tableau;
      narrow = or_from (line_wide h) (exchange_wide r e h old.tableau)
          (ap (λ (l : List ℤ). line_wide (times_line (neg_ℤ (pos 1)) l)) shown ∙ turned.narrow old.width)
          (ap (λ (l : List ℤ). exchange_wide r e l old.tableau) (sym is) ∙ x.narrow);
    }

-- ---- the row as it is

times_one : (f : List ℤ) → times_line (pos 1) f ≡ f
times_one [] = refl
times_one (x ∷ f) = let e : pos 1 *ℤ x ≡ x = omega (arith, ints) in rw (e, times_one f) refl

pub same_number : (w : ℕ) (f out : List (ℕ × ℤ)) (l : List ℤ) (j : ℕ) → out ≡ f → IsKept w f → l ≡ spread w 0 f
    → entry l j ≡ coefficient out j
same_number w f out l j is kept shown = ap (λ (x : List ℤ). entry x j) shown ∙ spread_is w f j kept.within ∙ ap (λ (ts : List (ℕ × ℤ)). coefficient ts j) (sym is)

pub opening_wide : (r e : ℕ) (f out : List (ℕ × ℤ)) (old : Seen) → out ≡ f
    → (held_at old.tableau.rows r).line ≡ spread old.width 0 f
    → exchange_wide r e (spread old.width 0 out) old.tableau ≡ true → exchange_wide r e (held_at old.tableau.rows r).line old.tableau ≡ true
opening_wide r e f out old is shown wide =
    let line : spread old.width 0 out ≡ (held_at old.tableau.rows r).line = ap (λ (ts : List (ℕ × ℤ)). spread old.width 0 ts) is ∙ sym shown in
    ap (λ (l : List ℤ). exchange_wide r e l old.tableau) (sym line) ∙ wide

pub opening_is : (r e : ℕ) (f out : List (ℕ × ℤ)) (old new : Seen) → out ≡ f
    → (held_at old.tableau.rows r).line ≡ spread old.width 0 f
    → IsExchanged r e (spread old.width 0 out) old new → IsOpened r e old new
opening_is r e f out old new is shown x =
    let line : spread old.width 0 out ≡ times_line (pos 1) (held_at old.tableau.rows r).line =
    ap (λ (ts : List (ℕ × ℤ)). spread old.width 0 ts) is ∙ sym shown ∙ sym (times_one (held_at old.tableau.rows r).line) in
    record {
      width = x.width;
      tableau = subst (λ (l : List ℤ). ◌≡◌ {A = Tableau} new.tableau (record { rows = exchanged r e l old.tableau.rows; objective = cleared e l old.tableau.objective })) line x.tableau;
    }
