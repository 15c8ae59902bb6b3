-- The numbers of the opening fit: no pivot of it is wide.
use Rattle.std.proofs.Common.{◌≡◌, ℕ, ℤ, pos, negsuc, neg_ℤ, zero, suc, ◌<◌, ◌≤◌, ◌^◌, arith, refl, sym, ap, ◌∙◌, subst, List, [], ◌∷◌, length, ⊎_elim, ◌⊎◌, inl, inr, Bool, true, false}
use Rattle.std.specs.Prelude.{◌-ℤ◌, ◌*ℤ◌, ◌≤ℤ◌, not}
use Rattle.std.specs.Int.{int_div_euclid}
use Rattle.std.specs.List.{list_any}
use Rattle.std.proofs.lemmas.Int.{ints}
use Rattle.std.proofs.lemmas.Bool.{cases_eq, lt-ltb, or_from, and_right}
use Rattle.whole_numbers.specs.Numbers.{Divides, gcd}
use Rattle.whole_numbers.specs.GcdLaws.{gcd_first, gcd_second}
use Rattle.whole_numbers.specs.DivisionLaws.{divides_at_most}
use Rattle.ipet_rows.specs.Rows.{vanishes}
use Rattle.ipet_rows.specs.Sums.{total, coefficient, coefficient_of}
use Rattle.ipet_rows.specs.Programs.{Row, Program, row_at, cost_at}
use Rattle.ipet_rows.specs.Firsts.{fits, entry}
use Rattle.ipet_rows.specs.DualityLaws.{times_rising}
use Rattle.ipet_rows.specs.SumLaws.{term_here, term_elsewhere, times_neg, total_nothing}
use Rattle.simplex_rules.specs.Tableaus.{Held, Tableau, Generator, held_at, placed, turned, slack_line, next_slack, row_lines, generators, cost_terms, slacks_from}
use Rattle.simplex_rules.specs.PivotRule.{cleared_wide, mixed_wide, rows_wide, opening_at}
use Rattle.simplex_rules.specs.Promise.{generator_at, coefficient_at, cost_of, Opens}
use Rattle.simplex_rules.specs.FirstLineLaws.{coefficient_placed, coefficient_placed_low, coefficient_turned}
use Rattle.dual_check.specs.Small.{IsUpTo, IsSmall}
use Rattle.simplex_rules.specs.PlainOpening.{IsPlain, freed_of}
use Rattle.simplex_rules.specs.PlainOpeningLaws.{times_none}
use Rattle.simplex_tableau.specs.Stepped.{exchange_wide}
use Rattle.simplex_rules.specs.StepLaws.{exact, divisor_above, first_gcd_above}

-- ---- numbers that fit

fit : (z : ℤ) → IsUpTo 20282409603651670423947251286016 z → fits z ≡ true
fit (pos n) is = let high = is.1 in lt-ltb n (2 ^ 127) (omega (arith, ints, high))
fit (negsuc n) is = let low = is.0 in lt-ltb n (2 ^ 127) (omega (arith, ints, low))

-- products of two numbers of about 35 bits
product : (y c : ℤ) → IsUpTo 34359738368 y → IsUpTo 34359738368 c → IsUpTo 1180591620717411303424 (y *ℤ c)
product y (pos n) about is =
    let y_low = about.0 in
    let y_high = about.1 in
    let c_high = is.1 in
    let high = times_rising y (pos 34359738368) (pos n) y_high (omega (arith, ints)) in
    let low = times_rising (pos 0 -ℤ pos 34359738368) y (pos n) y_low (omega (arith, ints)) in
    let low_is : (pos 0 -ℤ pos 34359738368) *ℤ pos n ≡ pos 0 -ℤ (pos 34359738368 *ℤ pos n) = omega (arith, ints) in
    (omega (arith, ints, low, low_is, c_high), omega (arith, ints, high, c_high))
product y (negsuc n) about is =
    let y_low = about.0 in
    let y_high = about.1 in
    let c_low = is.0 in
    let turned_ : y *ℤ negsuc n ≡ pos 0 -ℤ (y *ℤ pos (suc n)) = times_neg y (pos (suc n)) in
    let high = times_rising y (pos 34359738368) (pos (suc n)) y_high (omega (arith, ints)) in
    let low = times_rising (pos 0 -ℤ pos 34359738368) y (pos (suc n)) y_low (omega (arith, ints)) in
    let low_is : (pos 0 -ℤ pos 34359738368) *ℤ pos (suc n) ≡ pos 0 -ℤ (pos 34359738368 *ℤ pos (suc n)) = omega (arith, ints) in
    (omega (arith, ints, high, turned_, c_low), omega (arith, ints, low, low_is, turned_, c_low))

sums : (n : ℕ) (f : ℕ → ℤ) → ((k : ℕ) → k < n → IsUpTo 1180591620717411303424 (f k))
    → ((pos 0 -ℤ (pos 1180591620717411303424 *ℤ pos n)) ≤ℤ total n f) × (total n f ≤ℤ (pos 1180591620717411303424 *ℤ pos n))
sums zero f each_one = (omega (arith, ints), omega (arith, ints))
sums (suc n) f each_one =
    let before = sums n f (λ k below. each_one k (omega arith)) in
    let here = each_one n (omega arith) in
    (omega (arith, ints, before.0, here.0), omega (arith, ints, before.1, here.1))

-- ---- first lines

term_near : (c j : ℕ) (z : ℤ) → IsUpTo 8589934592 z → IsUpTo 8589934592 (coefficient_of (c, z) j)
term_near c j z near = ⊎_elim
    (λ (q : c ≡ j). subst (λ (x : ℤ). IsUpTo 8589934592 x) (sym (term_here c j z q)) near)
    (λ (d : c ≡ j → ⊥). let none = term_elsewhere c j z d in (omega (arith, ints, none), omega (arith, ints, none)))
    (cases_eq c j)

placed_near : (ts : List (ℕ × ℤ)) (j : ℕ) → ((e : ℕ) → IsUpTo 8589934592 (coefficient ts e))
    → IsUpTo 8589934592 (coefficient (placed ts) j)
placed_near ts zero near = let none = coefficient_placed_low ts 0 (omega arith) in (omega (arith, ints, none), omega (arith, ints, none))
placed_near ts (suc zero) near = let none = coefficient_placed_low ts 1 (omega arith) in (omega (arith, ints, none), omega (arith, ints, none))
placed_near ts (suc (suc e)) near = subst (λ (z : ℤ). IsUpTo 8589934592 z) (sym (coefficient_placed ts e)) (near e)

slack_near : (right : ℤ) (ts : List (ℕ × ℤ)) (s j : ℕ) → IsUpTo 8589934592 right
    → ((e : ℕ) → IsUpTo 8589934592 (coefficient ts e))
    → IsUpTo 34359738368 (coefficient (slack_line right ts s).1 j)
slack_near right ts s j right_near near =
    let a = term_near 0 j right right_near in
    let b = term_near s j (pos 1) (omega (arith, ints), omega (arith, ints)) in
    let c = placed_near ts j near in
    (omega (arith, ints, a.0, b.0, c.0), omega (arith, ints, a.1, b.1, c.1))

neg_near : (z : ℤ) → IsUpTo 8589934592 z → IsUpTo 8589934592 (neg_ℤ z)
neg_near z near = let low = near.0 in let high = near.1 in (omega (arith, ints, high), omega (arith, ints, low))

turned_near : (ts : List (ℕ × ℤ)) (e : ℕ) → ((e : ℕ) → IsUpTo 8589934592 (coefficient ts e))
    → IsUpTo 8589934592 (coefficient (turned ts) e)
turned_near ts e near = subst (λ (z : ℤ). IsUpTo 8589934592 z) (sym (coefficient_turned ts e)) (neg_near (coefficient ts e) (near e))

row_near : (b : Bool) (r : Row) (s k j : ℕ) (more : List Generator) → IsUpTo 8589934592 r.right
    → ((e : ℕ) → IsUpTo 8589934592 (coefficient r.terms e))
    → ((i : ℕ) → IsUpTo 34359738368 (coefficient (generator_at more i).1 j)) → IsUpTo 34359738368 (coefficient (generator_at (row_lines b r s more) k).1 j)
row_near true r s zero j more right near rest = slack_near r.right r.terms s j right near
row_near true r s (suc zero) j more right near rest = slack_near (neg_ℤ r.right) (turned r.terms) (suc s) j (neg_near r.right right) (λ e. turned_near r.terms e near)
row_near true r s (suc (suc k)) j more right near rest = rest k
row_near false r s zero j more right near rest = slack_near r.right r.terms s j right near
row_near false r s (suc k) j more right near rest = rest k

lines_near : (rs : List Row) (s k j : ℕ) → ((i : ℕ) → IsUpTo 8589934592 (row_at rs i).right)
    → ((i e : ℕ) → IsUpTo 8589934592 (coefficient (row_at rs i).terms e))
    → IsUpTo 34359738368 (coefficient (generator_at (generators rs s) k).1 j)
lines_near [] s k j rights numbers = (omega (arith, ints), omega (arith, ints))
lines_near (r ∷ rs) s k j rights numbers =
    row_near r.equation r s k j (generators rs (next_slack r.equation s)) (rights 0) (numbers 0)
    (λ i. lines_near rs (next_slack r.equation s) i j (λ i. rights (suc i)) (λ i. numbers (suc i)))

costs_near : (cs : List ℕ) (j i : ℕ) → ((e : ℕ) → cost_at cs e < 4294967296)
    → ((pos 0 -ℤ pos 4294967296) ≤ℤ coefficient (cost_terms cs j) i) × (coefficient (cost_terms cs j) i ≤ℤ pos 0) × (i < j → coefficient (cost_terms cs j) i ≡ pos 0)
costs_near [] j i small = (omega (arith, ints), omega (arith, ints), λ less. refl)
costs_near (c ∷ cs) j i small =
    let rest = costs_near cs (suc j) i (λ e. small (suc e)) in
    let here = small 0 in
    ⊎_elim
    (λ (q : j ≡ i).
    let own = term_here j i (neg_ℤ (pos c)) q in
    let none = rest.2 (omega arith) in
    (omega (arith, ints, own, none, here), omega (arith, ints, own, none), λ less. absurd (omega arith)))
    (λ (d : j ≡ i → ⊥).
    let own = term_elsewhere j i (neg_ℤ (pos c)) d in
    (omega (arith, ints, own, rest.0), omega (arith, ints, own, rest.1), λ less. (let none = rest.2 (omega arith) in omega (arith, ints, own, none))))
    (cases_eq j i)

objective_near : (p : Program) (j : ℕ) → ((e : ℕ) → cost_at p.costs e < 4294967296) → IsUpTo 34359738368 (cost_of p j)
objective_near p j small =
    let a = term_near 1 j (pos 1) (omega (arith, ints), omega (arith, ints)) in
    let b = costs_near p.costs 2 j small in
    (omega (arith, ints, a.0, b.0), omega (arith, ints, a.1, b.1))

-- ---- one line freed

one_divisor : (d : ℤ) → pos 0 ≤ℤ d → Divides d (pos 1) → d ≡ pos 1
one_divisor d least m =
    let above = divisor_above d (pos 1) least m (omega (arith, ints)) in
    let most = divides_at_most d (pos 1) m (omega (arith, ints)) least in
    omega (arith, ints, above, most)

by_one : (g a z : ℤ) → g ≡ pos 1 → g *ℤ a ≡ z → a ≡ z
by_one g a z one is = let plain : pos 1 *ℤ a ≡ z = subst (λ (k : ℤ). k *ℤ a ≡ z) one is in omega (arith, ints, plain)

-- each product and difference fits
record AllFit (b : ℤ) (f h : List ℤ) : Type 0 where
  lines : (j : ℕ) → IsUpTo 10141204801825835211973625643008 (entry f j)
  products : (j : ℕ) → IsUpTo 1180591620717411303424 (b *ℤ entry h j)

mixed_fit : (b : ℤ) (f h : List ℤ) → AllFit b f h → mixed_wide (pos 1) b f h ≡ false
mixed_fit b [] [] all = refl
mixed_fit b [] (y ∷ h) all =
    let p = all.products 0 in
    let one : fits (b *ℤ y) ≡ true = fit (b *ℤ y) (omega (arith, ints, p.0), omega (arith, ints, p.1)) in
    let two : fits (pos 0 -ℤ (b *ℤ y)) ≡ true = fit (pos 0 -ℤ (b *ℤ y)) (omega (arith, ints, p.1), omega (arith, ints, p.0)) in
    rw (one, two) (mixed_fit b [] h (record { lines = λ j. all.lines (suc j); products = λ j. all.products (suc j) }))
mixed_fit b (x ∷ f) [] all =
    let l = all.lines 0 in
    let one : fits (pos 1 *ℤ x) ≡ true = fit (pos 1 *ℤ x) (omega (arith, ints, l.0), omega (arith, ints, l.1)) in
    rw one (mixed_fit b f [] (record { lines = λ j. all.lines (suc j); products = λ j. all.products (suc j) }))
mixed_fit b (x ∷ f) (y ∷ h) all =
    let l = all.lines 0 in
    let p = all.products 0 in
    let one : fits (pos 1 *ℤ x) ≡ true = fit (pos 1 *ℤ x) (omega (arith, ints, l.0), omega (arith, ints, l.1)) in
    let two : fits (b *ℤ y) ≡ true = fit (b *ℤ y) (omega (arith, ints, p.0), omega (arith, ints, p.1)) in
    let three : fits ((pos 1 *ℤ x) -ℤ (b *ℤ y)) ≡ true = fit ((pos 1 *ℤ x) -ℤ (b *ℤ y)) (omega (arith, ints, l.0, p.1), omega (arith, ints, l.1, p.0)) in
    rw (one, two, three) (mixed_fit b f h (record { lines = λ j. all.lines (suc j); products = λ j. all.products (suc j) }))

freed_narrow : (e : ℕ) (h f : List ℤ) → entry h e ≡ pos 1 → AllFit (entry f e) f h → cleared_wide e h f ≡ false
freed_narrow e h f one all =
    let g = gcd (entry h e) (entry f e) in
    let a = int_div_euclid (entry h e) g in
    let b = int_div_euclid (entry f e) g in
    let above : pos 1 ≤ℤ entry h e = omega (arith, ints, one) in
    let g_above : pos 1 ≤ℤ g = first_gcd_above (entry h e) (entry f e) above in
    let g_one : g ≡ pos 1 = one_divisor g (omega (arith, ints, g_above)) (subst (λ (z : ℤ). Divides g z) one (gcd_first (entry h e) (entry f e))) in
    let a_one : a ≡ pos 1 = by_one g a (entry h e) g_one (exact g (entry h e) g_above (gcd_first (entry h e) (entry f e))) ∙ one in
    let b_is : b ≡ entry f e = by_one g b (entry f e) g_one (exact g (entry f e) g_above (gcd_second (entry h e) (entry f e))) in
    and_right (not (vanishes (entry f e))) (mixed_wide a b f h)
    (ap (λ (z : ℤ). mixed_wide z b f h) a_one ∙ ap (λ (z : ℤ). mixed_wide (pos 1) z f h) b_is ∙ mixed_fit (entry f e) f h all)

any_narrow : (e : ℕ) (h : List ℤ) (ks : List Held)
    → ((k : ℕ) → k < length ks → cleared_wide e h (held_at ks k).line ≡ false)
    → list_any (λ (k : Held). cleared_wide e h k.line) ks ≡ false
any_narrow e h [] each_one = refl
any_narrow e h (k ∷ ks) each_one = or_from (cleared_wide e h k.line) (list_any (λ (k : Held). cleared_wide e h k.line) ks) (each_one 0 (omega arith)) (any_narrow e h ks (λ i below. each_one (suc i) (omega arith)))

others_narrow : (r e : ℕ) (h : List ℤ) (ks : List Held)
    → ((k : ℕ) → k < length ks → (k ≡ r → ⊥) → cleared_wide e h (held_at ks k).line ≡ false)
    → rows_wide r e h ks ≡ false
others_narrow r e h [] each_one = refl
others_narrow zero e h (k ∷ ks) each_one = any_narrow e h ks (λ i below. each_one (suc i) (omega arith) (λ (q : suc i ≡ 0). absurd (omega arith)))
others_narrow (suc r) e h (k ∷ ks) each_one =
    or_from (cleared_wide e h k.line) (rows_wide r e h ks) (each_one 0 (omega arith) (λ (q : 0 ≡ suc r). absurd (omega arith)))
    (others_narrow r e h ks (λ i below other. each_one (suc i) (omega arith) (λ (q : suc i ≡ suc r). other (omega arith))))

-- ---- the opening

record IsOpeningRow (os : List (ℕ × ℕ)) (n k : ℕ) : Type 0 where
  by : ℕ
  below : by < n
  same : k ≡ (opening_at os by).0

opening_row : (os : List (ℕ × ℕ)) (n k : ℕ) → IsOpeningRow os n k ⊎ ((i : ℕ) → i < n → k ≡ (opening_at os i).0 → ⊥)
opening_row os zero k = inr (λ i below same. absurd (omega arith))
opening_row os (suc n) k = ⊎_elim
    (λ (q : k ≡ (opening_at os n).0). inl (record { by = n; below = omega arith; same = q }))
    (λ (d : k ≡ (opening_at os n).0 → ⊥). ⊎_elim
    (λ (f : IsOpeningRow os n k). let low = f.below in inl (record { by = f.by; below = omega (arith, low); same = f.same }))
    (λ (none : (i : ℕ) → i < n → k ≡ (opening_at os i).0 → ⊥). inr (λ i below same. ⊎_elim
    (λ (q : i ≡ n). d (subst (λ (x : ℕ). k ≡ (opening_at os x).0) q same)) (λ (x : i ≡ n → ⊥). none i (omega arith) same) (cases_eq i n)))
    (opening_row os n k))
    (cases_eq k (opening_at os n).0)

module _ (p : Program) (os : List (ℕ × ℕ)) (m : ℕ) (t : Tableau) (small : IsSmall p) (o : Opens p os) (few : length os < 4294967296) (low : m < length os) (plain : IsPlain p os m t) where
  first_near : (k j : ℕ) → IsUpTo 34359738368 (coefficient_at p k j)
  first_near k j = lines_near p.rows (slacks_from p) k j small.rights small.numbers

  freed_near : (g : ℕ → ℤ) (j : ℕ) → ((i : ℕ) → IsUpTo 34359738368 (g i))
      → IsUpTo 10141204801825835211973625643008 (freed_of p os g m j)
  freed_near g j near =
      let sum = sums m (λ i. g (opening_at os i).1 *ℤ coefficient_at p (opening_at os i).0 j) (λ i below. product (g (opening_at os i).1) (coefficient_at p (opening_at os i).0 j) (near (opening_at os i).1) (first_near (opening_at os i).0 j)) in
      let here = near j in
      (omega (arith, ints, sum.1, here.0, few, low), omega (arith, ints, sum.0, here.1, few, low))

  freed_there : (g : ℕ → ℤ) → freed_of p os g m (opening_at os m).1 ≡ g (opening_at os m).1
  freed_there g =
      let none : total m (λ i. g (opening_at os i).1 *ℤ coefficient_at p (opening_at os i).0 (opening_at os m).1) ≡ pos 0 =
      total_nothing m (λ i. g (opening_at os i).1 *ℤ coefficient_at p (opening_at os i).0 (opening_at os m).1)
      (λ i below. times_none (g (opening_at os i).1) (coefficient_at p (opening_at os i).0 (opening_at os m).1) (o.apart i m (omega (arith, below, low)) low (λ (same : i ≡ m). absurd (omega (arith, below, same))))) in
      omega (arith, ints, none)

  row_line : List ℤ
  row_line = (held_at t.rows (opening_at os m).0).line

  one_there : entry (held_at t.rows (opening_at os m).0).line (opening_at os m).1 ≡ pos 1
  one_there = plain.rows m low (opening_at os m).1 ∙ o.own m low

  line_narrow : (f : List ℤ) → ((j : ℕ) → IsUpTo 10141204801825835211973625643008 (entry f j))
      → IsUpTo 34359738368 (entry f (opening_at os m).1)
      → cleared_wide (opening_at os m).1 (held_at t.rows (opening_at os m).0).line f ≡ false
  line_narrow f near there = freed_narrow (opening_at os m).1 (held_at t.rows (opening_at os m).0).line f one_there (record {
    lines = near;
    products = λ j. product (entry f (opening_at os m).1) (entry (held_at t.rows (opening_at os m).0).line j) there
        (subst (λ (z : ℤ). IsUpTo 34359738368 z) (sym (plain.rows m low j)) (first_near (opening_at os m).0 j));
  })

  wider : (z : ℤ) → IsUpTo 34359738368 z → IsUpTo 10141204801825835211973625643008 z
  wider z near = let a = near.0 in let b = near.1 in (omega (arith, ints, a), omega (arith, ints, b))

  row_narrow : (k : ℕ) → k < length t.rows
      → cleared_wide (opening_at os m).1 (held_at t.rows (opening_at os m).0).line (held_at t.rows k).line ≡ false
  row_narrow k below = ⊎_elim
      (λ (f : IsOpeningRow os (length os) k).
      let near : (j : ℕ) → IsUpTo 34359738368 (entry (held_at t.rows k).line j) =
      λ j. subst (λ (z : ℤ). IsUpTo 34359738368 z) (sym (ap (λ (n : ℕ). entry (held_at t.rows n).line j) f.same ∙ plain.rows f.by f.below j)) (first_near (opening_at os f.by).0 j) in
      line_narrow (held_at t.rows k).line (λ j. wider (entry (held_at t.rows k).line j) (near j)) (near (opening_at os m).1))
      (λ (none : (i : ℕ) → i < length os → k ≡ (opening_at os i).0 → ⊥).
      let is = plain.others k (omega (arith, below, plain.count)) none in
      line_narrow (held_at t.rows k).line
      (λ j. subst (λ (z : ℤ). IsUpTo 10141204801825835211973625643008 z) (sym (is j)) (freed_near (coefficient_at p k) j (first_near k)))
      (subst (λ (z : ℤ). IsUpTo 34359738368 z) (sym (is (opening_at os m).1 ∙ freed_there (coefficient_at p k))) (first_near k (opening_at os m).1)))
      (opening_row os (length os) k)

  costs_are : (j : ℕ) → IsUpTo 34359738368 (cost_of p j)
  costs_are j = objective_near p j small.costs

  pub pivot_narrow : exchange_wide (opening_at os m).0 (opening_at os m).1 (held_at t.rows (opening_at os m).0).line t ≡ false
  pivot_narrow =
      let h = (held_at t.rows (opening_at os m).0).line in
      let e = (opening_at os m).1 in
      or_from (rows_wide (opening_at os m).0 e h t.rows) (cleared_wide e h t.objective)
      (others_narrow (opening_at os m).0 e h t.rows (λ k below other. row_narrow k below))
      (line_narrow t.objective
      (λ j. subst (λ (z : ℤ). IsUpTo 10141204801825835211973625643008 z) (sym (plain.objective j)) (freed_near (cost_of p) j costs_are))
      (subst (λ (z : ℤ). IsUpTo 34359738368 z) (sym (plain.objective (opening_at os m).1 ∙ freed_there (cost_of p))) (costs_are (opening_at os m).1)))
