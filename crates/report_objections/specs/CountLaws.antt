-- What the `total` lines of a report allow, and what runs cost.
--   line_there      a node has a `dead` or a `total` line
--   lines_cost      what all lines allow, node by node
--   cost_within     a run that meets the facts costs no more
use Rattle.std.proofs.Common.{◌≡◌, ◌<◌, ◌≤◌, ◌+◌, ◌*◌, ◌==◌, ℕ, List, [], ◌∷◌, Bool, true, false, cond, length, get_or, reverse, All, Contains, refl, sym, ap, ◌∙◌, subst, arith}
use Rattle.std.specs.Prelude.{slice_index, count_by, sum_by}
use Rattle.std.proofs.lemmas.Bool.{eqb-true}
use Rattle.std.proofs.lemmas.Nat.{mul-le}
use Rattle.std.proofs.lemmas.List.Elements.{All-contains, All-head, All-tail}
use Rattle.std.proofs.lemmas.List.Sums.{sum_by-cons, get_or-le-sum_by}
use Rattle.lists.specs.MemberLaws.{first_member, further_member}
use Rattle.lists.specs.TestLaws.{by_test}
use Rattle.domain_core.specs.Outlines.{Outlined, shape_of}
use Rattle.flow_facts.specs.declared.fact.Fact.{Fact}
use Rattle.flow_facts.specs.declared.fact.Fact.TheVariants.{Loop, Count, Dead, Total, Pair, Alarm}
use Rattle.flow_facts.specs.Facts.{places, Meets}
use Rattle.ipet_rows.specs.Shaped.{FitsOutline, FitOutline}
use Rattle.ipet_rows.specs.Uses.{run_cost}
use Rattle.recorder_rules.specs.Spans.{visits}
use Rattle.report_soundness.specs.BookToldLaws.{places_are_visits}
use Rattle.report_soundness.specs.ReportTold.{Found, sum_below, costs_of}
use Rattle.report_soundness.specs.BelowLaws.{sum_same, sum_rises, sum_both, sum_none, sum_one}
use Rattle.report_soundness.specs.CostLaws.{cost_is}
use Rattle.report_soundness.specs.SoundLaws.{node_low}
use Rattle.report_objections.specs.Shaping.{tells_total}
use Rattle.report_objections.specs.Objecting.{line_cost, most_cost}
use Rattle.report_soundness.specs.CollectedLaws.{node_in, SummedUp}

-- 1 where it is so, and 0 where it is not
abbrev pub bit : Bool → ℕ
bit v = cond v 1 0

-- a member that passes
record Passing {A : Type 0} (p : A → Bool) (xs : List A) : Type 0 where
  it : A
  there : Contains xs it
  passes : p it ≡ true

-- where some pass, one is there
some_passes : {A : Type 0} (p : A → Bool) (xs : List A) → 1 ≤ count_by p xs → Passing p xs
some_passes p [] some = absurd (let none : count_by p [] ≡ 0 = refl in omega (arith, some, none))
some_passes p (x ∷ xs) some =
    let all : count_by p (x ∷ xs) ≡ bit (p x) + count_by p xs = sum_by-cons (λ y. bit (p y)) x xs in
    by_test (p x)
    (λ is. record { it = x; there = first_member x xs; passes = is })
    (λ is.
    let zero_here : bit (p x) ≡ 0 = ap (λ (v : Bool). bit v) is in
    let later = some_passes p xs (omega (arith, some, all, zero_here)) in
    record { it = later.it; there = further_member x xs later.it later.there; passes = later.passes })

-- ---- what lines allow

-- the visits of the node that the line allows
abbrev pub line_most : ℕ → Fact → ℕ
line_most n (Total m low high) = cond (n == m) high 0
line_most n _ = 0

-- those of all lines
abbrev pub most_of : ℕ → List Fact → ℕ
most_of n facts = sum_by (λ f. line_most n f) facts

no_lines : (c : ℕ → ℕ) (k : ℕ) → 0 ≡ sum_below (λ n. c n * 0) k
no_lines c k = let same = sum_same (λ n. c n * 0) (λ n. 0) k (λ n low. times_none (c n)) in let none = sum_none k in omega (arith, same, none)
  where
    times_none : (a : ℕ) → a * 0 ≡ 0
    times_none a = omega arith

-- one line
one_line : (o : Outlined) (fact : Fact) → FitsOutline (shape_of o) fact
    → line_cost (costs_of o) fact ≡ sum_below (λ n. slice_index (costs_of o) n * line_most n fact) (length o.nodes)
one_line o (Loop s low high) fits = no_lines (λ n. slice_index (costs_of o) n) (length o.nodes)
one_line o (Count s n low high) fits = no_lines (λ n. slice_index (costs_of o) n) (length o.nodes)
one_line o (Dead n) fits = no_lines (λ n. slice_index (costs_of o) n) (length o.nodes)
one_line o (Total m low high) fits =
    let c : ℕ → ℕ = λ n. slice_index (costs_of o) n in
    let same = sum_same (λ n. c n * cond (n == m) high 0) (λ n. cond (n == m) (c m * high) 0) (length o.nodes) (λ n less. each c n) in
    let one = sum_one m (c m * high) (length o.nodes) (node_in o m fits) in
    omega (arith, same, one)
  where
    by : (c : ℕ → ℕ) (n : ℕ) (v : Bool) → (v ≡ true → n ≡ m) → c n * cond v high 0 ≡ cond v (c m * high) 0
    by c n true is = ap (λ (k : ℕ). c k * high) (is refl)
    by c n false is = omega arith

    each : (c : ℕ → ℕ) (n : ℕ) → c n * cond (n == m) high 0 ≡ cond (n == m) (c m * high) 0
    each c n = by c n (n == m) (λ hit. eqb-true n m hit)
one_line o (Pair s a b) fits = no_lines (λ n. slice_index (costs_of o) n) (length o.nodes)
one_line o (Alarm n fault) fits = no_lines (λ n. slice_index (costs_of o) n) (length o.nodes)

-- all lines
pub lines_cost : (o : Outlined) (facts : List Fact) → FitOutline (shape_of o) facts
    → most_cost o facts ≡ sum_below (λ n. slice_index (costs_of o) n * most_of n facts) (length o.nodes)
lines_cost o [] fits = no_lines (λ n. slice_index (costs_of o) n) (length o.nodes)
lines_cost o (f ∷ facts) fits =
    let c : ℕ → ℕ = λ n. slice_index (costs_of o) n in
    let k = length o.nodes in
    let rest = lines_cost o facts (All-tail (λ g. FitsOutline (shape_of o) g) f facts fits) in
    let here = one_line o f (All-head (λ g. FitsOutline (shape_of o) g) f facts fits) in
    let first : most_cost o (f ∷ facts) ≡ line_cost (costs_of o) f + most_cost o facts = sum_by-cons (λ g. line_cost (costs_of o) g) f facts in
    let each : sum_below (λ n. c n * most_of n (f ∷ facts)) k ≡ sum_below (λ n. c n * line_most n f + c n * most_of n facts) k =
    sum_same (λ n. c n * most_of n (f ∷ facts)) (λ n. c n * line_most n f + c n * most_of n facts) k
    (λ n less. ap (λ (m : ℕ). c n * m) (sum_by-cons (λ g. line_most n g) f facts) ∙ times_both (c n) (line_most n f) (most_of n facts)) in
    let both : sum_below (λ n. c n * line_most n f + c n * most_of n facts) k ≡ sum_below (λ n. c n * line_most n f) k + sum_below (λ n. c n * most_of n facts) k =
    sum_both (λ n. c n * line_most n f) (λ n. c n * most_of n facts) k in
    omega (arith, rest, here, first, each, both)
  where
    times_both : (a b d : ℕ) → a * (b + d) ≡ a * b + a * d
    times_both a b d = omega arith

-- ---- runs

-- a node is visited no more often than its lines allow
visits_within : (o : Outlined) (facts : List Fact) (trace : List ℕ) (n : ℕ) → All (Meets (shape_of o) trace) facts
    → count_by (λ f. tells_total n f) facts ≡ 1 → visits n trace ≤ most_of n facts
visits_within o facts trace n met once =
    let line = some_passes (λ f. tells_total n f) facts (omega (arith, once)) in
    let at = get_or-le-sum_by (λ f. line_most n f) facts line.there.0 line.it line.there.1 in
    let same : line_most n (get_or facts line.there.0 line.it) ≡ line_most n line.it = ap (λ (f : Fact). line_most n f) line.there.2 in
    let most : line_most n line.it ≤ most_of n facts = omega (arith, at, same) in
    let low = by line.it line.passes (All-contains (Meets (shape_of o) trace) facts line.it met line.there) in
    let turned = places_are_visits n trace in
    omega (arith, most, low, turned)
  where
    by : (f : Fact) → tells_total n f ≡ true → Meets (shape_of o) trace f → places n trace ≤ line_most n f
    by (Loop s low high) is meets = absurd (let bad : false ≡ true = is in cc)
    by (Count s m low high) is meets = absurd (let bad : false ≡ true = is in cc)
    by (Dead m) is meets =
        let none = subst (λ (k : ℕ). places k trace ≡ 0) (sym (eqb-true n m is)) meets in
        omega (arith, none)
    by (Total m low high) is meets =
        let hit : cond (n == m) high 0 ≡ high = ap (λ (v : Bool). cond v high 0) is in
        let within = subst (λ (k : ℕ). places k trace ≤ high) (sym (eqb-true n m is)) meets.1 in
        omega (arith, hit, within)
    by (Pair s a b) is meets = absurd (let bad : false ≡ true = is in cc)
    by (Alarm m fault) is meets = absurd (let bad : false ≡ true = is in cc)

-- a run that was collected and meets the facts costs no more than all lines allow
pub cost_within : (o : Outlined) (found : Found) (past : List ℕ) (facts : List Fact) → SummedUp o found past
    → FitOutline (shape_of o) facts
    → ((n : ℕ) → n < length o.nodes → count_by (λ f. tells_total n f) facts ≡ 1) → All (Meets (shape_of o) (reverse past)) facts
    → run_cost (costs_of o) (reverse past) ≤ most_cost o facts
cost_within o found past facts run fits once met =
    let c : ℕ → ℕ = λ n. slice_index (costs_of o) n in
    let cost = cost_is (costs_of o) (reverse past) (length o.nodes) (node_low o found past run) in
    let rises = sum_rises (λ n. c n * visits n (reverse past)) (λ n. c n * most_of n facts) (length o.nodes)
    (λ n low. mul-le (c n) (visits n (reverse past)) (c n) (most_of n facts) (omega arith) (visits_within o facts (reverse past) n met (once n low))) in
    let lines = lines_cost o facts fits in
    omega (arith, cost, rises, lines)
