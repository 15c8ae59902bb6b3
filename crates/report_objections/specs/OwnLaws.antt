-- Nothing speaks against a report that an exploration itself tells, with its own events and multipliers that hold.
--   with_certificate report bound cert   the report with this path bound and this certificate
--   AreHeld o facts cert v   there is a multiplier for each row, and the test of them answers this value
--   own_shaped, found_none   why
--   own_accepted             so the answer is that nothing speaks against it
use Rattle.std.proofs.Common.{◌≡◌, ◌<◌, ◌≤◌, ◌+◌, ◌*◌, ◌-◌, ◌^◌, ◌==◌, ◌&&◌, ◌||◌, not, ℕ, zero, suc, List, [], ◌∷◌, Bool, true, false, cond, Option, Some, None, length, get_or, AllPairs, Contains, refl, sym, ap, ◌∙◌, subst, arith}
use Rattle.std.specs.Prelude.{nat_lt, slice_index, count_by, sum_by}
use Rattle.std.specs.List.{list_any}
use Rattle.std.specs.Option.{option_map, option_map_or}
use Rattle.std.proofs.lemmas.Bool.{le-ltb, eq-eqb, eqb-true}
use Rattle.std.proofs.lemmas.Nat.{mul-le}
use Rattle.std.proofs.lemmas.Option.{same_Some}
use Rattle.std.proofs.lemmas.List.Folds.{list_any_at}
use Rattle.std.proofs.lemmas.List.Sums.{sum_by-cons}
use Rattle.lists.specs.MemberLaws.{no_member, first_member, further_member, first_or_further}
use Rattle.lists.specs.TestLaws.{by_test}
use Rattle.alf_ops.specs.declared.history.RunFault.{RunFault}
use Rattle.domain_core.specs.declared.event.Event.{Event}
use Rattle.domain_core.specs.declared.fault_set.FaultSet.{FaultSet}
use Rattle.domain_core.specs.FaultSets.{has_fault}
use Rattle.domain_core.specs.Orders.{Order}
use Rattle.domain_core.specs.Outlines.{Outlined, shape_of}
use Rattle.domain_core.specs.Machines.{Machine}
use Rattle.flow_facts.specs.declared.fact.Fact.{Fact}
use Rattle.flow_facts.specs.declared.fact.Fact.TheVariants.{Loop, Count, Dead, Total, Pair, Alarm}
use Rattle.flow_facts.specs.declared.report.BoundWord.{BoundWord}
use Rattle.flow_facts.specs.Reports.{Certificate, Reported}
use Rattle.flow_facts.specs.Writable.{IsBefore, fault_code}
use Rattle.flow_facts.specs.OrderLaws.{never_itself}
use Rattle.ipet_rows.specs.Shaped.{FitOutline}
use Rattle.ipet_rows.specs.declared.verdict.Verdict.{Verdict}
use Rattle.ipet_rows.specs.declared.verdict.Verdict.TheVariants as verdicts
use Rattle.ipet_rows.specs.Firsts.{first, or_else}
use Rattle.ipet_rows.specs.Verdicts.{verdict}
use Rattle.recorder_rules.specs.TotalRules.{spread_at}
use Rattle.worklist_rules.specs.Pools.{Pooled, alarm_at}
use Rattle.worklist_rules.specs.Events.{opened, HappenAll}
use Rattle.report_soundness.specs.ReportTold.{FourRecorders, FourBooks, four_order, four_recording, Found, found_of, is_stepped, all_faults, told_facts, greatest_total, costs_of, count_bound, told_report}
use Rattle.report_soundness.specs.BoundTold.{HaveTotals}
use Rattle.report_soundness.specs.Lines.{IsLine}
use Rattle.report_soundness.specs.BelowLaws.{sum_rises}
use Rattle.report_soundness.specs.LineLaws.{told_line, line_told}
use Rattle.report_soundness.specs.AscentLaws.{told_ascend}
use Rattle.report_soundness.specs.SoundLaws.{greatest_is}
use Rattle.report_soundness.specs.EventLaws.{events_one_on}
use Rattle.report_objections.specs.declared.objection.Objection.{Objection}
use Rattle.report_objections.specs.declared.objection.Objection.TheVariants as objections
use Rattle.report_objections.specs.Shaping.{rows_of, tells_total, IsShaped}
use Rattle.report_objections.specs.Objecting.{place_of, is_outside, excludes, first_line, fact_objection, is_alarm, lacks, first_lacking, alarm_objection, most_cost, count_objection, path_bound_of, verdict_objection, path_objection, found_objection, left_objection, end_objection}
use Rattle.report_objections.specs.Checks.{IsChecked, applied}
use Rattle.report_objections.specs.CountLaws.{bit, line_most, most_of, lines_cost}

-- the report with this path bound and this certificate
abbrev pub with_certificate : Reported → Option (ℕ × BoundWord) → Certificate → Reported
with_certificate report bound cert = record {
  form = report.form;
  nodes = report.nodes;
  scopes = report.scopes;
  facts = report.facts;
  count_bound = report.count_bound;
  path_bound = bound;
  cert = Some cert;
}

-- there is a multiplier for each row, and the test of them answers this value
pub record AreHeld (o : Outlined) (facts : List Fact) (cert : Certificate) (v : ℕ) : Type 0 where
  pub multipliers : length cert.multipliers ≡ length (rows_of o facts).rows
  pub holds : (bound : ℕ) → v ≤ bound → verdict (rows_of o facts) cert.scale cert.multipliers bound ≡ verdicts.Holds v

-- ---- no answer

first_nowhere : {A : Type 0} (n : ℕ) (f : ℕ → Option A) → ((k : ℕ) → k < n → f k ≡ None) → first n f ≡ None
first_nowhere zero f none = refl
first_nowhere (suc n) f none =
    let before = first_nowhere n f (λ k low. none k (omega arith)) in
    ap (λ (t : Option _). or_else t (f n)) before ∙ none n (omega arith)

place_nowhere : {A : Type 0} (p : A → Bool) (b : ℕ) (xs : List A) → ((x : A) → Contains xs x → p x ≡ false)
    → place_of p b xs ≡ None
place_nowhere p b [] none = refl
place_nowhere p b (x ∷ xs) none =
    ap (λ (v : Bool). cond v (Some b) (place_of p (b + 1) xs)) (none x (first_member x xs))
    ∙ place_nowhere p (b + 1) xs (λ y there. none y (further_member x xs y there))

-- ---- facts

less_never : (n : ℕ) → nat_lt n n ≡ false
less_never n = le-ltb n n (omega arith)

inside_itself : (low high : ℕ) (spread : Option (ℕ × ℕ)) → spread ≡ Some (low, high)
    → is_outside low high spread ≡ false
inside_itself low high spread is =
    ap (λ (t : Option (ℕ × ℕ)). is_outside low high t) is ∙ ap (λ (v : Bool). v || nat_lt high high) (less_never low) ∙ less_never high

line_free : (o : Outlined) (found : Found) (fact : Fact) → IsLine o found fact → excludes found fact ≡ false
line_free o found (Loop s low high) is = inside_itself low high (spread_at found.books.loops.spreads s) is.1.span
line_free o found (Count s n low high) is = inside_itself low high (spread_at found.books.counts.spreads n) is.3.span
line_free o found (Dead n) is = is.1
line_free o found (Total n low high) is = inside_itself low high (spread_at found.books.totals n) is.1.span
line_free o found (Pair s a b) is = is.1.apart.apart
line_free o found (Alarm n fault) is = refl

-- ---- alarms

alarm_itself : (n : ℕ) (fault : RunFault) → is_alarm n fault (Alarm n fault) ≡ true
alarm_itself n fault = ap (λ (v : Bool). v && (fault_code fault == fault_code fault)) (eq-eqb n n refl) ∙ eq-eqb (fault_code fault) (fault_code fault) refl

has_line : (facts : List Fact) (n : ℕ) (fault : RunFault) → Contains facts (Alarm n fault)
    → list_any (λ f. is_alarm n fault f) facts ≡ true
has_line facts n fault there = list_any_at (λ f. is_alarm n fault f) facts there.0 (Alarm n fault) there.1 (ap (λ (f : Fact). is_alarm n fault f) there.2 ∙ alarm_itself n fault)

not_lacking : (facts : List Fact) (set : FaultSet) (n : ℕ) (fault : RunFault)
    → (has_fault set fault ≡ true → Contains facts (Alarm n fault)) → lacks facts set n fault ≡ false
not_lacking facts set n fault there =
    by_test (has_fault set fault)
    (λ is. ap (λ (v : Bool). has_fault set fault && not v) (has_line facts n fault (there is)) ∙ none_and (has_fault set fault))
    (λ is. ap (λ (v : Bool). v && not (list_any (λ f. is_alarm n fault f) facts)) is)
  where
    none_and : (v : Bool) → (v && false) ≡ false
    none_and true = refl
    none_and false = refl

lacking_nowhere : (facts : List Fact) (set : FaultSet) (n : ℕ) (faults : List RunFault)
    → ((fault : RunFault) → has_fault set fault ≡ true → Contains facts (Alarm n fault))
    → first_lacking facts set n faults ≡ None
lacking_nowhere facts set n [] there = refl
lacking_nowhere facts set n (fault ∷ more) there =
    ap (λ (v : Bool). cond v (Some (objections.NoAlarm n fault)) (first_lacking facts set n more)) (not_lacking facts set n fault (there fault))
    ∙ lacking_nowhere facts set n more there

-- ---- one line for each node

none_pass : {A : Type 0} (p : A → Bool) (xs : List A) → ((x : A) → Contains xs x → p x ≡ false) → count_by p xs ≡ 0
none_pass p [] none = refl
none_pass p (x ∷ xs) none =
    let all : count_by p (x ∷ xs) ≡ bit (p x) + count_by p xs = sum_by-cons (λ y. bit (p y)) x xs in
    let here : bit (p x) ≡ 0 = ap (λ (v : Bool). bit v) (none x (first_member x xs)) in
    let rest = none_pass p xs (λ y there. none y (further_member x xs y there)) in
    omega (arith, all, here, rest)

-- of facts that ascend one passes where just one does
one_passes : (p : Fact → Bool) (facts : List Fact) → AllPairs IsBefore facts → (f : Fact) → Contains facts f
    → p f ≡ true → ((g : Fact) → Contains facts g → p g ≡ true → g ≡ f) → count_by p facts ≡ 1
one_passes p [] up f there is only = no_member f there
one_passes p (x ∷ xs) up f there is only =
    let all : count_by p (x ∷ xs) ≡ bit (p x) + count_by p xs = sum_by-cons (λ y. bit (p y)) x xs in
    by_test (p x)
    (λ hit.
    let here : bit (p x) ≡ 1 = ap (λ (v : Bool). bit v) hit in
    let first : x ≡ f = only x (first_member x xs) hit in
    let rest = none_pass p xs (λ y further. by_test (p y)
    (λ again.
    let same : y ≡ x = only y (further_member x xs y further) again ∙ sym first in
    let before : IsBefore x (get_or xs further.0 y) = up 0 (suc further.0) y (omega arith) (let low = further.1 in omega (arith, low)) in
    let itself : IsBefore x x = subst (λ (z : Fact). IsBefore x z) (further.2 ∙ same) before in
    absurd (never_itself x itself))
    (λ other. other)) in
    omega (arith, all, here, rest))
    (λ miss.
    let here : bit (p x) ≡ 0 = ap (λ (v : Bool). bit v) miss in
    let later : Contains xs f = first_or_further x xs f there (λ same. absurd (let bad : true ≡ false = sym is ∙ ap p (sym same) ∙ miss in cc)) (λ further. further) in
    let rest = one_passes p xs (λ i j d less low. up (suc i) (suc j) d (omega (arith, less)) (omega (arith, low))) f later is (λ g among. only g (further_member x xs g among)) in
    omega (arith, all, here, rest))

module _ (o : Outlined) (found : Found) (totals : HaveTotals o found) (fit : FitOutline (shape_of o) (told_facts o found)) where
  -- the total of a node is that of its line
  only_total : (n : ℕ) (g : Fact) → Contains (told_facts o found) g → tells_total n g ≡ true → is_stepped found n ≡ true
      → (low high : ℕ) → spread_at found.books.totals n ≡ Some (low, high) → g ≡ Total n low high
  only_total n (Loop s a b) there is stepped low high span = absurd (let bad : false ≡ true = is in cc)
  only_total n (Count s m a b) there is stepped low high span = absurd (let bad : false ≡ true = is in cc)
  only_total n (Dead m) there is stepped low high span =
      let same : n ≡ m = eqb-true n m is in
      let line = told_line o found (Dead m) there in
      let never : is_stepped found n ≡ false = subst (λ (k : ℕ). is_stepped found k ≡ false) (sym same) line.1 in
      absurd (let bad : true ≡ false = sym stepped ∙ never in cc)
  only_total n (Total m a b) there is stepped low high span =
      let same : n ≡ m = eqb-true n m is in
      let line = told_line o found (Total m a b) there in
      let mine : spread_at found.books.totals n ≡ Some (a, b) = subst (λ (k : ℕ). spread_at found.books.totals k ≡ Some (a, b)) (sym same) line.1.span in
      let pair : (a, b) ≡ (low, high) = same_Some (a, b) (low, high) (sym mine ∙ span) in
      ap (λ (k : ℕ). Total k a b) (sym same) ∙ ap (λ (s : ℕ × ℕ). Total n s.0 s.1) pair
  only_total n (Pair s a b) there is stepped low high span = absurd (let bad : false ≡ true = is in cc)
  only_total n (Alarm m fault) there is stepped low high span = absurd (let bad : false ≡ true = is in cc)

  only_dead : (n : ℕ) (g : Fact) → Contains (told_facts o found) g → tells_total n g ≡ true → is_stepped found n ≡ false
      → g ≡ Dead n
  only_dead n (Loop s a b) there is never = absurd (let bad : false ≡ true = is in cc)
  only_dead n (Count s m a b) there is never = absurd (let bad : false ≡ true = is in cc)
  only_dead n (Dead m) there is never = ap (λ (k : ℕ). Dead k) (sym (eqb-true n m is))
  only_dead n (Total m a b) there is never =
      let line = told_line o found (Total m a b) there in
      let stepped : is_stepped found n ≡ true = subst (λ (k : ℕ). is_stepped found k ≡ true) (sym (eqb-true n m is)) line.0 in
      absurd (let bad : true ≡ false = sym stepped ∙ never in cc)
  only_dead n (Pair s a b) there is never = absurd (let bad : false ≡ true = is in cc)
  only_dead n (Alarm m fault) there is never = absurd (let bad : false ≡ true = is in cc)

  -- each node has one line
  once_told : (n : ℕ) → n < length o.nodes → count_by (λ f. tells_total n f) (told_facts o found) ≡ 1
  once_told n low =
      by_test (is_stepped found n)
      (λ stepped.
      let total = totals n low stepped in
      let line = Total n total.low total.high in
      one_passes (λ f. tells_total n f) (told_facts o found) (told_ascend o found) line (line_told o found line (stepped, record { there = low; span = total.span })) (eq-eqb n n refl)
      (λ g there is. only_total n g there is stepped total.low total.high total.span))
      (λ never.
      one_passes (λ f. tells_total n f) (told_facts o found) (told_ascend o found) (Dead n) (line_told o found (Dead n) (low, never)) (eq-eqb n n refl)
      (λ g there is. only_dead n g there is never))

  pub own_shaped : (bound : Option (ℕ × BoundWord)) (cert : Certificate)
      → IsShaped o (with_certificate (told_report o found) bound cert)
  own_shaped bound cert = record { nodes = refl; scopes = refl; facts = fit; totals = once_told }

  -- ---- the count bound

  sum_at_most : (p : Fact → Bool) (g : Fact → ℕ) (h : ℕ) (facts : List Fact)
      → ((f : Fact) → Contains facts f → g f ≤ cond (p f) h 0) → sum_by g facts ≤ count_by p facts * h
  sum_at_most p g h [] each = omega arith
  sum_at_most p g h (f ∷ facts) each =
      let all : count_by p (f ∷ facts) ≡ bit (p f) + count_by p facts = sum_by-cons (λ y. bit (p y)) f facts in
      let sums : sum_by g (f ∷ facts) ≡ g f + sum_by g facts = sum_by-cons g f facts in
      let rest = sum_at_most p g h facts (λ x there. each x (further_member f facts x there)) in
      let here = each f (first_member f facts) in
      let one : cond (p f) h 0 ≡ bit (p f) * h = times_here (p f) in
      let both : (bit (p f) + count_by p facts) * h ≡ bit (p f) * h + count_by p facts * h = times_both (bit (p f)) (count_by p facts) in
      let whole : count_by p (f ∷ facts) * h ≡ (bit (p f) + count_by p facts) * h = ap (λ (k : ℕ). k * h) all in
      omega (arith, sums, rest, here, one, both, whole)
    where
      times_here : (v : Bool) → cond v h 0 ≡ bit v * h
      times_here true = omega arith
      times_here false = omega arith

      times_both : (a b : ℕ) → (a + b) * h ≡ a * h + b * h
      times_both a b = omega arith

  most_low : (n : ℕ) → n < length o.nodes → most_of n (told_facts o found) ≤ greatest_total found n
  most_low n low =
      let h = greatest_total found n in
      let most = sum_at_most (λ f. tells_total n f) (λ f. line_most n f) h (told_facts o found) each in
      let once = once_told n low in
      let one : count_by (λ f. tells_total n f) (told_facts o found) * h ≡ 1 * h = ap (λ (k : ℕ). k * h) once in
      omega (arith, most, one)
    where
      each : (f : Fact) → Contains (told_facts o found) f
          → line_most n f ≤ cond (tells_total n f) (greatest_total found n) 0
      each (Loop s a b) there = omega arith
      each (Count s m a b) there = omega arith
      each (Dead m) there = omega arith
      each (Total m a b) there =
          by_test (n == m)
          (λ hit.
          let same : n ≡ m = eqb-true n m hit in
          let line = told_line o found (Total m a b) there in
          let greatest : greatest_total found n ≡ b =
          greatest_is (is_stepped found n) (spread_at found.books.totals n) (a, b) (subst (λ (k : ℕ). is_stepped found k ≡ true) (sym same) line.0)
          (subst (λ (k : ℕ). spread_at found.books.totals k ≡ Some (a, b)) (sym same) line.1.span) in
          let left : cond (n == m) b 0 ≡ b = ap (λ (v : Bool). cond v b 0) hit in
          let right : cond (n == m) (greatest_total found n) 0 ≡ greatest_total found n = ap (λ (v : Bool). cond v (greatest_total found n) 0) hit in
          omega (arith, greatest, left, right))
          (λ miss.
          let left : cond (n == m) b 0 ≡ 0 = ap (λ (v : Bool). cond v b 0) miss in
          omega (arith, left))
      each (Pair s a b) there = omega arith
      each (Alarm m fault) there = omega arith

  most_within : most_cost o (told_facts o found) ≤ count_bound o found
  most_within =
      let c : ℕ → ℕ = λ n. slice_index (costs_of o) n in
      let lines = lines_cost o (told_facts o found) fit in
      let rises = sum_rises (λ n. c n * most_of n (told_facts o found)) (λ n. c n * greatest_total found n) (length o.nodes)
      (λ n low. mul-le (c n) (most_of n (told_facts o found)) (c n) (greatest_total found n) (omega arith) (most_low n low)) in
      omega (arith, lines, rises)

  -- ---- all

  module _ (bound : Option (ℕ × BoundWord)) (cert : Certificate) (v : ℕ) (held : AreHeld o (told_facts o found) cert v) (within : v ≤ option_map_or (λ b. b.0) bound (2 ^ 64 - 1)) where
    abbrev own : Reported
    own = with_certificate (told_report o found) bound cert

    no_alarm_objection : alarm_objection o found own.facts ≡ None
    no_alarm_objection = first_nowhere (length o.nodes) (λ n. first_lacking own.facts (alarm_at found.alarms n) n all_faults)
        (λ n low. lacking_nowhere own.facts (alarm_at found.alarms n) n all_faults (λ fault told. line_told o found (Alarm n fault) (low, told)))

    no_fact_objection : fact_objection found own ≡ None
    no_fact_objection = ap (λ (t : Option ℕ). option_map (λ line. objections.NoFact line) t)
        (place_nowhere (λ f. excludes found f) (first_line own) own.facts (λ f there. line_free o found f (told_line o found f there)))

    no_count_objection : count_objection o own ≡ None
    no_count_objection = ap (λ (u : Bool). cond u (Some objections.NoCountBound) None) (le-ltb own.count_bound (most_cost o own.facts) most_within)

    no_path_objection : path_objection o own cert ≡ None
    no_path_objection = ap (λ (u : Verdict). verdict_objection u) (held.holds (path_bound_of own) within)

    pub found_none : found_objection o found own cert ≡ None
    found_none =
        ap (λ (t : Option Objection). or_else t (or_else (fact_objection found own) (or_else (count_objection o own) (path_objection o own cert)))) no_alarm_objection
        ∙ ap (λ (t : Option Objection). or_else t (or_else (count_objection o own) (path_objection o own cert))) no_fact_objection
        ∙ ap (λ (t : Option Objection). or_else t (path_objection o own cert)) no_count_objection
        ∙ no_path_objection

-- nothing speaks against a report that an exploration itself tells
pub own_accepted : {S T C : Type 0} (machine : S → Machine T C) (states : Order T) (events : List Event) (stepper : S) (o : Outlined) (w : Pooled S T FourRecorders FourBooks)
    → HappenAll machine states four_order four_recording (opened machine four_recording stepper o) events w → w.spots ≡ [] → HaveTotals o (found_of w) → FitOutline (shape_of o) (told_facts o (found_of w))
    → (bound : Option (ℕ × BoundWord)) (cert : Certificate) (v : ℕ) → cert.events ≡ events → AreHeld o (told_facts o (found_of w)) cert v → v ≤ option_map_or (λ b. b.0) bound (2 ^ 64 - 1)
    → IsChecked machine states stepper o (with_certificate (told_report o (found_of w)) bound cert) None
own_accepted machine states events stepper o w happen empty totals fit bound cert v own_events held within =
    let report = with_certificate (told_report o (found_of w)) bound cert in
    let same = events_one_on machine states events (opened machine four_recording stepper o) w happen in
    let here : end_objection w report cert ≡ None =
    ap (λ (spots : List _). or_else (left_objection w.outline spots) (found_objection w.outline (found_of w) report cert)) empty
    ∙ ap (λ (p : Outlined). found_objection p (found_of w) report cert) same.outline
    ∙ found_none o (found_of w) totals fit bound cert v held within in
    applied cert w refl (record { shaped = own_shaped o (found_of w) totals fit bound cert; multipliers = held.multipliers })
    (subst (λ (es : List Event). HappenAll machine states four_order four_recording (opened machine four_recording stepper o) es w) (sym own_events) happen) (sym here)
