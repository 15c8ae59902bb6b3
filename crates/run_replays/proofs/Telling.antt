-- What is told of a run that is over, from what its books tell.
--   Placed p b xs line      the line is that of the first member that passes, the first member having the number b
--   placed, none_placed     where a place is found, and where none is
--   tells_unmet, tells_met  what is told of a line that is not met, and of lines that are all met
--   told_lacking, told_alarmed   what is told of a fault without an alarm, and of one that has it
use Rattle.std.proofs.Common.{◌≡◌, ◌<◌, ◌≤◌, ◌+◌, ℕ, zero, suc, List, [], ◌∷◌, ◌++◌, Bool, true, false, cond, Option, Some, None, Result, Ok, Err, length, reverse, take, slice_get, All, Contains, refl, sym, ap, ◌∙◌, subst, arith}
use Rattle.std.proofs.lemmas.List.{reverse-append}
use Rattle.std.proofs.lemmas.List.Elements.{All-contains}
use Rattle.lists.specs.MemberLaws.{no_member, first_member, further_member, first_or_further, all_members}
use Rattle.lists.specs.TestLaws.{by_test}
use Rattle.alf_ops.specs.declared.history.RunFault.{RunFault}
use Rattle.domain_core.specs.Outlines.{Outlined, Shape, shape_of}
use Rattle.flow_facts.specs.declared.fact.Fact.{Fact}
use Rattle.flow_facts.specs.Facts.{Meets}
use Rattle.flow_facts.specs.Reports.{Reported}
use Rattle.ipet_rows.specs.Shaped.{FitsOutline, FitOutline}
use Rattle.ipet_rows.specs.Uses.{run_cost}
use Rattle.report_soundness.specs.BookTold.{Books}
use Rattle.report_soundness.specs.ReportTold.{costs_of}
use Rattle.report_soundness.specs.Runs.{HasAlarm}
use Rattle.report_objections.specs.declared.objection.Objection.{Objection}
use Rattle.report_objections.specs.declared.objection.Objection.TheVariants.{NoFact}
use Rattle.report_objections.specs.Objecting.{place_of, first_line}
use Rattle.run_replays.specs.Replays.{Told, Asks, objects, passes, LacksAlarm, IsUnmet, TellBounds, TellFacts, TellEnd}
use Rattle.run_replays.specs.Tests.{breaks}
use Rattle.run_replays.proofs.BookRuns.{HasRun, unbroken_is_met, met_is_unbroken}

-- the line is that of the first member that passes
pub record Placed {A : Type 0} (p : A → Bool) (b : ℕ) (xs : List A) (line : ℕ) : Type 0 where
  pub place : ℕ
  pub member : A
  pub there : slice_get xs place ≡ Some member
  pub passes : p member ≡ true
  pub before : (y : A) → Contains (take place xs) y → p y ≡ false
  pub is : line ≡ b + place

pub placed : {A : Type 0} (p : A → Bool) (b : ℕ) (xs : List A) (line : ℕ) → place_of p b xs ≡ Some line
    → Placed p b xs line
placed p b [] line is = absurd (let bad : None ≡ Some line = is in cc)
placed {A} p b (x ∷ xs) line is =
    by_test (p x)
    (λ hit.
    let same : Some b ≡ Some line = sym (ap (λ (v : Bool). cond v (Some b) (place_of p (b + 1) xs)) hit) ∙ is in
    let one : b ≡ line = cc in
    record { place = 0; member = x; there = refl; passes = hit; before = λ y there. no_member y there; is = sym one ∙ no_more b })
    (λ miss.
    let later : place_of p (b + 1) xs ≡ Some line = sym (ap (λ (v : Bool). cond v (Some b) (place_of p (b + 1) xs)) miss) ∙ is in
    let rest = placed p (b + 1) xs line later in
    record {
      place = suc rest.place;
      member = rest.member;
      there = rest.there;
      passes = rest.passes;
      before = λ y there. first_or_further x (take rest.place xs) y there (λ same. subst (λ (z : A). p z ≡ false) same miss) (λ further. rest.before y further);
      is = let is_later = rest.is in omega (arith, is_later);
    })
  where
    no_more : (k : ℕ) → k ≡ k + 0
    no_more k = omega arith

pub none_placed : {A : Type 0} (p : A → Bool) (b : ℕ) (xs : List A) → place_of p b xs ≡ None → (x : A) → Contains xs x
    → p x ≡ false
none_placed p b [] none x there = no_member x there
none_placed {A} p b (y ∷ xs) none x there =
    by_test (p y)
    (λ is. absurd (let bad : Some b ≡ None = sym (ap (λ (v : Bool). cond v (Some b) (place_of p (b + 1) xs)) is) ∙ none in cc))
    (λ is.
    let later : place_of p (b + 1) xs ≡ None = sym (ap (λ (v : Bool). cond v (Some b) (place_of p (b + 1) xs)) is) ∙ none in
    first_or_further y xs x there (λ same. subst (λ (z : A). p z ≡ false) same is) (λ further. none_placed p (b + 1) xs later x further))

-- what is before a place is among all
among_all : {A : Type 0} (xs : List A) (i : ℕ) (x : A) → Contains (take i xs) x → Contains xs x
among_all [] zero x there = no_member x there
among_all [] (suc i) x there = no_member x there
among_all (y ∷ xs) zero x there = no_member x there
among_all (y ∷ xs) (suc i) x there = first_or_further y (take i xs) x there (λ same. subst (λ (z : _). Contains (y ∷ xs) z) same (first_member y xs)) (λ further. further_member y xs x (among_all xs i x further))

among_at : {A : Type 0} (xs : List A) (i : ℕ) (x : A) → slice_get xs i ≡ Some x → Contains xs x
among_at [] i x is = absurd (let bad : None ≡ Some x = is in cc)
among_at (y ∷ xs) zero x is = let same : y ≡ x = cc in subst (λ (z : _). Contains (y ∷ xs) z) same (first_member y xs)
among_at (y ∷ xs) (suc i) x is = further_member y xs x (among_at xs i x is)

module _ (o : Outlined) (report : Reported) (books : Books) (past : List ℕ) (run : HasRun o books past) (fit : FitOutline (shape_of o) report.facts) where
  fits : (f : Fact) → Contains report.facts f → FitsOutline (shape_of o) f
  fits f there = All-contains (λ g. FitsOutline (shape_of o) g) report.facts f fit there

  -- the line of the first that the books break is told
  pub tells_unmet : (line : ℕ) → place_of (λ f. breaks books f) (first_line report) report.facts ≡ Some line
      → TellFacts (shape_of o) (costs_of o) report (reverse past) (Err (NoFact line))
  tells_unmet line is =
      let found = placed (λ f. breaks books f) (first_line report) report.facts line is in
      let among = among_at report.facts found.place found.member found.there in
      objects (NoFact line) (record {
        place = found.place;
        fact = found.member;
        there = found.there;
        before = all_members (Meets (shape_of o) (reverse past)) (take found.place report.facts)
            (λ f there. unbroken_is_met o books past run f (fits f (among_all report.facts found.place f there)) (found.before f there));
        unmet = λ meets. let bad : true ≡ false = sym found.passes ∙ met_is_unbroken o books past run found.member (fits found.member among) meets in cc;
        is = ap (λ (k : ℕ). NoFact k) found.is;
      }) refl

  -- where they break none, the bounds are asked
  pub tells_met : (told : Told) → place_of (λ f. breaks books f) (first_line report) report.facts ≡ None
      → TellBounds report (run_cost (costs_of o) (reverse past)) told
      → TellFacts (shape_of o) (costs_of o) report (reverse past) told
  tells_met told none bounds =
      passes (all_members (Meets (shape_of o) (reverse past)) report.facts
      (λ f there. unbroken_is_met o books past run f (fits f there) (none_placed (λ g. breaks books g) (first_line report) report.facts none f there))) bounds

  -- the same, where the lines and the number of the first one are told apart
  pub unmet_told : (facts : List Fact) (first line : ℕ) → facts ≡ report.facts → first ≡ first_line report
      → Some line ≡ place_of (λ f. breaks books f) first facts
      → TellFacts (shape_of o) (costs_of o) report (reverse past) (Err (NoFact line))
  unmet_told facts first line same start is =
      tells_unmet line (sym (is ∙ ap (λ (fs : List Fact). place_of (λ f. breaks books f) first fs) same ∙ ap (λ (b : ℕ). place_of (λ f. breaks books f) b report.facts) start))

  pub met_told : (facts : List Fact) (first cost : ℕ) (told : Told) → facts ≡ report.facts → first ≡ first_line report
      → None ≡ place_of (λ f. breaks books f) first facts
      → cost ≡ run_cost (costs_of o) (reverse past) → TellBounds report cost told → TellFacts (shape_of o) (costs_of o) report (reverse past) told
  met_told facts first cost told same start is spent bounds =
      tells_met told (sym (is ∙ ap (λ (fs : List Fact). place_of (λ f. breaks books f) first fs) same ∙ ap (λ (b : ℕ). place_of (λ f. breaks books f) b report.facts) start))
      (subst (λ (c : ℕ). TellBounds report c told) spent bounds)

-- ---- alarms

module _ (o : Shape) (costs : List ℕ) (report : Reported) (facts : List Fact) (same : facts ≡ report.facts) (past : List ℕ) (last : ℕ) (fault : Option RunFault) where
  in_order : reverse (last ∷ past) ≡ reverse past ++ last ∷ []
  in_order = reverse-append (last ∷ []) past

  -- a fault without an alarm is told
  pub told_lacking : (e : Objection) → ((before : List ℕ) → LacksAlarm facts (before ++ last ∷ []) fault e)
      → TellEnd o costs report (reverse (last ∷ past)) fault (Err e)
  told_lacking e lacks =
      objects e (subst (λ (trace : List ℕ). LacksAlarm report.facts trace fault e) (sym in_order)
      (subst (λ (fs : List Fact). LacksAlarm fs (reverse past ++ last ∷ []) fault e) same (lacks (reverse past)))) refl

  -- and where none lacks one, the lines are asked
  pub told_alarmed : (told : Told) → ((before : List ℕ) → HasAlarm facts (before ++ last ∷ []) fault)
      → TellFacts o costs report (reverse (last ∷ past)) told
      → TellEnd o costs report (reverse (last ∷ past)) fault told
  told_alarmed told has rest =
      passes (subst (λ (trace : List ℕ). HasAlarm report.facts trace fault) (sym in_order)
      (subst (λ (fs : List Fact). HasAlarm fs (reverse past ++ last ∷ []) fault) same (has (reverse past)))) rest
