-- What a book of pairs tells of a run that was collected.
--   pair_found         two nodes of one scope that stand in one iteration of it are a pair of the book
--   pair_is_of         of one run alone each pair is of two nodes of one scope that stand in one iteration of it
--   never_together     so where a book that has the run does not have a pair, no iteration has both
use Rattle.std.proofs.Common.{◌≡◌, ℕ, ◌<◌, List, [], ◌∷◌, length, reverse, Contains, true, false, ◌==◌, inl, inr, sym, ap, ◌∙◌, subst}
use Rattle.std.proofs.lemmas.Bool.{or_cases, or_left, or_right, and_parts, eqb-true, eq-eqb}
use Rattle.std.proofs.lemmas.List.{reverse-reverse}
use Rattle.lists.specs.MemberLaws.{no_member, first_member, further_member, first_or_further}
use Rattle.domain_core.specs.Outlines.{Outlined, Shape, shape_of, IsOutline}
use Rattle.domain_core.specs.OutlineLaws.{in_reverse}
use Rattle.domain_core.specs.Executions.{IsIteration, iterations}
use Rattle.domain_core.specs.IterationLaws.{found_iteration, iteration_found}
use Rattle.recorder_rules.specs.LoopRules.{own_of}
use Rattle.recorder_rules.specs.Tables.{cell}
use Rattle.recorder_rules.specs.PairRules.{has, follows, any_follows, PairBook, is_shared, whole, together, AreExactPairs, pair_recording}
use Rattle.recorder_rules.specs.PairStepLaws.{follows_has, follows_later, has_follows}
use Rattle.recorder_rules.specs.PairLaws.{same_own}

-- the test for a member is right
pub has_member : (a : ℕ) (e : List ℕ) → Contains e a → has a e ≡ true
has_member a [] there = no_member a there
has_member a (n ∷ e) there =
    first_or_further n e a there (λ same. or_left (a == n) (has a e) (eq-eqb a n (sym same))) (λ older. or_right (a == n) (has a e) (has_member a e older))

pub member_had : (a : ℕ) (e : List ℕ) → has a e ≡ true → Contains e a
member_had a [] is = absurd (let bad : false ≡ true = is in cc)
member_had a (n ∷ e) is =
    elim (or_cases (a == n) (has a e) is) [
      | inl same ↦ subst (λ (m : ℕ). Contains (n ∷ e) m) (sym (eqb-true a n same)) (first_member n e)
      | inr older ↦ further_member n e a (member_had a e older)
    ]

-- a pair of one of the iterations is among those of all
any_member : (a c : ℕ) (es : List (List ℕ)) (e : List ℕ) → Contains es e → follows a c e ≡ true
    → any_follows a c es ≡ true
any_member a c [] e there is = no_member e there
any_member a c (x ∷ es) e there is =
    first_or_further x es e there
    (λ same. or_right (any_follows a c es) (follows a c x) (ap (λ (xs : List ℕ). follows a c xs) same ∙ is))
    (λ older. or_left (any_follows a c es) (follows a c x) (any_member a c es e older is))

member_any : (a c : ℕ) (es : List (List ℕ)) → any_follows a c es ≡ true
    → (e : List ℕ) × Contains es e × (follows a c e ≡ true)
member_any a c [] is = absurd (let bad : false ≡ true = is in cc)
member_any a c (x ∷ es) is =
    elim (or_cases (any_follows a c es) (follows a c x) is) [
      | inl older ↦ let found = member_any a c es older in (found.0, further_member x es found.0 found.1, found.2)
      | inr here ↦ (x, first_member x es, here)
    ]

-- an iteration of the own scope of two nodes that has both
pub record Meeting (o : Shape) (past : List ℕ) (a c : ℕ) : Type 0 where
  pub shared : own_of o a ≡ own_of o c
  pub iteration : List ℕ
  pub is : IsIteration o (own_of o a) (reverse past) iteration
  pub first : Contains iteration a
  pub second : Contains iteration c

module _ (o : Outlined) (ok : IsOutline (shape_of o)) (b : PairBook) (past : List ℕ) where
  -- two nodes that meet in an iteration are a pair of the book
  pub pair_found : (a c : ℕ) → pair_recording.sums_up o b past → a < length o.nodes → c < length o.nodes
      → Meeting (shape_of o) past a c → together b a c ≡ true
  pair_found a c summed low within met =
      let turned : reverse (reverse met.iteration) ≡ met.iteration = reverse-reverse met.iteration in
      let found = iteration_found (shape_of o) ok (own_of (shape_of o) a) past (reverse met.iteration)
      (subst (λ (xs : List ℕ). IsIteration (shape_of o) (own_of (shape_of o) a) (reverse past) xs) (sym turned) met.is) in
      let first = has_member a (reverse met.iteration) (in_reverse met.iteration a met.first) in
      let second = has_member c (reverse met.iteration) (in_reverse met.iteration c met.second) in
      elim (or_cases (follows a c (reverse met.iteration)) (follows c a (reverse met.iteration)) (has_follows a c (reverse met.iteration) first second)) [
        | inl ahead ↦ or_left (cell b.pairs a c) (cell b.pairs c a)
            (summed.pairs a c low within (eq-eqb (own_of (shape_of o) a) (own_of (shape_of o) c) met.shared)
            (any_member a c (iterations (shape_of o) (own_of (shape_of o) a) past) (reverse met.iteration) found ahead))
        | inr behind ↦ or_right (cell b.pairs a c) (cell b.pairs c a)
            (summed.pairs c a within low (eq-eqb (own_of (shape_of o) c) (own_of (shape_of o) a) (sym met.shared))
            (subst (λ (t : ℕ). any_follows c a (iterations (shape_of o) t past) ≡ true) met.shared
            (any_member c a (iterations (shape_of o) (own_of (shape_of o) a) past) (reverse met.iteration) found behind)))
      ]

  -- where the book does not have them, no iteration has both
  pub never_together : (a c : ℕ) → pair_recording.sums_up o b past → a < length o.nodes → c < length o.nodes
      → together b a c ≡ false → Meeting (shape_of o) past a c → ⊥
  never_together a c summed low within clear met = let bad : true ≡ false = sym (pair_found a c summed low within met) ∙ clear in cc

  -- one way of a pair
  met_by : (a c : ℕ) → AreExactPairs (shape_of o) (length o.nodes) b past → a < length o.nodes → c < length o.nodes
      → cell b.pairs a c ≡ true → Meeting (shape_of o) past a c
  met_by a c exact low within there =
      let both = and_parts (is_shared (shape_of o) a c) (any_follows a c (whole (shape_of o) a past)) (sym (exact a c low within) ∙ there) in
      let found = member_any a c (whole (shape_of o) a past) both.1 in
      record {
        shared = same_own (shape_of o) a c both.0;
        iteration = reverse found.0;
        is = found_iteration (shape_of o) ok (own_of (shape_of o) a) past found.0 found.1;
        first = in_reverse found.0 a (member_had a found.0 (follows_has a c found.0 found.2));
        second = in_reverse found.0 c (member_had c found.0 (follows_later a c found.0 found.2));
      }

  -- of one run alone the nodes of a pair meet in an iteration
  pub pair_is_of : (a c : ℕ) → pair_recording.exact o b past → a < length o.nodes → c < length o.nodes
      → together b a c ≡ true → Meeting (shape_of o) past a c
  pair_is_of a c exact low within there =
      elim (or_cases (cell b.pairs a c) (cell b.pairs c a) there) [
        | inl one ↦ met_by a c exact low within one
        | inr other ↦ let met = met_by c a exact within low other in
            record {
              shared = sym met.shared;
              iteration = met.iteration;
              is = subst (λ (t : ℕ). IsIteration (shape_of o) t (reverse past) met.iteration) met.shared met.is;
              first = met.second;
              second = met.first;
            }
      ]
