-- What is known along a trace is what the definitions say of it.
--   seen_step        what is known one node later
--   all_executions               the test of the executions that are found tells of all of the run
--   all_iterations               and so does that of the iterations
use Rattle.std.proofs.Common.{◌≡◌, ◌+◌, ◌≤◌, ◌==◌, ◌&&◌, ◌||◌, not, ℕ, Bool, true, false, List, [], ◌∷◌, ◌↔◌, cond, Contains, reverse, refl, ap, sym, ◌∙◌, subst, arith}
use Rattle.std.specs.Prelude.{IsTrue, nat_le}
use Rattle.std.specs.List.{list_all}
use Rattle.std.proofs.lemmas.Bool.{leb-true, le-leb, and_parts, and_from, not-true, not_from_false, both_ways, false_from_ne_true}
use Rattle.std.proofs.lemmas.List.{reverse-append, reverse-reverse}
use Rattle.std.proofs.lemmas.List.Sums.{AllPass-from_list_all, list_all-from_AllPass, sum_by-cons, sum_by-append}
use Rattle.lists.specs.MemberLaws.{all_members}
use Rattle.domain_core.specs.Outlines.{Shape, is_held, IsOutline}
use Rattle.domain_core.specs.OutlineLaws.{in_reverse, member_found, found_member}
use Rattle.domain_core.specs.Stretches.{with_closed}
use Rattle.domain_core.specs.Parts.{further}
use Rattle.domain_core.specs.Executions.{IsExecution, IsIteration, is_header, open_execution, closed_executions, executions, open_iteration, closed_iterations, iterations}
use Rattle.domain_core.specs.ExecutionLaws.{found_execution, execution_found}
use Rattle.domain_core.specs.IterationLaws.{found_iteration, iteration_found}
use Rattle.flow_facts.specs.declared.iterations.Seen.{Seen}
use Rattle.flow_facts.specs.Facts.{places, IsBetween}
use Rattle.flow_facts.specs.Walking.{is_some_part, has, fits, are_apart, tally_of, tally_ends, seen_of, seen_after, seen_ends}

-- ---- one node later

-- one more node
places_more : (n m : ℕ) (nodes : List ℕ) → places n (m ∷ nodes) ≡ cond (n == m) (places n nodes + 1) (places n nodes)
places_more n m nodes = sum_by-cons (λ k. cond (n == k) 1 0) m nodes ∙ by (n == m)
  where
    by : (v : Bool) → cond v 1 0 + places n nodes ≡ cond v (places n nodes + 1) (places n nodes)
    by true = omega arith
    by false = omega arith

-- a stretch before others passes where it is none, or passes
all_with_closed : (test : List ℕ → Bool) (part : List ℕ) (others : List (List ℕ))
    → list_all test (with_closed part others) ≡ (not (is_some_part part) || test part) && list_all test others
all_with_closed test [] others = refl
all_with_closed test (n ∷ part) others = refl

-- of an iteration and others none has both nodes
apart_with_closed : (a b : ℕ) (part : List ℕ) (others : List (List ℕ)) → list_all (λ i. are_apart a b i) (with_closed part others) ≡ are_apart a b part && list_all (λ i. are_apart a b i) others
apart_with_closed a b [] others = refl
apart_with_closed a b (n ∷ part) others = refl

one_test : (v : Bool) → v || false ≡ v
one_test true = refl
one_test false = refl

some_further : (m : ℕ) (part : List ℕ) → is_some_part (further m part) ≡ is_some_part part
some_further m [] = refl
some_further m (n ∷ part) = refl

has_further : (a m : ℕ) (part : List ℕ) → has a (further m part) ≡ (is_some_part part && (a == m)) || has a part
has_further a m [] = refl
has_further a m (n ∷ part) = refl

-- what is known where the scope holds the node or does not, and where it is the header or not
seen_at : (a b m : ℕ) (part : List ℕ) (others : List (List ℕ)) (v h : Bool)
    → (let seen : Seen = record {
      inside = is_some_part (cond (v && h) (m ∷ []) (cond (v && not h) (further m part) []));
      first = has a (cond (v && h) (m ∷ []) (cond (v && not h) (further m part) []));
      second = has b (cond (v && h) (m ∷ []) (cond (v && not h) (further m part) []));
      others_apart = list_all (λ i. are_apart a b i) (cond (v && not h) others (with_closed part others));
    } in seen)
    ≡ seen_after v h (a == m) (b == m) (record { inside = is_some_part part; first = has a part; second = has b part; others_apart = list_all (λ i. are_apart a b i) others })
seen_at a b m part others false h =
    let made : Bool → Seen = λ c. record { inside = false; first = false; second = false; others_apart = c } in
    ap made (apart_with_closed a b part others)
seen_at a b m part others true true =
    let made : Bool → Bool → Bool → Seen = λ f s c. record { inside = true; first = f; second = s; others_apart = c } in
    rw (one_test (a == m), one_test (b == m)) (ap (made (a == m) (b == m)) (apart_with_closed a b part others))
seen_at a b m part others true false = rw (some_further m part, has_further a m part, has_further b m part) refl

pub seen_step : (o : Shape) (s a b m : ℕ) (past : List ℕ)
    → seen_of o s a b (m ∷ past) ≡ seen_after (is_held o s m) (is_header o s m) (a == m) (b == m) (seen_of o s a b past)
seen_step o s a b m past = seen_at a b m (open_iteration o s past) (closed_iterations o s past) (is_held o s m) (is_header o s m)

-- ---- all of the run

-- what passes of all members, and of each
each_passes : {A : Type 0} (test : A → Bool) (xs : List A) → list_all test xs ≡ true → (x : A) → Contains xs x
    → test x ≡ true
each_passes test xs all x there = subst (λ y. test y ≡ true) there.2 (AllPass-from_list_all test xs all there.0 x there.1)

all_pass : {A : Type 0} (test : A → Bool) (xs : List A) → ((x : A) → Contains xs x → test x ≡ true)
    → list_all test xs ≡ true
all_pass test xs each = list_all-from_AllPass test xs (all_members (λ x. test x ≡ true) xs each)

-- a list and its reverse have a node as often
places_turned : (n : ℕ) (nodes : List ℕ) → places n (reverse nodes) ≡ places n nodes
places_turned n [] = refl
places_turned n (m ∷ nodes) =
    ap (λ (xs : List ℕ). places n xs) (reverse-append (m ∷ []) nodes)
    ∙ sum_by-append (λ k. cond (n == k) 1 0) (reverse nodes) (m ∷ [])
    ∙ ap (λ (k : ℕ). k + places n (m ∷ [])) (places_turned n nodes)
    ∙ ap (λ (k : ℕ). places n nodes + k) (places_more n m [])
    ∙ by (n == m)
    ∙ sym (places_more n m nodes)
  where
    by : (v : Bool) → places n nodes + cond v (0 + 1) 0 ≡ cond v (places n nodes + 1) (places n nodes)
    by true = omega arith
    by false = omega arith

module _ (o : Shape) (ok : IsOutline o) (s : ℕ) (trace : List ℕ) where
  -- an execution of the run is found, and one that is found is of the run
  turned_in : (execution : List ℕ) → IsExecution o s trace execution
      → Contains (executions o s (reverse trace)) (reverse execution)
  turned_in execution is =
      execution_found o ok s (reverse trace) (reverse execution)
      (subst (λ (xs : List ℕ). IsExecution o s xs (reverse (reverse execution))) (sym (reverse-reverse trace))
      (subst (λ (xs : List ℕ). IsExecution o s trace xs) (sym (reverse-reverse execution)) is))

  turned_out : (e : List ℕ) → Contains (executions o s (reverse trace)) e → IsExecution o s trace (reverse e)
  turned_out e there = subst (λ (xs : List ℕ). IsExecution o s xs (reverse e)) (reverse-reverse trace) (found_execution o ok s (reverse trace) e there)

  pub all_executions : (n low high : ℕ)
      → IsTrue (tally_ends low high (tally_of o s n low high (reverse trace)))
      ↔ ((execution : List ℕ) → IsExecution o s trace execution → IsBetween low high (places n execution))
  all_executions n low high = (forth, back)
    where
      whole : list_all (λ e. fits n low high e) (executions o s (reverse trace)) ≡ tally_ends low high (tally_of o s n low high (reverse trace))
      whole = all_with_closed (λ e. fits n low high e) (open_execution o s (reverse trace)) (closed_executions o s (reverse trace))

      forth : IsTrue (tally_ends low high (tally_of o s n low high (reverse trace))) → (execution : List ℕ)
          → IsExecution o s trace execution → IsBetween low high (places n execution)
      forth all execution is =
          let passes : fits n low high (reverse execution) ≡ true = each_passes (λ e. fits n low high e) (executions o s (reverse trace)) (whole ∙ all) (reverse execution) (turned_in execution is) in
          let both = and_parts (nat_le low (places n (reverse execution))) (nat_le (places n (reverse execution)) high) passes in
          let same = places_turned n execution in
          (subst (λ (k : ℕ). low ≤ k) same (leb-true low (places n (reverse execution)) both.0), subst (λ (k : ℕ). k ≤ high) same (leb-true (places n (reverse execution)) high both.1))

      back : ((execution : List ℕ) → IsExecution o s trace execution → IsBetween low high (places n execution))
          → IsTrue (tally_ends low high (tally_of o s n low high (reverse trace)))
      back each = sym whole ∙ all_pass (λ e. fits n low high e) (executions o s (reverse trace)) passes
        where
          passes : (e : List ℕ) → Contains (executions o s (reverse trace)) e → fits n low high e ≡ true
          passes e there =
              let between = each (reverse e) (turned_out e there) in
              let same = places_turned n e in
              and_from (nat_le low (places n e)) (nat_le (places n e) high) (le-leb low (places n e) (subst (λ (k : ℕ). low ≤ k) same between.0)) (le-leb (places n e) high (subst (λ (k : ℕ). k ≤ high) same between.1))

  pub all_iterations : (a b : ℕ)
      → IsTrue (seen_ends (seen_of o s a b (reverse trace)))
      ↔ ((iteration : List ℕ) → IsIteration o s trace iteration → Contains iteration a → Contains iteration b → ⊥)
  all_iterations a b = (forth, back)
    where
      whole : list_all (λ i. are_apart a b i) (iterations o s (reverse trace)) ≡ seen_ends (seen_of o s a b (reverse trace))
      whole = apart_with_closed a b (open_iteration o s (reverse trace)) (closed_iterations o s (reverse trace))

      found : (iteration : List ℕ) → IsIteration o s trace iteration
          → Contains (iterations o s (reverse trace)) (reverse iteration)
      found iteration is =
          iteration_found o ok s (reverse trace) (reverse iteration)
          (subst (λ (xs : List ℕ). IsIteration o s xs (reverse (reverse iteration))) (sym (reverse-reverse trace))
          (subst (λ (xs : List ℕ). IsIteration o s trace xs) (sym (reverse-reverse iteration)) is))

      forth : IsTrue (seen_ends (seen_of o s a b (reverse trace))) → (iteration : List ℕ)
          → IsIteration o s trace iteration → Contains iteration a → Contains iteration b → ⊥
      forth all iteration is in_a in_b =
          let passes : are_apart a b (reverse iteration) ≡ true = each_passes (λ i. are_apart a b i) (iterations o s (reverse trace)) (whole ∙ all) (reverse iteration) (found iteration is) in
          let both : has a (reverse iteration) && has b (reverse iteration) ≡ true =
          and_from (has a (reverse iteration)) (has b (reverse iteration)) (member_found (reverse iteration) a (in_reverse iteration a in_a)) (member_found (reverse iteration) b (in_reverse iteration b in_b)) in
          both_ways (has a (reverse iteration) && has b (reverse iteration)) (not-true (has a (reverse iteration) && has b (reverse iteration)) passes) both

      back : ((iteration : List ℕ) → IsIteration o s trace iteration → Contains iteration a → Contains iteration b → ⊥)
          → IsTrue (seen_ends (seen_of o s a b (reverse trace)))
      back each = sym whole ∙ all_pass (λ i. are_apart a b i) (iterations o s (reverse trace)) passes
        where
          passes : (i : List ℕ) → Contains (iterations o s (reverse trace)) i → are_apart a b i ≡ true
          passes i there =
              let of_run : IsIteration o s trace (reverse i) = subst (λ (xs : List ℕ). IsIteration o s xs (reverse i)) (reverse-reverse trace) (found_iteration o ok s (reverse trace) i there) in
              not_from_false (has a i && has b i) (false_from_ne_true (has a i && has b i) (λ yes_both.
              let both = and_parts (has a i) (has b i) yes_both in
              each (reverse i) of_run (in_reverse i a (found_member i a both.0)) (in_reverse i b (found_member i b both.1))))
