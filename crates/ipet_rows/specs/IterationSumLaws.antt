-- Laws of iteration sums.
--   parts_hold       a node of the scope stands in iterations alone
--   parts_begin      there is one for each visit of the header
--   once_each        a node with this scope as its own stands in each at most once
--   pair_met         so two that are in none together are there at most as often as the header
use Rattle.std.proofs.Common.{◌≡◌, ◌≢◌, ◌<◌, ◌≤◌, ◌+◌, ◌==◌, not, ℕ, pos, Bool, true, false, List, [], ◌∷◌, ◌++◌, inl, inr, cond, length, get_or, reverse, Contains, refl, ap, sym, ◌∙◌, subst, arith}
use Rattle.std.specs.Prelude.{◌+ℤ◌, ◌-ℤ◌, ◌≤ℤ◌}
use Rattle.std.proofs.lemmas.Bool.{eqb-true, eq-eqb, ne_eqb, cases_eq, cases_lt, both_ways, and_parts, not-true}
use Rattle.std.proofs.lemmas.Int.{ints}
use Rattle.std.proofs.lemmas.List.{append_assoc}
use Rattle.std.proofs.lemmas.List.Sums.{sum_by-append}
use Rattle.std.proofs.lemmas.List.Elements.{Contains-append_left}
use Rattle.lists.specs.MemberLaws.{first_member, further_member}
use Rattle.lists.specs.TestLaws.{by_test}
use Rattle.graph_walks.specs.ListLaws.{contains_cases, cut_at}
use Rattle.domain_core.specs.Outlines.{Shape, IsOutline, Holds, LeadsTo, here, is_held, header_of}
use Rattle.domain_core.specs.OutlineLaws.{held_is, is_holder, in_reverse}
use Rattle.domain_core.specs.Traces.{IsTrace}
use Rattle.domain_core.specs.Stretches.{Passes, with_closed}
use Rattle.domain_core.specs.Parts.{further, IsPart}
use Rattle.domain_core.specs.PartLaws.{found_part}
use Rattle.domain_core.specs.Executions.{IsIteration, is_header, begins_at, goes_on_at, open_iteration, closed_iterations, iterations}
use Rattle.domain_core.specs.IterationLaws.{found_iteration}
use Rattle.flow_facts.specs.Facts.{places}
use Rattle.flow_facts.specs.Walking.{is_some_part}
use Rattle.ipet_rows.specs.Weights.{one_if, leaves}
use Rattle.ipet_rows.specs.Uses.{steps_of}
use Rattle.ipet_rows.specs.UseLaws.{weigh}
use Rattle.ipet_rows.specs.FlowLaws.{place_more, left, weigh_plus, weigh_minus}
use Rattle.ipet_rows.specs.ColumnLaws.{newest_low}
use Rattle.ipet_rows.specs.ExecutionSums.{number_of, places_in}
use Rattle.ipet_rows.specs.ExecutionSumLaws.{places_closed, number_closed}
use Rattle.ipet_rows.specs.OnceLaws.{once}

-- ---- nodes and headers in iterations

some_further : (k : ℕ) (part : List ℕ) → is_some_part (further k part) ≡ is_some_part part
some_further k [] = refl
some_further k (m ∷ part) = refl

-- a further node of an iteration that there is
places_further : (n k : ℕ) (part : List ℕ) → is_some_part part ≡ true
    → pos (places n (further k part)) ≡ one_if (n == k) +ℤ pos (places n part)
places_further n k [] some = let bad : false ≡ true = some in absurd (cc)
places_further n k (m ∷ part) some = place_more n k (m ∷ part)

module _ (o : Shape) (ok : IsOutline o) (s : ℕ) (low : s < length o.scopes) where
  header_held : is_held o s (header_of o.scopes s) ≡ true
  header_held = is_holder o ok s (header_of o.scopes s) (ok.headers_held s low)

  -- what is known one node later: at the header, at another node of the scope, and outside
  opens_at : (k : ℕ) (past : List ℕ) → k ≡ header_of o.scopes s
      → (open_iteration o s (k ∷ past) ≡ k ∷ []) × (closed_iterations o s (k ∷ past) ≡ with_closed (open_iteration o s past) (closed_iterations o s past))
  opens_at k past e =
      let held : is_held o s k ≡ true = ap (λ (n : ℕ). is_held o s n) e ∙ header_held in
      let at_header : is_header o s k ≡ true = eq-eqb (header_of o.scopes s) k (sym e) in
      (rw (held, at_header) refl, rw (held, at_header) refl)

  goes_to : (k : ℕ) (past : List ℕ) → is_held o s k ≡ true → (k ≡ header_of o.scopes s → ⊥)
      → (open_iteration o s (k ∷ past) ≡ further k (open_iteration o s past)) × (closed_iterations o s (k ∷ past) ≡ closed_iterations o s past)
  goes_to k past held other =
      let no_header : is_header o s k ≡ false = ne_eqb (header_of o.scopes s) k (λ e. other (sym e)) in
      (rw (held, no_header) refl, rw (held, no_header) refl)

  stops_at : (k : ℕ) (past : List ℕ) → is_held o s k ≡ false
      → (open_iteration o s (k ∷ past) ≡ []) × (closed_iterations o s (k ∷ past) ≡ with_closed (open_iteration o s past) (closed_iterations o s past))
  stops_at k past clear = (rw clear refl, rw clear refl)

  -- where a run is in the scope, an iteration is not over
  some_open : (k : ℕ) (past : List ℕ) → IsTrace o (k ∷ past) → is_held o s k ≡ true
      → is_some_part (open_iteration o s (k ∷ past)) ≡ true
  some_open k [] first held =
      let zero_held : Holds o s 0 = subst (λ (n : ℕ). Holds o s n) first (held_is o ok s k held) in
      let at_header : k ≡ header_of o.scopes s = first ∙ sym (ap (λ (r : ℕ). header_of o.scopes r) (ok.first_alone s zero_held) ∙ ok.first_scope.0) in
      ap is_some_part (opens_at k [] at_header).0
  some_open k (m ∷ past) trace held = elim (cases_eq k (header_of o.scopes s)) [
    | inl e ↦ ap is_some_part (opens_at k (m ∷ past) e).0
    | inr other ↦
        let before : is_held o s m ≡ true =
        elim (ok.entered m k s trace.0 (newest_low o ok k (m ∷ past) trace) low (held_is o ok s k held)) [ inl e ↦ absurd (other e) | inr is ↦ is_holder o ok s m is ] in
        ap is_some_part (goes_to k (m ∷ past) held other).0 ∙ some_further k (open_iteration o s (m ∷ past)) ∙ some_open m past trace.2 before
  ]

  -- a node that goes on comes after one in the scope
  before_goes : (k : ℕ) (past : List ℕ) → IsTrace o (k ∷ past) → is_held o s k ≡ true → (k ≡ header_of o.scopes s → ⊥)
      → is_some_part (open_iteration o s past) ≡ true
  before_goes k past trace held other = sym (some_further k (open_iteration o s past)) ∙ sym (ap is_some_part (goes_to k past held other).0) ∙ some_open k past trace held

  -- the same with one node more
  hold_step : (n : ℕ) → is_held o s n ≡ true → (n ≡ header_of o.scopes s → ⊥) → (k : ℕ) (past : List ℕ)
      → IsTrace o (k ∷ past)
      → pos (places n (open_iteration o s past)) +ℤ places_in n (closed_iterations o s past) ≡ pos (places n past)
      → pos (places n (open_iteration o s (k ∷ past))) +ℤ places_in n (closed_iterations o s (k ∷ past)) ≡ pos (places n (k ∷ past))
  hold_step n in_scope no_header k past trace rest = elim (cases_eq k (header_of o.scopes s)) [
    | inl e ↦
        let now = opens_at k past e in
        let other : (n == k) ≡ false = ne_eqb n k (λ same. no_header (same ∙ e)) in
        let one : pos (places n (k ∷ [])) ≡ pos 0 = place_more n k [] ∙ rw other refl in
        let more : pos (places n (k ∷ past)) ≡ pos (places n past) = place_more n k past ∙ rw other (omega (arith, ints)) in
        let opened : pos (places n (open_iteration o s (k ∷ past))) ≡ pos 0 = ap (λ (xs : List ℕ). pos (places n xs)) now.0 ∙ one in
        let closed : places_in n (closed_iterations o s (k ∷ past)) ≡ pos (places n (open_iteration o s past)) +ℤ places_in n (closed_iterations o s past) =
        ap (λ (es : List (List ℕ)). places_in n es) now.1 ∙ places_closed n (open_iteration o s past) (closed_iterations o s past) in
        omega (arith, ints, rest, more, opened, closed)
    | inr apart ↦ by_test (is_held o s k)
        (λ held.
        let now = goes_to k past held apart in
        let some = before_goes k past trace held apart in
        let more = place_more n k past in
        let opened : pos (places n (open_iteration o s (k ∷ past))) ≡ one_if (n == k) +ℤ pos (places n (open_iteration o s past)) =
        ap (λ (xs : List ℕ). pos (places n xs)) now.0 ∙ places_further n k (open_iteration o s past) some in
        let closed : places_in n (closed_iterations o s (k ∷ past)) ≡ places_in n (closed_iterations o s past) = ap (λ (es : List (List ℕ)). places_in n es) now.1 in
        omega (arith, ints, rest, more, opened, closed))
        (λ clear.
        let now = stops_at k past clear in
        let other : (n == k) ≡ false = ne_eqb n k (λ same. both_ways (is_held o s k) clear (ap (λ (j : ℕ). is_held o s j) (sym same) ∙ in_scope)) in
        let more : pos (places n (k ∷ past)) ≡ pos (places n past) = place_more n k past ∙ rw other (omega (arith, ints)) in
        let opened : pos (places n (open_iteration o s (k ∷ past))) ≡ pos 0 = ap (λ (xs : List ℕ). pos (places n xs)) now.0 in
        let closed : places_in n (closed_iterations o s (k ∷ past)) ≡ pos (places n (open_iteration o s past)) +ℤ places_in n (closed_iterations o s past) =
        ap (λ (es : List (List ℕ)). places_in n es) now.1 ∙ places_closed n (open_iteration o s past) (closed_iterations o s past) in
        omega (arith, ints, rest, more, opened, closed))
  ]

  begin_step : (k : ℕ) (past : List ℕ) → IsTrace o (k ∷ past)
      → one_if (is_some_part (open_iteration o s past)) +ℤ number_of (closed_iterations o s past) ≡ pos (places (header_of o.scopes s) past)
      → one_if (is_some_part (open_iteration o s (k ∷ past))) +ℤ number_of (closed_iterations o s (k ∷ past)) ≡ pos (places (header_of o.scopes s) (k ∷ past))
  begin_step k past trace rest = elim (cases_eq k (header_of o.scopes s)) [
    | inl e ↦
        let now = opens_at k past e in
        let here_is : (header_of o.scopes s == k) ≡ true = eq-eqb (header_of o.scopes s) k (sym e) in
        let more : pos (places (header_of o.scopes s) (k ∷ past)) ≡ pos 1 +ℤ pos (places (header_of o.scopes s) past) = place_more (header_of o.scopes s) k past ∙ rw here_is refl in
        let opened : one_if (is_some_part (open_iteration o s (k ∷ past))) ≡ pos 1 = ap (λ (xs : List ℕ). one_if (is_some_part xs)) now.0 in
        let closed : number_of (closed_iterations o s (k ∷ past)) ≡ one_if (is_some_part (open_iteration o s past)) +ℤ number_of (closed_iterations o s past) =
        ap number_of now.1 ∙ number_closed (open_iteration o s past) (closed_iterations o s past) in
        omega (arith, ints, rest, more, opened, closed)
    | inr apart ↦
        let other : (header_of o.scopes s == k) ≡ false = ne_eqb (header_of o.scopes s) k (λ same. apart (sym same)) in
        let more : pos (places (header_of o.scopes s) (k ∷ past)) ≡ pos (places (header_of o.scopes s) past) = place_more (header_of o.scopes s) k past ∙ rw other (omega (arith, ints)) in
        by_test (is_held o s k)
        (λ held.
        let now = goes_to k past held apart in
        let opened : one_if (is_some_part (open_iteration o s (k ∷ past))) ≡ one_if (is_some_part (open_iteration o s past)) = ap (λ (xs : List ℕ). one_if (is_some_part xs)) now.0 ∙ ap one_if (some_further k (open_iteration o s past)) in
        let closed : number_of (closed_iterations o s (k ∷ past)) ≡ number_of (closed_iterations o s past) = ap number_of now.1 in
        omega (arith, ints, rest, more, opened, closed))
        (λ clear.
        let now = stops_at k past clear in
        let opened : one_if (is_some_part (open_iteration o s (k ∷ past))) ≡ pos 0 = ap (λ (xs : List ℕ). one_if (is_some_part xs)) now.0 in
        let closed : number_of (closed_iterations o s (k ∷ past)) ≡ one_if (is_some_part (open_iteration o s past)) +ℤ number_of (closed_iterations o s past) =
        ap number_of now.1 ∙ number_closed (open_iteration o s past) (closed_iterations o s past) in
        omega (arith, ints, rest, more, opened, closed))
  ]

  -- a node of the scope other than the header stands in iterations alone
  parts_hold : (n : ℕ) → is_held o s n ≡ true → (n ≡ header_of o.scopes s → ⊥) → (k : ℕ) (past : List ℕ)
      → IsTrace o (k ∷ past)
      → pos (places n (open_iteration o s (k ∷ past))) +ℤ places_in n (closed_iterations o s (k ∷ past)) ≡ pos (places n (k ∷ past))
  parts_hold n in_scope no_header k [] trace = hold_step n in_scope no_header k [] trace refl
  parts_hold n in_scope no_header k (m ∷ past) trace = hold_step n in_scope no_header k (m ∷ past) trace (parts_hold n in_scope no_header m past trace.2)

  -- there is one for each visit of the header
  parts_begin : (k : ℕ) (past : List ℕ) → IsTrace o (k ∷ past)
      → one_if (is_some_part (open_iteration o s (k ∷ past))) +ℤ number_of (closed_iterations o s (k ∷ past)) ≡ pos (places (header_of o.scopes s) (k ∷ past))
  parts_begin k [] trace = begin_step k [] trace refl
  parts_begin k (m ∷ past) trace = begin_step k (m ∷ past) trace (parts_begin m past trace.2)

  -- ---- at most once in each

  tests_apart : (n : ℕ) → goes_on_at o s n ≡ true → begins_at o s n ≡ false
  tests_apart n on =
      let both = and_parts (is_held o s n) (not (is_header o s n)) on in
      rw (both.0, not-true (is_header o s n) both.1) refl

  -- the newer part of a trace left out
  rest_of : (newer : List ℕ) (m : ℕ) (rest : List ℕ) → IsTrace o (newer ++ m ∷ rest) → IsTrace o (m ∷ rest)
  rest_of [] m rest trace = trace
  rest_of (x ∷ []) m rest trace = trace.2
  rest_of (x ∷ y ∷ newer) m rest trace = rest_of (y ∷ newer) m rest trace.2

  absent_places : (a : ℕ) (nodes : List ℕ) → (Contains nodes a → ⊥) → pos (places a nodes) ≡ pos 0
  absent_places a [] absent = refl
  absent_places a (m ∷ nodes) absent =
      let other : (a == m) ≡ false = ne_eqb a m (λ e. absent (subst (λ (n : ℕ). Contains (m ∷ nodes) n) (sym e) (first_member m nodes))) in
      place_more a m nodes ∙ rw other (let rest = absent_places a nodes (λ there. absent (further_member m nodes a there)) in omega (arith, ints, rest))

  some_place : (a : ℕ) (nodes : List ℕ) → 0 < places a nodes → Contains nodes a
  some_place a [] some = let none : places a [] ≡ 0 = refl in absurd (omega arith)
  some_place a (m ∷ nodes) some = elim (cases_eq a m) [
    | inl e ↦ subst (λ (n : ℕ). Contains (m ∷ nodes) n) (sym e) (first_member m nodes)
    | inr other ↦
        let differs : (a == m) ≡ false = ne_eqb a m other in
        let more : pos (places a (m ∷ nodes)) ≡ pos (places a nodes) = place_more a m nodes ∙ rw differs (omega (arith, ints)) in
        further_member m nodes a (some_place a nodes (omega (arith, ints, more)))
  ]

  module _ (a : ℕ) (own : get_or o.own a 0 ≡ s) (no_header : a ≡ header_of o.scopes s → ⊥) where
    others_once : (others : List ℕ) (m : ℕ) (tail : List ℕ) → IsTrace o (others ++ m ∷ tail)
        → ((n : ℕ) → Contains others n → Holds o s n × (n ≡ header_of o.scopes s → ⊥)) → places a others ≤ 1
    others_once [] m tail trace all = let none : places a [] ≡ 0 = refl in omega arith
    others_once (x ∷ []) m tail trace all =
        let more = place_more a x [] in
        let none : places a [] ≡ 0 = refl in
        by_test (a == x)
        (λ is. let one : pos (places a (x ∷ [])) ≡ pos 1 = more ∙ rw is refl in omega (arith, ints, one))
        (λ clear. let zero_here : pos (places a (x ∷ [])) ≡ pos 0 = more ∙ rw clear refl in omega (arith, ints, zero_here))
    others_once (x ∷ y ∷ others) m tail trace all =
        let more = place_more a x (y ∷ others) in
        by_test (a == x)
        (λ is.
        let same : a ≡ x = eqb-true a x is in
        let absent : Contains (y ∷ others) a → ⊥ = λ there.
        let c = cut_at (y ∷ others) a there in
        let whole : y ∷ others ++ m ∷ tail ≡ c.0 ++ a ∷ (c.1 ++ m ∷ tail) = ap (λ (xs : List ℕ). xs ++ m ∷ tail) c.2 ∙ append_assoc c.0 (a ∷ c.1) (m ∷ tail) in
        let turned : IsTrace o (a ∷ c.0 ++ a ∷ (c.1 ++ m ∷ tail)) = subst (λ (xs : List ℕ). IsTrace o (a ∷ xs)) whole (subst (λ (n : ℕ). IsTrace o (n ∷ y ∷ others ++ m ∷ tail)) (sym same) trace) in
        once o ok s a (c.1 ++ m ∷ tail) low own c.0 turned (λ n inner. elim (contains_cases a c.0 n inner) [
          | inl e ↦ all n (subst (λ (k : ℕ). Contains (x ∷ y ∷ others) k) (sym (e ∙ same)) (first_member x (y ∷ others)))
          | inr later ↦ all n (further_member x (y ∷ others) n (subst (λ (xs : List ℕ). Contains xs n) (sym c.2) (Contains-append_left c.0 (a ∷ c.1) n later)))
        ]) in
        let none = absent_places a (y ∷ others) absent in
        let one : pos (places a (x ∷ y ∷ others)) ≡ pos 1 +ℤ pos (places a (y ∷ others)) = more ∙ rw is refl in
        omega (arith, ints, none, one))
        (λ clear.
        let rest = others_once (y ∷ others) m tail trace.2 (λ n there. all n (further_member x (y ∷ others) n there)) in
        let zero_here : pos (places a (x ∷ y ∷ others)) ≡ pos 0 +ℤ pos (places a (y ∷ others)) = more ∙ rw clear refl in
        omega (arith, ints, rest, zero_here))

    -- a node with this scope as its own stands in each iteration at most once
    once_each : (past : List ℕ) → IsTrace o past → (i : List ℕ) → Contains (iterations o s past) i → places a i ≤ 1
    once_each past trace i there = from_part (found_part (λ n. begins_at o s n) (λ n. goes_on_at o s n) tests_apart past i there)
      where
        from_part : IsPart (Passes (λ n. begins_at o s n)) (Passes (λ n. goes_on_at o s n)) past i → places a i ≤ 1
        from_part r =
            let whole : IsTrace o (r.newer ++ (r.others ++ r.first ∷ r.older)) = subst (λ (xs : List ℕ). IsTrace o xs) r.is trace in
            let begun = and_parts (is_held o s r.first) (is_header o s r.first) r.begins in
            let at_header : header_of o.scopes s ≡ r.first = eqb-true (header_of o.scopes s) r.first begun.1 in
            let other : (a == r.first) ≡ false = ne_eqb a r.first (λ e. no_header (e ∙ sym at_header)) in
            let last : pos (places a (r.first ∷ [])) ≡ pos 0 = place_more a r.first [] ∙ rw other refl in
            let all : (n : ℕ) → Contains r.others n → Holds o s n × (n ≡ header_of o.scopes s → ⊥) = λ n inner. goes_is n (r.all n inner) in
            let most = others_most r.newer r.others r.first r.older whole all in
            let split : places a i ≡ places a r.others + places a (r.first ∷ []) = ap (λ (xs : List ℕ). places a xs) r.part_is ∙ sum_by-append (λ n. cond (a == n) 1 0) r.others (r.first ∷ []) in
            omega (arith, ints, most, last, split)
          where
            goes_is : (n : ℕ) → goes_on_at o s n ≡ true → Holds o s n × (n ≡ header_of o.scopes s → ⊥)
            goes_is n on =
                let both = and_parts (is_held o s n) (not (is_header o s n)) on in
                (held_is o ok s n both.0, λ e. both_ways (is_header o s n) (not-true (is_header o s n) both.1) (eq-eqb (header_of o.scopes s) n (sym e)))

            others_most : (newer others : List ℕ) (m : ℕ) (older : List ℕ) → IsTrace o (newer ++ (others ++ m ∷ older))
                → ((n : ℕ) → Contains others n → Holds o s n × (n ≡ header_of o.scopes s → ⊥)) → places a others ≤ 1
            others_most newer [] m older whole all = let none : places a [] ≡ 0 = refl in omega arith
            others_most newer (x ∷ others) m older whole all = others_once (x ∷ others) m older (rest_of newer x (others ++ m ∷ older) whole) all

-- ---- two nodes that are in no iteration together

pair_sums : (a b : ℕ) (es : List (List ℕ)) → ((e : List ℕ) → Contains es e → places a e + places b e ≤ 1)
    → (places_in a es +ℤ places_in b es) ≤ℤ number_of es
pair_sums a b [] each = omega (arith, ints)
pair_sums a b (e ∷ es) each =
    let rest = pair_sums a b es (λ d there. each d (further_member e es d there)) in
    let most = each e (first_member e es) in
    omega (arith, ints, rest, most)

module _ (o : Shape) (ok : IsOutline o) (s a b : ℕ) (low : s < length o.scopes) (own_a : get_or o.own a 0 ≡ s) (own_b : get_or o.own b 0 ≡ s)
    (other_a : header_of o.scopes s ≢ a) (other_b : header_of o.scopes s ≢ b) (fault : Bool) (k : ℕ) (past : List ℕ) (trace : IsTrace o (k ∷ past))
    (apart : (iteration : List ℕ) → IsIteration o s (reverse (k ∷ past)) iteration → Contains iteration a → Contains iteration b → ⊥) where
  -- in no iteration are more than one
  one_alone : (i : List ℕ) → Contains (iterations o s (k ∷ past)) i → places a i + places b i ≤ 1
  one_alone i there =
      let once_a = once_each o ok s low a own_a (λ e. other_a (sym e)) (k ∷ past) trace i there in
      let once_b = once_each o ok s low b own_b (λ e. other_b (sym e)) (k ∷ past) trace i there in
      elim (cases_lt 0 (places a i)) [
        | inl some_a ↦ elim (cases_lt 0 (places b i)) [
          | inl some_b ↦
              let of_run = found_iteration o ok s (k ∷ past) i there in
              let in_a = in_reverse i a (some_place o ok s low a i some_a) in
              let in_b = in_reverse i b (some_place o ok s low b i some_b) in
              absurd (apart (reverse i) of_run in_a in_b)
          | inr none_b ↦ omega arith
        ]
        | inr none_a ↦ omega arith
      ]

  held_node : (n : ℕ) → get_or o.own n 0 ≡ s → is_held o s n ≡ true
  held_node n own = is_holder o ok s n (subst (λ (j : ℕ). LeadsTo o.scopes s j) (sym own) here)

  all_in : (n : ℕ) → get_or o.own n 0 ≡ s → (n ≡ header_of o.scopes s → ⊥)
      → places_in n (iterations o s (k ∷ past)) ≡ pos (places n (k ∷ past))
  all_in n own no_header = places_closed n (open_iteration o s (k ∷ past)) (closed_iterations o s (k ∷ past)) ∙ parts_hold o ok s low n (held_node n own) no_header k past trace

  pub pair_met : weigh (λ c. (leaves a c +ℤ leaves b c) -ℤ leaves (header_of o.scopes s) c) (steps_of o fault (k ∷ past)) ≤ℤ pos 0
  pair_met =
      let most = pair_sums a b (iterations o s (k ∷ past)) one_alone in
      let of_a = all_in a own_a (λ e. other_a (sym e)) in
      let of_b = all_in b own_b (λ e. other_b (sym e)) in
      let turns = number_closed (open_iteration o s (k ∷ past)) (closed_iterations o s (k ∷ past)) ∙ parts_begin o ok s low k past trace in
      let minus = weigh_minus (λ c. leaves a c +ℤ leaves b c) (λ c. leaves (header_of o.scopes s) c) (steps_of o fault (k ∷ past)) in
      let plus = weigh_plus (λ c. leaves a c) (λ c. leaves b c) (steps_of o fault (k ∷ past)) in
      let out_a = left o fault a k past in
      let out_b = left o fault b k past in
      let out_h = left o fault (header_of o.scopes s) k past in
      omega (arith, ints, most, of_a, of_b, turns, minus, plus, out_a, out_b, out_h)
