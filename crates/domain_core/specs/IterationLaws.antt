-- Iterations along the trace are those of the run.
--   found_iteration, iteration_found   the iterations found are the parts of executions from one header to before the next
use Rattle.std.proofs.Common.{◌≡◌, ◌&&◌, not, ℕ, Bool, true, false, List, [], ◌∷◌, ◌++◌, reverse, Contains, refl, ap, sym, ◌∙◌, subst, inl, inr}
use Rattle.std.proofs.lemmas.Bool.{eqb-true, eq-eqb, ne_eqb}
use Rattle.std.proofs.lemmas.List.{append_assoc, reverse-append, reverse-reverse}
use Rattle.std.proofs.lemmas.List.Elements.{Contains-append_left, Contains-append_right, Contains-append_cases}
use Rattle.lists.specs.MemberLaws.{no_member, first_member, further_member}
use Rattle.lists.specs.TestLaws.{by_test}
use Rattle.graph_walks.specs.ListLaws.{contains_cases}
use Rattle.domain_core.specs.Outlines.{Shape, Holds, is_held, header_of, IsOutline}
use Rattle.domain_core.specs.OutlineLaws.{held_is, is_holder, of_reverse}
use Rattle.domain_core.specs.Stretches.{Passes, open_stretch}
use Rattle.domain_core.specs.StretchLaws.{IsPrefix, open_is}
use Rattle.domain_core.specs.Parts.{IsPart}
use Rattle.domain_core.specs.PartLaws.{found_part, part_found}
use Rattle.domain_core.specs.Executions.{IsIteration, is_header, begins_at, goes_on_at, iterations}

-- both of two tests pass
left_passes : (a b : Bool) → a && b ≡ true → a ≡ true
left_passes true b e = refl
left_passes false b e = e

right_passes : (a b : Bool) → a && b ≡ true → b ≡ true
right_passes true b e = e
right_passes false b e = absurd (let bad : false ≡ true = e in cc)

no_test : (a : Bool) → not a ≡ true → a ≡ true → ⊥
no_test true e is = let bad : false ≡ true = e in cc
no_test false e is = let bad : false ≡ true = is in cc

module _ (o : Shape) (ok : IsOutline o) (t : ℕ) where
  -- an iteration does not begin where it goes on
  tests_apart : (n : ℕ) → goes_on_at o t n ≡ true → begins_at o t n ≡ false
  tests_apart n on =
      by_test (is_header o t n) (λ is. absurd (no_test (is_header o t n) (right_passes (is_held o t n) (not (is_header o t n)) on) is))
      (λ clear. rw (left_passes (is_held o t n) (not (is_header o t n)) on, clear) refl)

  -- it goes on through nodes of the scope but the header
  goes_is : (n : ℕ) → Holds o t n → (n ≡ header_of o.scopes t → ⊥) → goes_on_at o t n ≡ true
  goes_is n held other = rw (is_holder o ok t n held, ne_eqb (header_of o.scopes t) n (λ e. other (sym e))) refl

  is_goes : (n : ℕ) → goes_on_at o t n ≡ true → Holds o t n × (n ≡ header_of o.scopes t → ⊥)
  is_goes n on = (
    held_is o ok t n (left_passes (is_held o t n) (not (is_header o t n)) on),
    λ e. no_test (is_header o t n) (right_passes (is_held o t n) (not (is_header o t n)) on) (eq-eqb (header_of o.scopes t) n (sym e)),
  )

  -- and begins at the header
  begins_is : Holds o t (header_of o.scopes t) → begins_at o t (header_of o.scopes t) ≡ true
  begins_is held = rw (is_holder o ok t (header_of o.scopes t) held, eq-eqb (header_of o.scopes t) (header_of o.scopes t) refl) refl

  is_begins : (n : ℕ) → begins_at o t n ≡ true → n ≡ header_of o.scopes t
  is_begins n is = sym (eqb-true (header_of o.scopes t) n (right_passes (is_held o t n) (is_header o t n) is))

  -- each iteration of the run is found
  pub iteration_found : (past p : List ℕ) → IsIteration o t (reverse past) (reverse p)
      → Contains (iterations o t past) p
  iteration_found past p s = part_found (λ n. begins_at o t n) (λ n. goes_on_at o t n) tests_apart past p (record {
    newer = reverse (s.later ++ s.of.later);
    others = reverse s.others;
    first = header;
    older = reverse (s.of.earlier ++ s.earlier);
    is = sym (reverse-reverse past) ∙ ap (λ (xs : List ℕ). reverse xs) whole ∙ turned;
    part_is = sym (reverse-reverse p) ∙ ap (λ (xs : List ℕ). reverse xs) s.starts ∙ reverse-append (header ∷ []) s.others;
    all = λ n there. goes_is n (s.of.all n (in_execution n (of_reverse s.others n there))) (s.once n (of_reverse s.others n there));
    begins = begins_is (s.of.all header at_header);
    ends = λ front n same. stops (s.later) refl n (reverse front) (sym (reverse-reverse (s.later ++ s.of.later)) ∙ ap (λ (xs : List ℕ). reverse xs) same ∙ reverse-append front (n ∷ []));
  })
    where
      header : ℕ
      header = header_of o.scopes t

      execution_is : s.execution ≡ s.earlier ++ (header ∷ s.others ++ s.later)
      execution_is = s.part ∙ ap (λ (xs : List ℕ). s.earlier ++ (xs ++ s.later)) s.starts

      whole : reverse past ≡ (s.of.earlier ++ s.earlier) ++ ((header ∷ s.others) ++ (s.later ++ s.of.later))
      whole =
          s.of.is
          ∙ ap (λ (xs : List ℕ). s.of.earlier ++ (xs ++ s.of.later)) execution_is
          ∙ ap (λ (xs : List ℕ). s.of.earlier ++ xs) (append_assoc s.earlier (header ∷ s.others ++ s.later) s.of.later ∙ ap (λ (xs : List ℕ). s.earlier ++ (header ∷ xs)) (append_assoc s.others s.later s.of.later))
          ∙ sym (append_assoc s.of.earlier s.earlier ((header ∷ s.others) ++ (s.later ++ s.of.later)))

      turned : reverse ((s.of.earlier ++ s.earlier) ++ ((header ∷ s.others) ++ (s.later ++ s.of.later))) ≡ reverse (s.later ++ s.of.later) ++ (reverse s.others ++ header ∷ reverse (s.of.earlier ++ s.earlier))
      turned =
          reverse-append (s.of.earlier ++ s.earlier) ((header ∷ s.others) ++ (s.later ++ s.of.later))
          ∙ ap (λ (xs : List ℕ). xs ++ reverse (s.of.earlier ++ s.earlier)) (reverse-append (header ∷ s.others) (s.later ++ s.of.later) ∙ ap (λ (xs : List ℕ). reverse (s.later ++ s.of.later) ++ xs) (reverse-append (header ∷ []) s.others))
          ∙ append_assoc (reverse (s.later ++ s.of.later)) (reverse s.others ++ header ∷ []) (reverse (s.of.earlier ++ s.earlier))
          ∙ ap (λ (xs : List ℕ). reverse (s.later ++ s.of.later) ++ xs) (append_assoc (reverse s.others) (header ∷ []) (reverse (s.of.earlier ++ s.earlier)))

      at_header : Contains s.execution header
      at_header = subst (λ (xs : List ℕ). Contains xs header) (sym execution_is) (Contains-append_right s.earlier (header ∷ s.others ++ s.later) header (first_member header (s.others ++ s.later)))

      in_execution : (n : ℕ) → Contains s.others n → Contains s.execution n
      in_execution n there =
          subst (λ (xs : List ℕ). Contains xs n) (sym execution_is)
          (Contains-append_right s.earlier (header ∷ s.others ++ s.later) n (further_member header (s.others ++ s.later) n (Contains-append_left s.others s.later n there)))

      stops : (later : List ℕ) → s.later ≡ later → (n : ℕ) (rest : List ℕ) → s.later ++ s.of.later ≡ n ∷ rest
          → goes_on_at o t n ≡ true → ⊥
      stops [] none n rest e on = s.of.ends n rest (ap (λ (xs : List ℕ). xs ++ s.of.later) (sym none) ∙ e) (is_goes n on).0
      stops (m ∷ later) some n rest e on =
          let both : m ∷ later ++ s.of.later ≡ n ∷ rest = ap (λ (xs : List ℕ). xs ++ s.of.later) (sym some) ∙ e in
          let same : m ≡ n = cc in
          s.ends m later some (subst (λ (k : ℕ). k ≡ header → ⊥) (sym same) (is_goes n on).1)

  -- and what is found is an iteration of the run
  pub found_iteration : (past p : List ℕ) → Contains (iterations o t past) p
      → IsIteration o t (reverse past) (reverse p)
  found_iteration past p there = from_part (found_part (λ n. begins_at o t n) (λ n. goes_on_at o t n) tests_apart past p there)
    where
      held_test : ℕ → Bool
      held_test n = is_held o t n

      from_part : IsPart (Passes (λ n. begins_at o t n)) (Passes (λ n. goes_on_at o t n)) past p
          → IsIteration o t (reverse past) (reverse p)
      from_part s = record {
        execution = execution;
        of = record {
          earlier = reverse older.rest;
          later = newer.rest;
          is = whole;
          some = λ none. no_member s.first (subst (λ (xs : List ℕ). Contains xs s.first) none at_first);
          all = held;
          starts = λ front n same is. older.ends n (reverse front) (sym (reverse-reverse older.rest) ∙ ap (λ (xs : List ℕ). reverse xs) same ∙ reverse-append front (n ∷ [])) (is_holder o ok t n is);
          ends = λ n rest same is. newer.ends n rest same (is_holder o ok t n is);
        };
        earlier = reverse before;
        others = reverse s.others;
        later = after;
        part = refl;
        starts = turned ∙ ap (λ (n : ℕ). n ∷ reverse s.others) (is_begins s.first s.begins);
        once = λ n there. (is_goes n (s.all n (of_reverse s.others n there))).1;
        ends = λ n rest same not_header. stops n rest same not_header;
      }
        where
          newer : IsPrefix held_test (reverse s.newer) (open_stretch held_test (reverse s.newer))
          newer = open_is held_test (reverse s.newer)

          older : IsPrefix held_test s.older (open_stretch held_test s.older)
          older = open_is held_test s.older

          after : List ℕ
          after = open_stretch held_test (reverse s.newer)

          before : List ℕ
          before = open_stretch held_test s.older

          execution : List ℕ
          execution = reverse before ++ (reverse p ++ after)

          turned : reverse p ≡ s.first ∷ reverse s.others
          turned = ap (λ (xs : List ℕ). reverse xs) s.part_is ∙ reverse-append s.others (s.first ∷ [])

          at_first : Contains execution s.first
          at_first =
              Contains-append_right (reverse before) (reverse p ++ after) s.first
              (Contains-append_left (reverse p) after s.first (subst (λ (xs : List ℕ). Contains xs s.first) (sym turned) (first_member s.first (reverse s.others))))

          whole : reverse past ≡ reverse older.rest ++ (execution ++ newer.rest)
          whole =
              ap (λ (xs : List ℕ). reverse xs) (s.is ∙ ap (λ (xs : List ℕ). s.newer ++ xs) (sym (append_assoc s.others (s.first ∷ []) s.older) ∙ ap (λ (xs : List ℕ). xs ++ s.older) (sym s.part_is)))
              ∙ reverse-append s.newer (p ++ s.older)
              ∙ ap (λ (xs : List ℕ). xs ++ reverse s.newer) (reverse-append p s.older ∙ ap (λ (xs : List ℕ). xs ++ reverse p) (ap (λ (xs : List ℕ). reverse xs) older.is ∙ reverse-append before older.rest))
              ∙ ap (λ (xs : List ℕ). ((reverse older.rest ++ reverse before) ++ reverse p) ++ xs) newer.is
              ∙ ap (λ (xs : List ℕ). xs ++ (after ++ newer.rest)) (append_assoc (reverse older.rest) (reverse before) (reverse p))
              ∙ append_assoc (reverse older.rest) (reverse before ++ reverse p) (after ++ newer.rest)
              ∙ ap (λ (xs : List ℕ). reverse older.rest ++ xs) (sym (append_assoc (reverse before ++ reverse p) after newer.rest) ∙ ap (λ (xs : List ℕ). xs ++ newer.rest) (append_assoc (reverse before) (reverse p) after))

          held_part : (n : ℕ) → Contains (s.first ∷ reverse s.others) n → Holds o t n
          held_part n there =
              elim (contains_cases s.first (reverse s.others) n there) [
                | inl e ↦ subst (λ (k : ℕ). Holds o t k) (sym e) (held_is o ok t s.first (left_passes (is_held o t s.first) (is_header o t s.first) s.begins))
                | inr later ↦ (is_goes n (s.all n (of_reverse s.others n later))).0
              ]

          held : (n : ℕ) → Contains execution n → Holds o t n
          held n there =
              elim (Contains-append_cases (reverse before) (reverse p ++ after) n there) [
                | inl first ↦ held_is o ok t n (older.all n (of_reverse before n first))
                | inr rest ↦ elim (Contains-append_cases (reverse p) after n rest) [
                  | inl in_part ↦ held_part n (subst (λ (xs : List ℕ). Contains xs n) turned in_part)
                  | inr last ↦ held_is o ok t n (newer.all n last)
                ]
              ]

          stops : (n : ℕ) (rest : List ℕ) → after ≡ n ∷ rest → (n ≡ header_of o.scopes t → ⊥) → ⊥
          stops n rest same not_header =
              let is_in : Holds o t n = held_is o ok t n (newer.all n (subst (λ (xs : List ℕ). Contains xs n) (sym same) (first_member n rest))) in
              let first : reverse s.newer ≡ (n ∷ rest) ++ newer.rest = newer.is ∙ ap (λ (xs : List ℕ). xs ++ newer.rest) same in
              s.ends (reverse (rest ++ newer.rest)) n (sym (reverse-reverse s.newer) ∙ ap (λ (xs : List ℕ). reverse xs) first ∙ reverse-append (n ∷ []) (rest ++ newer.rest)) (goes_is n is_in not_header)
