-- Which event is next.
--   next_here, next_none   the first least from the next place on is the next of the same key, or there is none
--   at_end                 there is none after the last place
--   next_found, next_missing, none_after   the same of places
--   key_at_spot            the key at a place is the position there
--   chosen_step, chosen_alone, chosen_merge   the policy's choice
use Rattle.std.proofs.Common.{◌≡◌, ◌≢◌, ◌<◌, ◌+◌, ◌-◌, ◌↔◌, ℕ, suc, List, [], Bool, true, false, length, map, drop, get_or, slice_get, Some, ap, sym, ◌∙◌, subst, arith}
use Rattle.std.proofs.lemmas.Bool.{false≢true}
use Rattle.std.proofs.lemmas.List.{get_or-drop, length-drop, get_or-map, drop-map, length-map}
use Rattle.std.proofs.lemmas.Option.{get_or_from_slice_get, slice_get_within}
use Rattle.worklist.specs.Least.{key_at, Precedes, IsFirstLeast, IsNextSame}
use Rattle.worklist.specs.LeastLaws.{tied, not_itself}
use Rattle.domain_core.specs.Outlines.{Shape}
use Rattle.domain_core.specs.declared.event.Event.TheVariants.{Step, Merge}
use Rattle.worklist_rules.specs.declared.policy.Policy.{Policy}
use Rattle.worklist_rules.specs.Pools.{Spot, positions_of}
use Rattle.worklist_rules.specs.Policies.{IsChoice, merges, steps}
use Rattle.abstract_exec.specs.Points.{AreMergePoints}
use Rattle.abstract_exec.proofs.Joining.{element_at}

module _ (keys : List (List ℕ)) (i f : ℕ) (least : IsFirstLeast keys i) (next : IsFirstLeast (drop (suc i) keys) f) where
  -- a key from the next place on
  key_on : (k : ℕ) → key_at (drop (suc i) keys) k ≡ key_at keys (suc i + k)
  key_on k = get_or-drop (suc i) keys k []

  -- no key from the next place on is less than this one
  least_on : (k : ℕ) → suc i + k < length keys → Precedes (key_at keys (suc i + k)) (key_at keys (suc i + f)) → ⊥
  least_on k low below =
      let long = length-drop (suc i) keys in
      next.least k (omega arith)
      (subst (λ key. Precedes key (key_at (drop (suc i) keys) f)) (sym (key_on k)) (subst (λ key. Precedes (key_at keys (suc i + k)) key) (sym (key_on f)) below))

  first_on : (k : ℕ) → k < f → Precedes (key_at keys (suc i + f)) (key_at keys (suc i + k))
  first_on k low = subst (λ key. Precedes key (key_at keys (suc i + k))) (key_on f) (subst (λ key. Precedes (key_at (drop (suc i) keys) f) key) (key_on k) (next.first k low))

  -- where it has the same key, it is the next of that key
  pub next_here : key_at keys (suc i + f) ≡ key_at keys i → IsNextSame keys i (suc i + f)
  next_here same = record {
    later = omega arith;
    within = (let low = next.within in let long = length-drop (suc i) keys in omega arith);
    same = same;
    first = λ k above below is.
        let place : k ≡ suc i + (k - suc i) = omega arith in
        let there : key_at keys (suc i + (k - suc i)) ≡ key_at keys i = ap (λ (n : ℕ). key_at keys n) (sym place) ∙ is in
        not_itself (key_at keys i) (subst (λ key. Precedes (key_at keys i) key) there (subst (λ key. Precedes key (key_at keys (suc i + (k - suc i)))) same (first_on (k - suc i) (omega arith))));
  }

  -- and where it has another, there is none
  pub next_none : key_at keys (suc i + f) ≢ key_at keys i → (j : ℕ) → IsNextSame keys i j → ⊥
  next_none other j is =
      let later = is.later in
      let within = is.within in
      let place : j ≡ suc i + (j - suc i) = omega arith in
      let there : key_at keys (suc i + (j - suc i)) ≡ key_at keys i = ap (λ (n : ℕ). key_at keys n) (sym place) ∙ is.same in
      let low = next.within in
      let long = length-drop (suc i) keys in
      other (tied (key_at keys (suc i + f)) (key_at keys i) (λ below. least.least (suc i + f) (omega arith) below)
      (λ below. least_on (j - suc i) (omega arith) (subst (λ key. Precedes key (key_at keys (suc i + f))) (sym there) below)))

-- there is none after the last place
pub at_end : (keys : List (List ℕ)) (i : ℕ) → length keys - i ≡ 1 → (j : ℕ) → IsNextSame keys i j → ⊥
at_end keys i last j is = let later = is.later in let within = is.within in omega arith

module _ {T R : Type 0} where
  -- the key at a place is the position there
  pub key_at_spot : (spots : List (Spot T R)) (i : ℕ) (spot : Spot T R) → slice_get spots i ≡ Some spot
      → key_at (positions_of spots) i ≡ spot.position
  key_at_spot spots i spot at =
      get_or-map (λ (s : Spot T R). s.position) spots i spot [] (slice_get_within spots i spot at)
      ∙ ap (λ (s : Spot T R). s.position) (get_or_from_slice_get spots i spot spot at)

  -- the keys from a place on
  pub keys_on : (spots : List (Spot T R)) (i : ℕ)
      → map (λ (s : Spot T R). s.position) (drop i spots) ≡ drop i (positions_of spots)
  keys_on spots i = sym (drop-map (λ (s : Spot T R). s.position) i spots)

  pub few_keys : (spots : List (Spot T R)) → length (positions_of spots) ≡ length spots
  few_keys spots = length-map spots (λ (s : Spot T R). s.position)

  module _ (spots now : List (Spot T R)) (i f : ℕ) (same : Bool) (as_before : now ≡ spots) (least : IsFirstLeast (positions_of spots) i)
      (next : IsFirstLeast (map (λ (s : Spot T R). s.position) (drop (i + 1) spots)) f)
      (tells : (a b : Spot T R) → slice_get now i ≡ Some a → slice_get now (i + 1 + f) ≡ Some b → (same ≡ true) ↔ (a.position ≡ b.position)) where
    more : i + 1 ≡ suc i
    more = omega arith

    next_keys : IsFirstLeast (drop (suc i) (positions_of spots)) f
    next_keys = subst (λ (keys : List (List ℕ)). IsFirstLeast keys f) (keys_on spots (i + 1) ∙ ap (λ (n : ℕ). drop n (positions_of spots)) more) next

    within : i + 1 + f < length spots
    within = let low = next_keys.within in let long = length-drop (suc i) (positions_of spots) in let few = few_keys spots in omega arith

    place : i + 1 + f ≡ suc i + f
    place = omega arith

    one : (a : Spot T R) × (slice_get spots i ≡ Some a)
    one = element_at spots i (let low = within in omega arith)

    other : (b : Spot T R) × (slice_get spots (i + 1 + f) ≡ Some b)
    other = element_at spots (i + 1 + f) within

    is_told : (same ≡ true) ↔ (one.0.position ≡ other.0.position)
    is_told = tells one.0 other.0 (ap (λ (l : List (Spot T R)). slice_get l i) as_before ∙ one.1) (ap (λ (l : List (Spot T R)). slice_get l (i + 1 + f)) as_before ∙ other.1)

    key_one : key_at (positions_of spots) i ≡ one.0.position
    key_one = key_at_spot spots i one.0 one.1

    key_other : key_at (positions_of spots) (suc i + f) ≡ other.0.position
    key_other = ap (λ (n : ℕ). key_at (positions_of spots) n) (sym place) ∙ key_at_spot spots (i + 1 + f) other.0 other.1

    pub next_found : same ≡ true → IsNextSame (positions_of spots) i (i + 1 + f)
    next_found is_same = subst (λ (n : ℕ). IsNextSame (positions_of spots) i n) (sym place) (next_here (positions_of spots) i f least next_keys (key_other ∙ sym (is_told.0 is_same) ∙ sym key_one))

    pub next_missing : same ≡ false → (j : ℕ) → IsNextSame (positions_of spots) i j → ⊥
    next_missing apart = next_none (positions_of spots) i f least next_keys (λ e. false≢true (sym apart ∙ is_told.1 (sym key_one ∙ sym e ∙ key_other)))

  -- there is none after the last place
  pub none_after : (spots : List (Spot T R)) (i : ℕ) → length spots - i ≡ 1 → (j : ℕ)
      → IsNextSame (positions_of spots) i j → ⊥
  none_after spots i last = at_end (positions_of spots) i (let few = few_keys spots in omega arith)

  module _ (spots : List (Spot T R)) (points : List Bool) (i : ℕ) (spot : Spot T R) (least : IsFirstLeast (positions_of spots) i) (at : slice_get spots i ≡ Some spot) (node : spot.node < length points) where
    -- at no merge point the place is stepped
    pub chosen_step : get_or points spot.node false ≡ false → (o : Shape) (policy : Policy)
        → AreMergePoints o policy points → IsChoice o policy spots (Step i)
    chosen_step off o policy are =
        steps spot least at (λ point j next.
        let one_each = are.one_each in
        let on = (are.told spot.node (omega arith)).1 point in
        absurd (false≢true (sym off ∙ on)))

    -- nor is it merged where no other has its position
    pub chosen_alone : ((j : ℕ) → IsNextSame (positions_of spots) i j → ⊥) → (o : Shape) (policy : Policy)
        → AreMergePoints o policy points → IsChoice o policy spots (Step i)
    chosen_alone none o policy are = steps spot least at (λ point j next. none j next)

    -- else it is merged with the next one
    pub chosen_merge : (j : ℕ) → get_or points spot.node false ≡ true → IsNextSame (positions_of spots) i j
        → (o : Shape) (policy : Policy) → AreMergePoints o policy points → IsChoice o policy spots (Merge i j)
    chosen_merge j on next o policy are =
        let one_each = are.one_each in
        merges spot least at ((are.told spot.node (omega arith)).0 on) next
