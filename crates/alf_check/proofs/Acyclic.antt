-- Where no function is on a cycle of calls, the functions have ranks.
--   depth calls n f   how many calls follow one another from f, of the first n
--   settled           no more follow than there are functions but one, since the functions on the way differ
--   has_ranks         so the depth with so many is a rank
use Rattle.std.proofs.Common.{◌≡◌, ◌<◌, ◌≤◌, ◌+◌, ◌-◌, ℕ, zero, suc, max, Bool, true, false, List, [], ◌∷◌, length, get_or, set, replicate, length-set, Contains, inl, inr, refl, ap, sym, ◌∙◌, subst, zero-add, arith}
use Rattle.std.proofs.Math.Nat.{le-max_left, le-max_right}
use Rattle.std.proofs.lemmas.List.{length-replicate}
use Rattle.std.proofs.lemmas.List.Sums.{count_by-le-length}
use Rattle.lists.specs.MemberLaws.{no_member, first_member, further_member, first_or_further}
use Rattle.graph_walks.specs.Walks.{stays, goes_on}
use Rattle.graph_walks.specs.MarkedNodes.{IsMarked, marked_count}
use Rattle.graph_walks.specs.MarkedNodeLaws.{by_mark, unmarked_is, marked_either, marked_set, none_marked}
use Rattle.graph_walks.specs.Calls.{Calls, CallsWithin, OnCycle, Reaches}
use Rattle.graph_walks.specs.CallLaws.{caller_low}
use Rattle.alf_check.specs.Checking.{HasRanks}

-- one more than the greatest of these, or 0 where there is none
abbrev above : (ℕ → ℕ) → List ℕ → ℕ
above over [] = 0
above over (g ∷ gs) = max (suc (over g)) (above over gs)

is_above : (over : ℕ → ℕ) (gs : List ℕ) (g : ℕ) → Contains gs g → over g < above over gs
is_above over [] g c = no_member g c
is_above over (h ∷ gs) g c = first_or_further h gs g c
    (λ same. let first = le-max_left (suc (over h)) (above over gs) in let e = ap over same in omega arith)
    (λ further. let low = is_above over gs g further in let rest = le-max_right (suc (over h)) (above over gs) in omega arith)

above_low : (over : ℕ → ℕ) (n : ℕ) (gs : List ℕ) → ((g : ℕ) → over g ≤ n) → above over gs ≤ suc n
above_low over n [] low = omega arith
above_low over n (g ∷ gs) low = let first = low g in let rest = above_low over n gs low in omega arith

above_same : (over other : ℕ → ℕ) (gs : List ℕ) → ((g : ℕ) → Contains gs g → over g ≡ other g)
    → above over gs ≡ above other gs
above_same over other [] same = refl
above_same over other (g ∷ gs) same =
    ap (λ (n : ℕ). max (suc n) (above over gs)) (same g (first_member g gs)) ∙ ap (max (suc (other g))) (above_same over other gs (λ h c. same h (further_member g gs h c)))

above_none : (over : ℕ → ℕ) (gs : List ℕ) → ((g : ℕ) → Contains gs g → ⊥) → above over gs ≡ 0
above_none over [] none = refl
above_none over (g ∷ gs) none = absurd (none g (first_member g gs))

abbrev depth : List (List ℕ) → ℕ → ℕ → ℕ
depth calls zero f = 0
depth calls (suc n) f = above (depth calls n) (get_or calls f [])

depth_low : (calls : List (List ℕ)) (n f : ℕ) → depth calls n f ≤ n
depth_low calls zero f = omega arith
depth_low calls (suc n) f = above_low (depth calls n) n (get_or calls f []) (depth_low calls n)

-- no more are marked than there are
few_marked : (marks : List Bool) → marked_count marks ≤ length marks
few_marked marks = count_by-le-length (λ (mark : Bool). mark) marks

-- what a function gives for numbers in order
abbrev listed : (ℕ → ℕ) → ℕ → ℕ → List ℕ
listed rank n zero = []
listed rank n (suc count) = rank n ∷ listed rank (suc n) count

count_listed : (rank : ℕ → ℕ) (n count : ℕ) → length (listed rank n count) ≡ count
count_listed rank n zero = refl
count_listed rank n (suc count) = ap suc (count_listed rank (suc n) count)

listed_at : (rank : ℕ → ℕ) (n count k : ℕ) → k < count → get_or (listed rank n count) k 0 ≡ rank (n + k)
listed_at rank n zero k low = absurd (omega arith)
listed_at rank n (suc count) zero low = ap rank (let e : n ≡ n + 0 = omega arith in e)
listed_at rank n (suc count) (suc k) low = listed_at rank (suc n) count k (omega arith) ∙ ap rank (let e : suc n + k ≡ n + suc k = omega arith in e)

module _ (calls : List (List ℕ)) (within : CallsWithin calls) (falls : (f : ℕ) → OnCycle calls f → ⊥) where
  one : (f g : ℕ) → Calls calls f g → Reaches calls f g
  one f g call = record { last = f; path = f ∷ []; walk = stays; call = call }

  on : (f g h : ℕ) → Reaches calls f g → Calls calls g h → Reaches calls f h
  on f g h way call = record { last = g; path = _; walk = goes_on way.walk way.call; call = call }

  -- calls lead from each of the marked functions to f
  abbrev AllReach : List Bool → ℕ → Type 0
  AllReach marks f = (g : ℕ) → IsMarked marks g → Reaches calls g f

  -- with f marked, calls lead from each to what f calls
  all_reach : (marks : List Bool) (f h : ℕ) → AllReach marks f → Calls calls f h → AllReach (set marks f true) h
  all_reach marks f h reach call g is = elim (marked_either marks f g is) [
    | inl before ↦ on g f h (reach g before) call
    | inr same ↦ subst (λ (k : ℕ). Reaches calls k h) (sym same) (one f h call)
  ]

  one_more : (marks : List Bool) (f : ℕ) → length marks ≡ length calls → f < length calls → (IsMarked marks f → ⊥)
      → marked_count (set marks f true) ≡ suc (marked_count marks)
  one_more marks f long low other = marked_set marks f (omega arith) (unmarked_is marks f other)

  -- where all but one are marked, the one calls none
  calls_none : (marks : List Bool) (f : ℕ) → length marks ≡ length calls → length calls ≤ suc (marked_count marks)
      → AllReach marks f → f < length calls
      → (IsMarked marks f → ⊥) → (h : ℕ) → Calls calls f h → ⊥
  calls_none marks f long enough reach low other h call =
      let more = one_more marks f long low other in
      let all = set marks f true in
      let there : length all ≡ length calls = length-set marks f true ∙ long in
      by_mark all h (λ is. falls h (all_reach marks f h reach call h is)) (λ outside.
      let again = one_more all h there (within f h call) outside in
      let few = few_marked (set all h true) in
      let count = length-set all h true in absurd (omega arith))

  settled : (n : ℕ) (marks : List Bool) (f : ℕ) → length marks ≡ length calls
      → length calls ≤ suc (n + marked_count marks) → AllReach marks f → f < length calls
      → depth calls n f ≡ depth calls (suc n) f
  settled zero marks f long enough reach low = by_mark marks f (λ is. absurd (falls f (reach f is)))
      (λ other. sym (above_none (depth calls zero) (get_or calls f []) (calls_none marks f long (omega arith) reach low other)))
  settled (suc n) marks f long enough reach low = by_mark marks f (λ is. absurd (falls f (reach f is)))
      (λ other.
      let more = one_more marks f long low other in
      above_same (depth calls n) (depth calls (suc n)) (get_or calls f [])
      (λ h call. settled n (set marks f true) h (length-set marks f true ∙ long) (omega arith) (all_reach marks f h reach call) (within f h call)))

  -- the most calls that follow one another
  abbrev most : ℕ
  most = length calls - 1

  abbrev rank : ℕ → ℕ
  rank = depth calls most

  rank_falls : (f g : ℕ) → Calls calls f g → rank g < rank f
  rank_falls f g call =
      let low = caller_low calls f g call in
      let none = replicate (length calls) false in
      let enough : length calls ≤ suc (most + marked_count none) = omega arith in
      let same : rank f ≡ above rank (get_or calls f []) = settled most none f (length-replicate (length calls) false) enough (λ k is. absurd (none_marked (length calls) k is)) low in
      let less : rank g < above rank (get_or calls f []) = is_above rank (get_or calls f []) g call in
      omega (arith, same, less)

  rank_at : (f : ℕ) → f < length calls → get_or (listed rank 0 (length calls)) f 0 ≡ rank f
  rank_at f low = listed_at rank 0 (length calls) f low ∙ ap rank (zero-add f)

  pub has_ranks : HasRanks calls
  has_ranks = record {
    ranks = listed rank 0 (length calls);
    ranked = record {
      one_each = count_listed rank 0 (length calls);
      within = λ f low. let at = rank_at f low in let few : rank f ≤ length calls - 1 = depth_low calls most f in omega arith;
      falls = λ f g call.
          let here = rank_at f (caller_low calls f g call) in
          let there = rank_at g (within f g call) in
          let less = rank_falls f g call in omega arith;
    };
  }
