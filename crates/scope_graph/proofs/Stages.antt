-- Ranks that are given one after the other.
use Rattle.std.proofs.Common.{◌≡◌, ◌≢◌, ◌<◌, ◌≤◌, ℕ, zero, suc, true, false, ◌==◌, eq-eqb, List, [], ◌∷◌, ◌⊎◌, inl, inr, get_or, set, replicate, length, length-set, refl, ap, sym, ◌∙◌, subst, arith}
use Rattle.std.proofs.lemmas.Bool.{eqb-true, ne_eqb, cases_lt}
use Rattle.std.proofs.lemmas.List.{get_or-set_same, get_or-set_other, get_or-replicate, length-replicate}
use Rattle.domain_core.specs.Reducible.{IsForwardEdge, IsRanking}
use Rattle.scope_graph.specs.Ranking.{missing, IsDue, IsStage, IsChoice}
use Rattle.lists.specs.TestLaws.{by_test}

-- ---- how many have no rank

missing_here : (count rank : ℕ) (ranks : List ℕ) → rank ≡ count
    → missing count (rank ∷ ranks) ≡ suc (missing count ranks)
missing_here count rank ranks e = rw (eq-eqb rank count e) refl

missing_not : (count rank : ℕ) (ranks : List ℕ) → rank ≢ count → missing count (rank ∷ ranks) ≡ missing count ranks
missing_not count rank ranks other = rw (ne_eqb rank count other) refl

-- at first all
missing_all : (count n : ℕ) → missing count (replicate n count) ≡ n
missing_all count zero = refl
missing_all count (suc n) = missing_here count count (replicate n count) refl ∙ ap (λ (k : ℕ). suc k) (missing_all count n)

-- one fewer where a rank is given
missing_set : (count r : ℕ) (ranks : List ℕ) (n : ℕ) → n < length ranks → get_or ranks n 0 ≡ count → r < count
    → suc (missing count (set ranks n r)) ≡ missing count ranks
missing_set count r [] n low is below = absurd (omega arith)
missing_set count r (rank ∷ ranks) zero low is below =
    ap (λ (k : ℕ). suc k) (missing_not count r ranks (let other : r ≢ count = omega arith in other)) ∙ sym (missing_here count rank ranks is)
missing_set count r (rank ∷ ranks) (suc n) low is below =
    let again = missing_set count r ranks n (omega arith) is below in
    by_test (rank == count)
    (λ e. let same = eqb-true rank count e in let a = missing_here count rank ranks same in let b = missing_here count rank (set ranks n r) same in omega arith)
    (λ e. let other : rank ≢ count = (λ same. let k : true ≡ false = sym (eq-eqb rank count same) ∙ e in cc) in let a = missing_not count rank ranks other in let b = missing_not count rank (set ranks n r) other in omega arith)

-- where none is missing, no node is without
missing_none : (count : ℕ) (ranks : List ℕ) → missing count ranks ≡ 0 → (n : ℕ) → n < length ranks
    → get_or ranks n 0 ≢ count
missing_none count [] none n low = absurd (omega arith)
missing_none count (rank ∷ ranks) none zero low = λ is. let more = missing_here count rank ranks is in absurd (omega arith)
missing_none count (rank ∷ ranks) none (suc n) low =
    by_test (rank == count)
    (λ e. let more = missing_here count rank ranks (eqb-true rank count e) in absurd (omega arith))
    (λ e. let other : rank ≢ count = (λ same. let k : true ≡ false = sym (eq-eqb rank count same) ∙ e in cc) in let same = missing_not count rank ranks other in missing_none count ranks (let z : missing count ranks ≡ 0 = omega arith in z) n (omega arith))

-- where one is missing, some node is without
some_missing : (count : ℕ) (ranks : List ℕ) → 0 < missing count ranks
    → (n : ℕ) × (n < length ranks) × (get_or ranks n 0 ≡ count)
some_missing count [] some = absurd (omega arith)
some_missing count (rank ∷ ranks) some =
    by_test (rank == count)
    (λ e. (0, omega arith, eqb-true rank count e))
    (λ e. let other : rank ≢ count = (λ same. let k : true ≡ false = sym (eq-eqb rank count same) ∙ e in cc) in
    let same = missing_not count rank ranks other in
    let r = some_missing count ranks (omega arith) in (suc r.0, (let low = r.1 in omega arith), r.2))

-- ---- some node without a rank is ready

module _ (count : ℕ) (ranks : List ℕ) (number : ℕ → ℕ) where
  -- of the nodes below k that have none, one has the greatest number
  top_missing : (k : ℕ) → ((n : ℕ) → n < k → get_or ranks n 0 ≢ count) ⊎ ((d : ℕ) × (d < k) × (get_or ranks d 0 ≡ count) × ((n : ℕ) → n < k → get_or ranks n 0 ≡ count → number n ≤ number d))
  top_missing zero = inl (λ n low. absurd (omega arith))
  top_missing (suc k) =
      by_test (get_or ranks k 0 == count)
      (λ e. let here = eqb-true (get_or ranks k 0) count e in
      elim (top_missing k) [
        | inl none ↦ inr (k, omega arith, here, λ n low is. elim (cases_lt n k) [ inl old ↦ absurd (none n old is) | inr new ↦ let same : n ≡ k = omega arith in rw same (omega arith) ])
        | inr (d, low_d, open_d, most) ↦ elim (cases_lt (number d) (number k)) [
          | inl higher ↦ inr (k, omega arith, here, λ n low is. elim (cases_lt n k) [ inl old ↦ let m = most n old is in omega arith | inr new ↦ let same : n ≡ k = omega arith in rw same (omega arith) ])
          | inr lower ↦ inr (d, omega arith, open_d, λ n low is. elim (cases_lt n k) [ inl old ↦ most n old is | inr new ↦ let same : n ≡ k = omega arith in rw same lower ])
        ]
      ])
      (λ e. let other : get_or ranks k 0 ≢ count = (λ same. let t : true ≡ false = sym (eq-eqb (get_or ranks k 0) count same) ∙ e in cc) in
      elim (top_missing k) [
        | inl none ↦ inl (λ n low. elim (cases_lt n k) [ inl old ↦ none n old | inr new ↦ let same : n ≡ k = omega arith in rw same other ])
        | inr (d, low_d, open_d, most) ↦ inr (d, omega arith, open_d, λ n low is. elim (cases_lt n k) [ inl old ↦ most n old is | inr new ↦ let same : n ≡ k = omega arith in absurd (other (rw same at is)) ])
      ])

module _ (Before : ℕ → ℕ → Type 0) (count r : ℕ) (ranks : List ℕ) (s : IsStage Before count r ranks) where
  -- not all can wait
  pub some_ready : r < count → ((u v : ℕ) → Before u v → u < count) → (number : ℕ → ℕ)
      → ((u v : ℕ) → Before u v → number v < number u)
      → ((n : ℕ) → n < count → get_or ranks n 0 ≡ count → IsDue Before (λ k. get_or ranks k 0) r n → ⊥) → ⊥
  some_ready below within number falls none =
      elim (top_missing count ranks number count) [
        | inl all ↦ let left = s.left in let some = some_missing count ranks (omega arith) in all some.0 (let low = some.1 in let long = s.long in omega arith) some.2
        | inr (d, low, free, most) ↦ none d low free (λ u forward.
            let inside = within u d forward in
            elim (s.each u inside) [
              | inl ranked ↦ ranked
              | inr waits ↦ let lower = falls u d forward in let m = most u inside waits in absurd (omega arith)
            ])
      ]

  module _ (below : r < count) (within : (u v : ℕ) → Before u v → u < count) (x : ℕ) (c : IsChoice Before count r ranks x) where
    -- the node has the rank now, and others what they had
    now : get_or (set ranks x r) x 0 ≡ r
    now = let long = s.long in let inside = c.inside in get_or-set_same ranks x r 0 (omega arith)

    still : (n : ℕ) → n ≢ x → get_or (set ranks x r) n 0 ≡ get_or ranks n 0
    still n other = get_or-set_other ranks x n r 0 other

    same_or_not : (m n : ℕ) → (m ≡ n) ⊎ (m ≢ n)
    same_or_not m n = elim (cases_lt m n) [ inl low ↦ inr (λ e. omega arith) | inr high ↦ elim (cases_lt n m) [ inl low ↦ inr (λ e. omega arith) | inr same ↦ inl (omega arith) ] ]

    -- what was ready below is ready still, and the other way
    ready_still : (k n : ℕ) → k ≤ r → IsDue Before (λ m. get_or ranks m 0) k n
        → IsDue Before (λ m. get_or (set ranks x r) m 0) k n
    ready_still k n low ready u forward =
        let was = ready u forward in
        let free = c.open_still in
        let other : u ≢ x = (λ e. let is : get_or ranks u 0 ≡ get_or ranks x 0 = ap (λ (m : ℕ). get_or ranks m 0) e in absurd (omega arith)) in
        rw (still u other) was

    ready_before : (k n : ℕ) → k ≤ r → IsDue Before (λ m. get_or (set ranks x r) m 0) k n
        → IsDue Before (λ m. get_or ranks m 0) k n
    ready_before k n low ready u forward =
        let is = ready u forward in
        elim (same_or_not u x) [
          | inl e ↦ absurd (let at : get_or (set ranks x r) u 0 ≡ get_or (set ranks x r) x 0 = ap (λ (m : ℕ). get_or (set ranks x r) m 0) e in let r_now = now in omega arith)
          | inr other ↦ rw (still u other) at is
        ]

    -- an old rank
    old_rank : (n : ℕ) → n < count → n ≢ x → get_or (set ranks x r) n 0 < suc r → get_or ranks n 0 < r
    old_rank n inside other low = let same = still n other in elim (s.each n inside) [ inl ranked ↦ ranked | inr none ↦ absurd (omega arith) ]

    -- so the next rank can be given
    pub stage_on : IsStage Before count (suc r) (set ranks x r)
    stage_on = record {
      long = length-set ranks x r ∙ s.long;
      left = (let long = s.long in let inside = c.inside in let fewer = missing_set count r ranks x (omega arith) c.open_still below in let left = s.left in omega arith);
      each = λ n inside. elim (same_or_not n x) [
        | inl e ↦ inl (let at : get_or (set ranks x r) n 0 ≡ get_or (set ranks x r) x 0 = ap (λ (m : ℕ). get_or (set ranks x r) m 0) e in let r_now = now in omega arith)
        | inr other ↦ let same = still n other in elim (s.each n inside) [ inl ranked ↦ inl (omega arith) | inr none ↦ inr (same ∙ none) ]
      ];
      once = once;
      ready = λ n inside low. elim (same_or_not n x) [
        | inl e ↦ subst (λ (m : ℕ). IsDue Before (λ k. get_or (set ranks x r) k 0) (get_or (set ranks x r) m 0) m) (sym e) (subst (λ (k : ℕ). IsDue Before (λ m. get_or (set ranks x r) m 0) k x) (sym now) (ready_still r x (omega arith) c.ready))
        | inr other ↦ let was = old_rank n inside other low in subst (λ (k : ℕ). IsDue Before (λ m. get_or (set ranks x r) m 0) k n) (sym (still n other)) (ready_still (get_or ranks n 0) n (omega arith) (s.ready n inside was))
      ];
      least = least;
    }
      where
        once : (m n : ℕ) → m < n → n < count → get_or (set ranks x r) n 0 < suc r
            → get_or (set ranks x r) m 0 ≢ get_or (set ranks x r) n 0
        once m n before inside low e =
            elim (same_or_not n x) [
              | inl same_n ↦
                  let other : m ≢ x = (λ same. omega arith) in
                  let at : get_or (set ranks x r) n 0 ≡ get_or (set ranks x r) x 0 = ap (λ (k : ℕ). get_or (set ranks x r) k 0) same_n in
                  let r_now = now in let was = still m other in
                  elim (s.each m (omega arith)) [ inl ranked ↦ absurd (omega arith) | inr none ↦ absurd (omega arith) ]
              | inr other_n ↦
                  let was = old_rank n inside other_n low in
                  let same = still n other_n in
                  elim (same_or_not m x) [
                    | inl same_m ↦ let at : get_or (set ranks x r) m 0 ≡ get_or (set ranks x r) x 0 = ap (λ (k : ℕ). get_or (set ranks x r) k 0) same_m in let r_now = now in absurd (omega arith)
                    | inr other_m ↦ s.once m n before inside was (sym (still m other_m) ∙ e ∙ same)
                  ]
            ]

        least : (m n : ℕ) → m < n → n < count → get_or (set ranks x r) n 0 < suc r
            → get_or (set ranks x r) n 0 < get_or (set ranks x r) m 0
            → IsDue Before (λ k. get_or (set ranks x r) k 0) (get_or (set ranks x r) n 0) m → ⊥
        least m n before inside low higher ready =
            elim (same_or_not n x) [
              | inl same_n ↦
                  let other : m ≢ x = (λ same. omega arith) in
                  let at : get_or (set ranks x r) n 0 ≡ r = ap (λ (k : ℕ). get_or (set ranks x r) k 0) same_n ∙ now in
                  let was = still m other in
                  elim (s.each m (omega arith)) [
                    | inl ranked ↦ absurd (omega arith)
                    | inr none ↦ c.least m (omega arith) none (ready_before r m (omega arith) (subst (λ (k : ℕ). IsDue Before (λ j. get_or (set ranks x r) j 0) k m) at ready))
                  ]
              | inr other_n ↦
                  let was = old_rank n inside other_n low in
                  let same = still n other_n in
                  let before_ready = ready_before (get_or ranks n 0) m (omega arith) (subst (λ (k : ℕ). IsDue Before (λ j. get_or (set ranks x r) j 0) k m) same ready) in
                  let higher_before : get_or ranks n 0 < get_or ranks m 0 = elim (same_or_not m x) [
                    | inl same_m ↦ let at : get_or ranks m 0 ≡ get_or ranks x 0 = ap (λ (k : ℕ). get_or ranks k 0) same_m in let free = c.open_still in omega arith
                    | inr other_m ↦ let same_m = still m other_m in omega arith
                  ] in
                  s.least m n before inside was higher_before before_ready
            ]

-- before the first rank is given
pub stage_first : (Before : ℕ → ℕ → Type 0) (count : ℕ) → IsStage Before count 0 (replicate count count)
stage_first Before count = record {
  long = length-replicate count count;
  left = (let all = missing_all count count in omega arith);
  each = λ n inside. inr (get_or-replicate count n count 0 inside);
  once = λ m n before inside low. absurd (omega arith);
  ready = λ n inside low. absurd (omega arith);
  least = λ m n before inside low higher ready. omega arith;
}

-- when all are given, where what comes before a node are its predecessors by edges that are no back edges
pub stage_last : (Leads Before : ℕ → ℕ → Type 0) → ((u n : ℕ) → Before u n → IsForwardEdge Leads u n)
    → ((u n : ℕ) → IsForwardEdge Leads u n → Before u n) → (count : ℕ) (ranks : List ℕ)
    → IsStage Before count count ranks → IsRanking Leads count ranks
stage_last Leads Before there all count ranks s = record {
  one_each = s.long;
  within = low;
  once = λ m n before inside. s.once m n before inside (low n inside);
  ready = λ n inside u forward. s.ready n inside (low n inside) u (all u n forward);
  least = λ m n before inside higher ready. s.least m n before inside (low n inside) higher (λ u edge. ready u (there u m edge));
}
  where
    low : (n : ℕ) → n < count → get_or ranks n 0 < count
    low n inside = elim (s.each n inside) [ inl ranked ↦ ranked | inr none ↦ absurd (missing_none count ranks (let left = s.left in let z : missing count ranks ≡ 0 = omega arith in z) n (let long = s.long in omega arith) none) ]
