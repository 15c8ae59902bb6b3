-- What follows from the definitions on marks.
--   by_mark          a node is marked or not, both never both, and unmarked_is without a mark where it is not
--   marked_low       a marked node is one of the marks
--   marked_kept      one more mark keeps the others, marked_new is one, and marked_either marks no other
--   none_marked      where marks are made, none is marked
--   marked_most      where marks are kept no fewer are marked, marked_more more where there is a new one, and marked_some not 0 where there is one
--   barred_by_one    where one node alone is marked, it lies on each walk that is barred
use Rattle.std.proofs.Common.{◌≡◌, ◌<◌, ◌≤◌, ℕ, zero, suc, Bool, true, false, cond, List, [], ◌∷◌, ◌⊎◌, inl, inr, Contains, get_or, set, replicate, length, length-set, refl, ap, sym, ◌∙◌, subst, arith}
use Rattle.std.proofs.lemmas.List.{get_or-set_same}
use Rattle.std.proofs.lemmas.List.Sums.{sum_by-cons}
use Rattle.lists.specs.TestLaws.{by_test}
use Rattle.graph_walks.specs.Walks.{Walk, goes_on}
use Rattle.graph_walks.specs.MarkedNodes.{IsMarked, KeepsMarks, marked_count, IsBarred}

-- a node is marked or not
pub by_mark : {A : Type 0} (marks : List Bool) (n : ℕ) → (IsMarked marks n → A) → ((IsMarked marks n → ⊥) → A) → A
by_mark marks n if_marked if_not = by_test (get_or marks n false) if_marked (λ clear. if_not (λ is. let e : false ≡ true = sym clear ∙ is in cc))

-- and not both
pub both : (marks : List Bool) (n : ℕ) → get_or marks n false ≡ false → IsMarked marks n → ⊥
both marks n clear is = let e : false ≡ true = sym clear ∙ is in cc

-- a node that is not marked has no mark
pub unmarked_is : (marks : List Bool) (n : ℕ) → (IsMarked marks n → ⊥) → get_or marks n false ≡ false
unmarked_is marks n other = by_test (get_or marks n false) (λ is. absurd (other is)) (λ clear. clear)

-- a marked node is one of the marks
pub marked_low : (marks : List Bool) (n : ℕ) → IsMarked marks n → n < length marks
marked_low [] n h = absurd (let e : false ≡ true = h in cc)
marked_low (mark ∷ marks) zero h = omega arith
marked_low (mark ∷ marks) (suc n) h = let low = marked_low marks n h in omega arith

-- one more mark keeps the others
pub marked_kept : (marks : List Bool) (m : ℕ) → KeepsMarks marks (set marks m true)
marked_kept [] m n h = h
marked_kept (mark ∷ marks) zero zero h = refl
marked_kept (mark ∷ marks) zero (suc n) h = h
marked_kept (mark ∷ marks) (suc m) zero h = h
marked_kept (mark ∷ marks) (suc m) (suc n) h = marked_kept marks m n h

-- and marks no other node
pub marked_either : (marks : List Bool) (m n : ℕ) → IsMarked (set marks m true) n → IsMarked marks n ⊎ (n ≡ m)
marked_either [] m n h = inl h
marked_either (mark ∷ marks) zero zero h = inr refl
marked_either (mark ∷ marks) zero (suc n) h = inl h
marked_either (mark ∷ marks) (suc m) zero h = inl h
marked_either (mark ∷ marks) (suc m) (suc n) h = elim (marked_either marks m n h) [ inl a ↦ inl a | inr e ↦ inr (ap (λ (k : ℕ). suc k) e) ]

-- but this one
pub marked_new : (marks : List Bool) (m : ℕ) → m < length marks → IsMarked (set marks m true) m
marked_new marks m low = get_or-set_same marks m true false low

-- where marks are made, none is marked
pub none_marked : (count n : ℕ) → IsMarked (replicate count false) n → ⊥
none_marked zero n h = let e : false ≡ true = h in cc
none_marked (suc count) zero h = let e : false ≡ true = h in cc
none_marked (suc count) (suc n) h = none_marked count n h

-- a first mark counts one
pub counted : (marks : List Bool) → marked_count (true ∷ marks) ≡ suc (marked_count marks)
counted marks = let sum = sum_by-cons (λ (mark : Bool). cond mark 1 0) true marks in omega arith

-- and a first node without one none
pub uncounted : (marks : List Bool) → marked_count (false ∷ marks) ≡ marked_count marks
uncounted marks = let sum = sum_by-cons (λ (mark : Bool). cond mark 1 0) false marks in omega arith

-- where marks are kept, no fewer are marked
pub marked_most : (old new : List Bool) → length new ≡ length old → KeepsMarks old new
    → marked_count old ≤ marked_count new
marked_most [] [] long kept = omega arith
marked_most [] (y ∷ new) long kept = absurd (omega arith)
marked_most (x ∷ old) [] long kept = absurd (omega arith)
marked_most (true ∷ old) (true ∷ new) long kept = let most = marked_most old new (omega arith) (λ n is. kept (suc n) is) in omega (arith, counted old, counted new, uncounted old, uncounted new)
marked_most (true ∷ old) (false ∷ new) long kept = absurd (let e : false ≡ true = kept 0 refl in cc)
marked_most (false ∷ old) (true ∷ new) long kept = let most = marked_most old new (omega arith) (λ n is. kept (suc n) is) in omega (arith, counted old, counted new, uncounted old, uncounted new)
marked_most (false ∷ old) (false ∷ new) long kept = let most = marked_most old new (omega arith) (λ n is. kept (suc n) is) in omega (arith, counted old, counted new, uncounted old, uncounted new)

-- a new mark counts one more
pub marked_set : (marks : List Bool) (m : ℕ) → m < length marks → get_or marks m false ≡ false
    → marked_count (set marks m true) ≡ suc (marked_count marks)
marked_set [] m low clear = absurd (omega arith)
marked_set (true ∷ marks) zero low clear = absurd (let e : true ≡ false = clear in cc)
marked_set (false ∷ marks) zero low clear = omega (arith, counted marks, uncounted marks)
marked_set (true ∷ marks) (suc m) low clear = let more = marked_set marks m (omega arith) clear in omega (arith, counted (set marks m true), counted marks, uncounted (set marks m true), uncounted marks)
marked_set (false ∷ marks) (suc m) low clear = let more = marked_set marks m (omega arith) clear in omega (arith, counted (set marks m true), counted marks, uncounted (set marks m true), uncounted marks)

-- so more are marked where there is a new one
pub marked_more : (old new : List Bool) (m : ℕ) → length new ≡ length old → KeepsMarks old new
    → get_or old m false ≡ false → IsMarked new m → marked_count old < marked_count new
marked_more old new m long kept clear is =
    let low = marked_low new m is in
    let more = marked_set old m (omega arith) clear in
    let most =
    marked_most (set old m true) new (long ∙ sym (length-set old m true))
    (λ n marked. elim (marked_either old m n marked) [ inl a ↦ kept n a | inr e ↦ subst (λ (k : ℕ). IsMarked new k) (sym e) is ])
    in
    omega arith

-- where one node alone is marked, it lies on each walk that is barred
pub barred_by_one : (Leads : ℕ → ℕ → Type 0) (marks : List Bool) (a b h : ℕ) → ((n : ℕ) → IsMarked marks n → n ≡ h)
    → IsBarred Leads marks a b
    → (path : List ℕ) → Walk Leads a b path → Contains path h
barred_by_one Leads marks a b h only bars path walk =
    let met = bars path walk in subst (λ (n : ℕ). Contains path n) (only met.0 met.2) met.1
