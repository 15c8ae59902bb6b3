-- The stretches that a walk along the trace finds are its longest parts.
--   open_is, open_one            the open stretch is the longest prefix that is inside, and there is one alone
--   closed_found, closed_all     the closed stretches are those that something newer follows
--   found_stretch, stretch_found the stretches found are the longest parts
--   stretch_turned               a stretch of a list, read backwards, is one of the list read backwards
--   stretch_same                 two properties that say the same have the same stretches
use Rattle.std.proofs.Common.{◌≡◌, ◌≢◌, ℕ, Bool, true, false, List, [], ◌∷◌, ◌++◌, ◌⊎◌, inl, inr, Contains, reverse, cond, refl, ap, sym, ◌∙◌, subst}
use Rattle.std.proofs.lemmas.List.{append_assoc, reverse-append, reverse-reverse}
use Rattle.lists.specs.MemberLaws.{no_member, first_member, further_member}
use Rattle.lists.specs.TestLaws.{by_test}
use Rattle.graph_walks.specs.ListLaws.{contains_cases}
use Rattle.domain_core.specs.OutlineLaws.{of_reverse}
use Rattle.domain_core.specs.Stretches.{Passes, AreAll, LastIsNot, FirstIsNot, IsStretch, open_stretch, with_closed, closed_stretches, stretches}

-- ---- a stretch before others

-- what is among a stretch and others is the stretch or one of the others
pub either_closed : (opened : List ℕ) (others : List (List ℕ)) (e : List ℕ) → Contains (with_closed opened others) e
    → ((e ≡ opened) × (opened ≢ [])) ⊎ Contains others e
either_closed [] others e there = inr there
either_closed (n ∷ rest) others e there = elim (contains_cases (n ∷ rest) others e there) [ inl same ↦ inl (same, (λ none. let bad : n ∷ rest ≡ [] = none in cc)) | inr later ↦ inr later ]

-- the others are among it, and the stretch where it is not empty
pub further_closed : (opened : List ℕ) (others : List (List ℕ)) (e : List ℕ) → Contains others e
    → Contains (with_closed opened others) e
further_closed [] others e there = there
further_closed (n ∷ rest) others e there = further_member (n ∷ rest) others e there

pub first_closed : (opened : List ℕ) (others : List (List ℕ)) → opened ≢ []
    → Contains (with_closed opened others) opened
first_closed [] others some = absurd (some refl)
first_closed (n ∷ rest) others some = first_member (n ∷ rest) others

-- ---- the last element

-- one more element leaves the last
pub last_more : (Inside : ℕ → Type 0) (n m : ℕ) (ms : List ℕ) → LastIsNot Inside (m ∷ ms)
    → LastIsNot Inside (n ∷ m ∷ ms)
last_more Inside n m ms last [] k e is = absurd (let bad : m ∷ ms ≡ [] = cc in cc)
last_more Inside n m ms last (f ∷ front) k e is = last front k (let tails : m ∷ ms ≡ front ++ k ∷ [] = cc in tails) is

-- and one less too
pub last_less : (Inside : ℕ → Type 0) (n m : ℕ) (ms : List ℕ) → LastIsNot Inside (n ∷ m ∷ ms)
    → LastIsNot Inside (m ∷ ms)
last_less Inside n m ms last front k e is = last (n ∷ front) k (ap (λ (xs : List ℕ). n ∷ xs) e) is

-- of one element
pub last_one : (Inside : ℕ → Type 0) (n : ℕ) → (Inside n → ⊥) → LastIsNot Inside (n ∷ [])
last_one Inside n other [] k e is = other (subst Inside (let same : k ≡ n = cc in same) is)
last_one Inside n other (f ∷ []) k e is = absurd (let bad : [] ≡ k ∷ [] = cc in cc)
last_one Inside n other (f ∷ g ∷ front) k e is = absurd (let bad : [] ≡ g ∷ front ++ k ∷ [] = cc in cc)

pub last_none : (Inside : ℕ → Type 0) → LastIsNot Inside []
last_none Inside [] k e is = absurd (cc)
last_none Inside (f ∷ front) k e is = absurd (cc)

module _ (inside : ℕ → Bool) where
  -- a longest prefix that is inside
  pub record IsPrefix (xs e : List ℕ) : Type 0 where
    pub rest : List ℕ
    pub is : xs ≡ e ++ rest
    pub all : AreAll (Passes inside) e
    pub ends : FirstIsNot (Passes inside) rest

  -- a stretch that something newer follows
  record IsLater (xs e : List ℕ) : Type 0 where
    pub newest : ℕ
    pub newer : List ℕ
    pub rest : List ℕ
    pub is : xs ≡ newest ∷ newer ++ (e ++ rest)
    pub some : e ≢ []
    pub all : AreAll (Passes inside) e
    pub starts : LastIsNot (Passes inside) (newest ∷ newer)
    pub ends : FirstIsNot (Passes inside) rest

  both_tests : (n : ℕ) → inside n ≡ false → Passes inside n → ⊥
  both_tests n clear is = let e : false ≡ true = sym clear ∙ is in cc

  -- the open stretch is such a prefix
  pub open_is : (xs : List ℕ) → IsPrefix xs (open_stretch inside xs)
  open_is [] = record { rest = []; is = refl; all = λ n there. no_member n there; ends = λ n rest e is. let bad : [] ≡ n ∷ rest = e in absurd (cc) }
  open_is (n ∷ past) =
      by_test (inside n)
      (λ is. let r = open_is past in subst (λ (b : Bool). IsPrefix (n ∷ past) (cond b (n ∷ open_stretch inside past) [])) (sym is) (record {
        rest = r.rest;
        is = ap (λ (xs : List ℕ). n ∷ xs) r.is;
        all = λ m there. elim (contains_cases n (open_stretch inside past) m there) [ inl e ↦ subst (λ (k : ℕ). Passes inside k) (sym e) is | inr later ↦ r.all m later ];
        ends = r.ends;
      }))
      (λ clear. subst (λ (b : Bool). IsPrefix (n ∷ past) (cond b (n ∷ open_stretch inside past) [])) (sym clear) (record {
        rest = n ∷ past;
        is = refl;
        all = λ m there. no_member m there;
        ends = λ m rest e is. both_tests n clear (subst (λ (k : ℕ). Passes inside k) (let same : m ≡ n = cc in same) is);
      }))

  -- and there is no other
  pub open_one : (xs e : List ℕ) → IsPrefix xs e → e ≡ open_stretch inside xs
  open_one [] [] r = refl
  open_one [] (y ∷ e) r = absurd (let bad : [] ≡ y ∷ e ++ r.rest = r.is in cc)
  open_one (n ∷ past) [] r =
      by_test (inside n) (λ is. absurd (r.ends n past (sym r.is) is)) (λ clear. rw clear refl)
  open_one (n ∷ past) (y ∷ e) r =
      let first : y ≡ n = (let whole : n ∷ past ≡ y ∷ e ++ r.rest = r.is in cc) in
      let tail : past ≡ e ++ r.rest = (let whole : n ∷ past ≡ y ∷ e ++ r.rest = r.is in cc) in
      let is : inside n ≡ true = subst (λ (k : ℕ). Passes inside k) first (r.all y (first_member y e)) in
      let more = open_one past e (record { rest = r.rest; is = tail; all = λ m there. r.all m (further_member y e m there); ends = r.ends }) in
      rw is (ap (λ (k : ℕ). k ∷ e) first ∙ ap (λ (xs : List ℕ). n ∷ xs) more)

  -- something newer may stand before
  later_on : (n : ℕ) (past e : List ℕ) → IsLater past e → IsLater (n ∷ past) e
  later_on n past e r = record {
    newest = n;
    newer = r.newest ∷ r.newer;
    rest = r.rest;
    is = ap (λ (xs : List ℕ). n ∷ xs) r.is;
    some = r.some;
    all = r.all;
    starts = last_more (Passes inside) n r.newest r.newer r.starts;
    ends = r.ends;
  }

  -- the closed stretches are those that something newer follows
  closed_found : (xs e : List ℕ) → Contains (closed_stretches inside xs) e → IsLater xs e
  closed_found [] e there = no_member e there
  closed_found (n ∷ past) e there =
      by_test (inside n)
      (λ is. later_on n past e (closed_found past e (rw is at there)))
      (λ clear. let found : Contains (with_closed (open_stretch inside past) (closed_stretches inside past)) e = rw clear at there in
      elim (either_closed (open_stretch inside past) (closed_stretches inside past) e found) [
        | inl same ↦ let r = open_is past in
            subst (λ (xs : List ℕ). IsLater (n ∷ past) xs) (sym same.0) (record {
              newest = n;
              newer = [];
              rest = r.rest;
              is = ap (λ (xs : List ℕ). n ∷ xs) r.is;
              some = same.1;
              all = r.all;
              starts = last_one (Passes inside) n (both_tests n clear);
              ends = r.ends;
            })
        | inr older ↦ later_on n past e (closed_found past e older)
      ])

  -- and all of them
  closed_all : (xs e : List ℕ) (newest : ℕ) (newer rest : List ℕ) → xs ≡ newest ∷ newer ++ (e ++ rest) → e ≢ []
      → AreAll (Passes inside) e
      → LastIsNot (Passes inside) (newest ∷ newer) → FirstIsNot (Passes inside) rest → Contains (closed_stretches inside xs) e
  closed_all [] e newest newer rest is some all starts ends = absurd (let bad : [] ≡ newest ∷ newer ++ (e ++ rest) = is in cc)
  closed_all (n ∷ past) e newest [] rest is some all starts ends =
      let first : newest ≡ n = (let whole : n ∷ past ≡ newest ∷ e ++ rest = is in cc) in
      let tail : past ≡ e ++ rest = (let whole : n ∷ past ≡ newest ∷ e ++ rest = is in cc) in
      let same = open_one past e (record { rest = rest; is = tail; all = all; ends = ends }) in
      by_test (inside n) (λ yes_in. absurd (starts [] newest refl (subst (λ (k : ℕ). Passes inside k) (sym first) yes_in)))
      (λ clear. rw clear (subst (λ (xs : List ℕ). Contains (with_closed (open_stretch inside past) (closed_stretches inside past)) xs) (sym same)
      (first_closed (open_stretch inside past) (closed_stretches inside past) (subst (λ (xs : List ℕ). xs ≢ []) same some))))
  closed_all (n ∷ past) e newest (m ∷ newer) rest is some all starts ends =
      let tail : past ≡ m ∷ newer ++ (e ++ rest) = (let whole : n ∷ past ≡ newest ∷ m ∷ newer ++ (e ++ rest) = is in cc) in
      let older = closed_all past e m newer rest tail some all (last_less (Passes inside) newest m newer starts) ends in
      by_test (inside n) (λ yes_in. rw yes_in older) (λ clear. rw clear (further_closed (open_stretch inside past) (closed_stretches inside past) e older))

  -- what is found is a stretch
  pub found_stretch : (xs e : List ℕ) → Contains (stretches inside xs) e → IsStretch (Passes inside) xs e
  found_stretch xs e there =
      elim (either_closed (open_stretch inside xs) (closed_stretches inside xs) e there) [
        | inl same ↦ let r = open_is xs in
            subst (λ (ys : List ℕ). IsStretch (Passes inside) xs ys) (sym same.0) (record {
              earlier = [];
              later = r.rest;
              is = r.is;
              some = same.1;
              all = r.all;
              starts = last_none (Passes inside);
              ends = r.ends;
            })
        | inr older ↦ let r = closed_found xs e older in
            record { earlier = r.newest ∷ r.newer; later = r.rest; is = r.is; some = r.some; all = r.all; starts = r.starts; ends = r.ends }
      ]

  -- and each stretch is found
  pub stretch_found : (xs e : List ℕ) → IsStretch (Passes inside) xs e → Contains (stretches inside xs) e
  stretch_found xs e s = by_earlier s.earlier s.is s.starts
    where
      by_earlier : (earlier : List ℕ) → xs ≡ earlier ++ (e ++ s.later) → LastIsNot (Passes inside) earlier
          → Contains (stretches inside xs) e
      by_earlier [] is starts =
          let same = open_one xs e (record { rest = s.later; is = is; all = s.all; ends = s.ends }) in
          subst (λ (ys : List ℕ). Contains (stretches inside xs) ys) (sym same)
          (first_closed (open_stretch inside xs) (closed_stretches inside xs) (subst (λ (ys : List ℕ). ys ≢ []) same s.some))
      by_earlier (n ∷ newer) is starts =
          further_closed (open_stretch inside xs) (closed_stretches inside xs) e (closed_all xs e n newer s.later is s.some s.all starts s.ends)

-- a list that is empty when read backwards is empty
turned_empty : (xs : List ℕ) → reverse xs ≡ [] → xs ≡ []
turned_empty xs e = sym (reverse-reverse xs) ∙ ap (λ (ys : List ℕ). reverse ys) e

-- a stretch of a list, read backwards, is one of the list read backwards
pub stretch_turned : (Inside : ℕ → Type 0) (xs e : List ℕ) → IsStretch Inside xs e
    → IsStretch Inside (reverse xs) (reverse e)
stretch_turned Inside xs e s = record {
  earlier = reverse s.later;
  later = reverse s.earlier;
  is = ap (λ (ys : List ℕ). reverse ys) s.is ∙ reverse-append s.earlier (e ++ s.later) ∙ ap (λ (ys : List ℕ). ys ++ reverse s.earlier) (reverse-append e s.later) ∙ append_assoc (reverse s.later) (reverse e) (reverse s.earlier);
  some = λ none. s.some (turned_empty e none);
  all = λ n there. s.all n (of_reverse e n there);
  starts = λ front n same. s.ends n (reverse front) (sym (reverse-reverse s.later) ∙ ap (λ (ys : List ℕ). reverse ys) same ∙ reverse-append front (n ∷ []));
  ends = λ n rest same. s.starts (reverse rest) n (sym (reverse-reverse s.earlier) ∙ ap (λ (ys : List ℕ). reverse ys) same ∙ reverse-append (n ∷ []) rest);
}

-- two properties that say the same have the same stretches
pub stretch_same : (Inside Other : ℕ → Type 0) → ((n : ℕ) → Inside n → Other n) → ((n : ℕ) → Other n → Inside n)
    → (xs e : List ℕ) → IsStretch Inside xs e → IsStretch Other xs e
stretch_same Inside Other to from xs e s = record {
  earlier = s.earlier;
  later = s.later;
  is = s.is;
  some = s.some;
  all = λ n there. to n (s.all n there);
  starts = λ front n same is. s.starts front n same (from n is);
  ends = λ n rest same is. s.ends n rest same (from n is);
}
