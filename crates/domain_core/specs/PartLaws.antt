-- The parts that a walk along the trace finds are those of the definition.
--   found_part, part_found   the parts found are those of the trace
use Rattle.std.proofs.Common.{◌≡◌, ◌≢◌, ℕ, Bool, true, false, List, [], ◌∷◌, ◌++◌, inl, inr, Contains, refl, ap, sym, ◌∙◌, subst}
use Rattle.lists.specs.MemberLaws.{no_member, first_member, further_member}
use Rattle.lists.specs.TestLaws.{by_test}
use Rattle.graph_walks.specs.ListLaws.{contains_cases}
use Rattle.domain_core.specs.Stretches.{Passes, AreAll, LastIsNot, with_closed}
use Rattle.domain_core.specs.StretchLaws.{either_closed, further_closed, first_closed, last_more, last_less, last_one, last_none}
use Rattle.domain_core.specs.Parts.{further, open_part, closed_parts, parts, IsPart}

-- a list with an element more is not empty
not_nothing : (xs : List ℕ) (n : ℕ) → xs ++ n ∷ [] ≢ []
not_nothing [] n e = cc
not_nothing (x ∷ xs) n e = cc

-- a node before a part that is not empty
further_is : (n : ℕ) (part : List ℕ) → part ≢ [] → further n part ≡ n ∷ part
further_is n [] some = absurd (some refl)
further_is n (m ∷ part) some = refl

module _ (begins goes : ℕ → Bool) (apart : (n : ℕ) → goes n ≡ true → begins n ≡ false) where
  -- the open part, by what is before it
  record IsOpen (xs p : List ℕ) : Type 0 where
    pub others : List ℕ
    pub first : ℕ
    pub older : List ℕ
    pub is : xs ≡ others ++ first ∷ older
    pub part_is : p ≡ others ++ first ∷ []
    pub all : AreAll (Passes goes) others
    pub starts : Passes begins first

  -- a part that something newer follows
  record IsLater (xs p : List ℕ) : Type 0 where
    pub newest : ℕ
    pub newer : List ℕ
    pub opened : List ℕ
    pub is : xs ≡ newest ∷ newer ++ opened
    pub part : IsOpen opened p
    pub ends : LastIsNot (Passes goes) (newest ∷ newer)

  -- what is found open is such a part
  open_found : (xs : List ℕ) → open_part begins goes xs ≢ [] → IsOpen xs (open_part begins goes xs)
  open_found [] some = absurd (some refl)
  open_found (n ∷ past) some =
      by_test (begins n)
      (λ is. record { others = []; first = n; older = past; is = refl; part_is = rw is refl; all = λ m there. no_member m there; starts = is })
      (λ clear. by_test (goes n)
      (λ on. by_rest (λ more. open_found past more) (open_part begins goes past) refl clear on)
      (λ stop. absurd (some (rw (clear, stop) refl))))
    where
      by_rest : (open_part begins goes past ≢ [] → IsOpen past (open_part begins goes past)) → (rest : List ℕ)
          → open_part begins goes past ≡ rest → begins n ≡ false → goes n ≡ true
          → IsOpen (n ∷ past) (open_part begins goes (n ∷ past))
      by_rest again [] e clear on = absurd (some (rw (clear, on, e) refl))
      by_rest again (m ∷ rest) e clear on =
          let r = again (λ none. let bad : m ∷ rest ≡ [] = sym e ∙ none in cc) in
          record {
            others = n ∷ r.others;
            first = r.first;
            older = r.older;
            is = ap (λ (xs : List ℕ). n ∷ xs) r.is;
            part_is = rw (clear, on) (further_is n (open_part begins goes past) (λ none. let bad : m ∷ rest ≡ [] = sym e ∙ none in cc) ∙ ap (λ (xs : List ℕ). n ∷ xs) r.part_is);
            all = λ k there. elim (contains_cases n r.others k there) [ inl same ↦ subst (λ (j : ℕ). Passes goes j) (sym same) on | inr later ↦ r.all k later ];
            starts = r.starts;
          }

  -- and there is no other
  open_one : (others : List ℕ) (first : ℕ) (older xs : List ℕ) → xs ≡ others ++ first ∷ older
      → AreAll (Passes goes) others → Passes begins first
      → open_part begins goes xs ≡ others ++ first ∷ []
  open_one [] first older xs e all starts = rw (e, starts) refl
  open_one (n ∷ others) first older xs e all starts =
      let on : goes n ≡ true = all n (first_member n others) in
      let more = open_one others first older (others ++ first ∷ older) refl (λ k there. all k (further_member n others k there)) starts in
      rw (e, apart n on, on) (further_is n (open_part begins goes (others ++ first ∷ older)) (λ none. not_nothing others first (sym more ∙ none)) ∙ ap (λ (xs : List ℕ). n ∷ xs) more)

  open_is : (xs p : List ℕ) → IsOpen xs p → open_part begins goes xs ≡ p
  open_is xs p r = open_one r.others r.first r.older xs r.is r.all r.starts ∙ sym r.part_is

  open_some : (xs p : List ℕ) → IsOpen xs p → p ≢ []
  open_some xs p r none = not_nothing r.others r.first (sym r.part_is ∙ none)

  -- something newer may stand before
  later_on : (n : ℕ) (past p : List ℕ) → IsLater past p → IsLater (n ∷ past) p
  later_on n past p r = record {
    newest = n;
    newer = r.newest ∷ r.newer;
    opened = r.opened;
    is = ap (λ (xs : List ℕ). n ∷ xs) r.is;
    part = r.part;
    ends = last_more (Passes goes) n r.newest r.newer r.ends;
  }

  both_tests : (n : ℕ) → goes n ≡ false → Passes goes n → ⊥
  both_tests n clear is = let e : false ≡ true = sym clear ∙ is in cc

  -- the closed parts are those that something newer follows
  closed_found : (xs p : List ℕ) → Contains (closed_parts begins goes xs) p → IsLater xs p
  closed_found [] p there = no_member p there
  closed_found (n ∷ past) p there =
      by_test (goes n)
      (λ on. later_on n past p (closed_found past p (rw on at there)))
      (λ stop. let found : Contains (with_closed (open_part begins goes past) (closed_parts begins goes past)) p = rw stop at there in
      elim (either_closed (open_part begins goes past) (closed_parts begins goes past) p found) [
        | inl same ↦ subst (λ (xs : List ℕ). IsLater (n ∷ past) xs) (sym same.0) (record {
          newest = n;
          newer = [];
          opened = past;
          is = refl;
          part = open_found past same.1;
          ends = last_one (Passes goes) n (both_tests n stop);
        })
        | inr older ↦ later_on n past p (closed_found past p older)
      ])

  -- and all of them
  closed_all : (xs p : List ℕ) (newest : ℕ) (newer opened : List ℕ) → xs ≡ newest ∷ newer ++ opened → IsOpen opened p
      → LastIsNot (Passes goes) (newest ∷ newer)
      → Contains (closed_parts begins goes xs) p
  closed_all [] p newest newer opened is part ends = absurd (let bad : [] ≡ newest ∷ newer ++ opened = is in cc)
  closed_all (n ∷ past) p newest [] opened is part ends =
      let first : newest ≡ n = (let whole : n ∷ past ≡ newest ∷ opened = is in cc) in
      let tail : opened ≡ past = (let whole : n ∷ past ≡ newest ∷ opened = is in cc) in
      let same : open_part begins goes past ≡ p = open_is past p (subst (λ (xs : List ℕ). IsOpen xs p) tail part) in
      by_test (goes n) (λ on. absurd (ends [] newest refl (subst (λ (k : ℕ). Passes goes k) (sym first) on)))
      (λ stop. rw stop (subst (λ (xs : List ℕ). Contains (with_closed (open_part begins goes past) (closed_parts begins goes past)) xs) same
      (first_closed (open_part begins goes past) (closed_parts begins goes past) (subst (λ (xs : List ℕ). xs ≢ []) (sym same) (open_some opened p part)))))
  closed_all (n ∷ past) p newest (m ∷ newer) opened is part ends =
      let tail : past ≡ m ∷ newer ++ opened = (let whole : n ∷ past ≡ newest ∷ m ∷ newer ++ opened = is in cc) in
      let older = closed_all past p m newer opened tail part (last_less (Passes goes) newest m newer ends) in
      by_test (goes n) (λ on. rw on older) (λ stop. rw stop (further_closed (open_part begins goes past) (closed_parts begins goes past) p older))

  -- what is found is a part
  pub found_part : (xs p : List ℕ) → Contains (parts begins goes xs) p → IsPart (Passes begins) (Passes goes) xs p
  found_part xs p there =
      elim (either_closed (open_part begins goes xs) (closed_parts begins goes xs) p there) [
        | inl same ↦ let r = open_found xs same.1 in
            subst (λ (ys : List ℕ). IsPart (Passes begins) (Passes goes) xs ys) (sym same.0) (record {
              newer = [];
              others = r.others;
              first = r.first;
              older = r.older;
              is = r.is;
              part_is = r.part_is;
              all = r.all;
              begins = r.starts;
              ends = last_none (Passes goes);
            })
        | inr older ↦ let r = closed_found xs p older in
            record {
              newer = r.newest ∷ r.newer;
              others = r.part.others;
              first = r.part.first;
              older = r.part.older;
              is = r.is ∙ ap (λ (ys : List ℕ). r.newest ∷ r.newer ++ ys) r.part.is;
              part_is = r.part.part_is;
              all = r.part.all;
              begins = r.part.starts;
              ends = r.ends;
            }
      ]

  -- and each part is found
  pub part_found : (xs p : List ℕ) → IsPart (Passes begins) (Passes goes) xs p → Contains (parts begins goes xs) p
  part_found xs p s = by_newer s.newer s.is s.ends
    where
      opened : IsOpen (s.others ++ s.first ∷ s.older) p
      opened = record { others = s.others; first = s.first; older = s.older; is = refl; part_is = s.part_is; all = s.all; starts = s.begins }

      by_newer : (newer : List ℕ) → xs ≡ newer ++ (s.others ++ s.first ∷ s.older) → LastIsNot (Passes goes) newer
          → Contains (parts begins goes xs) p
      by_newer [] is ends =
          let same : open_part begins goes xs ≡ p = open_is xs p (subst (λ (ys : List ℕ). IsOpen ys p) (sym is) opened) in
          subst (λ (ys : List ℕ). Contains (parts begins goes xs) ys) same
          (first_closed (open_part begins goes xs) (closed_parts begins goes xs) (subst (λ (ys : List ℕ). ys ≢ []) (sym same) (open_some (s.others ++ s.first ∷ s.older) p opened)))
      by_newer (n ∷ newer) is ends =
          further_closed (open_part begins goes xs) (closed_parts begins goes xs) p (closed_all xs p n newer (s.others ++ s.first ∷ s.older) is opened ends)
