-- A walk up the scopes that a step leaves, by a test of each.
--   left_stays    where the walk comes to a scope that holds the target
--   left_whole    where it comes to the top
--   begin_low, begin_whole, begin_out   what holds at the beginning
--   at_holder, at_top, at_end           and what at an end
--   out_pushed, whole_pushed            one scope further
use Rattle.std.proofs.Common.{◌≡◌, ◌<◌, ◌≤◌, ◌+◌, ◌==◌, ◌||◌, ◌&&◌, not, ℕ, List, [], ◌∷◌, ◌++◌, None, Some, Bool, true, false, length, ◌-◌, get_or, refl, sym, ap, ◌∙◌, subst, arith}
use Rattle.std.specs.Prelude.{slice_get}
use Rattle.std.specs.List.{list_any}
use Rattle.std.proofs.lemmas.Bool.{eqb-true}
use Rattle.std.proofs.lemmas.List.{append_assoc, append-nil}
use Rattle.lists.specs.TestLaws.{by_test}
use Rattle.domain_core.specs.declared.outline.NodeRow.{NodeRow}
use Rattle.domain_core.specs.Outlines.{Outlined, shape_of, Shape, Holds, parent_of, scopes_from, is_held, IsOutline}
use Rattle.domain_core.specs.OutlineLaws.{leads_on, held_is, is_holder}
use Rattle.recorder_rules.specs.TallyRules.{is_left}
use Rattle.flow_recorders.proofs.ClimbLemmas.{either_test, leads_any}
use Rattle.flow_recorders.specs.ClimbLaws.{own_at, own_low, from_last, from_more, any_joined}

-- among more, what was not there is the new one
pub out_more : (o : Shape) (to : ℕ) (left : List ℕ) (s : ℕ) → (Holds o s to → ⊥) → IsOutline o
    → ((t : ℕ) → list_any (λ n. t == n) left ≡ true → is_held o t to ≡ false) → (t : ℕ)
    → list_any (λ n. t == n) (left ++ s ∷ []) ≡ true → is_held o t to ≡ false
out_more o to left s out ok so_far t found =
    either_test (list_any (λ n. t == n) left) (list_any (λ n. t == n) (s ∷ [])) (sym (any_joined t left (s ∷ [])) ∙ found)
    (so_far t)
    (λ last. either_test (t == s) false last (λ same. by_test (is_held o t to) (λ held. absurd (out (held_is o ok s to (subst (λ (n : ℕ). is_held o n to ≡ true) (eqb-true t s same) held)))) (λ clear. clear)) (λ bad. absurd (let e : false ≡ true = bad in cc)))

-- what is held at first and not at last, by the list of what is left
left_test : (held stays found : Bool) → (found ≡ true → stays ≡ false) → (found ≡ true → held ≡ true)
    → (found ≡ false → held ≡ true → stays ≡ true) → found ≡ (held && not stays)
left_test true true true out first rest = absurd (let bad : true ≡ false = out refl in cc)
left_test true true false out first rest = refl
left_test true false true out first rest = refl
left_test true false false out first rest = absurd (let bad : false ≡ true = rest refl refl in cc)
left_test false stays true out first rest = absurd (let bad : false ≡ true = first refl in cc)
left_test false stays false out first rest = refl

module _ (o : Shape) (ok : IsOutline o) (from to : ℕ) (left above : List ℕ) (whole : left ++ above ≡ scopes_from o.scopes (length o.scopes) (get_or o.own from 0))
    (out : (t : ℕ) → list_any (λ n. t == n) left ≡ true → is_held o t to ≡ false) where
  among : (t : ℕ) → is_held o t from ≡ (list_any (λ n. t == n) left || list_any (λ n. t == n) above)
  among t = ap (λ (xs : List ℕ). list_any (λ n. t == n) xs) (sym whole) ∙ any_joined t left above

  first_among : (t : ℕ) → list_any (λ n. t == n) left ≡ true → is_held o t from ≡ true
  first_among t found = among t ∙ ap (λ (b : Bool). b || list_any (λ n. t == n) above) found

  above_among : (t : ℕ) → list_any (λ n. t == n) left ≡ false → is_held o t from ≡ true
      → list_any (λ n. t == n) above ≡ true
  above_among t clear held = sym (among t ∙ ap (λ (b : Bool). b || list_any (λ n. t == n) above) clear) ∙ held

  -- where the rest is a walk up from a scope that holds the target
  pub left_stays : (k s : ℕ) → above ≡ scopes_from o.scopes k s → Holds o s to → (t : ℕ)
      → list_any (λ n. t == n) left ≡ is_left o t from to
  left_stays k s is stays t =
      left_test (is_held o t from) (is_held o t to) (list_any (λ n. t == n) left) (out t) (first_among t)
      (λ clear held. is_holder o ok t to (leads_on o.scopes s t (get_or o.own to 0) stays (leads_any o.scopes k s t (ap (λ (xs : List ℕ). list_any (λ n. t == n) xs) (sym is) ∙ above_among t clear held))))

  -- where nothing is above
  pub left_whole : above ≡ [] → (t : ℕ) → list_any (λ n. t == n) left ≡ is_left o t from to
  left_whole none t =
      left_test (is_held o t from) (is_held o t to) (list_any (λ n. t == n) left) (out t) (first_among t)
      (λ clear held. absurd (let bad : false ≡ true = ap (λ (xs : List ℕ). list_any (λ n. t == n) xs) (sym none) ∙ above_among t clear held in cc))

-- ---- the walk

module _ (o : Outlined) (ok : IsOutline (shape_of o)) (from to : ℕ) where
  -- at the beginning
  pub begin_low : (row : NodeRow) → from < length o.nodes → slice_get o.nodes from ≡ Some row
      → row.scope < length o.scopes
  begin_low row low is = subst (λ (s : ℕ). s < length o.scopes) (own_at o.nodes from row is) (ok.scopes_within from (own_low o from low))

  pub begin_whole : (row : NodeRow) (left : List ℕ) → slice_get o.nodes from ≡ Some row → left ≡ []
      → left ++ scopes_from o.scopes (length o.scopes - 0) row.scope ≡ scopes_from o.scopes (length o.scopes) (get_or (shape_of o).own from 0)
  begin_whole row left is none =
      ap (λ (xs : List ℕ). xs ++ scopes_from o.scopes (length o.scopes - 0) row.scope) none
      ∙ ap (λ (k : ℕ). scopes_from o.scopes k row.scope) (let e : length o.scopes - 0 ≡ length o.scopes = omega arith in e)
      ∙ ap (λ (s : ℕ). scopes_from o.scopes (length o.scopes) s) (sym (own_at o.nodes from row is))

  pub begin_out : (left : List ℕ) → left ≡ [] → (t : ℕ) → list_any (λ n. t == n) left ≡ true
      → is_held (shape_of o) t to ≡ false
  begin_out left none t found = absurd (let bad : false ≡ true = ap (λ (xs : List ℕ). list_any (λ n. t == n) xs) (sym none) ∙ found in cc)

  -- one scope further
  pub whole_pushed : (left : List ℕ) (step s : ℕ) → left ++ scopes_from o.scopes (length o.scopes - step) s ≡ scopes_from o.scopes (length o.scopes) (get_or (shape_of o).own from 0) → (pushed : List ℕ) (p : ℕ) → pushed ≡ left ++ s ∷ [] → step < length o.scopes → parent_of o.scopes s ≡ Some p
      → pushed ++ scopes_from o.scopes (length o.scopes - (step + 1)) p ≡ scopes_from o.scopes (length o.scopes) (get_or (shape_of o).own from 0)
  whole_pushed left step s whole pushed p is low some =
      ap (λ (xs : List ℕ). xs ++ scopes_from o.scopes (length o.scopes - (step + 1)) p) is
      ∙ append_assoc left (s ∷ []) (scopes_from o.scopes (length o.scopes - (step + 1)) p)
      ∙ ap (λ (xs : List ℕ). left ++ xs) (sym (from_more o.scopes (length o.scopes - step) (length o.scopes - (step + 1)) s p (omega arith) some))
      ∙ whole

  module _ (left : List ℕ) (step s : ℕ) (whole : left ++ scopes_from o.scopes (length o.scopes - step) s ≡ scopes_from o.scopes (length o.scopes) (get_or (shape_of o).own from 0))
      (out : (t : ℕ) → list_any (λ n. t == n) left ≡ true → is_held (shape_of o) t to ≡ false) where
    pub at_holder : Holds (shape_of o) s to → (t : ℕ) → list_any (λ n. t == n) left ≡ is_left (shape_of o) t from to
    at_holder stays = left_stays (shape_of o) ok from to left (scopes_from o.scopes (length o.scopes - step) s) whole out (length o.scopes - step) s refl stays

    pub out_pushed : (pushed : List ℕ) → pushed ≡ left ++ s ∷ [] → (Holds (shape_of o) s to → ⊥) → (t : ℕ)
        → list_any (λ n. t == n) pushed ≡ true → is_held (shape_of o) t to ≡ false
    out_pushed pushed is gone t found = out_more (shape_of o) to left s gone ok out t (ap (λ (xs : List ℕ). list_any (λ n. t == n) xs) (sym is) ∙ found)

    pub at_top : (pushed : List ℕ) → pushed ≡ left ++ s ∷ [] → (Holds (shape_of o) s to → ⊥) → step < length o.scopes
        → parent_of o.scopes s ≡ None → (t : ℕ) → list_any (λ n. t == n) pushed ≡ is_left (shape_of o) t from to
    at_top pushed is gone low none =
        left_whole (shape_of o) ok from to pushed []
        (append-nil pushed ∙ is ∙ ap (λ (xs : List ℕ). left ++ xs) (sym (from_last o.scopes (length o.scopes - step) (length o.scopes - (step + 1)) s (omega arith) none)) ∙ whole)
        (out_pushed pushed is gone) refl

    -- steps are at an end only where nothing is above
    pub at_end : length o.scopes ≤ step → (t : ℕ) → list_any (λ n. t == n) left ≡ is_left (shape_of o) t from to
    at_end over =
        let none : length o.scopes - step ≡ 0 = omega arith in
        left_whole (shape_of o) ok from to left [] (ap (λ (k : ℕ). left ++ scopes_from o.scopes k s) (sym none) ∙ whole) out refl
