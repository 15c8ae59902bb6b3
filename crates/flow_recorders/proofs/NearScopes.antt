-- A walk up the scopes that a step leaves, to the own scope of the target or to the one around it.
--   chains_fall    a scope around another has no longer a chain
--   no_way_back    parents do not lead back
--   near_holds     what is near the target holds it
--   near_left      where the walk comes to such a scope
--   apart_pushed, below_pushed   one scope further
use Rattle.std.proofs.Common.{◌≡◌, ◌<◌, ◌≤◌, ◌==◌, ◌||◌, ℕ, List, [], ◌∷◌, ◌++◌, Option, None, Some, Bool, true, false, length, ◌-◌, get_or, refl, sym, ap, ◌∙◌, subst, arith}
use Rattle.std.specs.List.{list_any}
use Rattle.std.proofs.lemmas.Bool.{eqb-true, eq-eqb}
use Rattle.lists.specs.TestLaws.{by_test}
use Rattle.domain_core.specs.declared.outline.ScopeRow.{ScopeRow}
use Rattle.domain_core.specs.Outlines.{Outlined, shape_of, Shape, LeadsTo, here, up, IsChain, outermost, inner, parent_of, scopes_from, is_held, IsOutline}
use Rattle.domain_core.specs.OutlineLaws.{leads_on, chain_one, chain_of, held_is}
use Rattle.recorder_rules.specs.TallyRules.{is_at, is_left}
use Rattle.flow_recorders.specs.Climbs.{near}
use Rattle.flow_recorders.proofs.ClimbLemmas.{either_test}
use Rattle.flow_recorders.specs.ClimbLaws.{any_joined}
use Rattle.flow_recorders.proofs.LeftScopes.{at_holder}

-- a scope around another has no longer a chain
chains_fall : (scopes : List ScopeRow) (t s : ℕ) (c d : List ℕ) → LeadsTo scopes t s → IsChain scopes s c
    → IsChain scopes t d → length d ≤ length c
chains_fall scopes t s c d here of_s of_t = let same : length d ≡ length c = ap (λ (xs : List ℕ). length xs) (chain_one scopes t d c of_t of_s) in omega arith
chains_fall scopes t s c d (up {s = x} {p = p} e way) (outermost {s = y} top) of_t = absurd (let both : Some p ≡ None = sym e ∙ top in cc)
chains_fall scopes t s c d (up {s = x} {p = p} e way) (inner {s = y} {p = q} {chain = rest} f more) of_t =
    let same : q ≡ p = (let both : Some q ≡ Some p = sym f ∙ e in cc) in
    let low = chains_fall scopes t p rest d way (subst (λ (n : ℕ). IsChain scopes n rest) same more) of_t in
    omega arith

-- parents lead from a scope to itself, or on from its parent
by_parents : {A : Type 0} (scopes : List ScopeRow) (t s : ℕ) → LeadsTo scopes t s → (t ≡ s → A)
    → ((p : ℕ) → parent_of scopes s ≡ Some p → LeadsTo scopes t p → A) → A
by_parents scopes t s here at_once further = at_once refl
by_parents scopes t s (up {s = x} {p = p} e way) at_once further = further p e way

second_clear : (a b : Bool) → a || b ≡ false → b ≡ false
second_clear true b clear = absurd (let bad : true ≡ false = clear in cc)
second_clear false b clear = clear

module _ (o : Shape) (ok : IsOutline o) where
  -- parents do not lead back
  no_way_back : (s p : ℕ) → s < length o.scopes → parent_of o.scopes s ≡ Some p → LeadsTo o.scopes s p → ⊥
  no_way_back s p low is way =
      let r = chain_of o ok p (ok.parents_within s p low is) in
      let long = chains_fall o.scopes s p r.0 (s ∷ r.0) way r.1 (inner is r.1) in
      omega arith

  module _ (own : ℕ) (around : Option ℕ) (low : own < length o.scopes) (above : parent_of o.scopes own ≡ around) where
    -- what is near leads to the own scope
    near_leads : (s : ℕ) → near own around s ≡ true → LeadsTo o.scopes s own
    near_leads s is =
        either_test (own == s) (is_at around s) is
        (λ same. subst (λ (n : ℕ). LeadsTo o.scopes n own) (eqb-true own s same) here)
        (λ parent. by_parent around above parent)
      where
        by_parent : (a : Option ℕ) → parent_of o.scopes own ≡ a → is_at a s ≡ true → LeadsTo o.scopes s own
        by_parent None e bad = absurd (let no : false ≡ true = bad in cc)
        by_parent (Some p) e same = subst (λ (n : ℕ). LeadsTo o.scopes n own) (eqb-true p s same) (up e here)

    -- what is not near, and lies below what is, does not hold the own scope
    far_holds_not : (s t : ℕ) → near own around s ≡ true → near own around t ≡ false → LeadsTo o.scopes s t
        → LeadsTo o.scopes t own → ⊥
    far_holds_not s t is far between held =
        by_parents o.scopes t own held
        (λ same. let bad : true ≡ false = sym (ap (λ (b : Bool). b || is_at around t) (eq-eqb own t (sym same))) ∙ far in cc)
        (λ p e way. by_parents o.scopes t p way
        (λ same. let bad : true ≡ false = sym (ap (λ (a : Option ℕ). is_at a t) (sym above ∙ e) ∙ eq-eqb p t (sym same)) ∙ second_clear (own == t) (is_at around t) far in cc)
        (λ q f further. no_way_back p q (ok.parents_within own p low e) f (leads_on o.scopes t p q further (from_near p e))))
      where
        -- the parent leads to it, since what is near does
        from_near : (p : ℕ) → parent_of o.scopes own ≡ Some p → LeadsTo o.scopes p t
        from_near p e =
            either_test (own == s) (is_at around s) is
            (λ same. leads_on o.scopes own p t (subst (λ (n : ℕ). LeadsTo o.scopes n t) (sym (eqb-true own s same)) between) (up e here))
            (λ parent. subst (λ (n : ℕ). LeadsTo o.scopes n t) (sym (eqb-true p s (sym (ap (λ (a : Option ℕ). is_at a s) (sym above ∙ e)) ∙ parent))) between)

module _ (o : Outlined) (ok : IsOutline (shape_of o)) (from to own : ℕ) (around : Option ℕ) (low : own < length o.scopes) (is_own : get_or (shape_of o).own to 0 ≡ own) (above : parent_of o.scopes own ≡ around)
    (left : List ℕ) (step s : ℕ) where
  -- where the walk comes to a scope that is near
  pub near_left : left ++ scopes_from o.scopes (length o.scopes - step) s ≡ scopes_from o.scopes (length o.scopes) (get_or (shape_of o).own from 0)
      → ((t : ℕ) → list_any (λ n. t == n) left ≡ true → near own around t ≡ false) → ((t : ℕ) → list_any (λ n. t == n) left ≡ true → LeadsTo o.scopes s t)
      → near own around s ≡ true → (t : ℕ) → list_any (λ n. t == n) left ≡ is_left (shape_of o) t from to
  near_left whole apart below is =
      at_holder o ok from to left step s whole
      (λ t found. by_test (is_held (shape_of o) t to)
      (λ held. absurd (far_holds_not (shape_of o) ok own around low above s t is (apart t found) (below t found)
      (subst (λ (n : ℕ). LeadsTo o.scopes t n) is_own (held_is (shape_of o) ok t to held))))
      (λ clear. clear))
      (subst (λ (n : ℕ). LeadsTo o.scopes s n) (sym is_own) (near_leads (shape_of o) ok own around low above s is))

  -- one scope further
  module _ (pushed : List ℕ) (more : pushed ≡ left ++ s ∷ []) where
    among_pushed : {A : Type 0} (t : ℕ) → list_any (λ n. t == n) pushed ≡ true
        → (list_any (λ n. t == n) left ≡ true → A) → (t ≡ s → A) → A
    among_pushed t found earlier last =
        either_test (list_any (λ n. t == n) left) (list_any (λ n. t == n) (s ∷ [])) (sym (any_joined t left (s ∷ [])) ∙ sym (ap (λ (xs : List ℕ). list_any (λ n. t == n) xs) more) ∙ found)
        earlier
        (λ one. either_test (t == s) false one (λ same. last (eqb-true t s same)) (λ bad. absurd (let e : false ≡ true = bad in cc)))

    pub apart_pushed : ((t : ℕ) → list_any (λ n. t == n) left ≡ true → near own around t ≡ false)
        → near own around s ≡ false → (t : ℕ) → list_any (λ n. t == n) pushed ≡ true → near own around t ≡ false
    apart_pushed apart far t found = among_pushed t found (apart t) (λ same. ap (λ (n : ℕ). near own around n) same ∙ far)

    pub below_pushed : ((t : ℕ) → list_any (λ n. t == n) left ≡ true → LeadsTo o.scopes s t) → (p : ℕ)
        → parent_of o.scopes s ≡ Some p → (t : ℕ) → list_any (λ n. t == n) pushed ≡ true → LeadsTo o.scopes p t
    below_pushed below p is t found =
        among_pushed t found (λ earlier. leads_on o.scopes s p t (below t earlier) (up is here))
        (λ same. subst (λ (n : ℕ). LeadsTo o.scopes p n) (sym same) (up is here))
