-- Laws of climbs.
--   either_test            one of two tests passes
--   leads_any              parents lead to what stands on a walk up
use Rattle.std.proofs.Common.{◌≡◌, ◌==◌, ◌||◌, ℕ, zero, suc, List, [], Option, None, Some, Bool, true, false, refl, sym, subst}
use Rattle.std.specs.List.{list_any}
use Rattle.std.specs.Option.{option_map_or}
use Rattle.std.proofs.lemmas.Bool.{eqb-true}
use Rattle.domain_core.specs.declared.outline.ScopeRow.{ScopeRow}
use Rattle.domain_core.specs.Outlines.{LeadsTo, here, up, parent_of, scopes_from}

-- one of two tests passes
pub either_test : {A : Type 0} (a b : Bool) → a || b ≡ true → (a ≡ true → A) → (b ≡ true → A) → A
either_test true b found first second = first refl
either_test false b found first second = second found

-- parents lead to what stands on a walk up
pub leads_any : (scopes : List ScopeRow) (k s t : ℕ) → list_any (λ n. t == n) (scopes_from scopes k s) ≡ true
    → LeadsTo scopes t s
leads_any scopes zero s t found = absurd (let bad : false ≡ true = found in cc)
leads_any scopes (suc k) s t found =
    either_test (t == s) (list_any (λ n. t == n) (option_map_or (λ p. scopes_from scopes k p) (parent_of scopes s) [])) found
    (λ same. subst (λ (n : ℕ). LeadsTo scopes n s) (sym (eqb-true t s same)) here)
    (λ above. by_parent (λ p there. leads_any scopes k p t there) (parent_of scopes s) refl above)
  where
    by_parent : ((p : ℕ) → list_any (λ n. t == n) (scopes_from scopes k p) ≡ true → LeadsTo scopes t p)
        → (parent : Option ℕ) → parent_of scopes s ≡ parent
        → list_any (λ n. t == n) (option_map_or (λ p. scopes_from scopes k p) parent []) ≡ true → LeadsTo scopes t s
    by_parent further None is above = absurd (let bad : false ≡ true = above in cc)
    by_parent further (Some p) is above = up is (further p above)
