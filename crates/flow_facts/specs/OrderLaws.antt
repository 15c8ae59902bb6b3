-- The order of facts.
--   never_itself      no fact stands before itself
--   one_before        of two facts one stands before the other, or they are one
use Rattle.std.proofs.Common.{◌≡◌, ◌==◌, ℕ, List, [], ◌∷◌, ◌⊎◌, inl, inr, cond, refl, ap, sym, ◌∙◌}
use Rattle.std.specs.Cmp.Lexicographic.{slice_cmp, nat_list_cmp_total}
use Rattle.std.specs.Ordering.{nat_cmp, ordering_reverse}
use Rattle.std.specs.declared.cmp.Ordering.{Ordering}
use Rattle.std.specs.declared.cmp.Ordering.TheVariants.{Less, Equal, Greater}
use Rattle.std.proofs.lemmas.Map.Lookups.{exact_bytes}
use Rattle.alf_ops.specs.declared.history.RunFault.{RunFault}
use Rattle.alf_ops.specs.declared.history.RunFault.TheVariants.{Divide, Uninit, Mixed, Bounds, Dead as DeadFrame, Kind, Pointers}
use Rattle.flow_facts.specs.declared.fact.Fact.{Fact}
use Rattle.flow_facts.specs.declared.fact.Fact.TheVariants.{Loop, Count, Dead, Total, Pair, Alarm}
use Rattle.flow_facts.specs.Writable.{IsBefore, kind_place, fault_code, numbers_of}

-- what a fact is ordered by
abbrev pub key_of : Fact → List ℕ
key_of f = kind_place f ∷ numbers_of f

-- no fact stands before itself
pub never_itself : (f : Fact) → IsBefore f f → ⊥
never_itself f is = let turned : Less ≡ Greater = sym is ∙ nat_list_cmp_total.antisymm (key_of f) (key_of f) ∙ ap ordering_reverse is in cc

-- ---- no two facts have one key

fault_at : ℕ → RunFault
fault_at k = cond (k == 30) Divide (cond (k == 31) Uninit (cond (k == 32) Mixed (cond (k == 33) Bounds (cond (k == 34) DeadFrame (cond (k == 35) Kind Pointers)))))

fault_found : (fault : RunFault) → fault_at (fault_code fault) ≡ fault
unfolding fault_at
fault_found Divide = refl
fault_found Uninit = refl
fault_found Mixed = refl
fault_found Bounds = refl
fault_found DeadFrame = refl
fault_found Kind = refl
fault_found Pointers = refl

fact_at : List ℕ → Fact
fact_at (k ∷ n ∷ []) = Dead n
fact_at (k ∷ n ∷ code ∷ []) = Alarm n (fault_at code)
fact_at (k ∷ a ∷ b ∷ c ∷ []) = cond (k == 0) (Loop a b c) (cond (k == 3) (Total a b c) (Pair a b c))
fact_at (k ∷ s ∷ n ∷ low ∷ high ∷ rest) = Count s n low high
fact_at _ = Dead 0

fact_found : (f : Fact) → fact_at (key_of f) ≡ f
unfolding fact_at
fact_found (Loop s low high) = refl
fact_found (Count s n low high) = refl
fact_found (Dead n) = refl
fact_found (Total n low high) = refl
fact_found (Pair s a b) = refl
fact_found (Alarm n fault) = ap (λ (k : RunFault). Alarm n k) (fault_found fault)

one_key : (f g : Fact) → key_of f ≡ key_of g → f ≡ g
one_key f g same = sym (fact_found f) ∙ ap fact_at same ∙ fact_found g

-- of two facts one stands before the other, or they are one
pub one_before : (f g : Fact) → (f ≡ g) ⊎ IsBefore f g ⊎ IsBefore g f
one_before f g = by (slice_cmp nat_cmp (key_of f) (key_of g)) refl
  where
    by : (r : Ordering) → slice_cmp nat_cmp (key_of f) (key_of g) ≡ r → (f ≡ g) ⊎ IsBefore f g ⊎ IsBefore g f
    by Less is = inr (inl is)
    by Equal is = inl (one_key f g (exact_bytes (key_of f) (key_of g) is))
    by Greater is = inr (inr (nat_list_cmp_total.antisymm (key_of g) (key_of f) ∙ ap ordering_reverse is))
