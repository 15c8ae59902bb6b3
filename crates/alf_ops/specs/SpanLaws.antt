-- Laws of spans.
--   offsets_step                  the first offset of a span, and the others
--   same_bytes                    two tables that agree on each byte of a span
--   all_pass, each_passes         all pass where each does, and each where all do
--   none_passes, each_fails       none passes where each fails, and each fails where none passes
--   one_passes, some_pass         some pass where one does, and there is one where some do
use Rattle.std.proofs.Common.{◌≡◌, inl, inr, sym, subst, ◌∙◌, ℕ, suc, zero, Bool, true, false, map, refl, arith, ◌∷◌, ◌+◌, ◌-◌, ◌<◌, ◌≤◌}
use Rattle.std.specs.List.{list_all, list_any}
use Rattle.std.proofs.lemmas.Bool.{and_parts, and_from, or_parts, or_from, cases_eq, false≢true}
use Rattle.lists.specs.TestLaws.{by_test}
use Rattle.alf_ops.specs.Histories.{offsets}

-- the first offset, and the others
pub offsets_step : (at count : ℕ) → 0 < count → offsets at count ≡ at ∷ offsets (at + 1) (count - 1)
offsets_step at zero some = absurd (omega arith)
offsets_step at (suc count) some =
    let one : suc count - 1 ≡ count = omega arith in
    let next : at + 1 ≡ suc at = omega arith in
    rw (one, next) refl

-- two tables that agree on so many bytes give the same lists
pub same_bytes : {A : Type 0} (f g : ℕ → A) (offset count : ℕ)
    → ((byte : ℕ) → offset ≤ byte → byte < offset + count → f byte ≡ g byte)
    → map f (offsets offset count) ≡ map g (offsets offset count)
same_bytes f g offset zero agree = refl
same_bytes f g offset (suc count) agree =
    let here : f offset ≡ g offset = agree offset (omega arith) (omega arith) in
    let rest : map f (offsets (suc offset) count) ≡ map g (offsets (suc offset) count) = same_bytes f g (suc offset) count (λ byte low high. agree byte (omega arith) (omega arith)) in
    cc

module _ {A : Type 0} (test : A → Bool) (f : ℕ → A) where
  -- what each byte passes, all pass
  pub all_pass : (offset count : ℕ) → ((byte : ℕ) → offset ≤ byte → byte < offset + count → test (f byte) ≡ true)
      → list_all test (map f (offsets offset count)) ≡ true
  all_pass offset zero each = refl
  all_pass offset (suc count) each = and_from _ _ (each offset (omega arith) (omega arith)) (all_pass (suc offset) count (λ byte low high. each byte (omega arith) (omega arith)))

  -- what all pass, each byte passes
  pub each_passes : (offset count : ℕ) → list_all test (map f (offsets offset count)) ≡ true → (byte : ℕ)
      → offset ≤ byte → byte < offset + count → test (f byte) ≡ true
  each_passes offset zero all byte low high = absurd (omega arith)
  each_passes offset (suc count) all byte low high =
      let parts : (test (f offset) ≡ true) × (list_all test (map f (offsets (suc offset) count)) ≡ true) = and_parts _ _ all in
      elim (cases_eq byte offset) [ inl same ↦ subst (λ (b : ℕ). test (f b) ≡ true) (sym same) parts.0 | inr other ↦ each_passes (suc offset) count parts.1 byte (omega arith) (omega arith) ]

  -- what no byte passes, none passes
  pub none_passes : (offset count : ℕ) → ((byte : ℕ) → offset ≤ byte → byte < offset + count → test (f byte) ≡ false)
      → list_any test (map f (offsets offset count)) ≡ false
  none_passes offset zero each = refl
  none_passes offset (suc count) each = or_from _ _ (each offset (omega arith) (omega arith)) (none_passes (suc offset) count (λ byte low high. each byte (omega arith) (omega arith)))

  -- where none passes, no byte does
  pub each_fails : (offset count : ℕ) → list_any test (map f (offsets offset count)) ≡ false → (byte : ℕ)
      → offset ≤ byte → byte < offset + count → test (f byte) ≡ false
  each_fails offset zero none byte low high = absurd (omega arith)
  each_fails offset (suc count) none byte low high =
      let parts : (test (f offset) ≡ false) × (list_any test (map f (offsets (suc offset) count)) ≡ false) = or_parts _ _ none in
      elim (cases_eq byte offset) [ inl same ↦ subst (λ (b : ℕ). test (f b) ≡ false) (sym same) parts.0 | inr other ↦ each_fails (suc offset) count parts.1 byte (omega arith) (omega arith) ]

  -- where some passes, there is a byte that does
  pub one_passes : (offset count : ℕ) → list_any test (map f (offsets offset count)) ≡ true
      → (byte : ℕ) × (offset ≤ byte) × (byte < offset + count) × (test (f byte) ≡ true)
  one_passes offset zero some = absurd (false≢true some)
  one_passes offset (suc count) some = by_test (test (f offset))
      (λ here. (offset, omega arith, omega arith, here))
      (λ there.
      let rest : list_any test (map f (offsets (suc offset) count)) ≡ true = rw there at some in
      let found = one_passes (suc offset) count rest in
      (found.0, omega (arith, found.1), omega (arith, found.2), found.3))

  -- a byte that passes is some
  pub some_pass : (offset count byte : ℕ) → offset ≤ byte → byte < offset + count → test (f byte) ≡ true
      → list_any test (map f (offsets offset count)) ≡ true
  some_pass offset count byte low high passes =
      by_test (list_any test (map f (offsets offset count))) (λ yes. yes) (λ no. absurd (false≢true (sym (each_fails offset count no byte low high) ∙ passes)))
