-- The tableau after a pivot, as it is shown.
use Rattle.std.proofs.Common.{◌≡◌, ℕ, ℤ, zero, suc, ◌<◌, arith, refl, ap, ◌∙◌, List, [], ◌∷◌, length, true, false}
use Rattle.std.specs.List.{list_any}
use Rattle.std.proofs.lemmas.Bool.{or_left, or_right, or_from}
use Rattle.ipet_rows.specs.Programs.{IsWithin}
use Rattle.simplex_rules.specs.Lines.{spread, cleared}
use Rattle.simplex_rules.specs.Tableaus.{Held}
use Rattle.simplex_rules.specs.PivotRule.{replaced, exchanged, cleared_wide, rows_wide}
use Rattle.simplex_tableau.specs.Sparse.{HeldTerms, terms_at, shown_rows, AreKept}
use Rattle.simplex_tableau.specs.Stepped.{IsStepped, IsStepWide, IsSomeWide}

two_heads : (x y : Held) (f h : List Held) → x ≡ y → f ≡ h → x ∷ f ≡ y ∷ h
two_heads x y f h one rest = ap (λ (z : Held). z ∷ f) one ∙ ap (λ (l : List Held). y ∷ l) rest

held_same : (b c : ℕ) (f h : List ℤ) → b ≡ c → f ≡ h
    → ◌≡◌ {A = Held} (record { basic = b; line = f }) (record { basic = c; line = h })
held_same b c f h one two = ap (λ (z : ℕ). let x : Held = record { basic = z; line = f } in x) one ∙ ap (λ (l : List ℤ). let x : Held = record { basic = c; line = l } in x) two

module _ (w e : ℕ) (h : List (ℕ × ℤ)) (within : IsWithin w h) where
  replaced_rows : (old now : List HeldTerms) → AreKept w old → length now ≡ length old
      → ((k : ℕ) → k < length old → IsStepped e h (terms_at old k) (terms_at now k))
      → shown_rows w now ≡ replaced e (spread w 0 h) (shown_rows w old)
  replaced_rows [] [] kept count each_one = refl
  replaced_rows [] (n ∷ ns) kept count each_one = absurd (omega arith)
  replaced_rows (o ∷ os) [] kept count each_one = absurd (omega arith)
  replaced_rows (o ∷ os) (n ∷ ns) kept count each_one =
      let first = each_one 0 (omega arith) in
      two_heads (record { basic = n.basic; line = spread w 0 n.terms }) (record { basic = o.basic; line = cleared e (spread w 0 h) (spread w 0 o.terms) }) (shown_rows w ns) (replaced e (spread w 0 h) (shown_rows w os))
      (held_same n.basic o.basic (spread w 0 n.terms) (cleared e (spread w 0 h) (spread w 0 o.terms)) first.basic (first.line w (kept 0 (omega arith)) within))
      (replaced_rows os ns (λ k below. kept (suc k) (omega arith)) (omega arith) (λ k below. each_one (suc k) (omega arith)))

  pub exchanged_rows : (r : ℕ) (old now : List HeldTerms) → AreKept w old → length now ≡ length old → r < length old
      → ((k : ℕ) → k < length old → (k ≡ r → ⊥) → IsStepped e h (terms_at old k) (terms_at now k))
      → terms_at now r ≡ record { basic = e; terms = h }
      → shown_rows w now ≡ exchanged r e (spread w 0 h) (shown_rows w old)
  exchanged_rows r [] now kept count below each_one there = absurd (omega arith)
  exchanged_rows r (o ∷ os) [] kept count below each_one there = absurd (omega arith)
  exchanged_rows zero (o ∷ os) (n ∷ ns) kept count below each_one there =
      two_heads (record { basic = n.basic; line = spread w 0 n.terms }) (record { basic = e; line = spread w 0 h }) (shown_rows w ns) (replaced e (spread w 0 h) (shown_rows w os))
      (ap (λ (x : HeldTerms). let y : Held = record { basic = x.basic; line = spread w 0 x.terms } in y) there)
      (replaced_rows os ns (λ k less. kept (suc k) (omega arith)) (omega arith) (λ k less. each_one (suc k) (omega arith) (λ (q : suc k ≡ 0). absurd (omega arith))))
  exchanged_rows (suc r) (o ∷ os) (n ∷ ns) kept count below each_one there =
      let first = each_one 0 (omega arith) (λ (q : 0 ≡ suc r). absurd (omega arith)) in
      two_heads (record { basic = n.basic; line = spread w 0 n.terms }) (record { basic = o.basic; line = cleared e (spread w 0 h) (spread w 0 o.terms) }) (shown_rows w ns) (exchanged r e (spread w 0 h) (shown_rows w os))
      (held_same n.basic o.basic (spread w 0 n.terms) (cleared e (spread w 0 h) (spread w 0 o.terms)) first.basic (first.line w (kept 0 (omega arith)) within))
      (exchanged_rows r os ns (λ k less. kept (suc k) (omega arith)) (omega arith) (omega arith)
      (λ k less d. each_one (suc k) (omega arith) (λ (q : suc k ≡ suc r). d (omega arith))) there)

  -- ---- tests

  replaced_narrow : (old now : List HeldTerms) → AreKept w old
      → ((k : ℕ) → k < length old → IsStepped e h (terms_at old k) (terms_at now k))
      → list_any (λ (k : Held). cleared_wide e (spread w 0 h) k.line) (shown_rows w old) ≡ false
  replaced_narrow [] now kept each_one = refl
  replaced_narrow (o ∷ os) [] kept each_one =
      or_from (cleared_wide e (spread w 0 h) (spread w 0 o.terms)) (list_any (λ (k : Held). cleared_wide e (spread w 0 h) k.line) (shown_rows w os))
      ((each_one 0 (omega arith)).narrow w (kept 0 (omega arith)).within within)
      (replaced_narrow os [] (λ k below. kept (suc k) (omega arith)) (λ k below. each_one (suc k) (omega arith)))
  replaced_narrow (o ∷ os) (n ∷ ns) kept each_one =
      or_from (cleared_wide e (spread w 0 h) (spread w 0 o.terms)) (list_any (λ (k : Held). cleared_wide e (spread w 0 h) k.line) (shown_rows w os))
      ((each_one 0 (omega arith)).narrow w (kept 0 (omega arith)).within within)
      (replaced_narrow os ns (λ k below. kept (suc k) (omega arith)) (λ k below. each_one (suc k) (omega arith)))

  pub rows_narrow : (r : ℕ) (old now : List HeldTerms) → AreKept w old → length now ≡ length old
      → ((k : ℕ) → k < length old → (k ≡ r → ⊥) → IsStepped e h (terms_at old k) (terms_at now k))
      → rows_wide r e (spread w 0 h) (shown_rows w old) ≡ false
  rows_narrow r [] now kept count each_one = refl
  rows_narrow r (o ∷ os) [] kept count each_one = absurd (omega arith)
  rows_narrow zero (o ∷ os) (n ∷ ns) kept count each_one =
      replaced_narrow os ns (λ k less. kept (suc k) (omega arith)) (λ k less. each_one (suc k) (omega arith) (λ (q : suc k ≡ 0). absurd (omega arith)))
  rows_narrow (suc r) (o ∷ os) (n ∷ ns) kept count each_one =
      or_from (cleared_wide e (spread w 0 h) (spread w 0 o.terms)) (rows_wide r e (spread w 0 h) (shown_rows w os))
      ((each_one 0 (omega arith) (λ (q : 0 ≡ suc r). absurd (omega arith))).narrow w (kept 0 (omega arith)).within within)
      (rows_narrow r os ns (λ k less. kept (suc k) (omega arith)) (omega arith) (λ k less d. each_one (suc k) (omega arith) (λ (q : suc k ≡ suc r). d (omega arith))))

  replaced_wide : (k : ℕ) (old : List HeldTerms) → AreKept w old → k < length old → IsStepWide e h (terms_at old k)
      → list_any (λ (k : Held). cleared_wide e (spread w 0 h) k.line) (shown_rows w old) ≡ true
  replaced_wide k [] kept below wide = absurd (omega arith)
  replaced_wide zero (o ∷ os) kept below wide =
      or_left (cleared_wide e (spread w 0 h) (spread w 0 o.terms)) (list_any (λ (k : Held). cleared_wide e (spread w 0 h) k.line) (shown_rows w os))
      (wide.wide w (kept 0 (omega arith)).within within)
  replaced_wide (suc k) (o ∷ os) kept below wide =
      or_right (cleared_wide e (spread w 0 h) (spread w 0 o.terms)) (list_any (λ (k : Held). cleared_wide e (spread w 0 h) k.line) (shown_rows w os))
      (replaced_wide k os (λ k less. kept (suc k) (omega arith)) (omega arith) wide)

  rows_wide_at : (r k : ℕ) (old : List HeldTerms) → AreKept w old → k < length old → (k ≡ r → ⊥)
      → IsStepWide e h (terms_at old k)
      → rows_wide r e (spread w 0 h) (shown_rows w old) ≡ true
  rows_wide_at r k [] kept below other wide = absurd (omega arith)
  rows_wide_at zero zero (o ∷ os) kept below other wide = absurd (other refl)
  rows_wide_at zero (suc k) (o ∷ os) kept below other wide = replaced_wide k os (λ k less. kept (suc k) (omega arith)) (omega arith) wide
  rows_wide_at (suc r) zero (o ∷ os) kept below other wide =
      or_left (cleared_wide e (spread w 0 h) (spread w 0 o.terms)) (rows_wide r e (spread w 0 h) (shown_rows w os)) (wide.wide w (kept 0 (omega arith)).within within)
  rows_wide_at (suc r) (suc k) (o ∷ os) kept below other wide =
      or_right (cleared_wide e (spread w 0 h) (spread w 0 o.terms)) (rows_wide r e (spread w 0 h) (shown_rows w os))
      (rows_wide_at r k os (λ k less. kept (suc k) (omega arith)) (omega arith) (λ (q : k ≡ r). other (ap suc q)) wide)

  pub some_row_wide : (r : ℕ) (old : List HeldTerms) → AreKept w old → IsSomeWide e h r old
      → rows_wide r e (spread w 0 h) (shown_rows w old) ≡ true
  some_row_wide r old kept some = rows_wide_at r some.row old kept some.below some.other some.wide
