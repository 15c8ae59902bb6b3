-- Laws of differ.
--   labels_differ         names of results and of labels by function and number
use Rattle.std.proofs.Common.{◌≡◌, ◌<◌, ◌^◌, ℕ, List, ◌∷◌, ◌++◌, length, refl, codes, decimal}
use Rattle.c_meaning.specs.Objects.{Program}
use Rattle.c_lowered.specs.Names.{label_name}
use Rattle.lowering_layout.specs.TextLaws.{decimal_same}
use Rattle.lowering_layout.specs.Spelled.{HasNames}
use Rattle.lowering_layout.specs.DifferLaws.{within_same}

-- ---- functions

module _ (program : Program) (names : HasNames program) where
  -- ---- what a function owns

  after_colons : (b : ℕ) (xs : List ℕ) → codes "::" ++ xs ≡ 58 ∷ (58 ∷ xs)
  after_colons b xs = refl

  -- ---- labels and results

  pub labels_differ : (f g k l : ℕ) → f < length program.functions → g < length program.functions → k < 10 ^ 64
      → l < 10 ^ 64 → label_name program f k ≡ label_name program g l → (f ≡ g) × (k ≡ l)
  labels_differ f g k l low_f low_g low_k low_l e =
      let parts = within_same program names f g (codes "L" ++ decimal k) (codes "L" ++ decimal l) low_f low_g e in
      let rest : 76 ∷ decimal k ≡ 76 ∷ decimal l = parts.1 in
      (parts.0, decimal_same k l low_k low_l (let same : decimal k ≡ decimal l = cc in same))
