-- The test of sizes is right.
use Rattle.std.proofs.Common.{◌≡◌, ℕ, List, [], ◌∷◌, length, ◌≤◌, arith, refl, true, ◌↔◌, eq-eqb}
use Rattle.std.proofs.lemmas.Bool.{eqb-true, false≢true}
use Rattle.std.proofs.lemmas.Slice.Zip.{AllZip-long}
use Rattle.std.specs.Prelude.{◌==◌}
use Rattle.std.specs.List.{AllZip}
use Rattle.alf_ops.specs.declared.operator.Op.{Op}
use Rattle.alf_ops.specs.Table.{operand_sizes}
use Rattle.flat_domain.specs.FlatLaws.{both}
use Rattle.flat_domain.specs.OperatorSizeLaws.{few_operands}
use Rattle.flat_domain.specs.Fits.{sizes_fit}

pub few : {D : Type 0} (bits_of : D → ℕ) (op : Op) (sizes : List ℕ) (args : List D)
    → AllZip (λ s d. bits_of d ≡ s) (operand_sizes op sizes) args → length args ≤ 3
few bits_of op sizes args sized = omega (arith, few_operands op sizes, AllZip-long (λ s d. bits_of d ≡ s) (operand_sizes op sizes) args sized)

pub sizes_are_tested : {D : Type 0} (bits_of : D → ℕ) (sizes : List ℕ) (args : List D)
    → (sizes_fit bits_of sizes args ≡ true) ↔ AllZip (λ s d. bits_of d ≡ s) sizes args
sizes_are_tested bits_of [] [] = (λ e. tt, λ h. refl)
sizes_are_tested bits_of [] (d ∷ args) = (λ e. absurd (false≢true e), λ h. absurd h)
sizes_are_tested bits_of (size ∷ sizes) [] = (λ e. absurd (false≢true e), λ h. absurd h)
sizes_are_tested bits_of (size ∷ sizes) (d ∷ args) = (
  λ e. let h = both (bits_of d == size) (sizes_fit bits_of sizes args) e in (eqb-true (bits_of d) size h.0, (sizes_are_tested bits_of sizes args).0 h.1),
  λ h. rw (eq-eqb (bits_of d) size h.0, (sizes_are_tested bits_of sizes args).1 h.1) refl,
)
