-- What follows from how memory stands for histories.
--   storable   a value that fits the size of a cell can be stored
use Rattle.std.proofs.Common.{sym, subst, ℕ, refl, ◌<◌, ◌^◌}
use Rattle.alf_ops.specs.declared.history.Value.{Value}
use Rattle.alf_ops.specs.declared.history.Value.TheVariants.{Int, Ptr}
use Rattle.alf_ops.specs.Values.{FitsValue}
use Rattle.alf_check.specs.Kept.{IsCellSize}
use Rattle.alf_values.specs.Standing.{IsStorable}

-- a value that fits the size of a cell can be stored
pub storable : (size : ℕ) (value : Value) → IsCellSize size → FitsValue size value → IsStorable value
storable size (Int own word) cell fits = record {
  cell = subst (λ (n : ℕ). IsCellSize n) (sym fits.0) cell;
  fits = (refl, subst (λ (n : ℕ). word < 2 ^ n) (sym fits.0) fits.1);
}
storable size (Ptr frame offset) cell fits = record {
  cell = subst (λ (n : ℕ). IsCellSize n) fits.0 cell;
  fits = (refl, fits.1);
}
