-- On the way to the laws of flat.
use Rattle.std.proofs.Common.{◌≡◌, ℕ, Some, ◌<◌, ◌^◌}
use Rattle.flat_domain.specs.Flats.{FlatSet, IsFlat}

-- A set that has one word alone is that word: of no size there is one word alone.

pub one_fits : (d : FlatSet) (x : ℕ) → d.word ≡ Some x → IsFlat d → x < 2 ^ d.size
one_fits d x e flat = rw e at flat.fits
