-- The places that are written with `select` lie in order within its size.
use Rattle.std.proofs.Common.{ℕ, List, length, ◌<◌, ◌≤◌, IsSome}
use Rattle.std.specs.Prelude.{◌==◌, ◌&&◌, nat_le, nat_lt, slice_index}
use Rattle.std.proofs.lemmas.Bool.{false≢true, leb-true, ltb-true}
use Rattle.lists.specs.TestLaws.{by_test}
use Rattle.alf_ops.specs.declared.operator.Op.TheVariants.{Select}
use Rattle.alf_ops.specs.Layouts.{is_size, is_written_so}
use Rattle.alf_ops.specs.Table.{result_size, layout_of}
use Rattle.flat_domain.specs.FlatLaws.{both}

pub places_written : (sizes : List ℕ) → IsSome (result_size Select sizes)
    → (slice_index sizes 1 ≤ slice_index sizes 2) × (slice_index sizes 2 < slice_index sizes 0)
places_written sizes some = by_test (is_written_so (layout_of Select) sizes)
    (λ e. let typed = (both (length sizes == 3) ((is_size (slice_index sizes 0) && nat_le (slice_index sizes 1) (slice_index sizes 2)) && nat_lt (slice_index sizes 2) (slice_index sizes 0)) e).1 in
    let h = both (is_size (slice_index sizes 0) && nat_le (slice_index sizes 1) (slice_index sizes 2)) (nat_lt (slice_index sizes 2) (slice_index sizes 0)) typed in (
      leb-true (slice_index sizes 1) (slice_index sizes 2) ((both (is_size (slice_index sizes 0)) (nat_le (slice_index sizes 1) (slice_index sizes 2)) h.0).1),
      ltb-true (slice_index sizes 2) (slice_index sizes 0) h.1,
    ))
    (λ e. absurd (false≢true (rw e at some)))
