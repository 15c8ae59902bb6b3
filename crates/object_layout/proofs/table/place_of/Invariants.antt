-- The object is among those that are left.
use Rattle.std.proofs.Common.{◌≡◌, ◌+◌, map, length}
use Rattle.c_meaning.specs.Objects.{object_at}
use Rattle.object_layout.specs.Views.{object_of}
use Rattle.object_layout.proofs.table.place_of.Given as goal

abbrev pub invariant-objects : goal.invariant-objects
invariant-objects l =
    record {
      place : object_at (map object_of l.rest) l.token + l.place ≡ object_at (map object_of l.objects) l.token;
      within : l.place + length l.rest ≡ length l.objects;
    }

abbrev pub decreases-objects : goal.decreases-objects
decreases-objects l = length l.rest
