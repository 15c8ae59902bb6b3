-- So many of those before are like the object.
use Rattle.std.proofs.Common.{◌≡◌, ◌≤◌, map, take, reverse}
use Rattle.c_lowered.specs.Names.{count_like}
use Rattle.object_layout.specs.Views.{object_of}
use Rattle.object_layout.proofs.frames.count_like.Given as goal

abbrev pub invariant-loop-other : goal.invariant-loop-other
invariant-loop-other l =
    record {
      count : l.count ≡ count_like l.words (object_of l.object) (reverse (map object_of (take l.other-index l.earlier)));
      few : l.count ≤ l.other-index;
    }
