-- Frames of the parts of a function.
use Rattle.std.proofs.Common.{◌<◌, ℕ, List, length}
use Rattle.c_meaning.specs.Objects.{Object, Program}
use Rattle.lowering_layout.specs.Lists.{EachOf, Apart}
use Rattle.lowering_layout.specs.Spelled.{HasNames}
use Rattle.lowering_layout.specs.Places.{OfOtherFrames}
use Rattle.lowering_layout.specs.PartFrames.{IsObject}

module _ (program : Program) (names : HasNames program) (f : ℕ) (low : f < length program.functions) where
  -- ---- frames of locals

  abbrev pub AreObjects : List Object → Type 0
  AreObjects os = EachOf (IsObject program) os

  abbrev pub AreApart : List Object → Type 0
  AreApart os = Apart (OfOtherFrames program names) os
