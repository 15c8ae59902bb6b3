-- What a table of a unit keeps.
--   IsTable unit words objects frames functions signatures   its words, its objects, the names of their frames, and its functions
use Rattle.std.specs.Prelude.{◌≡◌, ℕ, List}
use Rattle.c_unit.specs.Units.{Word, UnitTree}
use Rattle.c_rules.specs.Units.{definitions}
use Rattle.c_scopes.specs.Numbers.{Made}
use Rattle.c_meaning.specs.Objects.{Object, objects_of, program_of}
use Rattle.c_lowered.specs.Names.{frame_names}
use Rattle.object_layout.specs.Views.{Signature, signatures_of}

pub record IsTable (unit : UnitTree) (words : List Word) (objects : List Object) (frames : List (List ℕ))
    (functions : Made) (signatures : List Signature) : Type 0 where
  pub words_are : words ≡ unit.words
  pub objects_are : objects ≡ objects_of unit
  pub frames_are : frames ≡ frame_names (program_of unit)
  pub functions_are : functions ≡ record { words = unit.words; names = definitions unit.externals }
  pub signatures_are : signatures ≡ signatures_of unit.externals
