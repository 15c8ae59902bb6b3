-- Names in a lowered program differ.
--   object_found                        an object is found by its token, and its frame has the name of its place
use Rattle.std.proofs.Common.{◌≡◌, ◌<◌, ℕ, List, length, Option, Some}
use Rattle.c_rules.specs.Names.{text_at}
use Rattle.c_meaning.specs.Objects.{Object, Program}
use Rattle.c_lowered.specs.Names.{count_like}
use Rattle.lowering_layout.specs.Spelled.{ObjectIsNamed, IsOwned, HasNames}

-- ---- functions

module _ (program : Program) (names : HasNames program) where
  -- ---- objects

  abbrev pub Owner : Option ℕ → Type 0
  Owner owner = (f : ℕ) → owner ≡ Some f → f < length program.functions

  -- ---- how many objects like one stand before it

  -- more stand before p than before o, wherever p is like o
  abbrev pub MoreThan : ℕ → Object → List Object → Type 0
  MoreThan k o seen = (p : Object) → p.owner ≡ o.owner → text_at program.words p.token ≡ text_at program.words o.token → k < count_like program.words p seen

  -- ---- objects

  abbrev pub IsKnown : Object → Type 0
  IsKnown o = ObjectIsNamed program.words o × IsOwned (length program.functions) o
