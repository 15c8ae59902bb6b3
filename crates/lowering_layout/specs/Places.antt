-- Objects of a program, their frames and their places.
--   NamedAs name o         the name is that of the object, of which fewer than 256 like it stand before
use Rattle.std.proofs.Common.{◌≡◌, ◌≢◌, ◌<◌, ℕ, List, slice_get, Some}
use Rattle.c_rules.specs.Names.{text_at}
use Rattle.c_meaning.specs.Objects.{Object, Program}
use Rattle.c_lowered.specs.Names.{owned_name, frame_names, name_at, frame_of}
use Rattle.lowering_layout.specs.Spelled.{HasNames}

-- ---- objects by their tokens

module _ (program : Program) where
  -- the name is that of an object, before which fewer than 256 like it stand
  pub record NamedAs (name : List ℕ) (o : Object) : Type 0 where
    pub like : ℕ
    pub few : like < 256
    pub is : name ≡ owned_name program o.owner (text_at program.words o.token) like

module _ (program : Program) (names : HasNames program) where
  pub record HasName (i : ℕ) (o : Object) : Type 0 where
    pub at : slice_get (frame_names program) i ≡ Some (name_at program i)
    pub named : NamedAs program (name_at program i) o

  abbrev pub OfOtherFrames : Object → Object → Type 0
  OfOtherFrames o p = frame_of program o.token ≢ frame_of program p.token
