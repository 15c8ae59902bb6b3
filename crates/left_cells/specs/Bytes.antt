-- Bytes that read alike in the histories that two memories stand for.
--   EachIsUnset       a load of the byte tells that nothing was stored in it
--   IsOneNumber words number   the words have this number alone
--   IsLone a b        both are there, and have one number alone, the same
--   ReadAlikeIn       a load of the byte gives the same after each history of the one and each history of the other
use Rattle.std.specs.Prelude.{◌≡◌, ℕ, ℤ, List, Option, Some, Err}
use Rattle.alf_ops.specs.declared.history.Value.TheVariants.{Ptr}
use Rattle.alf_ops.specs.declared.history.RunFault.TheVariants.{Uninit}
use Rattle.alf_ops.specs.declared.history.RunEvent.{RunEvent}
use Rattle.alf_ops.specs.declared.history.FrameShape.{FrameShape}
use Rattle.alf_ops.specs.Histories.{load, IsSoundHistory}
use Rattle.strided_rules.specs.Strides.{Stride}
use Rattle.memory_rules.specs.Memories.{Mem, MemCovers}
use Rattle.memory_rules.specs.AbstractSets.{abstract_sets}

-- a load of the byte tells that nothing was stored in it, in each history that the memory stands for
abbrev pub EachIsUnset : List FrameShape → Mem abstract_sets → ℕ → ℕ → Type 0
EachIsUnset rows m frame byte = (history : List RunEvent) → IsSoundHistory history → MemCovers abstract_sets rows m history → load rows history (Ptr frame byte) 8 ≡ Err Uninit

-- the words have this number alone
pub record IsOneNumber (words : Stride) (number : ℤ) : Type 0 where
  pub least : words.numbers.lo ≡ number
  pub most : words.numbers.hi ≡ number

-- both are there, and have one number alone, the same
pub record IsLone (a b : Option Stride) : Type 0 where
  pub number : ℤ
  pub words : Stride
  pub others : Stride
  pub first : a ≡ Some words
  pub second : b ≡ Some others
  pub one : IsOneNumber words number
  pub two : IsOneNumber others number

-- a load of the byte gives the same after each history of the one and each history of the other
abbrev pub ReadAlikeIn : List FrameShape → List FrameShape → Mem abstract_sets → Mem abstract_sets → ℕ → ℕ → Type 0
ReadAlikeIn rows others m n frame byte =
    (a b : List RunEvent) → IsSoundHistory a → IsSoundHistory b → MemCovers abstract_sets rows m a → MemCovers abstract_sets others n b → load rows a (Ptr frame byte) 8 ≡ load others b (Ptr frame byte) 8
