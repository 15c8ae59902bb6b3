-- The rules at some pointers and words, by computing.
use Rattle.std.proofs.Common.{◌≡◌, Some, None, [], ◌∷◌, refl}
use Rattle.alf_ops.specs.declared.operator.Op.TheVariants.{Sub, Neq}
use Rattle.alf_ops.specs.declared.history.RunFault.TheVariants.{Kind}
use Rattle.domain_core.specs.FaultSets.{no_faults, with_fault}
use Rattle.strided_rules.specs.Strides.{norm, one_word}
use Rattle.pointer_rules.specs.Choices.{applied}

pub moved : applied Sub (32 ∷ []) (record { words = None; places = (1, one_word 32 4) ∷ (2, one_word 32 12) ∷ [] } ∷ record { words = Some (one_word 32 4); places = [] } ∷ record { words = Some (one_word 1 1); places = [] } ∷ [])
    ≡ record { value = Some (record { words = None; places = (1, one_word 32 0) ∷ (2, one_word 32 8) ∷ [] }); faults = no_faults }
unfolding norm
moved = refl

pub mixed : applied Neq (32 ∷ []) (record { words = Some (one_word 32 0); places = (1, one_word 32 4) ∷ [] } ∷ record { words = None; places = (1, one_word 32 4) ∷ [] } ∷ [])
    ≡ record { value = Some (record { words = Some (one_word 1 0); places = [] }); faults = with_fault no_faults Kind }
unfolding norm
mixed = refl
