-- Steps of small programs, by computing.
use Rattle.std.proofs.Common.{◌≡◌, pos, Some, [], ◌∷◌, refl}
use Rattle.alf_ops.specs.declared.operator.Op.TheVariants.{SLt, ZExt}
use Rattle.alf_ops.specs.declared.history.RunFault.TheVariants.{Kind, Uninit}
use Rattle.alf_program.specs.Tree.{Address, Apply, Empty, With}
use Rattle.flow_graph.specs.Nodes.{entry_node, block_node}
use Rattle.domain_core.specs.FaultSets.{no_faults, with_fault}
use Rattle.whole_numbers.specs.Numbers.{gcd_nat}
use Rattle.progressions.specs.Progressions.{from_to, hull}
use Rattle.progressions.specs.Parts.{from_least, up_to, without_first, without_last}
use Rattle.strided_rules.specs.Strides.{norm, join}
use Rattle.strided_rules.specs.Joins.{each, each_pair}
use Rattle.memory_rules.specs.Worked.{words_alone}
use Rattle.transfer_rules.specs.Worked.{one_block, content, number, both_of, ranged, stepped, cut_to, called, returned}

pub first : cut_to (both_of SLt content (number 8 5)) (pos 0) (pos 10) 1 ≡ Some (words_alone (record { size = 8; numbers = from_to (pos 0) (pos 4) (pos 1) }))
unfolding norm join hull gcd_nat each each_pair from_least up_to
first = refl

pub first_not : cut_to (both_of SLt content (number 8 5)) (pos 0) (pos 10) 0 ≡ Some (words_alone (record { size = 8; numbers = from_to (pos 5) (pos 10) (pos 1) }))
unfolding norm join hull gcd_nat each each_pair from_least up_to
first_not = refl

pub second : cut_to (both_of SLt (number 8 5) content) (pos 0) (pos 10) 1 ≡ Some (words_alone (record { size = 8; numbers = from_to (pos 6) (pos 10) (pos 1) }))
unfolding norm join hull gcd_nat each each_pair from_least up_to
second = refl

pub second_not : cut_to (both_of SLt (number 8 5) content) (pos 0) (pos 10) 0 ≡ Some (words_alone (record { size = 8; numbers = from_to (pos 0) (pos 5) (pos 1) }))
unfolding norm join hull gcd_nat each each_pair from_least up_to
second_not = refl

pub decided : stepped (one_block (both_of SLt content (number 8 5)) ((1, 1) ∷ []) 2) (ranged (pos 7) (pos 7))
    ≡ ((Some (block_node [] 2), Some (words_alone (record { size = 8; numbers = from_to (pos 7) (pos 7) (pos 1) }))) ∷ [], no_faults)
unfolding norm join hull gcd_nat each each_pair from_least up_to
decided = refl

pub targets : stepped (one_block content ((0, 1) ∷ (2, 1) ∷ []) 2) (ranged (pos 0) (pos 2))
    ≡ (
      (Some (block_node [] 1), Some (words_alone (record { size = 8; numbers = from_to (pos 0) (pos 0) (pos 1) })))
          ∷ (Some (block_node [] 1), Some (words_alone (record { size = 8; numbers = from_to (pos 2) (pos 2) (pos 1) })))
          ∷ (Some (block_node [] 2), Some (words_alone (record { size = 8; numbers = from_to (pos 1) (pos 1) (pos 1) }))) ∷ [],
      no_faults,
    )
unfolding norm join hull gcd_nat each each_pair from_least up_to without_first without_last
targets = refl

pub extended : stepped (one_block (Apply ZExt (8 ∷ 32 ∷ []) (With content Empty)) ((0, 1) ∷ []) 2) (ranged (pos 0) (pos 2))
    ≡ (
      (Some (block_node [] 1), Some (words_alone (record { size = 8; numbers = from_to (pos 0) (pos 0) (pos 1) })))
          ∷ (Some (block_node [] 2), Some (words_alone (record { size = 8; numbers = from_to (pos 1) (pos 2) (pos 1) }))) ∷ [],
      no_faults,
    )
unfolding norm join hull gcd_nat each each_pair from_least up_to without_first without_last
extended = refl

pub pointer : stepped (one_block (Address 0 0) ((0, 1) ∷ []) 2) (ranged (pos 0) (pos 2)) ≡ ([], with_fault no_faults Kind)
unfolding norm join hull gcd_nat each from_least up_to
pointer = refl

pub uninitialised : stepped (one_block content ((0, 1) ∷ []) 2) [] ≡ ([], with_fault no_faults Uninit)
unfolding norm join hull gcd_nat each from_least up_to
uninitialised = refl

pub call_enters : called ≡ Some (entry_node (0 ∷ [])) ∷ []
unfolding norm join hull gcd_nat each from_least up_to
call_enters = refl

pub call_returns : returned ≡ ((Some (block_node [] 1), Some (words_alone (record { size = 8; numbers = from_to (pos 4) (pos 4) (pos 1) }))) ∷ [], no_faults)
unfolding norm join hull gcd_nat each from_least up_to
call_returns = refl
