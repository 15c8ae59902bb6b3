-- What the rules for pointers ask, and what the other operators give.
--   rule_suits   where an operand is a pointer, the words and the operands suit the rule
--   numbers_taken   the words and offsets of their places, as many as there are
use Rattle.std.proofs.Common.{◌≡◌, ℕ, true, List, [], ◌∷◌, map, take, length, Option, None, Some, IsSome, ◌≤◌, arith, refl, ◌∙◌}
use Rattle.std.proofs.lemmas.Slice.Zip.{AllZip-long}
use Rattle.std.proofs.lemmas.List.{length-map}
use Rattle.flat_domain.specs.OperatorSizeLaws.{few_operands}
use Rattle.std.specs.Prelude.{IfSome, ◌||◌, slice_index}
use Rattle.alf_ops.specs.declared.operator.Op.{Op}
use Rattle.alf_ops.specs.declared.operator.Op.TheVariants.{Add, Sub, If}
use Rattle.alf_ops.specs.Table.{result_size, size_of_result, operand_sizes}
use Rattle.strided_rules.specs.Strides.{Stride}
use Rattle.strided_rules.specs.StrideLaws.{stride_is_sets}
use Rattle.pointer_rules.specs.AbstractValues.{Alternative, Words, Places, AreAlike, alone, numbers_of}
use Rattle.pointer_rules.specs.Choices.{is_place, numbers, alternative_at}
use Rattle.pointer_rules.specs.Covering.{SuitsSize, EachSuits}
use Rattle.pointer_rules.specs.RuleLaws.{alone_is}
use Rattle.pointer_rules.specs.ChoiceLaws.{sized_numbers, kept_numbers}
use Rattle.pointer_domain.specs.declared.part.Part.{Part}
use Rattle.pointer_domain.specs.Parts.{alternative_of, SuitsRule}

-- ---- where an operand is a pointer

abbrev some_place : List Alternative → Type 0
some_place args = (is_place (alternative_at args 0) || is_place (alternative_at args 1) || is_place (alternative_at args 2)) ≡ true

of_size : (words : Option Stride) (size : ℕ) → ((d : Stride) → words ≡ Some d → d.size ≡ size)
    → IfSome words (λ d. d.size ≡ size)
of_size None size each = tt
of_size (Some d) size each = each d refl

-- the size is that of a pointer
size_of_places : (size : ℕ) (a b c : Alternative) → SuitsSize size a → SuitsSize size b → SuitsSize 1 c
    → (is_place a || is_place b || is_place c) ≡ true → size ≡ 32
size_of_places size (Places frame offsets) b c suits_a suits_b suits_c some = suits_a.1
size_of_places size (Words words) (Places frame offsets) c suits_a suits_b suits_c some = suits_b.1
size_of_places size (Words words) (Words others) (Places frame offsets) suits_a suits_b suits_c some = absurd (let same : 1 ≡ 32 = suits_c.1 in omega (arith, same))
size_of_places size (Words words) (Words others) (Words bit) suits_a suits_b suits_c some = cc

pointer_size : (size : ℕ) (args : List Alternative) → EachSuits (size ∷ size ∷ 1 ∷ []) args → some_place args
    → size ≡ 32
pointer_size size [] suits some = absurd suits
pointer_size size (a ∷ []) suits some = absurd suits.1
pointer_size size (a ∷ b ∷ []) suits some = absurd suits.1.1
pointer_size size (a ∷ b ∷ c ∷ d ∷ args) (first, (second, (third, too_long))) some = absurd too_long
pointer_size size (a ∷ b ∷ c ∷ []) (first, (second, (third, end))) some = size_of_places size a b c first second third some

alike_members : (size : ℕ) (args : List Alternative) → EachSuits (1 ∷ size ∷ size ∷ []) args
    → AreAlike (alone (alternative_at args 1)) (alone (alternative_at args 2))
alike_members size [] suits = absurd suits
alike_members size (a ∷ []) suits = absurd suits.1
alike_members size (a ∷ b ∷ []) suits = absurd suits.1.1
alike_members size (a ∷ b ∷ c ∷ d ∷ args) (first, (second, (third, too_long))) = absurd too_long
alike_members size (a ∷ b ∷ c ∷ []) (bit, (suits_b, (suits_c, end))) =
    let first = alone_is size b suits_b in let second = alone_is size c suits_c in
    record { size = size; first = (first.is, first.sized); second = (second.is, second.sized) }

sized_result : (op : Op) (sizes : List ℕ) (args : List Alternative) → IsSome (result_size op sizes)
    → EachSuits (operand_sizes op sizes) args
    → (d : Stride) → numbers op sizes args ≡ Some d → d.size ≡ size_of_result op sizes
sized_result op sizes args typed suits d is =
    ((stride_is_sets.applied op sizes (map numbers_of args) typed (sized_numbers (operand_sizes op sizes) args suits) (kept_numbers (operand_sizes op sizes) args suits)).size d is).size

-- the words and the operands suit the rule
pub rule_suits : (op : Op) (sizes : List ℕ) (args : List Alternative) → IsSome (result_size op sizes)
    → EachSuits (operand_sizes op sizes) args
    → (is_place (alternative_at args 0) || is_place (alternative_at args 1) || is_place (alternative_at args 2)) ≡ true
    → SuitsRule op (numbers op sizes args) (alternative_at args 1) (alternative_at args 2)
rule_suits Add sizes args typed suits some =
    of_size (numbers Add sizes args) 32 (λ d is. sized_result Add sizes args typed suits d is ∙ pointer_size (slice_index sizes 0) args suits some)
rule_suits Sub sizes args typed suits some =
    of_size (numbers Sub sizes args) 32 (λ d is. sized_result Sub sizes args typed suits d is ∙ pointer_size (slice_index sizes 0) args suits some)
rule_suits If sizes args typed suits some = alike_members (slice_index sizes 0) args suits
rule_suits op sizes args typed suits some = tt

-- ---- parts by their places

pub numbers_taken : (chosen : List Part) → length chosen ≤ 3
    → take (length chosen) (numbers_of (alternative_at (map alternative_of chosen) 0) ∷ numbers_of (alternative_at (map alternative_of chosen) 1) ∷ numbers_of (alternative_at (map alternative_of chosen) 2) ∷ [])
    ≡ map numbers_of (map alternative_of chosen)
numbers_taken [] few = refl
numbers_taken (a ∷ []) few = refl
numbers_taken (a ∷ b ∷ []) few = refl
numbers_taken (a ∷ b ∷ c ∷ []) few = refl
numbers_taken (a ∷ b ∷ c ∷ d ∷ chosen) few = absurd (omega (arith, few))

-- no more than three
pub few_parts : (op : Op) (sizes : List ℕ) (chosen : List Part)
    → EachSuits (operand_sizes op sizes) (map alternative_of chosen) → length chosen ≤ 3
few_parts op sizes chosen suits =
    let long : length (map alternative_of chosen) ≡ length (operand_sizes op sizes) = AllZip-long SuitsSize (operand_sizes op sizes) (map alternative_of chosen) suits in
    let same : length (map alternative_of chosen) ≡ length chosen = length-map chosen alternative_of in
    omega (arith, few_operands op sizes, long, same)
