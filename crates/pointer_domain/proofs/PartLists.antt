-- Lists of parts and of choices.
--   one_more          one more part, before the rest
--   more_after        one more choice, before those with the rest
--   more_first        the choices of one part, before those of the rest
--   are_values        values of the sizes
--   choices_suit      each choice suits the sizes
--   first_suits, first_alike, first_gathered, none_left   one choice after the other
use Rattle.std.proofs.Common.{◌≡◌, ℕ, List, [], ◌∷◌, ◌++◌, map, Option, Some, None, IsSome, refl, sym, ap, subst, ◌∙◌, append_assoc}
use Rattle.std.specs.Prelude.{Vec, IfSome}
use Rattle.std.specs.List.{AllZip}
use Rattle.std.specs.declared.alloc.Global.{Global}
use Rattle.alf_ops.specs.declared.operator.Op.{Op}
use Rattle.alf_ops.specs.Table.{result_size, size_of_result, operand_sizes}
use Rattle.strided_rules.specs.Strides.{Stride}
use Rattle.pointer_rules.specs.AbstractValues.{AbstractValue, Alternative, HasSize, AreAlike, place_of, alternatives}
use Rattle.pointer_rules.specs.Choices.{Outcome, each_after, each_first, choices, at_choice, united, gathered}
use Rattle.pointer_rules.specs.Covering.{EachSuits, IsValue, IsOutcome}
use Rattle.pointer_rules.specs.ApplyLaws.{EachOf, suit_choices, suit_operands, either_is, alike, choice_is}
use Rattle.pointer_domain.specs.declared.part.Part.{Part}
use Rattle.pointer_domain.specs.declared.part.Part.TheVariants.{At}
use Rattle.pointer_domain.specs.Parts.{alternative_of, parts_of, AreAbstract}

-- one more, before the rest
pub one_more : {A B : Type 0} (f : A → B) (xs : List A) (x : A) (ys : List B)
    → map f (xs ++ (x ∷ [])) ++ ys ≡ map f xs ++ (f x ∷ ys)
one_more f [] x ys = refl
one_more f (y ∷ xs) x ys = ap (λ rest. f y ∷ rest) (one_more f xs x ys)

map_two : {A B : Type 0} (f : A → B) (xs ys : List A) → map f (xs ++ ys) ≡ map f xs ++ map f ys
map_two f [] ys = refl
map_two f (x ∷ xs) ys = ap (λ rest. f x ∷ rest) (map_two f xs ys)

-- one more part, before the places that are left
pub more_parts : (parts : List Part) (rest further : List (ℕ × Stride)) (place : ℕ × Stride) (all : List Alternative)
    → rest ≡ place ∷ further
    → map alternative_of parts ++ map place_of rest ≡ all → map alternative_of (parts ++ (At place.0 place.1 ∷ [])) ++ map place_of further ≡ all
more_parts parts rest further place all cons so_far =
    one_more alternative_of parts (At place.0 place.1) (map place_of further) ∙ subst (λ r. map alternative_of parts ++ map place_of r ≡ all) cons so_far

-- one more choice, before those with the rest
pub more_after : (all : List (Vec Part Global)) (first : Part) (chosen others : Vec Part Global) (rest further : List (Vec Part Global)) (whole : List (List Alternative)) → rest ≡ others ∷ further
    → parts_of chosen ≡ alternative_of first ∷ parts_of others
    → map parts_of all ++ each_after (alternative_of first) (map parts_of rest) ≡ whole
    → map parts_of (all ++ (chosen ∷ [])) ++ each_after (alternative_of first) (map parts_of further) ≡ whole
more_after all first chosen others rest further whole cons is so_far =
    let after : List (List Alternative) = each_after (alternative_of first) (map parts_of further) in
    one_more parts_of all chosen after ∙ ap (λ c. map parts_of all ++ (c ∷ after)) is
    ∙ subst (λ r. map parts_of all ++ each_after (alternative_of first) (map parts_of r) ≡ whole) cons so_far

-- the choices of one part, before those of the rest
pub more_first : (old choices : List (List Alternative)) (rest further : List Part) (first : Part) (whole : List (List Alternative)) → rest ≡ first ∷ further
    → old ++ each_first (map alternative_of rest) choices ≡ whole
    → (old ++ each_after (alternative_of first) choices) ++ each_first (map alternative_of further) choices ≡ whole
more_first old choices rest further first whole cons so_far =
    append_assoc old (each_after (alternative_of first) choices) (each_first (map alternative_of further) choices)
    ∙ subst (λ r. old ++ each_first (map alternative_of r) choices ≡ whole) cons so_far

-- ---- each choice suits the sizes

are_values : (sizes : List ℕ) (args : List AbstractValue) → AreAbstract args
    → AllZip (λ size v. HasSize v size) sizes args → AllZip IsValue sizes args
are_values [] [] are sized = tt
are_values [] (v ∷ args) are sized = absurd sized
are_values (size ∷ sizes) [] are sized = absurd sized
are_values (size ∷ sizes) (v ∷ args) are sized = (record { is = are.0; sized = sized.0 }, are_values sizes args are.1 sized.1)

pub choices_suit : (sizes : List ℕ) (args : List AbstractValue) (all : List (List Alternative))
    → all ≡ choices (map alternatives args) → AreAbstract args → AllZip (λ size v. HasSize v size) sizes args
    → EachOf (EachSuits sizes) all
choices_suit sizes args all is are sized = subst (EachOf (EachSuits sizes)) (sym is) (suit_choices sizes (map alternatives args) (suit_operands sizes args (are_values sizes args are sized)))

-- ---- all outcomes

pub both_alike : (size : ℕ) (a b : Option AbstractValue) → IfSome a (IsValue size) → IfSome b (IsValue size)
    → IfSome a (λ x. IfSome b (λ y. AreAlike x y))
both_alike size None b is_a is_b = tt
both_alike size (Some a) None is_a is_b = tt
both_alike size (Some a) (Some b) is_a is_b = alike size a b is_a is_b

-- what a loop over the choices keeps
pub record Gathers (op : Op) (sizes : List ℕ) (so_far : Outcome) (rest : List (List Alternative))
    (whole : Outcome) : Type 0 where
  pub same : gathered so_far (map (at_choice op sizes) rest) ≡ whole
  pub suits : EachOf (EachSuits (operand_sizes op sizes)) rest
  pub is : IsOutcome (size_of_result op sizes) so_far

at_first : (op : Op) (sizes : List ℕ) (so_far whole : Outcome) (rest further : List (Vec Part Global)) (first : Vec Part Global) (parts : List Part) → rest ≡ first ∷ further → parts ≡ first.items
    → Gathers op sizes so_far (map parts_of rest) whole → Gathers op sizes so_far (map alternative_of parts ∷ map parts_of further) whole
at_first op sizes so_far whole rest further first parts cons is g =
    subst (λ xs. Gathers op sizes so_far (map alternative_of xs ∷ map parts_of further) whole) (sym is) (subst (λ r. Gathers op sizes so_far (map parts_of r) whole) cons g)

-- the first choice suits
pub first_suits : (op : Op) (sizes : List ℕ) (so_far whole : Outcome) (rest further : List (Vec Part Global)) (first : Vec Part Global) (parts : List Part) → rest ≡ first ∷ further → parts ≡ first.items
    → Gathers op sizes so_far (map parts_of rest) whole → EachSuits (operand_sizes op sizes) (map alternative_of parts)
first_suits op sizes so_far whole rest further first parts cons is g = (at_first op sizes so_far whole rest further first parts cons is g).suits.0

-- its value is of the size of those before
pub first_alike : (op : Op) (sizes : List ℕ) (so_far whole answer : Outcome) (rest further : List (Vec Part Global)) (first : Vec Part Global) (parts : List Part) → IsSome (result_size op sizes) → rest ≡ first ∷ further → parts ≡ first.items
    → Gathers op sizes so_far (map parts_of rest) whole → answer ≡ at_choice op sizes (map alternative_of parts) → IfSome so_far.value (λ x. IfSome answer.value (λ y. AreAlike x y))
first_alike op sizes so_far whole answer rest further first parts typed cons is g gives =
    let h = at_first op sizes so_far whole rest further first parts cons is g in
    subst (λ (o : Outcome). IfSome so_far.value (λ x. IfSome o.value (λ y. AreAlike x y))) (sym gives)
    (both_alike (size_of_result op sizes) so_far.value (at_choice op sizes (map alternative_of parts)).value h.is (choice_is op sizes (map alternative_of parts) typed h.suits.0))

-- the rest, after the first choice
pub first_gathered : (op : Op) (sizes : List ℕ) (so_far whole answer new : Outcome) (rest further : List (Vec Part Global)) (first : Vec Part Global) (parts : List Part) → IsSome (result_size op sizes) → rest ≡ first ∷ further → parts ≡ first.items
    → Gathers op sizes so_far (map parts_of rest) whole → answer ≡ at_choice op sizes (map alternative_of parts) → new ≡ united so_far answer → Gathers op sizes new (map parts_of further) whole
first_gathered op sizes so_far whole answer new rest further first parts typed cons is g gives joins =
    let h = at_first op sizes so_far whole rest further first parts cons is g in
    let same : new ≡ united so_far (at_choice op sizes (map alternative_of parts)) = joins ∙ ap (λ o. united so_far o) gives in
    subst (λ (o : Outcome). Gathers op sizes o (map parts_of further) whole) (sym same) (record {
      same = h.same;
      suits = h.suits.1;
      is = either_is (size_of_result op sizes) so_far.value (at_choice op sizes (map alternative_of parts)).value h.is (choice_is op sizes (map alternative_of parts) typed h.suits.0);
    })

-- after the last choice
pub none_left : (op : Op) (sizes : List ℕ) (so_far whole : Outcome) (rest : List (Vec Part Global)) → rest ≡ []
    → Gathers op sizes so_far (map parts_of rest) whole → so_far ≡ whole
none_left op sizes so_far whole rest none g = (subst (λ r. Gathers op sizes so_far (map parts_of r) whole) none g).same
