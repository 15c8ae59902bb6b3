-- What an operator gives at abstract values tells the outcome at each choice of values of a run.
--   OneOf P xs, EachOf P xs    P holds of some element, of each
--   value_alone                a value with one member is one alternative
--   joined_only                the join of two values with one and the same member has this member alone
--   applied_is                 its value has the size of the operator's result
--   applied_tells              each outcome of the run is told
--   applied_only               of values of one member alone exactly the run's outcome is
use Rattle.std.proofs.Common.{◌≡◌, ℕ, List, [], ◌∷◌, ◌++◌, map, Option, Some, None, IsSome, inl, inr, arith, refl, sym, ap, subst, ◌∙◌, ◌⊎◌}
use Rattle.std.specs.Prelude.{IsSomeAnd, IfSome, ◌==◌, Result, Ok, Err}
use Rattle.std.specs.List.{AllZip}
use Rattle.std.proofs.lemmas.Bool.{eqb-true, eq-eqb, or_left, or_right}
use Rattle.alf_ops.specs.declared.operator.Op.{Op}
use Rattle.alf_ops.specs.declared.history.Value.{Value}
use Rattle.alf_ops.specs.declared.history.Value.TheVariants.{Int, Ptr}
use Rattle.alf_ops.specs.declared.history.RunFault.{RunFault}
use Rattle.alf_ops.specs.Table.{result_size, size_of_result, operand_sizes}
use Rattle.alf_ops.specs.Values.{bits_of}
use Rattle.alf_ops.specs.Pointers.{outcome}
use Rattle.domain_core.specs.FaultLaws.{is_united}
use Rattle.lists.specs.TestLaws.{by_test}
use Rattle.strided_rules.specs.Strides.{Stride, IsStride, joined as joined_words, Covers as CoversWord}
use Rattle.strided_rules.specs.MemberLaws.{some_word}
use Rattle.strided_rules.specs.StrideLaws.{stride_is_sets}
use Rattle.pointer_rules.specs.AbstractValues.{AbstractValue, Alternative, Words, Places, Covers, OnlyCovers, ArePlaces, AreAscending, IsPointerSize, AreAlike, offsets_in, words_first, place_of, alternatives, alone, joined}
use Rattle.pointer_rules.specs.Choices.{Outcome, each_after, each_first, choices, at_choice, either_value, united, gathered, nothing, applied}
use Rattle.pointer_rules.specs.Covering.{SuitsSize, IsOf, OnlyOf, EachSuits, EachIsOf, EachOnly, IsValue, IsOutcome, Tells, OnlyTells}
use Rattle.pointer_rules.specs.ValueLaws.{joined_is, joined_size, value_is_order}
use Rattle.pointer_rules.specs.RuleLaws.{alone_only}
use Rattle.pointer_rules.specs.ChoiceLaws.{Chosen, choice_answers}

-- P holds of some element, and of each
abbrev OneOf : {A : Type 0} → (A → Type 0) → List A → Type 0
OneOf P [] = ⊥
OneOf P (x ∷ xs) = P x ⊎ OneOf P xs

abbrev pub EachOf : {A : Type 0} → (A → Type 0) → List A → Type 0
EachOf P [] = Unit {0}
EachOf P (x ∷ xs) = P x × EachOf P xs

module _ {A : Type 0} where
  one_left : (P : A → Type 0) (xs ys : List A) → OneOf P xs → OneOf P (xs ++ ys)
  one_left P [] ys one = absurd one
  one_left P (x ∷ xs) ys (inl is) = inl is
  one_left P (x ∷ xs) ys (inr one) = inr (one_left P xs ys one)

  one_right : (P : A → Type 0) (xs ys : List A) → OneOf P ys → OneOf P (xs ++ ys)
  one_right P [] ys one = one
  one_right P (x ∷ xs) ys one = inr (one_right P xs ys one)

  each_both : (P : A → Type 0) (xs ys : List A) → EachOf P xs → EachOf P ys → EachOf P (xs ++ ys)
  each_both P [] ys first second = second
  each_both P (x ∷ xs) ys first second = (first.0, each_both P xs ys first.1 second)

  one_of_each : (P Q : A → Type 0) (xs : List A) → OneOf P xs → EachOf Q xs → OneOf (λ x. P x × Q x) xs
  one_of_each P Q [] one each = absurd one
  one_of_each P Q (x ∷ xs) (inl is) each = inl (is, each.0)
  one_of_each P Q (x ∷ xs) (inr one) each = inr (one_of_each P Q xs one each.1)

one_map : {A B : Type 0} (P : A → Type 0) (Q : B → Type 0) (f : A → B) → ((x : A) → P x → Q (f x)) → (xs : List A)
    → OneOf P xs → OneOf Q (map f xs)
one_map P Q f gives [] one = absurd one
one_map P Q f gives (x ∷ xs) (inl is) = inl (gives x is)
one_map P Q f gives (x ∷ xs) (inr one) = inr (one_map P Q f gives xs one)

each_map : {A B : Type 0} (P : A → Type 0) (Q : B → Type 0) (f : A → B) → ((x : A) → P x → Q (f x)) → (xs : List A)
    → EachOf P xs → EachOf Q (map f xs)
each_map P Q f gives [] each = tt
each_map P Q f gives (x ∷ xs) each = (gives x each.0, each_map P Q f gives xs each.1)

-- ---- choices

one_after : (first : Alternative) (value : Value) (values : List Value) (rest : List (List Alternative))
    → IsOf first value → OneOf (λ args. EachIsOf args values) rest
    → OneOf (λ args. EachIsOf args (value ∷ values)) (each_after first rest)
one_after first value values [] is one = absurd one
one_after first value values (args ∷ rest) is (inl are) = inl (is, are)
one_after first value values (args ∷ rest) is (inr one) = inr (one_after first value values rest is one)

suit_after : (first : Alternative) (size : ℕ) (sizes : List ℕ) (rest : List (List Alternative)) → SuitsSize size first
    → EachOf (EachSuits sizes) rest
    → EachOf (EachSuits (size ∷ sizes)) (each_after first rest)
suit_after first size sizes [] suits each = tt
suit_after first size sizes (args ∷ rest) suits each = ((suits, each.0), suit_after first size sizes rest suits each.1)

one_first : (firsts : List Alternative) (value : Value) (values : List Value) (rest : List (List Alternative))
    → OneOf (λ x. IsOf x value) firsts → OneOf (λ args. EachIsOf args values) rest
    → OneOf (λ args. EachIsOf args (value ∷ values)) (each_first firsts rest)
one_first [] value values rest one others = absurd one
one_first (first ∷ firsts) value values rest (inl is) others =
    one_left (λ args. EachIsOf args (value ∷ values)) (each_after first rest) (each_first firsts rest) (one_after first value values rest is others)
one_first (first ∷ firsts) value values rest (inr one) others =
    one_right (λ args. EachIsOf args (value ∷ values)) (each_after first rest) (each_first firsts rest) (one_first firsts value values rest one others)

suit_first : (firsts : List Alternative) (size : ℕ) (sizes : List ℕ) (rest : List (List Alternative))
    → EachOf (SuitsSize size) firsts → EachOf (EachSuits sizes) rest
    → EachOf (EachSuits (size ∷ sizes)) (each_first firsts rest)
suit_first [] size sizes rest each others = tt
suit_first (first ∷ firsts) size sizes rest each others =
    each_both (EachSuits (size ∷ sizes)) (each_after first rest) (each_first firsts rest) (suit_after first size sizes rest each.0 others) (suit_first firsts size sizes rest each.1 others)

one_choice : (operands : List (List Alternative)) (values : List Value)
    → AllZip (λ alternatives value. OneOf (λ x. IsOf x value) alternatives) operands values
    → OneOf (λ args. EachIsOf args values) (choices operands)
one_choice [] [] each = inl tt
one_choice [] (value ∷ values) each = absurd each
one_choice (operand ∷ operands) [] each = absurd each
one_choice (operand ∷ operands) (value ∷ values) each = one_first operand value values (choices operands) each.0 (one_choice operands values each.1)

pub suit_choices : (sizes : List ℕ) (operands : List (List Alternative))
    → AllZip (λ size alternatives. EachOf (SuitsSize size) alternatives) sizes operands
    → EachOf (EachSuits sizes) (choices operands)
suit_choices [] [] each = (tt, tt)
suit_choices [] (operand ∷ operands) each = absurd each
suit_choices (size ∷ sizes) [] each = absurd each
suit_choices (size ∷ sizes) (operand ∷ operands) each = suit_first operand size sizes (choices operands) each.0 (suit_choices sizes operands each.1)

-- ---- the alternatives of a value

pointer_size : (places : List (ℕ × Stride)) (size : ℕ) → size ≡ 32 → IsPointerSize places size
pointer_size [] size same = tt
pointer_size (place ∷ places) size same = same

suit_places : (size : ℕ) (places : List (ℕ × Stride)) → ArePlaces places → IsPointerSize places size
    → EachOf (SuitsSize size) (map place_of places)
suit_places size [] are same = tt
suit_places size (place ∷ places) are same =
    ((record { kept = are.0.offsets; size = are.0.size ∙ sym same }, same), suit_places size places are.1 (pointer_size places size same))

suit_words : (size : ℕ) (words : Option Stride) → IfSome words IsStride → IfSome words (λ d. d.size ≡ size)
    → EachOf (SuitsSize size) (words_first words)
suit_words size None is same = tt
suit_words size (Some words) is same = (record { kept = is; size = same }, tt)

suit_alternatives : (size : ℕ) (v : AbstractValue) → IsValue size v → EachOf (SuitsSize size) (alternatives v)
suit_alternatives size v value = each_both (SuitsSize size) (words_first v.words) (map place_of v.places)
    (suit_words size v.words value.is.words value.sized.words) (suit_places size v.places value.is.places value.sized.places)

one_word_of : (words : Option Stride) (size bits : ℕ) → IsSomeAnd words (λ d. (d.size ≡ size) × CoversWord d bits)
    → OneOf (λ x. IsOf x (Int size bits)) (words_first words)
one_word_of None size bits there = absurd there
one_word_of (Some words) size bits there = inl there

one_place_of : (places : List (ℕ × Stride)) (frame offset : ℕ)
    → IsSomeAnd (offsets_in places frame) (λ d. CoversWord d offset)
    → OneOf (λ x. IsOf x (Ptr frame offset)) (map place_of places)
one_place_of [] frame offset there = absurd there
one_place_of (place ∷ places) frame offset there = by_test (place.0 == frame)
    (λ e. inl (eqb-true place.0 frame e, rw e at there))
    (λ e. inr (one_place_of places frame offset (rw e at there)))

one_alternative : (v : AbstractValue) (value : Value) → Covers v value → OneOf (λ x. IsOf x value) (alternatives v)
one_alternative v (Int size bits) there = one_left (λ x. IsOf x (Int size bits)) (words_first v.words) (map place_of v.places) (one_word_of v.words size bits there)
one_alternative v (Ptr frame offset) there = one_right (λ x. IsOf x (Ptr frame offset)) (words_first v.words) (map place_of v.places) (one_place_of v.places frame offset there)

pub suit_operands : (sizes : List ℕ) (args : List AbstractValue) → AllZip IsValue sizes args
    → AllZip (λ size alternatives. EachOf (SuitsSize size) alternatives) sizes (map alternatives args)
suit_operands [] [] each = tt
suit_operands [] (v ∷ args) each = absurd each
suit_operands (size ∷ sizes) [] each = absurd each
suit_operands (size ∷ sizes) (v ∷ args) each = (suit_alternatives size v each.0, suit_operands sizes args each.1)

one_operands : (args : List AbstractValue) (values : List Value) → AllZip Covers args values
    → AllZip (λ alternatives value. OneOf (λ x. IsOf x value) alternatives) (map alternatives args) values
one_operands [] [] each = tt
one_operands [] (value ∷ values) each = absurd each
one_operands (v ∷ args) [] each = absurd each
one_operands (v ∷ args) (value ∷ values) each = (one_alternative v value each.0, one_operands args values each.1)

-- ---- all outcomes

-- the join of two values of one size has this size
pub joined_value : (size : ℕ) (a b : AbstractValue) → IsValue size a → IsValue size b → IsValue size (joined a b)
joined_value size a b is_a is_b =
    let both : AreAlike a b = record { size = size; first = (is_a.is, is_a.sized); second = (is_b.is, is_b.sized) } in
    record { is = joined_is a b both; sized = joined_size a b both }

pub alike : (size : ℕ) (a b : AbstractValue) → IsValue size a → IsValue size b → AreAlike a b
alike size a b is_a is_b = record { size = size; first = (is_a.is, is_a.sized); second = (is_b.is, is_b.sized) }

pub either_is : (size : ℕ) (a b : Option AbstractValue) → IfSome a (IsValue size) → IfSome b (IsValue size)
    → IfSome (either_value a b) (IsValue size)
either_is size None b is_a is_b = is_b
either_is size (Some a) None is_a is_b = is_a
either_is size (Some a) (Some b) is_a is_b =
    joined_value size a b is_a is_b

either_left : (size : ℕ) (value : Value) (a b : Option AbstractValue) → IfSome a (IsValue size)
    → IfSome b (IsValue size) → IsSomeAnd a (λ v. Covers v value) → IsSomeAnd (either_value a b) (λ v. Covers v value)
either_left size value None b is_a is_b there = absurd there
either_left size value (Some a) None is_a is_b there = there
either_left size value (Some a) (Some b) is_a is_b there = value_is_order.left a b (alike size a b is_a is_b) value there

either_right : (size : ℕ) (value : Value) (a b : Option AbstractValue) → IfSome a (IsValue size)
    → IfSome b (IsValue size) → IsSomeAnd b (λ v. Covers v value) → IsSomeAnd (either_value a b) (λ v. Covers v value)
either_right size value a None is_a is_b there = absurd there
either_right size value None (Some b) is_a is_b there = there
either_right size value (Some a) (Some b) is_a is_b there = value_is_order.right a b (alike size a b is_a is_b) value there

united_left : (size : ℕ) (a b : Outcome) (result : Result Value RunFault) → IsOutcome size a → IsOutcome size b
    → Tells a result → Tells (united a b) result
united_left size a b (Ok value) is_a is_b told = either_left size value a.value b.value is_a is_b told
united_left size a b (Err fault) is_a is_b told = is_united a.faults b.faults fault ∙ or_left _ _ told

united_right : (size : ℕ) (a b : Outcome) (result : Result Value RunFault) → IsOutcome size a → IsOutcome size b
    → Tells b result → Tells (united a b) result
united_right size a b (Ok value) is_a is_b told = either_right size value a.value b.value is_a is_b told
united_right size a b (Err fault) is_a is_b told = is_united a.faults b.faults fault ∙ or_right _ _ told

gathered_is : (size : ℕ) (before : Outcome) (outcomes : List Outcome) → IsOutcome size before
    → EachOf (IsOutcome size) outcomes → IsOutcome size (gathered before outcomes)
gathered_is size before [] is each = is
gathered_is size before (first ∷ outcomes) is each = gathered_is size (united before first) outcomes (either_is size before.value first.value is each.0) each.1

gathered_before : (size : ℕ) (before : Outcome) (outcomes : List Outcome) (result : Result Value RunFault)
    → IsOutcome size before → EachOf (IsOutcome size) outcomes
    → Tells before result → Tells (gathered before outcomes) result
gathered_before size before [] result is each told = told
gathered_before size before (first ∷ outcomes) result is each told =
    gathered_before size (united before first) outcomes result (either_is size before.value first.value is each.0) each.1 (united_left size before first result is each.0 told)

gathered_one : (size : ℕ) (before : Outcome) (outcomes : List Outcome) (result : Result Value RunFault)
    → IsOutcome size before → EachOf (IsOutcome size) outcomes
    → OneOf (λ o. Tells o result) outcomes → Tells (gathered before outcomes) result
gathered_one size before [] result is each one = absurd one
gathered_one size before (first ∷ outcomes) result is each (inl told) =
    gathered_before size (united before first) outcomes result (either_is size before.value first.value is each.0) each.1 (united_right size before first result is each.0 told)
gathered_one size before (first ∷ outcomes) result is each (inr one) =
    gathered_one size (united before first) outcomes result (either_is size before.value first.value is each.0) each.1 one

-- ---- a value of one member

abbrev frame_of : Value → ℕ
frame_of (Int size bits) = 0
frame_of (Ptr frame offset) = frame

alone_of : (words : Option Stride) (places : List (ℕ × Stride)) (value : Value) → IfSome words IsStride
    → ArePlaces places → AreAscending places
    → Covers (record { words = words; places = places }) value → ((other : Value) → Covers (record { words = words; places = places }) other → other ≡ value)
    → (x : Alternative) × (record { words = words; places = places } ≡ alone x) × OnlyOf x value
alone_of None [] (Int size bits) is are ascending there one = absurd there
alone_of None [] (Ptr frame offset) is are ascending there one = absurd there
alone_of (Some words) [] (Int size bits) is are ascending there one = (Words words, refl, (there.0, record { is = there.1; one = λ bit covers. ap bits_of (one (Int size bit) (there.0, covers)) }))
alone_of (Some words) [] (Ptr frame offset) is are ascending there one = absurd there
alone_of None (place ∷ []) (Int size bits) is are ascending there one = absurd there
alone_of None (place ∷ []) (Ptr frame offset) is are ascending there one = by_test (place.0 == frame)
    (λ e. (Places place.0 place.1, refl, (eqb-true place.0 frame e, record { is = rw e at there; one = λ bit covers. ap bits_of (one (Ptr frame bit) (rw e covers)) })))
    (λ e. absurd (rw e at there))
alone_of (Some words) (place ∷ places) value is are ascending there one =
    let w = some_word words is in let o = some_word place.1 are.0.offsets in
    let first : Int words.size w.0 ≡ value = one (Int words.size w.0) (refl, w.1) in
    let second : Ptr place.0 o.0 ≡ value = one (Ptr place.0 o.0) (rw (eq-eqb place.0 place.0 refl) o.1) in cc
alone_of None (place ∷ other ∷ places) value is are ascending there one =
    let o = some_word place.1 are.0.offsets in let q = some_word other.1 are.1.0.offsets in
    let first : Ptr place.0 o.0 ≡ value = one (Ptr place.0 o.0) (rw (eq-eqb place.0 place.0 refl) o.1) in
    let second : Ptr other.0 q.0 ≡ value = one (Ptr other.0 q.0) (by_test (place.0 == other.0)
    (λ e. absurd (let same : place.0 ≡ other.0 = eqb-true place.0 other.0 e in omega (arith, same, ascending.0)))
    (λ e. rw (e, eq-eqb other.0 other.0 refl) q.1)) in
    let same : place.0 ≡ other.0 = ap frame_of (first ∙ sym second) in absurd (omega (arith, same, ascending.0))

-- a value with one member is one alternative
pub value_alone : (size : ℕ) (v : AbstractValue) (value : Value) → IsValue size v → OnlyCovers v value
    → (x : Alternative) × (v ≡ alone x) × OnlyOf x value
value_alone size v value is only = alone_of v.words v.places value is.is.words is.is.places is.is.ascending only.is only.one

pub alone_alternatives : (x : Alternative) → alternatives (alone x) ≡ x ∷ []
alone_alternatives (Words words) = refl
alone_alternatives (Places frame offsets) = refl

-- each operand has this one alternative
abbrev pub singles : List Alternative → List (List Alternative)
singles [] = []
singles (x ∷ args) = (x ∷ []) ∷ singles args

pub only_choice : (args : List Alternative) → choices (singles args) ≡ args ∷ []
only_choice [] = refl
only_choice (x ∷ args) = rw (only_choice args) refl

all_alone : (sizes : List ℕ) (args : List AbstractValue) (values : List Value) → AllZip IsValue sizes args
    → AllZip OnlyCovers args values
    → (ones : List Alternative) × (map alternatives args ≡ singles ones) × EachOnly ones values
all_alone [] [] [] each only = ([], refl, tt)
all_alone [] [] (value ∷ values) each only = absurd only
all_alone [] (v ∷ args) values each only = absurd each
all_alone (size ∷ sizes) [] values each only = absurd each
all_alone (size ∷ sizes) (v ∷ args) [] each only = absurd only
all_alone (size ∷ sizes) (v ∷ args) (value ∷ values) each only =
    let one = value_alone size v value each.0 only.0 in let rest = all_alone sizes args values each.1 only.1 in
    let same : alternatives v ≡ one.0 ∷ [] = ap alternatives one.1 ∙ alone_alternatives one.0 in
    (one.0 ∷ rest.0, rw (same, rest.1) refl, (one.2, rest.2))

-- ---- all of it

is_chosen : (op : Op) (sizes : List ℕ) (args : List Alternative) (values : List Value) → IsSome (result_size op sizes)
    → EachIsOf args values × EachSuits (operand_sizes op sizes) args → Chosen op sizes args values
is_chosen op sizes args values typed both = record { typed = typed; suits = both.1; is = both.0 }

pub choice_is : (op : Op) (sizes : List ℕ) (args : List Alternative) → IsSome (result_size op sizes)
    → EachSuits (operand_sizes op sizes) args → IsOutcome (size_of_result op sizes) (at_choice op sizes args)
choice_is op sizes args typed suits = let values = some_values (operand_sizes op sizes) args suits in
    (choice_answers op sizes args values.0 (record { typed = typed; suits = suits; is = values.1 })).is
  where
    some_value : (size : ℕ) (x : Alternative) → SuitsSize size x → (value : Value) × IsOf x value
    some_value size (Words words) suits = let w = some_word words suits.kept in (Int words.size w.0, (refl, w.1))
    some_value size (Places frame offsets) suits = let w = some_word offsets suits.0.kept in (Ptr frame w.0, (refl, w.1))

    some_values : (sizes : List ℕ) (args : List Alternative) → EachSuits sizes args
        → (values : List Value) × EachIsOf args values
    some_values [] [] suits = ([], tt)
    some_values [] (x ∷ args) suits = absurd suits
    some_values (size ∷ sizes) [] suits = absurd suits
    some_values (size ∷ sizes) (x ∷ args) suits = let one = some_value size x suits.0 in let rest = some_values sizes args suits.1 in (one.0 ∷ rest.0, (one.1, rest.1))

-- what has one member is one of its members
one_is : (x : Alternative) (value : Value) → OnlyOf x value → IsOf x value
one_is (Words words) (Int size bits) only = (only.0, only.1.is)
one_is (Words words) (Ptr frame offset) only = absurd only
one_is (Places frame offsets) (Int size bits) only = absurd only
one_is (Places frame offsets) (Ptr other offset) only = (only.0, only.1.is)

each_is : (args : List Alternative) (values : List Value) → EachOnly args values → EachIsOf args values
each_is [] [] only = tt
each_is [] (value ∷ values) only = absurd only
each_is (x ∷ args) [] only = absurd only
each_is (x ∷ args) (value ∷ values) only = (one_is x value only.0, each_is args values only.1)

-- one outcome alone
alone_tells : (o : Outcome) (result : Result Value RunFault) → OnlyTells o result → OnlyTells (united nothing o) result
alone_tells o (Ok value) told = told
alone_tells o (Err fault) told = told

-- its value has the size of the operator's result
pub applied_is : (op : Op) (sizes : List ℕ) (args : List AbstractValue) → IsSome (result_size op sizes)
    → AllZip IsValue (operand_sizes op sizes) args
    → IsOutcome (size_of_result op sizes) (applied op sizes args)
applied_is op sizes args typed are = gathered_is (size_of_result op sizes) nothing (map (at_choice op sizes) (choices (map alternatives args))) tt
    (each_map (EachSuits (operand_sizes op sizes)) (IsOutcome (size_of_result op sizes)) (at_choice op sizes) (λ c suits. choice_is op sizes c typed suits) (choices (map alternatives args))
    (suit_choices (operand_sizes op sizes) (map alternatives args) (suit_operands (operand_sizes op sizes) args are)))

-- each outcome of the run is told
pub applied_tells : (op : Op) (sizes : List ℕ) (args : List AbstractValue) (values : List Value)
    → IsSome (result_size op sizes) → AllZip IsValue (operand_sizes op sizes) args
    → AllZip Covers args values → Tells (applied op sizes args) (outcome op sizes values)
applied_tells op sizes args values typed are covers =
    let suits = suit_choices (operand_sizes op sizes) (map alternatives args) (suit_operands (operand_sizes op sizes) args are) in
    let one = one_choice (map alternatives args) values (one_operands args values covers) in
    gathered_one (size_of_result op sizes) nothing (map (at_choice op sizes) (choices (map alternatives args))) (outcome op sizes values) tt
    (each_map (EachSuits (operand_sizes op sizes)) (IsOutcome (size_of_result op sizes)) (at_choice op sizes) (λ c suits. choice_is op sizes c typed suits) (choices (map alternatives args)) suits)
    (one_map (λ c. EachIsOf c values × EachSuits (operand_sizes op sizes) c) (λ o. Tells o (outcome op sizes values)) (at_choice op sizes)
    (λ c both. (choice_answers op sizes c values (is_chosen op sizes c values typed both)).tells) (choices (map alternatives args))
    (one_of_each (λ c. EachIsOf c values) (EachSuits (operand_sizes op sizes)) (choices (map alternatives args)) one suits))

-- of values of one member alone exactly the run's outcome is
pub applied_only : (op : Op) (sizes : List ℕ) (args : List AbstractValue) (values : List Value)
    → IsSome (result_size op sizes) → AllZip IsValue (operand_sizes op sizes) args
    → AllZip OnlyCovers args values → OnlyTells (applied op sizes args) (outcome op sizes values)
applied_only op sizes args values typed are only =
    let ones = all_alone (operand_sizes op sizes) args values are only in
    let same : choices (map alternatives args) ≡ ones.0 ∷ [] = rw ones.1 (only_choice ones.0) in
    let suits = suit_choices (operand_sizes op sizes) (map alternatives args) (suit_operands (operand_sizes op sizes) args are) in
    let suit : EachOf (EachSuits (operand_sizes op sizes)) (ones.0 ∷ []) = subst (EachOf (EachSuits (operand_sizes op sizes))) same suits in
    subst (λ c. OnlyTells (gathered nothing (map (at_choice op sizes) c)) (outcome op sizes values)) (sym same)
    (alone_tells (at_choice op sizes ones.0) (outcome op sizes values)
    ((choice_answers op sizes ones.0 values (record { typed = typed; suits = suit.0; is = each_is ones.0 values ones.2 })).only ones.2))

-- ---- joins

joined_alone : (size : ℕ) (x y : Alternative) (value : Value) → SuitsSize size x → SuitsSize size y → OnlyOf x value
    → OnlyOf y value
    → (z : Alternative) × (joined (alone x) (alone y) ≡ alone z) × OnlyOf z value
joined_alone size (Words words) (Words others) (Int own bits) suits_x suits_y only_x only_y =
    (Words (joined_words words others), refl, (only_x.0, stride_is_sets.joined_one words others bits suits_x.kept suits_y.kept (suits_x.size ∙ sym suits_y.size) only_x.1 only_y.1))
joined_alone size (Places frame offsets) (Places other places) (Ptr own offset) suits_x suits_y only_x only_y = (
  Places frame (joined_words offsets places),
  rw (eq-eqb frame other (only_x.0 ∙ sym only_y.0)) refl,
  (only_x.0, stride_is_sets.joined_one offsets places offset suits_x.0.kept suits_y.0.kept (suits_x.0.size ∙ sym suits_y.0.size) only_x.1 only_y.1),
)
joined_alone size (Words words) (Places other places) (Int own bits) suits_x suits_y only_x only_y = absurd only_y
joined_alone size (Places frame offsets) (Words others) (Ptr own offset) suits_x suits_y only_x only_y = absurd only_y
joined_alone size (Words words) y (Ptr own offset) suits_x suits_y only_x only_y = absurd only_x
joined_alone size (Places frame offsets) y (Int own bits) suits_x suits_y only_x only_y = absurd only_x

suits_alone : (size : ℕ) (x : Alternative) → IsValue size (alone x) → SuitsSize size x
suits_alone size (Words words) is = record { kept = is.is.words; size = is.sized.words }
suits_alone size (Places frame offsets) is = (record { kept = is.is.places.0.offsets; size = is.is.places.0.size ∙ sym is.sized.places }, is.sized.places)

-- the join of two values with one and the same member has this member alone
pub joined_only : (size : ℕ) (a b : AbstractValue) (value : Value) → IsValue size a → IsValue size b
    → OnlyCovers a value → OnlyCovers b value → OnlyCovers (joined a b) value
joined_only size a b value is_a is_b only_a only_b =
    let x = value_alone size a value is_a only_a in let y = value_alone size b value is_b only_b in
    let z = joined_alone size x.0 y.0 value (suits_alone size x.0 (subst (IsValue size) x.1 is_a)) (suits_alone size y.0 (subst (IsValue size) y.1 is_b)) x.2 y.2 in
    rw (x.1, y.1) (subst (λ v. OnlyCovers v value) (sym z.1) (alone_only z.0 value z.2))
