-- What an operator gives at abstract values tells each outcome of the run, and of values of one member alone exactly
-- the run's outcome.
--   words_answer      at words
--   choice_answers    at one alternative for each operand
use Rattle.std.proofs.Common.{◌≡◌, ℕ, zero, suc, true, false, List, [], ◌∷◌, map, Option, Some, None, IsSome, arith, refl, sym, subst, ◌∙◌}
use Rattle.std.specs.Prelude.{IfSome, ◌==◌, ◌&&◌, ◌||◌, if◌then◌else◌, Result, Ok, Err, slice_index, slice_index_or}
use Rattle.std.proofs.lemmas.Bool.{eqb-true, eq-eqb, false≢true, and_from}
use Rattle.alf_ops.specs.declared.operator.Op.{Op}
use Rattle.alf_ops.specs.declared.operator.Op.TheVariants.{Add, Sub, Eq, Neq, ULt, ULe, UGt, UGe, If}
use Rattle.alf_ops.specs.declared.history.Value.{Value}
use Rattle.alf_ops.specs.declared.history.Value.TheVariants.{Int, Ptr}
use Rattle.alf_ops.specs.declared.history.RunFault.{RunFault}
use Rattle.alf_ops.specs.declared.history.RunFault.TheVariants.{Divide, Kind}
use Rattle.alf_ops.specs.Table.{result_size, size_of_result, operand_sizes}
use Rattle.alf_ops.specs.Words.{value, divides, DividesByZero}
use Rattle.alf_ops.specs.Values.{is_pointer, bits_of}
use Rattle.alf_ops.specs.Pointers.{add_rule, subtract_rule, applied as applied_at, at_words as words_at, by_rule as rule_at, outcome, operand_at}
use Rattle.domain_core.specs.declared.applied.Applied.{Applied}
use Rattle.domain_core.specs.WordSets.{IsOnly, IsOfSize, IsApplied, HaveSizes, AreKept, HaveWords, HaveOneWord}
use Rattle.lists.specs.TestLaws.{by_test}
use Rattle.lists.specs.MemberLaws.{no_member, first_or_further}
use Rattle.strided_rules.specs.Strides.{Stride, IsStride, Covers as CoversWord}
use Rattle.strided_rules.specs.Domains.{stride_sets, applied as applied_words}
use Rattle.strided_rules.specs.StrideLaws.{stride_is_sets}
use Rattle.pointer_rules.specs.AbstractValues.{Alternative, Words, Places, numbers_of}
use Rattle.pointer_rules.specs.Choices.{Outcome, tells, at_words, words_outcome, only_words, is_place, numbers, sum, difference, by_rule, alternative_at, at_choice}
use Rattle.pointer_rules.specs.Covering.{SuitsSize, IsOf, OnlyOf, EachSuits, EachIsOf, EachOnly, IsValue, Tells, OnlyTells}
use Rattle.pointer_rules.specs.RuleLaws.{alone_is, alone_only, same_kind, Answers, fault_answers, Number, sum_answers, difference_answers, order_answers, equality_answers, choice_answers as chosen_answers}

-- ---- the numbers of the operands

sized_number : (size : ℕ) (x : Alternative) → SuitsSize size x → IsOfSize stride_sets size (numbers_of x)
sized_number size (Words words) suits = suits
sized_number size (Places frame offsets) suits = suits.0

pub sized_numbers : (sizes : List ℕ) (args : List Alternative) → EachSuits sizes args
    → HaveSizes stride_sets sizes (map numbers_of args)
sized_numbers [] [] suits = tt
sized_numbers [] (x ∷ args) suits = absurd suits
sized_numbers (size ∷ sizes) [] suits = absurd suits
sized_numbers (size ∷ sizes) (x ∷ args) suits = ((sized_number size x suits.0).size, sized_numbers sizes args suits.1)

pub kept_numbers : (sizes : List ℕ) (args : List Alternative) → EachSuits sizes args
    → AreKept stride_sets (map numbers_of args)
kept_numbers [] [] suits d c = no_member d c
kept_numbers [] (x ∷ args) suits d c = absurd suits
kept_numbers (size ∷ sizes) [] suits d c = absurd suits
kept_numbers (size ∷ sizes) (x ∷ args) suits d c =
    first_or_further (numbers_of x) (map numbers_of args) d c (λ same. subst IsStride same (sized_number size x suits.0).kept) (λ there. kept_numbers sizes args suits.1 d there)

one_number : (x : Alternative) (value : Value) → IsOf x value → CoversWord (numbers_of x) (bits_of value)
one_number (Words words) (Int size bits) is = is.1
one_number (Words words) (Ptr frame offset) is = absurd is
one_number (Places frame offsets) (Int size bits) is = absurd is
one_number (Places frame offsets) (Ptr other offset) is = is.1

covered_numbers : (args : List Alternative) (values : List Value) → EachIsOf args values
    → HaveWords stride_sets (map numbers_of args) (map bits_of values)
covered_numbers [] [] is = tt
covered_numbers [] (value ∷ values) is = absurd is
covered_numbers (x ∷ args) [] is = absurd is
covered_numbers (x ∷ args) (value ∷ values) is = (one_number x value is.0, covered_numbers args values is.1)

only_number : (x : Alternative) (value : Value) → OnlyOf x value → IsOnly stride_sets (numbers_of x) (bits_of value)
only_number (Words words) (Int size bits) only = only.1
only_number (Words words) (Ptr frame offset) only = absurd only
only_number (Places frame offsets) (Int size bits) only = absurd only
only_number (Places frame offsets) (Ptr other offset) only = only.1

only_numbers : (args : List Alternative) (values : List Value) → EachOnly args values
    → HaveOneWord stride_sets (map numbers_of args) (map bits_of values)
only_numbers [] [] only = tt
only_numbers [] (value ∷ values) only = absurd only
only_numbers (x ∷ args) [] only = absurd only
only_numbers (x ∷ args) (value ∷ values) only = (only_number x value only.0, only_numbers args values only.1)

-- ---- operands at their places

bits_at : (values : List Value) (i : ℕ)
    → slice_index (map bits_of values) i ≡ bits_of (slice_index_or values i (Int 0 0))
bits_at [] zero = refl
bits_at [] (suc i) = refl
bits_at (value ∷ values) zero = refl
bits_at (value ∷ values) (suc i) = bits_at values i

same_value : (op : Op) (sizes : List ℕ) (values : List Value)
    → applied_at op sizes (operand_at values 0) (operand_at values 1) (operand_at values 2) ≡ value op sizes (map bits_of values)
same_value op sizes values = rw (bits_at values 0, bits_at values 1, bits_at values 2) refl

kind_at : (args : List Alternative) (values : List Value) (i : ℕ) → EachIsOf args values
    → is_place (alternative_at args i) ≡ is_pointer (operand_at values i)
kind_at [] [] zero is = refl
kind_at [] [] (suc i) is = refl
kind_at [] (value ∷ values) i is = absurd is
kind_at (x ∷ args) [] i is = absurd is
kind_at (x ∷ args) (value ∷ values) zero is = same_kind x value is.0
kind_at (x ∷ args) (value ∷ values) (suc i) is = kind_at args values i is.1

-- ---- what is known of a choice

pub record Chosen (op : Op) (sizes : List ℕ) (args : List Alternative) (values : List Value) : Type 0 where
  pub typed : IsSome (result_size op sizes)
  pub suits : EachSuits (operand_sizes op sizes) args
  pub is : EachIsOf args values

applied_is : (op : Op) (sizes : List ℕ) (args : List Alternative) (values : List Value) → Chosen op sizes args values
    → IsApplied stride_sets op sizes (map numbers_of args) (applied_words op sizes (map numbers_of args))
applied_is op sizes args values chosen =
    stride_is_sets.applied op sizes (map numbers_of args) chosen.typed (sized_numbers (operand_sizes op sizes) args chosen.suits) (kept_numbers (operand_sizes op sizes) args chosen.suits)

-- the number of an operator that does not divide
number : (op : Op) (sizes : List ℕ) (args : List Alternative) (values : List Value) → Chosen op sizes args values
    → divides op ≡ false
    → Number (numbers op sizes args) (size_of_result op sizes) (value op sizes (map bits_of values)) (EachOnly args values)
number op sizes args values chosen whole =
    let is = applied_is op sizes args values chosen in
    let words = covered_numbers args values chosen.is in
    let never : DividesByZero op (map bits_of values) → ⊥ = λ z. false≢true (sym whole ∙ z.0) in
    let g = is.covering (map bits_of values) words never in
    record {
      words = g.0;
      is = g.1;
      sized = is.size g.0 g.1;
      covers = g.2;
      only = λ only. only_is g.0 g.1 (is.sharp (map bits_of values) (only_numbers args values only) never).0;
    }
  where
    only_is : (d : Stride) → numbers op sizes args ≡ Some d
        → (e : Stride) × (numbers op sizes args ≡ Some e) × IsOnly stride_sets e (value op sizes (map bits_of values))
        → IsOnly stride_sets d (value op sizes (map bits_of values))
    only_is d is_d e = let same : e.0 ≡ d = cc in subst (λ d. IsOnly stride_sets d (value op sizes (map bits_of values))) same e.2

-- ---- at words

words_are : (size : ℕ) (answer : Option Stride) → ((d : Stride) → answer ≡ Some d → IsOfSize stride_sets size d)
    → IfSome (only_words answer) (IsValue size)
words_are size None of_size = tt
words_are size (Some d) of_size = alone_is size (Words d) (of_size d refl)

words_answer : (op : Op) (sizes : List ℕ) (args : List Alternative) (values : List Value) → Chosen op sizes args values
    → Answers (at_words op sizes args) (words_at op sizes (operand_at values 0) (operand_at values 1) (operand_at values 2)) (size_of_result op sizes) (EachOnly args values)
words_answer op sizes args values chosen = by_test (divides op && (bits_of (operand_at values 1) == 0))
    (λ e. rw e (record { is = words_are size answer.value is.size; tells = rw (is.divides xs words (zero e)) refl; only = λ only. told only (zero e) }))
    (λ e. rw (e, same_value op sizes values) (record { is = words_are size answer.value is.size; tells = covered (never e); only = λ only. exact only (never e) }))
  where
    size : ℕ
    size = size_of_result op sizes

    xs : List ℕ
    xs = map bits_of values

    answer : Applied Stride
    answer = applied_words op sizes (map numbers_of args)

    is : IsApplied stride_sets op sizes (map numbers_of args) answer
    is = applied_is op sizes args values chosen

    words : HaveWords stride_sets (map numbers_of args) xs
    words = covered_numbers args values chosen.is

    zero : (divides op && (bits_of (operand_at values 1) == 0)) ≡ true → DividesByZero op xs
    zero e = let both = and_parts e in (both.0, bits_at values 1 ∙ both.1)
      where
        and_parts : (divides op && (bits_of (operand_at values 1) == 0)) ≡ true
            → (divides op ≡ true) × (bits_of (operand_at values 1) ≡ 0)
        and_parts e = by_test (divides op)
            (λ f. (f, eqb-true (bits_of (operand_at values 1)) 0 (rw f at e)))
            (λ f. absurd (false≢true (rw f at e)))

    never : (divides op && (bits_of (operand_at values 1) == 0)) ≡ false → DividesByZero op xs → ⊥
    never e z = let none : bits_of (operand_at values 1) ≡ 0 = sym (bits_at values 1) ∙ z.1 in
        false≢true (sym e ∙ and_from (divides op) (bits_of (operand_at values 1) == 0) z.0 (eq-eqb (bits_of (operand_at values 1)) 0 none))

    told : EachOnly args values → DividesByZero op xs → OnlyTells (words_outcome answer) (Err Divide)
    told only z = let s = is.sharp_divides xs (only_numbers args values only) z in (rw s.0 refl, rw s.1 refl)

    covered : (DividesByZero op xs → ⊥) → Tells (words_outcome answer) (Ok (Int size (value op sizes xs)))
    covered apart = let g = is.covering xs words apart in rw g.1 ((is.size g.0 g.1).size, g.2)

    exact : EachOnly args values → (DividesByZero op xs → ⊥)
        → OnlyTells (words_outcome answer) (Ok (Int size (value op sizes xs)))
    exact only apart = let s = is.sharp xs (only_numbers args values only) apart in
        (rw s.0.1 (alone_only (Words s.0.0) (Int size (value op sizes xs)) ((is.size s.0.0 s.0.1).size, s.0.2)), rw s.1 refl)

-- ---- where an operand is a pointer

-- without a rule it is the fault kind
record IsOther (op : Op) : Type 0 where
  pub abstractly : (result : Option Stride) (a b c : Alternative) → by_rule op result a b c ≡ tells Kind
  pub concretely : (sizes : List ℕ) (a b c : Value) → rule_at op sizes a b c ≡ Err Kind

by_pointers : (Q : Op → Type 0) → Q Add → Q Sub → Q Eq → Q Neq → Q ULt → Q ULe → Q UGt → Q UGe → Q If
    → ((op : Op) → IsOther op → Q op) → (op : Op) → Q op
by_pointers Q add sub eq neq lt le gt ge choose other Add = add
by_pointers Q add sub eq neq lt le gt ge choose other Sub = sub
by_pointers Q add sub eq neq lt le gt ge choose other Eq = eq
by_pointers Q add sub eq neq lt le gt ge choose other Neq = neq
by_pointers Q add sub eq neq lt le gt ge choose other ULt = lt
by_pointers Q add sub eq neq lt le gt ge choose other ULe = le
by_pointers Q add sub eq neq lt le gt ge choose other UGt = gt
by_pointers Q add sub eq neq lt le gt ge choose other UGe = ge
by_pointers Q add sub eq neq lt le gt ge choose other If = choose
by_pointers Q add sub eq neq lt le gt ge choose other op = other op (record { abstractly = λ result a b c. refl; concretely = λ sizes a b c. refl })

-- lists of two and of three
by_two : (P : List Alternative → List Value → Type 0) (r s : ℕ)
    → ((a b : Alternative) (x y : Value) → P (a ∷ b ∷ []) (x ∷ y ∷ []))
    → (args : List Alternative) (values : List Value) → EachSuits (r ∷ s ∷ []) args → EachIsOf args values → P args values
by_two P r s p [] values suits is = absurd suits
by_two P r s p (a ∷ []) values suits is = absurd suits.1
by_two P r s p (a ∷ b ∷ c ∷ args) values suits is = absurd suits.1.1
by_two P r s p (a ∷ b ∷ []) [] suits is = absurd is
by_two P r s p (a ∷ b ∷ []) (x ∷ []) suits is = absurd is.1
by_two P r s p (a ∷ b ∷ []) (x ∷ y ∷ z ∷ values) suits is = absurd is.1.1
by_two P r s p (a ∷ b ∷ []) (x ∷ y ∷ []) suits is = p a b x y

by_three : (P : List Alternative → List Value → Type 0) (r s t : ℕ)
    → ((a b c : Alternative) (x y z : Value) → P (a ∷ b ∷ c ∷ []) (x ∷ y ∷ z ∷ []))
    → (args : List Alternative) (values : List Value) → EachSuits (r ∷ s ∷ t ∷ []) args → EachIsOf args values → P args values
by_three P r s t p [] values suits is = absurd suits
by_three P r s t p (a ∷ []) values suits is = absurd suits.1
by_three P r s t p (a ∷ b ∷ []) values suits is = absurd suits.1.1
by_three P r s t p (a ∷ b ∷ c ∷ d ∷ args) values (first, (second, (third, too_long))) is = absurd too_long
by_three P r s t p (a ∷ b ∷ c ∷ []) [] suits is = absurd is
by_three P r s t p (a ∷ b ∷ c ∷ []) (x ∷ []) suits is = absurd is.1
by_three P r s t p (a ∷ b ∷ c ∷ []) (x ∷ y ∷ []) suits is = absurd is.1.1
by_three P r s t p (a ∷ b ∷ c ∷ []) (x ∷ y ∷ z ∷ w ∷ values) suits (first, (second, (third, too_long))) = absurd too_long
by_three P r s t p (a ∷ b ∷ c ∷ []) (x ∷ y ∷ z ∷ []) suits is = p a b c x y z

-- a carry is no pointer
no_carry : (c : Alternative) (z : Value) (out : Outcome) (result : Result Value RunFault) (size : ℕ) (Sharp : Type 0)
    → IsOf c z → Answers out result size Sharp
    → Answers (if is_place c then tells Kind else out) (if is_pointer z then Err Kind else result) size Sharp
no_carry c z out result size Sharp is answers = let same = same_kind c z is in by_test (is_place c)
    (λ e. rw (e, sym same ∙ e) (fault_answers Kind size Sharp))
    (λ e. rw (e, sym same ∙ e) answers)

abbrev RuleAnswers : Op → Type 0
RuleAnswers op = (sizes : List ℕ) (args : List Alternative) (values : List Value) → Chosen op sizes args values
    → Answers (by_rule op (numbers op sizes args) (alternative_at args 0) (alternative_at args 1) (alternative_at args 2))
    (rule_at op sizes (operand_at values 0) (operand_at values 1) (operand_at values 2)) (size_of_result op sizes) (EachOnly args values)

abbrev RuleAnswersAt : Op → List ℕ → List Alternative → List Value → Type 0
RuleAnswersAt op sizes args values = Chosen op sizes args values
    → Answers (by_rule op (numbers op sizes args) (alternative_at args 0) (alternative_at args 1) (alternative_at args 2))
    (rule_at op sizes (operand_at values 0) (operand_at values 1) (operand_at values 2)) (size_of_result op sizes) (EachOnly args values)

add_answers : RuleAnswers Add
add_answers sizes args values chosen = by_three (RuleAnswersAt Add sizes) (slice_index sizes 0) (slice_index sizes 0) 1
    (λ a b c x y z k. let (suits_a, (suits_b, suits_others)) = k.suits in let (is_a, (is_b, (is_c, end))) = k.is in
    no_carry c z (sum (numbers Add sizes (a ∷ b ∷ c ∷ [])) a b) (add_rule (applied_at Add sizes x y z) x y) (slice_index sizes 0) (EachOnly (a ∷ b ∷ c ∷ []) (x ∷ y ∷ z ∷ [])) is_c
    (sum_answers (numbers Add sizes (a ∷ b ∷ c ∷ [])) (slice_index sizes 0) (applied_at Add sizes x y z) (EachOnly (a ∷ b ∷ c ∷ []) (x ∷ y ∷ z ∷ [])) a b x y
    (number Add sizes (a ∷ b ∷ c ∷ []) (x ∷ y ∷ z ∷ []) k refl) suits_a suits_b is_a is_b))
    args values chosen.suits chosen.is chosen

subtract_answers : RuleAnswers Sub
subtract_answers sizes args values chosen = by_three (RuleAnswersAt Sub sizes) (slice_index sizes 0) (slice_index sizes 0) 1
    (λ a b c x y z k. let (suits_a, (suits_b, suits_others)) = k.suits in let (is_a, (is_b, (is_c, end))) = k.is in
    no_carry c z (difference (numbers Sub sizes (a ∷ b ∷ c ∷ [])) a b) (subtract_rule (slice_index sizes 0) (applied_at Sub sizes x y z) x y) (slice_index sizes 0) (EachOnly (a ∷ b ∷ c ∷ []) (x ∷ y ∷ z ∷ [])) is_c
    (difference_answers (numbers Sub sizes (a ∷ b ∷ c ∷ [])) (slice_index sizes 0) (applied_at Sub sizes x y z) (EachOnly (a ∷ b ∷ c ∷ []) (x ∷ y ∷ z ∷ [])) a b x y
    (number Sub sizes (a ∷ b ∷ c ∷ []) (x ∷ y ∷ z ∷ []) k refl) suits_a suits_b is_a is_b))
    args values chosen.suits chosen.is chosen

-- a comparison of offsets
compare : (op : Op) (sizes : List ℕ) → operand_sizes op sizes ≡ slice_index sizes 0 ∷ slice_index sizes 0 ∷ []
    → ((a b : Alternative) (x y : Value) → RuleAnswersAt op sizes (a ∷ b ∷ []) (x ∷ y ∷ []))
    → (args : List Alternative) (values : List Value) → RuleAnswersAt op sizes args values
compare op sizes of_two answers args values chosen =
    by_two (RuleAnswersAt op sizes) (slice_index sizes 0) (slice_index sizes 0) answers args values (subst (λ s. EachSuits s args) of_two chosen.suits) chosen.is chosen

equal_answers : RuleAnswers Eq
equal_answers sizes = compare Eq sizes refl
    (λ a b x y k. equality_answers 0 (numbers Eq sizes (a ∷ b ∷ [])) (applied_at Eq sizes x y (Int 0 0)) (EachOnly (a ∷ b ∷ []) (x ∷ y ∷ [])) a b x y (omega arith)
    (number Eq sizes (a ∷ b ∷ []) (x ∷ y ∷ []) k refl) k.is.0 k.is.1.0)

unequal_answers : RuleAnswers Neq
unequal_answers sizes = compare Neq sizes refl
    (λ a b x y k. equality_answers 1 (numbers Neq sizes (a ∷ b ∷ [])) (applied_at Neq sizes x y (Int 0 0)) (EachOnly (a ∷ b ∷ []) (x ∷ y ∷ [])) a b x y (omega arith)
    (number Neq sizes (a ∷ b ∷ []) (x ∷ y ∷ []) k refl) k.is.0 k.is.1.0)

less_answers : RuleAnswers ULt
less_answers sizes = compare ULt sizes refl
    (λ a b x y k. order_answers (numbers ULt sizes (a ∷ b ∷ [])) (applied_at ULt sizes x y (Int 0 0)) (EachOnly (a ∷ b ∷ []) (x ∷ y ∷ [])) a b x y
    (number ULt sizes (a ∷ b ∷ []) (x ∷ y ∷ []) k refl) k.is.0 k.is.1.0)

at_most_answers : RuleAnswers ULe
at_most_answers sizes = compare ULe sizes refl
    (λ a b x y k. order_answers (numbers ULe sizes (a ∷ b ∷ [])) (applied_at ULe sizes x y (Int 0 0)) (EachOnly (a ∷ b ∷ []) (x ∷ y ∷ [])) a b x y
    (number ULe sizes (a ∷ b ∷ []) (x ∷ y ∷ []) k refl) k.is.0 k.is.1.0)

greater_answers : RuleAnswers UGt
greater_answers sizes = compare UGt sizes refl
    (λ a b x y k. order_answers (numbers UGt sizes (a ∷ b ∷ [])) (applied_at UGt sizes x y (Int 0 0)) (EachOnly (a ∷ b ∷ []) (x ∷ y ∷ [])) a b x y
    (number UGt sizes (a ∷ b ∷ []) (x ∷ y ∷ []) k refl) k.is.0 k.is.1.0)

at_least_answers : RuleAnswers UGe
at_least_answers sizes = compare UGe sizes refl
    (λ a b x y k. order_answers (numbers UGe sizes (a ∷ b ∷ [])) (applied_at UGe sizes x y (Int 0 0)) (EachOnly (a ∷ b ∷ []) (x ∷ y ∷ [])) a b x y
    (number UGe sizes (a ∷ b ∷ []) (x ∷ y ∷ []) k refl) k.is.0 k.is.1.0)

if_answers : RuleAnswers If
if_answers sizes args values chosen = by_three (RuleAnswersAt If sizes) 1 (slice_index sizes 0) (slice_index sizes 0)
    (λ a b c x y z k. let (suits_a, (suits_b, (suits_c, suited))) = k.suits in let (is_a, (is_b, (is_c, end))) = k.is in
    chosen_answers (slice_index sizes 0) (EachOnly (a ∷ b ∷ c ∷ []) (x ∷ y ∷ z ∷ [])) a b c x y z suits_a suits_b suits_c is_a is_b is_c
    (λ only. only.0) (λ only. only.1.0) (λ only. let (first, (second, (third, end))) = only in third))
    args values chosen.suits chosen.is chosen

rule_answers : (op : Op) → RuleAnswers op
rule_answers op = by_pointers RuleAnswers add_answers subtract_answers equal_answers unequal_answers less_answers at_most_answers greater_answers at_least_answers if_answers
    (λ other is sizes args values chosen.
    rw (is.abstractly (numbers other sizes args) (alternative_at args 0) (alternative_at args 1) (alternative_at args 2), is.concretely sizes (operand_at values 0) (operand_at values 1) (operand_at values 2))
    (fault_answers Kind (size_of_result other sizes) (EachOnly args values)))
    op

-- ---- at one alternative for each operand

pub choice_answers : (op : Op) (sizes : List ℕ) (args : List Alternative) (values : List Value)
    → Chosen op sizes args values
    → Answers (at_choice op sizes args) (outcome op sizes values) (size_of_result op sizes) (EachOnly args values)
choice_answers op sizes args values chosen =
    let same : (is_place (alternative_at args 0) || is_place (alternative_at args 1) || is_place (alternative_at args 2)) ≡ (is_pointer (operand_at values 0) || is_pointer (operand_at values 1) || is_pointer (operand_at values 2)) =
    rw (kind_at args values 0 chosen.is, kind_at args values 1 chosen.is, kind_at args values 2 chosen.is) refl in
    by_test (is_place (alternative_at args 0) || is_place (alternative_at args 1) || is_place (alternative_at args 2))
    (λ e. rw (e, sym same ∙ e) (rule_answers op sizes args values chosen))
    (λ e. rw (e, sym same ∙ e) (words_answer op sizes args values chosen))
