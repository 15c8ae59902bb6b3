-- The rules of operators at alternatives tell what the rules at values of a run give.
--   alone_is, alone_covers, alone_only     an alternative as an abstract value
--   Answers out result size Sharp          the outcome has the size, tells the result, and where Sharp holds nothing else
--   Number result size bits Sharp          the words that an operator gives have the run's word
--   sum_answers, difference_answers, equality_answers, order_answers, choice_answers
use Rattle.std.proofs.Common.{◌≡◌, ◌≢◌, ℕ, true, false, Option, Some, ◌<◌, ◌^◌, arith, refl, sym, subst, ◌∙◌}
use Rattle.std.specs.Prelude.{◌==◌, if◌then◌else◌, Result, Ok, Err}
use Rattle.std.proofs.lemmas.Bool.{eqb-true, eqb-false, eq-eqb}
use Rattle.alf_ops.specs.declared.history.Value.{Value}
use Rattle.alf_ops.specs.declared.history.Value.TheVariants.{Int, Ptr}
use Rattle.alf_ops.specs.declared.history.RunFault.{RunFault}
use Rattle.alf_ops.specs.declared.history.RunFault.TheVariants.{Kind, Pointers}
use Rattle.alf_ops.specs.Values.{is_pointer}
use Rattle.alf_ops.specs.Pointers.{add_rule, subtract_rule, equality_rule, order_rule, choice_rule}
use Rattle.domain_core.specs.FaultSets.{no_faults}
use Rattle.domain_core.specs.FaultLaws.{is_new}
use Rattle.domain_core.specs.WordSets.{IsOnly, IsOfSize}
use Rattle.lists.specs.TestLaws.{by_test}
use Rattle.strided_rules.specs.Strides.{Stride, one_word, Covers as CoversWord}
use Rattle.strided_rules.specs.Members.{has}
use Rattle.strided_rules.specs.MemberLaws.{has_tells}
use Rattle.strided_rules.specs.Domains.{stride_sets}
use Rattle.strided_rules.specs.StrideLaws.{stride_is_sets}
use Rattle.pointer_rules.specs.AbstractValues.{Alternative, Words, Places, Covers, OnlyCovers, AreAlike, alone, joined}
use Rattle.pointer_rules.specs.Choices.{Outcome, gives, tells, is_place, pointer, word, sum, difference, equality, order, choice}
use Rattle.pointer_rules.specs.Covering.{SuitsSize, IsOf, OnlyOf, IsValue, IsOutcome, Tells, OnlyTells}
use Rattle.pointer_rules.specs.ValueLaws.{joined_is, joined_size, value_is_order}

-- ---- an alternative as an abstract value

pub alone_is : (size : ℕ) (x : Alternative) → SuitsSize size x → IsValue size (alone x)
alone_is size (Words words) suits = record {
  is = record { words = suits.kept; places = tt; ascending = tt; some = λ e. cc };
  sized = record { words = suits.size; places = tt };
}
alone_is size (Places frame offsets) suits = record {
  is = record { words = tt; places = (record { offsets = suits.0.kept; size = suits.0.size ∙ suits.1 }, tt); ascending = tt; some = λ e. cc };
  sized = record { words = tt; places = suits.1 };
}

pub alone_covers : (x : Alternative) (value : Value) → IsOf x value → Covers (alone x) value
alone_covers (Words words) (Int size bits) is = is
alone_covers (Words words) (Ptr frame offset) is = absurd is
alone_covers (Places frame offsets) (Int size bits) is = absurd is
alone_covers (Places frame offsets) (Ptr other offset) is = rw (eq-eqb frame other is.0) is.1

pub alone_only : (x : Alternative) (value : Value) → OnlyOf x value → OnlyCovers (alone x) value
alone_only (Words words) (Int size bits) only = record { is = (only.0, only.1.is); one = other_is }
  where
    other_is : (other : Value) → Covers (alone (Words words)) other → other ≡ Int size bits
    other_is (Int own more) there = let same : own ≡ size = sym there.0 ∙ only.0 in let bit : more ≡ bits = only.1.one more there.1 in cc
    other_is (Ptr frame offset) there = absurd there
alone_only (Words words) (Ptr frame offset) only = absurd only
alone_only (Places frame offsets) (Int size bits) only = absurd only
alone_only (Places frame offsets) (Ptr own offset) only = record { is = rw (eq-eqb frame own only.0) only.1.is; one = other_is }
  where
    other_is : (other : Value) → Covers (alone (Places frame offsets)) other → other ≡ Ptr own offset
    other_is (Int size more) there = absurd there
    other_is (Ptr place more) there = by_test (frame == place)
        (λ e. let same : place ≡ own = sym (eqb-true frame place e) ∙ only.0 in let at : more ≡ offset = only.1.one more (rw e at there) in cc)
        (λ e. absurd (rw e at there))

-- an alternative has the kind of its values
pub same_kind : (x : Alternative) (value : Value) → IsOf x value → is_place x ≡ is_pointer value
same_kind (Words words) (Int size bits) is = refl
same_kind (Words words) (Ptr frame offset) is = absurd is
same_kind (Places frame offsets) (Int size bits) is = absurd is
same_kind (Places frame offsets) (Ptr other offset) is = refl

-- ---- answers

pub record Answers (out : Outcome) (result : Result Value RunFault) (size : ℕ) (Sharp : Type 0) : Type 0 where
  pub is : IsOutcome size out
  pub tells : Tells out result
  pub only : Sharp → OnlyTells out result

pub fault_answers : (fault : RunFault) (size : ℕ) (Sharp : Type 0) → Answers (tells fault) (Err fault) size Sharp
fault_answers fault size Sharp = record { is = tt; tells = is_new no_faults fault; only = λ sharp. (refl, refl) }

pub value_answers : (x : Alternative) (value : Value) (size : ℕ) (Sharp : Type 0) → SuitsSize size x → IsOf x value
    → (Sharp → OnlyOf x value) → Answers (gives (alone x)) (Ok value) size Sharp
value_answers x value size Sharp suits is only = record {
  is = alone_is size x suits;
  tells = alone_covers x value is;
  only = λ sharp. (alone_only x value (only sharp), refl);
}

-- the words that an operator gives have the run's word
pub record Number (result : Option Stride) (size bits : ℕ) (Sharp : Type 0) : Type 0 where
  pub words : Stride
  pub is : result ≡ Some words
  pub sized : IsOfSize stride_sets size words
  pub covers : CoversWord words bits
  pub only : Sharp → IsOnly stride_sets words bits

number_word : (result : Option Stride) (size bits : ℕ) (Sharp : Type 0) → Number result size bits Sharp
    → Answers (word result) (Ok (Int size bits)) size Sharp
number_word result size bits Sharp n =
    rw n.is (value_answers (Words n.words) (Int size bits) size Sharp n.sized (n.sized.size, n.covers) (λ sharp. (n.sized.size, n.only sharp)))

number_pointer : (frame other : ℕ) (result : Option Stride) (size bits : ℕ) (Sharp : Type 0) → frame ≡ other → size ≡ 32
    → Number result size bits Sharp
    → Answers (pointer frame result) (Ok (Ptr other bits)) size Sharp
number_pointer frame other result size bits Sharp same whole n =
    rw n.is (value_answers (Places frame n.words) (Ptr other bits) size Sharp (n.sized, whole) (same, n.covers) (λ sharp. (same, n.only sharp)))

-- ---- rules

pub sum_answers : (result : Option Stride) (size bits : ℕ) (Sharp : Type 0) (a b : Alternative) (x y : Value)
    → Number result size bits Sharp → SuitsSize size a → SuitsSize size b → IsOf a x → IsOf b y → Answers (sum result a b) (add_rule bits x y) size Sharp
sum_answers result size bits Sharp (Words words) b (Ptr frame offset) y n suits_a suits_b is_a is_b = absurd is_a
sum_answers result size bits Sharp (Places frame offsets) b (Int own own_bits) y n suits_a suits_b is_a is_b = absurd is_a
sum_answers result size bits Sharp (Words words) (Words others) (Int own own_bits) (Int other other_bits) n suits_a suits_b is_a is_b = fault_answers Kind size Sharp
sum_answers result size bits Sharp (Words words) (Words others) (Int own own_bits) (Ptr frame offset) n suits_a suits_b is_a is_b = absurd is_b
sum_answers result size bits Sharp (Words words) (Places frame offsets) (Int own own_bits) (Int other other_bits) n suits_a suits_b is_a is_b = absurd is_b
sum_answers result size bits Sharp (Words words) (Places frame offsets) (Int own own_bits) (Ptr other offset) n suits_a suits_b is_a is_b =
    number_pointer frame other result size bits Sharp is_b.0 suits_b.1 n
sum_answers result size bits Sharp (Places frame offsets) (Words words) (Ptr other offset) (Int own own_bits) n suits_a suits_b is_a is_b =
    number_pointer frame other result size bits Sharp is_a.0 suits_a.1 n
sum_answers result size bits Sharp (Places frame offsets) (Words words) (Ptr other offset) (Ptr place further) n suits_a suits_b is_a is_b = absurd is_b
sum_answers result size bits Sharp (Places frame offsets) (Places another places) (Ptr other offset) (Int own own_bits) n suits_a suits_b is_a is_b = absurd is_b
sum_answers result size bits Sharp (Places frame offsets) (Places another places) (Ptr other offset) (Ptr place further) n suits_a suits_b is_a is_b = fault_answers Kind size Sharp

-- two pointers: as their offsets where they are to one frame, else as said
two_frames : (out : Outcome) (told : Outcome) (result fault : Result Value RunFault) (f g h k : ℕ) (size : ℕ) (Sharp : Type 0) → f ≡ h → g ≡ k
    → Answers out result size Sharp → Answers told fault size Sharp → Answers (if f == g then out else told) (if h == k then result else fault) size Sharp
two_frames out told result fault f g h k size Sharp same also one two =
    subst (λ h. Answers (if f == g then out else told) (if h == k then result else fault) size Sharp) same
    (subst (λ k. Answers (if f == g then out else told) (if f == k then result else fault) size Sharp) also
    (by_test (f == g) (λ e. rw e one) (λ e. rw e two)))

pub difference_answers : (result : Option Stride) (size bits : ℕ) (Sharp : Type 0) (a b : Alternative) (x y : Value)
    → Number result size bits Sharp → SuitsSize size a → SuitsSize size b → IsOf a x → IsOf b y → Answers (difference result a b) (subtract_rule size bits x y) size Sharp
difference_answers result size bits Sharp (Words words) b (Ptr frame offset) y n suits_a suits_b is_a is_b = absurd is_a
difference_answers result size bits Sharp (Places frame offsets) b (Int own own_bits) y n suits_a suits_b is_a is_b = absurd is_a
difference_answers result size bits Sharp (Words words) b (Int own own_bits) y n suits_a suits_b is_a is_b = fault_answers Kind size Sharp
difference_answers result size bits Sharp (Places frame offsets) (Words words) (Ptr other offset) (Int own own_bits) n suits_a suits_b is_a is_b =
    number_pointer frame other result size bits Sharp is_a.0 suits_a.1 n
difference_answers result size bits Sharp (Places frame offsets) (Words words) (Ptr other offset) (Ptr place further) n suits_a suits_b is_a is_b = absurd is_b
difference_answers result size bits Sharp (Places frame offsets) (Places another places) (Ptr other offset) (Int own own_bits) n suits_a suits_b is_a is_b = absurd is_b
difference_answers result size bits Sharp (Places frame offsets) (Places another places) (Ptr other offset) (Ptr place further) n suits_a suits_b is_a is_b =
    two_frames (word result) (tells Pointers) (Ok (Int size bits)) (Err Pointers) frame another other place size Sharp is_a.0 is_b.0
    (number_word result size bits Sharp n) (fault_answers Pointers size Sharp)

pub order_answers : (result : Option Stride) (bits : ℕ) (Sharp : Type 0) (a b : Alternative) (x y : Value)
    → Number result 1 bits Sharp → IsOf a x → IsOf b y → Answers (order result a b) (order_rule bits x y) 1 Sharp
order_answers result bits Sharp (Words words) b (Ptr frame offset) y n is_a is_b = absurd is_a
order_answers result bits Sharp (Places frame offsets) b (Int own own_bits) y n is_a is_b = absurd is_a
order_answers result bits Sharp (Words words) b (Int own own_bits) y n is_a is_b = fault_answers Kind 1 Sharp
order_answers result bits Sharp (Places frame offsets) (Words words) (Ptr other offset) (Int own own_bits) n is_a is_b = fault_answers Kind 1 Sharp
order_answers result bits Sharp (Places frame offsets) (Words words) (Ptr other offset) (Ptr place further) n is_a is_b = absurd is_b
order_answers result bits Sharp (Places frame offsets) (Places another places) (Ptr other offset) (Int own own_bits) n is_a is_b = absurd is_b
order_answers result bits Sharp (Places frame offsets) (Places another places) (Ptr other offset) (Ptr place further) n is_a is_b =
    two_frames (word result) (tells Pointers) (Ok (Int 1 bits)) (Err Pointers) frame another other place 1 Sharp is_a.0 is_b.0
    (number_word result 1 bits Sharp n) (fault_answers Pointers 1 Sharp)

-- one bit, always the same
bit_number : (bit : ℕ) (Sharp : Type 0) → bit < 2 → Number (Some (one_word 1 bit)) 1 bit Sharp
bit_number bit Sharp small =
    let only = stride_is_sets.single_only 1 bit (record { least = omega arith; most = omega arith }) small in
    record {
      words = one_word 1 bit;
      is = refl;
      sized = stride_is_sets.single_size 1 bit (record { least = omega arith; most = omega arith }) small;
      covers = only.is;
      only = λ sharp. only;
    }

-- unequal frames
apart_number : (unequal bits : ℕ) (f g : ℕ) (result : Result Value RunFault)
    → (if f == g then Ok (Int 1 bits) else Ok (Int 1 unequal)) ≡ result
    → Ok (Int 1 (if f == g then bits else unequal)) ≡ result
apart_number unequal bits f g result e = by_test (f == g) (λ h. rw h (rw h at e)) (λ h. rw h (rw h at e))

pub equality_answers : (unequal : ℕ) (result : Option Stride) (bits : ℕ) (Sharp : Type 0) (a b : Alternative) (x y : Value) → unequal < 2
    → Number result 1 bits Sharp → IsOf a x → IsOf b y → Answers (equality unequal result a b) (equality_rule unequal bits x y) 1 Sharp
equality_answers unequal result bits Sharp (Words words) b (Ptr frame offset) y small n is_a is_b = absurd is_a
equality_answers unequal result bits Sharp (Places frame offsets) b (Int own own_bits) y small n is_a is_b = absurd is_a
equality_answers unequal result bits Sharp (Words words) b (Int own own_bits) y small n is_a is_b = fault_answers Kind 1 Sharp
equality_answers unequal result bits Sharp (Places frame offsets) (Words words) (Ptr other offset) (Int own own_bits) small n is_a is_b = fault_answers Kind 1 Sharp
equality_answers unequal result bits Sharp (Places frame offsets) (Words words) (Ptr other offset) (Ptr place further) small n is_a is_b = absurd is_b
equality_answers unequal result bits Sharp (Places frame offsets) (Places another places) (Ptr other offset) (Int own own_bits) small n is_a is_b = absurd is_b
equality_answers unequal result bits Sharp (Places frame offsets) (Places another places) (Ptr other offset) (Ptr place further) small n is_a is_b =
    subst (λ r. Answers (if frame == another then word result else word (Some (one_word 1 unequal))) r 1 Sharp)
    (sym (apart_number unequal bits other place (if other == place then Ok (Int 1 bits) else Ok (Int 1 unequal)) refl))
    (two_frames (word result) (word (Some (one_word 1 unequal))) (Ok (Int 1 bits)) (Ok (Int 1 unequal)) frame another other place 1 Sharp is_a.0 is_b.0
    (number_word result 1 bits Sharp n) (number_word (Some (one_word 1 unequal)) 1 unequal Sharp (bit_number unequal Sharp small)))

-- ---- choice

abbrev both_alone : (size : ℕ) (a b : Alternative) → SuitsSize size a → SuitsSize size b → AreAlike (alone a) (alone b)
both_alone size a b suits_a suits_b = let one = alone_is size a suits_a in let two = alone_is size b suits_b in record { size = size; first = (one.is, one.sized); second = (two.is, two.sized) }

-- a bit is 0 or 1
zero_bit : (bit : Stride) (k : ℕ) → IsOfSize stride_sets 1 bit → CoversWord bit k → (k == 1) ≡ false → k ≡ 0
zero_bit bit k size covers not_one =
    let small : k < 2 ^ bit.size = stride_is_sets.fits bit k size.kept covers in
    let apart : k ≢ 1 = eqb-false k 1 not_one in
    let below : k < 2 ^ 1 = subst (λ s. k < 2 ^ s) size.size small in omega (arith, apart, below)

-- both values, where the bit may be both
both_answers : (size : ℕ) (Sharp : Type 0) (a b : Alternative) (value : Value) → SuitsSize size a → SuitsSize size b
    → Covers (joined (alone a) (alone b)) value → (Sharp → ⊥)
    → Answers (gives (joined (alone a) (alone b))) (Ok value) size Sharp
both_answers size Sharp a b value suits_a suits_b covers never =
    let alike = both_alone size a b suits_a suits_b in
    record {
      is = record { is = joined_is (alone a) (alone b) alike; sized = joined_size (alone a) (alone b) alike };
      tells = covers;
      only = λ sharp. absurd (never sharp);
    }

chosen : (size : ℕ) (Sharp : Type 0) (bit : Stride) (k : ℕ) (a b : Alternative) (x y : Value)
    → IsOfSize stride_sets 1 bit → CoversWord bit k → (Sharp → IsOnly stride_sets bit k)
    → SuitsSize size a → SuitsSize size b → IsOf a x → IsOf b y → (Sharp → OnlyOf a x) → (Sharp → OnlyOf b y)
    → Answers (gives (if has bit 1 then (if has bit 0 then joined (alone a) (alone b) else alone a) else alone b)) (Ok (if k == 1 then x else y)) size Sharp
chosen size Sharp bit k a b x y of_bit covers only suits_a suits_b is_a is_b only_a only_b = by_test (k == 1)
    (λ e. let one : has bit 1 ≡ true = (has_tells bit 1 of_bit.kept).1 (subst (CoversWord bit) (eqb-true k 1 e) covers) in
    by_test (has bit 0)
    (λ f. rw (e, one, f) (both_answers size Sharp a b x suits_a suits_b (value_is_order.left (alone a) (alone b) (both_alone size a b suits_a suits_b) x (alone_covers a x is_a))
    (λ sharp. let none : 0 ≡ k = (only sharp).one 0 ((has_tells bit 0 of_bit.kept).0 f) in let same : k ≡ 1 = eqb-true k 1 e in omega (arith, none, same))))
    (λ f. rw (e, one, f) (value_answers a x size Sharp suits_a is_a only_a)))
    (λ e. let none : k ≡ 0 = zero_bit bit k of_bit covers e in
    let there : has bit 0 ≡ true = (has_tells bit 0 of_bit.kept).1 (subst (CoversWord bit) none covers) in
    by_test (has bit 1)
    (λ f. rw (e, f, there) (both_answers size Sharp a b y suits_a suits_b (value_is_order.right (alone a) (alone b) (both_alone size a b suits_a suits_b) y (alone_covers b y is_b))
    (λ sharp. let one : 1 ≡ k = (only sharp).one 1 ((has_tells bit 1 of_bit.kept).0 f) in omega (arith, none, one))))
    (λ f. rw (e, f) (value_answers b y size Sharp suits_b is_b only_b)))

pub choice_answers : (size : ℕ) (Sharp : Type 0) (c a b : Alternative) (z x y : Value) → SuitsSize 1 c
    → SuitsSize size a → SuitsSize size b
    → IsOf c z → IsOf a x → IsOf b y → (Sharp → OnlyOf c z) → (Sharp → OnlyOf a x) → (Sharp → OnlyOf b y) → Answers (choice c a b) (choice_rule z x y) size Sharp
choice_answers size Sharp (Words bit) a b (Int own k) x y suits_c suits_a suits_b is_c is_a is_b only_c only_a only_b =
    chosen size Sharp bit k a b x y suits_c is_c.1 (λ sharp. (only_c sharp).1) suits_a suits_b is_a is_b only_a only_b
choice_answers size Sharp (Words bit) a b (Ptr frame offset) x y suits_c suits_a suits_b is_c is_a is_b only_c only_a only_b = absurd is_c
choice_answers size Sharp (Places frame offsets) a b (Int own k) x y suits_c suits_a suits_b is_c is_a is_b only_c only_a only_b = absurd is_c
choice_answers size Sharp (Places frame offsets) a b (Ptr other offset) x y suits_c suits_a suits_b is_c is_a is_b only_c only_a only_b = fault_answers Kind size Sharp
