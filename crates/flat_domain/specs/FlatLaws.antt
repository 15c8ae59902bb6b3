-- The laws of flat sets.
--   flat_is_order   they are a lattice
--   flat_is_sets    and a domain
use Rattle.std.proofs.Common.{◌≡◌, ℕ, zero, suc, Bool, true, false, List, [], ◌∷◌, Option, Some, None, ◌<◌, ◌≤◌, ◌^◌, ◌↔◌, arith, refl, sym, ap, subst, ◌∙◌, eq-eqb, IsSome}
use Rattle.std.specs.Prelude.{◌==◌, ◌&&◌, slice_index}
use Rattle.std.proofs.lemmas.Bool.{eqb-true, ltb-true, lt-ltb, false≢true}
use Rattle.std.proofs.lemmas.Nat.{pow_below}
use Rattle.std.proofs.lemmas.Option.{same_Some, none-some}
use Rattle.lists.specs.TestLaws.{by_test}
use Rattle.lists.specs.MemberLaws.{first_member, further_member}
use Rattle.domain_core.specs.Orders.{IsOrder}
use Rattle.alf_ops.specs.declared.operator.Op.{Op}
use Rattle.alf_ops.specs.Table.{result_size, size_of_result}
use Rattle.alf_ops.specs.Words.{value, divides, DividesByZero}
use Rattle.domain_core.specs.declared.relation.Rel.{Rel}
use Rattle.domain_core.specs.Relations.{Related, operator_of}
use Rattle.domain_core.specs.WordSets.{IsOnly, IsOfSize, HaveWords, HaveOneWord, AreKept, Gives, GivesOnly, GivesSize, IsApplied, IsAssumed, IsKeptWord, IsWordSets}
use Rattle.flat_domain.specs.Flats.{FlatSet, IsFlat, Fits, IsWord, Covers, allows, has_word, one, common, joined, word_at, known, may_be_zero, is_zero, must_divide, given, applied, may_relate, assumed, only, flat_order, flat_sets}
use Rattle.flat_domain.specs.OperatorSizeLaws.{word_below, result_is_size}

common_left : (a b : Option ℕ) (x : ℕ) → IsWord a x → IsWord (common a b) x
common_left None b x h = tt
common_left (Some v) None x h = tt
common_left (Some v) (Some w) x h = by_test (v == w) (λ e. rw e h) (λ e. rw e tt)

common_right : (a b : Option ℕ) (x : ℕ) → IsWord b x → IsWord (common a b) x
common_right None b x h = tt
common_right (Some v) None x h = tt
common_right (Some v) (Some w) x h = by_test (v == w) (λ e. rw e (h ∙ sym (eqb-true v w e))) (λ e. rw e tt)

pub flat_is_order : IsOrder FlatSet flat_order
flat_is_order = record {
  itself = λ a. (refl, λ x h. h);
  farther = λ a b c h k. (h.0 ∙ k.0, λ x there. k.1 x (h.1 x there));
  left = λ a b same. (refl, λ x h. (common_left a.word b.word x h.0, h.1));
  right = λ a b same. (sym same, λ x h. (common_right a.word b.word x h.0, rw same h.1));
}

-- A set that has one word alone is that word: of no size there is one word alone.

one_alone : (w : Option ℕ) (size x : ℕ) → 1 ≤ size → ((y : ℕ) → IsWord w y → y < 2 ^ size → y ≡ x) → IsWord w x
    → w ≡ Some x
one_alone None size x least only h =
    let two : 2 ^ 0 < 2 ^ size = pow_below 0 size (omega arith) in
    absurd (omega (arith, only 0 tt (omega (arith, two)), only 1 tt (omega (arith, two))))
one_alone (Some word) size x least only h = ap Some (sym h)

is_one : (d : FlatSet) (x : ℕ) → IsFlat d → IsOnly flat_sets d x → d.word ≡ Some x
is_one d x flat h = one_alone d.word d.size x flat.size.least (λ y there small. h.one y (there, small)) h.is.0

-- and the other way round
only_one : (d : FlatSet) (x : ℕ) → d.word ≡ Some x → x < 2 ^ d.size → IsOnly flat_sets d x
only_one d x e small = record { is = (rw e refl, small); one = λ y h. is_same d.word e y h.0 }
  where
    is_same : (w : Option ℕ) → w ≡ Some x → (y : ℕ) → IsWord w y → y ≡ x
    is_same None e y h = cc
    is_same (Some v) e y h = let same : v ≡ x = cc in h ∙ same

-- Joins.

common_one : (a b : Option ℕ) (x : ℕ) → a ≡ Some x → b ≡ Some x → common a b ≡ Some x
common_one a b x e f = rw (e, f, eq-eqb x x refl) refl

common_fits : (size : ℕ) (a b : Option ℕ) → Fits size a → Fits size (common a b)
common_fits size None b h = tt
common_fits size (Some x) None h = tt
common_fits size (Some x) (Some y) h = by_test (x == y) (λ e. rw e h) (λ e. rw e tt)

-- The test for a word.

allowed : (w : Option ℕ) (x : ℕ) → (allows w x ≡ true) ↔ IsWord w x
allowed None x = (λ e. tt, λ h. refl)
allowed (Some word) x = (λ e. eqb-true x word e, λ h. eq-eqb x word h)

pub both : (a b : Bool) → (a && b) ≡ true → (a ≡ true) × (b ≡ true)
both true b e = (refl, e)
both false b e = absurd (false≢true e)

tested : (d : FlatSet) (x : ℕ) → (has_word d x ≡ true) ↔ Covers d x
tested d x = (
  λ e. let h = both (allows d.word x) _ e in ((allowed d.word x).0 h.0, ltb-true x (2 ^ d.size) h.1),
  λ h. rw ((allowed d.word x).1 h.0, lt-ltb x (2 ^ d.size) h.1) refl,
)

-- Operands by their places.

at_place : (args : List FlatSet) (xs : List ℕ) (i w : ℕ) → HaveWords flat_sets args xs → word_at args i ≡ Some w
    → slice_index xs i ≡ w
at_place [] [] i w h e = cc
at_place [] (x ∷ xs) i w h e = absurd h
at_place (d ∷ args) [] i w h e = absurd h
at_place (d ∷ args) (x ∷ xs) zero w h e = let there : IsWord (Some w) x = rw e at h.0.0 in there
at_place (d ∷ args) (x ∷ xs) (suc i) w h e = at_place args xs i w h.1 e

-- what the first of some operands has, and what the others have
rest_kept : (d : FlatSet) (args : List FlatSet) → AreKept flat_sets (d ∷ args) → AreKept flat_sets args
rest_kept d args of_args e c = of_args e (further_member d args e c)

one_at_place : (args : List FlatSet) (xs : List ℕ) (i : ℕ) → AreKept flat_sets args → HaveOneWord flat_sets args xs
    → word_at args i ≡ Some (slice_index xs i)
one_at_place [] [] i of_args h = refl
one_at_place [] (x ∷ xs) i of_args h = absurd h
one_at_place (d ∷ args) [] i of_args h = absurd h
one_at_place (d ∷ args) (x ∷ xs) zero of_args h = is_one d x (of_args d (first_member d args)) h.0
one_at_place (d ∷ args) (x ∷ xs) (suc i) of_args h = one_at_place args xs i (rest_kept d args of_args) h.1

-- Operators.

known_has : (op : Op) (sizes xs : List ℕ) (a b c : Option ℕ)
    → ((w : ℕ) → a ≡ Some w → slice_index xs 0 ≡ w) → ((w : ℕ) → b ≡ Some w → slice_index xs 1 ≡ w) → ((w : ℕ) → c ≡ Some w → slice_index xs 2 ≡ w)
    → IsWord (known op sizes a b c) (value op sizes xs)
known_has op sizes xs None b c h i j = tt
known_has op sizes xs (Some x) None c h i j = tt
known_has op sizes xs (Some x) (Some y) None h i j = tt
known_has op sizes xs (Some x) (Some y) (Some z) h i j = rw (h x refl, i y refl, j z refl) refl

known_fits : (op : Op) (sizes : List ℕ) (a b c : Option ℕ) → Fits (size_of_result op sizes) (known op sizes a b c)
known_fits op sizes None b c = tt
known_fits op sizes (Some x) None c = tt
known_fits op sizes (Some x) (Some y) None = tt
known_fits op sizes (Some x) (Some y) (Some z) = word_below (size_of_result op sizes) _

zero_known : (w : Option ℕ) → is_zero w ≡ true → w ≡ Some 0
zero_known None e = absurd (false≢true e)
zero_known (Some x) e = ap Some (eqb-true x 0 e)

zero_divides : (w : Option ℕ) (x : ℕ) → ((v : ℕ) → w ≡ Some v → x ≡ v) → x ≡ 0 → may_be_zero w ≡ true
zero_divides None x h e = refl
zero_divides (Some v) x h e = eq-eqb v 0 (sym (h v refl) ∙ e)

pub given_size : (op : Op) (sizes : List ℕ) (args : List FlatSet) → IsSome (result_size op sizes)
    → IsOfSize flat_sets (size_of_result op sizes) (given op sizes args)
given_size op sizes args typed = record { kept = record { size = result_is_size op sizes typed; fits = known_fits op sizes (word_at args 0) (word_at args 1) (word_at args 2) }; size = refl }

value_size : (op : Op) (sizes : List ℕ) (args : List FlatSet) → IsSome (result_size op sizes)
    → GivesSize flat_sets (applied op sizes args).value (size_of_result op sizes)
value_size op sizes args typed d is = by_test (must_divide op args)
    (λ e. absurd (none-some d (rw e at is)))
    (λ e. let same : given op sizes args ≡ d = same_Some _ d (rw e at is) in subst (IsOfSize flat_sets (size_of_result op sizes)) same (given_size op sizes args typed))

value_words : (op : Op) (sizes : List ℕ) (args : List FlatSet) (xs : List ℕ) → HaveWords flat_sets args xs
    → (DividesByZero op xs → ⊥) → Gives flat_sets (applied op sizes args).value (value op sizes xs)
value_words op sizes args xs words divides_not = by_test (must_divide op args)
    (λ e. let h = both (divides op) (is_zero (word_at args 1)) e in absurd (divides_not (h.0, at_place args xs 1 0 words (zero_known (word_at args 1) h.1))))
    (λ e. rw e (
      given op sizes args,
      refl,
      (known_has op sizes xs (word_at args 0) (word_at args 1) (word_at args 2) (λ w. at_place args xs 0 w words) (λ w. at_place args xs 1 w words) (λ w. at_place args xs 2 w words), word_below (size_of_result op sizes) _),
    ))

told : (op : Op) (sizes : List ℕ) (args : List FlatSet) (xs : List ℕ) → HaveWords flat_sets args xs
    → DividesByZero op xs → (applied op sizes args).divide ≡ true
told op sizes args xs words zero_divisor = rw (zero_divisor.0, zero_divides (word_at args 1) (slice_index xs 1) (λ w. at_place args xs 1 w words) zero_divisor.1) refl

-- where each operand is one word
one_given : (op : Op) (sizes : List ℕ) (args : List FlatSet) (xs : List ℕ) → AreKept flat_sets args
    → HaveOneWord flat_sets args xs → (DividesByZero op xs → ⊥)
    → GivesOnly flat_sets (applied op sizes args).value (value op sizes xs) × ((applied op sizes args).divide ≡ false)
one_given op sizes args xs of_args words divides_not =
    let a = one_at_place args xs 0 of_args words in
    let b = one_at_place args xs 1 of_args words in
    let c = one_at_place args xs 2 of_args words in
    let e : (divides op && (slice_index xs 1 == 0)) ≡ false = by_test (divides op && (slice_index xs 1 == 0))
    (λ t. let h = both (divides op) _ t in absurd (divides_not (h.0, eqb-true (slice_index xs 1) 0 h.1)))
    (λ f. f) in
    rw (a, b, c, e) ((one (size_of_result op sizes) (value op sizes xs), refl, only_one (one (size_of_result op sizes) (value op sizes xs)) (value op sizes xs) refl (word_below (size_of_result op sizes) _)), refl)

one_divides : (op : Op) (sizes : List ℕ) (args : List FlatSet) (xs : List ℕ) → AreKept flat_sets args
    → HaveOneWord flat_sets args xs → DividesByZero op xs
    → ((applied op sizes args).value ≡ None) × ((applied op sizes args).divide ≡ true)
one_divides op sizes args xs of_args words zero_divisor =
    let b = one_at_place args xs 1 of_args words in
    rw (b, zero_divisor.0, zero_divisor.1) (refl, refl)

pub is_applied : (op : Op) (sizes : List ℕ) (args : List FlatSet) → IsSome (result_size op sizes)
    → AreKept flat_sets args → IsApplied flat_sets op sizes args (applied op sizes args)
is_applied op sizes args typed of_args = record {
  size = value_size op sizes args typed;
  covering = value_words op sizes args;
  divides = told op sizes args;
  sharp = λ xs. one_given op sizes args xs of_args;
  sharp_divides = λ xs. one_divides op sizes args xs of_args;
}

-- Relations.

related : (rel : Rel) (size x y : ℕ) (a b : Option ℕ) → IsWord a x → IsWord b y → Related rel size x y
    → may_relate rel size a b ≡ true
related rel size x y None b h k r = refl
related rel size x y (Some v) None h k r = refl
related rel size x y (Some v) (Some w) h k r = rw (← h, ← k) (eq-eqb _ 1 r)

unrelated : (rel : Rel) (size x y : ℕ) (a b : Option ℕ) → a ≡ Some x → b ≡ Some y → (Related rel size x y → ⊥)
    → may_relate rel size a b ≡ false
unrelated rel size x y a b e f r = rw (e, f) (by_test (value (operator_of rel) (size ∷ []) (x ∷ y ∷ []) == 1) (λ t. absurd (r (eqb-true _ 1 t))) (λ t. t))

is_assumed : (rel : Rel) (a b : FlatSet) → IsFlat a → IsFlat b → IsAssumed flat_sets rel a b (assumed rel a b)
is_assumed rel a b of_a of_b = record {
  size = λ d is. by_test (may_relate rel a.size a.word b.word)
      (λ e. subst (IsOfSize flat_sets a.size) (same_Some a d (rw e at is)) (record { kept = of_a; size = refl }))
      (λ e. absurd (none-some d (rw e at is)));
  covering = λ x y in_a in_b r. rw (related rel a.size x y a.word b.word in_a.0 in_b.0 r) (a, refl, in_a);
  sharp = λ x y in_a in_b r. rw (related rel a.size x y a.word b.word in_a.is.0 in_b.is.0 r) (a, refl, in_a);
  sharp_none = λ x y in_a in_b r. rw (unrelated rel a.size x y a.word b.word (is_one a x of_a in_a) (is_one b y of_b in_b) r) refl;
}

-- One word kept.

is_kept : (d : FlatSet) (x : ℕ) → IsFlat d → IsKeptWord flat_sets d x (only d x)
is_kept d x flat = record {
  size = λ c is. by_test (has_word d x)
      (λ e. subst (IsOfSize flat_sets d.size) (same_Some (one d.size x) c (rw e at is)) (record { kept = record { size = flat.size; fits = ((tested d x).0 e).1 }; size = refl }))
      (λ e. absurd (none-some c (rw e at is)));
  covering = λ h. rw ((tested d x).1 h) (one d.size x, refl, (refl, h.1));
  sharp = λ h. rw ((tested d x).1 h.is) (one d.size x, refl, only_one (one d.size x) x refl h.is.1);
  sharp_none = λ y h other. by_test (has_word d x) (λ e. absurd (other (h.one x ((tested d x).0 e)))) (λ e. rw e refl);
}

pub flat_is_sets : IsWordSets FlatSet flat_order flat_sets
flat_is_sets = record {
  sized = λ d flat. flat.size;
  fits = λ d x flat h. h.1;
  alike = λ a b of_a of_b same. same;
  joined_size = λ a b of_a of_b same. record { kept = record { size = of_a.size; fits = common_fits a.size a.word b.word of_a.fits }; size = refl };
  above = λ a b x under. under.1 x;
  joined_one = λ a b x of_a of_b same in_a in_b. only_one (joined a b) x (common_one a.word b.word x (is_one a x of_a in_a) (is_one b x of_b in_b)) in_a.is.1;
  single_size = λ s x size small. record { kept = record { size = size; fits = small }; size = refl };
  single_only = λ s x size small. only_one (one s x) x refl small;
  whole_size = λ s size. record { kept = record { size = size; fits = tt }; size = refl };
  whole_covers = λ s x size small. (tt, small);
  tested = λ d x flat. tested d x;
  applied = λ op sizes args typed sized of_args. is_applied op sizes args typed of_args;
  assumed = λ rel a b of_a of_b same. is_assumed rel a b of_a of_b;
  only = λ d x flat. is_kept d x flat;
}
