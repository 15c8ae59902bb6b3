-- An arm that is taken keeps its memory, refined.
--   WordsTold               the words of a side of a comparison, and the run's word
--   refined_kept            a refined memory keeps sizes, and the functions that run
--   ArmTold, refined_told   where the expression gives a word of the arm, the arm is there, and its memory
--       stands for the history
use Rattle.std.specs.Prelude.{slice_index, IfSome, if◌then◌else◌}
use Rattle.std.specs.Option.{option_and_then}
use Rattle.std.proofs.Common.{◌≡◌, ℕ, List, [], ◌∷◌, Option, Some, None, Result, Ok, Err, refl, sym, ap, subst, ◌∙◌}
use Rattle.std.proofs.lemmas.Option.{none-some, same_Some}
use Rattle.lists.specs.TestLaws.{by_test}
use Rattle.alf_ops.specs.declared.operator.Op.{Op}
use Rattle.alf_ops.specs.declared.history.Value.{Value}
use Rattle.alf_ops.specs.declared.history.Value.TheVariants.{Int, Ptr}
use Rattle.alf_ops.specs.declared.history.RunFault.{RunFault}
use Rattle.alf_ops.specs.declared.history.FrameShape.{FrameShape}
use Rattle.alf_ops.specs.declared.history.RunEvent.{RunEvent}
use Rattle.alf_ops.specs.Values.{bits_of}
use Rattle.alf_ops.specs.Words.{value}
use Rattle.alf_ops.specs.Pointers.{outcome, operands, outcome_of_operands}
use Rattle.alf_program.specs.Tree.{NumberedExpression, NumberedExpressions, Number, Address, Load, Apply, Empty, With}
use Rattle.alf_check.specs.declared.rows.FrameRow.{FrameRow}
use Rattle.alf_check.specs.Kept.{HasSize, HaveSizes}
use Rattle.alf_runs.specs.Expressions.{value_of}
use Rattle.alf_runs.specs.SizeLaws.{ValueHasSize}
use Rattle.domain_core.specs.declared.relation.Rel.{Rel}
use Rattle.domain_core.specs.Relations.{operator_of, Related}
use Rattle.domain_core.specs.WordSets.{IsOnly, IsOfSize, Gives, GivesOnly, GivesSize}
use Rattle.strided_rules.specs.Strides.{Stride, IsStride, Covers as CoversWord}
use Rattle.strided_rules.specs.Members.{is_one, word_of, assumed}
use Rattle.strided_rules.specs.MemberLaws.{one_word_alone}
use Rattle.strided_rules.specs.Domains.{stride_sets}
use Rattle.strided_rules.specs.StrideLaws.{stride_is_sets}
use Rattle.pointer_rules.specs.AbstractValues.{AbstractValue, Covers}
use Rattle.pointer_rules.specs.Covering.{IsValue}
use Rattle.memory_rules.specs.ValueSets.{OnlyCovers}
use Rattle.memory_rules.specs.Memories.{Mem, MemSized}
use Rattle.memory_rules.specs.AbstractSets.{abstract_sets, some_place}
use Rattle.transfer_rules.specs.Evaluating.{value_at}
use Rattle.transfer_rules.specs.RemainsLaws.{LeftTold, Answers}
use Rattle.transfer_rules.specs.Refining.{Place, Comparison, place_of, words_alone, relation_of, swapped, sides_of, comparison_of, pinned_to, pinned_side, pinned_sides, rel_at, compared, by_form, refined}
use Rattle.transfer_rules.specs.Standing.{Stands, ValueTold}
use Rattle.transfer_rules.specs.EvaluatingLaws.{value_sized, value_told}
use Rattle.transfer_rules.specs.DoingLaws.{Kept, unchanged, kept_on}
use Rattle.transfer_rules.specs.PlaceLaws.{PlaceFits, PlaceReads, pin_kept, pin_told}
use Rattle.transfer_rules.specs.PlaceReadingLaws.{place_fits, place_reads}
use Rattle.transfer_rules.specs.ComparisonLaws.{swapped_holds, rel_holds, relation_is, compared_sizes, compared_outcome}

none_is : {A B : Type 0} (a : A) → None ≡ Some a → B
none_is a e = absurd (none-some a e)

-- ---- the words of a side

-- the words of a value without a pointer have its size
words_sized : (size : ℕ) (o : Option AbstractValue) (x : Stride) → IfSome o (IsValue size) → words_alone o ≡ Some x
    → IsOfSize stride_sets size x
words_sized size None x is e = none_is x e
words_sized size (Some v) x is e = go v.words v.places is.is.words is.sized.words e
  where
    go : (words : Option Stride) (places : List (ℕ × Stride)) → IfSome words IsStride
        → IfSome words (λ w. w.size ≡ size) → (if some_place places then None else words) ≡ Some x
        → IsOfSize stride_sets size x
    go words (place ∷ places) strides sized e = none_is x e
    go None [] strides sized e = none_is x e
    go (Some words) [] strides sized e = subst (IsOfSize stride_sets size) (same_Some words x e) (record { kept = strides; size = sized })

-- the words of a side of a comparison, and the run's word
pub record WordsTold (Sharp : Type 0) (size : ℕ) (x : Stride) (given : Value) : Type 0 where
  pub own : ℕ
  pub bits : ℕ
  pub is : given ≡ Int own bits
  pub covers : CoversWord x bits
  pub only : Sharp → IsOnly stride_sets x bits

words_told : (Sharp : Type 0) (size : ℕ) (v : AbstractValue) (given : Value) (x : Stride) → ValueTold Sharp v given
    → words_alone (Some v) ≡ Some x → WordsTold Sharp size x given
words_told Sharp size v given x told e = go v.words v.places given told.covers told.only e
  where
    go : (words : Option Stride) (places : List (ℕ × Stride)) (given : Value)
        → Covers (record { words = words; places = places }) given
        → (Sharp → OnlyCovers abstract_sets (record { words = words; places = places }) given) → (if some_place places then None else words) ≡ Some x → WordsTold Sharp size x given
    go words (place ∷ places) given covers only e = none_is x e
    go None [] given covers only e = none_is x e
    go (Some words) [] (Ptr frame offset) covers only e = elim covers [ ]
    go (Some words) [] (Int own bits) covers only e = record {
      own = own;
      bits = bits;
      is = refl;
      covers = subst (λ (w : Stride). CoversWord w bits) (same_Some words x e) covers.1;
      only = λ sharp. subst (λ (w : Stride). IsOnly stride_sets w bits) (same_Some words x e)
          (record { is = covers.1; one = λ y c. ap bits_of ((only sharp).1 (Int words.size y) (refl, c)) });
    }

-- ---- a side

-- what is left of a side
pub record SideLeft (Sharp : Type 0) (size bits : ℕ) (words : Option Stride) : Type 0 where
  pub gives : Gives stride_sets words bits
  pub sized : GivesSize stride_sets words size
  pub only : Sharp → GivesOnly stride_sets words bits

-- the memory of an arm that is there
pub record ArmTold (Sharp : Type 0) (rows : List FrameShape) (history : List RunEvent)
    (o : Option (Mem abstract_sets)) : Type 0 where
  pub m : Mem abstract_sets
  pub is : o ≡ Some m
  pub stands : Stands Sharp rows m history

-- the place is one of the size, and reads its cell
pub record IsPlaceOf (rows : List FrameShape) (history : List RunEvent) (size bits : ℕ) (place : Place) : Type 0 where
  pub fits : PlaceFits place size
  pub reads : PlaceReads rows history place bits

one_is : (d x : Stride) (bits : ℕ) (words : Option Stride) → words ≡ Some d → GivesOnly stride_sets words bits
    → IsOnly stride_sets d bits
one_is d x bits words e g = subst (λ (w : Stride). IsOnly stride_sets w bits) (same_Some g.0 d (sym g.1 ∙ e)) g.2

side_told : (Sharp : Type 0) (rows : List FrameShape) (m : Mem abstract_sets) (history : List RunEvent) (size bits : ℕ) (place : Option Place) (words : Option Stride) → Stands Sharp rows m history
    → IfSome place (IsPlaceOf rows history size bits) → SideLeft Sharp size bits words → ArmTold Sharp rows history (pinned_side place words m)
side_told Sharp rows m history size bits None words stands is left = record { m = m; is = refl; stands = stands }
side_told Sharp rows m history size bits (Some place) words stands is left =
    let d = left.gives.0 in
    record {
      m = pinned_to m place d;
      is = ap (λ (o : Option Stride). pinned_side (Some place) o m) left.gives.1;
      stands = pin_told place size is.fits d (left.sized d left.gives.1) Sharp rows m history bits stands is.reads left.gives.2 (λ sharp. one_is d d bits words left.gives.1 (left.only sharp));
    }

side_kept : (m : Mem abstract_sets) (size : ℕ) (place : Option Place) (words : Option Stride) → MemSized abstract_sets m
    → IfSome place (λ p. PlaceFits p size) → GivesSize stride_sets words size
    → IfSome (pinned_side place words m) (Kept m)
side_kept m size None words sized fits of_words = unchanged m sized
side_kept m size (Some place) None sized fits of_words = tt
side_kept m size (Some place) (Some words) sized fits of_words = pin_kept place size fits words (of_words words refl) m sized

-- what a relation leaves of a side
assumed_left : (Sharp : Type 0) (rel : Rel) (size : ℕ) (x y : Stride) (a b : ℕ) → IsOfSize stride_sets size x
    → IsOfSize stride_sets size y → CoversWord x a → CoversWord y b
    → (Sharp → IsOnly stride_sets x a) → (Sharp → IsOnly stride_sets y b) → Related rel size a b → SideLeft Sharp size a (assumed rel x y)
assumed_left Sharp rel size x y a b of_x of_y in_x in_y only_x only_y related =
    let law = stride_is_sets.assumed rel x y of_x.kept of_y.kept (of_x.size ∙ sym of_y.size) in
    let own : Related rel x.size a b = subst (λ (s : ℕ). Related rel s a b) (sym of_x.size) related in
    record {
      gives = law.covering a b in_x in_y own;
      sized = subst (GivesSize stride_sets (assumed rel x y)) of_x.size law.size;
      only = λ sharp. law.sharp a b (only_x sharp) (only_y sharp) own;
    }

assumed_sized : (rel : Rel) (size : ℕ) (x y : Stride) → IsOfSize stride_sets size x → IsOfSize stride_sets size y
    → GivesSize stride_sets (assumed rel x y) size
assumed_sized rel size x y of_x of_y = subst (GivesSize stride_sets (assumed rel x y)) of_x.size (stride_is_sets.assumed rel x y of_x.kept of_y.kept (of_x.size ∙ sym of_y.size)).size

-- ---- both sides

then_kept : (m : Mem abstract_sets) (o : Option (Mem abstract_sets)) (further : Mem abstract_sets → Option (Mem abstract_sets)) → IfSome o (Kept m)
    → ((n : Mem abstract_sets) → Kept m n → IfSome (further n) (Kept n)) → IfSome (option_and_then further o) (Kept m)
then_kept m None further kept rest = tt
then_kept m (Some n) further kept rest = go (further n) (rest n kept)
  where
    go : (o : Option (Mem abstract_sets)) → IfSome o (Kept n) → IfSome o (Kept m)
    go None more = tt
    go (Some last) more = kept_on m n last kept more

sides_kept : (m : Mem abstract_sets) (size : ℕ) (rel : Rel) (first second : Option Place) (x y : Option Stride)
    → MemSized abstract_sets m → IfSome first (λ p. PlaceFits p size)
    → IfSome second (λ p. PlaceFits p size) → IfSome x (IsOfSize stride_sets size) → IfSome y (IsOfSize stride_sets size) → IfSome (pinned_sides rel first x second y m) (Kept m)
sides_kept m size rel first second None y sized fits_first fits_second of_x of_y = unchanged m sized
sides_kept m size rel first second (Some x) None sized fits_first fits_second of_x of_y = unchanged m sized
sides_kept m size rel first second (Some x) (Some y) sized fits_first fits_second of_x of_y =
    then_kept m (pinned_side first (assumed rel x y) m) (pinned_side second (assumed (swapped rel) y x))
    (side_kept m size first (assumed rel x y) sized fits_first (assumed_sized rel size x y of_x of_y))
    (λ n kept. side_kept n size second (assumed (swapped rel) y x) kept.sized fits_second (assumed_sized (swapped rel) size y x of_y of_x))

then_told : (Sharp : Type 0) (rows : List FrameShape) (history : List RunEvent) (o : Option (Mem abstract_sets)) (further : Mem abstract_sets → Option (Mem abstract_sets)) (told : ArmTold Sharp rows history o)
    → ArmTold Sharp rows history (further told.m) → ArmTold Sharp rows history (option_and_then further o)
then_told Sharp rows history o further told rest = record { m = rest.m; is = ap (λ (p : Option (Mem abstract_sets)). option_and_then further p) told.is ∙ rest.is; stands = rest.stands }

sides_told : (Sharp : Type 0) (rows : List FrameShape) (m : Mem abstract_sets) (history : List RunEvent) (size : ℕ) (rel : Rel) (first second : Option Place) (x y : Option Stride) (a b : ℕ)
    → Stands Sharp rows m history → IfSome first (IsPlaceOf rows history size a) → IfSome second (IsPlaceOf rows history size b)
    → IfSome x (λ w. IsOfSize stride_sets size w × CoversWord w a × (Sharp → IsOnly stride_sets w a)) → IfSome y (λ w. IsOfSize stride_sets size w × CoversWord w b × (Sharp → IsOnly stride_sets w b))
    → Related rel size a b → ArmTold Sharp rows history (pinned_sides rel first x second y m)
sides_told Sharp rows m history size rel first second None y a b stands is_first is_second of_x of_y related = record { m = m; is = refl; stands = stands }
sides_told Sharp rows m history size rel first second (Some x) None a b stands is_first is_second of_x of_y related = record { m = m; is = refl; stands = stands }
sides_told Sharp rows m history size rel first second (Some x) (Some y) a b stands is_first is_second of_x of_y related =
    let one = side_told Sharp rows m history size a first (assumed rel x y) stands is_first (assumed_left Sharp rel size x y a b of_x.0 of_y.0 of_x.1 of_y.1 of_x.2 of_y.2 related) in
    then_told Sharp rows history (pinned_side first (assumed rel x y) m) (pinned_side second (assumed (swapped rel) y x)) one
    (side_told Sharp rows one.m history size b second (assumed (swapped rel) y x) one.stands is_second
    (assumed_left Sharp (swapped rel) size y x b a of_y.0 of_x.0 of_y.1 of_x.1 of_y.2 of_x.2 (swapped_holds rel size a b related)))

-- ---- comparisons

-- the expression is this comparison
pub record IsComparison (e : NumberedExpression) (c : Comparison) : Type 0 where
  pub sizes : List ℕ
  pub is : e ≡ Apply (operator_of c.rel) sizes (With c.first (With c.second Empty))

comparison_is : (e : NumberedExpression) (c : Comparison) → comparison_of e ≡ Some c → IsComparison e c
comparison_is (Number num) c e = none_is c e
comparison_is (Address frame offset) c e = none_is c e
comparison_is (Load size at) c e = none_is c e
comparison_is (Apply op sizes es) c e = go (relation_of op) refl e
  where
    sides : (rel : Rel) (es : NumberedExpressions) → op ≡ operator_of rel → sides_of rel es ≡ Some c
        → IsComparison (Apply op sizes es) c
    sides rel Empty same e = none_is c e
    sides rel (With x Empty) same e = none_is c e
    sides rel (With x (With y (With z es))) same e = none_is c e
    sides rel (With x (With y Empty)) same e =
        subst (IsComparison (Apply op sizes (With x (With y Empty)))) (same_Some (record { rel = rel; first = x; second = y }) c e)
        (record { sizes = sizes; is = ap (λ (o : Op). Apply o sizes (With x (With y Empty))) same })

    go : (o : Option Rel) → relation_of op ≡ o → option_and_then (λ rel. sides_of rel es) o ≡ Some c
        → IsComparison (Apply op sizes es) c
    go None found e = none_is c e
    go (Some rel) found e = sides rel es (relation_is op rel found) e

-- both sides have one size
pub record SidesHave (table : List FrameRow) (k : ℕ) (c : Comparison) (sizes : List ℕ) : Type 0 where
  pub first : HasSize table k (slice_index sizes 0) c.first
  pub second : HasSize table k (slice_index sizes 0) c.second

sides_have : (table : List FrameRow) (k size : ℕ) (c : Comparison) (sizes : List ℕ)
    → HasSize table k size (Apply (operator_of c.rel) sizes (With c.first (With c.second Empty)))
    → SidesHave table k c sizes
sides_have table k size c sizes has =
    let both : HaveSizes table k (slice_index sizes 0 ∷ slice_index sizes 0 ∷ []) (With c.first (With c.second Empty)) =
    subst (λ (s : List ℕ). HaveSizes table k s (With c.first (With c.second Empty))) (compared_sizes c.rel sizes) has.operands in
    record { first = both.0; second = both.1.0 }

-- the values of both sides
pub record SidesGive (rows : List FrameShape) (history : List RunEvent) (c : Comparison) (sizes : List ℕ)
    (own w : ℕ) : Type 0 where
  pub a : Value
  pub b : Value
  pub first : value_of rows history c.first ≡ Ok a
  pub second : value_of rows history c.second ≡ Ok b
  pub out : outcome (operator_of c.rel) sizes (a ∷ b ∷ []) ≡ Ok (Int own w)

sides_give : (rows : List FrameShape) (history : List RunEvent) (c : Comparison) (sizes : List ℕ) (own w : ℕ)
    → value_of rows history (Apply (operator_of c.rel) sizes (With c.first (With c.second Empty))) ≡ Ok (Int own w) → SidesGive rows history c sizes own w
sides_give rows history c sizes own w gives = go (value_of rows history c.first) (value_of rows history c.second) refl refl gives
  where
    go : (r s : Result Value RunFault) → value_of rows history c.first ≡ r → value_of rows history c.second ≡ s
        → outcome_of_operands (operator_of c.rel) sizes (operands (r ∷ s ∷ [])) ≡ Ok (Int own w)
        → SidesGive rows history c sizes own w
    go (Err fault) s first second out = cc
    go (Ok a) (Err fault) first second out = cc
    go (Ok a) (Ok b) first second out = record { a = a; b = b; first = first; second = second; out = out }

-- ---- the arms

module _ (table : List FrameRow) (k : ℕ) (rows : List FrameShape) (m : Mem abstract_sets) (sized : MemSized abstract_sets m) where
  places_fit : (e : NumberedExpression) (size : ℕ) → HasSize table k size e
      → IfSome (place_of rows m e) (λ p. PlaceFits p size)
  places_fit e size has = go (place_of rows m e) refl
    where
      go : (o : Option Place) → place_of rows m e ≡ o → IfSome o (λ p. PlaceFits p size)
      go None is = tt
      go (Some place) is = place_fits table k rows m e size place has is

  sides_sized : (e : NumberedExpression) (size : ℕ) → HasSize table k size e
      → IfSome (words_alone (value_at rows m e).left) (IsOfSize stride_sets size)
  sides_sized e size has = go (words_alone (value_at rows m e).left) refl
    where
      go : (o : Option Stride) → words_alone (value_at rows m e).left ≡ o → IfSome o (IsOfSize stride_sets size)
      go None is = tt
      go (Some x) is = words_sized size (value_at rows m e).left x (value_sized table rows m sized k e size has) is

  compared_kept : (c : Comparison) (sizes : List ℕ) (arm : Stride) → SidesHave table k c sizes
      → IfSome (compared rows m c arm) (Kept m)
  compared_kept c sizes arm have = by_test (is_one arm)
      (λ one. rw one (sides_kept m (slice_index sizes 0) (rel_at c.rel (word_of arm)) (place_of rows m c.first) (place_of rows m c.second) (words_alone (value_at rows m c.first).left)
      (words_alone (value_at rows m c.second).left) sized (places_fit c.first (slice_index sizes 0) have.first) (places_fit c.second (slice_index sizes 0) have.second)
      (sides_sized c.first (slice_index sizes 0) have.first) (sides_sized c.second (slice_index sizes 0) have.second)))
      (λ several. rw several (unchanged m sized))

  -- a refined memory keeps sizes, and the functions that run
  pub refined_kept : (e : NumberedExpression) (size : ℕ) (arm : Stride) → HasSize table k size e
      → IsOfSize stride_sets size arm → IfSome (refined rows m e arm) (Kept m)
  refined_kept e size arm has of_arm = by_place (place_of rows m e) refl (comparison_of e) refl
    where
      by_place : (o : Option Place) → place_of rows m e ≡ o → (c : Option Comparison) → comparison_of e ≡ c
          → IfSome (by_form rows m o c arm) (Kept m)
      by_place (Some place) is c c_is = pin_kept place size (place_fits table k rows m e size place has is) arm of_arm m sized
      by_place None is None c_is = unchanged m sized
      by_place None is (Some c) c_is =
          let of_c = comparison_is e c c_is in
          compared_kept c of_c.sizes arm (sides_have table k size c of_c.sizes (subst (HasSize table k size) of_c.is has))

module _ (Sharp : Type 0) (rows : List FrameShape) (m : Mem abstract_sets) (history : List RunEvent) (stands : Stands Sharp rows m history) (table : List FrameRow) (k : ℕ) (sizes_are : ValueHasSize) where
  places_are : (e : NumberedExpression) (size own w : ℕ) → HasSize table k size e
      → value_of rows history e ≡ Ok (Int own w) → IfSome (place_of rows m e) (IsPlaceOf rows history size w)
  places_are e size own w has gives = go (place_of rows m e) refl
    where
      go : (o : Option Place) → place_of rows m e ≡ o → IfSome o (IsPlaceOf rows history size w)
      go None is = tt
      go (Some place) is = record {
        fits = place_fits table k rows m e size place has is;
        reads = place_reads Sharp rows m history stands table k sizes_are e size place own w has is gives;
      }

  -- a side with words, and its word
  pub record SideTold (e : NumberedExpression) (size : ℕ) (given : Value) : Type 0 where
    pub own : ℕ
    pub bits : ℕ
    pub is : given ≡ Int own bits
    pub words : IfSome (words_alone (value_at rows m e).left) (λ w. IsOfSize stride_sets size w × CoversWord w bits × (Sharp → IsOnly stride_sets w bits))

  side_of : (e : NumberedExpression) (size : ℕ) (given : Value) (x : Stride) → HasSize table k size e
      → value_of rows history e ≡ Ok given → words_alone (value_at rows m e).left ≡ Some x
      → SideTold e size given
  side_of e size given x has gives is =
      let told : LeftTold Sharp (λ v. ValueTold Sharp v given) (value_at rows m e) = subst (Answers Sharp (ValueTold Sharp) (value_at rows m e)) gives (value_told Sharp rows m history stands table k e size has) in
      let here : words_alone (Some told.value) ≡ Some x = subst (λ (o : Option AbstractValue). words_alone o ≡ Some x) told.is is in
      let w = words_told Sharp size told.value given x told.holds here in
      let of_x = words_sized size (value_at rows m e).left x (value_sized table rows m stands.sized k e size has) is in
      record {
        own = w.own;
        bits = w.bits;
        is = w.is;
        words = subst (λ (o : Option Stride). IfSome o (λ v. IsOfSize stride_sets size v × CoversWord v w.bits × (Sharp → IsOnly stride_sets v w.bits))) (sym is) (of_x, w.covers, w.only);
      }

  -- the two sides, where both have words alone
  both_told : (c : Comparison) (sizes : List ℕ) (own w : ℕ) → SidesHave table k c sizes
      → (given : SidesGive rows history c sizes own w) → SideTold c.first (slice_index sizes 0) given.a
      → SideTold c.second (slice_index sizes 0) given.b
      → ArmTold Sharp rows history (pinned_sides (rel_at c.rel w) (place_of rows m c.first) (words_alone (value_at rows m c.first).left) (place_of rows m c.second) (words_alone (value_at rows m c.second).left) m)
  both_told c sizes own w have given first second =
      let size = slice_index sizes 0 in
      let a_is : value_of rows history c.first ≡ Ok (Int first.own first.bits) = given.first ∙ ap Ok first.is in
      let b_is : value_of rows history c.second ≡ Ok (Int second.own second.bits) = given.second ∙ ap Ok second.is in
      let out : outcome (operator_of c.rel) sizes (Int first.own first.bits ∷ Int second.own second.bits ∷ []) ≡ Ok (Int own w) =
      ap (λ (v : Value). outcome (operator_of c.rel) sizes (v ∷ Int second.own second.bits ∷ [])) (sym first.is)
      ∙ ap (λ (v : Value). outcome (operator_of c.rel) sizes (given.a ∷ v ∷ [])) (sym second.is) ∙ given.out in
      let word_is : value (operator_of c.rel) (size ∷ []) (first.bits ∷ second.bits ∷ []) ≡ w =
      same_word_out 1 (value (operator_of c.rel) (size ∷ []) (first.bits ∷ second.bits ∷ [])) own w (sym (compared_outcome c.rel sizes first.own second.own first.bits second.bits) ∙ out) in
      sides_told Sharp rows m history size (rel_at c.rel w) (place_of rows m c.first) (place_of rows m c.second) (words_alone (value_at rows m c.first).left) (words_alone (value_at rows m c.second).left)
      first.bits second.bits stands (places_are c.first size first.own first.bits have.first a_is) (places_are c.second size second.own second.bits have.second b_is) first.words second.words
      (rel_holds c.rel size first.bits second.bits w word_is)
    where
      same_word_out : (s n t w : ℕ) → (let r : Result Value RunFault = Ok (Int s n) in r) ≡ Ok (Int t w) → n ≡ w
      same_word_out s n t w e = cc

  compared_told : (c : Comparison) (sizes : List ℕ) (own w : ℕ) (arm : Stride) → SidesHave table k c sizes
      → SidesGive rows history c sizes own w → CoversWord arm w
      → ArmTold Sharp rows history (compared rows m c arm)
  compared_told c sizes own w arm have given covers = by_test (is_one arm)
      (λ one.
      let word_is : w ≡ word_of arm = one_word_alone arm w one covers in
      rw one (subst (λ (n : ℕ). ArmTold Sharp rows history (pinned_sides (rel_at c.rel n) (place_of rows m c.first) (words_alone (value_at rows m c.first).left) (place_of rows m c.second)
      (words_alone (value_at rows m c.second).left) m)) word_is
      (go (words_alone (value_at rows m c.first).left) refl (words_alone (value_at rows m c.second).left) refl)))
      (λ several. rw several (record { m = m; is = refl; stands = stands }))
    where
      go : (x : Option Stride) → words_alone (value_at rows m c.first).left ≡ x → (y : Option Stride)
          → words_alone (value_at rows m c.second).left ≡ y
          → ArmTold Sharp rows history (pinned_sides (rel_at c.rel w) (place_of rows m c.first) (words_alone (value_at rows m c.first).left) (place_of rows m c.second) (words_alone (value_at rows m c.second).left) m)
      go None x_is y y_is = record { m = m; is = ap (λ (o : Option Stride). pinned_sides (rel_at c.rel w) (place_of rows m c.first) o (place_of rows m c.second) (words_alone (value_at rows m c.second).left) m) x_is; stands = stands }
      go (Some x) x_is None y_is = record {
        m = m;
        is = ap (λ (o : Option Stride). pinned_sides (rel_at c.rel w) (place_of rows m c.first) o (place_of rows m c.second) (words_alone (value_at rows m c.second).left) m) x_is
            ∙ ap (λ (o : Option Stride). pinned_sides (rel_at c.rel w) (place_of rows m c.first) (Some x) (place_of rows m c.second) o m) y_is;
        stands = stands;
      }
      go (Some x) x_is (Some y) y_is =
          both_told c sizes own w have given (side_of c.first (slice_index sizes 0) given.a x have.first given.first x_is) (side_of c.second (slice_index sizes 0) given.b y have.second given.second y_is)

  -- where the expression gives a word of the arm, the arm is there, and its memory stands for the history
  pub refined_told : (e : NumberedExpression) (size own w : ℕ) (arm : Stride) → HasSize table k size e
      → value_of rows history e ≡ Ok (Int own w) → IsOfSize stride_sets size arm
      → CoversWord arm w → (Sharp → IsOnly stride_sets arm w) → ArmTold Sharp rows history (refined rows m e arm)
  refined_told e size own w arm has gives of_arm covers only = by_place (place_of rows m e) refl (comparison_of e) refl
    where
      by_place : (o : Option Place) → place_of rows m e ≡ o → (c : Option Comparison) → comparison_of e ≡ c
          → ArmTold Sharp rows history (by_form rows m o c arm)
      by_place (Some place) is c c_is = record {
        m = pinned_to m place arm;
        is = refl;
        stands = pin_told place size (place_fits table k rows m e size place has is) arm of_arm Sharp rows m history w stands
            (place_reads Sharp rows m history stands table k sizes_are e size place own w has is gives) covers only;
      }
      by_place None is None c_is = record { m = m; is = refl; stands = stands }
      by_place None is (Some c) c_is =
          let of_c = comparison_is e c c_is in
          compared_told c of_c.sizes own w arm (sides_have table k size c of_c.sizes (subst (HasSize table k size) of_c.is has))
          (sides_give rows history c of_c.sizes own w (subst (λ (x : NumberedExpression). value_of rows history x ≡ Ok (Int own w)) of_c.is gives)) covers
