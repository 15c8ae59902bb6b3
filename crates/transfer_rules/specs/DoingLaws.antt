-- What statements make of an abstract memory tells what they make of a history.
--   width_is                   the size of an abstract value is its own
--   Kept old new               a memory with the sizes, in which the same functions run
--   stored_kept, statements_kept      stores and statements keep it
--   store_told                 a store through an address that is covered is told
--   statement_told, statements_told   the history after is covered, or the fault told
use Rattle.std.specs.Prelude.{IfSome, ◌++◌, All}
use Rattle.std.proofs.Common.{◌≡◌, ◌≢◌, ℕ, List, [], ◌∷◌, map, Option, Some, None, Result, Ok, Err, ◌<◌, ◌^◌, refl, sym, ap, subst, ◌∙◌}
use Rattle.std.proofs.lemmas.List.Elements.{All-head, All-tail}
use Rattle.alf_ops.specs.declared.history.Value.{Value}
use Rattle.alf_ops.specs.declared.history.Value.TheVariants.{Int, Ptr}
use Rattle.alf_ops.specs.declared.history.RunFault.{RunFault}
use Rattle.alf_ops.specs.declared.history.FrameShape.{FrameShape}
use Rattle.alf_ops.specs.declared.history.RunEvent.{RunEvent}
use Rattle.alf_ops.specs.Values.{FitsValue, size_of}
use Rattle.alf_ops.specs.Histories.{Address, address_of, store, stored as stored_run, IsSoundHistory}
use Rattle.alf_program.specs.Tree.{NumberedExpression}
use Rattle.alf_check.specs.declared.rows.FrameRow.{FrameRow}
use Rattle.alf_check.specs.CheckedPrograms.{NumberedStatement, Null, Store}
use Rattle.alf_check.specs.Kept.{HasSize, KeepsStatement}
use Rattle.alf_runs.specs.Expressions.{value_of}
use Rattle.alf_runs.specs.Statements as runs
use Rattle.alf_runs.specs.SizeLaws.{ValueHasSize}
use Rattle.strided_rules.specs.Strides.{Stride}
use Rattle.pointer_rules.specs.AbstractValues.{AbstractValue, IsPointerSize, words_first, place_of}
use Rattle.pointer_rules.specs.Covering.{IsValue}
use Rattle.memory_rules.specs.Covers.{IsCellSize as IsCell}
use Rattle.memory_rules.specs.Memories.{Mem, MemSized, stored, weak_all, weak_at}
use Rattle.memory_rules.specs.Addresses.{cells_of, stored_at}
use Rattle.memory_rules.specs.AbstractSets.{abstract_sets}
use Rattle.memory_rules.specs.AbstractSetLaws.{abstract_is_sets}
use Rattle.memory_rules.specs.AddressLaws.{stores_at, faults_at}
use Rattle.memory_rules.specs.AddressSharpLaws.{stores_only, faults_only}
use Rattle.memory_rules.specs.MemoryProofLaws.{store_sized}
use Rattle.transfer_rules.specs.Remains.{Remains, goes_on}
use Rattle.transfer_rules.specs.Evaluating.{words_width, width_of, value_at}
use Rattle.transfer_rules.specs.Doing.{where_possible, stored_by, stored_through, after_statement, after_statements}
use Rattle.transfer_rules.specs.RemainsLaws.{Answers, IfLeft, all_told, answers_on, fault_stops, keeps_on}
use Rattle.transfer_rules.specs.AddressFaultLaws.{address_told, address_from}
use Rattle.transfer_rules.specs.Standing.{Stands, ValueTold}
use Rattle.transfer_rules.specs.EvaluatingLaws.{cell_size, value_sized, value_told}

-- ---- sizes

-- the size of an abstract value is its own
pub width_is : (size : ℕ) (v : AbstractValue) → IsValue size v → width_of v ≡ size
width_is size v is = go v.words v.places is.sized.words is.sized.places is.is.some
  where
    go : (words : Option Stride) (places : List (ℕ × Stride)) → IfSome words (λ w. w.size ≡ size)
        → IsPointerSize places size
        → words_first words ++ map place_of places ≢ [] → words_width words ≡ size
    go None [] of_words of_places some = absurd (some refl)
    go None (place ∷ places) of_words of_places some = sym of_places
    go (Some words) places of_words of_places some = of_words

pub own_size : (size : ℕ) (value : Value) → FitsValue size value → size_of value ≡ size
own_size size (Int own bits) fits = fits.0
own_size size (Ptr frame offset) fits = sym fits.0

pub own_fits : (size : ℕ) (value : Value) → FitsValue size value → FitsValue (size_of value) value
own_fits size (Int own bits) fits = (refl, subst (λ (s : ℕ). bits < 2 ^ s) (sym fits.0) fits.1)
own_fits size (Ptr frame offset) fits = (refl, fits.1)

-- ---- memories with their sizes

-- a memory with the sizes, in which the same functions run
pub record Kept (old new : Mem abstract_sets) : Type 0 where
  pub sized : MemSized abstract_sets new
  pub runs : new.runs ≡ old.runs

pub unchanged : (m : Mem abstract_sets) → MemSized abstract_sets m → Kept m m
unchanged m sized = record { sized = sized; runs = refl }

pub kept_on : (a b c : Mem abstract_sets) → Kept a b → Kept b c → Kept a c
kept_on a b c first second = record { sized = second.sized; runs = second.runs ∙ first.runs }

weak_runs : (size : ℕ) (v : AbstractValue) (cells : List (ℕ × ℕ)) (m : Mem abstract_sets)
    → (weak_all abstract_sets m cells size v).runs ≡ m.runs
weak_runs size v [] m = refl
weak_runs size v (cell ∷ cells) m = weak_runs size v cells (weak_at abstract_sets m cell size v)

stored_runs : (size : ℕ) (v : AbstractValue) (cells : List (ℕ × ℕ)) (m : Mem abstract_sets)
    → (stored abstract_sets m cells size v).runs ≡ m.runs
stored_runs size v [] m = refl
stored_runs size v (cell ∷ []) m = refl
stored_runs size v (cell ∷ other ∷ cells) m = weak_runs size v (cell ∷ other ∷ cells) m

possible_kept : {A : Type 0} (P : A → Type 0) (cells : List (ℕ × ℕ)) (a : A) → P a → IfSome (where_possible cells a) P
possible_kept P [] a holds = tt
possible_kept P (cell ∷ cells) a holds = holds

-- stores keep it
pub stored_kept : (rows : List FrameShape) (m : Mem abstract_sets) (at v : AbstractValue) (size : ℕ)
    → MemSized abstract_sets m → IsCell size → IsValue size v
    → IfLeft (Kept m) (stored_through rows m at v)
stored_kept rows m at v size sized is of_v =
    subst (λ (s : ℕ). IfLeft (Kept m) (stored_by rows m at v s)) (sym (width_is size v of_v))
    (possible_kept (Kept m) (cells_of rows m.runs at.places size) (stored_at rows m at size v) (record {
      sized = store_sized abstract_sets abstract_is_sets m (cells_of rows m.runs at.places size) size v sized is of_v;
      runs = stored_runs size v (cells_of rows m.runs at.places size) m;
    }))

module _ (table : List FrameRow) (rows : List FrameShape) (k : ℕ) where
  statement_kept : (s : NumberedStatement) (m : Mem abstract_sets) → KeepsStatement table k s → MemSized abstract_sets m
      → IfLeft (Kept m) (after_statement rows s m)
  statement_kept Null m keeps sized = unchanged m sized
  statement_kept (Store to value) m keeps sized =
      keeps_on (IsValue 32) (Kept m) (value_at rows m to) (λ at. goes_on (value_at rows m value) (stored_through rows m at)) (value_sized table rows m sized k to 32 keeps.address)
      (λ at of_at. keeps_on (IsValue keeps.stored.size) (Kept m) (value_at rows m value) (stored_through rows m at)
      (value_sized table rows m sized k value keeps.stored.size keeps.stored.value_has)
      (λ v of_v. stored_kept rows m at v keeps.stored.size sized (cell_size keeps.stored.size keeps.stored.cell) of_v))

  -- and so do statements
  pub statements_kept : (ss : List NumberedStatement) (m : Mem abstract_sets) → All (KeepsStatement table k) ss
      → MemSized abstract_sets m → IfLeft (Kept m) (after_statements rows ss m)
  statements_kept [] m keeps sized = unchanged m sized
  statements_kept (s ∷ ss) m keeps sized =
      keeps_on (Kept m) (Kept m) (after_statement rows s m) (λ next. after_statements rows ss next)
      (statement_kept s m (All-head (KeepsStatement table k) s ss keeps) sized)
      (λ next kept. further next kept (after_statements rows ss next).left (statements_kept ss next (All-tail (KeepsStatement table k) s ss keeps) kept.sized))
    where
      further : (next : Mem abstract_sets) → Kept m next → (o : Option (Mem abstract_sets)) → IfSome o (Kept next)
          → IfSome o (Kept m)
      further next kept None more = tt
      further next kept (Some last) more = kept_on m next last kept more

-- ---- stores

module _ (Sharp : Type 0) (rows : List FrameShape) where
  some_possible : {A : Type 0} (cells : List (ℕ × ℕ)) (a : A) → cells ≢ [] → where_possible cells a ≡ Some a
  some_possible [] a some = absurd (some refl)
  some_possible (cell ∷ cells) a some = refl

  stored_sound : (history after : List RunEvent) (value : Value) (r : Result Address RunFault) → IsSoundHistory history
      → FitsValue (size_of value) value → stored_run history value r ≡ Ok after → IsSoundHistory after
  stored_sound history after value (Ok address) sound fits e =
      let same : RunEvent.Store address.frame address.offset (size_of value) value ∷ history ≡ after = cc in subst IsSoundHistory same (fits, sound)
  stored_sound history after value (Err fault) sound fits e = cc

  -- a store through an address that is covered is told, at the value's own size
  store_by : (m : Mem abstract_sets) (history : List RunEvent) (at v : AbstractValue) (place value : Value)
      → Stands Sharp rows m history → IsCell (size_of value)
      → IsValue 32 at → ValueTold Sharp at place → IsValue (size_of value) v → ValueTold Sharp v value → FitsValue (size_of value) value
      → Answers Sharp (Stands Sharp rows) (stored_by rows m at v (size_of value)) (store rows history place value)
  store_by m history at v place value stands is of_at at_told of_v v_told fits = go (store rows history place value) refl
    where
      go : (r : Result (List RunEvent) RunFault) → store rows history place value ≡ r
          → Answers Sharp (Stands Sharp rows) (stored_by rows m at v (size_of value)) r
      go (Ok after) e =
          let both = stores_at rows m history after at v place value stands.sound stands.sized stands.covers is of_at of_v fits at_told.covers v_told.covers e in
          let sharp_both = λ (sharp : Sharp). stores_only rows m history after at v place value stands.sound stands.sized (stands.sharp sharp) is of_at of_v fits (at_told.only sharp) (v_told.only sharp) e in
          record {
            value = stored_at rows m at (size_of value) v;
            is = some_possible (cells_of rows m.runs at.places (size_of value)) (stored_at rows m at (size_of value) v) both.1;
            holds = record {
              sound = stored_sound history after value (address_of rows history place (size_of value)) stands.sound fits e;
              sized = store_sized abstract_sets abstract_is_sets m (cells_of rows m.runs at.places (size_of value)) (size_of value) v stands.sized is of_v;
              covers = both.0;
              sharp = λ sharp. (sharp_both sharp).0;
            };
            none = λ sharp fault told. (sharp_both sharp).1 fault (address_from rows m.runs at (size_of value) fault of_at told);
          }
      go (Err fault) e =
          let only = λ (sharp : Sharp). faults_only rows m history at place value fault (stands.sharp sharp) is of_at (at_told.only sharp) e in
          record {
            told = address_told rows m.runs at (size_of value) fault of_at (faults_at rows m history at place value fault stands.covers at_told.covers e);
            alone = λ sharp. ap (λ (cells : List (ℕ × ℕ)). where_possible cells (stored_at rows m at (size_of value) v)) (only sharp).0;
            one = λ sharp other told. (only sharp).1 other (address_from rows m.runs at (size_of value) other of_at told);
          }

  -- a store through an address that is covered is told
  pub store_told : (m : Mem abstract_sets) (history : List RunEvent) (at v : AbstractValue) (place value : Value) (size : ℕ) → Stands Sharp rows m history → IsCell size
      → IsValue 32 at → ValueTold Sharp at place → IsValue size v → ValueTold Sharp v value → FitsValue size value
      → Answers Sharp (Stands Sharp rows) (stored_through rows m at v) (store rows history place value)
  store_told m history at v place value size stands is of_at at_told of_v v_told fits =
      let own : size ≡ size_of value = sym (own_size size value fits) in
      subst (λ (s : ℕ). Answers Sharp (Stands Sharp rows) (stored_by rows m at v s) (store rows history place value)) (sym (width_is size v of_v ∙ own))
      (store_by m history at v place value stands (subst IsCell own is) of_at at_told (subst (λ (s : ℕ). IsValue s v) own of_v) v_told (own_fits size value fits))

  -- ---- statements

  module _ (table : List FrameRow) (k : ℕ) (sizes : ValueHasSize) where
    -- what is left of an expression
    of_left : (P : AbstractValue → Type 0) (r : Remains AbstractValue) (a : AbstractValue) → IfLeft P r
        → r.left ≡ Some a → P a
    of_left P r a kept is = subst (λ (o : Option AbstractValue). IfSome o P) is kept

    after_both : (m : Mem abstract_sets) (history : List RunEvent) (to value : NumberedExpression) (size : ℕ)
        → Stands Sharp rows m history → IsCell size
        → HasSize table k 32 to → HasSize table k size value → (first second : Result Value RunFault) → value_of rows history value ≡ second
        → Answers Sharp (ValueTold Sharp) (value_at rows m to) first → Answers Sharp (ValueTold Sharp) (value_at rows m value) second
        → Answers Sharp (Stands Sharp rows) (goes_on (value_at rows m to) (λ at. goes_on (value_at rows m value) (stored_through rows m at))) (runs.after_store rows history first second)
    after_both m history to value size stands is has_to has_value (Err fault) second e to_told value_answers =
        fault_stops Sharp (value_at rows m to) (λ at. goes_on (value_at rows m value) (stored_through rows m at)) fault to_told
    after_both m history to value size stands is has_to has_value (Ok place) (Err fault) e to_told value_answers =
        answers_on Sharp (λ at. ValueTold Sharp at place) (Stands Sharp rows) (value_at rows m to) (λ at. goes_on (value_at rows m value) (stored_through rows m at)) (Err fault) to_told
        (λ at at_is at_told. fault_stops Sharp (value_at rows m value) (stored_through rows m at) fault value_answers)
    after_both m history to value size stands is has_to has_value (Ok place) (Ok given) e to_told value_answers =
        answers_on Sharp (λ at. ValueTold Sharp at place) (Stands Sharp rows) (value_at rows m to) (λ at. goes_on (value_at rows m value) (stored_through rows m at)) (store rows history place given) to_told
        (λ at at_is at_told.
        answers_on Sharp (λ v. ValueTold Sharp v given) (Stands Sharp rows) (value_at rows m value) (stored_through rows m at) (store rows history place given) value_answers
        (λ v v_is v_told.
        store_told m history at v place given size stands is
        (of_left (IsValue 32) (value_at rows m to) at (value_sized table rows m stands.sized k to 32 has_to) at_is) at_told
        (of_left (IsValue size) (value_at rows m value) v (value_sized table rows m stands.sized k value size has_value) v_is) v_told
        (sizes table k size value rows history given has_value stands.sound e)))

    -- the history after a statement is covered, or the fault told
    pub statement_told : (s : NumberedStatement) (m : Mem abstract_sets) (history : List RunEvent)
        → KeepsStatement table k s → Stands Sharp rows m history
        → Answers Sharp (Stands Sharp rows) (after_statement rows s m) (runs.after_statement rows s history)
    statement_told Null m history keeps stands = all_told Sharp (λ n. Stands Sharp rows n history) m stands
    statement_told (Store to value) m history keeps stands =
        after_both m history to value keeps.stored.size stands (cell_size keeps.stored.size keeps.stored.cell) keeps.address keeps.stored.value_has
        (value_of rows history to) (value_of rows history value) refl
        (value_told Sharp rows m history stands table k to 32 keeps.address)
        (value_told Sharp rows m history stands table k value keeps.stored.size keeps.stored.value_has)

    then_statements : (s : NumberedStatement) (ss : List NumberedStatement) (m : Mem abstract_sets) (history : List RunEvent)
        → ((n : Mem abstract_sets) (next : List RunEvent) → Stands Sharp rows n next → Answers Sharp (Stands Sharp rows) (after_statements rows ss n) (runs.after_statements rows ss (Ok next)))
        → (r : Result (List RunEvent) RunFault) → Answers Sharp (Stands Sharp rows) (after_statement rows s m) r
        → Answers Sharp (Stands Sharp rows) (goes_on (after_statement rows s m) (λ n. after_statements rows ss n)) (runs.after_statements rows ss r)
    then_statements s ss m history rest (Ok next) told =
        answers_on Sharp (λ n. Stands Sharp rows n next) (Stands Sharp rows) (after_statement rows s m) (λ n. after_statements rows ss n) (runs.after_statements rows ss (Ok next)) told
        (λ n n_is n_stands. rest n next n_stands)
    then_statements s ss m history rest (Err fault) told = fault_stops Sharp (after_statement rows s m) (λ n. after_statements rows ss n) fault told

    -- and so after statements in order
    pub statements_told : (ss : List NumberedStatement) (m : Mem abstract_sets) (history : List RunEvent)
        → All (KeepsStatement table k) ss → Stands Sharp rows m history
        → Answers Sharp (Stands Sharp rows) (after_statements rows ss m) (runs.after_statements rows ss (Ok history))
    statements_told [] m history keeps stands = all_told Sharp (λ n. Stands Sharp rows n history) m stands
    statements_told (s ∷ ss) m history keeps stands =
        then_statements s ss m history (λ n next more. statements_told ss n next (All-tail (KeepsStatement table k) s ss keeps) more) (runs.after_statement rows s history)
        (statement_told s m history (All-head (KeepsStatement table k) s ss keeps) stands)
