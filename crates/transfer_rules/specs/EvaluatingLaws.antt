-- What expressions give over an abstract memory tells what they give in a run.
--   cell_size, word_size       sizes as the crates name them
--   value_sized, values_sized, arguments_sized   what is left has its size
--   load_told                  a load through an address that is covered is told
--   value_told, values_told, arguments_told      the value of the run is covered, or its fault told
use Rattle.std.specs.Prelude.{IsSomeAnd, IfSome, if◌then◌else◌, IsSome}
use Rattle.std.proofs.Common.{◌≡◌, ℕ, Bool, true, List, [], ◌∷◌, map, Option, Some, None, Result, Ok, Err, ◌<◌, ◌^◌, inl, inr, refl, sym, subst, arith}
use Rattle.std.specs.List.{AllZip}
use Rattle.lists.specs.TestLaws.{by_test}
use Rattle.alf_ops.specs.declared.operator.Op.{Op}
use Rattle.alf_ops.specs.declared.history.Value.{Value}
use Rattle.alf_ops.specs.declared.history.Value.TheVariants.{Int, Ptr}
use Rattle.alf_ops.specs.declared.history.RunFault.{RunFault}
use Rattle.alf_ops.specs.declared.history.FrameShape.{FrameShape}
use Rattle.alf_ops.specs.declared.history.RunEvent.{RunEvent}
use Rattle.alf_ops.specs.Table.{result_size, size_of_result, operand_sizes, layout_of, is_written_so}
use Rattle.alf_ops.specs.Histories.{load}
use Rattle.alf_ops.specs.Pointers.{outcome, operands, outcome_of_operands, before as before_run}
use Rattle.alf_program.specs.Tree.{NumberedExpression, NumberedExpressions, Number, Address, Load, Apply, Empty, With}
use Rattle.alf_check.specs.declared.rows.FrameRow.{FrameRow}
use Rattle.alf_check.specs.Kept.{IsSize, IsCellSize, HasSize, HaveSizes, ArgumentKeeps}
use Rattle.alf_runs.specs.Expressions.{load_from, value_of, results_of}
use Rattle.domain_core.specs.FaultSets.{has_fault}
use Rattle.domain_core.specs.WordSets.{IsWordSize}
use Rattle.pointer_rules.specs.AbstractValues.{AbstractValue, Covers, OnlyCovers as OneCovers}
use Rattle.pointer_rules.specs.Covering.{IsValue, Tells, OnlyTells}
use Rattle.pointer_rules.specs.Choices.{Outcome, applied}
use Rattle.pointer_rules.specs.ApplyLaws.{applied_is, applied_tells, applied_only}
use Rattle.memory_rules.specs.ValueSets.{OnlyCovers}
use Rattle.memory_rules.specs.Covers.{IsCellSize as IsCell}
use Rattle.memory_rules.specs.Memories.{Mem, joined_values, faults_of, MemSized}
use Rattle.memory_rules.specs.Frames.{either as either_value}
use Rattle.memory_rules.specs.AboveLaws.{either_alike}
use Rattle.memory_rules.specs.Addresses.{cells_of, load_at, IsLoadFault, TellsLoad, TellsOnly}
use Rattle.memory_rules.specs.AbstractSets.{abstract_sets}
use Rattle.memory_rules.specs.AbstractSetLaws.{abstract_is_sets}
use Rattle.memory_rules.specs.AddressLaws.{loads_at}
use Rattle.memory_rules.specs.AddressSharpLaws.{loads_only}
use Rattle.memory_rules.specs.Gathered.{EachSized}
use Rattle.memory_rules.specs.GatheredLaws.{all_results_sized}
use Rattle.transfer_rules.specs.Remains.{Remains, all_left, goes_on}
use Rattle.transfer_rules.specs.AddressFaults.{fault_set, address_faults}
use Rattle.transfer_rules.specs.Evaluating.{word_value, pointer_value, loaded, remains_of, operated, before, value_at, values_at, arguments_at}
use Rattle.transfer_rules.specs.RemainsLaws.{HasNone, HasOnly, LeftTold, Answers, IfLeft, no_fault, one_alone, in_either, in_first, in_second, in_set, from_set, all_told, left_on, fault_on, fault_stops, answers_on, keeps_on}
use Rattle.transfer_rules.specs.AddressFaultLaws.{address_told, address_from}
use Rattle.transfer_rules.specs.Standing.{Stands, ValueTold, AllTold}
use Rattle.transfer_rules.specs.StandingLaws.{one_of, as_one, word_is, word_told, pointer_is, pointer_told}

-- ---- sizes

pub cell_size : (size : ℕ) → IsCellSize size → IsCell size
cell_size size cell = let least = cell.least in (omega (arith, least), cell.bytes, cell.most)

pub word_size : (size : ℕ) → IsSize size → IsWordSize size
word_size size is = record { least = is.some; most = is.most }

size_of_row : (test : Bool) (found size : ℕ) → (if test then Some found else None) ≡ (let o : Option ℕ = Some size in o)
    → found ≡ size
size_of_row test found size is = by_test test
    (λ typed. let e : Some found ≡ (let o : Option ℕ = Some size in o) = rw typed at is in cc)
    (λ other. let e : None ≡ (let o : Option ℕ = Some size in o) = rw other at is in cc)

pub result_has : (op : Op) (sizes : List ℕ) (size : ℕ) → result_size op sizes ≡ Some size
    → size_of_result op sizes ≡ size
result_has op sizes size is = size_of_row (is_written_so (layout_of op) sizes) (size_of_result op sizes) size is

has_result : (op : Op) (sizes : List ℕ) (size : ℕ) → result_size op sizes ≡ Some size → IsSome (result_size op sizes)
has_result op sizes size is = subst (λ (o : Option ℕ). IsSome o) (sym is) refl

joined_sized : (size : ℕ) (before : Option AbstractValue) (rs : List (Result AbstractValue RunFault))
    → IfSome before (IsValue size) → EachSized abstract_sets size rs
    → IfSome (joined_values abstract_sets before rs) (IsValue size)
joined_sized size before [] is each = is
joined_sized size before (Ok set ∷ rs) is each =
    joined_sized size (either_value abstract_sets.join before (Some set)) rs
    (either_alike abstract_sets.join (IsValue size) (IsValue size) (λ x y. abstract_is_sets.joined_sized x y size) before (Some set) is each.0) each.1
joined_sized size before (Err fault ∷ rs) is each = joined_sized size before rs is each

-- a load has its size
pub loaded_sized : (rows : List FrameShape) (m : Mem abstract_sets) (size : ℕ) (at : AbstractValue)
    → MemSized abstract_sets m → IsCell size → IfLeft (IsValue size) (loaded rows m size at)
loaded_sized rows m size at sized is =
    joined_sized size None (load_at rows m at size) tt (all_results_sized abstract_sets abstract_is_sets m size is sized (cells_of rows m.runs at.places size))

module _ (table : List FrameRow) (rows : List FrameShape) (m : Mem abstract_sets) (sized : MemSized abstract_sets m) (k : ℕ) where
  mutual
    -- what is left of an expression has its size
    pub value_sized : (e : NumberedExpression) (size : ℕ) → HasSize table k size e
        → IfLeft (IsValue size) (value_at rows m e)
    value_sized (Number num) size has =
        subst (λ (s : ℕ). IsValue s (word_value num.size num.bits)) has.same
        (word_is num.size num.bits (word_size num.size (subst IsSize (sym has.same) has.sized)) (subst (λ (s : ℕ). num.bits < 2 ^ s) (sym has.same) has.fits))
    value_sized (Address frame offset) size has = subst (λ (s : ℕ). IsValue s (pointer_value frame offset)) has.same (pointer_is frame offset has.offset_fits)
    value_sized (Load bits at) size has =
        subst (λ (s : ℕ). IfLeft (IsValue s) (value_at rows m (Load bits at))) has.same
        (keeps_on (IsValue 32) (IsValue bits) (value_at rows m at) (loaded rows m bits) (value_sized at 32 has.address) (λ a is. loaded_sized rows m bits a sized (cell_size bits has.cell)))
    value_sized (Apply op sizes es) size has =
        keeps_on (AllZip IsValue (operand_sizes op sizes)) (IsValue size) (values_at rows m es) (operated op sizes) (values_sized es (operand_sizes op sizes) has.operands)
        (λ vs are. subst (λ (s : ℕ). IfLeft (IsValue s) (operated op sizes vs)) (result_has op sizes size has.result_is)
        (applied_is op sizes vs (has_result op sizes size has.result_is) are))

    pub values_sized : (es : NumberedExpressions) (sizes : List ℕ) → HaveSizes table k sizes es
        → IfLeft (AllZip IsValue sizes) (values_at rows m es)
    values_sized Empty [] have = tt
    values_sized Empty (size ∷ sizes) have = absurd have
    values_sized (With e es) [] have = absurd have
    values_sized (With e es) (size ∷ sizes) have =
        keeps_on (IsValue size) (AllZip IsValue (size ∷ sizes)) (value_at rows m e) (before (values_at rows m es)) (value_sized e size have.0)
        (λ v is. keeps_on (AllZip IsValue sizes) (AllZip IsValue (size ∷ sizes)) (values_at rows m es) (λ vs. all_left (v ∷ vs)) (values_sized es sizes have.1) (λ vs are. (is, are)))

-- ---- loads

module _ (Sharp : Type 0) (rows : List FrameShape) (m : Mem abstract_sets) (history : List RunEvent) (stands : Stands Sharp rows m history) where
  fault_told : (size : ℕ) (at : AbstractValue) (fault : RunFault) → IsValue 32 at → IsLoadFault rows m at size fault
      → has_fault (loaded rows m size at).faults fault ≡ true
  fault_told size at fault is told = elim told [
    | inl a ↦ in_first (address_faults rows m.runs at size) (fault_set (faults_of abstract_sets (load_at rows m at size))) fault (address_told rows m.runs at size fault is a)
    | inr c ↦ in_second (address_faults rows m.runs at size) (fault_set (faults_of abstract_sets (load_at rows m at size))) fault
        (in_set (faults_of abstract_sets (load_at rows m at size)) fault c)
  ]

  fault_from : (size : ℕ) (at : AbstractValue) (fault : RunFault) → IsValue 32 at
      → has_fault (loaded rows m size at).faults fault ≡ true → IsLoadFault rows m at size fault
  fault_from size at fault is told =
      elim (in_either (address_faults rows m.runs at size) (fault_set (faults_of abstract_sets (load_at rows m at size))) fault told) [
        | inl a ↦ inl (address_from rows m.runs at size fault is a)
        | inr c ↦ inr (from_set (faults_of abstract_sets (load_at rows m at size)) fault c)
      ]

  -- a load through an address that is covered is told
  pub load_told : (size : ℕ) (at : AbstractValue) (place : Value) → IsCell size → IsValue 32 at
      → ValueTold Sharp at place
      → Answers Sharp (ValueTold Sharp) (loaded rows m size at) (load rows history place size)
  load_told size at place is of_at told =
      go (load rows history place size) (loads_at rows m history at place size stands.sound stands.sized stands.covers is of_at told.covers)
      (λ sharp. loads_only rows m history at place size stands.sized (stands.sharp sharp) is of_at (told.only sharp))
    where
      left : (value : Value) (o : Option AbstractValue) → joined_values abstract_sets None (load_at rows m at size) ≡ o
          → IsSomeAnd o (λ set. Covers set value)
          → (Sharp → IsSomeAnd o (λ set. OnlyCovers abstract_sets set value)) → (Sharp → HasNone (loaded rows m size at).faults)
          → LeftTold Sharp (λ v. ValueTold Sharp v value) (loaded rows m size at)
      left value None e covers only none = elim covers [ ]
      left value (Some v) e covers only none = record { value = v; is = e; holds = record { covers = covers; only = only }; none = none }

      go : (r : Result Value RunFault) → TellsLoad rows m at size r → (Sharp → TellsOnly rows m at size r)
          → Answers Sharp (ValueTold Sharp) (loaded rows m size at) r
      go (Ok value) covers only =
          left value (joined_values abstract_sets None (load_at rows m at size)) refl covers (λ sharp. (only sharp).0)
          (λ sharp fault e. (only sharp).1 fault (fault_from size at fault of_at e))
      go (Err fault) covers only = record {
        told = fault_told size at fault of_at covers;
        alone = λ sharp. (only sharp).0;
        one = λ sharp other e. (only sharp).2 other (fault_from size at other of_at e);
      }

  -- ---- operators

  all_covers : (vs : List AbstractValue) (values : List Value) → AllTold Sharp vs values → AllZip Covers vs values
  all_covers [] [] told = tt
  all_covers [] (value ∷ values) told = absurd told
  all_covers (v ∷ vs) [] told = absurd told
  all_covers (v ∷ vs) (value ∷ values) told = (told.0.covers, all_covers vs values told.1)

  all_only : Sharp → (vs : List AbstractValue) (values : List Value) → AllTold Sharp vs values
      → AllZip OneCovers vs values
  all_only sharp [] [] told = tt
  all_only sharp [] (value ∷ values) told = absurd told
  all_only sharp (v ∷ vs) [] told = absurd told
  all_only sharp (v ∷ vs) (value ∷ values) told = (as_one v value (told.0.only sharp), all_only sharp vs values told.1)

  outcome_told : (out : Outcome) (r : Result Value RunFault) → Tells out r → (Sharp → OnlyTells out r)
      → Answers Sharp (ValueTold Sharp) (remains_of out) r
  outcome_told out (Ok value) tells only = left out.value refl tells (λ sharp. (only sharp).0)
    where
      left : (o : Option AbstractValue) → out.value ≡ o → IsSomeAnd o (λ v. Covers v value)
          → (Sharp → IsSomeAnd o (λ v. OneCovers v value))
          → LeftTold Sharp (λ v. ValueTold Sharp v value) (remains_of out)
      left None e covers one = elim covers [ ]
      left (Some v) e covers one = record {
        value = v;
        is = e;
        holds = record { covers = covers; only = λ sharp. one_of v value (one sharp) };
        none = λ sharp. subst HasNone (sym (only sharp).1) no_fault;
      }
  outcome_told out (Err fault) tells only = record {
    told = tells;
    alone = λ sharp. (only sharp).0;
    one = λ sharp. subst (λ set. HasOnly set fault) (sym (only sharp).1) (one_alone fault);
  }

  operated_told : (op : Op) (sizes : List ℕ) (size : ℕ) (vs : List AbstractValue) (values : List Value)
      → result_size op sizes ≡ Some size → AllZip IsValue (operand_sizes op sizes) vs
      → AllTold Sharp vs values → Answers Sharp (ValueTold Sharp) (operated op sizes vs) (outcome op sizes values)
  operated_told op sizes size vs values typed are told =
      outcome_told (applied op sizes vs) (outcome op sizes values) (applied_tells op sizes vs values (has_result op sizes size typed) are (all_covers vs values told))
      (λ sharp. applied_only op sizes vs values (has_result op sizes size typed) are (all_only sharp vs values told))

  -- ---- operands

  row_told : (first : Remains AbstractValue) (rest : Remains (List AbstractValue)) (r : Result Value RunFault) (rs : List (Result Value RunFault))
      → Answers Sharp (ValueTold Sharp) first r → Answers Sharp (AllTold Sharp) rest (operands rs)
      → Answers Sharp (AllTold Sharp) (goes_on first (before rest)) (operands (r ∷ rs))
  row_told first rest (Err fault) rs told more = fault_stops Sharp first (before rest) fault told
  row_told first rest (Ok value) rs told more = go (operands rs) more
    where
      go : (o : Result (List Value) RunFault) → Answers Sharp (AllTold Sharp) rest o
          → Answers Sharp (AllTold Sharp) (goes_on first (before rest)) (before_run value o)
      go (Ok values) more =
          left_on Sharp (λ v. ValueTold Sharp v value) (λ vs. AllTold Sharp vs (value ∷ values)) first (before rest) told
          (left_on Sharp (λ vs. AllTold Sharp vs values) (λ vs. AllTold Sharp vs (value ∷ values)) rest (λ vs. all_left (told.value ∷ vs)) more
          (all_told Sharp (λ vs. AllTold Sharp vs (value ∷ values)) (told.value ∷ more.value) (told.holds, more.holds)))
      go (Err fault) more =
          fault_on Sharp (λ v. ValueTold Sharp v value) first (before rest) fault told (fault_stops Sharp rest (λ vs. all_left (told.value ∷ vs)) fault more)

  -- ---- expressions

  kept_value : {A : Type 0} (P : A → Type 0) (r : Remains A) (a : A) → IfLeft P r → r.left ≡ Some a → P a
  kept_value {A} P r a kept is = subst (λ (o : Option A). IfSome o P) is kept

  from_address : (size : ℕ) (at : Remains AbstractValue) (r : Result Value RunFault) → IsCell size
      → IfLeft (IsValue 32) at → Answers Sharp (ValueTold Sharp) at r
      → Answers Sharp (ValueTold Sharp) (goes_on at (loaded rows m size)) (load_from rows history size r)
  from_address size at (Ok place) is kept told =
      answers_on Sharp (λ v. ValueTold Sharp v place) (ValueTold Sharp) at (loaded rows m size) (load rows history place size) told
      (λ a e holds. load_told size a place is (kept_value (IsValue 32) at a kept e) holds)
  from_address size at (Err fault) is kept told = fault_stops Sharp at (loaded rows m size) fault told

  from_operands : (op : Op) (sizes : List ℕ) (size : ℕ) (args : Remains (List AbstractValue)) (r : Result (List Value) RunFault) → result_size op sizes ≡ Some size
      → IfLeft (AllZip IsValue (operand_sizes op sizes)) args → Answers Sharp (AllTold Sharp) args r
      → Answers Sharp (ValueTold Sharp) (goes_on args (operated op sizes)) (outcome_of_operands op sizes r)
  from_operands op sizes size args (Ok values) typed kept told =
      answers_on Sharp (λ vs. AllTold Sharp vs values) (ValueTold Sharp) args (operated op sizes) (outcome op sizes values) told
      (λ vs e holds. operated_told op sizes size vs values typed (kept_value (AllZip IsValue (operand_sizes op sizes)) args vs kept e) holds)
  from_operands op sizes size args (Err fault) typed kept told = fault_stops Sharp args (operated op sizes) fault told

  module _ (table : List FrameRow) (k : ℕ) where
    mutual
      -- the value of the run is covered, or its fault told
      pub value_told : (e : NumberedExpression) (size : ℕ) → HasSize table k size e
          → Answers Sharp (ValueTold Sharp) (value_at rows m e) (value_of rows history e)
      value_told (Number num) size has =
          all_told Sharp (λ v. ValueTold Sharp v (Int num.size num.bits)) (word_value num.size num.bits)
          (word_told Sharp num.size num.bits (word_size num.size (subst IsSize (sym has.same) has.sized)) (subst (λ (s : ℕ). num.bits < 2 ^ s) (sym has.same) has.fits))
      value_told (Address frame offset) size has =
          all_told Sharp (λ v. ValueTold Sharp v (Ptr frame offset)) (pointer_value frame offset) (pointer_told Sharp frame offset has.offset_fits)
      value_told (Load bits at) size has =
          from_address bits (value_at rows m at) (value_of rows history at) (cell_size bits has.cell) (value_sized table rows m stands.sized k at 32 has.address) (value_told at 32 has.address)
      value_told (Apply op sizes es) size has =
          from_operands op sizes size (values_at rows m es) (operands (results_of rows history es)) has.result_is
          (values_sized table rows m stands.sized k es (operand_sizes op sizes) has.operands) (values_told es (operand_sizes op sizes) has.operands)

      pub values_told : (es : NumberedExpressions) (sizes : List ℕ) → HaveSizes table k sizes es
          → Answers Sharp (AllTold Sharp) (values_at rows m es) (operands (results_of rows history es))
      values_told Empty [] have = all_told Sharp (λ vs. AllTold Sharp vs []) [] tt
      values_told Empty (size ∷ sizes) have = absurd have
      values_told (With e es) [] have = absurd have
      values_told (With e es) (size ∷ sizes) have =
          row_told (value_at rows m e) (values_at rows m es) (value_of rows history e) (results_of rows history es) (value_told e size have.0) (values_told es sizes have.1)

    -- the same of the arguments of a call
    pub arguments_told : (args : List ℕ) (es : List NumberedExpression) → AllZip (ArgumentKeeps table k) args es
        → Answers Sharp (AllTold Sharp) (arguments_at rows m es) (operands (map (value_of rows history) es))
    arguments_told [] [] keep = all_told Sharp (λ vs. AllTold Sharp vs []) [] tt
    arguments_told [] (e ∷ es) keep = absurd keep
    arguments_told (f ∷ args) [] keep = absurd keep
    arguments_told (f ∷ args) (e ∷ es) keep =
        row_told (value_at rows m e) (arguments_at rows m es) (value_of rows history e) (map (value_of rows history) es) (value_told e keep.0.row.bits keep.0.value_has) (arguments_told args es keep.1)

-- the sizes of arguments are those of their frames
pub record ArgumentIs (table : List FrameRow) (k f : ℕ) (v : AbstractValue) : Type 0 where
  pub arg : NumberedExpression
  pub keeps : ArgumentKeeps table k f arg
  pub is : IsValue keeps.row.bits v

pub arguments_sized : (table : List FrameRow) (rows : List FrameShape) (m : Mem abstract_sets)
    → MemSized abstract_sets m → (k : ℕ) (args : List ℕ) (es : List NumberedExpression)
    → AllZip (ArgumentKeeps table k) args es → IfLeft (AllZip (ArgumentIs table k) args) (arguments_at rows m es)
arguments_sized table rows m sized k [] [] keep = tt
arguments_sized table rows m sized k [] (e ∷ es) keep = absurd keep
arguments_sized table rows m sized k (f ∷ args) [] keep = absurd keep
arguments_sized table rows m sized k (f ∷ args) (e ∷ es) keep =
    keeps_on (IsValue keep.0.row.bits) (AllZip (ArgumentIs table k) (f ∷ args)) (value_at rows m e) (before (arguments_at rows m es)) (value_sized table rows m sized k e keep.0.row.bits keep.0.value_has)
    (λ v is. keeps_on (AllZip (ArgumentIs table k) args) (AllZip (ArgumentIs table k) (f ∷ args)) (arguments_at rows m es) (λ vs. all_left (v ∷ vs))
    (arguments_sized table rows m sized k args es keep.1) (λ vs are. (record { arg = e; keeps = keep.0; is = is }, are)))
