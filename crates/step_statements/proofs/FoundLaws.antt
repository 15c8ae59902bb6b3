-- What code finds is what remains.
--   union_none, union_assoc   unions of faults
--   two_told, three_told      what comes after two or three operands, with their faults united
--   three_end                 after three of which the last has no value
--   load_found                a value and its faults, as a load gives them
--   load_told                 the answer of a load
--   first_found               a value before those of the rest
--   store_told                a memory and its faults, as a store gives them
--   next_statements           one statement more, and then those that are left
use Rattle.std.specs.Prelude.{◌||◌, ◌↔◌, IfOk, OnOk, if◌then◌else◌}
use Rattle.std.proofs.Common.{◌≡◌, ◌≢◌, ℕ, Bool, true, false, List, [], ◌∷◌, map, Option, Some, None, Result, Ok, Err, IsTrue, refl, sym, ap, subst, ◌∙◌}
use Rattle.alf_ops.specs.declared.history.RunFault.{RunFault}
use Rattle.alf_ops.specs.declared.history.FrameShape.{FrameShape}
use Rattle.alf_check.specs.declared.rows.Act.{Act}
use Rattle.alf_check.specs.CheckedPrograms.{act_of}
use Rattle.domain_core.specs.declared.fault_set.FaultSet.{FaultSet}
use Rattle.domain_core.specs.FaultSets.{has_fault, no_faults, either}
use Rattle.pointer_rules.specs.AbstractValues.{AbstractValue}
use Rattle.pointer_rules.specs.Covering.{IsValue}
use Rattle.memory_rules.specs.Memories.{Mem, joined_values}
use Rattle.memory_rules.specs.Addresses.{cells_of, load_at, stored_at, IsAddressFault, IsLoadFault}
use Rattle.memory_rules.specs.AbstractSets.{abstract_sets}
use Rattle.transfer_rules.specs.Remains.{Remains, all_left, with_faults, goes_on}
use Rattle.transfer_rules.specs.Evaluating.{loaded, before, width_of}
use Rattle.transfer_rules.specs.Doing.{where_possible, stored_by, stored_through, after_statement, after_statements}
use Rattle.transfer_rules.specs.FaultFormLaws.{loaded_faults, stored_faults}
use Rattle.step_statements.specs.Found.{done, found, two_operands, three_operands}

or_false : (a : Bool) → (a || false) ≡ a
or_false true = refl
or_false false = refl

or_assoc : (a b c : Bool) → (a || (b || c)) ≡ ((a || b) || c)
or_assoc true b c = refl
or_assoc false b c = refl

pub union_none : (a : FaultSet) → either a no_faults ≡ a
union_none a = λ i. record {
  divide = or_false a.divide i;
  uninit = or_false a.uninit i;
  mixed = or_false a.mixed i;
  bounds = or_false a.bounds i;
  dead = or_false a.dead i;
  kind = or_false a.kind i;
  pointers = or_false a.pointers i;
}

pub union_assoc : (a b c : FaultSet) → either a (either b c) ≡ either (either a b) c
union_assoc a b c = λ i. record {
  divide = or_assoc a.divide b.divide c.divide i;
  uninit = or_assoc a.uninit b.uninit c.uninit i;
  mixed = or_assoc a.mixed b.mixed c.mixed i;
  bounds = or_assoc a.bounds b.bounds c.bounds i;
  dead = or_assoc a.dead b.dead c.dead i;
  kind = or_assoc a.kind b.kind c.kind i;
  pointers = or_assoc a.pointers b.pointers c.pointers i;
}

-- what remains, by its parts
pub remains_is : {A : Type 0} (left other : Option A) (faults more : FaultSet) → left ≡ other → faults ≡ more
    → (let r : Remains A = record { left = left; faults = faults } in r) ≡ record { left = other; faults = more }
remains_is left other faults more same same_faults = λ i. record { left = same i; faults = same_faults i }

-- ---- operands

-- a value before those of the rest
pub first_found : (value : AbstractValue) (values : List AbstractValue) (faults more : FaultSet)
    → (let r : Remains (List AbstractValue) = record { left = Some (value ∷ values); faults = either faults more } in r)
    ≡ goes_on (record { left = Some value; faults = faults }) (before (record { left = Some values; faults = more }))
first_found value values faults more =
    remains_is (Some (value ∷ values)) (Some (value ∷ values)) (either faults more) (either faults (either more no_faults)) refl (ap (either faults) (sym (union_none more)))

-- what comes after two operands
pub two_told : {B : Type 0} (x y : AbstractValue) (f g both : FaultSet) (further : List AbstractValue → Remains B)
    → both ≡ either f g
    → with_faults both (further (x ∷ y ∷ [])) ≡ goes_on (two_operands (record { left = Some x; faults = f }) (record { left = Some y; faults = g })) further
two_told x y f g both further is =
    ap (λ (s : FaultSet). with_faults s (further (x ∷ y ∷ []))) (is ∙ ap (either f) (sym (union_none (either g no_faults) ∙ union_none g)))

-- and after three
pub three_told : {B : Type 0} (x y z : AbstractValue) (f g h both all : FaultSet) (further : List AbstractValue → Remains B) → both ≡ either f g → all ≡ either both h
    → with_faults all (further (x ∷ y ∷ z ∷ [])) ≡ goes_on (three_operands (record { left = Some x; faults = f }) (record { left = Some y; faults = g }) (record { left = Some z; faults = h })) further
three_told x y z f g h both all further is united =
    let last : either (either h no_faults) no_faults ≡ h = union_none (either h no_faults) ∙ union_none h in
    let later : either (either g (either (either h no_faults) no_faults)) no_faults ≡ either g h = union_none (either g (either (either h no_faults) no_faults)) ∙ ap (either g) last in
    ap (λ (s : FaultSet). with_faults s (further (x ∷ y ∷ z ∷ [])))
    (united ∙ (ap (λ (s : FaultSet). either s h) is ∙ (sym (union_assoc f g h) ∙ ap (either f) (sym later))))

-- and after three of which the last has no value
pub three_end : {B : Type 0} (x y : AbstractValue) (f g h both all : FaultSet) (further : List AbstractValue → Remains B) → both ≡ either f g → all ≡ either both h
    → (let r : Remains B = record { left = None; faults = all } in r)
    ≡ goes_on (three_operands (record { left = Some x; faults = f }) (record { left = Some y; faults = g }) (record { left = None; faults = h })) further
three_end {B} x y f g h both all further is united =
    ap (λ (s : FaultSet). let r : Remains B = record { left = None; faults = s } in r) (united ∙ (ap (λ (s : FaultSet). either s h) is ∙ sym (union_assoc f g h)))

-- ---- loads

-- a value and its faults, as a load gives them
pub load_found : (rows : List FrameShape) (m : Mem abstract_sets) (size : ℕ) (at : AbstractValue) (faults more : FaultSet) (value : Option AbstractValue) → IsValue 32 at
    → value ≡ joined_values abstract_sets None (load_at rows m at size)
    → ((fault : RunFault) → (has_fault more fault ≡ true) ↔ IsLoadFault rows m at size fault)
    → (let r : Remains AbstractValue = record { left = value; faults = either faults more } in r) ≡ goes_on (record { left = Some at; faults = faults }) (loaded rows m size)
load_found rows m size at faults more value is same each =
    remains_is value (joined_values abstract_sets None (load_at rows m at size)) (either faults more) (either faults (loaded rows m size at).faults) same
    (ap (either faults) (loaded_faults rows m size at more is each))

-- the answer of a load
pub load_told : {E : Type 0} (rows : List FrameShape) (m : Mem abstract_sets) (size : ℕ) (at : AbstractValue) (r : Result (Option AbstractValue × FaultSet) E) → IsValue 32 at
    → IfOk r (λ loaded. loaded.0 ≡ joined_values abstract_sets None (load_at rows m at size))
    → IfOk r (λ loaded. (fault : RunFault) → (has_fault loaded.1 fault ≡ true) ↔ IsLoadFault rows m at size fault)
    → IfOk r (λ answer. found answer ≡ goes_on (all_left at) (loaded rows m size))
load_told rows m size at (Ok answer) is value each = load_found rows m size at no_faults answer.1 answer.0 is value each
load_told rows m size at (Err e) is value each = tt

-- ---- stores

possible_is : {A : Type 0} (cells : List (ℕ × ℕ)) (a : A) (on : Bool) → IsTrue on ↔ (cells ≢ [])
    → (if on then Some a else None) ≡ where_possible cells a
possible_is [] a true is = absurd (is.0 refl refl)
possible_is [] a false is = refl
possible_is (cell ∷ cells) a true is = refl
possible_is (cell ∷ cells) a false is = let on : IsTrue false = is.1 (λ e. some_cell cell cells e) in cc
  where
    some_cell : (c : ℕ × ℕ) (rest : List (ℕ × ℕ)) → c ∷ rest ≡ [] → ⊥
    some_cell c rest e = cc

-- a memory and its faults, as a store gives them
store_done : (rows : List FrameShape) (m new : Mem abstract_sets) (width : ℕ) (at v : AbstractValue) (on : Bool) (faults : FaultSet) → IsValue 32 at → width ≡ width_of v
    → new ≡ stored_at rows m at width v
    → IsTrue on ↔ (cells_of rows m.runs at.places width ≢ [])
    → ((fault : RunFault) → (has_fault faults fault ≡ true) ↔ IsAddressFault rows m.runs at width fault)
    → done (on, faults) new ≡ stored_through rows m at v
store_done rows m new width at v on faults is own stored possible each =
    subst (λ (w : ℕ). done (on, faults) new ≡ stored_by rows m at v w) own
    (remains_is (if on then Some new else None) (where_possible (cells_of rows m.runs at.places width) (stored_at rows m at width v)) faults (stored_by rows m at v width).faults
    (ap (λ (n : Mem abstract_sets). if on then Some n else None) stored ∙ possible_is (cells_of rows m.runs at.places width) (stored_at rows m at width v) on possible)
    (stored_faults rows m.runs width at faults is each))

-- the answer of a store
pub store_told : {E : Type 0} (rows : List FrameShape) (m new : Mem abstract_sets) (width : ℕ) (at v : AbstractValue) (r : Result (Bool × FaultSet) E) → IsValue 32 at → width ≡ width_of v
    → OnOk r (new ≡ stored_at rows m at width v)
    → IfOk r (λ answer. IsTrue answer.0 ↔ (cells_of rows m.runs at.places width ≢ []))
    → IfOk r (λ answer. (fault : RunFault) → (has_fault answer.1 fault ≡ true) ↔ IsAddressFault rows m.runs at width fault)
    → IfOk r (λ answer. done answer new ≡ stored_through rows m at v)
store_told rows m new width at v (Ok answer) is own stored possible each = store_done rows m new width at v answer.0 answer.1 is own stored possible each
store_told rows m new width at v (Err e) is own stored possible each = tt

-- ---- statements in order

-- it goes on with what is left
pub goes_further : {A B : Type 0} (faults more : FaultSet) (a : A) (r : Remains A) (further : A → Remains B)
    → r ≡ record { left = Some a; faults = more }
    → with_faults faults (goes_on r further) ≡ with_faults (either faults more) (further a)
goes_further faults more a r further is =
    ap (λ r. with_faults faults (goes_on r further)) is
    ∙ remains_is (further a).left (further a).left (either faults (either more (further a).faults)) (either (either faults more) (further a).faults) refl (union_assoc faults more (further a).faults)

-- one statement more, and then those that are left
pub next_statements : (rows : List FrameShape) (m later : Mem abstract_sets) (rest others : List Act) (act : Act) (faults more joined : FaultSet) (all : Remains (Mem abstract_sets)) → rest ≡ act ∷ others
    → joined ≡ either faults more → after_statement rows (act_of act) m ≡ record { left = Some later; faults = more }
    → with_faults faults (after_statements rows (map act_of rest) m) ≡ all → with_faults joined (after_statements rows (map act_of others) later) ≡ all
next_statements rows m later rest others act faults more joined all cons union is so_far =
    ap (λ (f : FaultSet). with_faults f (after_statements rows (map act_of others) later)) union
    ∙ sym (goes_further faults more later (after_statement rows (act_of act) m) (λ next. after_statements rows (map act_of others) next) is)
    ∙ subst (λ (acts : List Act). with_faults faults (after_statements rows (map act_of acts) m) ≡ all) cons so_far
