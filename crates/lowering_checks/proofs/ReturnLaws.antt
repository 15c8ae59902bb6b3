-- Laws of returns.
--   label_among, label_once   a label that is counted once stands, and no other item is it
--   bits_given o  how many bits a function of this outcome gives, and whether it gives something
--   FirstReturns o items      the items have a first return, which gives as the outcome says
--   first_returns             so have items that stand and end with a return
--   place_at, frame_found     a function and a frame are found by their names where names differ
--   Gives       what a return gives, as the outcome says
--   agrees_as   a call agrees with a return of what its function gives
use Rattle.std.proofs.Common.{◌≡◌, ◌≢◌, ◌<◌, ◌≤◌, ◌+◌, ◌==◌, ◌&&◌, ◌%◌, ℕ, zero, suc, Bool, true, false, not, List, [], ◌∷◌, ◌++◌, slice_get, Contains, Option, None, Some, is_some, refl, sym, ap, ◌∙◌, subst, arith, bytes_eq, if◌then◌else◌, option_map}
use Rattle.std.proofs.lemmas.Option.{none-some, same_Some}
use Rattle.std.proofs.lemmas.Slice.Eq.{bytes_eq-Decides}
use Rattle.lists.specs.TestLaws.{by_test}
use Rattle.lists.specs.MemberLaws.{first_member, further_member}
use Rattle.alf_program.specs.Tree.{NamedExpression, Null, Store, Jump, Switch, Call, Return, BodyItem, Label, Do, Allocation, WholeProgram}
use Rattle.alf_program.specs.Tree as alf
use Rattle.alf_program.specs.Writable.{is_ending, ends_well}
use Rattle.alf_faults.specs.Places.{frame_place, function_place}
use Rattle.alf_faults.specs.declared.returns.FirstReturn.{FirstReturn}
use Rattle.alf_faults.specs.TermSizes.{return_size, is_bytes}
use Rattle.alf_faults.specs.Returns.{return_at, first_return_from, agrees}
use Rattle.alf_faults.specs.Faults.{frame_at}
use Rattle.c_unit.specs.declared.types.Integer.{Integer}
use Rattle.c_unit.specs.declared.types.Integer.TheVariants.{Char, UnsignedChar, Short, UnsignedShort, Int, UnsignedInt}
use Rattle.c_unit.specs.declared.types.Outcome.{Outcome}
use Rattle.c_unit.specs.declared.types.Outcome.TheVariants as outcomes
use Rattle.c_meaning.specs.Values.{bits_of_type}
use Rattle.c_meaning.specs.Objects.{Program, function_at}
use Rattle.lowering_simulation.specs.Counts.{one, count}
use Rattle.lowering_layout.specs.Lists.{EachOf, Apart}
use Rattle.lowering_layout.specs.ListLaws.{each_at}
use Rattle.lowering_layout.specs.PartFrames.{DifferInName}
use Rattle.lowering_checks.proofs.StandingLaws.{ItemStands, ReturnStands, ResultStands}
use Rattle.lowering_checks.specs.Returns.{is_given}

same_text : (a : List ℕ) → bytes_eq a a ≡ true
same_text a = (bytes_eq-Decides a a).1 refl

-- ---- labels

label_here : (label name : List ℕ) (items : List BodyItem) (b : Bool) → bytes_eq label name ≡ b
    → (1 ≤ count name items → Contains items (Label name)) → 1 ≤ one b + count name items
    → Contains (Label label ∷ items) (Label name)
label_here label name items true e rest some = subst (λ (x : List ℕ). Contains (Label label ∷ items) (Label x)) ((bytes_eq-Decides label name).0 e) (first_member (Label label) items)
label_here label name items false e rest some = further_member (Label label) items (Label name) (rest (omega (arith, some)))

-- a label that is counted stands
pub label_among : (name : List ℕ) (items : List BodyItem) → 1 ≤ count name items → Contains items (Label name)
label_among name [] some = absurd (omega (arith, some))
label_among name (Label label ∷ items) some = label_here label name items (bytes_eq label name) refl (λ h. label_among name items h) some
label_among name (Do act ∷ items) some = further_member (Do act) items (Label name) (label_among name items some)

count_further : (name : List ℕ) (x : BodyItem) (items : List BodyItem) → count name items ≤ count name (x ∷ items)
count_further name (Label label) items = omega arith
count_further name (Do act) items = omega arith

counted : (name : List ℕ) (items : List BodyItem) (i : ℕ) → slice_get items i ≡ Some (Label name) → 1 ≤ count name items
counted name [] i at = absurd (none-some (Label name) at)
counted name (x ∷ items) zero at =
    let is : x ≡ Label name = same_Some x (Label name) at in
    subst (λ (y : BodyItem). 1 ≤ count name (y ∷ items)) (sym is) (let first : one (bytes_eq name name) ≡ 1 = ap one (same_text name) in omega (arith, first))
counted name (x ∷ items) (suc i) at = let rest = counted name items i at in let more = count_further name x items in omega (arith, rest, more)

-- no two items are a label that is counted once
pub label_once : (name : List ℕ) (items : List BodyItem) (i j : ℕ) → count name items ≤ 1 → i < j
    → slice_get items i ≡ Some (Label name) → slice_get items j ≡ Some (Label name) → ⊥
label_once name [] i j most low at_i at_j = none-some (Label name) at_i
label_once name (x ∷ items) i zero most low at_i at_j = absurd (omega (arith, low))
label_once name (x ∷ items) zero (suc j) most low at_i at_j =
    let is : x ≡ Label name = same_Some x (Label name) at_i in
    let few : count name (Label name ∷ items) ≤ 1 = subst (λ (y : BodyItem). count name (y ∷ items) ≤ 1) is most in
    let first : one (bytes_eq name name) ≡ 1 = ap one (same_text name) in
    let rest = counted name items j at_j in
    absurd (omega (arith, few, first, rest))
label_once name (x ∷ items) (suc i) (suc j) most low at_i at_j = let more = count_further name x items in label_once name items i j (omega (arith, most, more)) (omega (arith, low)) at_i at_j

-- ---- returns

abbrev pub bits_given : Outcome → ℕ
bits_given outcomes.Nothing = 0
bits_given (outcomes.Integer i) = bits_of_type i

-- what a return gives, as the outcome says
pub record Gives (o : Outcome) (found : FirstReturn) : Type 0 where
  pub has : found.has_value ≡ is_given o
  pub size : found.size ≡ Some (bits_given o)

pub record FirstReturns (o : Outcome) (i : ℕ) (items : List BodyItem) : Type 0 where
  pub found : FirstReturn
  pub first : first_return_from i items ≡ Some found
  pub gives : Gives o found

byte_bits : (i : Integer) → (bits_of_type i % 8 == 0) ≡ true
byte_bits Char = refl
byte_bits UnsignedChar = refl
byte_bits Short = refl
byte_bits UnsignedShort = refl
byte_bits Int = refl
byte_bits UnsignedInt = refl

-- a call agrees with a return of what its function gives
pub agrees_as : (o : Outcome) (found : FirstReturn) → Gives o found → agrees (is_given o) found ≡ true
agrees_as outcomes.Nothing found gives = ap not gives.has
agrees_as (outcomes.Integer i) found gives =
    ap (λ (b : Bool). b && is_bytes found.size) gives.has ∙ ap is_bytes gives.size ∙ byte_bits i

module _ (whole : WholeProgram) (func : alf.Function) (program : Program) (f labels : ℕ) where
  pub return_gives : (o : Outcome) (value : Option NamedExpression) → ReturnStands whole func program f labels o value
      → return_size value ≡ Some (bits_given o)
  return_gives outcomes.Nothing None stands = refl
  return_gives outcomes.Nothing (Some e) stands = absurd stands
  return_gives (outcomes.Integer i) None stands = absurd stands
  return_gives (outcomes.Integer i) (Some e) stands = stands.size

  return_has : (o : Outcome) (value : Option NamedExpression) → ReturnStands whole func program f labels o value
      → is_some value ≡ is_given o
  return_has outcomes.Nothing None stands = refl
  return_has outcomes.Nothing (Some e) stands = absurd stands
  return_has (outcomes.Integer i) None stands = absurd stands
  return_has (outcomes.Integer i) (Some e) stands = refl

  pub result_has : (o : Outcome) (result : Option (List ℕ × ℕ)) → ResultStands whole func program f labels o result
      → is_some result ≡ is_given o
  result_has outcomes.Nothing None stands = refl
  result_has outcomes.Nothing (Some e) stands = absurd stands
  result_has (outcomes.Integer i) None stands = absurd stands
  result_has (outcomes.Integer i) (Some e) stands = refl

  return_here : (i : ℕ) (value : Option NamedExpression) (items : List BodyItem)
      → ReturnStands whole func program f labels (function_at program f).result value
      → FirstReturns (function_at program f).result i (Do (Return value) ∷ items)
  return_here i value items stands = record { found = return_at i value; first = refl; gives = record { has = return_has (function_at program f).result value stands; size = return_gives (function_at program f).result value stands } }

  -- items that stand and end with a return have a first one
  pub first_returns : (i : ℕ) (before : List BodyItem) (value : Option NamedExpression)
      → EachOf (ItemStands whole func program f labels) (before ++ (Do (Return value) ∷ []))
      → FirstReturns (function_at program f).result i (before ++ (Do (Return value) ∷ []))
  first_returns i [] value stand = return_here i value [] stand.0
  first_returns i (Label name ∷ before) value stand = let rest = first_returns (i + 1) before value stand.1 in record { found = rest.found; first = rest.first; gives = rest.gives }
  first_returns i (Do Null ∷ before) value stand = let rest = first_returns (i + 1) before value stand.1 in record { found = rest.found; first = rest.first; gives = rest.gives }
  first_returns i (Do (Store at e) ∷ before) value stand = let rest = first_returns (i + 1) before value stand.1 in record { found = rest.found; first = rest.first; gives = rest.gives }
  first_returns i (Do (Jump name) ∷ before) value stand = let rest = first_returns (i + 1) before value stand.1 in record { found = rest.found; first = rest.first; gives = rest.gives }
  first_returns i (Do (Switch e targets others) ∷ before) value stand = let rest = first_returns (i + 1) before value stand.1 in record { found = rest.found; first = rest.first; gives = rest.gives }
  first_returns i (Do (Call name args result) ∷ before) value stand = let rest = first_returns (i + 1) before value stand.1 in record { found = rest.found; first = rest.first; gives = rest.gives }
  first_returns i (Do (Return given) ∷ before) value stand = return_here i given (before ++ (Do (Return value) ∷ [])) stand.0

pub ends_with : (before : List BodyItem) (last : BodyItem) → is_ending last ≡ true
    → ends_well (before ++ (last ∷ [])) ≡ true
ends_with [] last is = is
ends_with (x ∷ []) last is = is
ends_with (x ∷ y ∷ before) last is = ends_with (y ∷ before) last is

-- ---- places by names

further_place : (b : Bool) (place : Option ℕ) (k : ℕ) → b ≡ false → place ≡ Some k
    → (if b then Some 0 else option_map (λ (n : ℕ). n + 1) place) ≡ Some (suc k)
further_place true place k clear is = absurd (let bad : true ≡ false = clear in cc)
further_place false place k clear is = ap (option_map (λ (n : ℕ). n + 1)) is ∙ ap Some (let one : k + 1 ≡ suc k = omega arith in one)

texts_apart : (a b : List ℕ) → a ≢ b → bytes_eq a b ≡ false
texts_apart a b other = by_test (bytes_eq a b) (λ t. absurd (other ((bytes_eq-Decides a b).0 t))) (λ f. f)

-- a function is found by its name
pub place_at : (fs : List alf.Function) (k : ℕ) (func : alf.Function)
    → Apart (λ (f g : alf.Function). f.name ≢ g.name) fs → slice_get fs k ≡ Some func
    → function_place fs func.name ≡ Some k
place_at [] k func apart at = absurd (none-some func at)
place_at (f ∷ fs) zero func apart at = ap (λ (b : Bool). if b then Some 0 else option_map (λ (n : ℕ). n + 1) (function_place fs func.name)) (subst (λ (x : alf.Function). bytes_eq x.name func.name ≡ true) (sym (same_Some f func at)) (same_text func.name))
place_at (f ∷ fs) (suc k) func apart at =
    further_place (bytes_eq f.name func.name) (function_place fs func.name) k (texts_apart f.name func.name (each_at (λ (g : alf.Function). f.name ≢ g.name) fs k func at apart.0)) (place_at fs k func apart.1 at)

frame_place_at : (frames : List Allocation) (k : ℕ) (frame : Allocation) → Apart DifferInName frames
    → slice_get frames k ≡ Some frame → frame_place frames frame.name ≡ Some k
frame_place_at [] k frame apart at = absurd (none-some frame at)
frame_place_at (f ∷ fs) zero frame apart at = ap (λ (b : Bool). if b then Some 0 else option_map (λ (n : ℕ). n + 1) (frame_place fs frame.name)) (subst (λ (x : Allocation). bytes_eq x.name frame.name ≡ true) (sym (same_Some f frame at)) (same_text frame.name))
frame_place_at (f ∷ fs) (suc k) frame apart at =
    further_place (bytes_eq f.name frame.name) (frame_place fs frame.name) k (texts_apart f.name frame.name (each_at (DifferInName f) fs k frame at apart.0)) (frame_place_at fs k frame apart.1 at)

-- a frame is found by its name
pub frame_found : (frames : List Allocation) (k : ℕ) (frame : Allocation) → Apart DifferInName frames
    → slice_get frames k ≡ Some frame → frame_at frames (frame_place frames frame.name) ≡ Some frame
frame_found frames k frame apart at = ap (frame_at frames) (frame_place_at frames k frame apart at) ∙ at
