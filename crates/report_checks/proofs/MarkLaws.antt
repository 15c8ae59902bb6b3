-- Lines that are gone through once tell what all of them tell of each node.
--   each_once    where no node is named twice, all are marked exactly where each has one `dead` or `total` line
--   not_once     where one is, it has more than one
--   told_is      the faults that are told by alarms are those of the lines
--   first_told   the first that they do not tell is the first that lacks an alarm
--   marks_more, marks_stop   turns of the loops over lines
use Rattle.std.proofs.Common.{◌≡◌, ◌≢◌, ◌<◌, ◌≤◌, ◌+◌, ◌==◌, ◌||◌, ◌&&◌, not, ◌↔◌, ℕ, zero, suc, List, [], ◌∷◌, Bool, true, false, cond, length, replicate, Option, Some, None, All, inl, inr, refl, sym, ap, ◌∙◌, subst, arith}
use Rattle.std.specs.Prelude.{slice_index_or, slice_set, count_by, IfSome, if◌then◌else◌}
use Rattle.std.specs.List.{list_any}
use Rattle.std.proofs.lemmas.Bool.{eqb-true, eq-eqb, ne_eqb}
use Rattle.std.proofs.lemmas.Option.{none-some, same_Some}
use Rattle.std.proofs.lemmas.List.{length-set, get_or-replicate, length-replicate}
use Rattle.std.proofs.lemmas.List.Elements.{All-head, All-tail, All-contains, All-from_get_or, All-get_or}
use Rattle.std.proofs.lemmas.List.Sums.{sum_by-cons}
use Rattle.std.proofs.lemmas.Grind.{common_steps}
use Rattle.graph_walks.specs.ListLaws.{same_or_not}
use Rattle.lists.specs.MemberLaws.{all_members}
use Rattle.lists.specs.TestLaws.{by_test}
use Rattle.domain_core.specs.Outlines.{Outlined, shape_of}
use Rattle.alf_ops.specs.declared.history.RunFault.{RunFault}
use Rattle.alf_ops.specs.declared.history.RunFault.TheVariants.{Divide}
use Rattle.domain_core.specs.declared.fault_set.FaultSet.{FaultSet}
use Rattle.domain_core.specs.FaultSets.{has_fault, no_faults, with_fault}
use Rattle.domain_core.specs.FaultLaws.{is_empty, is_new, is_kept}
use Rattle.flow_facts.specs.declared.fact.Fact.{Fact}
use Rattle.flow_facts.specs.declared.fact.Fact.TheVariants.{Loop, Count, Dead, Total, Pair, Alarm}
use Rattle.flow_facts.specs.Writable.{fault_code}
use Rattle.ipet_rows.specs.Shaped.{FitsOutline}
use Rattle.worklist_rules.specs.Pools.{alarm_at}
use Rattle.report_soundness.specs.CollectedLaws.{node_in}
use Rattle.report_objections.specs.declared.objection.Objection.{Objection}
use Rattle.report_objections.specs.declared.objection.Objection.TheVariants.{NoAlarm}
use Rattle.report_objections.specs.Shaping.{tells_total}
use Rattle.report_objections.specs.Objecting.{is_alarm, lacks, first_lacking}
use Rattle.report_objections.specs.SoundLaws.{same_fault}
use Rattle.report_checks.specs.Marks.{total_node, marked_at, marked_by, told_one, told_by, first_untold}

-- ---- what a list has at a place, after one was written

here : {X : Type 0} (xs : List X) (n : ℕ) (v d : X) → n < length xs → slice_index_or (slice_set xs n v) n d ≡ v
here xs n v d low = grind (arith, common_steps)

elsewhere : {X : Type 0} (xs : List X) (n k : ℕ) (v d : X) → k ≢ n
    → slice_index_or (slice_set xs n v) k d ≡ slice_index_or xs k d
elsewhere [] n k v d other = refl
elsewhere (x ∷ xs) zero zero v d other = absurd (other refl)
elsewhere (x ∷ xs) zero (suc k) v d other = refl
elsewhere (x ∷ xs) (suc n) zero v d other = refl
elsewhere (x ∷ xs) (suc n) (suc k) v d other = elsewhere xs n k v d (λ e. other (ap suc e))

-- ---- marks

-- 1 where it is so, and 0 where it is not
abbrev bit : Bool → ℕ
bit v = cond v 1 0

-- the mark of a node
abbrev mark_of : List Bool → ℕ → Bool
mark_of marks n = slice_index_or marks n true

-- how many of the lines the node has
abbrev lines_of : ℕ → List Fact → ℕ
lines_of n facts = count_by (λ f. tells_total n f) facts

-- a line is that of the node which it names
tells : ℕ → Option ℕ → Bool
tells n None = false
tells n (Some m) = n == m

tells_is : (n : ℕ) (f : Fact) → tells_total n f ≡ tells n (total_node f)
unfolding tells
tells_is n (Loop s low high) = refl
tells_is n (Count s m low high) = refl
tells_is n (Dead m) = refl
tells_is n (Total m low high) = refl
tells_is n (Pair s a b) = refl
tells_is n (Alarm m fault) = refl

one_more : (n : ℕ) (f : Fact) (facts : List Fact) (node : Option ℕ) → total_node f ≡ node
    → lines_of n (f ∷ facts) ≡ bit (tells n node) + lines_of n facts
one_more n f facts node is =
    let first : lines_of n (f ∷ facts) ≡ bit (tells_total n f) + lines_of n facts = sum_by-cons (λ g. bit (tells_total n g)) f facts in
    let same : bit (tells_total n f) ≡ bit (tells n node) = ap bit (tells_is n f ∙ ap (tells n) is) in
    omega (arith, first, same)

none_stays : (facts : List Fact) → marked_by None facts ≡ None
none_stays [] = refl
none_stays (f ∷ facts) = none_stays facts

-- ---- where all lines mark

-- the marks in the end
record AreMarked (marks : List Bool) (facts : List Fact) (end : List Bool) : Type 0 where
  long : length end ≡ length marks
  each : (n : ℕ) → n < length marks → bit (mark_of marks n) + lines_of n facts ≡ bit (mark_of end n)

marked_more : (marks : List Bool) (f : Fact) (facts end : List _) (m : ℕ) → total_node f ≡ Some m
    → mark_of marks m ≡ false → AreMarked (slice_set marks m true) facts end → AreMarked marks (f ∷ facts) end
unfolding tells
marked_more marks f facts end m is free rest = record {
  long = rest.long ∙ length-set marks m true;
  each = λ n low.
      let count = one_more n f facts (Some m) is in
      let later = rest.each n (let same = length-set marks m true in omega (arith, low, same)) in
      elim (same_or_not n m) [
        | inl same ↦
            let one : bit (n == m) ≡ 1 = ap bit (eq-eqb n m same) in
            let before : bit (mark_of marks n) ≡ 0 = ap (λ (k : ℕ). bit (mark_of marks k)) same ∙ ap bit free in
            let after : bit (mark_of (slice_set marks m true) n) ≡ 1 = ap (λ (k : ℕ). bit (mark_of (slice_set marks m true) k)) same ∙ ap bit (here marks m true true (subst (λ (k : ℕ). k < length marks) same low)) in
            omega (arith, count, later, one, before, after)
        | inr other ↦
            let none : bit (n == m) ≡ 0 = ap bit (ne_eqb n m other) in
            let kept : bit (mark_of (slice_set marks m true) n) ≡ bit (mark_of marks n) = ap bit (elsewhere marks m n true true other) in
            omega (arith, count, later, none, kept)
      ];
}

all_mark : (marks : List Bool) (facts : List Fact) (end : List Bool) → marked_by (Some marks) facts ≡ Some end
    → AreMarked marks facts end
unfolding tells
all_mark marks [] end is = record { long = ap (λ (ms : List Bool). length ms) (sym (same_Some marks end is)); each = λ n low. omega (arith, ap (λ (ms : List Bool). bit (mark_of ms n)) (same_Some marks end is)) }
all_mark marks (f ∷ facts) end is = by (total_node f) refl (λ ms. all_mark ms facts end) is
  where
    by : (node : Option ℕ) → total_node f ≡ node
        → ((ms : List Bool) → marked_by (Some ms) facts ≡ Some end → AreMarked ms facts end)
        → marked_by (marked_at marks node) facts ≡ Some end
        → AreMarked marks (f ∷ facts) end
    by None is later here = let rest = later marks here in record { long = rest.long; each = λ n low. let count = one_more n f facts None is in let each = rest.each n low in omega (arith, count, each) }
    by (Some m) is later here =
        by_test (mark_of marks m)
        (λ taken. absurd (none-some end (sym (none_stays facts) ∙ sym (ap (λ (v : Bool). marked_by (cond v None (Some (slice_set marks m true))) facts) taken) ∙ here)))
        (λ free. marked_more marks f facts end m is free (later (slice_set marks m true) (sym (ap (λ (v : Bool). marked_by (cond v None (Some (slice_set marks m true))) facts) free) ∙ here)))

-- ---- where some line does not

-- the node that the line names, if it names one, is one of so many
abbrev pub IsNumbered : ℕ → Fact → Type 0
IsNumbered k f = IfSome (total_node f) (λ m. m < k)

-- a node has two
record IsTwice (marks : List Bool) (facts : List Fact) : Type 0 where
  node : ℕ
  low : node < length marks
  twice : 2 ≤ bit (mark_of marks node) + lines_of node facts

twice_more : (marks : List Bool) (f : Fact) (facts : List Fact) (m : ℕ) → total_node f ≡ Some m → m < length marks
    → mark_of marks m ≡ false → IsTwice (slice_set marks m true) facts → IsTwice marks (f ∷ facts)
unfolding tells
twice_more marks f facts m is within free rest =
    let n = rest.node in
    let low : n < length marks = (let a = rest.low in let b = length-set marks m true in omega (arith, a, b)) in
    let count = one_more n f facts (Some m) is in
    let later = rest.twice in
    record {
      node = n;
      low = low;
      twice = elim (same_or_not n m) [
        | inl same ↦
            let one : bit (n == m) ≡ 1 = ap bit (eq-eqb n m same) in
            let after : bit (mark_of (slice_set marks m true) n) ≡ 1 = ap (λ (k : ℕ). bit (mark_of (slice_set marks m true) k)) same ∙ ap bit (here marks m true true within) in
            omega (arith, count, later, one, after)
        | inr other ↦
            let none : bit (n == m) ≡ 0 = ap bit (ne_eqb n m other) in
            let kept : bit (mark_of (slice_set marks m true) n) ≡ bit (mark_of marks n) = ap bit (elsewhere marks m n true true other) in
            omega (arith, count, later, none, kept)
      ];
    }

some_twice : (marks : List Bool) (facts : List Fact) → All (IsNumbered (length marks)) facts
    → marked_by (Some marks) facts ≡ None → IsTwice marks facts
unfolding tells
some_twice marks [] fits is = absurd (none-some marks (sym is))
some_twice marks (f ∷ facts) fits is = by (total_node f) refl (All-head (IsNumbered (length marks)) f facts fits) (λ ms. some_twice ms facts) is
  where
    rest : All (IsNumbered (length marks)) facts
    rest = All-tail (IsNumbered (length marks)) f facts fits

    by : (node : Option ℕ) → total_node f ≡ node → IfSome node (λ m. m < length marks)
        → ((ms : List Bool) → All (IsNumbered (length ms)) facts → marked_by (Some ms) facts ≡ None → IsTwice ms facts) → marked_by (marked_at marks node) facts ≡ None → IsTwice marks (f ∷ facts)
    by None named low further is =
        let later = further marks rest is in
        let count = one_more later.node f facts None named in
        let twice = later.twice in
        record { node = later.node; low = later.low; twice = omega (arith, count, twice) }
    by (Some m) named low further is =
        by_test (mark_of marks m)
        (λ taken.
        let first : bit (mark_of marks m) ≡ 1 = ap bit taken in
        let here : bit (m == m) ≡ 1 = ap bit (eq-eqb m m refl) in
        let count = one_more m f facts (Some m) named in
        record { node = m; low = low; twice = omega (arith, first, here, count) })
        (λ free. twice_more marks f facts m named low free (further (slice_set marks m true)
        (subst (λ (k : ℕ). All (IsNumbered k) facts) (sym (length-set marks m true)) rest)
        (sym (ap (λ (v : Bool). marked_by (cond v None (Some (slice_set marks m true))) facts) free) ∙ is)))

-- ---- from the start

module _ (k : ℕ) (facts : List Fact) where
  -- no node is marked
  abbrev none_marked : List Bool
  none_marked = replicate k false

  none_at : (n : ℕ) → n < k → bit (mark_of none_marked n) ≡ 0
  none_at n low = ap bit (get_or-replicate k n false true low)

  start_long : length none_marked ≡ k
  start_long = length-replicate k false

  -- where no node is named twice, all are marked exactly where each has one line
  pub each_once : (end : List Bool) → marked_by (Some none_marked) facts ≡ Some end
      → All (λ mark. mark ≡ true) end ↔ ((n : ℕ) → n < k → lines_of n facts ≡ 1)
  each_once end is = (forth, back)
    where
      are : AreMarked none_marked facts end
      are = all_mark none_marked facts end is

      long : length end ≡ k
      long = are.long ∙ start_long

      told : (n : ℕ) → n < k → lines_of n facts ≡ bit (mark_of end n)
      told n low = let each = are.each n (let same = start_long in omega (arith, low, same)) in let none = none_at n low in omega (arith, each, none)

      forth : All (λ mark. mark ≡ true) end → (n : ℕ) → n < k → lines_of n facts ≡ 1
      forth all n low = told n low ∙ ap bit (All-get_or (λ (mark : Bool). mark ≡ true) end n true (let same = long in omega (arith, low, same)) all)

      is_true : (v : Bool) → bit v ≡ 1 → v ≡ true
      is_true true one = refl
      is_true false one = absurd (omega (arith, one))

      back : ((n : ℕ) → n < k → lines_of n facts ≡ 1) → All (λ mark. mark ≡ true) end
      back each = All-from_get_or (λ (mark : Bool). mark ≡ true) end true
          (λ n low. is_true (mark_of end n) (let within : n < k = (let same = long in omega (arith, low, same)) in sym (told n within) ∙ each n within))

  -- and where one is named twice, it has more
  pub not_once : All (IsNumbered k) facts → marked_by (Some none_marked) facts ≡ None
      → ((n : ℕ) → n < k → lines_of n facts ≡ 1) → ⊥
  not_once fits is each =
      let two = some_twice none_marked facts (subst (λ (j : ℕ). All (IsNumbered j) facts) (sym start_long) fits) is in
      let low : two.node < k = (let a = two.low in let same = start_long in omega (arith, a, same)) in
      let none = none_at two.node low in
      let one = each two.node low in
      let twice = two.twice in
      omega (arith, none, one, twice)

-- ---- alarms

or_false : (a : Bool) → (a || false) ≡ a
or_false true = refl
or_false false = refl

or_true : (a : Bool) → (a || true) ≡ true
or_true true = refl
or_true false = refl

or_assoc : (a b c : Bool) → ((a || b) || c) ≡ (a || (b || c))
or_assoc true b c = refl
or_assoc false b c = refl

-- a set with one fault more
with_is : (set : FaultSet) (kind fault : RunFault)
    → has_fault (with_fault set kind) fault ≡ (has_fault set fault || (fault_code fault == fault_code kind))
with_is set kind fault =
    by_test (fault_code fault == fault_code kind)
    (λ is.
    let same : fault ≡ kind = same_fault fault kind (eqb-true (fault_code fault) (fault_code kind) is) in
    ap (λ (g : RunFault). has_fault (with_fault set kind) g) same ∙ is_new set kind ∙ sym (ap (λ (v : Bool). has_fault set fault || v) is ∙ or_true (has_fault set fault)))
    (λ other.
    let apart : kind ≢ fault = λ same. let code : (fault_code fault == fault_code kind) ≡ true = eq-eqb (fault_code fault) (fault_code kind) (ap fault_code (sym same)) in
    let bad : true ≡ false = sym code ∙ other in cc in
    is_kept set kind fault apart ∙ sym (ap (λ (v : Bool). has_fault set fault || v) other ∙ or_false (has_fault set fault)))

module _ (n : ℕ) (fault : RunFault) where
  -- whether the fault is told at the node
  abbrev is_told : List FaultSet → Bool
  is_told sets = has_fault (alarm_at sets n) fault

  told_more : (sets : List FaultSet) (f : Fact) → n < length sets
      → is_told (told_one sets f) ≡ (is_told sets || is_alarm n fault f)
  told_more sets (Loop s low high) within = sym (or_false (is_told sets))
  told_more sets (Count s m low high) within = sym (or_false (is_told sets))
  told_more sets (Dead m) within = sym (or_false (is_told sets))
  told_more sets (Total m low high) within = sym (or_false (is_told sets))
  told_more sets (Pair s a b) within = sym (or_false (is_told sets))
  told_more sets (Alarm m kind) within =
      let set : FaultSet = with_fault (alarm_at sets m) kind in
      elim (same_or_not n m) [
        | inl same ↦
            let at : alarm_at (slice_set sets m set) n ≡ set =
            ap (λ (j : ℕ). alarm_at (slice_set sets m set) j) same ∙ here sets m set no_faults (subst (λ (j : ℕ). j < length sets) same within) in
            ap (λ (x : FaultSet). has_fault x fault) at ∙ with_is (alarm_at sets m) kind fault
            ∙ ap (λ (j : ℕ). has_fault (alarm_at sets j) fault || (fault_code fault == fault_code kind)) (sym same)
            ∙ ap (λ (v : Bool). is_told sets || (v && (fault_code fault == fault_code kind))) (sym (eq-eqb n m same))
        | inr other ↦
            ap (λ (x : FaultSet). has_fault x fault) (elsewhere sets m n set no_faults other)
            ∙ sym (ap (λ (v : Bool). is_told sets || (v && (fault_code fault == fault_code kind))) (ne_eqb n m other) ∙ or_false (is_told sets))
      ]

  one_long : (sets : List FaultSet) (f : Fact) → length (told_one sets f) ≡ length sets
  one_long sets (Loop s low high) = refl
  one_long sets (Count s m low high) = refl
  one_long sets (Dead m) = refl
  one_long sets (Total m low high) = refl
  one_long sets (Pair s a b) = refl
  one_long sets (Alarm m kind) = length-set sets m (with_fault (alarm_at sets m) kind)

  -- after all lines a fault is told where it was, or where an alarm tells it
  pub told_is : (sets : List FaultSet) (facts : List Fact) → n < length sets
      → is_told (told_by sets facts) ≡ (is_told sets || list_any (λ f. is_alarm n fault f) facts)
  told_is sets [] within = sym (or_false (is_told sets))
  told_is sets (f ∷ facts) within =
      told_is (told_one sets f) facts (let same = one_long sets f in omega (arith, within, same))
      ∙ ap (λ (v : Bool). v || list_any (λ g. is_alarm n fault g) facts) (told_more sets f within)
      ∙ or_assoc (is_told sets) (is_alarm n fault f) (list_any (λ g. is_alarm n fault g) facts)

pub told_long : (sets : List FaultSet) (facts : List Fact) → length (told_by sets facts) ≡ length sets
told_long sets [] = refl
told_long sets (f ∷ facts) = told_long (told_one sets f) facts ∙ one_long 0 Divide sets f

-- ---- turns of loops

-- one line more
pub marks_more : (old marks more : List Bool) (f : Fact) (rest others facts : List Fact) → rest ≡ f ∷ others
    → marked_at marks (total_node f) ≡ Some more
    → marked_by (Some marks) rest ≡ marked_by (Some old) facts → marked_by (Some more) others ≡ marked_by (Some old) facts
marks_more old marks more f rest others facts split taken so_far =
    ap (λ (o : Option (List Bool)). marked_by o others) (sym taken) ∙ ap (λ (fs : List Fact). marked_by (Some marks) fs) (sym split) ∙ so_far

-- a line that does not mark
pub marks_stop : (old marks : List Bool) (f : Fact) (rest others facts : List Fact) → rest ≡ f ∷ others
    → marked_at marks (total_node f) ≡ None
    → marked_by (Some marks) rest ≡ marked_by (Some old) facts → marked_by (Some old) facts ≡ None
marks_stop old marks f rest others facts split none so_far =
    sym so_far ∙ ap (λ (fs : List Fact). marked_by (Some marks) fs) split ∙ ap (λ (o : Option (List Bool)). marked_by o others) none ∙ none_stays others

-- what facts name is one of the nodes
numbered : (o : Outlined) (f : Fact) → FitsOutline (shape_of o) f → IsNumbered (length o.nodes) f
numbered o (Loop s low high) fits = tt
numbered o (Count s n low high) fits = tt
numbered o (Dead n) fits = node_in o n fits
numbered o (Total n low high) fits = node_in o n fits
numbered o (Pair s a b) fits = tt
numbered o (Alarm n fault) fits = tt

pub all_numbered : (o : Outlined) (facts : List Fact) → All (λ f. FitsOutline (shape_of o) f) facts
    → All (IsNumbered (length o.nodes)) facts
all_numbered o facts fit =
    all_members (IsNumbered (length o.nodes)) facts (λ f there. numbered o f (All-contains (λ g. FitsOutline (shape_of o) g) facts f fit there))

-- the first fault that no alarm tells is the first that lacks one
pub first_told : (facts : List Fact) (told set : FaultSet) (n : ℕ) (faults : List RunFault)
    → ((fault : RunFault) → has_fault told fault ≡ list_any (λ f. is_alarm n fault f) facts)
    → first_untold told set n faults ≡ first_lacking facts set n faults
first_told facts told set n [] same = refl
first_told facts told set n (fault ∷ more) same =
    ap (λ (v : Bool). if has_fault set fault && not v then Some (NoAlarm n fault) else first_untold told set n more) (same fault)
    ∙ ap (λ (t : Option Objection). if lacks facts set n fault then Some (NoAlarm n fault) else t) (first_told facts told set n more same)

-- where no fault was told at first, those that are told are those of alarms
pub told_from_none : (count n : ℕ) (fault : RunFault) (facts : List Fact) (sets : List FaultSet) → n < count
    → sets ≡ told_by (replicate count no_faults) facts
    → has_fault (alarm_at sets n) fault ≡ list_any (λ f. is_alarm n fault f) facts
told_from_none count n fault facts sets low is =
    let long = length-replicate count no_faults in
    ap (λ (ss : List FaultSet). has_fault (alarm_at ss n) fault) is
    ∙ told_is n fault (replicate count no_faults) facts (omega (arith, low, long))
    ∙ ap (λ (v : Bool). v || list_any (λ f. is_alarm n fault f) facts) (ap (λ (set : FaultSet). has_fault set fault) (get_or-replicate count n no_faults no_faults low) ∙ is_empty fault)
