-- Laws of gathered.
--   results_sized, all_results_sized    the results of a cell, and of several, do
--   gathered_all, gathered_all_only     the joined value and the faults tell what is among them, and exact results alone
--   all_among                           what is among the results of one of the cells is among those of all
--   exact_values   exactly this value
--   exact_faults   exactly this fault
use Rattle.std.specs.Prelude.{IsSomeAnd, IfSome, Contains, if◌then◌else◌}
use Rattle.std.proofs.Common.{◌≡◌, inl, inr, sym, subst, ◌∙◌, ℕ, suc, zero, Bool, true, false, List, [], ◌∷◌, ◌++◌, map, Option, Some, None, Result, Ok, Err, refl, arith, ◌+◌, ◌*◌, ◌/◌, ◌≤◌}
use Rattle.alf_ops.specs.declared.history.Value.{Value}
use Rattle.alf_ops.specs.declared.history.RunFault.{RunFault}
use Rattle.alf_ops.specs.declared.history.RunFault.TheVariants.{Uninit, Mixed}
use Rattle.alf_ops.specs.Histories.{offsets}
use Rattle.memory_rules.specs.ValueSets.{ValueSets, IsValueSets, OnlyCovers}
use Rattle.memory_rules.specs.Frames.{FrameMem, either, values_in, appended, concatenated, taken, stands, load_results, value_result, word_result, words_result, from_bytes}
use Rattle.memory_rules.specs.Covers.{IsCellSize, FrameSized, Among}
use Rattle.memory_rules.specs.Sharp.{EachIs, Exactly}
use Rattle.memory_rules.specs.Memories.{Mem, MemSized, load_all, joined_values, faults_of, Gathers, GathersOnly}
use Rattle.memory_rules.specs.FromByteLaws.{among_left, among_right}
use Rattle.memory_rules.specs.MemoryCoveringLaws.{contains_none, contains_cases}
use Rattle.memory_rules.specs.AboveLaws.{either_left, either_right, either_alike}
use Rattle.memory_rules.specs.UpdateLaws.{stands_sized}
use Rattle.memory_rules.specs.Gathered.{EachSized, WordSized}

module _ (d : ValueSets) (laws : IsValueSets d) (size : ℕ) where
  sized_append : (xs ys : List (Result d.Val RunFault)) → EachSized d size xs → EachSized d size ys
      → EachSized d size (xs ++ ys)
  sized_append [] ys s t = t
  sized_append (Ok set ∷ xs) ys s t = (s.0, sized_append xs ys s.1 t)
  sized_append (Err fault ∷ xs) ys s t = sized_append xs ys s t

  step_sized : (before : Option d.Val) (set : d.Val) → IfSome before (λ a. d.val_sized a size) → d.val_sized set size
      → IfSome (either d.join before (Some set)) (λ a. d.val_sized a size)
  step_sized before set s t =
      either_alike d.join (λ a. d.val_sized a size) (λ a. d.val_sized a size) (λ x y. laws.joined_sized x y size) before (Some set) s t

  pub value_kept : (before : Option d.Val) (rs : List (Result d.Val RunFault)) (value : Value)
      → IfSome before (λ a. d.val_sized a size) → EachSized d size rs
      → IsSomeAnd before (λ a. d.covers a value) → IsSomeAnd (joined_values d before rs) (λ a. d.covers a value)
  value_kept before [] value s each h = h
  value_kept before (Ok set ∷ rs) value s each h =
      value_kept (either d.join before (Some set)) rs value (step_sized before set s each.0) each.1
      (either_left d.join (λ a. d.val_sized a size) (λ a. d.covers a value) (λ x y. laws.joined_left x y size value) before (Some set) s each.0 h)
  value_kept before (Err fault ∷ rs) value s each h = value_kept before rs value s each h

  pub value_gathered : (before : Option d.Val) (rs : List (Result d.Val RunFault)) (value : Value)
      → IfSome before (λ a. d.val_sized a size)
      → EachSized d size rs → Among d (Ok value) rs → IsSomeAnd (joined_values d before rs) (λ a. d.covers a value)
  value_gathered before [] value s each h = elim h [ ]
  value_gathered before (Ok set ∷ rs) value s each (inl h) =
      value_kept (either d.join before (Some set)) rs value (step_sized before set s each.0) each.1
      (either_right d.join (λ a. d.val_sized a size) (λ a. d.covers a value) (λ x y. laws.joined_right x y size value) before (Some set) s each.0 h)
  value_gathered before (Ok set ∷ rs) value s each (inr h) =
      value_gathered (either d.join before (Some set)) rs value (step_sized before set s each.0) each.1 h
  value_gathered before (Err fault ∷ rs) value s each (inl h) = elim h [ ]
  value_gathered before (Err fault ∷ rs) value s each (inr h) = value_gathered before rs value s each h

  pub fault_gathered : (rs : List (Result d.Val RunFault)) (fault : RunFault) → Among d (Err fault) rs
      → Contains (faults_of d rs) fault
  fault_gathered [] fault h = elim h [ ]
  fault_gathered (Ok set ∷ rs) fault (inl h) = elim h [ ]
  fault_gathered (Ok set ∷ rs) fault (inr h) = fault_gathered rs fault h
  fault_gathered (Err told ∷ rs) fault (inl h) = (0, omega arith, h)
  fault_gathered (Err told ∷ rs) fault (inr h) = let k = fault_gathered rs fault h in (suc k.0, omega (arith, k.1), k.2)

  -- exactly this value
  pub exact_values : (before : Option d.Val) (rs : List (Result d.Val RunFault)) (value : Value)
      → IfSome before (λ a. d.val_sized a size)
      → EachSized d size rs → IfSome before (λ a. OnlyCovers d a value) → EachIs d (Ok value) rs
      → IfSome (joined_values d before rs) (λ a. OnlyCovers d a value) × (faults_of d rs ≡ [])
  exact_values before [] value s sizes h each = (h, refl)
  exact_values before (Ok set ∷ rs) value s sizes h each =
      exact_values (either d.join before (Some set)) rs value (step_sized before set s sizes.0) sizes.1 (go before s h) each.1
    where
      go : (before : Option d.Val) → IfSome before (λ a. d.val_sized a size) → IfSome before (λ a. OnlyCovers d a value)
          → IfSome (either d.join before (Some set)) (λ a. OnlyCovers d a value)
      go None s h = each.0
      go (Some a) s h = laws.joined_only a set size value s sizes.0 h each.0
  exact_values before (Err fault ∷ rs) value s sizes h each = elim each.0 [ ]

  -- exactly this fault
  pub exact_faults : (before : Option d.Val) (rs : List (Result d.Val RunFault)) (fault : RunFault)
      → EachIs d (Err fault) rs
      → joined_values d before rs ≡ before
  exact_faults before [] fault each = refl
  exact_faults before (Ok set ∷ rs) fault each = elim each.0 [ ]
  exact_faults before (Err told ∷ rs) fault each = exact_faults before rs fault each.1

module _ (d : ValueSets) (laws : IsValueSets d) (m : FrameMem d) (sized : FrameSized d m) where
  pub words_sized : (offset count : ℕ) (words : List d.Word) → count * 8 ≤ 64
      → values_in (map m.bytes (offsets offset count)) ≡ Some words
      → WordSized d (concatenated d words) (count * 8)
  words_sized offset zero words few is = let e : [] ≡ words = cc in subst (λ (w : List d.Word). WordSized d (concatenated d w) 0) e refl
  words_sized offset (suc count) words few is =
      go (m.bytes offset).value (values_in (map m.bytes (offsets (suc offset) count))) refl refl (sized.bytes offset) is (λ lows e. words_sized (suc offset) count lows (omega (arith, few)) e)
    where
      two : (high : Option d.Word) (low : d.Word) → WordSized d high (count * 8) → d.sized low 8
          → d.sized (appended d high low) (suc count * 8)
      two None low none s = let e : 8 ≡ suc count * 8 = omega arith in subst (λ (n : ℕ). d.sized low n) e s
      two (Some high) low h s =
          let e : count * 8 + 8 ≡ suc count * 8 = omega arith in subst (λ (n : ℕ). d.sized (d.conc high low) n) e (laws.conc_sized high low (count * 8) (omega (arith, few)) h s)

      go : (value : Option d.Word) (rest : Option (List d.Word)) → (m.bytes offset).value ≡ value
          → values_in (map m.bytes (offsets (suc offset) count)) ≡ rest → IfSome (m.bytes offset).value (λ w. d.sized w 8)
          → values_in (map m.bytes (offsets offset (suc count))) ≡ Some words
          → ((lows : List d.Word) → values_in (map m.bytes (offsets (suc offset) count)) ≡ Some lows → WordSized d (concatenated d lows) (count * 8))
          → WordSized d (concatenated d words) (suc count * 8)
      go None rest v r s is rec = let e : None ≡ Some words = rw v at is in cc
      go (Some low) None v r s is rec = let e : None ≡ Some words = rw (v, r) at is in cc
      go (Some low) (Some lows) v r s is rec =
          let e : Some (low ∷ lows) ≡ Some words = rw (v, r) at is in
          let f : low ∷ lows ≡ words = cc in
          let own : d.sized low 8 = rw v at s in
          subst (λ (w : List d.Word). WordSized d (concatenated d w) (suc count * 8)) f
          (two (concatenated d lows) low (rec lows r) own)

  pub results_sized : (offset size : ℕ) → IsCellSize size → EachSized d size (load_results d m offset size)
  results_sized offset size is =
      sized_append d laws size (value_result d (stands d m offset size).value) _ (of_value (stands d m offset size).value (stands_sized d laws m sized offset size))
      (sized_append d laws size (if (stands d m offset size).u then Err Uninit ∷ [] else []) _ (of_fault Uninit (stands d m offset size).u) (of_x (stands d m offset size).x))
    where
      of_value : (value : Option d.Val) → IfSome value (λ a. d.val_sized a size)
          → EachSized d size (value_result d value)
      of_value None s = tt
      of_value (Some a) s = (s, tt)

      of_fault : (fault : RunFault) (test : Bool) → EachSized d size (if test then Err fault ∷ [] else [])
      of_fault fault true = tt
      of_fault fault false = tt

      of_word : (word : Option d.Word) → WordSized d word size → EachSized d size (word_result d word)
      of_word None s = tt
      of_word (Some word) s = (laws.of_word_sized word size s, tt)

      of_words : (words : Option (List d.Word)) → values_in (taken d m offset size) ≡ words
          → EachSized d size (words_result d words)
      of_words None at = tt
      of_words (Some words) at =
          let n : size / 8 * 8 ≡ size = omega (arith, is.1) in
          of_word (concatenated d words) (subst (λ (k : ℕ). WordSized d (concatenated d words) k) n (words_sized offset (size / 8) words (omega (arith, is.2)) at))

      of_x : (x : Bool) → EachSized d size (if x then from_bytes d (taken d m offset size) else [])
      of_x true =
          sized_append d laws size (words_result d (values_in (taken d m offset size))) _ (of_words (values_in (taken d m offset size)) refl) (of_fault Mixed _)
      of_x false = tt

-- a value that is among the results is in the joined value, and a fault is told
module _ (d : ValueSets) (laws : IsValueSets d) (size : ℕ) (rs : List (Result d.Val RunFault)) (sizes : EachSized d size rs) where
  pub gathered_all : (r : Result Value RunFault) → Among d r rs → Gathers d (joined_values d None rs) (faults_of d rs) r
  gathered_all (Ok value) h = value_gathered d laws size None rs value tt sizes h
  gathered_all (Err fault) h = fault_gathered d laws size rs fault h

  -- exact results give exactly the value, or no value and exactly the fault
  pub gathered_all_only : (r : Result Value RunFault) → Exactly d r rs
      → GathersOnly d (joined_values d None rs) (faults_of d rs) r
  gathered_all_only (Ok value) h =
      let v = value_gathered d laws size None rs value tt sizes h.0 in
      let e = exact_values d laws size None rs value tt sizes tt h.1 in
      (both (joined_values d None rs) v e.0, e.1)
    where
      both : (set : Option d.Val) → IsSomeAnd set (λ a. d.covers a value) → IfSome set (λ a. OnlyCovers d a value)
          → IsSomeAnd set (λ a. OnlyCovers d a value)
      both None v e = elim v [ ]
      both (Some a) v e = e
  gathered_all_only (Err fault) h = (exact_faults d laws size None rs fault h.1, fault_gathered d laws size rs fault h.0, each_fault rs h.1)
    where
      each_fault : (rs : List (Result d.Val RunFault)) → EachIs d (Err fault) rs → (other : RunFault)
          → Contains (faults_of d rs) other → other ≡ fault
      each_fault [] each other among = absurd (omega (arith, among.1))
      each_fault (Ok set ∷ rs) each other among = elim each.0 [ ]
      each_fault (Err told ∷ rs) each other (zero, low, at) = sym at ∙ each.0
      each_fault (Err told ∷ rs) each other (suc k, low, at) = each_fault rs each.1 other (k, omega arith, at)

-- what is among the results of one of the cells is among those of all
pub all_among : (d : ValueSets) (m : Mem d) (size : ℕ) (r : Result Value RunFault) (cells : List (ℕ × ℕ)) (cell : ℕ × ℕ)
    → Contains cells cell
    → Among d r (load_results d (m.frames cell.0) cell.1 size) → Among d r (load_all d m cells size)
all_among d m size r [] cell among h = absurd (contains_none cell among)
all_among d m size r (first ∷ cells) cell among h = elim (contains_cases first cells cell among) [
  | inl same ↦ among_left d r (load_results d (m.frames first.0) first.1 size) (load_all d m cells size)
      (subst (λ (c : ℕ × ℕ). Among d r (load_results d (m.frames c.0) c.1 size)) same h)
  | inr rest ↦ among_right d r (load_results d (m.frames first.0) first.1 size) (load_all d m cells size) (all_among d m size r cells cell rest h)
]

-- the results of several cells are sized
pub all_results_sized : (d : ValueSets) (laws : IsValueSets d) (m : Mem d) (size : ℕ) → IsCellSize size → MemSized d m
    → (cells : List (ℕ × ℕ))
    → EachSized d size (load_all d m cells size)
all_results_sized d laws m size is sized [] = tt
all_results_sized d laws m size is sized (cell ∷ cells) =
    sized_append d laws size (load_results d (m.frames cell.0) cell.1 size) (load_all d m cells size)
    (results_sized d laws (m.frames cell.0) (sized cell.0) cell.1 size is) (all_results_sized d laws m size is sized cells)
