-- Labels that items name.
--   goes_to_named   a stretch goes to labels alone that its items name
--   named_among     what the items from a block on name is named among all
use Rattle.std.proofs.Common.{◌≡◌, ◌⊎◌, ℕ, zero, suc, List, [], ◌∷◌, ◌++◌, map, Contains, Some, None, Result, Ok, Err, Bool, true, false, refl, inl, inr, subst}
use Rattle.std.specs.Prelude.{◌==◌, if◌then◌else◌}
use Rattle.lists.specs.MemberLaws.{first_member, further_member}
use Rattle.alf_ops.specs.declared.history.Value.{Value}
use Rattle.alf_ops.specs.declared.history.Value.TheVariants.{Int, Ptr}
use Rattle.alf_ops.specs.declared.history.RunFault.{RunFault}
use Rattle.alf_ops.specs.declared.history.FrameShape.{FrameShape}
use Rattle.alf_ops.specs.declared.history.RunEvent.{RunEvent}
use Rattle.alf_ops.specs.Pointers.{operands}
use Rattle.alf_program.specs.declared.program.Num.{Num}
use Rattle.alf_program.specs.Tree.{Null, Store, Jump, Switch, Call, Return, BodyItem, Label, Do, with_frames}
use Rattle.alf_check.specs.Numbers.{Numbers}
use Rattle.alf_runs.specs.Expressions.{value_of}
use Rattle.alf_runs.specs.Statements.{after_store}
use Rattle.item_runs.specs.Stretches.{Goes, stored_then, switched, called, returned, numbered_result, label_for, stretch, IsNamed}
use Rattle.item_runs.proofs.Cutting.{from_of}

-- a switch goes to one of its labels
label_among : (targets : List (Num × List ℕ)) (others : List ℕ) (word : ℕ)
    → (others ≡ label_for targets others word)
    ⊎ Contains (map (λ (target : Num × List ℕ). target.1) targets) (label_for targets others word)
label_among [] others word = inl refl
label_among (t ∷ targets) others word = on (t.0.bits == word) (label_among targets others word) where
  on : (v : Bool)
      → (others ≡ label_for targets others word)
      ⊎ Contains (map (λ (target : Num × List ℕ). target.1) targets) (label_for targets others word)
      → (others ≡ (if v then t.1 else label_for targets others word)) ⊎ Contains (t.1 ∷ map (λ (target : Num × List ℕ). target.1) targets) (if v then t.1 else label_for targets others word)
  on true further = inr (first_member t.1 (map (λ (target : Num × List ℕ). target.1) targets))
  on false (inl e) = inl e
  on false (inr c) = inr (further_member t.1 (map (λ (target : Num × List ℕ). target.1) targets) (label_for targets others word) c)

-- a stretch goes to labels alone that its items name
pub goes_to_named : (frames : List FrameShape) (numbers : Numbers) (items : List BodyItem) (history later : List RunEvent) (label : List ℕ) → stretch frames numbers items history ≡ Goes label later → IsNamed items label
goes_to_named frames numbers [] history later label e = absurd (cc)
goes_to_named frames numbers (Label own ∷ items) history later label e = inr (goes_to_named frames numbers items history later label e)
goes_to_named frames numbers (Do Null ∷ items) history later label e = inr (goes_to_named frames numbers items history later label e)
goes_to_named frames numbers (Do (Store to value) ∷ items) history later label e =
    on (after_store frames history (value_of frames history (with_frames numbers.frame to)) (value_of frames history (with_frames numbers.frame value))) e
    (λ middle h. goes_to_named frames numbers items middle later label h) where
      on : (r : Result (List RunEvent) RunFault)
          → stored_then r (λ middle. stretch frames numbers items middle) ≡ Goes label later
          → ((middle : List RunEvent) → stretch frames numbers items middle ≡ Goes label later → IsNamed items label) → IsNamed (Do (Store to value) ∷ items) label
      on (Ok middle) h further = inr (further middle h)
      on (Err fault) h further = absurd (cc)
goes_to_named frames numbers (Do (Jump to) ∷ items) history later label e = inl (cc)
goes_to_named frames numbers (Do (Switch value targets others) ∷ items) history later label e = on (value_of frames history (with_frames numbers.frame value)) e where
  on : (r : Result Value RunFault) → switched targets others history r ≡ Goes label later
      → IsNamed (Do (Switch value targets others) ∷ items) label
  on (Ok (Int size word)) h =
      let same : label_for targets others word ≡ label = cc in
      inl (subst (λ (l : List ℕ). (others ≡ l) ⊎ Contains (map (λ (target : Num × List ℕ). target.1) targets) l) same (label_among targets others word))
  on (Ok (Ptr frame offset)) h = absurd (cc)
  on (Err fault) h = absurd (cc)
goes_to_named frames numbers (Do (Call func args result) ∷ items) history later label e = on (operands (map (value_of frames history) (map (with_frames numbers.frame) args))) e where
  on : (r : Result (List Value) RunFault)
      → called (numbers.func func) (numbered_result numbers result) items history r ≡ Goes label later
      → IsNamed (Do (Call func args result) ∷ items) label
  on (Ok values) h = absurd (cc)
  on (Err fault) h = absurd (cc)
goes_to_named frames numbers (Do (Return None) ∷ items) history later label e = absurd (cc)
goes_to_named frames numbers (Do (Return (Some value)) ∷ items) history later label e = on (value_of frames history (with_frames numbers.frame value)) e where
  on : (r : Result Value RunFault) → returned history r ≡ Goes label later
      → IsNamed (Do (Return (Some value)) ∷ items) label
  on (Ok v) h = absurd (cc)
  on (Err fault) h = absurd (cc)

named_after : (block rest : List BodyItem) (label : List ℕ) → IsNamed rest label → IsNamed (block ++ rest) label
named_after [] rest label h = h
named_after (item ∷ block) rest label h = inr (named_after block rest label h)

-- what the items from a block on name is named among all
pub named_among : (blocks : List (List BodyItem)) (b : ℕ) (label : List ℕ) → IsNamed (from_of blocks b) label
    → IsNamed (from_of blocks 0) label
named_among [] b label h = absurd h
named_among (block ∷ blocks) zero label h = h
named_among (block ∷ blocks) (suc b) label h = named_after block (from_of blocks 0) label (named_among blocks b label h)
