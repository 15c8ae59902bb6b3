-- Blocks do what their items do.
--   is_cut   the blocks of items do what these do
use Rattle.std.proofs.Common.{◌≡◌, ℕ, zero, suc, ◌+◌, ◌-◌, List, [], ◌∷◌, ◌++◌, length, map, Option, Some, None, Result, Ok, Err, Bool, true, false, refl, sym, ap, ◌∙◌, subst, append-nil, arith}
use Rattle.std.specs.Prelude.{slice_get, ◌==◌, ◌||◌, if◌then◌else◌}
use Rattle.std.specs.List.{flat_map}
use Rattle.std.specs.Option.{option_map_or}
use Rattle.std.proofs.lemmas.Bool.{false≢true}
use Rattle.alf_ops.specs.declared.history.Value.{Value}
use Rattle.alf_ops.specs.declared.history.Value.TheVariants.{Int, Ptr}
use Rattle.alf_ops.specs.declared.history.RunFault.{RunFault}
use Rattle.alf_ops.specs.declared.history.FrameShape.{FrameShape}
use Rattle.alf_ops.specs.declared.history.RunEvent.{RunEvent}
use Rattle.alf_ops.specs.Pointers.{operands}
use Rattle.alf_program.specs.declared.program.Num.{Num}
use Rattle.alf_program.specs.Tree.{Null, Store, Jump, Switch, Call, Return, BodyItem, Label, Do, with_frames}
use Rattle.alf_check.specs.Blocks.{ends_block, blocks_of}
use Rattle.alf_check.specs.CheckedPrograms.{NumberedStatement, BlockEnding, Fall}
use Rattle.alf_check.specs.Numbers.{Numbers, has_label, block_number}
use Rattle.alf_check.specs.Numbered.{statements_by, numbered_targets, end_by, numbered_end, numbered_blocks}
use Rattle.alf_runs.specs.Expressions.{value_of}
use Rattle.alf_runs.specs.Statements.{after_store, after_statements}
use Rattle.alf_runs.specs.Steps.{target_of}
use Rattle.item_runs.specs.Stretches.{stored_then, switched, called, returned, numbered_result, label_for, stretch, items_after, IsNamed}
use Rattle.item_runs.specs.Cuts.{IsSame, SwitchDoes, CallDoes, ReturnDoes, ThenDoes, BlockDoes, IsCut}
use Rattle.item_runs.proofs.Cutting.{from_of, Trim, AllTrim, all_trim, from_blocks, label_leads}
use Rattle.item_runs.proofs.Naming.{named_among}

-- the last of more items
last_of_more : (i j : BodyItem) (items : List BodyItem)
    → slice_get (i ∷ j ∷ items) (length (i ∷ j ∷ items) - 1) ≡ slice_get (j ∷ items) (length (j ∷ items) - 1)
last_of_more i j items = let e : length (i ∷ j ∷ items) - 1 ≡ suc (length (j ∷ items) - 1) = omega arith in ap (slice_get (i ∷ j ∷ items)) e

or_left : (a b : Bool) → (a || b) ≡ false → a ≡ false
or_left true b e = e
or_left false b e = refl

-- the block of a switch's label
target_numbered : (number : List ℕ → ℕ) (targets : List (Num × List ℕ)) (others : List ℕ) (word : ℕ)
    → target_of (numbered_targets number targets) (number others) word ≡ number (label_for targets others word)
target_numbered number [] others word = refl
target_numbered number (t ∷ targets) others word = on (t.0.bits == word) (target_numbered number targets others word) where
  on : (v : Bool)
      → target_of (numbered_targets number targets) (number others) word ≡ number (label_for targets others word)
      → (if v then number t.1 else target_of (numbered_targets number targets) (number others) word) ≡ number (if v then t.1 else label_for targets others word)
  on true e = refl
  on false e = e

module _ (frames : List FrameShape) (numbers : Numbers) (all : List BodyItem) (from : ℕ → List BodyItem)
    (lead : (label : List ℕ) → has_label label all ≡ true → IsSame frames numbers (items_after label all) (from (numbers.block label))) where
  -- the last item of a block
  last_does : (b : ℕ) (item : BodyItem) (rest : List BodyItem) (history : List RunEvent)
      → IsSame frames numbers rest (from (suc b))
      → ThenDoes frames numbers all from b (end_by numbers (suc b) item) (stretch frames numbers (item ∷ rest) history) (after_statements frames (statements_by numbers.frame item) (Ok history))
  last_does b (Label label) rest history same = (refl, same history)
  last_does b (Do Null) rest history same = (refl, same history)
  last_does b (Do (Store to value)) rest history same =
      on (after_store frames history (value_of frames history (with_frames numbers.frame to)) (value_of frames history (with_frames numbers.frame value))) where
        on : (r : Result (List RunEvent) RunFault) → ThenDoes frames numbers all from b (end_by numbers (suc b) (Do (Store to value))) (stored_then r (λ later. stretch frames numbers rest later)) (after_statements frames [] r)
        on (Ok later) = (refl, same later)
        on (Err fault) = refl
  last_does b (Do (Jump label)) rest history same = record { label = label; goes = refl; same = lead label }
  last_does b (Do (Switch value targets others)) rest history same = on (value_of frames history (with_frames numbers.frame value)) where
    on : (r : Result Value RunFault) → SwitchDoes frames numbers all from (numbered_targets numbers.block targets) (numbers.block others) history (switched targets others history r) r
    on (Ok (Int size word)) = record {
      label = label_for targets others word;
      goes = refl;
      same = λ stands h. lead (label_for targets others word) stands h ∙ ap (λ (n : ℕ). stretch frames numbers (from n) h) (sym (target_numbered numbers.block targets others word));
    }
    on (Ok (Ptr frame offset)) = refl
    on (Err fault) = refl
  last_does b (Do (Call label args result)) rest history same = on (operands (map (value_of frames history) (map (with_frames numbers.frame) args))) where
    on : (r : Result (List Value) RunFault) → CallDoes frames numbers (numbers.func label) (numbered_result numbers result) (from (suc b)) history (called (numbers.func label) (numbered_result numbers result) rest history r) r
    on (Ok values) = record { rest = rest; enters = refl; same = same }
    on (Err fault) = refl
  last_does b (Do (Return None)) rest history same = refl
  last_does b (Do (Return (Some value))) rest history same = on (value_of frames history (with_frames numbers.frame value)) where
    on : (r : Result Value RunFault) → ReturnDoes frames numbers history (returned history r) r
    on (Ok v) = refl
    on (Err fault) = refl

  -- an item that others follow in its block
  goes_through : (b : ℕ) (item : BodyItem) (statements : List NumberedStatement) (ending : BlockEnding) (tail : List BodyItem) (history : List RunEvent) → ends_block item ≡ false
      → ((later : List RunEvent) → ThenDoes frames numbers all from b ending (stretch frames numbers tail later) (after_statements frames statements (Ok later)))
      → ThenDoes frames numbers all from b ending (stretch frames numbers (item ∷ tail) history) (after_statements frames (statements_by numbers.frame item ++ statements) (Ok history))
  goes_through b (Label label) statements ending tail history e next = next history
  goes_through b (Do Null) statements ending tail history e next = next history
  goes_through b (Do (Store to value)) statements ending tail history e next =
      on (after_store frames history (value_of frames history (with_frames numbers.frame to)) (value_of frames history (with_frames numbers.frame value))) where
        on : (r : Result (List RunEvent) RunFault) → ThenDoes frames numbers all from b ending (stored_then r (λ later. stretch frames numbers tail later)) (after_statements frames statements r)
        on (Ok later) = next later
        on (Err fault) = refl
  goes_through b (Do (Jump label)) statements ending tail history e next = absurd (false≢true (sym e))
  goes_through b (Do (Switch value targets others)) statements ending tail history e next = absurd (false≢true (sym e))
  goes_through b (Do (Call label args result)) statements ending tail history e next = absurd (false≢true (sym e))
  goes_through b (Do (Return value)) statements ending tail history e next = absurd (false≢true (sym e))

  -- a block does what its items do
  block_does : (b : ℕ) (block rest : List BodyItem) (history : List RunEvent) → Trim block
      → IsSame frames numbers rest (from (suc b))
      → ThenDoes frames numbers all from b (numbered_end numbers (suc b) block) (stretch frames numbers (block ++ rest) history) (after_statements frames (flat_map (statements_by numbers.frame) block) (Ok history))
  block_does b [] rest history t same = (refl, same history)
  block_does b (item ∷ []) rest history t same =
      subst (λ (ss : List NumberedStatement). ThenDoes frames numbers all from b (end_by numbers (suc b) item) (stretch frames numbers (item ∷ rest) history) (after_statements frames ss (Ok history)))
      (sym (append-nil (statements_by numbers.frame item))) (last_does b item rest history same)
  block_does b (i ∷ j ∷ block) rest history t same =
      subst (λ (o : Option BodyItem). ThenDoes frames numbers all from b (option_map_or (end_by numbers (suc b)) o (Fall (suc b))) (stretch frames numbers (i ∷ j ∷ block ++ rest) history)
      (after_statements frames (statements_by numbers.frame i ++ flat_map (statements_by numbers.frame) (j ∷ block)) (Ok history))) (sym (last_of_more i j block))
      (goes_through b i (flat_map (statements_by numbers.frame) (j ∷ block)) (numbered_end numbers (suc b) (j ∷ block)) (j ∷ block ++ rest) history (or_left (ends_block i) _ t.0)
      (λ later. block_does b (j ∷ block) rest later t.1 same))

  -- the blocks from number base on do what their items do
  blocks_do : (blocks : List (List BodyItem)) (base : ℕ) → AllTrim blocks
      → ((j : ℕ) → from (base + j) ≡ from_of blocks j) → (b : ℕ) (history : List RunEvent)
      → BlockDoes frames numbers all from (base + b) (slice_get (numbered_blocks numbers base blocks) b) history
  blocks_do [] base t is b history = ap (λ (items : List BodyItem). stretch frames numbers items history) (is b)
  blocks_do (block ∷ blocks) base t is zero history =
      let at : base + 0 ≡ base = omega arith in
      let next : suc base ≡ base + 1 = omega arith in
      let rest = from_of blocks 0 in
      let statements = flat_map (statements_by numbers.frame) block in
      let ending = numbered_end numbers (suc base) block in
      subst (λ (items : List BodyItem). ThenDoes frames numbers all from (base + 0) ending (stretch frames numbers items history) (after_statements frames statements (Ok history))) (sym (is 0))
      (subst (λ (n : ℕ). ThenDoes frames numbers all from n ending (stretch frames numbers (block ++ rest) history) (after_statements frames statements (Ok history))) (sym at)
      (block_does base block rest history t.0 (λ h. ap (λ (items : List BodyItem). stretch frames numbers items h) (sym (is 1) ∙ ap from (sym next)))))
  blocks_do (block ∷ blocks) base t is (suc b) history =
      let at : suc base + b ≡ base + suc b = omega arith in
      let r = blocks_do blocks (suc base) t.1 (λ j. let e : suc base + j ≡ base + suc j = omega arith in ap from e ∙ is (suc j)) b history in
      subst (λ (n : ℕ). BlockDoes frames numbers all from n (slice_get (numbered_blocks numbers (suc base) blocks) b) history) at r

-- the blocks of items do what these do
pub is_cut : (frames : List FrameShape) (numbers : Numbers) (items : List BodyItem) → numbers.block ≡ block_number items
    → IsCut frames numbers items (numbered_blocks numbers 0 (blocks_of items))
is_cut frames numbers items number =
    let blocks = blocks_of items in
    let lead = λ (label : List ℕ) (stands : has_label label items ≡ true).
    subst (λ (of : List ℕ → ℕ). IsSame frames numbers (items_after label items) (from_of blocks (of label))) (sym number) (label_leads frames numbers items label stands) in
    record {
      from = from_of blocks;
      first = from_blocks items;
      among = λ b label named. subst (λ (all : List BodyItem). IsNamed all label) (from_blocks items) (named_among blocks b label named);
      does = λ b history.
          let zero_at : 0 + b ≡ b = omega arith in
          subst (λ (n : ℕ). BlockDoes frames numbers items (from_of blocks) n (slice_get (numbered_blocks numbers 0 blocks) b) history) zero_at
          (blocks_do frames numbers items (from_of blocks) lead blocks 0 (all_trim items) (λ j. let e : 0 + j ≡ j = omega arith in ap (from_of blocks) e) b history);
    }
