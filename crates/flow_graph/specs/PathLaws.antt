-- What call paths keep.
--   function_there   a function that is there, with its blocks
--   ending_keeps     the end of a block keeps the rules of checked programs
--   call_there       a block that ends with a call is there, and so is the function that it calls
--   path_there       a call path leads to a function
--   kept_is_placed   a node that is kept has a call path, and its block is one of the function there
use Rattle.std.proofs.Common.{◌≡◌, ◌<◌, ℕ, zero, suc, List, [], ◌∷◌, length, Option, Some, None, slice_get, refl, ap, sym, subst, inl, inr, arith}
use Rattle.std.specs.Option.{option_map, option_map_or}
use Rattle.std.proofs.lemmas.Option.{same_Some}
use Rattle.std.proofs.lemmas.List.Elements.{All-contains}
use Rattle.lists.specs.ImageLaws.{mapped}
use Rattle.alf_program.specs.Tree.{NumberedExpression}
use Rattle.alf_check.specs.CheckedPrograms.{NumberedProgram, NumberedBlock, NumberedFunction, BlockEnding, Fall, Jump, Switch, Call, Return, blocks_at}
use Rattle.alf_check.specs.Kept.{IsKept, KeepsEnding, TargetKeeps}
use Rattle.flow_graph.specs.Nodes.{Node, entry_node, block_node, ending_at, callee_of, function_at, IsTarget, BackLeads, ReturnLeads, EndLeads, PlaceLeads, Leads, IsKeptNode, first, goes_on}
use Rattle.flow_graph.specs.Paths.{IsCall, IsCallPath, IsPlaced}

-- what stands at a place lies below the length
below : {X : Type 0} (xs : List X) (k : ℕ) (x : X) → slice_get xs k ≡ Some x → k < length xs
below [] k x e = absurd (cc)
below (y ∷ ys) zero x e = omega arith
below (y ∷ ys) (suc k) x e = let h = below ys k x e in omega arith

-- a place below the length has something
stands : {X : Type 0} (xs : List X) (k : ℕ) → k < length xs → (x : X) × (slice_get xs k ≡ Some x)
stands [] k h = absurd (omega arith)
stands (y ∷ ys) zero h = (y, refl)
stands (y ∷ ys) (suc k) h = stands ys k (omega arith)

-- a function that is there, with its blocks
module _ (program : NumberedProgram) (keeps : IsKept program) where
  pub function_there : (f : ℕ) → f < length program.funcs
      → (function : NumberedFunction) × (slice_get program.funcs f ≡ Some function)
      × (blocks_at program f ≡ function.blocks)
  function_there f low =
      let found = stands program.funcs f low in
      (found.0, found.1, ap (λ (o : Option NumberedFunction). option_map_or (λ (function : NumberedFunction). function.blocks) o []) found.1)

  -- the block that ends so
  block_there : (f b : ℕ) (ending : BlockEnding) → ending_at program f b ≡ Some ending
      → (block : NumberedBlock) × (slice_get (blocks_at program f) b ≡ Some block) × (block.ending ≡ ending)
  block_there f b ending e = by_option (slice_get (blocks_at program f) b) refl e where
    by_option : (o : Option NumberedBlock) → slice_get (blocks_at program f) b ≡ o
        → option_map (λ (block : NumberedBlock). block.ending) o ≡ Some ending
        → (block : NumberedBlock) × (slice_get (blocks_at program f) b ≡ Some block) × (block.ending ≡ ending)
    by_option None h e = absurd (cc)
    by_option (Some block) h e = (block, h, cc)

  -- it is a block of the function
  pub ending_low : (f b : ℕ) (ending : BlockEnding) → ending_at program f b ≡ Some ending
      → b < length (blocks_at program f)
  ending_low f b ending e = let found = block_there f b ending e in below (blocks_at program f) b found.0 found.1

  -- the end of a block keeps the rules of checked programs
  pub ending_keeps : (f b : ℕ) (ending : BlockEnding) → f < length program.funcs → ending_at program f b ≡ Some ending
      → KeepsEnding program f b ending
  ending_keeps f b ending low e =
      let owner = function_there f low in
      let found = block_there f b ending e in
      let at : slice_get owner.0.blocks b ≡ Some found.0 = subst (λ (blocks : List NumberedBlock). slice_get blocks b ≡ Some found.0) owner.2 found.1 in
      subst (λ (ending : BlockEnding). KeepsEnding program f b ending) found.2 (((keeps.functions f owner.0 owner.1).blocks b found.0 at).ending)

  -- the function that a call calls is there
  pub callee_low : (f b callee : ℕ) (args : List NumberedExpression) (result : Option (ℕ × ℕ)) (next : ℕ)
      → f < length program.funcs → ending_at program f b ≡ Some (Call callee args result next)
      → callee < length program.funcs
  callee_low f b callee args result next low e = let call = ending_keeps f b (Call callee args result next) low e in below program.funcs callee call.function call.at

  -- a call path leads to a function
  pub path_low : (path : List ℕ) → IsCallPath program path → function_at program path < length program.funcs
  path_low [] h = keeps.root
  path_low (b ∷ path) h =
      let call = h.0 in
      let low = path_low path h.1 in
      subst (λ (f : ℕ). f < length program.funcs) (sym (ap callee_of call.ends)) (callee_low (function_at program path) b call.callee call.args call.result call.next low call.ends)

  -- each function has a first block
  pub first_block : (f : ℕ) → f < length program.funcs → 0 < length (blocks_at program f)
  first_block f low =
      let owner = function_there f low in
      subst (λ (blocks : List NumberedBlock). 0 < length blocks) (sym owner.2) ((keeps.functions f owner.0 owner.1).some)

  -- a block of the function at a call path
  in_function : (path : List ℕ) → IsCallPath program path → (b : ℕ)
      → b < length (blocks_at program (function_at program path)) → (next : Node) → Some next ≡ Some (block_node path b)
      → IsPlaced program next
  in_function path calls b low next e =
      subst (λ (n : Node). IsPlaced program n) (sym (same_Some next (block_node path b) e)) (record { path = calls; function = path_low path calls; block = low })

  -- where a switch leads is a block of the function
  target_low : (f b : ℕ) (value : NumberedExpression) (targets : List (ℕ × ℕ)) (others to : ℕ)
      → KeepsEnding program f b (Switch value targets others) → IsTarget targets others to
      → to < length (blocks_at program f)
  target_low f b value targets others to keep is = elim is [
    | inl e ↦ subst (λ (n : ℕ). n < length (blocks_at program f)) (sym e) keep.there
    | inr among ↦ let target = mapped (λ (target : ℕ × ℕ). target.1) targets to among in
        subst (λ (n : ℕ). n < length (blocks_at program f)) target.2 ((All-contains (TargetKeeps program f keep.size) targets target.0 keep.targets_keep target.1).there)
  ]

  -- where a return leads is placed
  back_placed : (path : List ℕ) → IsCallPath program path → (b : ℕ) (ending : Option BlockEnding)
      → ending_at program (function_at program path) b ≡ ending → (next : Node) → BackLeads path ending (Some next)
      → IsPlaced program next
  back_placed path calls b None e next h = absurd h
  back_placed path calls b (Some (Fall after)) e next h = absurd h
  back_placed path calls b (Some (Jump to)) e next h = absurd h
  back_placed path calls b (Some (Switch value targets others)) e next h = absurd h
  back_placed path calls b (Some (Call f args result after)) e next h =
      in_function path calls after ((ending_keeps (function_at program path) b (Call f args result after) (path_low path calls) e).goes_on.there) next h
  back_placed path calls b (Some (Return value)) e next h = absurd h

  return_placed : (path : List ℕ) → IsCallPath program path → (next : Node) → ReturnLeads program path (Some next)
      → IsPlaced program next
  return_placed [] calls next h = absurd (cc)
  return_placed (b ∷ path) calls next h = back_placed path calls.1 b (ending_at program (function_at program path) b) refl next h

  -- where a block leads is placed
  end_placed : (path : List ℕ) → IsCallPath program path → (b : ℕ) (ending : Option BlockEnding)
      → ending_at program (function_at program path) b ≡ ending → (next : Node)
      → EndLeads program path b ending (Some next) → IsPlaced program next
  end_placed path calls b None e next h = absurd h
  end_placed path calls b (Some (Fall after)) e next h = in_function path calls after ((ending_keeps (function_at program path) b (Fall after) (path_low path calls) e).there) next h
  end_placed path calls b (Some (Jump to)) e next h = in_function path calls to (ending_keeps (function_at program path) b (Jump to) (path_low path calls) e) next h
  end_placed path calls b (Some (Switch value targets others)) e next h =
      in_function path calls h.0 (target_low (function_at program path) b value targets others h.0 (ending_keeps (function_at program path) b (Switch value targets others) (path_low path calls) e) h.1) next h.2
  end_placed path calls b (Some (Call f args result after)) e next h =
      let call : IsCall program (function_at program path) b = record { callee = f; args = args; result = result; next = after; ends = e } in
      let longer : IsCallPath program (b ∷ path) = (call, calls) in
      subst (λ (n : Node). IsPlaced program n) (sym (same_Some next (entry_node (b ∷ path)) h)) (record { path = longer; function = path_low (b ∷ path) longer; block = tt })
  end_placed path calls b (Some (Return value)) e next h = return_placed path calls next h

  -- where a placed node leads is placed
  pub next_is_placed : (node next : Node) → IsPlaced program node → Leads program node (Some next)
      → IsPlaced program next
  next_is_placed node next placed h = by_block node.block h where
    by_block : (block : Option ℕ) → PlaceLeads program node.path block (Some next) → IsPlaced program next
    by_block None h = in_function node.path placed.path 0 (first_block (function_at program node.path) placed.function) next h
    by_block (Some b) h = end_placed node.path placed.path b (ending_at program (function_at program node.path) b) refl next h

  -- a node that is kept has a call path, and its block is one of the function there
  pub kept_is_placed : (node : Node) → IsKeptNode program node → IsPlaced program node
  kept_is_placed _ first = record { path = tt; function = keeps.root; block = tt }
  kept_is_placed _ (goes_on node next kept leads) = next_is_placed node next (kept_is_placed node kept) leads
