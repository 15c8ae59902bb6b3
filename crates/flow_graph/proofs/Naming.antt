-- Names of nodes.
--   node_spelled   the name of a node is one that reports spell
--   same_name      nodes of one name are one
use Rattle.std.proofs.Common.{◌≡◌, ◌<◌, ◌≤◌, ◌+◌, ◌^◌, ◌%◌, ℕ, zero, suc, List, [], ◌∷◌, ◌++◌, length, reverse, Option, Some, None, slice_get, drop, Contains, All, refl, ap, sym, ◌∙◌, subst, arith}
use Rattle.std.specs.Prelude.{codes}
use Rattle.std.specs.Fmt.{decimal}
use Rattle.std.specs.Option.{option_map_or}
use Rattle.std.proofs.lemmas.Fmt.{decimal_by_steps, decimal_injective}
use Rattle.std.proofs.lemmas.List.{append_assoc, append_cancel_left, append-nil, reverse-append, reverse-reverse}
use Rattle.std.proofs.lemmas.List.Elements.{All-nil, All-cons, All-head, All-tail, All-append, All-contains}
use Rattle.std.proofs.lemmas.Option.{same_Some}
use Rattle.lists.specs.MemberLaws.{contained, placed}
use Rattle.alf_program.specs.Tree.{Function, WholeProgram}
use Rattle.alf_program.specs.Writable.{IsName, FunctionIsWritable}
use Rattle.alf_check.specs.CheckedPrograms.{NumberedProgram, NumberedFunction, Call, blocks_at}
use Rattle.alf_check.specs.Numbered.{functions_from, numbered}
use Rattle.alf_check.specs.Kept.{IsKept}
use Rattle.flow_graph.specs.Nodes.{Node, callee_of, ending_at, function_at}
use Rattle.flow_graph.specs.Names.{quoted, name_at, path_name, block_word, node_name, IsPathName, of_root, of_call, IsNodeName, of_entry, of_block}
use Rattle.flow_graph.specs.Paths.{IsCallPath, HasBlock, IsPlaced}
use Rattle.flow_graph.specs.PathLaws.{ending_low, function_there, path_low}

-- ---- digits

-- a digit
record IsDigit (byte : ℕ) : Type 0 where
  least : 48 ≤ byte
  most : byte ≤ 57

decimal_digits : (n : ℕ) → n < 2 ^ 64 → All IsDigit (decimal n)
decimal_digits n low = decimal_by_steps (λ m ds. All IsDigit ds)
    (λ m small. All-cons IsDigit (48 + m) [] (record { least = omega arith; most = omega arith }) (All-nil IsDigit))
    (λ m ds large all. All-append IsDigit ds ((48 + m % 10) ∷ []) all (All-cons IsDigit (48 + m % 10) [] (record { least = omega arith; most = omega arith }) (All-nil IsDigit)))
    n low

-- what stands before the first quote, and after it
before_quote : (xs ys more others : List ℕ) → All IsDigit xs → All IsDigit ys → xs ++ 34 ∷ more ≡ ys ++ 34 ∷ others
    → (xs ≡ ys) × (more ≡ others)
before_quote [] [] more others a b e = (refl, cc)
before_quote [] (y ∷ ys) more others a b e = let d = All-head IsDigit y ys b in let least = d.least in let same : 34 ≡ y = cc in absurd (omega arith)
before_quote (x ∷ xs) [] more others a b e = let d = All-head IsDigit x xs a in let least = d.least in let same : x ≡ 34 = cc in absurd (omega arith)
before_quote (x ∷ xs) (y ∷ ys) more others a b e =
    let first : x ≡ y = cc in
    let rest = before_quote xs ys more others (All-tail IsDigit x xs a) (All-tail IsDigit y ys b) (cc) in
    (ap (λ z. z ∷ xs) first ∙ ap (λ zs. y ∷ zs) rest.0, rest.1)

-- a block has a number of 32 bits
abbrev IsSmall : Option ℕ → Type 0
IsSmall None = Unit {0}
IsSmall (Some b) = b < 2 ^ 32

not_entry : (b : ℕ) → b < 2 ^ 32 → codes "entry" ≡ decimal b → ⊥
not_entry b low e =
    let all : All IsDigit (codes "entry") = subst (λ (xs : List ℕ). All IsDigit xs) (sym e) (decimal_digits b (omega arith)) in
    let d : IsDigit 101 = all 0 0 (omega arith) in
    let most = d.most in
    absurd (omega arith)

-- a word is that of one block
same_word : (a b : Option ℕ) → IsSmall a → IsSmall b → block_word a ≡ block_word b → a ≡ b
same_word None None a_low b_low e = refl
same_word None (Some b) a_low b_low e = absurd (not_entry b b_low e)
same_word (Some a) None a_low b_low e = absurd (not_entry a a_low (sym e))
same_word (Some a) (Some b) a_low b_low e = ap Some (decimal_injective a b (omega arith) (omega arith) e)

-- ---- names apart

-- what follows the name of an instance of function f: further calls, the oldest first, and the block
abbrev rest_name : NumberedProgram → ℕ → List ℕ → Option ℕ → List ℕ
rest_name program f [] block = 58 ∷ block_word block
rest_name program f (b ∷ calls) block =
    46 ∷ (decimal b ++ (quoted (name_at program (callee_of (ending_at program f b))) ++ rest_name program (callee_of (ending_at program f b)) calls block))

-- a list turned round, whose first element comes last
reverse_cons : (x : ℕ) (xs : List ℕ) → reverse (x ∷ xs) ≡ reverse xs ++ x ∷ []
reverse_cons x xs = reverse-append (x ∷ []) xs

abbrev node_with : List ℕ → Option ℕ → Node
node_with path block = record { path = path; block = block }

-- what begins with a colon does not begin with a dot
no_call : (xs ys : List ℕ) → 58 ∷ xs ≡ 46 ∷ ys → ⊥
no_call xs ys e = cc

-- a number of 32 bits has no more than 64
wide : (n : ℕ) → n < 2 ^ 32 → n < 2 ^ 64
wide n low = omega arith

-- a call's block and name, and what follows them
same_call : (x y : ℕ) (name other s t : List ℕ) → x < 2 ^ 32 → y < 2 ^ 32
    → 46 ∷ (decimal x ++ (quoted name ++ s)) ≡ 46 ∷ (decimal y ++ (quoted other ++ t))
    → (x ≡ y) × ((name ++ 34 ∷ []) ++ s ≡ (other ++ 34 ∷ []) ++ t)
same_call x y name other s t x_low y_low e =
    let cut = before_quote (decimal x) (decimal y) ((name ++ 34 ∷ []) ++ s) ((other ++ 34 ∷ []) ++ t) (decimal_digits x (wide x x_low)) (decimal_digits y (wide y y_low)) (ap (λ (zs : List ℕ). drop 1 zs) e) in
    (decimal_injective x y (wide x x_low) (wide y y_low) cut.0, cut.1)

module _ (program : NumberedProgram) where
  -- a name is that of an instance, and what follows
  name_parts : (calls start : List ℕ) (block : Option ℕ) → node_name program (node_with (reverse calls ++ start) block) ≡ path_name program start ++ rest_name program (function_at program start) calls block
  name_parts [] start block = refl
  name_parts (b ∷ calls) start block =
      let g : ℕ = function_at program (b ∷ start) in
      let more = name_parts calls (b ∷ start) block in
      ap (λ (path : List ℕ). node_name program (node_with (path ++ start) block)) (reverse_cons b calls)
      ∙ ap (λ (path : List ℕ). node_name program (node_with path block)) (append_assoc (reverse calls) (b ∷ []) start)
      ∙ more
      ∙ append_assoc (path_name program start) (46 ∷ (decimal b ++ quoted (name_at program g))) (rest_name program g calls block)
      ∙ ap (λ (xs : List ℕ). path_name program start ++ (46 ∷ xs)) (append_assoc (decimal b) (quoted (name_at program g)) (rest_name program g calls block))

  -- where what follows is one for the same function, so it is after a call
  same_on : (f x y : ℕ) (xs ys : List ℕ) (a b : Option ℕ) → x < 2 ^ 32 → y < 2 ^ 32
      → rest_name program f (x ∷ xs) a ≡ rest_name program f (y ∷ ys) b
      → ((g : ℕ) → rest_name program g xs a ≡ rest_name program g ys b → (xs ≡ ys) × (a ≡ b)) → (x ∷ xs ≡ y ∷ ys) × (a ≡ b)
  same_on f x y xs ys a b x_low y_low e again =
      let g : ℕ = callee_of (ending_at program f x) in
      let h : ℕ = callee_of (ending_at program f y) in
      let cut = same_call x y (name_at program g) (name_at program h) (rest_name program g xs a) (rest_name program h ys b) x_low y_low e in
      let callee : h ≡ g = ap (λ (z : ℕ). callee_of (ending_at program f z)) (sym cut.0) in
      let tails : (name_at program g ++ 34 ∷ []) ++ rest_name program g xs a ≡ (name_at program g ++ 34 ∷ []) ++ rest_name program g ys b =
      subst (λ (k : ℕ). (name_at program g ++ 34 ∷ []) ++ rest_name program g xs a ≡ (name_at program k ++ 34 ∷ []) ++ rest_name program k ys b) callee cut.1 in
      let rest = again g (append_cancel_left (name_at program g ++ 34 ∷ []) (rest_name program g xs a) (rest_name program g ys b) tails) in
      (ap (λ (z : ℕ). z ∷ xs) cut.0 ∙ ap (λ (zs : List ℕ). y ∷ zs) rest.0, rest.1)

  -- what follows is that of one list of calls and one block
  same_rest : (f : ℕ) (xs ys : List ℕ) (a b : Option ℕ) → All (λ (x : ℕ). x < 2 ^ 32) xs
      → All (λ (y : ℕ). y < 2 ^ 32) ys → IsSmall a → IsSmall b → rest_name program f xs a ≡ rest_name program f ys b
      → (xs ≡ ys) × (a ≡ b)
  same_rest f [] [] a b xs_low ys_low a_low b_low e = (refl, same_word a b a_low b_low (ap (λ (zs : List ℕ). drop 1 zs) e))
  same_rest f [] (y ∷ ys) a b xs_low ys_low a_low b_low e = absurd (no_call _ _ e)
  same_rest f (x ∷ xs) [] a b xs_low ys_low a_low b_low e = absurd (no_call _ _ (sym e))
  same_rest f (x ∷ xs) (y ∷ ys) a b xs_low ys_low a_low b_low e =
      same_on f x y xs ys a b (All-head (λ (x : ℕ). x < 2 ^ 32) x xs xs_low) (All-head (λ (y : ℕ). y < 2 ^ 32) y ys ys_low) e
      (λ g rests. same_rest g xs ys a b (All-tail (λ (x : ℕ). x < 2 ^ 32) x xs xs_low) (All-tail (λ (y : ℕ). y < 2 ^ 32) y ys ys_low) a_low b_low rests)

module _ (program : NumberedProgram) (keeps : IsKept program) where
  -- a block has a number of 32 bits
  low_block : (f b : ℕ) → f < length program.funcs → b < length (blocks_at program f) → b < 2 ^ 32
  low_block f b f_low b_low =
      let owner = function_there program keeps f f_low in
      let few = All-contains (λ (function : NumberedFunction). length function.blocks < 4294967295) program.funcs owner.0 keeps.bounded.blocks (contained program.funcs f owner.0 owner.1) in
      let low = subst (λ blocks. b < length blocks) owner.2 b_low in
      omega arith

  low_calls : (path : List ℕ) → IsCallPath program path → All (λ (b : ℕ). b < 2 ^ 32) path
  low_calls [] calls = All-nil (λ (b : ℕ). b < 2 ^ 32)
  low_calls (b ∷ path) calls =
      let call = calls.0 in
      let low = ending_low program keeps (function_at program path) b (Call call.callee call.args call.result call.next) call.ends in
      All-cons (λ (b : ℕ). b < 2 ^ 32) b path (low_block (function_at program path) b (path_low program keeps path calls.1) low) (low_calls path calls.1)

  low_in : (f : ℕ) (block : Option ℕ) → f < length program.funcs → HasBlock program f block → IsSmall block
  low_in f None f_low has = tt
  low_in f (Some b) f_low has = low_block f b f_low has

  all_reverse : (xs : List ℕ) → All (λ (b : ℕ). b < 2 ^ 32) xs → All (λ (b : ℕ). b < 2 ^ 32) (reverse xs)
  all_reverse [] all = all
  all_reverse (x ∷ xs) all =
      subst (λ (ys : List ℕ). All (λ (b : ℕ). b < 2 ^ 32) ys) (sym (reverse_cons x xs)) (All-append (λ (b : ℕ). b < 2 ^ 32) (reverse xs) (x ∷ []) (all_reverse xs (All-tail (λ (b : ℕ). b < 2 ^ 32) x xs all))
      (All-cons (λ (b : ℕ). b < 2 ^ 32) x [] (All-head (λ (b : ℕ). b < 2 ^ 32) x xs all) (All-nil (λ (b : ℕ). b < 2 ^ 32))))

  whole_name : (node : Node) → node_name program node ≡ quoted (name_at program program.root) ++ rest_name program program.root (reverse node.path) node.block
  whole_name node =
      let twice : reverse (reverse node.path) ++ [] ≡ node.path = append-nil (reverse (reverse node.path)) ∙ reverse-reverse node.path in
      ap (λ (path : List ℕ). node_name program (node_with path node.block)) (sym twice) ∙ name_parts program (reverse node.path) [] node.block

  -- nodes of one name are one
  pub same_name : (m n : Node) → IsPlaced program m → IsPlaced program n → node_name program m ≡ node_name program n
      → m ≡ n
  same_name m n m_placed n_placed e =
      let rests = append_cancel_left (quoted (name_at program program.root)) (rest_name program program.root (reverse m.path) m.block) (rest_name program program.root (reverse n.path) n.block)
      (sym (whole_name m) ∙ e ∙ whole_name n) in
      let same = same_rest program program.root (reverse m.path) (reverse n.path) m.block n.block (all_reverse m.path (low_calls m.path m_placed.path)) (all_reverse n.path (low_calls n.path n_placed.path))
      (low_in (function_at program m.path) m.block m_placed.function m_placed.block) (low_in (function_at program n.path) n.block n_placed.function n_placed.block) rests in
      let paths : m.path ≡ n.path = sym (reverse-reverse m.path) ∙ ap (λ (xs : List ℕ). reverse xs) same.0 ∙ reverse-reverse n.path in
      ap (λ (path : List ℕ). node_with path m.block) paths ∙ ap (λ (block : Option ℕ). node_with n.path block) same.1

  -- ---- names as reports spell them

  named_in : (whole : WholeProgram) (start : ℕ) (funcs : List Function) (f : ℕ) (function : NumberedFunction)
      → slice_get (functions_from whole start funcs) f ≡ Some function
      → (func : Function) × Contains funcs func × (func.name ≡ function.name)
  named_in whole start [] f function e = absurd (cc)
  named_in whole start (func ∷ funcs) zero function e = (func, contained (func ∷ funcs) 0 func refl, ap (λ (o : NumberedFunction). o.name) (same_Some _ function e))
  named_in whole start (func ∷ funcs) (suc f) function e =
      let found = named_in whole (start + (length func.args + length func.decls)) funcs f function e in
      (found.0, contained (func ∷ funcs) (suc found.1.0) found.0 (placed funcs found.0 found.1), found.2)

  -- a function has a name
  function_named : (f : ℕ) → f < length program.funcs → IsName (name_at program f)
  function_named f low =
      let owner = function_there program keeps f low in
      let checked = keeps.checked in
      let at : slice_get (numbered checked.whole checked.root).funcs f ≡ Some owner.0 = subst (λ (p : NumberedProgram). slice_get p.funcs f ≡ Some owner.0) checked.numbers owner.1 in
      let found = named_in checked.whole (length checked.whole.decls) checked.whole.funcs f owner.0 at in
      let writable = All-contains FunctionIsWritable checked.whole.funcs found.0 checked.writable.funcs found.1 in
      let is : name_at program f ≡ owner.0.name = ap (λ (o : Option NumberedFunction). option_map_or (λ (function : NumberedFunction). function.name) o []) owner.1 in
      subst IsName (found.2 ∙ sym is) writable.name

  path_spelled : (path : List ℕ) → IsCallPath program path → IsPathName (path_name program path)
  path_spelled [] calls = of_root (name_at program program.root) (function_named program.root keeps.root)
  path_spelled (b ∷ path) calls =
      of_call (path_name program path) (name_at program (function_at program (b ∷ path))) b (path_spelled path calls.1) (All-head (λ (b : ℕ). b < 2 ^ 32) b path (low_calls (b ∷ path) calls))
      (function_named (function_at program (b ∷ path)) (path_low program keeps (b ∷ path) calls))

  spelled_at : (path : List ℕ) (block : Option ℕ) → IsCallPath program path → IsSmall block
      → IsNodeName (path_name program path ++ (58 ∷ block_word block))
  spelled_at path None calls low = of_entry (path_name program path) (path_spelled path calls)
  spelled_at path (Some b) calls low = of_block (path_name program path) b (path_spelled path calls) low

  -- the name of a node is one that reports spell
  pub node_spelled : (node : Node) → IsPlaced program node → IsNodeName (node_name program node)
  node_spelled node place = spelled_at node.path node.block place.path (low_in (function_at program node.path) node.block place.function place.block)
