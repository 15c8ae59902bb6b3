-- Names of nodes.
--   quoted name              a name in quotes
--   name_at program f        the name of function f
--   path_name program path   the root's name, then for each call from the root on a dot, the block and the called function's name
--   node_name program node   the name of a node
--   IsPathName text          the text is a name of a call path, as reports spell it
--   IsNodeName text          the text is a name of a node, as reports spell it
use Rattle.std.specs.Prelude.{◌<◌, ◌^◌, ℕ, List, [], ◌∷◌, ◌++◌, Option, None, Some, slice_get, codes}
use Rattle.std.specs.Option.{option_map_or}
use Rattle.std.specs.Fmt.{decimal}
use Rattle.alf_program.specs.Writable.{IsName}
use Rattle.alf_check.specs.CheckedPrograms.{NumberedProgram, NumberedFunction}
use Rattle.flow_graph.specs.Nodes.{Node, function_at}

-- a name in quotes
abbrev pub quoted : List ℕ → List ℕ
quoted name = 34 ∷ (name ++ 34 ∷ [])

-- the name of function f
abbrev pub name_at : NumberedProgram → ℕ → List ℕ
name_at program f = option_map_or (λ (function : NumberedFunction). function.name) (slice_get program.funcs f) []

-- the root's name, then for each call from the root on a dot, the block and the called function's name
abbrev pub path_name : NumberedProgram → List ℕ → List ℕ
path_name program [] = quoted (name_at program program.root)
path_name program (b ∷ path) = path_name program path ++ (46 ∷ (decimal b ++ quoted (name_at program (function_at program (b ∷ path)))))

-- the entry, or the block
abbrev pub block_word : Option ℕ → List ℕ
block_word None = codes "entry"
block_word (Some b) = decimal b

-- the name of a node
abbrev pub node_name : NumberedProgram → Node → List ℕ
node_name program node = path_name program node.path ++ (58 ∷ block_word node.block)

-- the text is a name of a call path, as reports spell it
pub data IsPathName : List ℕ → Type 0 where
  of_root : (name : List ℕ) → IsName name → IsPathName (quoted name)
  of_call : (text name : List ℕ) (b : ℕ) → IsPathName text → b < 2 ^ 32 → IsName name
      → IsPathName (text ++ (46 ∷ (decimal b ++ quoted name)))

-- the text is a name of a node, as reports spell it
pub data IsNodeName : List ℕ → Type 0 where
  of_entry : (text : List ℕ) → IsPathName text → IsNodeName (text ++ (58 ∷ codes "entry"))
  of_block : (text : List ℕ) (b : ℕ) → IsPathName text → b < 2 ^ 32 → IsNodeName (text ++ (58 ∷ decimal b))
