-- Names of nodes of a graph are names of nodes in reports.
--   node_name     why
--   names_spelled what holds of the names of a graph's nodes holds of the rows of an outline that has them
use Rattle.std.specs.Prelude.{All}
use Rattle.std.proofs.Common.{◌≡◌, ℕ, List, [], ◌∷◌, map, sym, subst}
use Rattle.std.proofs.lemmas.List.Elements.{All-weaker, All-nil, All-cons, All-head, All-tail}
use Rattle.alf_program.specs.Writable.{IsName as IsWrittenName, IsNameByte as IsWrittenByte}
use Rattle.flow_graph.specs.Names.{IsNodeName as IsGraphName, IsPathName as IsGraphPath}
use Rattle.flow_graph.specs.Names as graphs
use Rattle.flow_facts.specs.Writable.{IsName, IsNameByte, IsPathName, IsNodeName, of_root, of_call, of_entry, of_block}
use Rattle.domain_core.specs.declared.outline.NodeRow.{NodeRow}
use Rattle.domain_core.specs.Outlines.{Outlined}

name_byte : (byte : ℕ) → IsWrittenByte byte → IsNameByte byte
name_byte byte is = record { from_space = is.from_space; to_tilde = is.to_tilde; no_quote = is.no_quote; no_backslash = is.no_backslash }

name_of : (name : List ℕ) → IsWrittenName name → IsName name
name_of name is = record { some = is.some; short = is.short; bytes = All-weaker IsWrittenByte IsNameByte name_byte name is.bytes }

path_name : {text : List ℕ} → IsGraphPath text → IsPathName text
path_name (graphs.of_root name is) = of_root name (name_of name is)
path_name (graphs.of_call text name b path low is) = of_call text name b (path_name path) low (name_of name is)

-- a name of a graph's node is one in a report
pub node_name : {text : List ℕ} → IsGraphName text → IsNodeName text
node_name (graphs.of_entry text path) = of_entry text (path_name path)
node_name (graphs.of_block text b path low) = of_block text b (path_name path) low

rows_named : (rows : List NodeRow) → All IsGraphName (map (λ row. row.name.items) rows)
    → All (λ (row : NodeRow). IsNodeName row.name.items) rows
rows_named [] spelled = All-nil (λ (row : NodeRow). IsNodeName row.name.items)
rows_named (row ∷ rows) spelled = All-cons (λ (r : NodeRow). IsNodeName r.name.items) row rows
    (node_name (All-head IsGraphName row.name.items (map (λ r. r.name.items) rows) spelled))
    (rows_named rows (All-tail IsGraphName row.name.items (map (λ r. r.name.items) rows) spelled))

-- what holds of the names of a graph's nodes holds of the rows that have them
pub names_spelled : (o : Outlined) (names : List (List ℕ)) → map (λ row. row.name.items) o.nodes ≡ names
    → All IsGraphName names → All (λ (row : NodeRow). IsNodeName row.name.items) o.nodes
names_spelled o names same spelled = rows_named o.nodes (subst (All IsGraphName) (sym same) spelled)
