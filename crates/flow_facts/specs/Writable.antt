-- Which reports some text spells, said of the reports alone.
--   IsNumber n                  it fits 32 bits
--   IsName name                 1 to 64 bytes that may stand between quotes
--   IsPathName text             the root's name, then for each call a dot, a block and the called function's name
--   IsNodeName text             a path's name, a colon, and the word entry or a block
--   kind_place fact             the place of the fact's kind in the order of lines
--   fault_code kind             the number of a fault
--   numbers_of fact             the numbers of the fact's line
--   IsBefore f g                the line of f stands before that of g
--   FactIsWritable form fact    numbers that fit, the least count before the greatest, and a form that has this kind
--   NodeIsWritable, ScopeIsWritable, EventIsWritable   what stands in a line of a node, a scope, an event
--   IsLong y                    the whole number fits 128 bits with its sign
--   CertificateIsWritable cert  the scale is at least 1, and all numbers fit
--   IsWritable report           so everywhere in the report, and its facts are in the order of lines, no two the same
-- Whether scopes and nodes that are named are there, and whether the numbers are right, is not asked here.
use Rattle.std.specs.Prelude.{◌≡◌, ◌≢◌, ◌<◌, ◌≤◌, ◌^◌, ◌⊎◌, ◌++◌, ℕ, ℤ, pos, negsuc, List, [], ◌∷◌, length, codes, All, AllPairs, IfSome}
use Rattle.std.specs.Fmt.{decimal}
use Rattle.std.specs.Cmp.Lexicographic.{slice_cmp}
use Rattle.std.specs.Ordering.{nat_cmp}
use Rattle.std.specs.declared.cmp.Ordering.TheVariants.{Less}
use Rattle.alf_ops.specs.declared.history.RunFault.{RunFault}
use Rattle.alf_ops.specs.declared.history.RunFault.TheVariants.{Divide, Uninit, Mixed, Bounds, Dead as DeadFrame, Kind, Pointers}
use Rattle.domain_core.specs.declared.event.Event.{Event}
use Rattle.domain_core.specs.declared.event.Event.TheVariants.{Step, Merge}
use Rattle.domain_core.specs.declared.outline.ScopeRow.{ScopeRow}
use Rattle.flow_facts.specs.declared.fact.Fact.{Fact}
use Rattle.flow_facts.specs.declared.fact.Fact.TheVariants.{Loop, Count, Dead, Total, Pair, Alarm}
use Rattle.flow_facts.specs.Reports.{NamedNode, Certificate, Reported}

-- ---- numbers and names

abbrev pub IsNumber : ℕ → Type 0
IsNumber n = n < 2 ^ 32

-- a byte from the space to the tilde, but no quote and no backslash
pub record IsNameByte (byte : ℕ) : Type 0 where
  pub from_space : 32 ≤ byte
  pub to_tilde : byte ≤ 126
  pub no_quote : byte ≢ 34
  pub no_backslash : byte ≢ 92

pub record IsName (name : List ℕ) : Type 0 where
  pub some : 1 ≤ length name
  pub short : length name ≤ 64
  pub bytes : All IsNameByte name

abbrev pub quoted : List ℕ → List ℕ
quoted name = 34 ∷ (name ++ 34 ∷ [])

-- the root's name, then for each call a dot, a block and the called function's name
pub data IsPathName : List ℕ → Type 0 where
  of_root : (name : List ℕ) → IsName name → IsPathName (quoted name)
  of_call : (text name : List ℕ) (b : ℕ) → IsPathName text → IsNumber b → IsName name
      → IsPathName (text ++ (46 ∷ (decimal b ++ quoted name)))

-- a path's name, a colon, and the word entry or a block
pub data IsNodeName : List ℕ → Type 0 where
  of_entry : (text : List ℕ) → IsPathName text → IsNodeName (text ++ (58 ∷ codes "entry"))
  of_block : (text : List ℕ) (b : ℕ) → IsPathName text → IsNumber b → IsNodeName (text ++ (58 ∷ decimal b))

-- ---- the order of facts

-- the place of the fact's kind in the order of lines
abbrev pub kind_place : Fact → ℕ
kind_place (Loop s low high) = 0
kind_place (Count s n low high) = 1
kind_place (Dead n) = 2
kind_place (Total n low high) = 3
kind_place (Pair s a b) = 4
kind_place (Alarm n fault) = 5

-- the number of a fault
abbrev pub fault_code : RunFault → ℕ
fault_code Divide = 30
fault_code Uninit = 31
fault_code Mixed = 32
fault_code Bounds = 33
fault_code DeadFrame = 34
fault_code Kind = 35
fault_code Pointers = 36

-- the numbers of the fact's line
abbrev pub numbers_of : Fact → List ℕ
numbers_of (Loop s low high) = s ∷ low ∷ high ∷ []
numbers_of (Count s n low high) = s ∷ n ∷ low ∷ high ∷ []
numbers_of (Dead n) = n ∷ []
numbers_of (Total n low high) = n ∷ low ∷ high ∷ []
numbers_of (Pair s a b) = s ∷ a ∷ b ∷ []
numbers_of (Alarm n fault) = n ∷ fault_code fault ∷ []

-- the line of f stands before that of g: by kind, then by the numbers from left to right
abbrev pub IsBefore : Fact → Fact → Type 0
IsBefore f g = slice_cmp nat_cmp (kind_place f ∷ numbers_of f) (kind_place g ∷ numbers_of g) ≡ Less

-- ---- lines

-- numbers that fit, the least count before the greatest, and a form that has this kind
abbrev pub FactIsWritable : ℕ → Fact → Type 0
FactIsWritable form (Loop s low high) = IsNumber s × (low ≤ high) × IsNumber high
FactIsWritable form (Count s n low high) = (form ≡ 2) × IsNumber s × IsNumber n × (low ≤ high) × IsNumber high
FactIsWritable form (Dead n) = IsNumber n
FactIsWritable form (Total n low high) = IsNumber n × (low ≤ high) × IsNumber high
FactIsWritable form (Pair s a b) = IsNumber s × IsNumber a × IsNumber b
FactIsWritable form (Alarm n fault) = IsNumber n

pub record NodeIsWritable (node : NamedNode) : Type 0 where
  pub scope : IsNumber node.scope
  pub cost : IsNumber node.cost
  pub name : IsNodeName node.name

pub record ScopeIsWritable (scope : ScopeRow) : Type 0 where
  pub parent : IfSome scope.parent IsNumber
  pub header : IsNumber scope.header

abbrev pub EventIsWritable : Event → Type 0
EventIsWritable (Step i) = IsNumber i
EventIsWritable (Merge i j) = IsNumber i × IsNumber j

-- the whole number fits 128 bits with its sign
abbrev pub IsLong : ℤ → Type 0
IsLong (pos n) = n < 2 ^ 127
IsLong (negsuc n) = n < 2 ^ 127

-- at least 1
abbrev pub IsScale : ℤ → Type 0
IsScale scale = (n : ℕ) × (scale ≡ pos n) × (1 ≤ n) × (n < 2 ^ 127)

pub record CertificateIsWritable (cert : Certificate) : Type 0 where
  pub events : All EventIsWritable cert.events
  pub scale : IsScale cert.scale
  pub multipliers : All IsLong cert.multipliers

-- so everywhere in the report, and its facts are in the order of lines, no two the same
pub record IsWritable (report : Reported) : Type 0 where
  pub form : (report.form ≡ 1) ⊎ (report.form ≡ 2)
  pub few_nodes : length report.nodes ≤ 2 ^ 32
  pub nodes : All NodeIsWritable report.nodes
  pub few_scopes : length report.scopes ≤ 2 ^ 32
  pub scopes : All ScopeIsWritable report.scopes
  pub facts : All (FactIsWritable report.form) report.facts
  pub ascends : AllPairs IsBefore report.facts
  pub count_bound : report.count_bound < 2 ^ 64
  pub path_bound : IfSome report.path_bound (λ bound. bound.0 < 2 ^ 64)
  pub certificate : IfSome report.cert CertificateIsWritable
