-- The text of a report.
--   begins w, a_word w, a_number n, a_whole z   marks: a word that begins a line, and words after a space
--   X_marks x        the marks of X, as node_marks n x of the node n
--   report_marks r   the marks of a report, of which the last is the empty word after the last line feed
--   report_text r    its text
use Rattle.std.specs.Prelude.{ℕ, suc, ℤ, List, [], ◌∷◌, ◌++◌, true, false, Option, Some, None, codes}
use Rattle.std.specs.List.{flat_map}
use Rattle.std.specs.Fmt.{decimal, signed_decimal}
use Rattle.alf_ops.specs.declared.history.RunFault.{RunFault}
use Rattle.alf_ops.specs.declared.history.RunFault.TheVariants.{Divide, Uninit, Mixed, Bounds, Dead as DeadFrame, Kind, Pointers}
use Rattle.domain_core.specs.declared.event.Event.{Event}
use Rattle.domain_core.specs.declared.event.Event.TheVariants.{Step, Merge}
use Rattle.domain_core.specs.declared.outline.ScopeRow.{ScopeRow}
use Rattle.domain_core.specs.declared.scope_kind.ScopeKind.{ScopeKind}
use Rattle.domain_core.specs.declared.scope_kind.ScopeKind.TheVariants.{Call, Loop as LoopScope}
use Rattle.flow_facts.specs.declared.fact.Fact.{Fact}
use Rattle.flow_facts.specs.declared.fact.Fact.TheVariants.{Loop, Count, Dead, Total, Pair, Alarm}
use Rattle.flow_facts.specs.declared.report.BoundWord.{BoundWord}
use Rattle.flow_facts.specs.declared.report.BoundWord.TheVariants.{Least, Stopped}
use Rattle.flow_facts.specs.Reports.{NamedNode, Certificate, Reported}
use Rattle.fact_words.specs.Printed.{Mark, text_of_marks}

-- ---- one word

-- a word that begins a line
abbrev pub begins : List ℕ → Mark
begins w = record { line = true; text = w }

-- a word after a space
abbrev pub a_word : List ℕ → Mark
a_word w = record { line = false; text = w }

-- a number has no zeros before its digits
abbrev pub a_number : ℕ → Mark
a_number n = a_word (decimal n)

-- a whole number below 0 has a minus before its digits
abbrev pub a_whole : ℤ → Mark
a_whole z = a_word (signed_decimal z)

-- ---- nodes and scopes

abbrev pub node_marks : ℕ → NamedNode → List Mark
node_marks n x = begins (codes "node") ∷ a_number n ∷ a_number x.scope ∷ a_number x.cost ∷ a_word x.name ∷ []

-- of the node n and those after it
abbrev pub nodes_marks : ℕ → List NamedNode → List Mark
nodes_marks n [] = []
nodes_marks n (x ∷ xs) = node_marks n x ++ nodes_marks (suc n) xs

abbrev pub parent_mark : Option ℕ → Mark
parent_mark None = a_word (codes "-")
parent_mark (Some s) = a_number s

abbrev pub scope_word : ScopeKind → List ℕ
scope_word Call = codes "call"
scope_word LoopScope = codes "loop"

abbrev pub scope_marks : ℕ → ScopeRow → List Mark
scope_marks n x = begins (codes "scope") ∷ a_number n ∷ parent_mark x.parent ∷ a_number x.header ∷ a_word (scope_word x.kind) ∷ []

abbrev pub scopes_marks : ℕ → List ScopeRow → List Mark
scopes_marks n [] = []
scopes_marks n (x ∷ xs) = scope_marks n x ++ scopes_marks (suc n) xs

-- ---- facts

abbrev pub fault_word : RunFault → List ℕ
fault_word Divide = codes "divide"
fault_word Uninit = codes "uninit"
fault_word Mixed = codes "mixed"
fault_word Bounds = codes "bounds"
fault_word DeadFrame = codes "dead"
fault_word Kind = codes "kind"
fault_word Pointers = codes "pointers"

abbrev pub fact_marks : Fact → List Mark
fact_marks (Loop s low high) = begins (codes "loop") ∷ a_number s ∷ a_number low ∷ a_number high ∷ []
fact_marks (Count s n low high) = begins (codes "count") ∷ a_number s ∷ a_number n ∷ a_number low ∷ a_number high ∷ []
fact_marks (Dead n) = begins (codes "dead") ∷ a_number n ∷ []
fact_marks (Total n low high) = begins (codes "total") ∷ a_number n ∷ a_number low ∷ a_number high ∷ []
fact_marks (Pair s a b) = begins (codes "pair") ∷ a_number s ∷ a_number a ∷ a_number b ∷ []
fact_marks (Alarm n kind) = begins (codes "alarm") ∷ a_number n ∷ a_word (fault_word kind) ∷ []

-- ---- bounds and certificates

abbrev pub count_bound_marks : ℕ → List Mark
count_bound_marks v = begins (codes "count-bound") ∷ a_number v ∷ []

abbrev pub bound_word : BoundWord → List ℕ
bound_word Least = codes "least"
bound_word Stopped = codes "stopped"

abbrev pub path_bound_marks : ℕ × BoundWord → List Mark
path_bound_marks bound = begins (codes "path-bound") ∷ a_number bound.0 ∷ a_word (bound_word bound.1) ∷ []

abbrev pub event_marks : Event → List Mark
event_marks (Step i) = begins (codes "step") ∷ a_number i ∷ []
event_marks (Merge i j) = begins (codes "merge") ∷ a_number i ∷ a_number j ∷ []

abbrev pub scale_marks : ℤ → List Mark
scale_marks z = begins (codes "scale") ∷ a_whole z ∷ []

abbrev pub multiplier_marks : ℤ → List Mark
multiplier_marks z = begins (codes "mul") ∷ a_whole z ∷ []

abbrev pub cert_marks : Certificate → List Mark
cert_marks c = begins (codes "cert") ∷ [] ++ flat_map event_marks c.events ++ scale_marks c.scale ++ flat_map multiplier_marks c.multipliers

-- nothing where there is none
abbrev pub if_any : {A : Type 0} → (A → List Mark) → Option A → List Mark
if_any marks None = []
if_any marks (Some x) = marks x

-- ---- reports

abbrev pub heading_marks : ℕ → List Mark
heading_marks form = begins (codes "facts") ∷ a_number form ∷ []

-- the lists
abbrev pub lists_marks : Reported → List Mark
lists_marks r = nodes_marks 0 r.nodes ++ scopes_marks 0 r.scopes ++ flat_map fact_marks r.facts

abbrev pub ending_marks : List Mark
ending_marks = begins (codes "end") ∷ begins [] ∷ []

-- the bounds, the certificate and the end
abbrev pub tail_marks : Reported → List Mark
tail_marks r = count_bound_marks r.count_bound ++ if_any path_bound_marks r.path_bound ++ if_any cert_marks r.cert ++ ending_marks

abbrev pub report_marks : Reported → List Mark
report_marks r = heading_marks r.form ++ lists_marks r ++ tail_marks r

abbrev pub report_text : Reported → List ℕ
report_text r = text_of_marks (report_marks r)
