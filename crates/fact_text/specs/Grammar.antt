-- The grammar, rule by rule. Each rule is exact by its type.
--   Place            where a text is read from: the tokens ahead
--   Rule some A      a part of the grammar that spells values of type A, and takes some of the text where some is true
--   line_word, next_word   one word: the first of a line, and one after a space
--   told r           the answer r, and no text is taken
use Rattle.std.specs.Prelude.{ℕ, suc, ℤ, ◌-◌, ◌^◌, ◌&&◌, ◌||◌, ◌==◌, not, List, [], ◌∷◌, ◌++◌, length, Bool, true, false, Result, Ok, Err, Option, Some, None, nat_le, if◌then◌else◌, codes}
use Rattle.std.specs.Str.{bytes_eq}
use Rattle.std.specs.Cmp.Lexicographic.{slice_cmp}
use Rattle.std.specs.Ordering.{nat_cmp, is_lt}
use Rattle.grammar.specs.Form.{At, first, and_then}
use Rattle.grammar.specs.Rule.{token, judge, refuse, value, ◌>>=◌, ◌>>◌, many, maybe}
use Rattle.grammar.specs.Rule as rules
use Rattle.grammar.specs.Chain.{grow}
use Rattle.alf_ops.specs.declared.history.RunFault.{RunFault}
use Rattle.alf_ops.specs.declared.history.RunFault.TheVariants as causes
use Rattle.domain_core.specs.declared.event.Event.{Event}
use Rattle.domain_core.specs.declared.event.Event.TheVariants.{Step, Merge}
use Rattle.domain_core.specs.declared.outline.ScopeRow.{ScopeRow}
use Rattle.domain_core.specs.declared.scope_kind.ScopeKind.{ScopeKind}
use Rattle.domain_core.specs.declared.scope_kind.ScopeKind.TheVariants as kinds
use Rattle.flow_facts.specs.declared.fact.Fact.{Fact}
use Rattle.flow_facts.specs.declared.fact.Fact.TheVariants.{Loop, Count, Dead, Total, Pair, Alarm}
use Rattle.flow_facts.specs.declared.report.BoundWord.{BoundWord}
use Rattle.flow_facts.specs.declared.report.BoundWord.TheVariants.{Least, Stopped}
use Rattle.flow_facts.specs.Reports.{NamedNode, Certificate, Reported}
use Rattle.flow_facts.specs.Writable.{kind_place, numbers_of}
use Rattle.fact_words.specs.Tokens.{Lexeme}
use Rattle.fact_words.specs.Numbers.{Fault, Syntax, number_within, whole_within, is_positive}
use Rattle.fact_words.specs.Names.{is_node_name}

abbrev pub Place : Type 0
Place = At Lexeme (Unit {0})

abbrev pub Rule : Bool → Type 0 → Type 1
Rule some A = rules.Rule Lexeme (Unit {0}) Fault some A

-- ---- words

-- one word; at the end of the text none fits
abbrev pub one : (Lexeme → Result Lexeme Fault) → Rule true Lexeme
one fit = token (λ at. Syntax 0) (λ t at. fit t)

-- in place of a line feed a further word stands here
abbrev pub begins_line : Lexeme → Result Lexeme Fault
begins_line t = if t.line then Ok t else Err (Syntax t.left)

-- in place of a further word a line feed stands right before this one
abbrev pub goes_on : Lexeme → Result Lexeme Fault
goes_on t = if t.line then Err (Syntax (suc t.left)) else Ok t

-- the first word of a line
unfoldable pub line_word : Rule true Lexeme
line_word = one begins_line

-- a word after a space
unfoldable pub next_word : Rule true Lexeme
next_word = one goes_on

-- an answer that is known, and no text is taken
unfoldable pub told : {A : Type 0} → Result A Fault → Rule false A
told r = judge (λ at. r)

-- the word, where this holds of it
abbrev pub only_if : {A : Type 0} → Bool → A → ℕ → Result A Fault
only_if b x left = if b then Ok x else Err (Syntax left)

-- nothing, where this holds
abbrev pub check : Bool → ℕ → Result (Unit {0}) Fault
check b left = only_if b tt left

-- this word begins the line
unfoldable pub begins : List ℕ → Rule true (Unit {0})
begins w = do
  t ← line_word
  told (check (bytes_eq t.text w) t.left)

-- a number of at most so much
unfoldable pub number : ℕ → Rule true ℕ
number most = do
  t ← next_word
  told (number_within most t.text t.left)

-- a number of 32 bits
unfoldable pub count : Rule true ℕ
count = number (2 ^ 32 - 1)

-- a whole number of 128 bits
unfoldable pub whole : Rule true ℤ
whole = do
  t ← next_word
  told (whole_within t.text t.left)

-- ---- choices

abbrev pub either : {A : Type 0} → Bool → Rule true A → Rule true A → Rule true A
either true p q = p
either false p q = q

-- the one rule after this word, the other after any other
abbrev pub after_word : {A : Type 0} → List ℕ → Lexeme → Rule true A → Rule true A → Rule true A
after_word w t p q = either (bytes_eq t.text w) p q

-- a word that was read and is none of those that may stand there
unfoldable pub unknown : {A : Type 0} → Lexeme → Rule true A
unknown t = refuse (λ at. Syntax t.left)

-- ---- where lists go on

abbrev pub is_first : (Lexeme → Bool) → Option Lexeme → Bool
is_first is None = false
is_first is (Some t) = is t

-- a line begins with this word
abbrev pub line_is : List ℕ → Place → Bool
line_is w at = is_first (λ t. t.line && bytes_eq t.text w) (first at)

-- ---- the first line

abbrev pub form_of : Lexeme → Result ℕ Fault
form_of t = if bytes_eq t.text (codes "1") then Ok 1 else only_if (bytes_eq t.text (codes "2")) 2 t.left

-- facts FORM
unfoldable pub heading : Rule true ℕ
heading = do
  begins (codes "facts")
  t ← next_word
  told (form_of t)

-- ---- nodes and scopes

-- this very number, which is that of the members before it
abbrev pub is_next : ℕ → ℕ → ℕ → Result (Unit {0}) Fault
is_next n m left = check (m == n) left

unfoldable pub numbered : ℕ → Rule true (Unit {0})
numbered n = do
  t ← next_word
  m ← told (number_within (2 ^ 32 - 1) t.text t.left)
  told (is_next n m t.left)

unfoldable pub name : Rule true (List ℕ)
name = do
  t ← next_word
  told (only_if (is_node_name t.text) t.text t.left)

-- node N S C NAME
unfoldable pub node : ℕ → Rule true NamedNode
node n = do
  begins (codes "node")
  numbered n
  s ← count
  c ← count
  x ← name
  value (record { scope = s; cost = c; name = x })

abbrev pub next_node : List NamedNode → Rule true (List NamedNode)
next_node done = do
  x ← node (length done)
  value (done ++ x ∷ [])

abbrev pub node_begins : List NamedNode → Place → Bool
node_begins done at = line_is (codes "node") at

abbrev pub parent_of : Lexeme → Result (Option ℕ) Fault
parent_of t = if bytes_eq t.text (codes "-") then Ok None else and_then (number_within (2 ^ 32 - 1) t.text t.left) (λ s. Ok (Some s))

-- the number of a scope, or a dash
unfoldable pub parent : Rule true (Option ℕ)
parent = do
  t ← next_word
  told (parent_of t)

abbrev pub scope_kind_of : Lexeme → Result ScopeKind Fault
scope_kind_of t = if bytes_eq t.text (codes "call") then Ok kinds.Call else only_if (bytes_eq t.text (codes "loop")) kinds.Loop t.left

unfoldable pub scope_kind : Rule true ScopeKind
scope_kind = do
  t ← next_word
  told (scope_kind_of t)

-- scope S P H KIND
unfoldable pub scope : ℕ → Rule true ScopeRow
scope n = do
  begins (codes "scope")
  numbered n
  p ← parent
  h ← count
  k ← scope_kind
  value (record { parent = p; header = h; kind = k })

abbrev pub next_scope : List ScopeRow → Rule true (List ScopeRow)
next_scope done = do
  x ← scope (length done)
  value (done ++ x ∷ [])

abbrev pub scope_begins : List ScopeRow → Place → Bool
scope_begins done at = line_is (codes "scope") at

-- ---- facts

-- the kind of fact that a word names, by its place in the order of lines
unfoldable pub place_of_word : List ℕ → Option ℕ
place_of_word w =
    if bytes_eq w (codes "loop") then Some 0
    else if bytes_eq w (codes "count") then Some 1
    else if bytes_eq w (codes "dead") then Some 2
    else if bytes_eq w (codes "total") then Some 3
    else if bytes_eq w (codes "pair") then Some 4
    else if bytes_eq w (codes "alarm") then Some 5
    else None

abbrev pub is_place : Option ℕ → Bool
is_place None = false
is_place (Some k) = true

-- a line of a fact begins
abbrev pub fact_begins : List Fact → Place → Bool
fact_begins done at = is_first (λ t. t.line && is_place (place_of_word t.text)) (first at)

-- the place of the kind of the last fact
abbrev pub last_place : Option Fact → ℕ
last_place None = 0
last_place (Some f) = kind_place f

-- a fact of this kind may come after the last, and counts stand in form 2 alone
abbrev pub may_stand : ℕ → Option Fact → Option ℕ → Bool
may_stand form last None = false
may_stand form last (Some k) = nat_le (last_place last) k && (not (k == 1) || (form == 2))

-- LO HI, with the place of HI
unfoldable pub bounds : Rule true (ℕ × ℕ × ℕ)
bounds = do
  low ← count
  t ← next_word
  high ← told (number_within (2 ^ 32 - 1) t.text t.left)
  value (low, high, t.left)

-- loop S LO HI; here and below after its word, with the place at which LO is held against HI
unfoldable pub loop_fact : Rule true (Fact × ℕ)
loop_fact = do
  s ← count
  b ← bounds
  value (Loop s b.0 b.1, b.2)

-- count S N LO HI
unfoldable pub count_fact : Rule true (Fact × ℕ)
count_fact = do
  s ← count
  n ← count
  b ← bounds
  value (Count s n b.0 b.1, b.2)

-- dead N
unfoldable pub dead_fact : Rule true (Fact × ℕ)
dead_fact = do
  n ← count
  value (Dead n, 0)

-- total N LO HI
unfoldable pub total_fact : Rule true (Fact × ℕ)
total_fact = do
  n ← count
  b ← bounds
  value (Total n b.0 b.1, b.2)

-- pair S A B
unfoldable pub pair_fact : Rule true (Fact × ℕ)
pair_fact = do
  s ← count
  a ← count
  b ← count
  value (Pair s a b, 0)

abbrev pub cause_of : Lexeme → Result RunFault Fault
cause_of t =
    if bytes_eq t.text (codes "divide") then Ok causes.Divide
    else if bytes_eq t.text (codes "uninit") then Ok causes.Uninit
    else if bytes_eq t.text (codes "mixed") then Ok causes.Mixed
    else if bytes_eq t.text (codes "bounds") then Ok causes.Bounds
    else if bytes_eq t.text (codes "dead") then Ok causes.Dead
    else if bytes_eq t.text (codes "kind") then Ok causes.Kind
    else only_if (bytes_eq t.text (codes "pointers")) causes.Pointers t.left

-- the word of a fault
unfoldable pub cause : Rule true RunFault
cause = do
  t ← next_word
  told (cause_of t)

-- alarm N KIND
unfoldable pub alarm_fact : Rule true (Fact × ℕ)
alarm_fact = do
  n ← count
  k ← cause
  value (Alarm n k, 0)

-- what stands after the word of a line
unfoldable pub fact_tail : Lexeme → Rule true (Fact × ℕ)
fact_tail w =
    after_word (codes "loop") w loop_fact (after_word (codes "count") w count_fact (after_word (codes "dead") w dead_fact
    (after_word (codes "total") w total_fact (after_word (codes "pair") w pair_fact (after_word (codes "alarm") w alarm_fact (unknown w))))))

-- the line of f stands before that of g
unfoldable pub stands_before : Fact → Fact → Bool
stands_before f g = is_lt (slice_cmp nat_cmp (kind_place f ∷ numbers_of f) (kind_place g ∷ numbers_of g))

abbrev pub follows : Option Fact → Fact → Bool
follows None f = true
follows (Some g) f = stands_before g f

abbrev pub low_fits : Fact → Bool
low_fits (Loop s low high) = nat_le low high
low_fits (Count s n low high) = nat_le low high
low_fits (Total n low high) = nat_le low high
low_fits (Dead n) = true
low_fits (Pair s a b) = true
low_fits (Alarm n k) = true

-- a line of a fact, after that of the last
unfoldable pub fact : ℕ → Option Fact → Rule true Fact
fact form last = do
  w ← line_word
  told (check (may_stand form last (place_of_word w.text)) w.left)
  x ← fact_tail w
  told (check (follows last x.0) w.left)
  told (only_if (low_fits x.0) x.0 x.1)

abbrev pub or_last : Fact → Option Fact → Option Fact
or_last f None = Some f
or_last f (Some g) = Some g

abbrev pub last_of : List Fact → Option Fact
last_of [] = None
last_of (f ∷ fs) = or_last f (last_of fs)

abbrev pub next_fact : ℕ → List Fact → Rule true (List Fact)
next_fact form done = do
  f ← fact form (last_of done)
  value (done ++ f ∷ [])

-- ---- bounds

-- count-bound V
unfoldable pub count_bound : Rule true ℕ
count_bound = do
  begins (codes "count-bound")
  v ← number (2 ^ 64 - 1)
  value v

abbrev pub bound_word_of : Lexeme → Result BoundWord Fault
bound_word_of t = if bytes_eq t.text (codes "least") then Ok Least else only_if (bytes_eq t.text (codes "stopped")) Stopped t.left

-- path-bound V WORD
unfoldable pub path_bound : Rule true (ℕ × BoundWord)
path_bound = do
  begins (codes "path-bound")
  v ← number (2 ^ 64 - 1)
  t ← next_word
  w ← told (bound_word_of t)
  value (v, w)

-- ---- certificates

abbrev pub event_begins : Place → Bool
event_begins at = is_first (λ t. t.line && (bytes_eq t.text (codes "step") || bytes_eq t.text (codes "merge"))) (first at)

-- step I
unfoldable pub step : Rule true Event
step = do
  i ← count
  value (Step i)

-- merge I J
unfoldable pub merge : Rule true Event
merge = do
  i ← count
  j ← count
  value (Merge i j)

unfoldable pub event_tail : Lexeme → Rule true Event
event_tail w = after_word (codes "step") w step (after_word (codes "merge") w merge (unknown w))

unfoldable pub event : Rule true Event
event = do
  w ← line_word
  event_tail w

-- scale D
unfoldable pub scale : Rule true ℤ
scale = do
  begins (codes "scale")
  t ← next_word
  z ← told (whole_within t.text t.left)
  told (only_if (is_positive z) z t.left)

-- mul Y
unfoldable pub multiplier : Rule true ℤ
multiplier = do
  begins (codes "mul")
  y ← whole
  value y

unfoldable pub cert : Rule true Certificate
cert = do
  begins (codes "cert")
  events ← many event_begins event
  d ← scale
  ys ← many (line_is (codes "mul")) multiplier
  value (record { events = events; scale = d; multipliers = ys })

-- ---- reports

-- end, and its line feed, after which nothing is left
unfoldable pub ending : Rule true (Unit {0})
ending = do
  begins (codes "end")
  t ← line_word
  told (check (t.left == 0) t.left)

-- the nodes, scopes and facts
unfoldable pub lists : ℕ → Rule false (List NamedNode × List ScopeRow × List Fact)
lists form = do
  nodes ← grow node_begins next_node []
  scopes ← grow scope_begins next_scope []
  facts ← grow fact_begins (next_fact form) []
  value (nodes, scopes, facts)

-- the bounds, the certificate and the end
unfoldable pub tail : Rule true (ℕ × Option (ℕ × BoundWord) × Option Certificate)
tail = do
  v ← count_bound
  path ← maybe (line_is (codes "path-bound")) path_bound
  c ← maybe (line_is (codes "cert")) cert
  ending
  value (v, path, c)

-- REPORT
unfoldable pub report : Rule true Reported
report = do
  form ← heading
  l ← lists form
  t ← tail
  value (record { form = form; nodes = l.0; scopes = l.1; facts = l.2; count_bound = t.0; path_bound = t.1; cert = t.2 })
