-- Which tokens a rule takes where it spells a value: those of the value's canonical text. A line a rule.
use Rattle.std.proofs.Common.{◌≡◌, ◌<◌, ◌-◌, ◌^◌, ℕ, suc, Bool, true, false, cond, List, [], ◌∷◌, ◌++◌, length, Result, Ok, Err, Option, Some, None, refl, sym, ap, subst, ◌∙◌, arith, append_assoc, append-nil, length-append, codes}
use Rattle.std.specs.Prelude.{◌==◌, decimal}
use Rattle.std.specs.Fmt.{signed_decimal}
use Rattle.std.specs.List.{flat_map}
use Rattle.std.specs.Str.{bytes_eq}
use Rattle.std.proofs.lemmas.Bool.{eqb-true}
use Rattle.std.proofs.lemmas.Slice.Eq.{bytes_eq-Decides}
use Rattle.grammar.specs.Form.{and_then, first_of, others_of, fit_first, at_most_one}
use Rattle.grammar.specs.Exact.{ok_no_err}
use Rattle.grammar.specs.ExactLaws.{ok_is}
use Rattle.grammar.specs.Keeping.{Any}
use Rattle.grammar.specs.Rule.{◌>>=◌}
use Rattle.grammar.specs.Chain.{grow}
use Rattle.alf_ops.specs.declared.history.RunFault.{RunFault}
use Rattle.alf_ops.specs.declared.history.RunFault.TheVariants as causes
use Rattle.domain_core.specs.declared.event.Event.{Event}
use Rattle.domain_core.specs.declared.outline.ScopeRow.{ScopeRow}
use Rattle.domain_core.specs.declared.scope_kind.ScopeKind.{ScopeKind}
use Rattle.domain_core.specs.declared.scope_kind.ScopeKind.TheVariants as kinds
use Rattle.flow_facts.specs.declared.fact.Fact.{Fact}
use Rattle.flow_facts.specs.declared.report.BoundWord.{BoundWord}
use Rattle.flow_facts.specs.declared.report.BoundWord.TheVariants.{Least, Stopped}
use Rattle.flow_facts.specs.Reports.{NamedNode}
use Rattle.fact_words.specs.Tokens.{Lexeme}
use Rattle.fact_words.specs.Printed.{Mark, left_before}
use Rattle.fact_words.specs.Canonical.{a_word, a_number, a_whole, node_marks, nodes_marks, parent_mark, scope_word, scope_marks, scopes_marks, fault_word, fact_marks, count_bound_marks, bound_word, path_bound_marks, event_marks, scale_marks, multiplier_marks, cert_marks, if_any, heading_marks, ending_marks, report_marks}
use Rattle.fact_words.specs.Canonical as marks
use Rattle.fact_words.specs.Numbers.{Fault, Syntax, number_within, whole_within, is_positive}
use Rattle.fact_words.specs.Names.{is_node_name}
use Rattle.fact_words.specs.DigitLaws.{decimal_one, decimal_two}
use Rattle.fact_text.specs.Grammar.{Place, Rule, begins_line, goes_on, line_word, next_word, told, only_if, check, begins, number, count, whole, either, unknown, line_is, form_of, heading, is_next, numbered, name, node, next_node, node_begins, parent_of, parent, scope_kind_of, scope_kind, scope, next_scope, scope_begins, place_of_word, fact_begins, may_stand, bounds, loop_fact, count_fact, dead_fact, total_fact, pair_fact, cause_of, cause, alarm_fact, fact_tail, follows, low_fits, fact, last_of, next_fact, count_bound, bound_word_of, path_bound, event_begins, step, merge, event_tail, event, scale, multiplier, cert, ending, lists, tail, report}
use Rattle.fact_text.proofs.Spelling.{mark_of, marks_of, Placed, Spelt, Goes, Closes, ◌>>-◌, done, keeps, spelt, takes, one_spelt, judged_spelt, refused_spelt, row_spelt, maybe_spelt, all_lines, OneMore, chain_spelt, then_closes, closes_as}
use Rattle.fact_text.proofs.NumberWords.{number_text, whole_text}

-- the tokens that a rule takes are the marks of the value that it spells
abbrev Takes : {some : Bool} {A : Type 0} → Rule some A → (A → List Mark) → Type 0
Takes p marks = Spelt p.form marks Any

-- ---- answers

told_spelt : {A : Type 0} (r : Result A Fault) → Spelt (told r).form (λ x. []) (λ x. r ≡ Ok x)
unfolding told
told_spelt r = judged_spelt r

passed : {A : Type 0} (b : Bool) (x y : A) (left : ℕ) → only_if b x left ≡ Ok y → (b ≡ true) × (x ≡ y)
passed true x y left e = (refl, ok_is {F = Fault} x y e)
passed false x y left e = ok_no_err y (Syntax left) e

-- a word that is one of several
picked : {A : Type 0} (P : A → Type 0) (text w : List ℕ) (x : A) (r : Result A Fault) → (text ≡ w → P x)
    → ((y : A) → r ≡ Ok y → P y) → (y : A) → cond (bytes_eq text w) (Ok x) r ≡ Ok y → P y
picked {A = A} P text w x r chosen others y e = by_word (bytes_eq text w) refl e
  where
    by_word : (b : Bool) → bytes_eq text w ≡ b → ◌≡◌ {A = Result A Fault} (cond b (Ok x) r) (Ok y) → P y
    by_word true t e = subst P (ok_is {F = Fault} x y e) (chosen ((bytes_eq-Decides text w).0 t))
    by_word false t e = others y e

-- the last of several
last_picked : {A : Type 0} (P : A → Type 0) (text w : List ℕ) (x : A) (left : ℕ) → (text ≡ w → P x) → (y : A)
    → only_if (bytes_eq text w) x left ≡ Ok y → P y
last_picked P text w x left chosen = picked P text w x (Err (Syntax left)) chosen (λ y e. ok_no_err y (Syntax left) e)

-- ---- words

first_mark : (t u : Lexeme) → begins_line t ≡ Ok u → mark_of t ∷ [] ≡ marks.begins u.text ∷ []
first_mark t u e = by_line t.line refl e
  where
    by_line : (b : Bool) → t.line ≡ b → ◌≡◌ {A = Result Lexeme Fault} (cond b (Ok t) (Err (Syntax t.left))) (Ok u)
        → mark_of t ∷ [] ≡ marks.begins u.text ∷ []
    by_line true l e = rw (l, ok_is {F = Fault} t u e) refl
    by_line false l e = ok_no_err u (Syntax t.left) e

further_mark : (t u : Lexeme) → goes_on t ≡ Ok u → mark_of t ∷ [] ≡ a_word u.text ∷ []
further_mark t u e = by_line t.line refl e
  where
    by_line : (b : Bool) → t.line ≡ b → ◌≡◌ {A = Result Lexeme Fault} (cond b (Err (Syntax (suc t.left))) (Ok t)) (Ok u)
        → mark_of t ∷ [] ≡ a_word u.text ∷ []
    by_line true l e = ok_no_err u (Syntax (suc t.left)) e
    by_line false l e = rw (l, ok_is {F = Fault} t u e) refl

line_word_takes : Takes line_word (λ t. marks.begins t.text ∷ [])
unfolding line_word
line_word_takes = one_spelt begins_line (λ t. marks.begins t.text ∷ []) first_mark

next_word_takes : Takes next_word (λ t. a_word t.text ∷ [])
unfolding next_word
next_word_takes = one_spelt goes_on (λ t. a_word t.text ∷ []) further_mark

same_begins : (text w : List ℕ) (left : ℕ) (x : Unit {0}) → check (bytes_eq text w) left ≡ Ok x
    → marks.begins text ∷ [] ≡ marks.begins w ∷ []
same_begins text w left x e = ap (λ (w : List ℕ). marks.begins w ∷ []) ((bytes_eq-Decides text w).0 (passed (bytes_eq text w) tt x left e).0)

same_word : (text w : List ℕ) → text ≡ w → a_word text ∷ [] ≡ a_word w ∷ []
same_word text w e = ap (λ (w : List ℕ). a_word w ∷ []) e

begins_takes : (w : List ℕ) → Takes (begins w) (λ x. marks.begins w ∷ [])
unfolding begins
begins_takes w = takes (line_word_takes >>- λ t _. keeps (told_spelt (check (bytes_eq t.text w) t.left)) (λ x e. same_begins t.text w t.left x e))

number_takes : (most : ℕ) → most < 10 ^ 64 → Takes (number most) (λ n. a_number n ∷ [])
unfolding number
number_takes most wide = takes (next_word_takes >>- λ t _. keeps (told_spelt (number_within most t.text t.left)) (λ n e. same_word t.text (decimal n) (number_text most t.text t.left n wide e)))

count_takes : Takes count (λ n. a_number n ∷ [])
unfolding count
count_takes = number_takes (2 ^ 32 - 1) (omega arith)

count_text : (t : Lexeme) (n : ℕ) → number_within (2 ^ 32 - 1) t.text t.left ≡ Ok n → t.text ≡ decimal n
count_text t n e = number_text (2 ^ 32 - 1) t.text t.left n (omega arith) e

whole_takes : Takes whole (λ z. a_whole z ∷ [])
unfolding whole
whole_takes = takes (next_word_takes >>- λ t _. keeps (told_spelt (whole_within t.text t.left)) (λ z e. same_word t.text (signed_decimal z) (whole_text t.text t.left z e)))

form_text : (t : Lexeme) (f : ℕ) → form_of t ≡ Ok f → t.text ≡ decimal f
form_text t = picked (λ (f : ℕ). t.text ≡ decimal f) t.text (codes "1") 1 _ (λ e. e ∙ sym decimal_one) (last_picked (λ (f : ℕ). t.text ≡ decimal f) t.text (codes "2") 2 t.left (λ e. e ∙ sym decimal_two))

heading_takes : Takes heading heading_marks
unfolding heading
heading_takes = takes (begins_takes (codes "facts") >>- λ _ _. next_word_takes >>- λ t _. keeps (told_spelt (form_of t)) (λ f e. ap (λ (w : List ℕ). marks.begins (codes "facts") ∷ a_word w ∷ []) (form_text t f e)))

-- ---- nodes and scopes

numbered_takes : (n : ℕ) → Takes (numbered n) (λ x. a_number n ∷ [])
unfolding numbered
numbered_takes n = takes (next_word_takes >>- λ t _. told_spelt (number_within (2 ^ 32 - 1) t.text t.left) >>- λ m e. keeps (told_spelt (is_next n m t.left))
    (λ x s. same_word t.text (decimal n) (count_text t m e ∙ ap decimal (eqb-true m n (passed (m == n) tt x t.left s).0))))

name_takes : Takes name (λ x. a_word x ∷ [])
unfolding name
name_takes = takes (next_word_takes >>- λ t _. keeps (told_spelt (only_if (is_node_name t.text) t.text t.left)) (λ x e. same_word t.text x (passed (is_node_name t.text) t.text x t.left e).1))

node_takes : (n : ℕ) → Takes (node n) (node_marks n)
unfolding node
node_takes n = takes (begins_takes (codes "node") >>- λ _ _. numbered_takes n >>- λ _ _. count_takes >>- λ s _. count_takes >>- λ c _. name_takes >>- λ x _. done refl)

parent_text : (t : Lexeme) (p : Option ℕ) → parent_of t ≡ Ok p → a_word t.text ≡ parent_mark p
parent_text t = picked (λ (p : Option ℕ). a_word t.text ≡ parent_mark p) t.text (codes "-") None _ (λ e. ap a_word e) (λ p e. by_number p (number_within (2 ^ 32 - 1) t.text t.left) refl e)
  where
    by_number : (p : Option ℕ) (r : Result ℕ Fault) → number_within (2 ^ 32 - 1) t.text t.left ≡ r
        → ◌≡◌ {A = Result (Option ℕ) Fault} (and_then r (λ s. Ok (Some s))) (Ok p) → a_word t.text ≡ parent_mark p
    by_number p (Ok n) k e = ap a_word (count_text t n k) ∙ ap parent_mark (ok_is {F = Fault} (Some n) p e)
    by_number p (Err f) k e = ok_no_err p f e

parent_takes : Takes parent (λ p. parent_mark p ∷ [])
unfolding parent
parent_takes = takes (next_word_takes >>- λ t _. keeps (told_spelt (parent_of t)) (λ p e. ap (λ (m : Mark). m ∷ []) (parent_text t p e)))

scope_kind_text : (t : Lexeme) (k : ScopeKind) → scope_kind_of t ≡ Ok k → t.text ≡ scope_word k
scope_kind_text t = picked (λ (k : ScopeKind). t.text ≡ scope_word k) t.text (codes "call") kinds.Call _ (λ e. e) (last_picked (λ (k : ScopeKind). t.text ≡ scope_word k) t.text (codes "loop") kinds.Loop t.left (λ e. e))

scope_kind_takes : Takes scope_kind (λ k. a_word (scope_word k) ∷ [])
unfolding scope_kind
scope_kind_takes = takes (next_word_takes >>- λ t _. keeps (told_spelt (scope_kind_of t)) (λ k e. same_word t.text (scope_word k) (scope_kind_text t k e)))

scope_takes : (n : ℕ) → Takes (scope n) (scope_marks n)
unfolding scope
scope_takes n = takes (begins_takes (codes "scope") >>- λ _ _. numbered_takes n >>- λ _ _. parent_takes >>- λ p _. count_takes >>- λ h _. scope_kind_takes >>- λ k _. done refl)

-- ---- lists whose lines hang on those before

one_longer : {A : Type 0} (done : List A) (x : A) → length (done ++ x ∷ []) ≡ suc (length done)
one_longer done x = omega (arith, length-append done (x ∷ []))

one_more : {A : Type 0} {line : List A → A → List Mark} (done : List A) (x : A) (ms : List Mark) → ms ≡ line done x
    → OneMore line done (done ++ x ∷ []) ms
one_more done x ms e = record { member = x; pushed = refl; lines = e }

-- a chain whose lines are put together otherwise
chain_takes : {A : Type 0} (goes : List A → Place → Bool) (p : List A → Rule true (List A)) (line : List A → A → List Mark) (lines : List A → List Mark)
    → ((done : List A) → Goes (p done).form (OneMore line done)) → ((xs : List A) → all_lines line [] xs ≡ lines xs) → Takes (grow goes p []) lines
chain_takes goes p line lines each same = takes (keeps (chain_spelt goes (λ y. (p y).form) line each) (λ xs _. same xs))

abbrev node_line : List NamedNode → NamedNode → List Mark
node_line done x = node_marks (length done) x

node_lines : (done xs : List NamedNode) → all_lines node_line done xs ≡ nodes_marks (length done) xs
node_lines done [] = refl
node_lines done (x ∷ xs) = rw (node_lines (done ++ x ∷ []) xs, one_longer done x) refl

nodes_take : Takes (grow node_begins next_node []) (nodes_marks 0)
nodes_take = chain_takes node_begins next_node node_line (nodes_marks 0) (λ so_far. node_takes (length so_far) >>- λ x _. done (one_more so_far x _ (append-nil _))) (node_lines [])

abbrev scope_line : List ScopeRow → ScopeRow → List Mark
scope_line done x = scope_marks (length done) x

scope_lines : (done xs : List ScopeRow) → all_lines scope_line done xs ≡ scopes_marks (length done) xs
scope_lines done [] = refl
scope_lines done (x ∷ xs) = rw (scope_lines (done ++ x ∷ []) xs, one_longer done x) refl

scopes_take : Takes (grow scope_begins next_scope []) (scopes_marks 0)
scopes_take = chain_takes scope_begins next_scope scope_line (scopes_marks 0) (λ so_far. scope_takes (length so_far) >>- λ x _. done (one_more so_far x _ (append-nil _))) (scope_lines [])

-- ---- facts

bounds_take : Takes bounds (λ b. a_number b.0 ∷ a_number b.1 ∷ [])
unfolding bounds
bounds_take = takes (count_takes >>- λ low _. next_word_takes >>- λ t _. told_spelt (number_within (2 ^ 32 - 1) t.text t.left) >>- λ high e. done (ap (λ (w : List ℕ). a_number low ∷ a_word w ∷ []) (count_text t high e)))

-- what stands after the word of a fact's line
abbrev after_word_of : Fact × ℕ → List Mark
after_word_of x = others_of (fact_marks x.0)

-- the fact's line begins with this word
abbrev BeginsWith : List ℕ → Fact × ℕ → Type 0
BeginsWith w x = marks.begins w ∷ others_of (fact_marks x.0) ≡ fact_marks x.0

loop_takes : Spelt loop_fact.form after_word_of (BeginsWith (codes "loop"))
unfolding loop_fact
loop_takes = spelt (count_takes >>- λ s _. bounds_take >>- λ b _. done (refl, refl))

count_fact_takes : Spelt count_fact.form after_word_of (BeginsWith (codes "count"))
unfolding count_fact
count_fact_takes = spelt (count_takes >>- λ s _. count_takes >>- λ n _. bounds_take >>- λ b _. done (refl, refl))

dead_takes : Spelt dead_fact.form after_word_of (BeginsWith (codes "dead"))
unfolding dead_fact
dead_takes = spelt (count_takes >>- λ n _. done (refl, refl))

total_takes : Spelt total_fact.form after_word_of (BeginsWith (codes "total"))
unfolding total_fact
total_takes = spelt (count_takes >>- λ n _. bounds_take >>- λ b _. done (refl, refl))

pair_takes : Spelt pair_fact.form after_word_of (BeginsWith (codes "pair"))
unfolding pair_fact
pair_takes = spelt (count_takes >>- λ s _. count_takes >>- λ a _. count_takes >>- λ b _. done (refl, refl))

cause_text : (t : Lexeme) (k : RunFault) → cause_of t ≡ Ok k → t.text ≡ fault_word k
cause_text t =
    picked Is t.text (codes "divide") causes.Divide _ (λ e. e)
    (picked Is t.text (codes "uninit") causes.Uninit _ (λ e. e)
    (picked Is t.text (codes "mixed") causes.Mixed _ (λ e. e)
    (picked Is t.text (codes "bounds") causes.Bounds _ (λ e. e)
    (picked Is t.text (codes "dead") causes.Dead _ (λ e. e)
    (picked Is t.text (codes "kind") causes.Kind _ (λ e. e)
    (last_picked Is t.text (codes "pointers") causes.Pointers t.left (λ e. e)))))))
  where
    Is : RunFault → Type 0
    Is k = t.text ≡ fault_word k

cause_takes : Takes cause (λ k. a_word (fault_word k) ∷ [])
unfolding cause
cause_takes = takes (next_word_takes >>- λ t _. keeps (told_spelt (cause_of t)) (λ k e. same_word t.text (fault_word k) (cause_text t k e)))

alarm_takes : Spelt alarm_fact.form after_word_of (BeginsWith (codes "alarm"))
unfolding alarm_fact
alarm_takes = spelt (count_takes >>- λ n _. cause_takes >>- λ k _. done (refl, refl))

-- one rule after this word, another after any other
after_word_takes : {A : Type 0} {words : A → List Mark} (Q : List ℕ → A → Type 0) (w text : List ℕ) (p q : Rule true A)
    → Spelt p.form words (Q w) → Spelt q.form words (Q text) → Spelt (either (bytes_eq text w) p q).form words (Q text)
after_word_takes {A = A} {words = words} Q w text p q hp hq = by_word (bytes_eq text w) refl
  where
    by_word : (b : Bool) → bytes_eq text w ≡ b → Spelt (either b p q).form words (Q text)
    by_word true t = subst (λ (u : List ℕ). Spelt p.form words (Q u)) (sym ((bytes_eq-Decides text w).0 t)) hp
    by_word false t = hq

unknown_takes : {A : Type 0} {marks : A → List Mark} {Q : A → Type 0} (t : Lexeme)
    → Spelt (unknown {A = A} t).form marks Q
unfolding unknown
unknown_takes t = refused_spelt

tail_takes : (w : Lexeme) → Spelt (fact_tail w).form after_word_of (BeginsWith w.text)
unfolding fact_tail
tail_takes w =
    after_word_takes BeginsWith (codes "loop") w.text loop_fact _ loop_takes
    (after_word_takes BeginsWith (codes "count") w.text count_fact _ count_fact_takes
    (after_word_takes BeginsWith (codes "dead") w.text dead_fact _ dead_takes
    (after_word_takes BeginsWith (codes "total") w.text total_fact _ total_takes
    (after_word_takes BeginsWith (codes "pair") w.text pair_fact _ pair_takes
    (after_word_takes BeginsWith (codes "alarm") w.text alarm_fact (unknown w) alarm_takes (unknown_takes w))))))

fact_takes : (form : ℕ) (last : Option Fact) → Takes (fact form last) fact_marks
unfolding fact
fact_takes form last = takes (line_word_takes >>- λ w _. told_spelt (check (may_stand form last (place_of_word w.text)) w.left) >>- λ _ _. tail_takes w >>- λ x h.
    told_spelt (check (follows last x.0) w.left) >>- λ _ _. keeps (told_spelt (only_if (low_fits x.0) x.0 x.1)) (λ f e. whole_line w x f h (passed (low_fits x.0) x.0 f x.1 e).1))
  where
    whole_line : (w : Lexeme) (x : Fact × ℕ) (f : Fact) → BeginsWith w.text x → x.0 ≡ f
        → marks.begins w.text ∷ (others_of (fact_marks x.0) ++ []) ≡ fact_marks f
    whole_line w x f h e = rw (append-nil (others_of (fact_marks x.0))) (h ∙ ap fact_marks e)

abbrev fact_line : List Fact → Fact → List Mark
fact_line done f = fact_marks f

fact_lines : (done fs : List Fact) → all_lines fact_line done fs ≡ flat_map fact_marks fs
fact_lines done [] = refl
fact_lines done (f ∷ fs) = rw (fact_lines (done ++ f ∷ []) fs) refl

facts_take : (form : ℕ) → Takes (grow fact_begins (next_fact form) []) (flat_map fact_marks)
facts_take form = chain_takes fact_begins (next_fact form) fact_line (flat_map fact_marks) (λ so_far. fact_takes form (last_of so_far) >>- λ f _. done (one_more so_far f _ (append-nil _))) (fact_lines [])

-- ---- bounds and certificates

count_bound_takes : Takes count_bound count_bound_marks
unfolding count_bound
count_bound_takes = takes (begins_takes (codes "count-bound") >>- λ _ _. number_takes (2 ^ 64 - 1) (omega arith) >>- λ v _. done refl)

bound_word_text : (t : Lexeme) (w : BoundWord) → bound_word_of t ≡ Ok w → t.text ≡ bound_word w
bound_word_text t = picked (λ (w : BoundWord). t.text ≡ bound_word w) t.text (codes "least") Least _ (λ e. e) (last_picked (λ (w : BoundWord). t.text ≡ bound_word w) t.text (codes "stopped") Stopped t.left (λ e. e))

path_bound_takes : Takes path_bound path_bound_marks
unfolding path_bound
path_bound_takes = takes (begins_takes (codes "path-bound") >>- λ _ _. number_takes (2 ^ 64 - 1) (omega arith) >>- λ v _. next_word_takes >>- λ t _. told_spelt (bound_word_of t) >>- λ w e.
    done (ap (λ (text : List ℕ). marks.begins (codes "path-bound") ∷ a_number v ∷ a_word text ∷ []) (bound_word_text t w e)))

-- what stands after the word of an event's line
abbrev after_event_word : Event → List Mark
after_event_word e = others_of (event_marks e)

-- the event's line begins with this word
abbrev EventBeginsWith : List ℕ → Event → Type 0
EventBeginsWith w e = marks.begins w ∷ others_of (event_marks e) ≡ event_marks e

step_takes : Spelt step.form after_event_word (EventBeginsWith (codes "step"))
unfolding step
step_takes = spelt (count_takes >>- λ i _. done (refl, refl))

merge_takes : Spelt merge.form after_event_word (EventBeginsWith (codes "merge"))
unfolding merge
merge_takes = spelt (count_takes >>- λ i _. count_takes >>- λ j _. done (refl, refl))

event_tail_takes : (w : Lexeme) → Spelt (event_tail w).form after_event_word (EventBeginsWith w.text)
unfolding event_tail
event_tail_takes w = after_word_takes EventBeginsWith (codes "step") w.text step _ step_takes (after_word_takes EventBeginsWith (codes "merge") w.text merge (unknown w) merge_takes (unknown_takes w))

event_takes : Takes event event_marks
unfolding event
event_takes = takes (line_word_takes >>- λ w _. keeps (event_tail_takes w) (λ e h. h))

scale_takes : Takes scale scale_marks
unfolding scale
scale_takes = takes (begins_takes (codes "scale") >>- λ _ _. next_word_takes >>- λ t _. told_spelt (whole_within t.text t.left) >>- λ z e. keeps (told_spelt (only_if (is_positive z) z t.left))
    (λ y p. ap (λ (w : List ℕ). marks.begins (codes "scale") ∷ a_word w ∷ []) (whole_text t.text t.left z e ∙ ap signed_decimal (passed (is_positive z) z y t.left p).1)))

multiplier_takes : Takes multiplier multiplier_marks
unfolding multiplier
multiplier_takes = takes (begins_takes (codes "mul") >>- λ _ _. whole_takes >>- λ y _. done refl)

-- lists that are grouped to the left
grouped : (xs ys zs : List Mark) → xs ++ (ys ++ (zs ++ [])) ≡ xs ++ ys ++ zs
grouped xs ys zs = ap (λ (ms : List Mark). xs ++ (ys ++ ms)) (append-nil zs) ∙ sym (append_assoc xs ys zs)

cert_takes : Takes cert cert_marks
unfolding cert
cert_takes = takes (begins_takes (codes "cert") >>- λ _ _. row_spelt event_begins event.form event_marks event_takes >>- λ events _. scale_takes >>- λ d _.
    row_spelt (line_is (codes "mul")) multiplier.form multiplier_marks multiplier_takes >>- λ ys _.
    done (ap (λ (ms : List Mark). marks.begins (codes "cert") ∷ ms) (grouped (flat_map event_marks events) (scale_marks d) (flat_map multiplier_marks ys))))

-- ---- reports

lists_take : (form : ℕ) → Takes (lists form) (λ l. nodes_marks 0 l.0 ++ scopes_marks 0 l.1 ++ flat_map fact_marks l.2)
unfolding lists
lists_take form = takes (nodes_take >>- λ ns _. scopes_take >>- λ ss _. facts_take form >>- λ fs _. done (grouped (nodes_marks 0 ns) (scopes_marks 0 ss) (flat_map fact_marks fs)))

-- the last token is empty, and nothing stands after it
last_token : (t : Lexeme) (ts : List Lexeme) → Placed (t ∷ ts) → t.left ≡ 0 → (t.text ≡ []) × (ts ≡ [])
last_token t ts g e = (none t.text (omega (arith, e, g.0)), no_token ts (omega (arith, e, g.0)))
  where
    none : (text : List ℕ) → length text ≡ 0 → text ≡ []
    none [] e = refl
    none (b ∷ bs) e = absurd (omega (arith, e))

    no_token : (ts : List Lexeme) → left_before ts ≡ 0 → ts ≡ []
    no_token [] e = refl
    no_token (t ∷ ts) e = absurd (omega (arith, e))

last_word : (ts : List Lexeme) → Placed ts → (at : Place) (u : Lexeme)
    → fit_first (λ (at : Place). Syntax 0) (λ t (at : Place). begins_line t) (first_of ts) at ≡ Ok u
    → u.left == 0 ≡ true
    → (marks_of ts ≡ marks.begins [] ∷ []) × (others_of ts ≡ [])
last_word [] g at u e z = ok_no_err u (Syntax 0) e
last_word (t ∷ ts) g at u e z = by_line t.line refl e
  where
    by_line : (b : Bool) → t.line ≡ b → ◌≡◌ {A = Result Lexeme Fault} (cond b (Ok t) (Err (Syntax t.left))) (Ok u)
        → (mark_of t ∷ marks_of ts ≡ marks.begins [] ∷ []) × (ts ≡ [])
    by_line true l e =
        let same : t ≡ u = ok_is {F = Fault} t u e in
        let k = last_token t ts g (ap (λ (v : Lexeme). v.left) same ∙ eqb-true u.left 0 z) in
        (rw (l, k.0, k.1) refl, k.1)
    by_line false l e = ok_no_err u (Syntax t.left) e

abbrev last_line : Rule true (Unit {0})
last_line = line_word >>= λ t. told (check (t.left == 0) t.left)

last_line_is : (at : Place) (x : Unit {0}) (rest : Place) → Placed at.ahead → last_line.form.Spells at x rest
    → (marks_of at.ahead ≡ marks.begins [] ∷ []) × (rest.ahead ≡ [])
unfolding line_word told
last_line_is at x rest g h =
    let k = last_word at.ahead g at h.0 h.2.0 (passed (h.0.left == 0) tt x h.0.left h.3.0).0 in
    (k.0, ap (λ (p : Place). p.ahead) (h.3.1 ∙ h.2.1) ∙ k.1)

last_line_takes : Takes last_line (λ x. marks.begins [] ∷ [])
last_line_takes = record {
  each = λ at x rest g h.
      let k = last_line_is at x rest g h in
      (record { taken = k.0 ∙ ap (λ (ts : List Lexeme). marks.begins [] ∷ marks_of ts) (sym k.1); placed = subst Placed (sym k.1) tt }, tt);
}

ending_takes : Takes ending (λ x. ending_marks)
unfolding ending
ending_takes = takes (begins_takes (codes "end") >>- λ _ _. keeps last_line_takes (λ _ _. refl))

ending_closes : Closes ending.form
unfolding ending
ending_closes = then_closes (begins_takes (codes "end")) (λ _. record { each = λ at x rest g h. (last_line_is at x rest g h).1 })

abbrev maybe_path : Spelt (at_most_one (line_is (codes "path-bound")) path_bound.form) (if_any path_bound_marks) Any
maybe_path = maybe_spelt (line_is (codes "path-bound")) path_bound.form path_bound_marks path_bound_takes

abbrev maybe_cert : Spelt (at_most_one (line_is (codes "cert")) cert.form) (if_any cert_marks) Any
maybe_cert = maybe_spelt (line_is (codes "cert")) cert.form cert_marks cert_takes

grouped_four : (ws xs ys zs : List Mark) → ws ++ (xs ++ (ys ++ zs)) ≡ ws ++ xs ++ ys ++ zs
grouped_four ws xs ys zs = sym (append_assoc ws xs (ys ++ zs)) ∙ sym (append_assoc (ws ++ xs) ys zs)

report_tail_takes : Takes tail (λ t. count_bound_marks t.0 ++ if_any path_bound_marks t.1 ++ if_any cert_marks t.2 ++ ending_marks)
unfolding tail
report_tail_takes = takes (count_bound_takes >>- λ v _. maybe_path >>- λ p _. maybe_cert >>- λ c _. ending_takes >>- λ _ _.
    done (grouped_four (count_bound_marks v) (if_any path_bound_marks p) (if_any cert_marks c) ending_marks))

report_tail_closes : Closes tail.form
unfolding tail
report_tail_closes = then_closes count_bound_takes (λ v. then_closes maybe_path (λ p. then_closes maybe_cert (λ c. closes_as ending_closes)))

pub report_takes : Takes report report_marks
unfolding report
report_takes = takes (heading_takes >>- λ form _. lists_take form >>- λ l _. report_tail_takes >>- λ t _.
    done (grouped (heading_marks form) (nodes_marks 0 l.0 ++ scopes_marks 0 l.1 ++ flat_map fact_marks l.2) (count_bound_marks t.0 ++ if_any path_bound_marks t.1 ++ if_any cert_marks t.2 ++ ending_marks)))

pub report_closes : Closes report.form
unfolding report
report_closes = then_closes heading_takes (λ form. then_closes (lists_take form) (λ l. closes_as report_tail_closes))
