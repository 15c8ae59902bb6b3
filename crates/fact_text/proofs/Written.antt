-- The text of a report is read as the report: a line a rule.
use Rattle.std.proofs.Common.{◌≡◌, ◌<◌, ◌≤◌, ◌+◌, ◌-◌, ◌^◌, ℕ, zero, suc, ℤ, pos, negsuc, Bool, true, false, cond, ltb, leb, List, [], ◌∷◌, ◌++◌, length, All, Ok, Option, Some, None, inl, inr, ◌⊎◌, refl, sym, ap, subst, ◌∙◌, arith, append_assoc, append-nil, length-append, codes}
use Rattle.std.specs.Prelude.{◌==◌, decimal, IfSome}
use Rattle.std.specs.Fmt.{signed_decimal}
use Rattle.std.specs.List.{list_all, flat_map, AllPairs}
use Rattle.std.specs.Str.{bytes_eq}
use Rattle.std.specs.Char.{is_ascii_digit}
use Rattle.std.specs.Ordering.{nat_cmp, ordering_then}
use Rattle.std.specs.Cmp.Lexicographic.{slice_cmp}
use Rattle.std.specs.declared.cmp.Ordering.{Ordering}
use Rattle.std.specs.declared.cmp.Ordering.TheVariants.{Less, Greater}
use Rattle.std.proofs.lemmas.Bool.{le-leb, ltb-true, eq-eqb, eqb-true}
use Rattle.std.proofs.lemmas.Slice.Eq.{bytes_eq-Decides}
use Rattle.std.proofs.lemmas.List.Elements.{All-head, All-tail}
use Rattle.std.proofs.lemmas.List.Folds.{list_all-append}
use Rattle.grammar.specs.Form.{bound}
use Rattle.grammar.specs.ExactLaws.{ok_is}
use Rattle.grammar.specs.Rule.{maybe}
use Rattle.grammar.specs.Writing.{Printing, tokens, place, never, Writes}
use Rattle.grammar.specs.WritingLaws.{reads_spells, ◌then◌, until, as_value, grouped, same_row}
use Rattle.grammar.specs.Chain.{InTurn, grow}
use Rattle.alf_ops.specs.declared.history.RunFault.{RunFault}
use Rattle.alf_ops.specs.declared.history.RunFault.TheVariants as causes
use Rattle.domain_core.specs.declared.event.Event.{Event}
use Rattle.domain_core.specs.declared.event.Event.TheVariants.{Step, Merge}
use Rattle.domain_core.specs.declared.outline.ScopeRow.{ScopeRow}
use Rattle.domain_core.specs.declared.scope_kind.ScopeKind.{ScopeKind}
use Rattle.domain_core.specs.declared.scope_kind.ScopeKind.TheVariants as kinds
use Rattle.flow_facts.specs.declared.fact.Fact.{Fact}
use Rattle.flow_facts.specs.declared.fact.Fact.TheVariants.{Loop, Count, Dead, Total, Pair, Alarm}
use Rattle.flow_facts.specs.declared.report.BoundWord.{BoundWord}
use Rattle.flow_facts.specs.declared.report.BoundWord.TheVariants.{Least, Stopped}
use Rattle.flow_facts.specs.Reports.{NamedNode, Certificate, Reported}
use Rattle.flow_facts.specs.Writable.{IsNumber, IsNodeName, kind_place, numbers_of, IsBefore, NodeIsWritable, ScopeIsWritable, EventIsWritable, FactIsWritable, IsLong, IsScale, CertificateIsWritable, IsWritable}
use Rattle.lists.specs.TestLaws.{by_test}
use Rattle.fact_words.specs.Tokens.{Lexeme, tokens_of}
use Rattle.fact_words.specs.Laws.{EachPrintedTextIsCut}
use Rattle.fact_words.specs.Printed.{Mark, is_word, is_mark, token_before, tokens_before}
use Rattle.fact_words.specs.Canonical.{a_word, a_number, a_whole, node_marks, nodes_marks, parent_mark, scope_word, scope_marks, scopes_marks, fault_word, fact_marks, count_bound_marks, path_bound_marks, event_marks, scale_marks, multiplier_marks, cert_marks, if_any, heading_marks, lists_marks, ending_marks, tail_marks, report_marks, report_text}
use Rattle.fact_words.specs.Canonical as marks
use Rattle.fact_words.specs.Numbers.{Fault, number_within, whole_within, is_positive}
use Rattle.fact_text.specs.Grammar.{Place, Rule, line_word, next_word, told, begins, number, count, whole, line_is, heading, numbered, name, node, next_node, node_begins, parent, scope_kind, scope, next_scope, scope_begins, place_of_word, fact_begins, last_place, bounds, loop_fact, count_fact, dead_fact, total_fact, pair_fact, cause, alarm_fact, fact_tail, follows, fact, stands_before, last_of, next_fact, count_bound, path_bound, event_begins, step, merge, event_tail, event, scale, multiplier, cert, ending, lists, tail, report}
use Rattle.fact_words.specs.DigitLaws.{decimal_within, decimal_word, positive_within, negative_within, negative_word, decimal_one, decimal_two, decimal_is}
use Rattle.fact_text.specs.Language.{start, SpellsReport}
use Rattle.fact_words.specs.NameLaws.{node_name_passes, node_name_word}

-- ---- printed words as tokens

abbrev pub printing : Printing Lexeme Mark
printing = record { fits = is_mark; before = token_before }

abbrev after : List Lexeme → Place
after more = place more tt

-- the marks are read as x, and nothing else is
abbrev Plain : {some : Bool} {A : Type 0} → Rule some A → List Mark → A → Type 0
Plain p ms x = Writes printing never [] p.form ms tt tt x

same_bytes : (w : List ℕ) → bytes_eq w w ≡ true
same_bytes w = (bytes_eq-Decides w w).1 refl

one_mark : (m : Mark) → is_mark m ≡ true → list_all is_mark (m ∷ []) ≡ true
one_mark m h = rw h refl

-- the tokens of marks before those of others
pub tokens_append : (more : List Lexeme) (xs ys : List Mark)
    → tokens printing more (xs ++ ys) ≡ tokens printing (tokens printing more ys) xs
tokens_append more [] ys = refl
tokens_append more (x ∷ xs) ys = ap (λ (ts : List Lexeme). token_before ts x ∷ ts) (tokens_append more xs ys)

-- ---- single words

begins_writes : (w : List ℕ) → is_word w ≡ true → Plain (begins w) (marks.begins w ∷ []) tt
unfolding begins line_word told
begins_writes w h = record { prints = one_mark (marks.begins w) h; reads = λ more free. rw (same_bytes w) refl }

number_writes : (most n : ℕ) → n ≤ most → n < 10 ^ 64 → Plain (number most) (a_number n ∷ []) n
unfolding number next_word told
number_writes most n le lt = record { prints = one_mark (a_number n) (decimal_word n lt); reads = λ more free. rw (decimal_within most n _ lt le) refl }

count_writes : (n : ℕ) → IsNumber n → Plain count (a_number n ∷ []) n
unfolding count
count_writes n lt = number_writes (2 ^ 32 - 1) n (omega (arith, lt)) (omega (arith, lt))

whole_word : (z : ℤ) → IsLong z → is_word (signed_decimal z) ≡ true
whole_word (pos n) h = decimal_word n (omega (arith, h))
whole_word (negsuc n) h = negative_word n (omega (arith, h))

whole_within_again : (z : ℤ) (left : ℕ) → IsLong z → whole_within (signed_decimal z) left ≡ Ok z
whole_within_again (pos n) left h = positive_within n left h
whole_within_again (negsuc n) left h = negative_within n left h

whole_writes : (z : ℤ) → IsLong z → Plain whole (a_whole z ∷ []) z
unfolding whole next_word told
whole_writes z h = record { prints = one_mark (a_whole z) (whole_word z h); reads = λ more free. rw (whole_within_again z _ h) refl }

-- ---- nodes and scopes

numbered_writes : (n : ℕ) → IsNumber n → Plain (numbered n) (a_number n ∷ []) tt
unfolding numbered next_word told
numbered_writes n lt = record {
  prints = one_mark (a_number n) (decimal_word n (omega (arith, lt)));
  reads = λ more free. rw (decimal_within (2 ^ 32 - 1) n _ (omega (arith, lt)) (omega (arith, lt)), eq-eqb n n refl) refl;
}

name_writes : (text : List ℕ) → IsNodeName text → Plain name (a_word text ∷ []) text
unfolding name next_word told
name_writes text h = record { prints = one_mark (a_word text) (node_name_word text h); reads = λ more free. rw (node_name_passes text h) refl }

node_writes : (n : ℕ) → IsNumber n → (x : NamedNode) → NodeIsWritable x → Plain (node n) (node_marks n x) x
unfolding node
node_writes n lt x w =
    begins_writes (codes "node") refl then λ _. numbered_writes n lt then λ _. count_writes x.scope w.scope
    then λ s. count_writes x.cost w.cost then λ c. as_value (name_writes x.name w.name)

-- no digits are a dash
no_dash : (n : ℕ) → IsNumber n → bytes_eq (decimal n) (codes "-") ≡ false
no_dash n lt = by_test (bytes_eq (decimal n) (codes "-"))
    (λ t. let e : decimal n ≡ codes "-" = (bytes_eq-Decides (decimal n) (codes "-")).0 t in absurd (no_digits (subst (λ ds. list_all is_ascii_digit ds ≡ true) e (decimal_is n lt).digits)))
    (λ t. t)
  where
    no_digits : list_all is_ascii_digit (codes "-") ≡ true → ⊥
    no_digits h = cc

parent_writes : (p : Option ℕ) → IfSome p IsNumber → Plain parent (parent_mark p ∷ []) p
unfolding parent next_word told
parent_writes None h = record { prints = refl; reads = λ more free. refl }
parent_writes (Some n) lt = record {
  prints = one_mark (a_number n) (decimal_word n (omega (arith, lt)));
  reads = λ more free. rw (no_dash n lt, decimal_within (2 ^ 32 - 1) n _ (omega (arith, lt)) (omega (arith, lt))) refl;
}

scope_kind_writes : (k : ScopeKind) → Plain scope_kind (a_word (scope_word k) ∷ []) k
unfolding scope_kind next_word told
scope_kind_writes kinds.Call = record { prints = refl; reads = λ more free. refl }
scope_kind_writes kinds.Loop = record { prints = refl; reads = λ more free. refl }

scope_writes : (n : ℕ) → IsNumber n → (x : ScopeRow) → ScopeIsWritable x → Plain (scope n) (scope_marks n x) x
unfolding scope
scope_writes n lt x w =
    begins_writes (codes "scope") refl then λ _. numbered_writes n lt then λ _. parent_writes x.parent w.parent
    then λ p. count_writes x.header w.header then λ h. as_value (scope_kind_writes x.kind)

-- ---- lists whose lines hang on those before

-- the lines of the members, where the members before them are done
abbrev all_lines : {A : Type 0} → (List A → A → List Mark) → List A → List A → List Mark
all_lines line done [] = []
all_lines line done (x ∷ xs) = line done x ++ all_lines line (done ++ x ∷ []) xs

abbrev AllFine : {A : Type 0} → (List A → A → Type 0) → List A → List A → Type 0
AllFine Fine done [] = Unit {0}
AllFine Fine done (x ∷ xs) = Fine done x × AllFine Fine (done ++ x ∷ []) xs

module _ {A : Type 0} (goes : List A → Place → Bool) (p : List A → Rule true (List A)) (line : List A → A → List Mark) (Fine : List A → A → Type 0)
    (starts : (done : List A) (x : A) → Fine done x → (more : List Lexeme) → goes done (after (tokens printing more (line done x))) ≡ true)
    (each : (done : List A) (x : A) → Fine done x → Plain (p done) (line done x) (done ++ x ∷ [])) where
  lines_print : (done xs : List A) → AllFine Fine done xs → list_all is_mark (all_lines line done xs) ≡ true
  lines_print done [] h = refl
  lines_print done (x ∷ xs) h = rw (list_all-append is_mark (line done x) (all_lines line (done ++ x ∷ []) xs), (each done x h.0).prints) (lines_print (done ++ x ∷ []) xs h.1)

  in_turn_of : (done xs : List A) → AllFine Fine done xs → (more : List Lexeme)
      → InTurn goes (λ y. (p y).form) (length xs) done (after (tokens printing more (all_lines line done xs)))
      (done ++ xs) (after more)
  in_turn_of done [] h more = (append-nil done, refl)
  in_turn_of done (x ∷ xs) h more =
      let others = tokens printing more (all_lines line (done ++ x ∷ []) xs) in
      let turns : InTurn goes (λ y. (p y).form) (length xs) (done ++ x ∷ []) (after others) (done ++ (x ∷ xs)) (after more)
      = subst (λ ys. InTurn goes (λ y. (p y).form) (length xs) (done ++ x ∷ []) (after others) ys (after more)) (append_assoc done (x ∷ []) xs) (in_turn_of (done ++ x ∷ []) xs h.1 more) in
      rw (tokens_append more (line done x) (all_lines line (done ++ x ∷ []) xs)) (
        starts done x h.0 others,
        (
          done ++ x ∷ [],
          after others,
          reads_spells (p done) (after (tokens printing others (line done x))) (done ++ x ∷ []) (after others)
              ((each done x h.0).reads others refl),
          turns,
        ),
      )

  grow_reads : (done xs : List A) → AllFine Fine done xs → (more : List Lexeme) → goes (done ++ xs) (after more) ≡ false
      → (grow goes p done).form.reading (after (tokens printing more (all_lines line done xs))) ≡ Ok (done ++ xs, after more)
  grow_reads done xs h more stops = (grow goes p done).exact.alone (after (tokens printing more (all_lines line done xs))) (Ok (done ++ xs, after more)) ((length xs, in_turn_of done xs h more), stops)

one_longer : {A : Type 0} (done : List A) (x : A) → length (done ++ x ∷ []) ≡ suc (length done)
one_longer done x = omega (arith, length-append done (x ∷ []))

-- ---- nodes

abbrev NodeFine : List NamedNode → NamedNode → Type 0
NodeFine done x = IsNumber (length done) × NodeIsWritable x

nodes_fine : (done xs : List NamedNode) → length done + length xs ≤ 2 ^ 32 → All NodeIsWritable xs
    → AllFine NodeFine done xs
nodes_fine done [] le w = tt
nodes_fine done (x ∷ xs) le w =
    let l : length (done ++ x ∷ []) + length xs ≤ 2 ^ 32 = omega (arith, le, one_longer done x) in
    ((omega (arith, le), All-head NodeIsWritable x xs w), nodes_fine (done ++ x ∷ []) xs l (All-tail NodeIsWritable x xs w))

abbrev node_line : List NamedNode → NamedNode → List Mark
node_line done x = node_marks (length done) x

node_lines : (done xs : List NamedNode) → all_lines node_line done xs ≡ nodes_marks (length done) xs
node_lines done [] = refl
node_lines done (x ∷ xs) = rw (node_lines (done ++ x ∷ []) xs, one_longer done x) refl

nodes_print : (xs : List NamedNode) → length xs ≤ 2 ^ 32 → All NodeIsWritable xs
    → list_all is_mark (nodes_marks 0 xs) ≡ true
nodes_print xs le w = rw (← node_lines [] xs)
    (lines_print node_begins next_node node_line NodeFine (λ done x h more. refl)
    (λ done x h. as_value (node_writes (length done) h.0 x h.1)) [] xs (nodes_fine [] xs (omega (arith, le)) w))

nodes_read : (xs : List NamedNode) → length xs ≤ 2 ^ 32 → All NodeIsWritable xs → (more : List Lexeme)
    → line_is (codes "node") (after more) ≡ false
    → (grow node_begins next_node []).form.reading (after (tokens printing more (nodes_marks 0 xs))) ≡ Ok (xs, after more)
nodes_read xs le w more stops = rw (← node_lines [] xs)
    (grow_reads node_begins next_node node_line NodeFine (λ done x h more. refl)
    (λ done x h. as_value (node_writes (length done) h.0 x h.1)) [] xs (nodes_fine [] xs (omega (arith, le)) w) more
    stops)

-- ---- scopes

abbrev ScopeFine : List ScopeRow → ScopeRow → Type 0
ScopeFine done x = IsNumber (length done) × ScopeIsWritable x

scopes_fine : (done xs : List ScopeRow) → length done + length xs ≤ 2 ^ 32 → All ScopeIsWritable xs
    → AllFine ScopeFine done xs
scopes_fine done [] le w = tt
scopes_fine done (x ∷ xs) le w =
    let l : length (done ++ x ∷ []) + length xs ≤ 2 ^ 32 = omega (arith, le, one_longer done x) in
    ((omega (arith, le), All-head ScopeIsWritable x xs w), scopes_fine (done ++ x ∷ []) xs l (All-tail ScopeIsWritable x xs w))

abbrev scope_line : List ScopeRow → ScopeRow → List Mark
scope_line done x = scope_marks (length done) x

scope_lines : (done xs : List ScopeRow) → all_lines scope_line done xs ≡ scopes_marks (length done) xs
scope_lines done [] = refl
scope_lines done (x ∷ xs) = rw (scope_lines (done ++ x ∷ []) xs, one_longer done x) refl

scopes_print : (xs : List ScopeRow) → length xs ≤ 2 ^ 32 → All ScopeIsWritable xs
    → list_all is_mark (scopes_marks 0 xs) ≡ true
scopes_print xs le w = rw (← scope_lines [] xs)
    (lines_print scope_begins next_scope scope_line ScopeFine (λ done x h more. refl)
    (λ done x h. as_value (scope_writes (length done) h.0 x h.1)) [] xs (scopes_fine [] xs (omega (arith, le)) w))

scopes_read : (xs : List ScopeRow) → length xs ≤ 2 ^ 32 → All ScopeIsWritable xs → (more : List Lexeme)
    → line_is (codes "scope") (after more) ≡ false
    → (grow scope_begins next_scope []).form.reading (after (tokens printing more (scopes_marks 0 xs))) ≡ Ok (xs, after more)
scopes_read xs le w more stops = rw (← scope_lines [] xs)
    (grow_reads scope_begins next_scope scope_line ScopeFine (λ done x h more. refl)
    (λ done x h. as_value (scope_writes (length done) h.0 x h.1)) [] xs (scopes_fine [] xs (omega (arith, le)) w) more
    stops)

-- ---- facts

small : (n : ℕ) → IsNumber n → (n < 10 ^ 64) × (n ≤ 2 ^ 32 - 1)
small n lt = (omega (arith, lt), omega (arith, lt))

reads_count : (n left : ℕ) → IsNumber n → number_within (2 ^ 32 - 1) (decimal n) left ≡ Ok n
reads_count n left lt = decimal_within (2 ^ 32 - 1) n left (small n lt).0 (small n lt).1

shows_count : (n : ℕ) → IsNumber n → is_word (decimal n) ≡ true
shows_count n lt = decimal_word n (small n lt).0

fact_prints : (form : ℕ) (f : Fact) → FactIsWritable form f → list_all is_mark (fact_marks f) ≡ true
fact_prints form (Loop s low high) w = rw (shows_count s w.0, shows_count low (omega (arith, w)), shows_count high w.2) refl
fact_prints form (Count s n low high) w = rw (shows_count s w.1, shows_count n w.2, shows_count low (omega (arith, w.3, w.4)), shows_count high w.4) refl
fact_prints form (Dead n) w = rw (shows_count n w) refl
fact_prints form (Total n low high) w = rw (shows_count n w.0, shows_count low (omega (arith, w)), shows_count high w.2) refl
fact_prints form (Pair s a b) w = rw (shows_count s w.0, shows_count a w.1, shows_count b w.2) refl
fact_prints form (Alarm n k) w = by_cause k
  where
    by_cause : (k : RunFault) → list_all is_mark (fact_marks (Alarm n k)) ≡ true
    by_cause causes.Divide = rw (shows_count n w) refl
    by_cause causes.Uninit = rw (shows_count n w) refl
    by_cause causes.Mixed = rw (shows_count n w) refl
    by_cause causes.Bounds = rw (shows_count n w) refl
    by_cause causes.Dead = rw (shows_count n w) refl
    by_cause causes.Kind = rw (shows_count n w) refl
    by_cause causes.Pointers = rw (shows_count n w) refl

cause_reads : (k : RunFault) (more : List Lexeme)
    → cause.form.reading (after (tokens printing more (a_word (fault_word k) ∷ []))) ≡ Ok (k, after more)
unfolding cause next_word told
cause_reads causes.Divide more = refl
cause_reads causes.Uninit more = refl
cause_reads causes.Mixed more = refl
cause_reads causes.Bounds more = refl
cause_reads causes.Dead more = refl
cause_reads causes.Kind more = refl
cause_reads causes.Pointers more = refl

-- a line of a fact that may stand after the last
record IsNext (form : ℕ) (last : Option Fact) (f : Fact) : Type 0 where
  fits : FactIsWritable form f
  kind : leb (last_place last) (kind_place f) ≡ true
  order : follows last f ≡ true

fact_reads : (form : ℕ) (last : Option Fact) (f : Fact) → IsNext form last f → (more : List Lexeme)
    → (fact form last).form.reading (after (tokens printing more (fact_marks f))) ≡ Ok (f, after more)
unfolding fact fact_tail loop_fact count_fact dead_fact total_fact pair_fact alarm_fact bounds count number line_word next_word told place_of_word
fact_reads form last (Loop s low high) w more = let f = w.fits in rw (w.kind, reads_count s _ f.0, reads_count low _ (omega (arith, f)), reads_count high _ f.2, w.order, le-leb low high f.1) refl
fact_reads form last (Count s n low high) w more =
    let f = w.fits in
    let two : form == 2 ≡ true = eq-eqb form 2 f.0 in
    rw (w.kind, two, reads_count s _ f.1, reads_count n _ f.2, reads_count low _ (omega (arith, f.3, f.4)), reads_count high _ f.4, w.order, le-leb low high f.3) refl
fact_reads form last (Dead n) w more = rw (w.kind, reads_count n _ w.fits, w.order) refl
fact_reads form last (Total n low high) w more = let f = w.fits in rw (w.kind, reads_count n _ f.0, reads_count low _ (omega (arith, f)), reads_count high _ f.2, w.order, le-leb low high f.1) refl
fact_reads form last (Pair s a b) w more = let f = w.fits in rw (w.kind, reads_count s _ f.0, reads_count a _ f.1, reads_count b _ f.2, w.order) refl
fact_reads form last (Alarm n k) w more = rw (w.kind, reads_count n _ w.fits, cause_reads k more, w.order) refl

abbrev fact_line : List Fact → Fact → List Mark
fact_line done f = fact_marks f

fact_lines : (done fs : List Fact) → all_lines fact_line done fs ≡ flat_map fact_marks fs
fact_lines done [] = refl
fact_lines done (f ∷ fs) = rw (fact_lines (done ++ f ∷ []) fs) refl

fact_starts : (f : Fact) (more : List Lexeme) → fact_begins [] (after (tokens printing more (fact_marks f))) ≡ true
unfolding place_of_word
fact_starts (Loop s low high) more = refl
fact_starts (Count s n low high) more = refl
fact_starts (Dead n) more = refl
fact_starts (Total n low high) more = refl
fact_starts (Pair s a b) more = refl
fact_starts (Alarm n k) more = refl

abbrev FactFine : ℕ → List Fact → Fact → Type 0
FactFine form done f = IsNext form (last_of done) f

next_writes : (form : ℕ) (done : List Fact) (f : Fact) → FactFine form done f
    → Plain (next_fact form done) (fact_line done f) (done ++ f ∷ [])
next_writes form done f w = as_value (record { prints = fact_prints form f w.fits; reads = λ more free. fact_reads form (last_of done) f w more })

facts_print : (form : ℕ) (fs : List Fact) → AllFine (FactFine form) [] fs
    → list_all is_mark (flat_map fact_marks fs) ≡ true
facts_print form fs w = rw (← fact_lines [] fs) (lines_print fact_begins (next_fact form) fact_line (FactFine form) (λ done f h more. fact_starts f more) (next_writes form) [] fs w)

facts_read : (form : ℕ) (fs : List Fact) → AllFine (FactFine form) [] fs → (more : List Lexeme)
    → fact_begins [] (after more) ≡ false
    → (grow fact_begins (next_fact form) []).form.reading (after (tokens printing more (flat_map fact_marks fs))) ≡ Ok (fs, after more)
facts_read form fs w more stops = rw (← fact_lines [] fs)
    (grow_reads fact_begins (next_fact form) fact_line (FactFine form) (λ done f h more. fact_starts f more)
    (next_writes form) [] fs w more stops)

-- ---- facts in the order of lines

last_push : (done : List Fact) (f : Fact) → last_of (done ++ f ∷ []) ≡ Some f
last_push [] f = refl
last_push (g ∷ gs) f = rw (last_push gs f) refl

abbrev HeadFollows : Option Fact → List Fact → Type 0
HeadFollows last [] = Unit {0}
HeadFollows last (f ∷ fs) = (leb (last_place last) (kind_place f) ≡ true) × (follows last f ≡ true)

kind_of_less : (a b : ℕ) (o : Ordering) → ordering_then (nat_cmp a b) o ≡ Less → a ≤ b
kind_of_less a b o h = by_test (ltb a b) (λ t. omega (arith, ltb-true a b t)) (λ t. by_test (a == b) (λ e. omega (arith, eqb-true a b e)) (λ e. absurd (let k : Greater ≡ Less = rw (t, e) at h in cc)))

before_follows : (g f : Fact) → IsBefore g f → (leb (kind_place g) (kind_place f) ≡ true) × (follows (Some g) f ≡ true)
unfolding stands_before
before_follows g f h = (le-leb _ _ (kind_of_less (kind_place g) (kind_place f) (slice_cmp nat_cmp (numbers_of g) (numbers_of f)) h), rw h refl)

head_follows : (f : Fact) (fs : List Fact) → AllPairs IsBefore (f ∷ fs) → HeadFollows (Some f) fs
head_follows f [] h = tt
head_follows f (g ∷ gs) h = before_follows f g (h 0 1 f (omega arith) (omega arith))

tail_ascends : (f : Fact) (fs : List Fact) → AllPairs IsBefore (f ∷ fs) → AllPairs IsBefore fs
tail_ascends f fs h i j d lt within = h (suc i) (suc j) d (omega (arith, lt)) (omega (arith, within))

facts_fine : (form : ℕ) (done fs : List Fact) → HeadFollows (last_of done) fs → AllPairs IsBefore fs
    → All (FactIsWritable form) fs → AllFine (FactFine form) done fs
facts_fine form done [] head ascends w = tt
facts_fine form done (f ∷ fs) head ascends w =
    let next : HeadFollows (last_of (done ++ f ∷ [])) fs = rw (last_push done f) (head_follows f fs ascends) in (
      record { fits = All-head (FactIsWritable form) f fs w; kind = head.0; order = head.1 },
      facts_fine form (done ++ f ∷ []) fs next (tail_ascends f fs ascends) (All-tail (FactIsWritable form) f fs w),
    )

first_fine : (fs : List Fact) → HeadFollows None fs
first_fine [] = tt
first_fine (f ∷ fs) = (le-leb _ _ (omega arith), refl)

-- ---- bounds and certificates

event_writes : (e : Event) → EventIsWritable e → Plain event (event_marks e) e
unfolding event line_word event_tail step merge count number next_word told
event_writes (Step i) w = record { prints = rw (shows_count i w) refl; reads = λ more free. rw (reads_count i _ w) refl }
event_writes (Merge i j) w = record { prints = rw (shows_count i w.0, shows_count j w.1) refl; reads = λ more free. rw (reads_count i _ w.0, reads_count j _ w.1) refl }

event_starts : (e : Event) (more : List Lexeme) → event_begins (after (tokens printing more (event_marks e))) ≡ true
event_starts (Step i) more = refl
event_starts (Merge i j) more = refl

positive_long : (z : ℤ) → IsScale z → IsLong z × (is_positive z ≡ true)
positive_long (pos n) s = let e : n ≡ s.0 = cc in (omega (arith, e, s.3), let k : ltb 0 n ≡ true = grind (arith, e, s.2) in k)
positive_long (negsuc n) s = absurd cc

scale_writes : (z : ℤ) → IsScale z → Plain scale (scale_marks z) z
unfolding scale begins line_word next_word told
scale_writes z s = let w = positive_long z s in record { prints = rw (whole_word z w.0) refl; reads = λ more free. rw (whole_within_again z _ w.0, w.1) refl }

multiplier_writes : (z : ℤ) → IsLong z → Plain multiplier (multiplier_marks z) z
unfolding multiplier
multiplier_writes z w = begins_writes (codes "mul") refl then λ _. as_value (whole_writes z w)

cert_writes : (c : Certificate) → CertificateIsWritable c
    → Writes printing (line_is (codes "mul")) [] cert.form (cert_marks c) tt tt c
unfolding cert
cert_writes c w =
    begins_writes (codes "cert") refl then λ _. grouped (flat_map event_marks c.events) (scale_marks c.scale) (flat_map multiplier_marks c.multipliers)
    (until (same_row event_begins event event_marks (λ e h more room. event_starts e more) (λ e h room. event_writes e h) c.events w.events) (λ more. refl) (λ events. scale_writes c.scale w.scale
    then λ d. as_value (same_row (line_is (codes "mul")) multiplier multiplier_marks (λ z h more room. refl) (λ z h room. multiplier_writes z h) c.multipliers w.multipliers)))

count_bound_writes : (v : ℕ) → v < 2 ^ 64 → Plain count_bound (count_bound_marks v) v
unfolding count_bound
count_bound_writes v lt = begins_writes (codes "count-bound") refl then λ _. as_value (number_writes (2 ^ 64 - 1) v (omega (arith, lt)) (omega (arith, lt)))

path_bound_writes : (b : ℕ × BoundWord) → b.0 < 2 ^ 64 → Plain path_bound (path_bound_marks b) b
unfolding path_bound begins number line_word next_word told
path_bound_writes (v, Least) lt =
    record {
      prints = rw (decimal_word v (omega (arith, lt))) refl;
      reads = λ more free. rw (decimal_within (2 ^ 64 - 1) v _ (omega (arith, lt)) (omega (arith, lt))) refl;
    }
path_bound_writes (v, Stopped) lt =
    record {
      prints = rw (decimal_word v (omega (arith, lt))) refl;
      reads = λ more free. rw (decimal_within (2 ^ 64 - 1) v _ (omega (arith, lt)) (omega (arith, lt))) refl;
    }

-- ---- the end

ending_reads : ending.form.reading (after (tokens printing [] ending_marks)) ≡ Ok (tt, after [])
unfolding ending begins line_word told
ending_reads = refl

abbrev end_tokens : List Lexeme
end_tokens = tokens printing [] ending_marks

maybe_cert_reads : (c : Option Certificate) → IfSome c CertificateIsWritable
    → (maybe (line_is (codes "cert")) cert).form.reading (after (tokens printing end_tokens (if_any cert_marks c)))
    ≡ Ok (c, after end_tokens)
maybe_cert_reads None w = refl
maybe_cert_reads (Some c) w = rw ((cert_writes c w).reads end_tokens refl) refl

maybe_path_reads : (b : Option (ℕ × BoundWord)) → IfSome b (λ bound. bound.0 < 2 ^ 64) → (c : Option Certificate)
    → (maybe (line_is (codes "path-bound")) path_bound).form.reading
    (after (tokens printing (tokens printing end_tokens (if_any cert_marks c)) (if_any path_bound_marks b)))
    ≡ Ok (b, after (tokens printing end_tokens (if_any cert_marks c)))
maybe_path_reads None w None = refl
maybe_path_reads None w (Some c) = refl
maybe_path_reads (Some b) w c = rw ((path_bound_writes b w).reads (tokens printing end_tokens (if_any cert_marks c)) refl) refl

tail_reads : (r : Reported) → IsWritable r → tail.form.reading (after (tokens printing [] (tail_marks r))) ≡ Ok ((r.count_bound, r.path_bound, r.cert), after [])
unfolding tail
tail_reads r w =
    let c = if_any cert_marks r.cert in
    let p = if_any path_bound_marks r.path_bound in
    let v = count_bound_marks r.count_bound in
    rw (tokens_append [] (v ++ p ++ c) ending_marks, tokens_append end_tokens (v ++ p) c, tokens_append (tokens printing end_tokens c) v p)
    (rw (
      (count_bound_writes r.count_bound w.count_bound).reads (tokens printing (tokens printing end_tokens c) p) refl,
      maybe_path_reads r.path_bound w.path_bound r.cert,
      maybe_cert_reads r.cert w.certificate,
      ending_reads,
    ) refl)

path_prints : (b : Option (ℕ × BoundWord)) → IfSome b (λ bound. bound.0 < 2 ^ 64)
    → list_all is_mark (if_any path_bound_marks b) ≡ true
path_prints None w = refl
path_prints (Some b) w = (path_bound_writes b w).prints

cert_prints : (c : Option Certificate) → IfSome c CertificateIsWritable → list_all is_mark (if_any cert_marks c) ≡ true
cert_prints None w = refl
cert_prints (Some c) w = (cert_writes c w).prints

tail_prints : (r : Reported) → IsWritable r → list_all is_mark (tail_marks r) ≡ true
tail_prints r w =
    let c = if_any cert_marks r.cert in
    let p = if_any path_bound_marks r.path_bound in
    let v = count_bound_marks r.count_bound in
    rw (
      list_all-append is_mark (v ++ p ++ c) ending_marks,
      list_all-append is_mark (v ++ p) c,
      list_all-append is_mark v p,
      (count_bound_writes r.count_bound w.count_bound).prints,
      path_prints r.path_bound w.path_bound,
      cert_prints r.cert w.certificate,
    ) refl

-- ---- reports

abbrev LineOfBound : List Lexeme → Type 0
LineOfBound more = (left : ℕ) × (ts : List Lexeme) × (more ≡ record { line = true; text = codes "count-bound"; left = left } ∷ ts)

no_fact : (more : List Lexeme) → LineOfBound more → fact_begins [] (after more) ≡ false
unfolding place_of_word
no_fact more h = rw h.2 refl

no_scope : (fs : List Fact) (more : List Lexeme) → LineOfBound more
    → line_is (codes "scope") (after (tokens printing more (flat_map fact_marks fs))) ≡ false
no_scope [] more h = rw h.2 refl
no_scope (Loop s low high ∷ fs) more h = refl
no_scope (Count s n low high ∷ fs) more h = refl
no_scope (Dead n ∷ fs) more h = refl
no_scope (Total n low high ∷ fs) more h = refl
no_scope (Pair s a b ∷ fs) more h = refl
no_scope (Alarm n k ∷ fs) more h = refl

no_node_first : (fs : List Fact) (more : List Lexeme) → LineOfBound more
    → line_is (codes "node") (after (tokens printing more (flat_map fact_marks fs))) ≡ false
no_node_first [] more h = rw h.2 refl
no_node_first (Loop s low high ∷ fs) more h = refl
no_node_first (Count s n low high ∷ fs) more h = refl
no_node_first (Dead n ∷ fs) more h = refl
no_node_first (Total n low high ∷ fs) more h = refl
no_node_first (Pair s a b ∷ fs) more h = refl
no_node_first (Alarm n k ∷ fs) more h = refl

no_node : (xs : List ScopeRow) (fs : List Fact) (more : List Lexeme) → LineOfBound more
    → line_is (codes "node")
    (after (tokens printing (tokens printing more (flat_map fact_marks fs)) (scopes_marks 0 xs))) ≡ false
no_node [] fs more h = no_node_first fs more h
no_node (x ∷ xs) fs more h = refl

lists_read : (r : Reported) → IsWritable r → (more : List Lexeme) → LineOfBound more
    → (lists r.form).form.reading (after (tokens printing more (lists_marks r)))
    ≡ Ok ((r.nodes, r.scopes, r.facts), after more)
unfolding lists
lists_read r w more h =
    let f = flat_map fact_marks r.facts in
    let s = scopes_marks 0 r.scopes in
    let n = nodes_marks 0 r.nodes in
    rw (tokens_append more (n ++ s) f, tokens_append (tokens printing more f) n s)
    (rw (
      nodes_read r.nodes w.few_nodes w.nodes (tokens printing (tokens printing more f) s) (no_node r.scopes r.facts more h),
      scopes_read r.scopes w.few_scopes w.scopes (tokens printing more f) (no_scope r.facts more h),
      facts_read r.form r.facts (facts_fine r.form [] r.facts (first_fine r.facts) w.ascends w.facts) more (no_fact more h),
    ) refl)

lists_print : (r : Reported) → IsWritable r → list_all is_mark (lists_marks r) ≡ true
lists_print r w =
    let f = flat_map fact_marks r.facts in
    let s = scopes_marks 0 r.scopes in
    let n = nodes_marks 0 r.nodes in
    rw (
      list_all-append is_mark (n ++ s) f,
      list_all-append is_mark n s,
      nodes_print r.nodes w.few_nodes w.nodes,
      scopes_print r.scopes w.few_scopes w.scopes,
      facts_print r.form r.facts (facts_fine r.form [] r.facts (first_fine r.facts) w.ascends w.facts),
    ) refl

heading_writes : (form : ℕ) → (form ≡ 1) ⊎ (form ≡ 2) → Plain heading (heading_marks form) form
unfolding heading begins line_word next_word told
heading_writes form (inl e) = rw (e, decimal_one) (record { prints = refl; reads = λ more free. refl })
heading_writes form (inr e) = rw (e, decimal_two) (record { prints = refl; reads = λ more free. refl })

report_reads : (r : Reported) → IsWritable r
    → report.form.reading (after (tokens printing [] (report_marks r))) ≡ Ok (r, after [])
unfolding report
report_reads r w =
    let t = tokens printing [] (tail_marks r) in
    rw (tokens_append [] (heading_marks r.form ++ lists_marks r) (tail_marks r), tokens_append t (heading_marks r.form) (lists_marks r))
    (rw ((heading_writes r.form w.form).reads (tokens printing t (lists_marks r)) refl, lists_read r w t (_, _, refl), tail_reads r w) refl)

report_prints : (r : Reported) → IsWritable r → list_all is_mark (report_marks r) ≡ true
report_prints r w =
    rw (
      list_all-append is_mark (heading_marks r.form ++ lists_marks r) (tail_marks r),
      list_all-append is_mark (heading_marks r.form) (lists_marks r),
      (heading_writes r.form w.form).prints,
      lists_print r w,
      tail_prints r w,
    ) refl

same_tokens : (more : List Lexeme) (ms : List Mark) → tokens printing more ms ≡ tokens_before more ms
same_tokens more [] = refl
same_tokens more (m ∷ ms) = ap (λ (ts : List Lexeme). token_before ts m ∷ ts) (same_tokens more ms)

-- the text of a writable report spells it
pub text_spells : EachPrintedTextIsCut → (r : Reported) → IsWritable r → SpellsReport (report_text r) r
text_spells cut r w =
    let e : tokens_of (report_text r) ≡ tokens printing [] (report_marks r) =
    cut (marks.begins (codes "facts")) (a_number r.form ∷ (lists_marks r ++ tail_marks r)) refl (report_prints r w)
    ∙ sym (same_tokens [] (report_marks r)) in
    (after [], rw e (reads_spells report (after (tokens printing [] (report_marks r))) r (after []) (report_reads r w)))

-- reading gives one report
pub texts_differ : EachPrintedTextIsCut → (r s : Reported) → IsWritable r → IsWritable s → report_text r ≡ report_text s
    → r ≡ s
texts_differ cut r s w v e =
    let x = text_spells cut r w in
    let y : SpellsReport (report_text r) s = subst (λ text. SpellsReport text s) (sym e) (text_spells cut s v) in
    let a = report.exact.alone (start (report_text r)) (Ok (r, x.0)) x.1 in
    let b = report.exact.alone (start (report_text r)) (Ok (s, y.0)) y.1 in
    ap (λ (p : Reported × Place). p.0) (ok_is {F = Fault} (r, x.0) (s, y.0) (sym a ∙ b))
