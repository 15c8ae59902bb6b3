-- What a rule spells is writable: a line a rule.
use Rattle.std.proofs.Common.{◌≡◌, ◌<◌, ◌≤◌, ◌+◌, ◌-◌, ◌^◌, ◌&&◌, ℕ, zero, suc, ℤ, pos, negsuc, Bool, true, false, cond, ltb, leb, List, [], ◌∷◌, ◌++◌, length, All, Ok, Err, Option, Some, None, Result, inl, inr, ◌⊎◌, refl, sym, ap, subst, ◌∙◌, arith, length-append, codes}
use Rattle.std.specs.Prelude.{◌==◌, IfSome}
use Rattle.std.specs.List.{AllPairs}
use Rattle.std.specs.Str.{bytes_eq}
use Rattle.std.specs.Ordering.{is_lt}
use Rattle.std.specs.Cmp.Lexicographic.{nat_list_cmp_total}
use Rattle.std.specs.BTreeMap.Comparable.{le_lt_trans}
use Rattle.std.specs.declared.cmp.Ordering.{Ordering}
use Rattle.std.specs.declared.cmp.Ordering.TheVariants.{Less, Equal, Greater}
use Rattle.std.proofs.lemmas.Bool.{leb-true, eqb-true}
use Rattle.std.proofs.lemmas.List.Elements.{All-head, All-nil, All-cons, All-append}
use Rattle.std.proofs.lemmas.List.Quantifiers.{all_pairs_push}
use Rattle.grammar.specs.Form.{bound, and_then}
use Rattle.grammar.specs.Exact.{ok_no_err}
use Rattle.grammar.specs.ExactLaws.{ok_is}
use Rattle.grammar.specs.Each.{Each}
use Rattle.grammar.specs.Keeping.{Any}
use Rattle.grammar.specs.KeepingLaws.{◌>>-◌, done, stays, keeps, weakened, one_passes, judged_stays, refused_stays, row_stays, maybe_stays}
use Rattle.grammar.specs.Keeping
use Rattle.grammar.specs.KeepingLaws
use Rattle.grammar.specs.Chain.{InTurn, grow}
use Rattle.domain_core.specs.declared.outline.ScopeRow.{ScopeRow}
use Rattle.flow_facts.specs.declared.fact.Fact.{Fact}
use Rattle.flow_facts.specs.declared.fact.Fact.TheVariants.{Loop, Count, Dead, Total, Pair, Alarm}
use Rattle.flow_facts.specs.declared.report.BoundWord.{BoundWord}
use Rattle.flow_facts.specs.Reports.{NamedNode, Certificate, Reported}
use Rattle.flow_facts.specs.Writable.{IsNumber, IsNodeName, kind_place, numbers_of, IsBefore, NodeIsWritable, ScopeIsWritable, EventIsWritable, FactIsWritable, IsLong, IsScale, CertificateIsWritable, IsWritable}
use Rattle.fact_words.specs.Tokens.{Lexeme}
use Rattle.fact_words.specs.Numbers.{Fault, Syntax, number_within, whole_within, is_positive}
use Rattle.fact_words.specs.DigitLaws.{within_bounds, whole_bounds}
use Rattle.fact_words.specs.NameLaws.{node_name_is}
use Rattle.fact_words.specs.Names.{is_node_name}
use Rattle.fact_text.specs.Grammar.{Place, Rule, line_word, next_word, told, only_if, check, begins, number, count, whole, either, unknown, line_is, form_of, heading, numbered, name, node, next_node, node_begins, parent_of, parent, scope_kind, scope, next_scope, scope_begins, place_of_word, fact_begins, may_stand, bounds, loop_fact, count_fact, dead_fact, total_fact, pair_fact, cause, alarm_fact, fact_tail, stands_before, follows, low_fits, fact, or_last, last_of, next_fact, count_bound, path_bound, event_begins, step, merge, event_tail, event, scale, multiplier, cert, ending, lists, tail, report}
use Rattle.fact_text.specs.Language.{start, IsSpelled}

-- each value that the rule spells is so
abbrev Stays : {some : Bool} {A : Type 0} → Rule some A → (A → Type 0) → Type 0
Stays p Q = Keeping.Stays Any p.form Q

-- ---- answers

told_stays : {A : Type 0} (r : Result A Fault) (Q : A → Type 0) → ((x : A) → r ≡ Ok x → Q x) → Stays (told r) Q
unfolding told
told_stays r Q h = judged_stays (λ at x e. h x e)

told_passes : {A : Type 0} (r : Result A Fault) → Stays (told r) Any
unfolding told
told_passes r = judged_stays (λ at x e. tt)

-- the test passed, and the value is this
passed : {A : Type 0} (b : Bool) (x y : A) (left : ℕ) → only_if b x left ≡ Ok y → (b ≡ true) × (x ≡ y)
passed true x y left e = (refl, ok_is {F = Fault} x y e)
passed false x y left e = ok_no_err y (Syntax left) e

check_stays : (b : Bool) (left : ℕ) → Stays (told (check b left)) (λ x. b ≡ true)
check_stays b left = told_stays (check b left) (λ x. b ≡ true) (λ x e. (passed b tt x left e).0)

-- ---- words

line_word_passes : Stays line_word Any
unfolding line_word
line_word_passes = one_passes

next_word_passes : Stays next_word Any
unfolding next_word
next_word_passes = one_passes

begins_passes : (w : List ℕ) → Stays (begins w) Any
unfolding begins
begins_passes w = stays (λ room. line_word_passes >>- λ t _. keeps (told_passes (check (bytes_eq t.text w) t.left)) room)

number_stays : (most : ℕ) → Stays (number most) (λ n. n ≤ most)
unfolding number
number_stays most = stays (λ room. next_word_passes >>- λ t _. keeps (told_stays (number_within most t.text t.left) (λ n. n ≤ most) (within_bounds most t.text t.left)) room)

count_stays : Stays count IsNumber
unfolding count
count_stays = weakened (number_stays (2 ^ 32 - 1)) (λ n h. omega (arith, h))

whole_stays : Stays whole IsLong
unfolding whole
whole_stays = stays (λ room. next_word_passes >>- λ t _. keeps (told_stays (whole_within t.text t.left) IsLong (whole_bounds t.text t.left)) room)

heading_stays : Stays heading (λ f. (f ≡ 1) ⊎ (f ≡ 2))
unfolding heading
heading_stays = stays (λ room. begins_passes (codes "facts") >>- λ _ _. next_word_passes >>- λ t _. keeps (told_stays (form_of t) (λ f. (f ≡ 1) ⊎ (f ≡ 2)) (forms t)) room)
  where
    at_test : (t : Lexeme) (f : ℕ) (b : Bool) → cond b (Ok 1) (only_if (bytes_eq t.text (codes "2")) 2 t.left) ≡ Ok f
        → (f ≡ 1) ⊎ (f ≡ 2)
    at_test t f true e = inl (sym (ok_is {F = Fault} 1 f e))
    at_test t f false e = inr (sym (passed (bytes_eq t.text (codes "2")) 2 f t.left e).1)

    forms : (t : Lexeme) (f : ℕ) → form_of t ≡ Ok f → (f ≡ 1) ⊎ (f ≡ 2)
    forms t f e = at_test t f (bytes_eq t.text (codes "1")) e

-- ---- nodes and scopes

numbered_stays : (n : ℕ) → Stays (numbered n) (λ x. IsNumber n)
unfolding numbered
numbered_stays n = stays (λ room. next_word_passes >>- λ t _. told_stays (number_within (2 ^ 32 - 1) t.text t.left) (λ m. m ≤ 2 ^ 32 - 1) (within_bounds (2 ^ 32 - 1) t.text t.left)
    >>- λ m h. keeps (weakened (check_stays (m == n) t.left) (λ x e. same_number m n h e)) room)
  where
    same_number : (m n : ℕ) → m ≤ 2 ^ 32 - 1 → m == n ≡ true → IsNumber n
    same_number m n h e = omega (arith, h, eqb-true m n e)

name_stays : Stays name IsNodeName
unfolding name
name_stays = stays (λ room. next_word_passes >>- λ t _. keeps (told_stays (only_if (is_node_name t.text) t.text t.left) IsNodeName (λ x e. named t x (passed (is_node_name t.text) t.text x t.left e))) room)
  where
    named : (t : Lexeme) (x : List ℕ) → (is_node_name t.text ≡ true) × (t.text ≡ x) → IsNodeName x
    named t x h = subst IsNodeName h.1 (node_name_is t.text h.0)

node_stays : (n : ℕ) → Stays (node n) (λ x. IsNumber n × NodeIsWritable x)
unfolding node
node_stays n = stays (λ room. begins_passes (codes "node") >>- λ _ _. numbered_stays n >>- λ _ h. count_stays >>- λ s hs. count_stays >>- λ c hc. name_stays >>- λ x hx.
    done ((h, record { scope = hs; cost = hc; name = hx }), refl))

parent_stays : Stays parent (λ p. IfSome p IsNumber)
unfolding parent
parent_stays = stays (λ room. next_word_passes >>- λ t _. keeps (told_stays (parent_of t) (λ p. IfSome p IsNumber) (λ p e. at_dash t p (bytes_eq t.text (codes "-")) e)) room)
  where
    at_number : (t : Lexeme) (p : Option ℕ) (r : Result ℕ Fault) → number_within (2 ^ 32 - 1) t.text t.left ≡ r
        → ◌≡◌ {A = Result (Option ℕ) Fault} (and_then r (λ s. Ok (Some s))) (Ok p) → IfSome p IsNumber
    at_number t p (Ok n) k e = let lt : IsNumber n = omega (arith, within_bounds (2 ^ 32 - 1) t.text t.left n k) in subst (λ p. IfSome p IsNumber) (ok_is {F = Fault} (Some n) p e) lt
    at_number t p (Err f) k e = ok_no_err p f e

    at_dash : (t : Lexeme) (p : Option ℕ) (b : Bool)
        → cond b (Ok None) (and_then (number_within (2 ^ 32 - 1) t.text t.left) (λ s. Ok (Some s))) ≡ Ok p
        → IfSome p IsNumber
    at_dash t p true e = subst (λ p. IfSome p IsNumber) (ok_is {F = Fault} None p e) tt
    at_dash t p false e = at_number t p (number_within (2 ^ 32 - 1) t.text t.left) refl e

scope_kind_passes : Stays scope_kind Any
unfolding scope_kind
scope_kind_passes = stays (λ room. next_word_passes >>- λ t _. keeps (told_passes _) room)

scope_stays : (n : ℕ) → Stays (scope n) (λ x. IsNumber n × ScopeIsWritable x)
unfolding scope
scope_stays n = stays (λ room. begins_passes (codes "scope") >>- λ _ _. numbered_stays n >>- λ _ h. parent_stays >>- λ p hp. count_stays >>- λ c hc. scope_kind_passes >>- λ k _.
    done ((h, record { parent = hp; header = hc }), refl))

-- ---- chains

module _ {A : Type 0} (goes : A → Place → Bool) (p : A → Rule true A) (Q : A → Type 0) (each : (x : A) → Q x → Stays (p x) Q) where
  turns_keep : (n : ℕ) (x : A) → Q x → (at : Place) (y : A) (rest : Place) → Each Any at.ahead
      → InTurn goes (λ y. (p y).form) n x at y rest → Q y × (rest.room ≡ at.room) × Each Any rest.ahead
  turns_keep zero x q at y rest g h = (subst Q (sym h.0) q, ap (λ (p : Place). p.room) h.1, subst (λ (p : Place). Each Any p.ahead) (sym h.1) g)
  turns_keep (suc n) x q at y rest g h =
      let k = (each x q).each at h.1.0 h.1.1 g h.1.2 in
      let i = turns_keep n h.1.0 k.0 h.1.1 y rest k.2 h.1.3 in
      (i.0, i.1 ∙ k.1, i.2)

  grow_stays : (x : A) → Q x → Stays (grow goes p x) Q
  grow_stays x q = record { each = λ at y rest g s. turns_keep s.0.0 x q at y rest g s.0.1 }

abbrev NodesFit : List NamedNode → Type 0
NodesFit xs = (length xs ≤ 2 ^ 32) × All NodeIsWritable xs

push_all : {A : Type 0} (P : A → Type 0) (xs : List A) (x : A) → All P xs → P x → All P (xs ++ x ∷ [])
push_all P xs x all h = All-append P xs (x ∷ []) all (All-cons P x [] h (All-nil P))

push_few : {A : Type 0} (xs : List A) (x : A) → IsNumber (length xs) → length (xs ++ x ∷ []) ≤ 2 ^ 32
push_few xs x h = omega (arith, h, length-append xs (x ∷ []))

nodes_stay : Stays (grow node_begins next_node []) NodesFit
nodes_stay = grow_stays node_begins next_node NodesFit (λ done q. stays (λ room. node_stays (length done) >>- λ x h. KeepingLaws.done ((push_few done x h.0, push_all NodeIsWritable done x q.1 h.1), refl))) [] (omega arith, All-nil NodeIsWritable)

abbrev ScopesFit : List ScopeRow → Type 0
ScopesFit xs = (length xs ≤ 2 ^ 32) × All ScopeIsWritable xs

scopes_stay : Stays (grow scope_begins next_scope []) ScopesFit
scopes_stay = grow_stays scope_begins next_scope ScopesFit (λ done q. stays (λ room. scope_stays (length done) >>- λ x h. KeepingLaws.done ((push_few done x h.0, push_all ScopeIsWritable done x q.1 h.1), refl))) [] (omega arith, All-nil ScopeIsWritable)

-- ---- facts

-- the numbers of the fact fit
abbrev NumbersFit : Fact → Type 0
NumbersFit (Loop s low high) = IsNumber s × IsNumber high
NumbersFit (Count s n low high) = IsNumber s × IsNumber n × IsNumber high
NumbersFit (Dead n) = IsNumber n
NumbersFit (Total n low high) = IsNumber n × IsNumber high
NumbersFit (Pair s a b) = IsNumber s × IsNumber a × IsNumber b
NumbersFit (Alarm n k) = IsNumber n

-- the numbers fit, and the fact has a kind
abbrev IsKind : ℕ → Fact × ℕ → Type 0
IsKind k x = NumbersFit x.0 × (kind_place x.0 ≡ k)

bounds_stay : Stays bounds (λ b. IsNumber b.1)
unfolding bounds
bounds_stay = stays (λ room. count_stays >>- λ low _. next_word_passes >>- λ t _. told_stays (number_within (2 ^ 32 - 1) t.text t.left) IsNumber (λ n e. omega (arith, within_bounds (2 ^ 32 - 1) t.text t.left n e)) >>- λ high h. done (h, refl))

loop_stays : Stays loop_fact (IsKind 0)
unfolding loop_fact
loop_stays = stays (λ room. count_stays >>- λ s h. bounds_stay >>- λ b i. done (((h, i), refl), refl))

count_fact_stays : Stays count_fact (IsKind 1)
unfolding count_fact
count_fact_stays = stays (λ room. count_stays >>- λ s h. count_stays >>- λ n j. bounds_stay >>- λ b i. done (((h, j, i), refl), refl))

dead_stays : Stays dead_fact (IsKind 2)
unfolding dead_fact
dead_stays = stays (λ room. count_stays >>- λ n h. done ((h, refl), refl))

total_stays : Stays total_fact (IsKind 3)
unfolding total_fact
total_stays = stays (λ room. count_stays >>- λ n h. bounds_stay >>- λ b i. done (((h, i), refl), refl))

pair_stays : Stays pair_fact (IsKind 4)
unfolding pair_fact
pair_stays = stays (λ room. count_stays >>- λ s h. count_stays >>- λ a i. count_stays >>- λ b j. done (((h, i, j), refl), refl))

cause_passes : Stays cause Any
unfolding cause
cause_passes = stays (λ room. next_word_passes >>- λ t _. keeps (told_passes _) room)

alarm_stays : Stays alarm_fact (IsKind 5)
unfolding alarm_fact
alarm_stays = stays (λ room. count_stays >>- λ n h. cause_passes >>- λ k _. done ((h, refl), refl))

either_stays : {A : Type 0} {Q : A → Type 0} (b : Bool) (p q : Rule true A) → (b ≡ true → Stays p Q)
    → (b ≡ false → Stays q Q) → Stays (either b p q) Q
either_stays true p q hp hq = hp refl
either_stays false p q hp hq = hq refl

unknown_stays : {A : Type 0} {Q : A → Type 0} (t : Lexeme) → Stays (unknown {A = A} t) Q
unfolding unknown
unknown_stays t = refused_stays

-- the fact has the kind that its word names
abbrev IsNamed : Lexeme → Fact × ℕ → Type 0
IsNamed w x = NumbersFit x.0 × (place_of_word w.text ≡ Some (kind_place x.0))

named_so : (w : Lexeme) (k : ℕ) → place_of_word w.text ≡ Some k → (p : Rule true (Fact × ℕ)) → Stays p (IsKind k)
    → Stays p (IsNamed w)
named_so w k e p h = weakened h (λ x i. (i.0, rw i.1 e))

tail_stays : (w : Lexeme) → Stays (fact_tail w) (IsNamed w)
unfolding fact_tail place_of_word
tail_stays w =
    either_stays (bytes_eq w.text (codes "loop")) _ _ (λ a. named_so w 0 (rw a refl) loop_fact loop_stays) (λ a.
    either_stays (bytes_eq w.text (codes "count")) _ _ (λ b. named_so w 1 (rw (a, b) refl) count_fact count_fact_stays) (λ b.
    either_stays (bytes_eq w.text (codes "dead")) _ _ (λ c. named_so w 2 (rw (a, b, c) refl) dead_fact dead_stays) (λ c.
    either_stays (bytes_eq w.text (codes "total")) _ _ (λ d. named_so w 3 (rw (a, b, c, d) refl) total_fact total_stays) (λ d.
    either_stays (bytes_eq w.text (codes "pair")) _ _ (λ e. named_so w 4 (rw (a, b, c, d, e) refl) pair_fact pair_stays) (λ e.
    either_stays (bytes_eq w.text (codes "alarm")) _ _ (λ f. named_so w 5 (rw (a, b, c, d, e, f) refl) alarm_fact alarm_stays) (λ f. unknown_stays w))))))

and_right : (a b : Bool) → a && b ≡ true → b ≡ true
and_right true b h = h
and_right false b h = absurd cc

fits_form : (form : ℕ) (last : Option Fact) (f : Fact) → NumbersFit f → may_stand form last (Some (kind_place f)) ≡ true
    → low_fits f ≡ true → FactIsWritable form f
fits_form form last (Loop s low high) h m l = (h.0, leb-true _ _ l, h.1)
fits_form form last (Count s n low high) h m l = (eqb-true form 2 (and_right _ (form == 2) m), h.0, h.1, leb-true _ _ l, h.2)
fits_form form last (Dead n) h m l = h
fits_form form last (Total n low high) h m l = (h.0, leb-true _ _ l, h.1)
fits_form form last (Pair s a b) h m l = h
fits_form form last (Alarm n k) h m l = h

abbrev IsNextFact : ℕ → Option Fact → Fact → Type 0
IsNextFact form last f = FactIsWritable form f × (follows last f ≡ true)

fact_stays : (form : ℕ) (last : Option Fact) → Stays (fact form last) (IsNextFact form last)
unfolding fact
fact_stays form last = stays (λ room. line_word_passes >>- λ w _. check_stays (may_stand form last (place_of_word w.text)) w.left >>- λ _ m. tail_stays w >>- λ x h.
    check_stays (follows last x.0) w.left >>- λ _ o. keeps (told_stays (only_if (low_fits x.0) x.0 x.1) (IsNextFact form last) (λ f e. next w x f m h o (passed (low_fits x.0) x.0 f x.1 e))) room)
  where
    next : (w : Lexeme) (x : Fact × ℕ) (f : Fact) → may_stand form last (place_of_word w.text) ≡ true → IsNamed w x
        → follows last x.0 ≡ true → (low_fits x.0 ≡ true) × (x.0 ≡ f) → IsNextFact form last f
    next w x f m h o l =
        let k : may_stand form last (Some (kind_place x.0)) ≡ true = subst (λ (o : Option ℕ). may_stand form last o ≡ true) h.1 m in
        subst (IsNextFact form last) l.1 (fits_form form last x.0 h.0 k l.0, o)

-- ---- the order of facts

less_is : (o : Ordering) → is_lt o ≡ true → o ≡ Less
less_is Less h = refl
less_is Equal h = absurd cc
less_is Greater h = absurd cc

before_is : (g f : Fact) → stands_before g f ≡ true → IsBefore g f
unfolding stands_before
before_is g f h = less_is _ h

before_trans : (e f g : Fact) → IsBefore e f → IsBefore f g → IsBefore e g
before_trans e f g h i = le_lt_trans nat_list_cmp_total (kind_place e ∷ numbers_of e) (kind_place f ∷ numbers_of f) (kind_place g ∷ numbers_of g) (rw h refl) i

all_before : (fs : List Fact) (g : Fact) → AllPairs IsBefore fs → follows (last_of fs) g ≡ true
    → All (λ f. IsBefore f g) fs
all_before [] g h l = All-nil (λ f. IsBefore f g)
all_before (f ∷ []) g h l = All-cons (λ f. IsBefore f g) f [] (before_is f g l) (All-nil (λ f. IsBefore f g))
all_before (f ∷ e ∷ es) g h l =
    let later = all_before (e ∷ es) g (λ i j d lt within. h (suc i) (suc j) d (omega (arith, lt)) (omega (arith, within))) (last_is e es l) in
    All-cons (λ f. IsBefore f g) f (e ∷ es) (before_trans f e g (h 0 1 f (omega arith) (omega arith)) (All-head (λ f. IsBefore f g) e es later)) later
  where
    last_is : (e : Fact) (es : List Fact) → follows (last_of (f ∷ e ∷ es)) g ≡ true
        → follows (last_of (e ∷ es)) g ≡ true
    last_is e es l = by_last (last_of es) l
      where
        by_last : (o : Option Fact) → follows (or_last f (or_last e o)) g ≡ true → follows (or_last e o) g ≡ true
        by_last None l = l
        by_last (Some x) l = l

abbrev FactsFit : ℕ → List Fact → Type 0
FactsFit form fs = All (FactIsWritable form) fs × AllPairs IsBefore fs

facts_stay : (form : ℕ) → Stays (grow fact_begins (next_fact form) []) (FactsFit form)
facts_stay form = grow_stays fact_begins (next_fact form) (FactsFit form)
    (λ done q. stays (λ room. fact_stays form (last_of done) >>- λ f h. KeepingLaws.done ((push_all (FactIsWritable form) done f q.0 h.0, all_pairs_push IsBefore done f q.1 (all_before done f q.1 h.1)), refl)))
    [] (All-nil (FactIsWritable form), λ i j d lt within. absurd (omega (arith, within)))

-- ---- bounds and certificates

count_bound_stays : Stays count_bound (λ v. v < 2 ^ 64)
unfolding count_bound
count_bound_stays = stays (λ room. begins_passes (codes "count-bound") >>- λ _ _. number_stays (2 ^ 64 - 1) >>- λ v h. done (omega (arith, h), refl))

path_bound_stays : Stays path_bound (λ b. b.0 < 2 ^ 64)
unfolding path_bound
path_bound_stays = stays (λ room. begins_passes (codes "path-bound") >>- λ _ _. number_stays (2 ^ 64 - 1) >>- λ v h. next_word_passes >>- λ t _. told_passes _ >>- λ w _. done (omega (arith, h), refl))

step_stays : Stays step EventIsWritable
unfolding step
step_stays = stays (λ room. count_stays >>- λ i h. done (h, refl))

merge_stays : Stays merge EventIsWritable
unfolding merge
merge_stays = stays (λ room. count_stays >>- λ i h. count_stays >>- λ j k. done ((h, k), refl))

event_tail_stays : (w : Lexeme) → Stays (event_tail w) EventIsWritable
unfolding event_tail
event_tail_stays w = either_stays (bytes_eq w.text (codes "step")) _ _ (λ _. step_stays) (λ _. either_stays (bytes_eq w.text (codes "merge")) _ _ (λ _. merge_stays) (λ _. unknown_stays w))

event_stays : Stays event EventIsWritable
unfolding event
event_stays = stays (λ room. line_word_passes >>- λ w _. keeps (event_tail_stays w) room)

scale_is : (z : ℤ) → IsLong z → is_positive z ≡ true → IsScale z
scale_is (pos n) h p = (n, refl, positive n p, h)
  where
    positive : (n : ℕ) → ltb 0 n ≡ true → 1 ≤ n
    positive n p = grind (arith, p)
scale_is (negsuc n) h p = absurd cc

scale_stays : Stays scale IsScale
unfolding scale
scale_stays = stays (λ room. begins_passes (codes "scale") >>- λ _ _. next_word_passes >>- λ t _. told_stays (whole_within t.text t.left) IsLong (whole_bounds t.text t.left)
    >>- λ z h. keeps (told_stays (only_if (is_positive z) z t.left) IsScale (λ y e. positive z y h (passed (is_positive z) z y t.left e))) room)
  where
    positive : (z y : ℤ) → IsLong z → (is_positive z ≡ true) × (z ≡ y) → IsScale y
    positive z y h e = subst IsScale e.1 (scale_is z h e.0)

multiplier_stays : Stays multiplier IsLong
unfolding multiplier
multiplier_stays = stays (λ room. begins_passes (codes "mul") >>- λ _ _. whole_stays >>- λ y h. done (h, refl))

cert_stays : Stays cert CertificateIsWritable
unfolding cert
cert_stays = stays (λ room. begins_passes (codes "cert") >>- λ _ _. row_stays event_begins event.form event_stays >>- λ events he. scale_stays >>- λ d hd. row_stays (line_is (codes "mul")) multiplier.form multiplier_stays >>- λ ys hy.
    done (record { events = he; scale = hd; multipliers = hy }, refl))

-- ---- reports

ending_passes : Stays ending Any
unfolding ending
ending_passes = stays (λ room. begins_passes (codes "end") >>- λ _ _. line_word_passes >>- λ t _. keeps (told_passes _) room)

lists_stay : (form : ℕ) → Stays (lists form) (λ l. NodesFit l.0 × ScopesFit l.1 × FactsFit form l.2)
unfolding lists
lists_stay form = stays (λ room. nodes_stay >>- λ ns h. scopes_stay >>- λ ss i. facts_stay form >>- λ fs j. done ((h, i, j), refl))

abbrev TailFits : ℕ × Option (ℕ × BoundWord) × Option Certificate → Type 0
TailFits t = (t.0 < 2 ^ 64) × IfSome t.1 (λ b. b.0 < 2 ^ 64) × IfSome t.2 CertificateIsWritable

report_tail_stays : Stays tail TailFits
unfolding tail
report_tail_stays = stays (λ room. count_bound_stays >>- λ v h. maybe_stays (line_is (codes "path-bound")) path_bound.form path_bound_stays >>- λ p i. maybe_stays (line_is (codes "cert")) cert.form cert_stays >>- λ c j.
    ending_passes >>- λ _ _. done ((h, i, j), refl))

report_stays : Stays report IsWritable
unfolding report
report_stays = stays (λ room. heading_stays >>- λ form h. lists_stay form >>- λ l i. report_tail_stays >>- λ t j. done (
  record {
    form = h;
    few_nodes = i.0.0;
    nodes = i.0.1;
    few_scopes = i.1.0;
    scopes = i.1.1;
    facts = i.2.0;
    ascends = i.2.1;
    count_bound = j.0;
    path_bound = j.1;
    certificate = j.2;
  },
  refl,
))

each_any : (ts : List Lexeme) → Each Any ts
each_any [] = tt
each_any (t ∷ ts) = (tt, each_any ts)

pub spelled_writable : (whole : Reported) → IsSpelled whole → IsWritable whole
spelled_writable whole h = (report_stays.each (start h.0) whole h.1.0 (each_any (start h.0).ahead) h.1.1).0
