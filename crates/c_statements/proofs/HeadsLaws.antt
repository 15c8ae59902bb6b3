-- A statement by its head reads what the rules read.
use Rattle.std.proofs.Common.{◌≡◌, refl, ◌∙◌, Bool, true, false, Result, Ok, Err}
use Rattle.std.specs.Prelude.{codes}
use Rattle.std.specs.Str.{bytes_eq}
use Rattle.grammar.specs.Form.{and_then}
use Rattle.grammar.specs.Rule.{value, weaken}
use Rattle.c_unit.specs.Tree.{Statement}
use Rattle.c_grammar.specs.declared.others.Others.{Others}
use Rattle.c_grammar.specs.declared.others.Others.TheVariants as others
use Rattle.c_grammar.specs.declared.standing.Standing.{Standing}
use Rattle.c_grammar.specs.declared.standing.Standing.TheVariants as standings
use Rattle.c_grammar.specs.Symbols.{is_specifier, is_label}
use Rattle.c_grammar.specs.Tokens.{Fault, Seen, Place, Rule, at_symbol, at_text, either, mark, sees}
use Rattle.c_grammar.specs.Expressions.{open_paren, some_token}
use Rattle.c_grammar.specs.Statements.{Inside, block, controlling, declaration, do_after, effect_statement, empty_statement, for_after, for_condition, for_first, for_last, if_after, is_statement, item, label, leaving_after, placed_statement, semicolon, statement, switch_after, switch_item, switch_value, unworded, unworded_long, while_after, while_word, worded, worded_after}
use Rattle.c_statements.specs.Heads.{HeadTree, Whole, Controls, OfDo, after_head, block_head, braced, control_tail, controlled, declared_head, do_tail, effect_head, empty_head, for_head, if_head, item_head, label_head, leaving_head, placed_head, statement_head, switch_head, switched, switch_item_head, unworded_head, unworded_long_head, while_head, worded_head, worded_head_after}

abbrev pub Read : Type 0 → Type 0
Read A = Result (A × Place) Fault

-- what follows a head that was read
abbrev pub follows : Inside → HeadTree × Place → Read Statement
follows inner r = (after_head inner r.0).form.reading r.1

-- reading by the rule is reading the head, and then what follows
abbrev pub Splits : {a b : Bool} → Inside → Rule a Statement → Rule b HeadTree → Type 0
Splits inner p h = (at : Place) → p.form.reading at ≡ and_then (h.form.reading at) (follows inner)

-- what comes first on both sides
pub after_both : {A B C : Type 0} (read : Read A) (f : A × Place → Read B) (g : A × Place → Read C) (k : C × Place → Read B)
    → ((r : A × Place) → f r ≡ and_then (g r) k) → and_then read f ≡ and_then (and_then read g) k
after_both (Ok r) f g k same = same r
after_both (Err e) f g k same = refl

pub same_after : {A B : Type 0} (read : Read A) (f g : A × Place → Read B) → ((r : A × Place) → f r ≡ g r)
    → and_then read f ≡ and_then read g
same_after (Ok r) f g same = same r
same_after (Err e) f g same = refl

-- what was read is given
pub given : {A : Type 0} (read : Read A) → and_then {A = A × Place} {B = A × Place} read (λ r. Ok (r.0, r.1)) ≡ read
given (Ok r) = refl
given (Err e) = refl

-- a statement in which none stands
pub whole_read : (inner : Inside) (read : Read Statement)
    → read ≡ and_then (and_then {B = HeadTree × Place} read (λ r. Ok (Whole r.0, r.1))) (follows inner)
unfolding after_head
whole_read inner (Ok r) = refl
whole_read inner (Err e) = refl

pub either_splits : {a b : Bool} (inner : Inside) (p q : Rule a Statement) (h k : Rule b HeadTree) → Splits inner p h
    → Splits inner q k
    → (first : Bool) → Splits inner (either first p q) (either first h k)
either_splits inner p q h k s t true = s
either_splits inner p q h k s t false = t

-- ---- after the first word

pub if_splits : (inner : Inside) → Splits inner (if_after inner) if_head
unfolding if_after if_head after_head controlled control_tail
if_splits inner at = after_both (controlling.form.reading at) _ _ _ (λ r. refl)

pub while_splits : (inner : Inside) → Splits inner (while_after inner) while_head
unfolding while_after while_head after_head controlled control_tail
while_splits inner at = after_both (controlling.form.reading at) _ _ _ (λ r. refl)

pub do_splits : (inner : Inside) → Splits inner (do_after inner) (value (Controls OfDo))
unfolding do_after after_head controlled control_tail do_tail
do_splits inner at = same_after ((inner standings.Part).form.reading at) _ _ (λ s. after_both (while_word.form.reading s.1) _ _ _ (λ w.
    after_both (controlling.form.reading w.1) _ _ _ (λ c. after_both ((semicolon others.Nothing).form.reading c.1) _ _ _ (λ e. refl))))

pub for_splits : (inner : Inside) → Splits inner (for_after inner) for_head
unfolding for_after for_head after_head controlled control_tail
for_splits inner at = after_both (open_paren.form.reading at) _ _ _ (λ o. after_both (for_first.form.reading o.1) _ _ _ (λ f.
    after_both (for_condition.form.reading f.1) _ _ _ (λ c. after_both (for_last.form.reading c.1) _ _ _ (λ e. refl))))

pub switch_splits : (inner : Inside) → Splits inner (switch_after inner) switch_head
unfolding switch_after switch_head after_head switched
switch_splits inner at = after_both (switch_value.form.reading at) _ _ _ (λ r. refl)

pub leaving_splits : (inner : Inside) (t : Seen) → Splits inner (leaving_after t) (leaving_head t)
unfolding leaving_head
leaving_splits inner t at = whole_read inner ((leaving_after t).form.reading at)

pub words_split : (inner : Inside) (t : Seen) (i w d f s : Bool)
    → Splits inner (either i (if_after inner) (either w (while_after inner) (either d (do_after inner) (either f (for_after inner) (either s (switch_after inner) (leaving_after t))))))
    (either i (weaken if_head) (either w (weaken while_head) (either d (value (Controls OfDo)) (either f (weaken for_head) (either s (weaken switch_head) (weaken (leaving_head t)))))))
words_split inner t true w d f s = if_splits inner
words_split inner t false true d f s = while_splits inner
words_split inner t false false true f s = do_splits inner
words_split inner t false false false true s = for_splits inner
words_split inner t false false false false true = switch_splits inner
words_split inner t false false false false false = leaving_splits inner t

pub worded_after_splits : (inner : Inside) (t : Seen) → Splits inner (worded_after inner t) (worded_head_after t)
unfolding worded_after worded_head_after
worded_after_splits inner t =
    words_split inner t (bytes_eq t.text (codes "if")) (bytes_eq t.text (codes "while")) (bytes_eq t.text (codes "do")) (bytes_eq t.text (codes "for")) (bytes_eq t.text (codes "switch"))

pub worded_splits : (inner : Inside) → Splits inner (worded inner) worded_head
unfolding worded worded_head
worded_splits inner at = after_both (some_token.form.reading at) _ _ _ (λ r. given ((worded_after inner r.0).form.reading r.1) ∙ worded_after_splits inner r.0 r.1)

-- ---- other statements

pub empty_splits : (inner : Inside) → Splits inner empty_statement empty_head
unfolding empty_head
empty_splits inner at = whole_read inner (empty_statement.form.reading at)

pub effect_splits : (inner : Inside) (o : Others) → Splits inner (effect_statement o) (effect_head o)
unfolding effect_head
effect_splits inner o at = whole_read inner ((effect_statement o).form.reading at)

pub declared_splits : (inner : Inside) → Splits inner declaration declared_head
unfolding declared_head
declared_splits inner at = whole_read inner (declaration.form.reading at)

pub label_splits : (inner : Inside) → Splits inner label label_head
unfolding label_head
label_splits inner at = whole_read inner (label.form.reading at)

pub block_splits : (inner : Inside) (o : Others) (place : Standing)
    → Splits inner (block o (inner place)) (block_head o place)
unfolding block block_head after_head braced
block_splits inner o place at = after_both ((mark (codes "{") o).form.reading at) _ _ _ (λ r. refl)

pub unworded_long_splits : (inner : Inside) (o : Others) → Splits inner (unworded_long inner o) (unworded_long_head o)
unfolding unworded_long unworded_long_head sees
unworded_long_splits inner o at = given _ ∙ either_splits inner (block others.Nothing (inner standings.Item)) (effect_statement o) (block_head others.Nothing standings.Item) (effect_head o)
    (block_splits inner others.Nothing standings.Item) (effect_splits inner o) (at_text (codes "{") at) at

pub unworded_splits : (inner : Inside) (o : Others) → Splits inner (unworded inner o) (unworded_head o)
unfolding unworded unworded_head sees
unworded_splits inner o at = given _ ∙ either_splits inner empty_statement (unworded_long inner o) empty_head (unworded_long_head o)
    (empty_splits inner) (unworded_long_splits inner o) (at_text (codes ";") at) at

pub statement_splits : (inner : Inside) (o : Others) → Splits inner (statement inner o) (statement_head o)
unfolding statement statement_head
statement_splits inner o at = given _ ∙ either_splits inner (worded inner) (unworded inner o) worded_head (unworded_head o)
    (worded_splits inner) (unworded_splits inner o) (at_symbol is_statement at) at

pub item_splits : (inner : Inside) (o : Others) → Splits inner (item inner o) (item_head o)
unfolding item item_head
item_splits inner o at = given _ ∙ either_splits inner declaration (statement inner o) declared_head (statement_head o)
    (declared_splits inner) (statement_splits inner o) (at_symbol is_specifier at) at

pub switch_item_splits : (inner : Inside) → Splits inner (switch_item inner) switch_item_head
unfolding switch_item switch_item_head
switch_item_splits inner at = given _ ∙ either_splits inner label (item inner others.Nothing) label_head (item_head others.Nothing)
    (label_splits inner) (item_splits inner others.Nothing) (at_symbol is_label at) at

-- what stands at each kind of place reads by its head
pub placed_splits : (inner : Inside) (s : Standing) → Splits inner (placed_statement inner s) (placed_head s)
unfolding placed_statement placed_head
placed_splits inner standings.Part = statement_splits inner others.Labels
placed_splits inner standings.Item = item_splits inner others.Labels
placed_splits inner standings.SwitchItem = switch_item_splits inner
placed_splits inner standings.SwitchBlock = block_splits inner others.Statements standings.SwitchItem
