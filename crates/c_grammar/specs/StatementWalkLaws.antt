-- The walk over statements: what holds of the parts of each production holds of what stands at each place.
--   StatementWalk walk    what is asked of tokens, of values, and of each production; `standing_goes` is what follows
use Rattle.c_grammar.specs.Expressions.{assigned, at_call, call, close_paren, condition, open_paren, rest_after_postfix, rest_of, rest_of_value, sees_call, some_token, target, whole_expr}
use Rattle.c_grammar.specs.Statements.{Inside, after_local, array_local, assign, assigning_mark, at_else, block, break_after, call_effect, case_label, colon, continue_after, controlling, declaration, declared_first, default_label, do_after, effect, effect_after, effect_end, effect_first, effect_statement, else_part, empty_condition, empty_first, empty_last, empty_statement, fits_too_nested, for_after, for_condition, for_first, for_last, further_local, if_after, in_block, initial, innermost, innermost_item, integer_local, is_statement, item, items_of, label, label_end, leaving_after, local, local_end, may_begin, other_effect, others_at, placed_statement, plain_local, pointer_local, postfix_step, prefix_step, return_after, return_nothing, return_value, semicolon, some_condition, some_first, some_last, standing, statement, step, switch_after, switch_item, switch_value, target_effect, unworded, unworded_long, update, while_after, while_word, worded, worded_after}
use Rattle.c_grammar.specs.Tokens.{Fault, Limit, Room, Rule, Seen, before, at_symbol, mark, misfit, most_parens, name, one, some_frames}
use Rattle.c_grammar.specs.Types.{after_array, array, array_size, at_assign, at_list_comma}
use Rattle.c_grammar.specs.TypeWalkLaws.{TypeTokens, assign_mark_quiet, before_either_quiet, before_quiet, case_prints, close_brace_quiet, close_paren_prints, colon_prints, comma_mark_quiet, default_prints, element_list_quiet, else_prints, integer_type_quiet, next_number_quiet, open_brace_prints, open_paren_prints, sees_quiet, semicolon_prints, signed_constant_quiet, star_quiet, while_prints}
use Rattle.c_grammar.specs.WalkLaws.{IfThere, at_end, Quiet, Quietly, Spelled, Walk, done, either_spelled, first_seen, judged_spelled, maybe_quiet, maybe_spelled, never_spelled, row_spelled, seen, seen_value, spelled_as, ◌>>+◌, ◌>>-◌, ◌>>!◌, ◌>>=◌}
use Rattle.c_grammar.specs.declared.others.Casts.{Casts}
use Rattle.c_grammar.specs.declared.others.Others.{Others}
use Rattle.c_grammar.specs.declared.standing.Assigning.{Assigning}
use Rattle.c_grammar.specs.declared.standing.Standing.{Standing}
use Rattle.c_unit.specs.Tree as tree
use Rattle.c_unit.specs.Tree.{CallTree, EffectTree, Expression, LocalTree, Statement, Statements, ValueTree, statements_of, if_of, for_of}
use Rattle.c_unit.specs.declared.expression.Binary.{Binary}
use Rattle.c_unit.specs.declared.types.Constant.{Constant}
use Rattle.c_unit.specs.declared.types.Integer.{Integer}
use Rattle.c_tokens.specs.Printed.{can_print}
use Rattle.grammar.specs.Exact.{ok_no_err}
use Rattle.grammar.specs.Form.{Form, bound, made}
use Rattle.grammar.specs.Rule.{weaken}
use Rattle.std.proofs.Common.{Bool, Err, List, [], ◌∷◌, None, Ok, Option, Some, cond, false, refl, suc, sym, subst, true, zero, ℕ, ◌-◌, ◌≡◌}
use Rattle.std.specs.Prelude.{⊤, codes}
use Rattle.std.specs.Str.{bytes_eq}
use Rattle.c_grammar.specs.declared.standing.Assigning.TheVariants as assigning
use Rattle.c_grammar.specs.declared.others.Casts.TheVariants as casts
use Rattle.c_grammar.specs.declared.others.Others.TheVariants as others
use Rattle.c_grammar.specs.declared.specifiers.Setting.TheVariants as settings
use Rattle.c_grammar.specs.declared.standing.Standing.TheVariants as standings
use Rattle.flow_base.specs.declared.place.Which.TheVariants as which

-- what is asked of an operator with =
abbrev pub MayAssign : (Binary → Type 0) → Assigning → Type 0
MayAssign May (assigning.Update op) = May op
MayAssign May _ = ⊤

pub all_may : (a : Assigning) → MayAssign (λ op. ⊤) a
all_may assigning.Assign = tt
all_may (assigning.Update op) = tt
all_may (assigning.Step up) = tt

-- at the place of a switch's body a block stands
abbrev pub IsBlock : Standing → Statement → Type 0
IsBlock standings.SwitchBlock s = (ss : Statements) × (s ≡ tree.Block ss)
IsBlock _ s = ⊤

pub record StatementWalk (walk : Walk) : Type 1 where
  -- ---- what is asked: of a token that is counted, of a declared name, of a size of an array, of an operator with =
  pub One : walk.Count → Type 0
  pub Named : ℕ → walk.Count → Type 0
  pub Sized : ℕ → walk.Count → Type 0
  pub MayUpdate : Binary → Type 0
  -- of a value, a condition, a call, what is assigned
  pub Value : Expression → walk.Count → Type 0
  pub Condition : Expression → walk.Count → Type 0
  pub Call : CallTree → walk.Count → Type 0
  pub Assigned : ValueTree → walk.Count → Type 0
  -- of what stands in parentheses after `if`, `while` and `switch`
  pub Controls : Expression → walk.Count → Type 0
  pub Selects : Expression → walk.Count → Type 0
  -- of effects, locals and statements
  pub Effect : EffectTree → walk.Count → Type 0
  pub Local : LocalTree → walk.Count → Type 0
  pub Locals : List LocalTree → walk.Count → Type 0
  pub Stands : Statement → walk.Count → Type 0
  pub Stand : List Statement → walk.Count → Type 0
  -- ---- tokens
  pub tokens : TypeTokens walk
  pub counted : (word : List ℕ) (o : Others) → can_print word ≡ true → Spelled walk (mark word o).form (λ n m. One m)
  pub steps : Quiet walk step.form
  pub assigns : (to : Expression) (last : Bool)
      → Quietly walk (assigning_mark to last).form (λ a. MayAssign MayUpdate a.0)
  pub words : Quiet walk (seen (λ at. at_symbol is_statement at) some_token.form)
  pub named : (o : Others)
      → Spelled walk (bound (name o).form (λ t. bound (some_frames 1).form (λ _. made t))) (λ t m. Named t.number m)
  pub sized : Spelled walk array_size.form Sized
  -- ---- values
  pub values : (p : ℕ) (o : Others) → Spelled walk (whole_expr p o).form Value
  pub targets : (p : ℕ) (c : Casts) (o : Others) → Spelled walk (target p c o).form Value
  pub conditions : (p : ℕ) → Spelled walk (condition p).form Condition
  pub calls : (p : ℕ) → Spelled walk (seen at_call (call p).form) Call
  pub assigned_values : (p : ℕ) (o : Others) → Spelled walk (assigned p o).form Assigned
  -- ---- effects
  pub call_effects : (c : CallTree) (m : walk.Count) → Call c m → Effect (tree.Calls c) m
  pub step_effects : (e : Expression) (up : Bool) (n : ℕ) (m : walk.Count) → Value e m → Effect (tree.Steps e up n) m
  pub assign_effects : (to : Expression) (n : ℕ) (v : ValueTree) (a m : walk.Count) → Value to a → Assigned v m
      → Effect (tree.Assigns to n v) (walk.join a m)
  pub update_effects : (to : Expression) (op : Binary) (n : ℕ) (e : Expression) (a m : walk.Count) → MayUpdate op
      → Value to a → Value e m → Effect (tree.Updates to op n e) (walk.join a m)
  -- ---- locals
  pub pointers : (n : ℕ) (v : Option ValueTree) (a m : walk.Count) → Named n a → IfThere walk Assigned v m
      → Local (record { name = n; shape = tree.LocalPointer v }) (walk.join a m)
  pub integers : (n : ℕ) (v : Option ValueTree) (a m : walk.Count) → Named n a → IfThere walk Assigned v m
      → Local (record { name = n; shape = tree.LocalInteger v }) (walk.join a m)
  pub arrays : (n s : ℕ) (cs : Option (List Constant)) (a m : walk.Count) → Named n a → Sized s m
      → Local (record { name = n; shape = tree.LocalArray s cs }) (walk.join a m)
  pub no_locals : Locals [] walk.none
  pub more_locals : (l : LocalTree) (ls : List LocalTree) (a m : walk.Count) → Local l a → Locals ls m
      → Locals (l ∷ ls) (walk.join a m)
  pub declares : (n : ℕ) (i : Integer) (ls : List LocalTree) (m : walk.Count) → Locals ls m
      → Stands (tree.Declares n i ls) m
  -- ---- labels
  pub cases : (n : ℕ) (c : Constant) (m : walk.Count) → One m → Stands (tree.Case n c) m
  pub defaults : (n : ℕ) (m : walk.Count) → One m → Stands (tree.Default n) m
  -- ---- statements
  pub controls : (e : Expression) (a m b : walk.Count) → One a → Condition e m → One b
      → Controls e (walk.join a (walk.join m b))
  pub selects : (e : Expression) (a m b : walk.Count) → One a → Value e m → One b
      → Selects e (walk.join a (walk.join m b))
  pub ifs : (c : Expression) (s : Statement) (e : Option Statement) (a m n : walk.Count) → Controls c a → Stands s m
      → IfThere walk Stands e n → Stands (if_of c s e) (walk.join a (walk.join m n))
  pub whiles : (c : Expression) (s : Statement) (a m : walk.Count) → Controls c a → Stands s m
      → Stands (tree.While c s) (walk.join a m)
  pub dos : (s : Statement) (c : Expression) (m a : walk.Count) → Stands s m → Controls c a
      → Stands (tree.Do s c) (walk.join m a)
  pub fors : (f : Option Statement) (c : Option Expression) (e : Option EffectTree) (s : Statement) (p a b d m : walk.Count)
      → One p → IfThere walk Stands f a → IfThere walk Condition c b → IfThere walk Effect e d → Stands s m
      → Stands (for_of f c e s) (walk.join p (walk.join a (walk.join b (walk.join d m))))
  pub switches : (e : Expression) (ss : Statements) (a m : walk.Count) → Selects e a → Stands (tree.Block ss) m
      → Stands (tree.Switch e ss) (walk.join a m)
  pub breaks : (n : ℕ) → Stands (tree.Break n) walk.none
  pub continues : (n : ℕ) → Stands (tree.Continue n) walk.none
  pub returns : (n : ℕ) → Stands (tree.Returns n None) walk.none
  pub value_returns : (n : ℕ) (v : ValueTree) (m : walk.Count) → Assigned v m → Stands (tree.Returns n (Some v)) m
  pub empties : (n : ℕ) → Stands (tree.Empty n) walk.none
  pub blocks : (ss : List Statement) (m : walk.Count) → Stand ss m → Stands (tree.Block (statements_of ss)) m
  pub no_statements : Stand [] walk.none
  pub more_statements : (s : Statement) (ss : List Statement) (a m : walk.Count) → Stands s a → Stand ss m
      → Stand (s ∷ ss) (walk.join a m)
  pub effects : (e : EffectTree) (m : walk.Count) → Effect e m → Stands (tree.Does e) m

module _ {walk : Walk} (w : StatementWalk walk) where
  -- ---- effects

  call_effect_goes : (p : ℕ) (last : Bool) → Spelled walk (seen at_call (call_effect p last).form) w.Effect
  unfolding call_effect
  call_effect_goes p last =
      first_seen (call p).form (λ c. bound (before (effect_end last) (rest_after_postfix true)).form (λ _. made (tree.Calls c)))
      (w.calls p >>! λ c m h. before_quiet w.tokens (effect_end last) (rest_after_postfix true) >>- λ _. done (refl, w.call_effects c m h))

  prefix_step_goes : (p : ℕ) (last : Bool) → Spelled walk (prefix_step p last).form w.Effect
  unfolding prefix_step
  prefix_step_goes p last =
      w.steps >>- λ s. w.targets p casts.Refused others.Steps >>! λ e m h.
      before_quiet w.tokens (effect_end last) (rest_of true e) >>- λ _. done (refl, w.step_effects e s.0 s.1 m h)

  -- after what is assigned to
  assign_goes : (p : ℕ) (last : Bool) (to : Expression) (n : ℕ) (a : walk.Count) → w.Value to a
      → Spelled walk (assign p last to n).form (λ e m. w.Effect e (walk.join a m))
  unfolding assign
  assign_goes p last to n a k =
      w.assigned_values p others.Steps >>! λ v m h.
      before_quiet w.tokens (effect_end last) (rest_of_value true v) >>- λ _.
      done (refl, w.assign_effects to n v a m k h)

  update_goes : (p : ℕ) (last : Bool) (to : Expression) (op : Binary) (n : ℕ) (a : walk.Count) → w.Value to a
      → w.MayUpdate op → Spelled walk (update p last to op n).form (λ e m. w.Effect e (walk.join a m))
  unfolding update
  update_goes p last to op n a k may =
      w.values p others.Steps >>! λ e m h. before_quiet w.tokens (effect_end last) (rest_of true e) >>- λ _.
      done (refl, w.update_effects to op n e a m may k h)

  postfix_step_goes : (last : Bool) (to : Expression) (up : Bool) (n : ℕ) (a : walk.Count) → w.Value to a
      → Spelled walk (postfix_step last to up n).form (λ e m. w.Effect e (walk.join a m))
  unfolding postfix_step
  postfix_step_goes last to up n a k =
      before_quiet w.tokens (effect_end last) (rest_after_postfix true) >>- λ _.
      done (at_end walk (w.Effect (tree.Steps to up n)) a (w.step_effects to up n a k))

  effect_after_goes : (p : ℕ) (last : Bool) (to : Expression) (x : Assigning) (n : ℕ) (a : walk.Count) → w.Value to a
      → MayAssign w.MayUpdate x → Spelled walk (effect_after p last to x n).form (λ e m. w.Effect e (walk.join a m))
  unfolding effect_after
  effect_after_goes p last to assigning.Assign n a k may = assign_goes p last to n a k
  effect_after_goes p last to (assigning.Update op) n a k may = update_goes p last to op n a k may
  effect_after_goes p last to (assigning.Step up) n a k may = postfix_step_goes last to up n a k

  target_effect_goes : (p : ℕ) (o : Others) (last : Bool) → Spelled walk (target_effect p o last).form w.Effect
  unfolding target_effect
  target_effect_goes p o last =
      w.targets p casts.Outside o >>+ λ to a k. w.assigns to last >>= λ x may.
      effect_after_goes p last to x.0 x.1 a k may >>! λ e m h. done (refl, h)

  other_effect_goes : (p : ℕ) (o : Others) (last : Bool) → Spelled walk (other_effect p o last).form w.Effect
  unfolding other_effect
  other_effect_goes p o last =
      judged_spelled >>- λ s.
      either_spelled s (prefix_step p last) (target_effect p o last) (prefix_step_goes p last) (target_effect_goes p o last) >>! λ e m h. done (refl, h)

  pub effect_goes : (p : ℕ) (o : Others) (last : Bool) → Spelled walk (effect p o last).form w.Effect
  unfolding effect sees_call
  effect_goes p o last =
      seen_value at_call (call_effect (p - 1) last) (other_effect p o last) (call_effect_goes (p - 1) last) (other_effect_goes p o last)

  -- ---- locals

  initial_goes : Spelled walk initial.form w.Assigned
  unfolding initial
  initial_goes =
      assign_mark_quiet w.tokens >>- λ _. w.assigned_values most_parens others.StepsAndBraces >>! λ v m h.
      done (refl, h)

  local_end_quiet : (o : Others) → Quiet walk (local_end o).form
  unfolding local_end
  local_end_quiet o = before_either_quiet w.tokens (codes ",") (codes ";") o

  -- a name with its frame, and then the others
  declared_then : {B : Type 0} {q : Seen → Form Seen Room Fault B} {Q : B → walk.Count → Type 0} (o : Others)
      → ((t : Seen) (a : walk.Count) → w.Named t.number a → Spelled walk (q t) (λ y m. Q y (walk.join a m)))
      → Spelled walk (bound (name o).form (λ t. bound (some_frames 1).form (λ _. q t))) Q
  declared_then {Q = Q} o h = record {
    each = λ at y rest s.
        let (t, mid, spelled, after) = s in
        let (unit, framed, counted, others) = after in
        walk.goes_on at framed rest (w.Named t.number) (Q y) ((w.named o).each at t framed (t, mid, spelled, (unit, framed, counted, (refl, refl)))) (λ a k. (h t a k).each framed y rest others);
  }

  pointer_local_goes : Spelled walk pointer_local.form w.Local
  unfolding pointer_local
  pointer_local_goes =
      star_quiet w.tokens >>- λ _. declared_then others.Stars (λ t a k. maybe_spelled at_assign _ initial_goes >>! λ v m h.
      local_end_quiet (after_local others.BracketsAndParens v) >>- λ _. done (refl, w.pointers t.number v a m k h))

  array_goes : Spelled walk array.form (λ x m. w.Sized x.0 m)
  unfolding array
  array_goes =
      w.sized >>! λ s m h. maybe_quiet at_assign _ (element_list_quiet w.tokens) >>- λ cs.
      before_either_quiet w.tokens (codes ",") (codes ";") (after_array cs) >>- λ _. done (refl, h)

  array_local_goes : (n : ℕ) (a : walk.Count) → w.Named n a
      → Spelled walk (array_local n).form (λ l m. w.Local l (walk.join a m))
  unfolding array_local
  array_local_goes n a k = array_goes >>! λ x m h. done (refl, w.arrays n x.0 x.1 a m k h)

  integer_local_goes : (n : ℕ) (a : walk.Count) → w.Named n a
      → Spelled walk (integer_local n).form (λ l m. w.Local l (walk.join a m))
  unfolding integer_local
  integer_local_goes n a k =
      maybe_spelled at_assign _ initial_goes >>! λ v m h. local_end_quiet (after_local others.Parens v) >>- λ _.
      done (refl, w.integers n v a m k h)

  plain_local_goes : Spelled walk plain_local.form w.Local
  unfolding plain_local
  plain_local_goes = declared_then others.Nothing (λ t a k. sees_quiet w.tokens (codes "[") >>- λ b.
      either_spelled b (weaken (array_local t.number)) (integer_local t.number) (array_local_goes t.number a k) (integer_local_goes t.number a k) >>! λ l m h. done (refl, h))

  local_goes : Spelled walk local.form w.Local
  unfolding local
  local_goes =
      sees_quiet w.tokens (codes "*") >>- λ p.
      either_spelled p pointer_local plain_local pointer_local_goes plain_local_goes >>! λ l m h. done (refl, h)

  further_local_goes : Spelled walk further_local.form w.Local
  unfolding further_local
  further_local_goes = comma_mark_quiet w.tokens >>- λ _. local_goes >>! λ l m h. done (refl, h)

  pub semicolon_quiet : (o : Others) → Quiet walk (semicolon o).form
  unfolding semicolon
  semicolon_quiet o = w.tokens.marks (codes ";") o semicolon_prints >>- λ _. done refl

  declaration_goes : Spelled walk declaration.form w.Stands
  unfolding declaration
  declaration_goes =
      next_number_quiet w.tokens >>- λ n. integer_type_quiet w.tokens settings.Block >>- λ i. local_goes >>+ λ l a k.
      row_spelled at_list_comma _ w.Locals further_local_goes w.no_locals w.more_locals >>! λ ls m h.
      semicolon_quiet others.Nothing >>- λ _. done (refl, w.declares n i (l ∷ ls) (walk.join a m) (w.more_locals l ls a m k h))

  -- ---- labels

  label_end_quiet : Quiet walk label_end.form
  unfolding label_end
  label_end_quiet = judged_spelled

  colon_quiet : (o : Others) → Quiet walk (colon o).form
  unfolding colon
  colon_quiet o = w.tokens.marks (codes ":") o colon_prints >>- λ _. label_end_quiet >>- λ _. done refl

  case_label_goes : Spelled walk case_label.form w.Stands
  unfolding case_label
  case_label_goes =
      w.counted (codes "case") others.Nothing case_prints >>! λ n m one. signed_constant_quiet w.tokens others.Expressions >>- λ c.
      colon_quiet (others.Rest false false) >>- λ _. done (refl, w.cases n c m one)

  default_label_goes : Spelled walk default_label.form w.Stands
  unfolding default_label
  default_label_goes =
      w.counted (codes "default") others.Nothing default_prints >>! λ n m one. colon_quiet others.Nothing >>- λ _.
      done (refl, w.defaults n m one)

  label_goes : Spelled walk label.form w.Stands
  unfolding label
  label_goes =
      sees_quiet w.tokens (codes "case") >>- λ c.
      either_spelled c case_label default_label case_label_goes default_label_goes >>! λ l m h. done (refl, h)

  -- ---- statements, where what stands in them is known

  open_paren_goes : Spelled walk open_paren.form (λ x m. w.One m)
  unfolding open_paren
  open_paren_goes = w.counted (codes "(") others.Nothing open_paren_prints >>! λ n m one. done (refl, one)

  close_paren_goes : (o : Others) → Spelled walk (close_paren o).form (λ x m. w.One m)
  unfolding close_paren
  close_paren_goes o = w.counted (codes ")") o close_paren_prints >>! λ n m one. done (refl, one)

  close_paren_quiet : (o : Others) → Quiet walk (close_paren o).form
  unfolding close_paren
  close_paren_quiet o = w.tokens.marks (codes ")") o close_paren_prints >>- λ _. done refl

  controlling_goes : Spelled walk controlling.form w.Controls
  unfolding controlling
  controlling_goes =
      open_paren_goes >>+ λ _ a one. w.conditions (most_parens - 1) >>+ λ c m h.
      close_paren_goes (rest_of true c) >>! λ _ b other. done (refl, w.controls c a m b one h other)

  switch_value_goes : Spelled walk switch_value.form w.Selects
  unfolding switch_value
  switch_value_goes =
      open_paren_goes >>+ λ _ a one. w.values (most_parens - 1) others.Steps >>+ λ e m h.
      close_paren_goes (rest_of true e) >>! λ _ b other. done (refl, w.selects e a m b one h other)

  empty_first_goes : Spelled walk empty_first.form (IfThere walk w.Stands)
  unfolding empty_first
  empty_first_goes = semicolon_quiet others.Nothing >>- λ _. done refl

  declared_first_goes : Spelled walk declared_first.form (IfThere walk w.Stands)
  unfolding declared_first
  declared_first_goes = declaration_goes >>! λ d m h. done (refl, h)

  effect_first_goes : Spelled walk effect_first.form (IfThere walk w.Stands)
  unfolding effect_first
  effect_first_goes =
      effect_goes (most_parens - 1) others.Nothing false >>! λ e m h. semicolon_quiet others.Nothing >>- λ _.
      done (refl, w.effects e m h)

  some_first_goes : Spelled walk some_first.form (IfThere walk w.Stands)
  unfolding some_first
  some_first_goes =
      judged_spelled >>- λ d.
      either_spelled d declared_first effect_first declared_first_goes effect_first_goes >>! λ f m h. done (refl, h)

  for_first_goes : Spelled walk for_first.form (IfThere walk w.Stands)
  unfolding for_first
  for_first_goes =
      sees_quiet w.tokens (codes ";") >>- λ none.
      either_spelled none empty_first some_first empty_first_goes some_first_goes >>! λ f m h. done (refl, h)

  empty_condition_goes : Spelled walk empty_condition.form (IfThere walk w.Condition)
  unfolding empty_condition
  empty_condition_goes = semicolon_quiet others.Nothing >>- λ _. done refl

  some_condition_goes : Spelled walk some_condition.form (IfThere walk w.Condition)
  unfolding some_condition
  some_condition_goes =
      w.conditions (most_parens - 1) >>! λ c m h. semicolon_quiet (rest_of true c) >>- λ _. done (refl, h)

  for_condition_goes : Spelled walk for_condition.form (IfThere walk w.Condition)
  unfolding for_condition
  for_condition_goes =
      sees_quiet w.tokens (codes ";") >>- λ none.
      either_spelled none empty_condition some_condition empty_condition_goes some_condition_goes >>! λ c m h.
      done (refl, h)

  empty_last_goes : Spelled walk empty_last.form (IfThere walk w.Effect)
  unfolding empty_last
  empty_last_goes = close_paren_quiet others.Nothing >>- λ _. done refl

  some_last_goes : Spelled walk some_last.form (IfThere walk w.Effect)
  unfolding some_last
  some_last_goes =
      effect_goes (most_parens - 1) others.Nothing true >>! λ e m h. close_paren_quiet others.Nothing >>- λ _.
      done (refl, h)

  for_last_goes : Spelled walk for_last.form (IfThere walk w.Effect)
  unfolding for_last
  for_last_goes =
      sees_quiet w.tokens (codes ")") >>- λ none. either_spelled none empty_last some_last empty_last_goes some_last_goes >>! λ e m h. done (refl, h)

  while_word_quiet : Quiet walk while_word.form
  unfolding while_word
  while_word_quiet = w.tokens.marks (codes "while") others.Nothing while_prints

  abbrev pub IsStanding : Standing → Statement → walk.Count → Type 0
  IsStanding place s m = w.Stands s m × IsBlock place s

  switch_goes_on : (e : Expression) (b : Statement) (a m : walk.Count) → w.Selects e a
      → IsStanding standings.SwitchBlock b m → w.Stands (tree.Switch e (items_of b)) (walk.join a m)
  switch_goes_on e b a m k h =
      let block : w.Stands (tree.Block h.1.0) m = subst (λ (s : Statement). w.Stands s m) h.1.1 h.0 in
      subst (λ (s : Statement). w.Stands (tree.Switch e (items_of s)) (walk.join a m)) (sym h.1.1) (w.switches e h.1.0 a m k block)

  block_goes : (o : Others) (item : Rule true Statement) → Spelled walk item.form w.Stands
      → Spelled walk (block o item).form (IsStanding standings.SwitchBlock)
  unfolding block
  block_goes o item h =
      w.tokens.marks (codes "{") o open_brace_prints >>- λ _. row_spelled in_block _ w.Stand h w.no_statements w.more_statements >>! λ ss m k.
      close_brace_quiet w.tokens >>- λ _. done (refl, (w.blocks ss m k, (statements_of ss, refl)))

  effect_statement_goes : (o : Others) → Spelled walk (effect_statement o).form w.Stands
  unfolding effect_statement
  effect_statement_goes o =
      effect_goes most_parens o false >>! λ e m h. semicolon_quiet others.Nothing >>- λ _. done (refl, w.effects e m h)

  empty_statement_goes : Spelled walk empty_statement.form w.Stands
  unfolding empty_statement
  empty_statement_goes = w.tokens.marks (codes ";") others.Nothing semicolon_prints >>- λ n. done (w.empties n)

  break_goes : (n : ℕ) → Spelled walk (break_after n).form w.Stands
  unfolding break_after
  break_goes n = semicolon_quiet others.Nothing >>- λ _. done (w.breaks n)

  continue_goes : (n : ℕ) → Spelled walk (continue_after n).form w.Stands
  unfolding continue_after
  continue_goes n = semicolon_quiet others.Nothing >>- λ _. done (w.continues n)

  return_nothing_goes : (n : ℕ) → Spelled walk (return_nothing n).form w.Stands
  unfolding return_nothing
  return_nothing_goes n = semicolon_quiet others.Nothing >>- λ _. done (w.returns n)

  return_value_goes : (n : ℕ) → Spelled walk (return_value n).form w.Stands
  unfolding return_value
  return_value_goes n =
      w.assigned_values most_parens others.Steps >>! λ v m h. semicolon_quiet (rest_of_value true v) >>- λ _.
      done (refl, w.value_returns n v m h)

  return_goes : (n : ℕ) → Spelled walk (return_after n).form w.Stands
  unfolding return_after
  return_goes n =
      sees_quiet w.tokens (codes ";") >>- λ none.
      either_spelled none (return_nothing n) (return_value n) (return_nothing_goes n) (return_value_goes n) >>! λ s m h. done (refl, h)

  leaving_goes : (t : Seen) → Spelled walk (leaving_after t).form w.Stands
  unfolding leaving_after
  leaving_goes t =
      either_spelled (bytes_eq t.text (codes "break")) (break_after t.number) _ (break_goes t.number)
      (either_spelled (bytes_eq t.text (codes "continue")) (continue_after t.number) _ (continue_goes t.number) (return_goes t.number))

  module _ (inner : Inside) (i : (place : Standing) → Spelled walk (inner place).form (IsStanding place)) where
    part_goes : Spelled walk (inner standings.Part).form w.Stands
    part_goes = spelled_as (i standings.Part) (λ s m h. h.0)

    else_goes : Spelled walk (else_part inner).form w.Stands
    unfolding else_part
    else_goes = w.tokens.marks (codes "else") others.Nothing else_prints >>- λ _. part_goes >>! λ s m h. done (refl, h)

    if_goes : Spelled walk (if_after inner).form w.Stands
    unfolding if_after
    if_goes =
        controlling_goes >>+ λ c a k. part_goes >>+ λ s m h. maybe_spelled at_else _ else_goes >>! λ e n j.
        done (refl, w.ifs c s e a m n k h j)

    while_goes : Spelled walk (while_after inner).form w.Stands
    unfolding while_after
    while_goes = controlling_goes >>+ λ c a k. part_goes >>! λ s m h. done (refl, w.whiles c s a m k h)

    do_goes : Spelled walk (do_after inner).form w.Stands
    unfolding do_after
    do_goes =
        part_goes >>+ λ s m h. while_word_quiet >>- λ _. controlling_goes >>! λ c a k.
        semicolon_quiet others.Nothing >>- λ _. done (refl, w.dos s c m a h k)

    for_goes : Spelled walk (for_after inner).form w.Stands
    unfolding for_after
    for_goes =
        open_paren_goes >>+ λ _ p one. for_first_goes >>+ λ f a first. for_condition_goes >>+ λ c b low. for_last_goes >>+ λ e d last.
        part_goes >>! λ s m h. done (refl, w.fors f c e s p a b d m one first low last h)

    switch_goes : Spelled walk (switch_after inner).form w.Stands
    unfolding switch_after
    switch_goes =
        switch_value_goes >>+ λ e a k. i standings.SwitchBlock >>! λ b m h. done (refl, switch_goes_on e b a m k h)

    worded_after_goes : (t : Seen) → Spelled walk (worded_after inner t).form w.Stands
    unfolding worded_after
    worded_after_goes t =
        either_spelled (bytes_eq t.text (codes "if")) (if_after inner) _ if_goes
        (either_spelled (bytes_eq t.text (codes "while")) (while_after inner) _ while_goes
        (either_spelled (bytes_eq t.text (codes "do")) (do_after inner) _ do_goes
        (either_spelled (bytes_eq t.text (codes "for")) (for_after inner) _ for_goes
        (either_spelled (bytes_eq t.text (codes "switch")) (switch_after inner) _ switch_goes (leaving_goes t)))))

    worded_goes : Spelled walk (seen (λ at. at_symbol is_statement at) (worded inner).form) w.Stands
    unfolding worded
    worded_goes =
        first_seen some_token.form (λ t. bound (worded_after inner t).form (λ s. made s)) (w.words >>- λ t. worded_after_goes t >>! λ s m h. done (refl, h))

    unworded_long_goes : (o : Others) → Spelled walk (unworded_long inner o).form w.Stands
    unfolding unworded_long
    unworded_long_goes o =
        sees_quiet w.tokens (codes "{") >>- λ b. either_spelled b (block others.Nothing (inner standings.Item)) (effect_statement o)
        (spelled_as (block_goes others.Nothing (inner standings.Item) (spelled_as (i standings.Item) (λ s m h. h.0))) (λ s m h. h.0)) (effect_statement_goes o) >>! λ s m h. done (refl, h)

    unworded_goes : (o : Others) → Spelled walk (unworded inner o).form w.Stands
    unfolding unworded
    unworded_goes o =
        sees_quiet w.tokens (codes ";") >>- λ e.
        either_spelled e empty_statement (unworded_long inner o) empty_statement_goes (unworded_long_goes o) >>! λ s m h. done (refl, h)

    statement_goes : (o : Others) → Spelled walk (statement inner o).form w.Stands
    unfolding statement
    statement_goes o =
        seen_value (λ at. at_symbol is_statement at) (worded inner) (unworded inner o) worded_goes (unworded_goes o)

    item_goes : (o : Others) → Spelled walk (item inner o).form w.Stands
    unfolding item
    item_goes o =
        judged_spelled >>- λ d.
        either_spelled d declaration (statement inner o) declaration_goes (statement_goes o) >>! λ s m h. done (refl, h)

    switch_item_goes : Spelled walk (switch_item inner).form w.Stands
    unfolding switch_item
    switch_item_goes =
        judged_spelled >>- λ l.
        either_spelled l label (item inner others.Nothing) label_goes (item_goes others.Nothing) >>! λ s m h.
        done (refl, h)

    placed_goes : (place : Standing) → Spelled walk (placed_statement inner place).form (IsStanding place)
    unfolding placed_statement
    placed_goes standings.Part = spelled_as (statement_goes others.Labels) (λ s m h. (h, tt))
    placed_goes standings.Item = spelled_as (item_goes others.Labels) (λ s m h. (h, tt))
    placed_goes standings.SwitchItem = spelled_as switch_item_goes (λ s m h. (h, tt))
    placed_goes standings.SwitchBlock =
        block_goes others.Statements (inner standings.SwitchItem) (spelled_as (i standings.SwitchItem) (λ s m h. h.0))

  -- ---- nesting

  none_fits : (f g : Fault) (x : Statement) (b : Bool) → cond b (Err f) (Err g) ≡ Ok x → ⊥
  none_fits f g x true e = ok_no_err x f e
  none_fits f g x false e = ok_no_err x g e

  too_nested_goes : {P : Statement → walk.Count → Type 0} (place : Standing)
      → Spelled walk (one (fits_too_nested place)).form P
  too_nested_goes place =
      never_spelled (fits_too_nested place) (λ t x e. none_fits (Limit which.Nesting 33) (misfit (others_at place) t) x (may_begin place t.symbol) e)

  innermost_item_goes : (place : Standing) → Spelled walk (innermost_item place).form w.Stands
  unfolding innermost_item
  innermost_item_goes place =
      judged_spelled >>- λ d.
      either_spelled d declaration (one (fits_too_nested place)) declaration_goes (too_nested_goes place) >>! λ s m h.
      done (refl, h)

  innermost_goes : (place : Standing) → Spelled walk (innermost place).form (IsStanding place)
  unfolding innermost
  innermost_goes standings.Part = too_nested_goes standings.Part
  innermost_goes standings.Item = spelled_as (innermost_item_goes standings.Item) (λ s m h. (h, tt))
  innermost_goes standings.SwitchItem = spelled_as (innermost_item_goes standings.SwitchItem) (λ s m h. (h, tt))
  innermost_goes standings.SwitchBlock = too_nested_goes standings.SwitchBlock

  pub standing_goes : (n : ℕ) (place : Standing) → Spelled walk (standing n place).form (IsStanding place)
  unfolding standing
  standing_goes zero place = innermost_goes place
  standing_goes (suc n) place = placed_goes (standing n) (λ p. standing_goes n p) place
