-- Laws of statements.
--   count_walk words    declared tokens, calls and elements, as `Taken` says
use Rattle.std.proofs.Common.{◌≡◌, ◌+◌, ℕ, Bool, List, [], ◌∷◌, ◌++◌, Option, Some, None, refl, sym, ap, ap₂, subst, ◌∙◌, arith, append-nil}
use Rattle.std.specs.Prelude.{⊤}
use Rattle.grammar.specs.Form.{Form}
use Rattle.c_unit.specs.Tree.{Expression, ValueTree, EffectTree, LocalTree, Statement, Block, Case, Default, While, Do, Switch, Steps, Updates, Assigns, Statements, statements_of, if_of, for_of, LocalPointer, LocalInteger, LocalArray}
use Rattle.c_unit.specs.declared.types.Constant.{Constant}
use Rattle.c_unit.specs.Units.{Word}
use Rattle.c_rules.specs.Recursion.{calls_if_done, calls_in, called_in}
use Rattle.c_rules.specs.Names.{worth_at, number_of}
use Rattle.c_grammar.specs.declared.standing.Standing.{Standing}
use Rattle.c_grammar.specs.declared.standing.Standing.TheVariants as standings
use Rattle.c_grammar.specs.Tokens.{Fault, Seen, Room, Place}
use Rattle.c_grammar.specs.Statements.{step, assigning_mark, fits_step_of, standing}
use Rattle.c_grammar.specs.Expressions.{some_token, fits_any}
use Rattle.c_grammar.specs.WalkLaws.{Walk, Spelled, Quiet, IfThere, seen_anywhere}
use Rattle.c_grammar.specs.WalkLaws as walks
use Rattle.c_grammar.specs.TypeWalkLaws.{TypeTokens}
use Rattle.c_grammar.specs.StatementWalkLaws as statement_walks
use Rattle.c_grammar.specs.StatementWalkLaws.{MayAssign, StatementWalk, all_may, standing_goes}
use Rattle.c_rules.specs.SpelledExpressions.{IfEffect, IfCondition, InStatement, InStatements}
use Rattle.c_rules.specs.Counts.{tokens_in, all_tokens_in, elements_in, all_elements_in}
use Rattle.c_limits.specs.Taking.{Good}
use Rattle.c_limits.proofs.TakingLaws.{Takes, mark_takes, one_takes, same_place}
use Rattle.c_limits.specs.Measuring.{Taken, Quietly, Fits}
use Rattle.c_limits.proofs.MeasuringLaws.{quiet_taken, two_taken, q_made, fits_quiet, fits_as}
use Rattle.c_limits.proofs.DepthLaws.{whole_expr_deep, condition_deep, target_deep}
use Rattle.c_limits.specs.Spending.{Shallow}
use Rattle.c_limits.proofs.SpendingLaws.{Counted, fits_declared, size_fits}
use Rattle.c_limits.proofs.TypesTakeLaws.{name_takes, constant_takes, specifier_takes}
use Rattle.c_limits.specs.Effects.{Is, IsStatement}
use Rattle.c_limits.proofs.EffectLaws.{IsCall, IsValue, IsEffect, IsFirst, IsLocal, AreLocals, one_more, call_fits, assigned_fits}
use Rattle.c_limits.specs.Statements.{IsBlock, IsStanding}

module _ (words : List Word) where
  -- ---- what is counted on a way

  abbrev pub Counts : Type 0
  Counts = List ℕ × List ℕ × ℕ

  abbrev pub nothing : Counts
  nothing = ([], [], 0)

  abbrev pub joins : Counts → Counts → Counts
  joins m n = (m.0 ++ n.0, m.1 ++ n.1, m.2 + n.2)

  no_more : (n : ℕ) → n + 0 ≡ n
  no_more n = omega arith

  none_yet : (n : ℕ) → 0 + n ≡ n
  none_yet n = omega arith

  added : (m n k : ℕ) → m + (n + k) ≡ m + n + k
  added m n k = omega arith

  appended : (xs ys zs : List ℕ) → xs ++ (ys ++ zs) ≡ (xs ++ ys) ++ zs
  appended [] ys zs = refl
  appended (x ∷ xs) ys zs = ap (λ (l : List ℕ). x ∷ l) (appended xs ys zs)

  nothing_before : (m : Counts) → joins nothing m ≡ m
  nothing_before m = ap (λ (k : ℕ). (m.0, m.1, k)) (none_yet m.2)

  nothing_after : (m : Counts) → joins m nothing ≡ m
  nothing_after m = ap₂ (λ (xs ys : List ℕ). (xs, ys, m.2 + 0)) (append-nil m.0) (append-nil m.1) ∙ ap (λ (k : ℕ). (m.0, m.1, k)) (no_more m.2)

  all_joined : (m n k : Counts) → joins m (joins n k) ≡ joins (joins m n) k
  all_joined m n k = ap₂ (λ (xs ys : List ℕ). (xs, ys, m.2 + (n.2 + k.2))) (appended m.0 n.0 k.0) (appended m.1 n.1 k.1) ∙ ap (λ (l : ℕ). ((m.0 ++ n.0) ++ k.0, (m.1 ++ n.1) ++ k.1, l)) (added m.2 n.2 k.2)

  abbrev pub OfCounts : (Counts → Type 0) → List ℕ → List ℕ → ℕ → Type 0
  OfCounts P ds calls el = P (ds, calls, el)

  abbrev pub Counting : Place → (Counts → Type 0) → Place → Type 0
  Counting at P rest = (n : ℕ) → Good words n at.ahead → Taken words n at rest (OfCounts P)

  stays : (at : Place) (P : Counts → Type 0) → P nothing → Counting at P at
  stays at P h n good = quiet_taken words n at at (OfCounts P) (same_place at at refl) good h

  goes_on : (at mid rest : Place) (P Q : Counts → Type 0) → Counting at P mid
      → ((m : Counts) → P m → Counting mid (λ n. Q (joins m n)) rest) → Counting at Q rest
  goes_on at mid rest P Q hp hq n good =
      let t = hp n good in
      let u = hq (t.ds, t.calls, t.el) t.holds t.m t.good in
      two_taken words n at mid rest (OfCounts P) (OfCounts (λ m. Q (joins (t.ds, t.calls, t.el) m))) (OfCounts Q) t u u.holds

  abbrev count_walk : Walk
  count_walk = record {
    Count = Counts;
    none = nothing;
    join = joins;
    none_before = nothing_before;
    none_after = nothing_after;
    joined = all_joined;
    Goes = Counting;
    stays = stays;
    goes_on = goes_on;
  }

  quiet_so : {A : Type 0} {p : Form Seen Room Fault A} → Takes p → Quiet count_walk p
  quiet_so h = record { each = λ at x rest s n good. quiet_taken words n at rest (OfCounts (λ m. m ≡ nothing)) (h.each at x rest s) good refl }

  quietly_so : {A : Type 0} {p : Form Seen Room Fault A} {R : A → Type 0} → Quietly words p R
      → walks.Quietly count_walk p R
  quietly_so {R = R} h = record {
    each = λ at x rest s n good.
        let k = h.each at x rest s in
        quiet_taken words n at rest (OfCounts (λ m. (m ≡ nothing) × R x)) k.0 good (refl, k.1);
  }

  fits_so : {A : Type 0} {p : Form Seen Room Fault A} {post : A → List ℕ → List ℕ → ℕ → Type 0} → Fits words p post
      → Spelled count_walk p (λ x m. post x m.0 m.1 m.2)
  fits_so h = record { each = λ at x rest s n good. h.each at x rest s n good }

  -- nothing is counted first, or last
  after_nothing : (P : Counts → Type 0) (a m : Counts) → a ≡ nothing → P m → P (joins a m)
  after_nothing P a m e h = subst (λ (z : Counts). P (joins z m)) (sym e) (subst P (sym (nothing_before m)) h)

  before_nothing : (P : Counts → Type 0) (m b : Counts) → b ≡ nothing → P m → P (joins m b)
  before_nothing P m b e h = subst (λ (z : Counts). P (joins m z)) (sym e) (subst P (sym (nothing_after m)) h)

  all_nothing : (a m b : Counts) → a ≡ nothing → m ≡ nothing → b ≡ nothing → joins a (joins m b) ≡ nothing
  all_nothing a m b ea em eb = ap₂ joins ea (ap₂ joins em eb)

  -- ---- tokens

  step_takes : Takes step.form
  unfolding step
  step_takes = one_takes (λ t. fits_step_of t.symbol t)

  some_takes : Takes some_token.form
  unfolding some_token
  some_takes = one_takes fits_any

  any_assigning : (to : Expression) (last : Bool)
      → walks.Quietly count_walk (assigning_mark to last).form (λ a. MayAssign (λ op. ⊤) a.0)
  unfolding assigning_mark
  any_assigning to last = record {
    each = λ at x rest s n good. quiet_taken words n at rest (OfCounts (λ m. (m ≡ nothing) × MayAssign (λ op. ⊤) x.0)) ((one_takes _).each at x rest s) good (refl, all_may x.0);
  }

  count_tokens : TypeTokens count_walk
  count_tokens = record {
    marks = λ word o _. quiet_so (mark_takes word o);
    names = λ o. quiet_so (name_takes o);
    constants = λ o. quiet_so (constant_takes o);
    specifiers = λ setting w. quiet_so (specifier_takes setting w);
  }

  -- ---- locals

  abbrev Named : ℕ → Counts → Type 0
  Named n m = m ≡ (n ∷ [], [], 0)

  abbrev Sized : ℕ → Counts → Type 0
  Sized s m = Counted words [] [] (number_of (worth_at words s)) m.0 m.1 m.2

  abbrev Assigned : ValueTree → Counts → Type 0
  Assigned v m = IsValue words v m.0 m.1 m.2

  first_is : (v : Option ValueTree) (m : Counts) → IfThere count_walk Assigned v m → IsFirst words v m.0 m.1 m.2
  first_is None m h = subst (λ (z : Counts). IsFirst words None z.0 z.1 z.2) (sym h) (refl, refl, refl, tt)
  first_is (Some v) m h = h

  abbrev OneLocal : LocalTree → Counts → Type 0
  OneLocal l m = IsLocal words l m.0 m.1 m.2

  pointer_is : (n : ℕ) (v : Option ValueTree) (a m : Counts) → Named n a → IfThere count_walk Assigned v m
      → OneLocal (record { name = n; shape = LocalPointer v }) (joins a m)
  pointer_is n v a m named h =
      let is = first_is v m h in
      subst (λ (z : Counts). OneLocal (record { name = n; shape = LocalPointer v }) (joins z m)) (sym named)
      (ap (λ (xs : List ℕ). n ∷ xs) is.0, is.1, none_yet m.2 ∙ is.2, is.3)

  integer_is : (n : ℕ) (v : Option ValueTree) (a m : Counts) → Named n a → IfThere count_walk Assigned v m
      → OneLocal (record { name = n; shape = LocalInteger v }) (joins a m)
  integer_is n v a m named h =
      let is = first_is v m h in
      subst (λ (z : Counts). OneLocal (record { name = n; shape = LocalInteger v }) (joins z m)) (sym named)
      (ap (λ (xs : List ℕ). n ∷ xs) is.0, is.1, none_yet m.2 ∙ is.2, is.3)

  array_is : (n s : ℕ) (cs : Option (List Constant)) (a m : Counts) → Named n a → Sized s m
      → OneLocal (record { name = n; shape = LocalArray s cs }) (joins a m)
  array_is n s cs a m named is =
      subst (λ (z : Counts). OneLocal (record { name = n; shape = LocalArray s cs }) (joins z m)) (sym named)
      (ap (λ (xs : List ℕ). n ∷ xs) is.0, is.1, none_yet m.2 ∙ is.2, tt)

  -- ---- effects and statements

  abbrev Quiets : Expression → Counts → Type 0
  Quiets e m = (m ≡ nothing) × Shallow e

  abbrev Effect : EffectTree → Counts → Type 0
  Effect e m = IsEffect words e m.0 m.1 m.2

  abbrev Stands : Statement → Counts → Type 0
  Stands s m = IsStatement words s m.0 m.1 m.2

  quiet_effect : (e : EffectTree) (m : Counts) → m ≡ nothing → Effect e nothing → Effect e m
  quiet_effect e m none is = subst (Effect e) (sym none) is

  -- ---- options

  abbrev pub tokens_if : Option Statement → List ℕ
  tokens_if None = []
  tokens_if (Some s) = tokens_in s

  abbrev pub calls_if : Option Statement → List ℕ
  calls_if None = []
  calls_if (Some s) = calls_in s

  abbrev pub elements_if : Option Statement → ℕ
  elements_if None = 0
  elements_if (Some s) = elements_in words s

  abbrev pub IfStatement : Option Statement → Type 0
  IfStatement None = ⊤
  IfStatement (Some s) = InStatement Shallow Shallow s

  abbrev pub IsOption : Option Statement → List ℕ → List ℕ → ℕ → Type 0
  IsOption = Is words tokens_if calls_if elements_if IfStatement

  abbrev pub IsLast : Option EffectTree → List ℕ → List ℕ → ℕ → Type 0
  IsLast = Is words (λ e. []) calls_if_done (λ e. 0) (IfEffect Shallow)

  -- ---- sums

  if_counts : (c : Expression) (s : Statement) (e : Option Statement) (ds calls : List ℕ) (el : ℕ) (es more : List ℕ) (fl : ℕ)
      → Shallow c → IsStatement words s ds calls el → IsOption e es more fl
      → IsStatement words (if_of c s e) (ds ++ es) (calls ++ more) (el + fl)
  if_counts c s None ds calls el es more fl low is are = (
    ap (λ (xs : List ℕ). ds ++ xs) are.0 ∙ append-nil ds ∙ is.0,
    ap (λ (xs : List ℕ). calls ++ xs) are.1 ∙ append-nil calls ∙ is.1,
    (let a = is.2 in let b = are.2 in omega (arith, a, b)),
    (low, is.3),
  )
  if_counts c s (Some e) ds calls el es more fl low is are = (
    ap₂ (λ (xs ys : List ℕ). xs ++ ys) is.0 are.0,
    ap₂ (λ (xs ys : List ℕ). xs ++ ys) is.1 are.1,
    (let a = is.2 in let b = are.2 in omega (arith, a, b)),
    (low, is.3, are.3),
  )

  for_counts : (f : Option Statement) (c : Option Expression) (e : Option EffectTree) (s : Statement) (d0 d1 d2 c0 c1 c2 : List ℕ)
      (e0 e1 e2 : ℕ) → IsOption f d0 c0 e0 → IfCondition Shallow c → IsLast e d1 c1 e1 → IsStatement words s d2 c2 e2
      → IsStatement words (for_of f c e s) (d0 ++ (d1 ++ d2)) (c0 ++ (c1 ++ c2)) (e0 + (e1 + e2))
  for_counts None c e s d0 d1 d2 c0 c1 c2 e0 e1 e2 first low last is = (
    ap₂ (λ (xs ys : List ℕ). xs ++ (ys ++ d2)) first.0 last.0 ∙ is.0,
    ap₂ (λ (xs ys : List ℕ). xs ++ (ys ++ c2)) first.1 last.1 ∙ ap (λ (xs : List ℕ). calls_if_done e ++ xs) is.1,
    (let a = first.2 in let b = last.2 in let d = is.2 in omega (arith, a, b, d)),
    (low, last.3, is.3),
  )
  for_counts (Some f) c e s d0 d1 d2 c0 c1 c2 e0 e1 e2 first low last is = (
    ap₂ (λ (xs ys : List ℕ). xs ++ (ys ++ d2)) first.0 last.0 ∙ ap (λ (xs : List ℕ). tokens_in f ++ xs) is.0,
    ap₂ (λ (xs ys : List ℕ). xs ++ (ys ++ c2)) first.1 last.1 ∙ ap (λ (xs : List ℕ). calls_in f ++ (calls_if_done e ++ xs)) is.1,
    (let a = first.2 in let b = last.2 in let d = is.2 in omega (arith, a, b, d)),
    (first.3, low, last.3, is.3),
  )

  abbrev pub AreStatements : List Statement → List ℕ → List ℕ → ℕ → Type 0
  AreStatements =
      Is words (λ (ss : List Statement). all_tokens_in (statements_of ss)) (λ (ss : List Statement). called_in (statements_of ss))
      (λ (ss : List Statement). all_elements_in words (statements_of ss))
      (λ (ss : List Statement). InStatements Shallow Shallow (statements_of ss))

  pub one_statement_more : (s : Statement) (ss : List Statement) (ds calls : List ℕ) (el : ℕ) (es more : List ℕ) (fl : ℕ)
      → IsStatement words s ds calls el → AreStatements ss es more fl → AreStatements (s ∷ ss) (ds ++ es) (calls ++ more) (el + fl)
  one_statement_more s ss ds calls el es more fl is are =
      (ap₂ (λ (xs ys : List ℕ). xs ++ ys) is.0 are.0, ap₂ (λ (xs ys : List ℕ). xs ++ ys) is.1 are.1, ap₂ (λ (x y : ℕ). x + y) is.2 are.2, (is.3, are.3))

  option_is : (e : Option Statement) (m : Counts) → IfThere count_walk Stands e m → IsOption e m.0 m.1 m.2
  option_is None m h = subst (λ (z : Counts). IsOption None z.0 z.1 z.2) (sym h) (refl, refl, refl, tt)
  option_is (Some s) m h = h

  last_is : (e : Option EffectTree) (m : Counts) → IfThere count_walk Effect e m → IsLast e m.0 m.1 m.2
  last_is None m h = subst (λ (z : Counts). IsLast None z.0 z.1 z.2) (sym h) (refl, refl, refl, tt)
  last_is (Some e) m h = h

  quiet_condition : (c : Option Expression) (m : Counts) → IfThere count_walk Quiets c m
      → (m ≡ nothing) × IfCondition Shallow c
  quiet_condition None m h = (h, tt)
  quiet_condition (Some c) m h = h

  for_is : (f : Option Statement) (c : Option Expression) (e : Option EffectTree) (s : Statement) (p a b d m : Counts)
      → p ≡ nothing → IfThere count_walk Stands f a → IfThere count_walk Quiets c b → IfThere count_walk Effect e d → Stands s m
      → Stands (for_of f c e s) (joins p (joins a (joins b (joins d m))))
  for_is f c e s p a b d m one first low last is =
      let quiet = quiet_condition c b low in
      after_nothing (Stands (for_of f c e s)) p (joins a (joins b (joins d m))) one
      (after_nothing (λ z. Stands (for_of f c e s) (joins a z)) b (joins d m) quiet.0
      (for_counts f c e s a.0 d.0 m.0 a.1 d.1 m.1 a.2 d.2 m.2 (option_is f a first) quiet.1 (last_is e d last) is))

  quiet_statement : (s : Statement) (m : Counts) → m ≡ nothing → Stands s nothing → Stands s m
  quiet_statement s m none is = subst (Stands s) (sym none) is

  abbrev count_statements : StatementWalk count_walk
  count_statements = record {
    One = λ m. m ≡ nothing;
    Named = Named;
    Sized = Sized;
    MayUpdate = λ op. ⊤;
    Value = Quiets;
    Condition = Quiets;
    Call = λ c m. IsCall words c m.0 m.1 m.2;
    Assigned = Assigned;
    Controls = Quiets;
    Selects = Quiets;
    Effect = Effect;
    Local = OneLocal;
    Locals = λ ls m. AreLocals words ls m.0 m.1 m.2;
    Stands = Stands;
    Stand = λ ss m. AreStatements ss m.0 m.1 m.2;
    tokens = count_tokens;
    counted = λ word o _. quiet_so (mark_takes word o);
    steps = quiet_so step_takes;
    assigns = any_assigning;
    words = seen_anywhere _ (quiet_so some_takes);
    named = λ o. fits_so (fits_declared words {post = λ t ds calls el. (ds, calls, el) ≡ (t.number ∷ [], [], 0)} o (λ t. fits_quiet words (q_made words t refl)));
    sized = fits_so (size_fits words);
    values = λ p o. quietly_so (whole_expr_deep words p o);
    targets = λ p c o. quietly_so (target_deep words p c o);
    conditions = λ p. quietly_so (condition_deep words p);
    calls = λ p. seen_anywhere _ (fits_so (call_fits words p));
    assigned_values = λ p o. fits_so (assigned_fits words p o);
    call_effects = λ c m is. is;
    step_effects = λ e up n m quiet. quiet_effect (Steps e up n) m quiet.0 (refl, refl, refl, quiet.1);
    assign_effects = λ to n v a m quiet is. after_nothing (Effect (Assigns to n v)) a m quiet.0 (is.0, is.1, is.2, (quiet.1, is.3));
    update_effects = λ to op n e a m _ quiet other. after_nothing (Effect (Updates to op n e)) a m quiet.0 (quiet_effect (Updates to op n e) m other.0 (refl, refl, refl, (quiet.1, other.1)));
    pointers = pointer_is;
    integers = integer_is;
    arrays = array_is;
    no_locals = (refl, refl, refl, tt);
    more_locals = λ l ls a m is are. one_more words l ls a.0 a.1 a.2 m.0 m.1 m.2 is are;
    declares = λ n i ls m are. are;
    cases = λ n c m one. quiet_statement (Case n c) m one (refl, refl, refl, tt);
    defaults = λ n m one. quiet_statement (Default n) m one (refl, refl, refl, tt);
    controls = λ e a m b one quiet other. (all_nothing a m b one quiet.0 other, quiet.1);
    selects = λ e a m b one quiet other. (all_nothing a m b one quiet.0 other, quiet.1);
    ifs = λ c s e a m n quiet is others. after_nothing (Stands (if_of c s e)) a (joins m n) quiet.0 (if_counts c s e m.0 m.1 m.2 n.0 n.1 n.2 quiet.1 is (option_is e n others));
    whiles = λ c s a m quiet is. after_nothing (Stands (While c s)) a m quiet.0 (is.0, is.1, is.2, (quiet.1, is.3));
    dos = λ s c m a is quiet. before_nothing (Stands (Do s c)) m a quiet.0 (is.0, is.1, is.2, (is.3, quiet.1));
    fors = for_is;
    switches = λ e ss a m quiet is. after_nothing (Stands (Switch e ss)) a m quiet.0 (is.0, is.1, is.2, (quiet.1, is.3));
    breaks = λ n. (refl, refl, refl, tt);
    continues = λ n. (refl, refl, refl, tt);
    returns = λ n. (refl, refl, refl, tt);
    value_returns = λ n v m is. is;
    empties = λ n. (refl, refl, refl, tt);
    blocks = λ ss m are. are;
    no_statements = (refl, refl, refl, tt);
    more_statements = λ s ss a m is are. one_statement_more s ss a.0 a.1 a.2 m.0 m.1 m.2 is are;
    effects = λ e m is. is;
  }

  block_so : (place : Standing) (s : Statement) → statement_walks.IsBlock place s → IsBlock words place s
  block_so standings.SwitchBlock s is = is
  block_so standings.Part s is = tt
  block_so standings.Item s is = tt
  block_so standings.SwitchItem s is = tt

  pub standing_fits : (n : ℕ) (place : Standing) → Fits words (standing n place).form (IsStanding words place)
  standing_fits n place = fits_as words (λ s ds calls el is. (is.0, block_so place s is.1)) (record { each = λ at x rest s k good. (standing_goes count_statements n place).each at x rest s k good })
