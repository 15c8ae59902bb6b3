-- Items of conditions and of switches stand.
--   condition_stands   the items of a condition stand, whose labels are numbered from a label on
--   targets_stand      the targets of a switch lead to labels, and no two have one number
--   default_stands     so does its default
use Rattle.std.proofs.Common.{◌≡◌, ◌≢◌, ◌<◌, ◌≤◌, ◌^◌, ◌+◌, ◌-◌, ◌%◌, ◌==◌, ◌||◌, ℕ, suc, max, Bool, true, false, List, ◌∷◌, refl, sym, ◌∙◌, arith, eq-eqb}
use Rattle.lists.specs.TestLaws.{by_test}
use Rattle.alf_program.specs.declared.program.Num.{Num}
use Rattle.alf_program.specs.Tree.{NamedExpression, BodyItem, WholeProgram}
use Rattle.alf_program.specs.Tree as alf
use Rattle.c_unit.specs.declared.types.Integer.{Integer}
use Rattle.c_unit.specs.declared.types.Constant.{Constant}
use Rattle.c_unit.specs.declared.expression.Unary.{Unary}
use Rattle.c_unit.specs.declared.expression.Unary.TheVariants as unary
use Rattle.c_unit.specs.declared.expression.Binary.{Binary}
use Rattle.c_unit.specs.declared.expression.Binary.TheVariants as binary
use Rattle.c_unit.specs.Tree.{Expression, OfConstant, OfName, InParentheses, WithUnary, WithCast, AtIndex, WithBinary, Statement, Empty, Declares, Block, If, IfElse, While, Do as DoWhile, For, ForAfter, Switch as SwitchOn, Case, Default, Break, Continue, Returns, Does, Statements, Nothing, Then}
use Rattle.c_unit.specs.Units.{Word}
use Rattle.c_tokens.specs.declared.worth.Worth.{Worth}
use Rattle.c_tokens.specs.declared.worth.Worth.TheVariants as worth
use Rattle.c_rules.specs.Names.{Scope, text_at, worth_at, number_of}
use Rattle.c_rules.specs.Statements.{Around, label_of, is_label, around_after, scopes_after}
use Rattle.c_rules.specs.Standing.{StatementsStand}
use Rattle.c_meaning.specs.Objects.{Program}
use Rattle.c_meaning.specs.Expressions.{kind_of}
use Rattle.c_lowered.specs.Values.{is_true, test_of, value_of}
use Rattle.c_lowered.specs.Conditions.{label, label_item, by_unary, by_binary, condition_labels, branch, condition_items}
use Rattle.c_lowered.specs.Statements.{is_case, cases_in, target, targets_in, default_in, if_case}
use Rattle.lowering_layout.specs.Lists.{EachOf, Apart}
use Rattle.lowering_layout.specs.ListLaws.{each_when}
use Rattle.lowering_checks.specs.Terms.{Term}
use Rattle.lowering_checks.proofs.TermLaws.{deeper}
use Rattle.lowering_checks.specs.Constants.{Fits}
use Rattle.lowering_checks.proofs.ConstantLaws.{worth_fits}
use Rattle.lowering_checks.proofs.OperatorLaws.{is_true_term, test_term}
use Rattle.lowering_checks.specs.Values.{NamesStand, deep, ScopesUsable}
use Rattle.lowering_checks.proofs.ValueLaws.{value_term}
use Rattle.lowering_checks.proofs.StandingLaws.{IsLabel, TargetStands}
use Rattle.lowering_checks.specs.Effects.{Shallow}
use Rattle.lowering_checks.proofs.EffectLaws.{AreItems, within}

either_false : (a b : Bool) → (a || b) ≡ false → (a ≡ false) × (b ≡ false)
either_false true b e = absurd (let bad : true ≡ false = e in cc)
either_false false b e = (refl, e)

-- ---- numbers of labels of a switch

number_low : (w : Worth) → Fits w → number_of w < 2 ^ 32
number_low worth.NoConstant fits = omega arith
number_low worth.TooLarge fits = omega arith
number_low (worth.Int n) fits = fits
number_low (worth.UnsignedInt n) fits = fits

label_low : (words : List Word) (c : Constant) → label_of words c < 2 ^ 32
label_low words c =
    let plain = number_low (worth_at words c.token) (worth_fits (text_at words c.token)) in
    by_test c.minus
    (λ minus. rw minus (let low : (4294967296 - number_of (worth_at words c.token)) % 4294967296 < 2 ^ 32 = omega arith in low))
    (λ other. rw other plain)

module _ (whole : WholeProgram) (func : alf.Function) (program : Program) (defined : List ℕ) (f labels results : ℕ) where
  abbrev pub Items : List BodyItem → Type 0
  Items items = AreItems whole func program defined f labels results items

  abbrev pub IsOwn : List ℕ → Type 0
  IsOwn name = IsLabel whole func program f labels name

  pub own_label : (k : ℕ) → k < labels → IsOwn (label (within whole func program defined f labels results) k)
  own_label k low = record { number = k; low = low; is = refl }

  -- ---- conditions

  branch_stands : (test : NamedExpression) (held failed : List ℕ) (rest : List BodyItem) → Term whole func 1 64 test
      → IsOwn held
      → IsOwn failed → Items rest → Items (branch test held failed ∷ rest)
  branch_stands test held failed rest term is_held is_failed are = (
    record {
      size = 1;
      some = omega arith;
      small = omega arith;
      value_term = term;
      each = (record { same = refl; low = omega arith; leads = is_held }, tt);
      differ = (tt, tt);
      leads_else = is_failed;
    },
    are,
  )

  negated_stands : (op : Unary) (negated plain : List BodyItem) (next k : ℕ) → next + by_unary op k 0 ≤ labels
      → (next + k ≤ labels → Items negated) → Items plain → Items (by_unary op negated plain)
  negated_stands unary.Not negated plain next k most h i = h most
  negated_stands unary.Complement negated plain next k most h i = i
  negated_stands unary.Minus negated plain next k most h i = i
  negated_stands unary.Plus negated plain next k most h i = i
  negated_stands unary.Load negated plain next k most h i = i
  negated_stands unary.Address negated plain next k most h i = i

  joined_stands : (op : Binary) (both either plain : List BodyItem) (next k : ℕ) → next + by_binary op k k 0 ≤ labels
      → (next + k ≤ labels → Items both) → (next + k ≤ labels → Items either) → Items plain → Items (by_binary op both either plain)
  joined_stands binary.Both both either plain next k most h i j = h most
  joined_stands binary.Either both either plain next k most h i j = i most
  joined_stands binary.Multiply both either plain next k most h i j = j
  joined_stands binary.Divide both either plain next k most h i j = j
  joined_stands binary.Remainder both either plain next k most h i j = j
  joined_stands binary.Add both either plain next k most h i j = j
  joined_stands binary.Subtract both either plain next k most h i j = j
  joined_stands binary.ShiftLeft both either plain next k most h i j = j
  joined_stands binary.ShiftRight both either plain next k most h i j = j
  joined_stands binary.Less both either plain next k most h i j = j
  joined_stands binary.Greater both either plain next k most h i j = j
  joined_stands binary.AtMost both either plain next k most h i j = j
  joined_stands binary.AtLeast both either plain next k most h i j = j
  joined_stands binary.Equal both either plain next k most h i j = j
  joined_stands binary.Unequal both either plain next k most h i j = j
  joined_stands binary.And both either plain next k most h i j = j
  joined_stands binary.Xor both either plain next k most h i j = j
  joined_stands binary.Or both either plain next k most h i j = j

  module _ (scopes : List Scope) (usable : ScopesUsable whole func program scopes) where
    truth_term : (e : Expression) → NamesStand program.words scopes e → Shallow e
        → Term whole func 1 64 (is_true (value_of program scopes e))
    truth_term e names low =
        deeper whole func 1 (suc (deep e)) 64 _ (omega (arith, low))
        (is_true_term whole func (deep e) (value_of program scopes e) (omega arith)
        (value_term whole func program scopes usable e names))

    bit_term : (op : Binary) (token : ℕ) (left right : Expression)
        → NamesStand program.words scopes left × NamesStand program.words scopes right → Shallow (WithBinary op token left right)
        → Term whole func 1 64 (test_of op (kind_of program.words scopes left) (kind_of program.words scopes right)
        (value_of program scopes left) (value_of program scopes right))
    bit_term op token left right names low =
        let n = max (deep left) (deep right) in
        deeper whole func 1 (4 + n) 64 _ (omega (arith, low))
        (test_term whole func op (kind_of program.words scopes left) (kind_of program.words scopes right) n
        (value_of program scopes left) (value_of program scopes right) (omega arith)
        (deeper whole func 32 (deep left) n _ (omega arith) (value_term whole func program scopes usable left names.0))
        (deeper whole func 32 (deep right) n _ (omega arith) (value_term whole func program scopes usable right names.1)))

    pub condition_stands : (e : Expression) (next : ℕ) (held failed : List ℕ) (rest : List BodyItem)
        → NamesStand program.words scopes e → Shallow e → next + condition_labels e ≤ labels → IsOwn held → IsOwn failed → Items rest
        → Items (condition_items (within whole func program defined f labels results) scopes e next held failed rest)
    condition_stands (OfConstant token) next held failed rest names low most is_held is_failed are =
        branch_stands _ held failed rest (truth_term (OfConstant token) names low) is_held is_failed are
    condition_stands (OfName token) next held failed rest names low most is_held is_failed are =
        branch_stands _ held failed rest (truth_term (OfName token) names low) is_held is_failed are
    condition_stands (InParentheses token inner) next held failed rest names low most is_held is_failed are =
        condition_stands inner next held failed rest names low most is_held is_failed are
    condition_stands (WithUnary op token operand) next held failed rest names low most is_held is_failed are =
        negated_stands op (condition_items (within whole func program defined f labels results) scopes operand next failed held rest)
        _ next (condition_labels operand) most
        (λ few. condition_stands operand next failed held rest names (omega (arith, low)) few is_failed is_held are)
        (branch_stands _ held failed rest (truth_term (WithUnary op token operand) names low) is_held is_failed are)
    condition_stands (WithCast token to operand) next held failed rest names low most is_held is_failed are =
        branch_stands _ held failed rest (truth_term (WithCast token to operand) names low) is_held is_failed are
    condition_stands (AtIndex base token index) next held failed rest names low most is_held is_failed are =
        branch_stands _ held failed rest (truth_term (AtIndex base token index) names low) is_held is_failed are
    condition_stands (WithBinary op token left right) next held failed rest names low most is_held is_failed are =
        let w = within whole func program defined f labels results in
        let second = condition_items w scopes right (suc next + condition_labels left) held failed rest in
        joined_stands op
        (condition_items w scopes left (suc next) (label w next) failed (label_item w next ∷ second))
        (condition_items w scopes left (suc next) held (label w next) (label_item w next ∷ second))
        (branch _ held failed ∷ rest) next (suc (condition_labels left + condition_labels right)) most
        (λ few. condition_stands left (suc next) (label w next) failed (label_item w next ∷ second) names.0 (omega (arith, low))
        (omega (arith, few)) (own_label next (omega (arith, few))) is_failed (
          own_label next (omega (arith, few)),
          condition_stands right (suc next + condition_labels left) held failed rest names.1 (omega (arith, low)) (omega (arith, few)) is_held is_failed are,
        ))
        (λ few. condition_stands left (suc next) held (label w next) (label_item w next ∷ second) names.0 (omega (arith, low))
        (omega (arith, few)) is_held (own_label next (omega (arith, few))) (
          own_label next (omega (arith, few)),
          condition_stands right (suc next + condition_labels left) held failed rest names.1 (omega (arith, low)) (omega (arith, few)) is_held is_failed are,
        ))
        (branch_stands _ held failed rest (bit_term op token left right names low) is_held is_failed are)

  -- ---- labels of a switch

  abbrev pub IsNew : List ℕ → Num × List ℕ → Type 0
  IsNew earlier t = is_label earlier t.0.bits ≡ false

  pub record TargetsStand (earlier : List ℕ) (targets : List (Num × List ℕ)) : Type 0 where
    pub each : EachOf (TargetStands whole func program f labels 32) targets
    pub new : EachOf (IsNew earlier) targets
    pub differ : Apart (λ t u. t.0.bits ≢ u.0.bits) targets

  first_target : (i : Integer) (k word : ℕ) (earlier : List ℕ) (targets : List (Num × List ℕ)) → word < 2 ^ 32
      → k < labels
      → is_label earlier word ≡ false → TargetsStand (word ∷ earlier) targets
      → TargetsStand earlier (target (within whole func program defined f labels results) i word k ∷ targets)
  first_target i k word earlier targets small low new stand =
      let parts : EachOf (λ (t : Num × List ℕ). (word ≢ t.0.bits) × IsNew earlier t) targets =
      each_when (IsNew (word ∷ earlier)) (λ (t : Num × List ℕ). (word ≢ t.0.bits) × IsNew earlier t) targets
      (λ t is. let both = either_false (word == t.0.bits) (is_label earlier t.0.bits) is in
      (λ same. absurd (let bad : true ≡ false = sym (eq-eqb word t.0.bits same) ∙ both.0 in cc), both.1)) stand.new
      in
      record {
        each = (record { same = refl; low = small; leads = own_label k low }, stand.each);
        new = (new, each_when (λ (t : Num × List ℕ). (word ≢ t.0.bits) × IsNew earlier t) (IsNew earlier) targets (λ t is. is.1) parts);
        differ = (
          each_when (λ (t : Num × List ℕ). (word ≢ t.0.bits) × IsNew earlier t) (λ (t : Num × List ℕ). word ≢ t.0.bits) targets (λ t is. is.0) parts,
          stand.differ,
        );
      }

  pub targets_stand : (i : Integer) (k : ℕ) (a : Around) (scopes : List Scope) (ss : Statements)
      → StatementsStand program.words defined a scopes ss → k + cases_in ss ≤ labels
      → TargetsStand a.labels (targets_in (within whole func program defined f labels results) i k ss)
  targets_stand i k a scopes Nothing stand most = record { each = tt; new = tt; differ = tt }
  targets_stand i k a scopes (Then (Case token c) rest) stand most =
      first_target i k (label_of program.words c) a.labels _ (label_low program.words c) (omega (arith, most)) stand.0
      (targets_stand i (suc k) (around_after program.words a (Case token c)) scopes rest stand.1 (omega (arith, most)))
  targets_stand i k a scopes (Then (Default token) rest) stand most =
      targets_stand i (is_case (Default token) + k) (around_after program.words a (Default token)) scopes rest stand.1
      (omega (arith, most))
  targets_stand i k a scopes (Then (Empty token) rest) stand most =
      targets_stand i (0 + k) a (scopes_after scopes (Empty token)) rest stand.1 (omega (arith, most))
  targets_stand i k a scopes (Then (Declares first kind locals) rest) stand most =
      targets_stand i (0 + k) a (scopes_after scopes (Declares first kind locals)) rest stand.1 (omega (arith, most))
  targets_stand i k a scopes (Then (Block body) rest) stand most =
      targets_stand i (0 + k) a (scopes_after scopes (Block body)) rest stand.1 (omega (arith, most))
  targets_stand i k a scopes (Then (If condition body) rest) stand most =
      targets_stand i (0 + k) a (scopes_after scopes (If condition body)) rest stand.1 (omega (arith, most))
  targets_stand i k a scopes (Then (IfElse condition body otherwise) rest) stand most =
      targets_stand i (0 + k) a (scopes_after scopes (IfElse condition body otherwise)) rest stand.1 (omega (arith, most))
  targets_stand i k a scopes (Then (While condition body) rest) stand most =
      targets_stand i (0 + k) a (scopes_after scopes (While condition body)) rest stand.1 (omega (arith, most))
  targets_stand i k a scopes (Then (DoWhile body condition) rest) stand most =
      targets_stand i (0 + k) a (scopes_after scopes (DoWhile body condition)) rest stand.1 (omega (arith, most))
  targets_stand i k a scopes (Then (For condition last body) rest) stand most =
      targets_stand i (0 + k) a (scopes_after scopes (For condition last body)) rest stand.1 (omega (arith, most))
  targets_stand i k a scopes (Then (ForAfter first condition last body) rest) stand most =
      targets_stand i (0 + k) a (scopes_after scopes (ForAfter first condition last body)) rest stand.1 (omega (arith, most))
  targets_stand i k a scopes (Then (SwitchOn value body) rest) stand most =
      targets_stand i (0 + k) a (scopes_after scopes (SwitchOn value body)) rest stand.1 (omega (arith, most))
  targets_stand i k a scopes (Then (Break token) rest) stand most =
      targets_stand i (0 + k) a (scopes_after scopes (Break token)) rest stand.1 (omega (arith, most))
  targets_stand i k a scopes (Then (Continue token) rest) stand most =
      targets_stand i (0 + k) a (scopes_after scopes (Continue token)) rest stand.1 (omega (arith, most))
  targets_stand i k a scopes (Then (Returns token value) rest) stand most =
      targets_stand i (0 + k) a (scopes_after scopes (Returns token value)) rest stand.1 (omega (arith, most))
  targets_stand i k a scopes (Then (Does effect) rest) stand most =
      targets_stand i (0 + k) a (scopes_after scopes (Does effect)) rest stand.1 (omega (arith, most))

  pub default_stands : (k otherwise : ℕ) (ss : Statements) → k + cases_in ss ≤ labels → otherwise < labels
      → IsOwn (default_in (within whole func program defined f labels results) k otherwise ss)
  default_stands k otherwise Nothing most low = own_label otherwise low
  default_stands k otherwise (Then (Default token) rest) most low = own_label k (omega (arith, most))
  default_stands k otherwise (Then (Case token c) rest) most low = default_stands (is_case (Case token c) + k) otherwise rest (omega (arith, most)) low
  default_stands k otherwise (Then (Empty token) rest) most low = default_stands (0 + k) otherwise rest (omega (arith, most)) low
  default_stands k otherwise (Then (Declares first kind locals) rest) most low = default_stands (0 + k) otherwise rest (omega (arith, most)) low
  default_stands k otherwise (Then (Block body) rest) most low = default_stands (0 + k) otherwise rest (omega (arith, most)) low
  default_stands k otherwise (Then (If condition body) rest) most low = default_stands (0 + k) otherwise rest (omega (arith, most)) low
  default_stands k otherwise (Then (IfElse condition body alternative) rest) most low = default_stands (0 + k) otherwise rest (omega (arith, most)) low
  default_stands k otherwise (Then (While condition body) rest) most low = default_stands (0 + k) otherwise rest (omega (arith, most)) low
  default_stands k otherwise (Then (DoWhile body condition) rest) most low = default_stands (0 + k) otherwise rest (omega (arith, most)) low
  default_stands k otherwise (Then (For condition last body) rest) most low = default_stands (0 + k) otherwise rest (omega (arith, most)) low
  default_stands k otherwise (Then (ForAfter first condition last body) rest) most low = default_stands (0 + k) otherwise rest (omega (arith, most)) low
  default_stands k otherwise (Then (SwitchOn value body) rest) most low = default_stands (0 + k) otherwise rest (omega (arith, most)) low
  default_stands k otherwise (Then (Break token) rest) most low = default_stands (0 + k) otherwise rest (omega (arith, most)) low
  default_stands k otherwise (Then (Continue token) rest) most low = default_stands (0 + k) otherwise rest (omega (arith, most)) low
  default_stands k otherwise (Then (Returns token value) rest) most low = default_stands (0 + k) otherwise rest (omega (arith, most)) low
  default_stands k otherwise (Then (Does effect) rest) most low = default_stands (0 + k) otherwise rest (omega (arith, most)) low

  pub case_stands : (s : Statement) (k : ℕ) (items : List BodyItem) → k + is_case s ≤ labels → Items items
      → Items (if_case (within whole func program defined f labels results) s k items)
  case_stands (Case token c) k items most are = (own_label k (omega (arith, most)), are)
  case_stands (Default token) k items most are = (own_label k (omega (arith, most)), are)
  case_stands (Empty token) k items most are = are
  case_stands (Declares first kind locals) k items most are = are
  case_stands (Block body) k items most are = are
  case_stands (If condition body) k items most are = are
  case_stands (IfElse condition body otherwise) k items most are = are
  case_stands (While condition body) k items most are = are
  case_stands (DoWhile body condition) k items most are = are
  case_stands (For condition last body) k items most are = are
  case_stands (ForAfter first condition last body) k items most are = are
  case_stands (SwitchOn value body) k items most are = are
  case_stands (Break token) k items most are = are
  case_stands (Continue token) k items most are = are
  case_stands (Returns token value) k items most are = are
  case_stands (Does effect) k items most are = are
