-- The arms of a switch.
--   without_law                 the words without one
--   arm_kept, arms_kept         each arm leads to a block of the switch, with a memory that keeps sizes and
--       what runs
--   GoesTold                    the goals have this node, with a memory that stands for the history
--   arms_told                   the arm that a run takes is there, and where Sharp holds it is the only one
use Rattle.std.specs.Prelude.{IfSome, ◌==◌, ◌++◌, AllPairs, Contains, if◌then◌else◌}
use Rattle.std.proofs.Common.{◌≡◌, ◌≢◌, inl, ℕ, suc, length, Bool, true, false, List, [], ◌∷◌, Option, Some, None, Ok, ◌<◌, ◌^◌, refl, sym, ap, subst, ◌∙◌, arith}
use Rattle.std.proofs.lemmas.Option.{same_Some}
use Rattle.std.proofs.lemmas.Bool.{eqb-true, eqb-false, eq-eqb, ne_eqb, false≢true}
use Rattle.std.proofs.lemmas.List.Elements.{Contains-append_left, Contains-append_right}
use Rattle.lists.specs.TestLaws.{by_test}
use Rattle.lists.specs.MemberLaws.{first_member, further_member, first_or_further, no_member}
use Rattle.alf_ops.specs.declared.history.Value.TheVariants.{Int}
use Rattle.alf_ops.specs.declared.history.FrameShape.{FrameShape}
use Rattle.alf_ops.specs.declared.history.RunEvent.{RunEvent}
use Rattle.alf_program.specs.Tree.{NumberedExpression}
use Rattle.alf_check.specs.declared.rows.FrameRow.{FrameRow}
use Rattle.alf_check.specs.Kept.{HasSize}
use Rattle.flow_graph.specs.Nodes.{Node, Goal, block_node, IsTarget}
use Rattle.alf_runs.specs.Expressions.{value_of}
use Rattle.alf_runs.specs.Steps.{target_of}
use Rattle.alf_runs.specs.SizeLaws.{ValueHasSize}
use Rattle.domain_core.specs.declared.relation.Rel.TheVariants.{Neq}
use Rattle.domain_core.specs.Relations.{Related}
use Rattle.domain_core.specs.WordSets.{IsWordSize, IsOnly, IsOfSize, IsAssumed, GivesSize}
use Rattle.strided_rules.specs.Strides.{Stride, one_word, Covers as CoversWord}
use Rattle.strided_rules.specs.Members.{is_one, word_of, only, without, assumed}
use Rattle.strided_rules.specs.MemberLaws.{one_word_alone, sharp_one}
use Rattle.strided_rules.specs.Domains.{stride_sets}
use Rattle.strided_rules.specs.StrideLaws.{stride_is_sets}
use Rattle.memory_rules.specs.Memories.{Mem, MemSized}
use Rattle.memory_rules.specs.AbstractSets.{abstract_sets}
use Rattle.transfer_rules.specs.Refining.{refined}
use Rattle.transfer_rules.specs.Stepping.{Goals, without_all, arm_to, arm, target_arms, arms}
use Rattle.transfer_rules.specs.Standing.{Stands}
use Rattle.transfer_rules.specs.DoingLaws.{Kept}
use Rattle.transfer_rules.specs.RefiningLaws.{refined_kept, refined_told}

-- ---- the words without one

neq_related : (s x y : ℕ) → x ≢ y → Related Neq s x y
neq_related s x y apart = rw (ne_eqb x y apart) refl

neq_same : (s x y : ℕ) → x ≡ y → Related Neq s x y → ⊥
neq_same s x y same related = let bad : (let n : ℕ = 0 in n) ≡ 1 = rw (eq-eqb x y same) at related in omega (arith, bad)

-- one word is one member, and it is that word
one_is : (size t : ℕ) → IsWordSize size → t < 2 ^ size
    → (is_one (one_word size t) ≡ true) × (word_of (one_word size t) ≡ t)
one_is size t is small =
    let sized = stride_is_sets.single_size size t is small in
    let alone = stride_is_sets.single_only size t is small in
    let one = sharp_one (one_word size t) t sized.kept alone in
    (one, sym (one_word_alone (one_word size t) t one alone.is))

-- what is left without a word
pub without_law : (size : ℕ) (x : Stride) (t : ℕ) → IsOfSize stride_sets size x → t < 2 ^ size
    → IsAssumed stride_sets Neq x (one_word size t) (without x t)
without_law size x t of_x small =
    let is : IsWordSize size = subst IsWordSize of_x.size of_x.kept.size in
    let one = one_is size t is small in
    let law = stride_is_sets.assumed Neq x (one_word size t) of_x.kept (stride_is_sets.single_size size t is small).kept of_x.size in
    let same : assumed Neq x (one_word size t) ≡ without x t =
    by_one (is_one (one_word size t)) one.0 ∙ ap (without x) one.1 in
    subst (IsAssumed stride_sets Neq x (one_word size t)) same law
  where
    by_one : (test : Bool) → test ≡ true
        → (if test then without x (word_of (one_word size t)) else Some x) ≡ without x (word_of (one_word size t))
    by_one true e = refl
    by_one false e = absurd (false≢true e)

-- what is left has the other words
record OthersLeft (Sharp : Type 0) (size w : ℕ) (o : Option Stride) : Type 0 where
  left : Stride
  is : o ≡ Some left
  sized : IsOfSize stride_sets size left
  covers : CoversWord left w
  only : Sharp → IsOnly stride_sets left w

of_size_left : (size : ℕ) (x : Stride) (t : ℕ) → IsOfSize stride_sets size x → t < 2 ^ size
    → GivesSize stride_sets (without x t) size
of_size_left size x t of_x small = subst (GivesSize stride_sets (without x t)) of_x.size (without_law size x t of_x small).size

others_left : (Sharp : Type 0) (size w : ℕ) (x : Stride) (t : ℕ) → IsOfSize stride_sets size x → t < 2 ^ size
    → CoversWord x w → (Sharp → IsOnly stride_sets x w) → w ≢ t → OthersLeft Sharp size w (without x t)
others_left Sharp size w x t of_x small covers only_w apart =
    let is : IsWordSize size = subst IsWordSize of_x.size of_x.kept.size in
    let law = without_law size x t of_x small in
    let alone = stride_is_sets.single_only size t is small in
    let related = neq_related x.size w t apart in
    let g = law.covering w t covers alone.is related in
    record {
      left = g.0;
      is = g.1;
      sized = of_size_left size x t of_x small g.0 g.1;
      covers = g.2;
      only = λ sharp. let h = law.sharp w t (only_w sharp) alone related in subst (λ (d : Stride). IsOnly stride_sets d w) (same_Some h.0 g.0 (sym h.1 ∙ g.1)) h.2;
    }

none_left : (size w : ℕ) (x : Stride) (t : ℕ) → IsOfSize stride_sets size x → t < 2 ^ size → IsOnly stride_sets x w
    → w ≡ t → without x t ≡ None
none_left size w x t of_x small only_w same =
    let is : IsWordSize size = subst IsWordSize of_x.size of_x.kept.size in
    (without_law size x t of_x small).sharp_none w t only_w (stride_is_sets.single_only size t is small) (neq_same x.size w t same)

-- targets are words of the size
abbrev pub AreSmall : ℕ → List (ℕ × ℕ) → Type 0
AreSmall size targets = (target : ℕ × ℕ) → Contains targets target → target.0 < 2 ^ size

small_rest : (size : ℕ) (target : ℕ × ℕ) (targets : List (ℕ × ℕ)) → AreSmall size (target ∷ targets)
    → AreSmall size targets
small_rest size target targets small other among = small other (further_member target targets other among)

-- without all targets
all_left : (Sharp : Type 0) (size w : ℕ) (x : Stride) (targets : List (ℕ × ℕ)) → IsOfSize stride_sets size x
    → AreSmall size targets → CoversWord x w → (Sharp → IsOnly stride_sets x w)
    → ((target : ℕ × ℕ) → Contains targets target → w ≢ target.0) → OthersLeft Sharp size w (without_all (Some x) targets)
all_left Sharp size w x [] of_x small covers only_w apart = record { left = x; is = refl; sized = of_x; covers = covers; only = only_w }
all_left Sharp size w x (target ∷ targets) of_x small covers only_w apart =
    let one = others_left Sharp size w x target.0 of_x (small target (first_member target targets)) covers only_w (apart target (first_member target targets)) in
    let rest = all_left Sharp size w one.left targets one.sized (small_rest size target targets small) one.covers one.only (λ other among. apart other (further_member target targets other among)) in
    record { left = rest.left; is = ap (λ (o : Option Stride). without_all o targets) one.is ∙ rest.is; sized = rest.sized; covers = rest.covers; only = rest.only }

without_none : (targets : List (ℕ × ℕ)) → without_all None targets ≡ None
without_none [] = refl
without_none (target ∷ targets) = refl

-- and nothing is left where one of them is the only word
no_default : (size w : ℕ) (x : Stride) (targets : List (ℕ × ℕ)) → IsOfSize stride_sets size x → AreSmall size targets
    → IsOnly stride_sets x w
    → (target : ℕ × ℕ) → Contains targets target → w ≡ target.0 → without_all (Some x) targets ≡ None
no_default size w x [] of_x small only_w target among same = no_member target among
no_default size w x (first ∷ targets) of_x small only_w target among same = by_test (w == first.0)
    (λ e. ap (λ (o : Option Stride). without_all o targets) (none_left size w x first.0 of_x (small first (first_member first targets)) only_w (eqb-true w first.0 e)) ∙ without_none targets)
    (λ e.
    let one = others_left (Unit {0}) size w x first.0 of_x (small first (first_member first targets)) only_w.is (λ t. only_w) (eqb-false w first.0 e) in
    first_or_further first targets target among
    (λ is_first. absurd (eqb-false w first.0 e (same ∙ ap (λ (t : ℕ × ℕ). t.0) (sym is_first))))
    (λ rest. ap (λ (o : Option Stride). without_all o targets) one.is ∙ no_default size w one.left targets one.sized (small_rest size first targets small) (one.only tt) target rest same))

then_sized : (size : ℕ) (targets : List (ℕ × ℕ)) (o : Option Stride) → IfSome o (IsOfSize stride_sets size)
    → ((y : Stride) → IsOfSize stride_sets size y → IfSome (without_all (Some y) targets) (IsOfSize stride_sets size))
    → IfSome (without_all o targets) (IsOfSize stride_sets size)
then_sized size targets None is rest = subst (λ (o : Option Stride). IfSome o (IsOfSize stride_sets size)) (sym (without_none targets)) tt
then_sized size targets (Some y) is rest = rest y is

if_size : (size : ℕ) (o : Option Stride) → GivesSize stride_sets o size → IfSome o (IsOfSize stride_sets size)
if_size size None gives = tt
if_size size (Some y) gives = gives y refl

-- what is left without targets has the size
without_sized : (size : ℕ) (targets : List (ℕ × ℕ)) (x : Stride) → IsOfSize stride_sets size x → AreSmall size targets
    → IfSome (without_all (Some x) targets) (IsOfSize stride_sets size)
without_sized size [] x of_x small = of_x
without_sized size (target ∷ targets) x of_x small =
    then_sized size targets (without x target.0) (if_size size (without x target.0) (of_size_left size x target.0 of_x (small target (first_member target targets))))
    (λ y of_y. without_sized size targets y of_y (small_rest size target targets small))

-- ---- each arm

-- it holds of each goal
abbrev pub EachGoal : (Goal × Mem abstract_sets → Type 0) → Goals → Type 0
EachGoal P [] = Unit {0}
EachGoal P (goal ∷ goals) = P goal × EachGoal P goals

pub each_append : (P : Goal × Mem abstract_sets → Type 0) (first second : Goals) → EachGoal P first → EachGoal P second
    → EachGoal P (first ++ second)
each_append P [] second one two = two
each_append P (goal ∷ first) second one two = (one.0, each_append P first second one.1 two)

pub each_member : (P : Goal × Mem abstract_sets → Type 0) (goals : Goals) (goal : Goal × Mem abstract_sets)
    → EachGoal P goals → Contains goals goal → P goal
each_member P [] goal each among = no_member goal among
each_member P (first ∷ goals) goal each among = first_or_further first goals goal among (λ same. subst P same each.0) (λ rest. each_member P goals goal each.1 rest)

-- an arm leads to a block of the switch, with a memory that keeps sizes and what runs
abbrev pub IsArm : List ℕ → List (ℕ × ℕ) → ℕ → Mem abstract_sets → Goal × Mem abstract_sets → Type 0
IsArm path targets others m goal = ((to : ℕ) × IsTarget targets others to × (goal.0 ≡ Some (block_node path to))) × Kept m goal.1

module _ (table : List FrameRow) (k : ℕ) (rows : List FrameShape) (m : Mem abstract_sets) (sized : MemSized abstract_sets m) (e : NumberedExpression) (size : ℕ) (has : HasSize table k size e) (path : List ℕ)
    (all : List (ℕ × ℕ)) (others : ℕ) where
  arm_kept : (to : ℕ) (words : Option Stride) → IsTarget all others to → IfSome words (IsOfSize stride_sets size)
      → EachGoal (IsArm path all others m) (arm rows m e path to words)
  arm_kept to None target of_words = tt
  arm_kept to (Some words) target of_words = go (refined rows m e words) (refined_kept table k rows m sized e size words has of_words)
    where
      go : (o : Option (Mem abstract_sets)) → IfSome o (Kept m) → EachGoal (IsArm path all others m) (arm_to path to o)
      go None kept = tt
      go (Some n) kept = (((to, target, refl), kept), tt)

  targets_kept : (words : Stride) (targets : List (ℕ × ℕ)) → IsOfSize stride_sets size words
      → ((target : ℕ × ℕ) → Contains targets target → IsTarget all others target.1)
      → EachGoal (IsArm path all others m) (target_arms rows m e path words targets)
  targets_kept words [] of_words among = tt
  targets_kept words (target ∷ targets) of_words among =
      each_append (IsArm path all others m) (arm rows m e path target.1 (only words target.0)) (target_arms rows m e path words targets)
      (arm_kept target.1 (only words target.0) (among target (first_member target targets))
      (if_size size (only words target.0) (subst (GivesSize stride_sets (only words target.0)) of_words.size (stride_is_sets.only words target.0 of_words.kept).size)))
      (targets_kept words targets of_words (λ other there. among other (further_member target targets other there)))

  pub arms_kept : (words : Stride) → IsOfSize stride_sets size words → AreSmall size all
      → ((target : ℕ × ℕ) → Contains all target → IsTarget all others target.1)
      → EachGoal (IsArm path all others m) (arms rows m e path all others words)
  arms_kept words of_words small among =
      each_append (IsArm path all others m) (target_arms rows m e path words all) (arm rows m e path others (without_all (Some words) all)) (targets_kept words all of_words among)
      (arm_kept others (without_all (Some words) all) (inl refl) (without_sized size all words of_words small))

-- ---- the arm that a run takes

-- targets differ from those after them
pair_apart : (target : ℕ × ℕ) (targets : List (ℕ × ℕ)) (other : ℕ × ℕ)
    → AllPairs (λ (s t : ℕ × ℕ). s.0 ≢ t.0) (target ∷ targets) → Contains targets other → target.0 ≢ other.0
pair_apart target targets other apart among e =
    let low : among.0 < length targets = among.1 in
    apart 0 (suc among.0) other (omega arith) (omega (arith, low)) (e ∙ ap (λ (t : ℕ × ℕ). t.0) (sym among.2))

rest_apart : (target : ℕ × ℕ) (targets : List (ℕ × ℕ)) → AllPairs (λ (s t : ℕ × ℕ). s.0 ≢ t.0) (target ∷ targets)
    → AllPairs (λ (s t : ℕ × ℕ). s.0 ≢ t.0) targets
rest_apart target targets apart i j d less low = apart (suc i) (suc j) d (omega (arith, less)) (omega (arith, low))

-- the goals have this node, with a memory that stands for the history
pub record GoesTold (Sharp : Type 0) (rows : List FrameShape) (goals : Goals) (next : Node)
    (history : List RunEvent) : Type 0 where
  pub m : Mem abstract_sets
  pub among : Contains goals (Some next, m)
  pub stands : Stands Sharp rows m history
  pub only : Sharp → goals ≡ (Some next, m) ∷ []

module _ (Sharp : Type 0) (rows : List FrameShape) (m : Mem abstract_sets) (history : List RunEvent) (stands : Stands Sharp rows m history) (table : List FrameRow) (k : ℕ) (sizes_are : ValueHasSize)
    (e : NumberedExpression) (size own w : ℕ) (has : HasSize table k size e) (gives : value_of rows history e ≡ Ok (Int own w)) (path : List ℕ) where
  arm_told : (to : ℕ) (o : Option Stride) (words : Stride) → o ≡ Some words → IsOfSize stride_sets size words
      → CoversWord words w → (Sharp → IsOnly stride_sets words w)
      → GoesTold Sharp rows (arm rows m e path to o) (block_node path to) history
  arm_told to o words is of_words covers only_w =
      let told = refined_told Sharp rows m history stands table k sizes_are e size own w words has gives of_words covers only_w in
      let same : arm rows m e path to o ≡ (Some (block_node path to), told.m) ∷ [] = ap (arm rows m e path to) is ∙ ap (arm_to path to) told.is in
      record {
        m = told.m;
        among = subst (λ (goals : Goals). Contains goals (Some (block_node path to), told.m)) (sym same) (first_member (Some (block_node path to), told.m) []);
        stands = told.stands;
        only = λ sharp. same;
      }

  -- the goals before and after
  in_front : (first second : Goals) (next : Node) → GoesTold Sharp rows first next history → (Sharp → second ≡ [])
      → GoesTold Sharp rows (first ++ second) next history
  in_front first second next told none = record {
    m = told.m;
    among = Contains-append_left first second (Some next, told.m) told.among;
    stands = told.stands;
    only = λ sharp. ap (λ (goals : Goals). goals ++ second) (told.only sharp) ∙ ap (λ (goals : Goals). (Some next, told.m) ∷ goals) (none sharp);
  }

  behind : (first second : Goals) (next : Node) → GoesTold Sharp rows second next history → (Sharp → first ≡ [])
      → GoesTold Sharp rows (first ++ second) next history
  behind first second next told none = record {
    m = told.m;
    among = Contains-append_right first second (Some next, told.m) told.among;
    stands = told.stands;
    only = λ sharp. ap (λ (goals : Goals). goals ++ second) (none sharp) ∙ told.only sharp;
  }

  -- no other target has the only word
  no_arms : (words : Stride) (targets : List (ℕ × ℕ)) (rest : Goals) → IsOfSize stride_sets size words
      → IsOnly stride_sets words w → ((target : ℕ × ℕ) → Contains targets target → w ≢ target.0) → rest ≡ []
      → target_arms rows m e path words targets ++ rest ≡ []
  no_arms words [] rest of_words only_w apart none = none
  no_arms words (target ∷ targets) rest of_words only_w apart none =
      let gone : only words target.0 ≡ None =
      (stride_is_sets.only words target.0 of_words.kept).sharp_none w only_w (λ same. apart target (first_member target targets) (sym same)) in
      ap (λ (o : Option Stride). (arm rows m e path target.1 o ++ target_arms rows m e path words targets) ++ rest) gone
      ∙ no_arms words targets rest of_words only_w (λ other among. apart other (further_member target targets other among)) none

  targets_told : (words : Stride) (others : ℕ) (targets : List (ℕ × ℕ)) (rest : Goals) → IsOfSize stride_sets size words
      → CoversWord words w → (Sharp → IsOnly stride_sets words w)
      → AllPairs (λ (s t : ℕ × ℕ). s.0 ≢ t.0) targets
      → (((target : ℕ × ℕ) → Contains targets target → w ≢ target.0) → GoesTold Sharp rows rest (block_node path others) history)
      → (Sharp → (target : ℕ × ℕ) → Contains targets target → w ≡ target.0 → rest ≡ [])
      → GoesTold Sharp rows (target_arms rows m e path words targets ++ rest) (block_node path (target_of targets others w)) history
  targets_told words others [] rest of_words covers only_w apart missed none = missed (λ target among. no_member target among)
  targets_told words others (target ∷ targets) rest of_words covers only_w apart missed none = by_test (target.0 == w)
      (λ hit.
      let same : target.0 ≡ w = eqb-true target.0 w hit in
      let kept = stride_is_sets.only words target.0 of_words.kept in
      let g = kept.covering (subst (CoversWord words) (sym same) covers) in
      let of_g : IsOfSize stride_sets size g.0 = subst (λ (s : ℕ). IsOfSize stride_sets s g.0) of_words.size (kept.size g.0 g.1) in
      let one = arm_told target.1 (only words target.0) g.0 g.1 of_g (subst (CoversWord g.0) same g.2)
      (λ sharp.
      let h = kept.sharp (subst (IsOnly stride_sets words) (sym same) (only_w sharp)) in
      subst (IsOnly stride_sets g.0) same (subst (λ (d : Stride). IsOnly stride_sets d target.0) (same_Some h.0 g.0 (sym h.1 ∙ g.1)) h.2)) in
      rw hit (subst (λ (goals : Goals). GoesTold Sharp rows goals (block_node path target.1) history)
      (sym (append_three (arm rows m e path target.1 (only words target.0)) (target_arms rows m e path words targets) rest))
      (in_front (arm rows m e path target.1 (only words target.0)) (target_arms rows m e path words targets ++ rest) (block_node path target.1) one
      (λ sharp. no_arms words targets rest of_words (only_w sharp)
      (λ other among is. pair_apart target targets other apart among (same ∙ is))
      (none sharp target (first_member target targets) (sym same))))))
      (λ passed.
      let differ : target.0 ≢ w = eqb-false target.0 w passed in
      rw passed (subst (λ (goals : Goals). GoesTold Sharp rows goals (block_node path (target_of targets others w)) history)
      (sym (append_three (arm rows m e path target.1 (only words target.0)) (target_arms rows m e path words targets) rest))
      (behind (arm rows m e path target.1 (only words target.0)) (target_arms rows m e path words targets ++ rest) (block_node path (target_of targets others w))
      (targets_told words others targets rest of_words covers only_w (rest_apart target targets apart)
      (λ others_apart. missed (λ other among. first_or_further target targets other among (λ is_first is. differ (sym (is ∙ ap (λ (t : ℕ × ℕ). t.0) (sym is_first)))) (λ further. others_apart other further)))
      (λ sharp other among is. none sharp other (further_member target targets other among) is))
      (λ sharp. ap (arm rows m e path target.1) ((stride_is_sets.only words target.0 of_words.kept).sharp_none w (only_w sharp) differ)))))
    where
      append_three : (a b c : Goals) → (a ++ b) ++ c ≡ a ++ (b ++ c)
      append_three [] b c = refl
      append_three (goal ∷ a) b c = ap (λ (goals : Goals). goal ∷ goals) (append_three a b c)

  -- the arm that a run takes is there
  pub arms_told : (words : Stride) (targets : List (ℕ × ℕ)) (others : ℕ) → IsOfSize stride_sets size words
      → AreSmall size targets → AllPairs (λ (s t : ℕ × ℕ). s.0 ≢ t.0) targets → CoversWord words w
      → (Sharp → IsOnly stride_sets words w) → GoesTold Sharp rows (arms rows m e path targets others words) (block_node path (target_of targets others w)) history
  arms_told words targets others of_words small apart covers only_w =
      targets_told words others targets (arm rows m e path others (without_all (Some words) targets)) of_words covers only_w apart
      (λ missed.
      let rest = all_left Sharp size w words targets of_words small covers only_w missed in
      arm_told others (without_all (Some words) targets) rest.left rest.is rest.sized rest.covers rest.only)
      (λ sharp target among is. ap (arm rows m e path others) (no_default size w words targets of_words small (only_w sharp) target among is))
