-- What is left to show of `path_goes`.
use Rattle.std.proofs.Common.{◌≡◌, ◌<◌, ◌*◌, ◌==◌, ◌||◌, not, ◌++◌, ◌∷◌, [], ℕ, List, length, refl, subst, ap, ◌∙◌, arith}
use Rattle.std.specs.List.{list_any, filter}
use Rattle.domain_core.specs.Outlines.{shape_of}
use Rattle.recorder_rules.specs.PairRules.{ends}
use Rattle.recorder_rules.specs.BitWords.{words_for, is_marked}
use Rattle.pair_recorder.specs.declared.seen.Seen.{Seen}
use Rattle.pair_recorder.specs.Paths.{AreBelow, paired_in, path_sightings}
use Rattle.pair_recorder.proofs.PathSteps.{gone_path, gone_rows}
use Rattle.pair_recorder.proofs.path.path_goes.Goals as goal

pub returns-in_err-enter_node-clause-below : goal.returns-in_err-enter_node-clause-below
returns-in_err-enter_node-clause-below c =
    let n = length c.args.outline.now.nodes in
    c.enter_node.ensures.below n (subst (λ (m : ℕ). AreBelow m c.leave.new.path.items) c.node_count-count.ensures c.leave.ensures.below)
    (let node : c.seen_at.result.node ≡ c.args.to = ap (λ (e : Seen). e.node) c.seen_at.ensures in let low = c.requires.to in omega arith)

pub returns-clause-below : goal.returns-clause-below
returns-clause-below c =
    let n = length c.args.outline.now.nodes in
    c.enter_node.ensures.below n (subst (λ (m : ℕ). AreBelow m c.leave.new.path.items) c.node_count-count.ensures c.leave.ensures.below)
    (let node : c.seen_at.result.node ≡ c.args.to = ap (λ (e : Seen). e.node) c.seen_at.ensures in let low = c.requires.to in omega arith)

pub returns-clause-gone : goal.returns-clause-gone
returns-clause-gone c b =
    let o = c.args.outline.now in
    let n = length c.args.outline.now.nodes in
    let path = c.args.path.now.items in
    let ended = c.deref.result.now in
    let is : (t : ℕ) → list_any (λ s. t == s) ended ≡ ends (shape_of o) t c.args.from c.args.to = λ t. ap (λ (xs : List ℕ). list_any (λ s. t == s) xs) c.deref.ensures.value ∙ c.in_ok-ended.ensures t in
    ap (λ (xs : List Seen). path_sightings n xs)
    (c.in_ok-enter_node.ensures.entered
    ∙ ap (λ (xs : List Seen). xs ++ c.seen_at.result ∷ []) c.in_ok-leave.ensures.kept
    ∙ ap (λ (e : Seen). filter (λ e. not (list_any (λ s. e.scope == s) ended)) path ++ e ∷ []) c.seen_at.ensures)
    ∙ gone_path o c.args.from c.args.to n path c.requires.own ended is b refl

pub returns-clause-collected : goal.returns-clause-collected
returns-clause-collected c scopes owned =
    let o = c.args.outline.now in
    let n = length c.args.outline.now.nodes in
    let path = c.args.path.now.items in
    let ended = c.deref.result.now in
    let old = c.args.collected.now in
    let new = c.leave.new.rows in
    let is : (t : ℕ) → list_any (λ s. t == s) ended ≡ ends (shape_of o) t c.args.from c.args.to = λ t. ap (λ (xs : List ℕ). list_any (λ s. t == s) xs) c.deref.ensures.value ∙ c.in_ok-ended.ensures t in
    gone_rows o c.args.from c.args.to n path c.requires.own ended is scopes owned old new refl
    (subst (λ (m : ℕ). (a b : ℕ) → a < m → b < m → is_marked new (a * words_for m) b ≡ (is_marked old (a * words_for m) b || list_any (λ s. paired_in (λ t. t == s) a b path) ended)) c.node_count-count.ensures c.in_ok-leave.ensures.rows)
