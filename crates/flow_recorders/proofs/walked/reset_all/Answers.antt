-- What is left to show of `reset_all`.
use Rattle.std.specs.Prelude.{◌↔◌, ◌⊎◌, IsTrue}
use Rattle.std.specs.List.{list_any}
use Rattle.std.proofs.Common.{◌≡◌, ◌+◌, ℕ, List, [], drop, arith, ap, sym, subst, ◌∙◌}
use Rattle.std.proofs.lemmas.List.{drop_all, drop_more}
use Rattle.recorder_rules.specs.TotalRules.{span_at}
use Rattle.recorder_rules.specs.TallyRules.{key_at, is_at}
use Rattle.flow_recorders.specs.Walked.{HasWide}
use Rattle.flow_recorders.proofs.Walking.{reset_each, each_reset}
use Rattle.flow_recorders.proofs.Widths.{wide_scope, wide_none}
use Rattle.flow_recorders.proofs.walked.reset_all.Goals as goal

pub loop-scope-preserved : goal.loop-scope-preserved
loop-scope-preserved c =
    let l = c.loop-scope in
    let rest = drop (l.scope-index + 1) c.args.scopes.now in
    let here = drop_more c.args.scopes.now l.scope-index _ (let low = c.loop-scope-test.true in omega arith) in
    record {
      same_length = c.reset_scope-was_wide.ensures.same_length ∙ l.invariant.same_length;
      reset = λ j low.
          ap (λ (s : ℕ × ℕ). reset_each (key_at c.args.chains.now j) s rest) (c.reset_scope-was_wide.ensures.reset j (let e = l.invariant.same_length in omega arith))
          ∙ sym (ap (λ (ks : List ℕ). reset_each (key_at c.args.chains.now j) (span_at l.spans j) ks) here)
          ∙ l.invariant.reset j low;
      wide =
          wide_scope c.args.chains.now _ rest l.was_wide c.reset_scope-was_wide.result l.spans c.reset_scope-was_wide.new.spans
          (HasWide c.args.chains.now (λ key. list_any (λ k. is_at key k) c.args.scopes.now) c.args.spans.now)
          c.reset_scope-was_wide.ensures.same_length c.reset_scope-was_wide.ensures.reset c.reset_scope-was_wide.ensures.wide
          (subst (λ (ks : List ℕ). (IsTrue l.was_wide ⊎ HasWide c.args.chains.now (λ key. list_any (λ n. is_at key n) ks) l.spans) ↔ HasWide c.args.chains.now (λ key. list_any (λ k. is_at key k) c.args.scopes.now) c.args.spans.now)
          here l.invariant.wide);
    }

pub returns-clause-reset : goal.returns-clause-reset
returns-clause-reset c j low =
    let l = c.loop-scope in
    let none : drop l.scope-index c.args.scopes.now ≡ [] = (let over = c.loop-scope-test.false in drop_all l.scope-index c.args.scopes.now (omega arith)) in
    ap (λ (ks : List ℕ). reset_each (key_at c.args.chains.now j) (span_at l.spans j) ks) (sym none)
    ∙ l.invariant.reset j low
    ∙ each_reset (key_at c.args.chains.now j) (span_at c.args.spans.now j) c.args.scopes.now

pub returns-clause-wide : goal.returns-clause-wide
returns-clause-wide c =
    let l = c.loop-scope in
    wide_none c.args.chains.now l.was_wide (drop l.scope-index c.args.scopes.now) l.spans _ (let over = c.loop-scope-test.false in drop_all l.scope-index c.args.scopes.now (omega arith)) l.invariant.wide
