-- What is left to show of `is_same`.
use Rattle.std.proofs.Common.{◌≡◌, ◌∙◌, ap, sym, subst, replicate, rules}
use Rattle.std.specs.Prelude.{◌↔◌, IsTrue}
use Rattle.flow_recorders.specs.SpanLists.{spans_in, IsSingle}
use Rattle.flow_recorders.proofs.SpanLemmas.{only_replicate, zeros_count, zeros_iff, single_same}
use Rattle.flow_recorders.proofs.ends.Ends.is_same.Goals as goal

pub returns-in-Zeros-Narrow : goal.returns-in-Zeros-Narrow
returns-in-Zeros-Narrow c =
    let w = c.in-Zeros-Narrow in
    let n = w.field-0-0 in
    single_same c.args.self.now c.args.other.now (replicate n 0) w.counts.items _ (subst IsSingle (sym w.is-0) tt) (subst IsSingle (sym w.is-1) tt)
    (ap spans_in w.is-0 ∙ sym (only_replicate n 0)) (ap spans_in w.is-1)
    (zeros_iff n w.counts.items c.deref.result.now _ (zeros_count n w.counts.items _ _ (ap spans_in w.is-0) (ap spans_in w.is-1) c.requires) c.deref.ensures.value c.are_zeros.ensures)

pub returns-in-Narrow-Zeros : goal.returns-in-Narrow-Zeros
returns-in-Narrow-Zeros c =
    let w = c.in-Narrow-Zeros in
    let n = w.field-0-1 in
    let all : IsTrue c.are_zeros-in-Narrow-Zeros.result ↔ (replicate n 0 ≡ w.counts.items) =
    zeros_iff n w.counts.items c.deref-in-Narrow-Zeros.result.now _ (zeros_count n w.counts.items _ _ (ap spans_in w.is-1) (ap spans_in w.is-0) (sym c.requires)) c.deref-in-Narrow-Zeros.ensures.value c.are_zeros-in-Narrow-Zeros.ensures in
    single_same c.args.self.now c.args.other.now w.counts.items (replicate n 0) _ (subst IsSingle (sym w.is-0) tt) (subst IsSingle (sym w.is-1) tt)
    (ap spans_in w.is-0) (ap spans_in w.is-1 ∙ sym (only_replicate n 0)) (λ y. sym (all.0 y), λ e. all.1 (sym e))

pub returns-in-Narrow-Narrow : goal.returns-in-Narrow-Narrow
returns-in-Narrow-Narrow c =
    let w = c.in-Narrow-Narrow in
    single_same c.args.self.now c.args.other.now w.counts.items w.others.items _ (subst IsSingle (sym w.is-0) tt) (subst IsSingle (sym w.is-1) tt)
    (ap spans_in w.is-0) (ap spans_in w.is-1) (search (rules, c.eq.ensures))

pub returns-in-Few-Few : goal.returns-in-Few-Few
returns-in-Few-Few c =
    let w = c.in-Few-Few in
    single_same c.args.self.now c.args.other.now w.counts w.others _ (subst IsSingle (sym w.is-0) tt) (subst IsSingle (sym w.is-1) tt)
    (ap spans_in w.is-0) (ap spans_in w.is-1) (search (rules, c.eq-in-Few-Few.ensures, c.as_slice.ensures, c.as_slice-in-Few-Few.ensures))

pub returns-in-Same-Same : goal.returns-in-Same-Same
returns-in-Same-Same c =
    let w = c.in-Same-Same in
    single_same c.args.self.now c.args.other.now w.counts.items w.others.items _ (subst IsSingle (sym w.is-0) tt) (subst IsSingle (sym w.is-1) tt)
    (ap spans_in w.is-0) (ap spans_in w.is-1) (search (rules, c.eq-in-Same-Same.ensures))
