-- What is left to show of `visit`.
use Rattle.std.proofs.Common.{ℕ, List, map, set, ap, sym, ◌∙◌, refl}
use Rattle.flow_recorders.specs.SpanLists.{only, spans_in}
use Rattle.flow_recorders.proofs.SpanLemmas.{visited_only, visited_small}
use Rattle.flow_recorders.proofs.span_list.SpanList.visit.Goals as goal

pub returns-in-Some : goal.returns-in-Some
returns-in-Some c =
    ap (λ (xs : List ℕ). map only xs) c.set.ensures
    ∙ visited_small c.args.self.now c.args.i c.requires.low c.in-Few.counts c.as_slice.result.now c.in-Some.count (sym (ap spans_in c.in-Few.is) ∙ c.self.view_is) c.as_slice.ensures c.in-Some.ensures.1

pub returns-in_ok-wide-in-None : goal.returns-in_ok-wide-in-None
returns-in_ok-wide-in-None c =
    c.widen_to.ensures ∙ ap (λ (xs : List ℕ). map only xs) c.in_ok-wide-in-None.ensures
    ∙ visited_small c.args.self.now c.args.i c.requires.low c.as_slice-in-None.result.now c.as_slice-in-None.result.now _ (ap (λ (xs : List ℕ). map only xs) c.as_slice-in-None.ensures ∙ (sym (ap spans_in c.in-Few.is) ∙ c.self.view_is)) refl refl

pub returns-in-Some-checked_add : goal.returns-in-Some-checked_add
returns-in-Some-checked_add c =
    ap (λ (n : ℕ). map only (set c.in-Narrow.counts.items c.args.i n)) c.in-Some-checked_add.ensures.1
    ∙ visited_only c.args.self.now c.args.i c.requires.low c.in-Narrow.counts.items c.index.result.now (sym (ap spans_in c.in-Narrow.is) ∙ c.self.view_is) c.index.ensures

pub returns-in_ok-wide-in-None-checked_add : goal.returns-in_ok-wide-in-None-checked_add
returns-in_ok-wide-in-None-checked_add c =
    c.widen_to-in-None-checked_add.ensures ∙ ap (λ (xs : List ℕ). map only xs) c.in_ok-wide-in-None-checked_add.ensures
    ∙ visited_small c.args.self.now c.args.i c.requires.low c.deref.result.now c.deref.result.now _ (ap (λ (xs : List ℕ). map only xs) c.deref.ensures.value ∙ (sym (ap spans_in c.in-Narrow.is) ∙ c.self.view_is)) refl refl

pub returns-in-Same : goal.returns-in-Same
returns-in-Same c =
    visited_only c.args.self.now c.args.i c.requires.low c.in-Same.counts.items c.index_mut-in-Same.result.now (sym (ap spans_in c.in-Same.is) ∙ c.self.view_is) c.index_mut-in-Same.ensures.value
