-- What is left to show of `reset`.
use Rattle.std.proofs.Common.{◌≡◌, ℕ, List, map, ap, sym, ◌∙◌, set, refl}
use Rattle.flow_recorders.specs.SpanLists.{spans_in, only}
use Rattle.flow_recorders.proofs.SpanLemmas.{only_set, zeros_set}
use Rattle.flow_recorders.proofs.span_list.SpanList.reset.Goals as goal
use Rattle.flow_recorders.proofs.span_list.SpanList.reset.Goals.{in-Zeros, in-Few, in-Narrow, in-Same, in-Apart}

-- a number that begins anew, among the spans
begun_anew : (xs ys : List ℕ) (spans : List (ℕ × ℕ)) (i : ℕ) → map only xs ≡ spans → ys ≡ set xs i 0
    → map only ys ≡ set spans i (0, 0)
begun_anew xs ys spans i is set_so = ap (λ (zs : List ℕ). map only zs) set_so ∙ only_set xs i 0 ∙ ap (λ (zs : List (ℕ × ℕ)). set zs i (0, 0)) is

pub returns : goal.returns
returns c =
    elim c.match-self.branch [
      | in-Zeros w ↦ rw w.self-inside-is (ap spans_in w.in-Zeros.is ∙ sym (zeros_set _ c.args.i) ∙ ap (λ (xs : List (ℕ × ℕ)). set xs c.args.i (0, 0)) (sym (ap spans_in w.in-Zeros.is) ∙ c.self.view_is))
      | in-Few w ↦ rw w.self-inside-is (begun_anew w.in-Few.counts _ c.args.self.now c.args.i (sym (ap spans_in w.in-Few.is) ∙ c.self.view_is) w.set.ensures)
      | in-Narrow w ↦ rw w.self-inside-is (begun_anew w.in-Narrow.counts.items _ c.args.self.now c.args.i (sym (ap spans_in w.in-Narrow.is) ∙ c.self.view_is) refl)
      | in-Same w ↦ rw w.self-inside-is (begun_anew w.in-Same.counts.items _ c.args.self.now c.args.i (sym (ap spans_in w.in-Same.is) ∙ c.self.view_is) refl)
      | in-Apart w ↦ rw w.self-inside-is (ap (λ (xs : List (ℕ × ℕ)). set xs c.args.i (0, 0)) (sym (ap spans_in w.in-Apart.is) ∙ c.self.view_is))
    ]
