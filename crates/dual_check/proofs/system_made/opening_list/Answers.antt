-- One node more.
use Rattle.std.proofs.Common.{◌≡◌, ◌==◌, ◌++◌, ◌∙◌, ℕ, List, Option, None, ap, get_or}
use Rattle.dual_check.specs.Constraints.{is_limit_of}
use Rattle.dual_check.specs.Openings.{place_of}
use Rattle.dual_check.proofs.Made.{opening_more}
use Rattle.dual_check.proofs.FirstNumbers.{opening_is}
use Rattle.dual_check.proofs.system_made.opening_list.Goals as goal

pub loop-node-preserved : goal.loop-node-preserved
loop-node-preserved c =
    let columns = c.args.columns.now in
    let ks = c.args.constraints.now in
    let n = c.loop-node.node in
    let low = c.loop-node-test.true in
    let row : c.number_at-row.result ≡ place_of (λ k. is_limit_of n k) 0 ks =
    c.number_at-row.ensures ∙ ap (λ (fs : List (Option ℕ)). get_or fs n None) c.deref.ensures.value ∙ c.in_ok-limits.ensures.firsts n low in
    let column : c.number_at-column.result ≡ place_of (λ d. n == d.from) 0 columns =
    c.number_at-column.ensures ∙ ap (λ (fs : List (Option ℕ)). get_or fs n None) c.deref-in-loop-node.ensures.value ∙ c.in_ok-firsts.ensures.firsts n low in
    opening_more c.loop-node.out.items c.push_opening.new.out.items columns ks n c.loop-node.invariant
    (c.in_ok-push_opening.ensures ∙ ap (λ (os : List (ℕ × ℕ)). c.loop-node.out.items ++ os) (opening_is columns ks n c.number_at-row.result c.number_at-column.result row column))
