-- What is left to show of `byte_ends`.
use Rattle.flow_recorders.proofs.SpanLemmas.{zeros_kept}
use Rattle.std.proofs.Common.{◌≡◌, ap, sym, ◌∙◌, length, List, ℕ, arith}
use Rattle.flow_recorders.proofs.ends.byte_ends.Goals as goal

pub returns-then-are_zeros : goal.returns-then-are_zeros
returns-then-are_zeros c =
    let count : c.len.result ≡ length c.args.counts.items = omega arith in
    zeros_kept c.len.result c.args.counts.items c.deref.result.now (count ∙ sym (ap (λ (xs : List ℕ). length xs) c.deref.ensures.value)) c.deref.ensures.value (c.are_zeros.ensures.0 c.if-are_zeros.true)
