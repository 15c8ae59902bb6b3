-- One line more.
use Rattle.std.proofs.Common.{◌≡◌, ◌+◌, ◌++◌, ℕ, suc, List, ap, sym, ◌∙◌, arith}
use Rattle.std.proofs.lemmas.List.{append_assoc}
use Rattle.answer_texts.specs.MadeProgram.{first_line, loops_line, loops_to}
use Rattle.answer_texts.proofs.made_lines.made_text.Goals as goal

loops_more : (k : ℕ) → loops_to (k + 1) ≡ loops_to k ++ loops_line (k + 1)
loops_more k =
    let next : k + 1 ≡ suc k = omega arith in
    ap loops_to next ∙ ap (λ (n : ℕ). loops_to k ++ loops_line n) (sym next)

pub loop-k-preserved : goal.loop-k-preserved
loop-k-preserved c =
    let k = c.loop-k.k in
    c.in_ok-push_loops.ensures ∙ ap (λ (l : List ℕ). l ++ loops_line (k + 1)) c.loop-k.invariant
    ∙ append_assoc first_line (loops_to k) (loops_line (k + 1)) ∙ ap (λ (l : List ℕ). first_line ++ l) (sym (loops_more k))
