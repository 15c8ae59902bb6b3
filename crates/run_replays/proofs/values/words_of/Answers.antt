use Rattle.std.proofs.Common.{◌++◌, ◌∷◌, [], ◌∙◌, ℕ, List, take, ap, sym, arith}
use Rattle.alf_runs.specs.Starts.{words_of}
use Rattle.run_replays.proofs.Held.{words_more}
use Rattle.run_replays.proofs.values.words_of.Goals as goal

pub loop-k-preserved : goal.loop-k-preserved
loop-k-preserved c =
    let rows = c.args.rows.now in
    let values = c.args.values.now in
    let k = c.loop-k.k in
    let low = c.loop-k-test.true in
    let long = c.requires.one_each in
    c.in_ok-push.ensures.items
    ∙ ap (λ (ws : List ℕ). ws ++ c.word_of.result ∷ []) c.loop-k.invariant
    ∙ ap (λ (w : ℕ). words_of (take k rows) (take k values) ++ w ∷ []) c.word_of.ensures
    ∙ sym (words_more rows values k _ _ low (omega (arith, low, long)))
