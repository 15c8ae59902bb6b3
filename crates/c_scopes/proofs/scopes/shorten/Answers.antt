-- What is left are the oldest names.
use Rattle.std.proofs.Common.{◌≤◌, ◌<◌, ◌∙◌, ℕ, length, drop, ap, arith}
use Rattle.c_scopes.specs.Rows.{Row}
use Rattle.c_scopes.proofs.CutLaws.{fewer, fewer_length, end_of}
use Rattle.c_scopes.proofs.scopes.shorten.Goals as goal

pub loop-row-preserved : goal.loop-row-preserved
loop-row-preserved c =
    let before = c.loop-row.row.names in
    let all = c.args.row.now.names in
    let more : c.args.count < length before = omega arith in
    let few : length before ≤ length all = c.loop-row.invariant.few in
    let some : 0 < length before = omega arith in
    let words = ap (λ (row : Row). row.words) c.in_ok-pop.ensures.done ∙ c.loop-row.invariant.words in
    let names = ap (λ (row : Row). row.names) c.in_ok-pop.ensures.done in
    let count = ap length names ∙ fewer_length before in
    let less = fewer before all some few c.loop-row.invariant.oldest in
    record {
      words = words;
      oldest = rw names less;
      few = omega arith;
      enough = λ low. omega arith;
      whole = λ high. omega arith;
    }

pub returns-clause-kept : goal.returns-clause-kept
returns-clause-kept c =
    let left : length c.loop-row.row.names ≤ c.args.count = omega arith in
    let kept = c.loop-row.invariant in
    kept.oldest ∙ ap (λ (n : ℕ). drop n c.args.row.now.names)
    (end_of (length c.args.row.now.names) (length c.loop-row.row.names) c.args.count left kept.few kept.enough kept.whole)
