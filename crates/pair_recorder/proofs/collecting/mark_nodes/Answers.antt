-- What is left to show of `mark_nodes`.
use Rattle.std.proofs.Common.{◌||◌, ◌==◌, Bool, ℕ, List, length, take, get_or, ap, sym, ◌∙◌, arith}
use Rattle.recorder_rules.specs.BitWords.{is_marked}
use Rattle.recorder_rules.specs.StepBitLaws.{first_set}
use Rattle.pair_recorder.specs.declared.seen.Seen.{Seen}
use Rattle.pair_recorder.specs.Paths.{entered}
use Rattle.pair_recorder.proofs.Pathed.{below_at, entered_more, or_thrice}
use Rattle.pair_recorder.proofs.collecting.mark_nodes.Goals as goal

pub mark-requires : goal.mark-requires
mark-requires c =
    let low = below_at c.args.count c.args.entries.now c.loop-seen.seen-index (record { node = 0; scope = 0 }) c.requires.entries (let inside = c.loop-seen-test.true in omega arith) in
    let fit = c.requires.marks in
    let same = c.loop-seen.auto.marks in
    omega arith

pub loop-seen-preserved : goal.loop-seen-preserved
loop-seen-preserved c a below =
    let inside = c.loop-seen-test.true in
    let path = c.args.entries.now in
    let i = c.loop-seen.seen-index in
    let none : Seen = record { node = 0; scope = 0 } in
    let node = (get_or path i none).node in
    let low = below_at c.args.count path i none c.requires.entries (omega arith) in
    let fit = c.requires.marks in
    let same = c.loop-seen.auto.marks in
    ap (λ (xs : List ℕ). is_marked xs 0 a) c.mark.ensures
    ∙ first_set c.loop-seen.marks (length c.args.marks.now) node (omega arith) (omega arith) a (omega arith)
    ∙ ap (λ (x : Bool). x || (a == node)) (c.loop-seen.invariant a below)
    ∙ or_thrice (is_marked c.args.marks.now 0 a) (entered a (take i path)) (a == node)
    ∙ ap (λ (x : Bool). is_marked c.args.marks.now 0 a || x) (sym (entered_more path i none (omega arith) a))
