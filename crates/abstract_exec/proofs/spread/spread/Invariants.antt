-- What the walk along the successors keeps: those left stand in reverse, and then the last.
use Rattle.std.proofs.Common.{◌≡◌, ◌++◌, ◌∷◌, [], reverse, vec_len}
use Rattle.worklist_rules.specs.Events.{spread_spots, spread_book}
use Rattle.worklist_rules.specs.Successors.{AreAlong}
use Rattle.abstract_exec.proofs.spread.spread.Given as goal

abbrev pub invariant-loop-successor : goal.invariant-loop-successor
invariant-loop-successor g l = record {
  book : g.R.Recorder.recording.book_is_of l.outline l.book;
  along : AreAlong l.outline l.from (reverse l.next.items ++ l.last ∷ []);
  places : l.made.items ++ spread_spots g.R.Recorder.recording l.outline l.fn.position.items l.recorder l.from l.book (reverse l.next.items ++ l.last ∷ [])
      ≡ spread_spots g.R.Recorder.recording l.outline l.fn.position.items l.recorder l.from l.fn.book l.fn.next.items;
  collected : spread_book g.R.Recorder.recording l.outline l.recorder l.from l.book (reverse l.next.items ++ l.last ∷ [])
      ≡ spread_book g.R.Recorder.recording l.outline l.recorder l.from l.fn.book l.fn.next.items;
}

abbrev pub decreases-loop-successor : goal.decreases-loop-successor
decreases-loop-successor g l = vec_len l.next
