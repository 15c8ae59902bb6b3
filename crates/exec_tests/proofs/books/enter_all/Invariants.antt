-- What the walk over the runs keeps.
use Rattle.exec_tests.proofs.books.enter_all.Given as goal

abbrev pub invariant-loop-run : goal.invariant-loop-run
invariant-loop-run g l =
    (goal.iterator-loop-run g).can_next l.run-iterator × (goal.iterator-loop-run g).is_finite l.run-iterator × g.R.Recorder.recording.book_is_of l.outline l.book
