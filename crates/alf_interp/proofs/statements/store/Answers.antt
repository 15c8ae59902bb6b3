use Rattle.alf_check.specs.CheckedPrograms.{term_of}
use Rattle.alf_values.specs.Memories.{shapes}
use Rattle.alf_runs.specs.Expressions.{value_of}
use Rattle.alf_interp.proofs.Stores.{stored_does}
use Rattle.alf_interp.proofs.statements.store.Goals as goal

pub returns-clause-does : goal.returns-clause-does
returns-clause-does c = λ history stands.
    let frames = shapes c.args.frames.now in
    stored_does c.args.frames.now c.store.new.self history c.in_ok-place.place c.in_ok-stored.stored
    (value_of frames history (term_of c.args.to.now)) (value_of frames history (term_of c.args.term.now)) c.store.result
    (c.in_ok-place.ensures.gives history stands) (c.in_ok-stored.ensures.gives history stands) (c.store.ensures.stands history stands)
