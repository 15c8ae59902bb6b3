-- The tokens of a unit can be printed, and are the same when they are read back.
use Rattle.c_text.proofs.Again.{printed, again, exactly}
use Rattle.c_text.proofs.laws.spelled_units_are_read_back.Goals as goal

pub returns : goal.returns
returns c =
    let cut = c.printed_texts_are_cut.ensures in
    let kinds = c.tokens_are_known_by_their_texts.ensures in
    let prints = c.spelled_tokens_can_be_printed.ensures in
    let numbers = c.tokens_are_numbered_by_their_texts.ensures in
    record { printed = printed cut kinds prints numbers; again = again cut kinds prints numbers; exactly = exactly cut kinds prints numbers }
