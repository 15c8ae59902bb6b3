-- What is told of the text and of calls holds for each root, and what was found is that the unit passes.
use Rattle.std.proofs.Common.{Result, Ok, Err, OnOk}
use Rattle.c_check.proofs.checking.check_parts.Goals as goal

-- what follows where the result is there
follows : {A E P Q : Type 0} (result : Result A E) → (P → Q) → OnOk result P → OnOk result Q
follows (Ok value) make found = make found
follows (Err error) make found = tt

pub returns-in-Err-clause-told : goal.returns-in-Err-clause-told
returns-in-Err-clause-told c = c.in-Err.ensures.told c.args.root.now

pub returns-in-Err-check_calls-clause-told : goal.returns-in-Err-check_calls-clause-told
returns-in-Err-check_calls-clause-told c = c.in-Err-check_calls.ensures.told c.args.root.now

pub returns-clause-passes : goal.returns-clause-passes
returns-clause-passes c =
    let calls = c.in_default-check_calls.ensures.ranked in
    follows c.check_root.result (λ rooted. record {
      ranks = calls.0;
      is_program = record { no_faults = c.in_default-check_text.ensures.sound; ranked = calls.1; rooted = rooted };
    }) c.check_root.ensures.rooted
