use Rattle.alf_check.proofs.checking.check.Goals as goal

pub returns-in-Err-clause-told : goal.returns-in-Err-clause-told
returns-in-Err-clause-told c = c.in-Err.ensures.told c.args.root.now

pub returns-in-Err-check_calls-clause-told : goal.returns-in-Err-check_calls-clause-told
returns-in-Err-check_calls-clause-told c = c.in-Err-check_calls.ensures.told c.args.root.now
