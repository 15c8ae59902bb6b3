use Rattle.std.proofs.Common.{rules}
use Rattle.alf_check.proofs.checking.check_root.Goals as goal

pub returns-in-Some-clause-passes : goal.returns-in-Some-clause-passes
returns-in-Some-clause-passes c = record { sound = c.requires.sound; falls = c.requires.acyclic; starts = search rules }

pub returns-in-Ok-clause-told : goal.returns-in-Ok-clause-told
returns-in-Ok-clause-told c = record { sound = c.requires.sound; falls = c.requires.acyclic; none = search rules; named = c.in-Ok.ensures }
