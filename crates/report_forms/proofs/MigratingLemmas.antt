-- Laws of migrating.
--   migrated_sound, sound_migrated   it is sound, each run keeping its path bound too, exactly where the given one is
use Rattle.std.proofs.Common.{ℕ, List, Option}
use Rattle.alf_ops.specs.declared.history.RunFault.{RunFault}
use Rattle.domain_core.specs.Outlines.{Outlined}
use Rattle.domain_core.specs.Machines.{System}
use Rattle.flow_facts.specs.Reports.{Reported}
use Rattle.report_soundness.specs.Runs.{IsRightOf}
use Rattle.report_objections.specs.Accepted.{IsSoundWithPath}
use Rattle.report_forms.specs.Migrating.{migrated}

-- what is asked of runs asks nothing of the form
right_same : (o : Outlined) (report : Reported) (trace : List ℕ) (fault : Option RunFault)
    → IsRightOf o report trace fault → IsRightOf o (migrated report) trace fault
right_same o report trace fault right = record { facts = right.facts; alarm = right.alarm; bound = right.bound }

same_right : (o : Outlined) (report : Reported) (trace : List ℕ) (fault : Option RunFault)
    → IsRightOf o (migrated report) trace fault → IsRightOf o report trace fault
same_right o report trace fault right = record { facts = right.facts; alarm = right.alarm; bound = right.bound }

-- it is sound where the given one is
pub migrated_sound : {C : Type 0} (system : System C) (o : Outlined) (report : Reported) → IsSoundWithPath system o report
    → IsSoundWithPath system o (migrated report)
migrated_sound system o report is = record {
  sound = record {
    ends = is.sound.ends;
    right = λ c trace fault starts passes. right_same o report trace fault (is.sound.right c trace fault starts passes);
  };
  path = is.path;
}

-- and nowhere else
pub sound_migrated : {C : Type 0} (system : System C) (o : Outlined) (report : Reported)
    → IsSoundWithPath system o (migrated report) → IsSoundWithPath system o report
sound_migrated system o report is = record {
  sound = record {
    ends = is.sound.ends;
    right = λ c trace fault starts passes. same_right o report trace fault (is.sound.right c trace fault starts passes);
  };
  path = is.path;
}
