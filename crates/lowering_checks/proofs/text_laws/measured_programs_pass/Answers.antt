-- What is left to show of `measured_programs_pass`.
use Rattle.c_rules.specs.UnitsStandLaws.{unit_stands}
use Rattle.alf_check.specs.Checking.{calls_in}
use Rattle.c_lowered.specs.Programs.{lowered}
use Rattle.lowering_checks.proofs.FaultlessLaws.{no_fault}
use Rattle.lowering_checks.proofs.PassingLaws.{can_be_written, calls_are_ranked, root_stands}
use Rattle.lowering_checks.proofs.text_laws.measured_programs_pass.Goals as goal

pub returns-clause-written : goal.returns-clause-written
returns-clause-written c unit root ranks program names measured = can_be_written unit names (unit_stands unit program.no_faults) measured

pub returns-clause-passes : goal.returns-clause-passes
returns-clause-passes c unit root ranks program names measured =
    let stands = unit_stands unit program.no_faults in
    record {
      sound = (c.no_fault_is_by_parts.ensures (lowered unit)).1 (no_fault unit names stands measured);
      falls = c.ranked_calls_have_no_cycle.ensures (calls_in (lowered unit)) ranks (calls_are_ranked unit names stands measured ranks program.ranked);
      starts = root_stands unit names stands measured root program.rooted;
    }
