-- What is left to show of `the_first_thing_is_told_of_a_run`.
use Rattle.std.proofs.Common.{◌≡◌, ◌<◌, ℕ, zero, suc, [], ◌∷◌, refl, arith}
use Rattle.std.specs.Prelude.{pos, All, Contains}
use Rattle.std.proofs.lemmas.List.Elements.{All-cons, All-nil}
use Rattle.alf_ops.specs.declared.history.RunFault.TheVariants.{Divide}
use Rattle.domain_core.specs.Outlines.{Shape}
use Rattle.flow_facts.specs.declared.fact.Fact.TheVariants.{Alarm, Total}
use Rattle.flow_facts.specs.declared.report.BoundWord.TheVariants.{Least}
use Rattle.flow_facts.specs.Facts.{Meets}
use Rattle.report_objections.specs.declared.objection.Objection.TheVariants.{NoAlarm, NoFact, NoCountBound, NoPathBound}
use Rattle.run_replays.specs.Replays.{IsInside, objects, passes}
use Rattle.run_replays.specs.Worked.{met, passed, ranges, unmet, values}
use Rattle.run_replays.proofs.worked.the_first_thing_is_told_of_a_run.Goals as goal

no_alarm : Contains unmet (Alarm 1 Divide) → ⊥
no_alarm (zero, less, at) = cc
no_alarm (suc zero, less, at) = cc
no_alarm (suc (suc zero), less, at) = cc
no_alarm (suc (suc (suc k)), less, at) = absurd (omega (arith, less))

first_met : (o : Shape) → All (Meets o passed) (Total 0 1 1 ∷ [])
first_met o = All-cons (Meets o passed) (Total 0 1 1) [] (omega arith, omega arith) (All-nil (Meets o passed))

all_met : (o : Shape) → All (Meets o passed) met
all_met o =
    All-cons (Meets o passed) (Total 0 1 1) (Total 1 1 1 ∷ []) (omega arith, omega arith)
    (All-cons (Meets o passed) (Total 1 1 1) [] (omega arith, omega arith) (All-nil (Meets o passed)))

pub returns-clause-alarm : goal.returns-clause-alarm
returns-clause-alarm c = λ o. objects (NoAlarm 1 Divide)
    (record { node = 1; kind = Divide; faults = refl; last = (0 ∷ [], refl); lacks = no_alarm; is = refl }) refl

pub returns-clause-line : goal.returns-clause-line
returns-clause-line c = λ o. passes tt
    (objects (NoFact 6) (record { place = 1; fact = Total 1 2 2; there = refl; before = first_met o; unmet = λ meets. omega (arith, meets.0); is = refl }) refl)

pub returns-clause-count : goal.returns-clause-count
returns-clause-count c = λ o. passes tt (passes (all_met o) (objects NoCountBound (record { above = omega arith; is = refl }) refl))

pub returns-clause-path : goal.returns-clause-path
returns-clause-path c = passes (omega arith) (objects NoPathBound (record { bound = (2, Least); bound_is = refl; above = omega arith; is = refl }) refl)

pub returns-clause-cost : goal.returns-clause-cost
returns-clause-cost c = passes (omega arith) (passes (omega arith) refl)

pub returns-clause-outside : goal.returns-clause-outside
returns-clause-outside c = record {
  k = 1;
  row = record { frame = 0; offset = 0; size = 32; low = pos 0; high = pos 9 };
  value = pos 10;
  row_is = refl;
  value_is = refl;
  outside = λ inside. omega (arith, inside.most);
  before = inside_before;
  is = refl;
}
  where
    inside_before : (j : ℕ) → j < 1 → IsInside ranges values j
    inside_before zero less = record {
      row = record { frame = 0; offset = 0; size = 32; low = pos 0; high = pos 9 };
      value = pos 5;
      row_is = refl;
      value_is = refl;
      within = record { least = omega arith; most = omega arith };
    }
    inside_before (suc j) less = absurd (omega (arith, less))
