-- The unit that bytes spell, or the line of their first departure, is their only meaning; and so is what the checks
-- answer of it.
use Rattle.std.proofs.Common.{◌≡◌, ℕ, true, false, List, [], Result, Ok, Err, Option, None, Some, IfSome, IsSomeAnd, refl, ap, sym, ◌∙◌, subst}
use Rattle.graph_walks.specs.Calls.{RanksRuleOutCycles}
use Rattle.c_unit.specs.Units.{UnitTree}
use Rattle.c_text.specs.Language.{Departure, Means, HasOneMeaning}
use Rattle.c_rules.specs.Faults.{Fault, earliest}
use Rattle.c_rules.specs.Units.{faults_in}
use Rattle.c_rules.specs.Recursion.{calls_of}
use Rattle.c_rules.specs.Programs.{Refusal, UnknownName, DuplicateName, MistypedAt, Recursion, NoRoot, told, first_refusal, has_root, Refuses, by_text, by_cycle, by_root}
use Rattle.c_check.specs.Programs.{IsTold, PassesChecks}
use Rattle.c_check.specs.declared.fault.CFault.{CFault}
use Rattle.c_check.specs.declared.fault.CFault.TheVariants as faults
use Rattle.command_plans.specs.Outcome.{Cause, Outcome, AreAlike, AreAlikeResults, unread_of, refused}
use Rattle.command_plans.specs.Work.{IsOnly, alike}
use Rattle.program_files.specs.UnitLines.{unit_line}
use Rattle.program_files.specs.RefusalLines.{refusal_line, refusal_cause, refusal_told, refusal_of}
use Rattle.program_files.specs.Units.{UnitMeans, UnitCheckMeans}

module _ (bytes : List ℕ) (one : HasOneMeaning bytes) where
  means_one : (m n : Result UnitTree Departure) → Means bytes m → Means bytes n → m ≡ n
  means_one m n h k = sym (one.only m h) ∙ one.only n k

  departures_one : (d e : Departure) → Means bytes (Err d) → Means bytes (Err e) → d ≡ e
  departures_one d e h k = let same : ◌≡◌ {A = Result UnitTree Departure} (Err d) (Err e) = means_one (Err d) (Err e) h k in cc

  units_one : (a b : UnitTree) → Means bytes (Ok a) → Means bytes (Ok b) → a ≡ b
  units_one a b h k = let same : ◌≡◌ {A = Result UnitTree Departure} (Ok a) (Ok b) = means_one (Ok a) (Ok b) h k in cc

  departs_not : (d : Departure) (whole : UnitTree) → Means bytes (Err d) → Means bytes (Ok whole) → ⊥
  departs_not d whole h k = let same : Err d ≡ Ok whole = means_one (Err d) (Ok whole) h k in cc

  -- the unit that was read is the only meaning
  pub unit_only : (whole : UnitTree) → Means bytes (Ok whole) → IsOnly (UnitMeans bytes) (Ok whole)
  unit_only whole h = record { means = h; only = only }
    where
      only : (y : Result UnitTree Outcome) → UnitMeans bytes y → AreAlikeResults (Ok whole) y
      only (Ok b) k = units_one whole b h k
      only (Err o) (d, k, e) = departs_not d whole k h

  -- the line of the departure that was met is the only meaning
  pub unit_departed_only : (o : Option Departure) (text : List ℕ)
      → IsSomeAnd o (λ departure. text ≡ unit_line departure) → IfSome o (λ departure. Means bytes (Err departure))
      → IsOnly (UnitMeans bytes) (Err (refused text))
  unit_departed_only None text line h = absurd line
  unit_departed_only (Some d) text line h = record { means = (d, h, ap refused line); only = only }
    where
      only : (y : Result UnitTree Outcome) → UnitMeans bytes y → AreAlikeResults (Err (refused text)) y
      only (Ok b) k = departs_not d b h k
      only (Err o) (f, k, e) = alike (refused text) o (ap refused (line ∙ ap unit_line (departures_one d f h k)) ∙ sym e)

-- ---- the unit that passes the checks

some_is : {A : Type 0} (x y : A) → Some x ≡ Some y → x ≡ y
some_is x y e = cc

-- what a fault says is what the checks refuse the unit by
pub told_refuses : (unit : UnitTree) (root : List ℕ) (fault : CFault) (refusal : Refusal) → IsTold unit root fault
    → refusal_of fault ≡ Some refusal → Refuses unit root refusal
told_refuses unit root (faults.UnknownName name) refusal h e = subst (Refuses unit root) (some_is _ _ e) h
told_refuses unit root (faults.Duplicate name) refusal h e = subst (Refuses unit root) (some_is _ _ e) h
told_refuses unit root (faults.Mistyped place) refusal h e = subst (Refuses unit root) (some_is _ _ e) h
told_refuses unit root (faults.Recursion names) refusal h e = subst (Refuses unit root) (some_is _ _ e) h
told_refuses unit root (faults.Root name) refusal h e = subst (Refuses unit root) (some_is _ _ e) h
told_refuses unit root faults.Memory refusal h e = absurd (cc)

-- no line of the checks tells a failed read
refusal_read : (refusal : Refusal) → unread_of (refusal_cause refusal) ≡ None
refusal_read (UnknownName name) = refl
refusal_read (DuplicateName name) = refl
refusal_read (MistypedAt place) = refl
refusal_read (Recursion names) = refl
refusal_read (NoRoot name) = refl

module _ (unit : UnitTree) (root : List ℕ) where
  -- a unit has a first fault or none
  not_both : (refusal : Refusal) → first_refusal unit ≡ Some refusal → faults_in unit ≡ [] → ⊥
  not_both refusal e none =
      let same : None ≡ Some refusal = sym (ap (λ (faults : List Fault). told unit (earliest faults)) none) ∙ e in cc

  not_rooted : has_root unit root ≡ true → has_root unit root ≡ false → ⊥
  not_rooted e f = let same : true ≡ false = sym e ∙ f in cc

  passes_not : RanksRuleOutCycles → (refusal : Refusal) → PassesChecks unit root → Refuses unit root refusal → ⊥
  passes_not rule refusal passes (by_text e) = not_both refusal e passes.is_program.no_faults
  passes_not rule _ passes (by_cycle none first) = rule (calls_of unit) passes.ranks passes.is_program.ranked first.first first.on_cycle
  passes_not rule _ passes (by_root none falls gone) = not_rooted passes.is_program.rooted gone

  -- two refusals of one unit are alike
  refusals_one : (a b : Refusal) → Refuses unit root a → Refuses unit root b
      → AreAlike (refusal_told a) (refusal_told b)
  refusals_one a b (by_text e) (by_text f) = alike (refusal_told a) (refusal_told b) (ap refusal_told (some_is a b (sym e ∙ f)))
  refusals_one a _ (by_text e) (by_cycle none first) = absurd (not_both a e none)
  refusals_one a _ (by_text e) (by_root none falls gone) = absurd (not_both a e none)
  refusals_one _ b (by_cycle none first) (by_text f) = absurd (not_both b f none)
  refusals_one _ _ (by_cycle none first) (by_cycle empty other) = record { same_cause = refl; lines = tt }
  refusals_one _ _ (by_cycle none first) (by_root empty falls gone) = absurd (falls first.first first.on_cycle)
  refusals_one _ b (by_root none falls gone) (by_text f) = absurd (not_both b f none)
  refusals_one _ _ (by_root none falls gone) (by_cycle empty first) = absurd (falls first.first first.on_cycle)
  refusals_one _ _ (by_root none falls gone) (by_root empty without nothing) = alike (refusal_told (NoRoot root)) (refusal_told (NoRoot root)) refl

  module _ (rule : RanksRuleOutCycles) where
    -- the unit that passes is the only meaning
    pub checked_only : PassesChecks unit root → IsOnly (UnitCheckMeans unit root) (Ok unit)
    checked_only passes = record { means = (passes, refl); only = only }
      where
        only : (y : Result UnitTree Outcome) → UnitCheckMeans unit root y → AreAlikeResults (Ok unit) y
        only (Ok other) k = sym k.1
        only (Err o) k = passes_not rule k.refusal passes k.refuses

    -- the line of the refusal is the only meaning
    pub refused_only : (refusal : Refusal) → Refuses unit root refusal
        → IsOnly (UnitCheckMeans unit root) (Err (refusal_told refusal))
    refused_only refusal h = record { means = record { refusal = refusal; refuses = h; line = refl }; only = only }
      where
        only : (y : Result UnitTree Outcome) → UnitCheckMeans unit root y
            → AreAlikeResults (Err (refusal_told refusal)) y
        only (Ok other) k = passes_not rule refusal k.0 h
        only (Err o) k = subst (AreAlike (refusal_told refusal)) (sym k.line) (refusals_one refusal k.refusal h k.refuses)

    -- and so it is of a fault of the code
    pub fault_only : (fault : CFault) (cause : Cause) (text : List ℕ) → IsTold unit root fault
        → IsSomeAnd (refusal_of fault) (λ refusal. text ≡ refusal_line refusal)
        → IfSome (refusal_of fault) (λ refusal. cause ≡ refusal_cause refusal) → (unread_of cause ≡ None) × IsOnly (UnitCheckMeans unit root) (Err (record { cause = cause; text = text }))
    fault_only fault cause text h line is = by_refusal (refusal_of fault) refl line is
      where
        by_refusal : (o : Option Refusal) → refusal_of fault ≡ o → IsSomeAnd o (λ refusal. text ≡ refusal_line refusal)
            → IfSome o (λ refusal. cause ≡ refusal_cause refusal)
            → (unread_of cause ≡ None) × IsOnly (UnitCheckMeans unit root) (Err (record { cause = cause; text = text }))
        by_refusal None e line is = absurd line
        by_refusal (Some refusal) e line is =
            let same : refusal_told refusal ≡ record { cause = cause; text = text } = λ i. record { cause = sym is i; text = sym line i } in
            (ap unread_of is ∙ refusal_read refusal, subst (λ (o : Outcome). IsOnly (UnitCheckMeans unit root) (Err o)) same (refused_only refusal (told_refuses unit root fault refusal h e)))
