-- What is judged has one meaning, but for a line that gives one example of several.
use Rattle.std.proofs.Common.{◌≡◌, ℕ, List, [], Result, Ok, Err, Option, None, Some, IfSome, IsSomeAnd, IsSome, codes, ap, sym, ◌∙◌, subst}
use Rattle.alf_program.specs.Tree.{WholeProgram}
use Rattle.alf_text.specs.Language.{Departure, Means, HasOneMeaning}
use Rattle.alf_faults.specs.Places.{function_place}
use Rattle.alf_faults.specs.Fault.{Fault, Unknown, Duplicate, Size, earliest}
use Rattle.alf_faults.specs.Faults.{faults_in}
use Rattle.alf_check.specs.CheckedPrograms.{NumberedProgram}
use Rattle.alf_check.specs.Numbered.{numbered}
use Rattle.alf_check.specs.Checking.{Passes, IsTold, calls_in}
use Rattle.alf_check.specs.declared.fault.CheckFault.{CheckFault}
use Rattle.alf_check.specs.declared.fault.CheckFault.TheVariants as told
use Rattle.graph_walks.specs.Calls.{OnCycle}
use Rattle.command_plans.specs.Outcome.{Outcome, Cause, Source, Example, LinesAgree, AreAlike, AreAlikeResults, unread_of, refused}
use Rattle.command_plans.specs.Work.{IsOnly, alike}
use Rattle.program_files.specs.FaultLines.{fault_line}
use Rattle.program_files.specs.CheckLines.{name_line, size_line, check_line, check_cause}
use Rattle.program_files.specs.Programs.{ProgramMeans, CheckMeans}

-- ---- results that are the same

-- what is the same is alike
pub same_alike : {A : Type 0} (x y : Result A Outcome) → x ≡ y → AreAlikeResults x y
same_alike (Ok a) (Ok b) e = cc
same_alike {A = A} (Ok a) (Err y) e = cc
same_alike {A = A} (Err x) (Ok b) e = cc
same_alike {A = A} (Err x) (Err y) e = alike x y cc

-- an outcome by its parts
pub outcome_is : (x : Outcome) (cause : Cause) (text : List ℕ) → x.cause ≡ cause → x.text ≡ text
    → x ≡ record { cause = cause; text = text }
outcome_is x cause text e f = λ i. record { cause = e i; text = f i }

-- ---- the program that bytes spell

module _ (bytes : List ℕ) (one : HasOneMeaning bytes) where
  -- bytes mean one thing
  means_one : (m n : Result WholeProgram Departure) → Means bytes m → Means bytes n → m ≡ n
  means_one m n h k = sym (one.only m h) ∙ one.only n k

  departures_one : (d e : Departure) → Means bytes (Err d) → Means bytes (Err e) → d ≡ e
  departures_one d e h k = let same : ◌≡◌ {A = Result WholeProgram Departure} (Err d) (Err e) = means_one (Err d) (Err e) h k in cc

  programs_one : (a b : WholeProgram) → Means bytes (Ok a) → Means bytes (Ok b) → a ≡ b
  programs_one a b h k = let same : ◌≡◌ {A = Result WholeProgram Departure} (Ok a) (Ok b) = means_one (Ok a) (Ok b) h k in cc

  departs_not : (d : Departure) (whole : WholeProgram) → Means bytes (Err d) → Means bytes (Ok whole) → ⊥
  departs_not d whole h k = let same : Err d ≡ Ok whole = means_one (Err d) (Ok whole) h k in cc

  -- the program that was read is the only meaning
  pub spelled_only : (whole : WholeProgram) → Means bytes (Ok whole) → IsOnly (ProgramMeans bytes) (Ok whole)
  spelled_only whole h = record { means = h; only = only }
    where
      only : (y : Result WholeProgram Outcome) → ProgramMeans bytes y → AreAlikeResults (Ok whole) y
      only (Ok b) k = programs_one whole b h k
      only (Err o) (d, k, e) = departs_not d whole k h

  -- the line of the departure that was met is the only meaning
  pub departed_only : (o : Option Departure) (text : List ℕ) → IsSomeAnd o (λ departure. text ≡ fault_line departure)
      → IfSome o (λ departure. Means bytes (Err departure))
      → IsOnly (ProgramMeans bytes) (Err (refused text))
  departed_only None text line h = absurd line
  departed_only (Some d) text line h = record { means = (d, h, ap refused line); only = only }
    where
      only : (y : Result WholeProgram Outcome) → ProgramMeans bytes y → AreAlikeResults (Err (refused text)) y
      only (Ok b) k = departs_not d b h k
      only (Err o) (f, k, e) = alike (refused text) o (ap refused (line ∙ ap fault_line (departures_one d f h k)) ∙ sym e)

-- ---- the program that passes the checks

some_is : {A : Type 0} (x y : A) → Some x ≡ Some y → x ≡ y
some_is x y e = cc

-- the line of a fault of names and sizes, and that of a root that is not there
abbrev item_line : Fault → List ℕ
item_line (Unknown name) = name_line (codes "fault 20 unknown ") name
item_line (Duplicate name) = name_line (codes "fault 21 duplicate ") name
item_line (Size name number) = size_line name number

abbrev root_line : List ℕ → List ℕ
root_line root = name_line (codes "fault 24 root ") root

-- what a line of the checks says
data Says (whole : WholeProgram) (root : List ℕ) (outcome : Outcome) : Type 0 where
  item : (fault : Fault) → earliest (faults_in whole) ≡ Some fault → outcome ≡ refused (item_line fault)
      → Says whole root outcome
  cycle : (f : ℕ) → faults_in whole ≡ [] → OnCycle (calls_in whole) f → outcome.cause ≡ Example
      → Says whole root outcome
  rootless : faults_in whole ≡ [] → ((f : ℕ) → OnCycle (calls_in whole) f → ⊥) → function_place whole.funcs root ≡ None
      → outcome ≡ refused (root_line root) → Says whole root outcome

module _ (whole : WholeProgram) (root : List ℕ) where
  says : (outcome : Outcome) (fault : CheckFault) → IsTold whole root fault → check_line fault ≡ Some outcome.text
      → outcome.cause ≡ check_cause fault → Says whole root outcome
  says outcome (told.UnknownName name) h line cause = item (Unknown name) h (outcome_is outcome Source _ cause (sym (some_is _ _ line)))
  says outcome (told.DuplicateName name) h line cause = item (Duplicate name) h (outcome_is outcome Source _ cause (sym (some_is _ _ line)))
  says outcome (told.Size name number) h line cause = item (Size name number) h (outcome_is outcome Source _ cause (sym (some_is _ _ line)))
  says outcome (told.Recursion names) h line cause = cycle h.first.first h.sound h.first.on_cycle cause
  says outcome (told.Root name) h line cause =
      rootless h.sound h.falls h.none (outcome_is outcome Source (root_line root) cause (sym (some_is _ _ line) ∙ ap root_line h.named))
  says outcome told.Memory h line cause = absurd (cc)

  -- a program has a fault of names and sizes or none
  not_both : (fault : Fault) → earliest (faults_in whole) ≡ Some fault → faults_in whole ≡ [] → ⊥
  not_both fault e none = let same : None ≡ Some fault = sym (ap earliest none) ∙ e in cc

  pass_not : (outcome : Outcome) → Says whole root outcome → Passes whole root → ⊥
  pass_not outcome (item fault e is) passes = not_both fault e passes.sound
  pass_not outcome (cycle f none on is) passes = passes.falls f on
  pass_not outcome (rootless none falls gone is) passes = let some : IsSome {T = ℕ} None = subst (λ (o : Option ℕ). IsSome o) gone passes.starts in cc

  -- two lines of one program are alike
  says_one : (x y : Outcome) → Says whole root x → Says whole root y → AreAlike x y
  says_one x y (item fault e is) (item other f at) = alike x y (is ∙ ap (λ (a : Fault). refused (item_line a)) (some_is fault other (sym e ∙ f)) ∙ sym at)
  says_one x y (item fault e is) (cycle g none on at) = absurd (not_both fault e none)
  says_one x y (item fault e is) (rootless none falls gone at) = absurd (not_both fault e none)
  says_one x y (cycle g none on is) (item fault e at) = absurd (not_both fault e none)
  says_one x y (cycle g none on is) (cycle f empty other at) =
      record { same_cause = is ∙ sym at; lines = subst (λ (c : Cause). LinesAgree c x.text y.text) (sym is) tt }
  says_one x y (cycle g none on is) (rootless empty falls without at) = absurd (falls g on)
  says_one x y (rootless none falls gone is) (item fault e at) = absurd (not_both fault e none)
  says_one x y (rootless none falls gone is) (cycle g other on at) = absurd (falls g on)
  says_one x y (rootless none falls gone is) (rootless other without nothing at) = alike x y (is ∙ sym at)

  -- the program that passes is the only meaning
  pub passes_only : (program : NumberedProgram) → Passes whole root → program ≡ numbered whole root
      → IsOnly (CheckMeans whole root) (Ok program)
  passes_only program passes is = record { means = (passes, is); only = only }
    where
      only : (y : Result NumberedProgram Outcome) → CheckMeans whole root y → AreAlikeResults (Ok program) y
      only (Ok other) k = is ∙ sym k.1
      only (Err o) k = pass_not o (says o k.fault k.told k.line k.cause) passes

  -- the line of the fault that was met is the only meaning
  pub told_only : (fault : CheckFault) (cause : Cause) (text : List ℕ) → IsTold whole root fault
      → check_line fault ≡ Some text → cause ≡ check_cause fault
      → IsOnly (CheckMeans whole root) (Err (record { cause = cause; text = text }))
  told_only fault cause text h line is = record { means = record { fault = fault; told = h; line = line; cause = is }; only = only }
    where
      o : Outcome
      o = record { cause = cause; text = text }

      only : (y : Result NumberedProgram Outcome) → CheckMeans whole root y → AreAlikeResults (Err o) y
      only (Ok other) k = pass_not o (says o fault h line is) k.0
      only (Err x) k = says_one o x (says o fault h line is) (says x k.fault k.told k.line k.cause)

-- no line of the checks tells a failed read
pub check_read : (fault : CheckFault) (cause : Cause) → cause ≡ check_cause fault → unread_of cause ≡ None
check_read (told.UnknownName name) cause is = ap unread_of is
check_read (told.DuplicateName name) cause is = ap unread_of is
check_read (told.Size name number) cause is = ap unread_of is
check_read (told.Recursion names) cause is = ap unread_of is
check_read (told.Root name) cause is = ap unread_of is
check_read told.Memory cause is = ap unread_of is
