-- The run of a lowered program has the outcome of the unit.
--   ItemsTrack n o start     the run by items comes to the outcome, or it is not over after n stretches
--   same_outcome             so the run by nodes has the same outcome
use Rattle.std.proofs.Common.{◌≡◌, ◌<◌, ◌≤◌, ℕ, zero, suc, ◌+◌, ◌-◌, List, [], ◌∷◌, map, length, Option, Some, None, refl, sym, ap, ◌∙◌, subst, ⊎_elim, arith}
use Rattle.std.specs.Prelude.{⊤}
use Rattle.std.specs.Option.{option_map}
use Rattle.std.proofs.lemmas.Bool.{cases_lt}
use Rattle.std.proofs.lemmas.Option.{none-some}
use Rattle.alf_ops.specs.declared.history.Value.{Value}
use Rattle.alf_ops.specs.declared.history.RunEvent.{RunEvent}
use Rattle.flow_graph.specs.Nodes.{first_node}
use Rattle.alf_runs.specs.Outcomes as runs
use Rattle.alf_runs.specs.Outcomes.{exported}
use Rattle.alf_runs.specs.Steps.{Moment, At, Over}
use Rattle.alf_runs.specs.Runs.{after, IsLonger, NeverEnds}
use Rattle.item_runs.specs.ItemRuns.{Standing, Run, Done, ItemProgram, ticks, at_start}
use Rattle.item_runs.specs.Following.{FollowEachOther}
use Rattle.c_unit.specs.Units.{UnitTree}
use Rattle.c_meaning.specs.Objects.{Program, program_of, integers_of}
use Rattle.c_meaning.specs.Endings.{Ending, Normal, Broke, Continued, Returned, Faulted, UsedUp}
use Rattle.c_meaning.specs.Programs.{Cell, ProgramOutcome, Ended, Stopped, Unfinished, held, outcome_of, function_done, start_history, ending}
use Rattle.lowering_values.specs.Embedding.{embedded_value}
use Rattle.lowering_simulation.specs.Functions.{FunctionsDo}
use Rattle.lowering_simulation.specs.Outcomes.{embedded_outcome, IsOver, IsSameOutcome}
use Rattle.lowering_simulation.proofs.Comes.{IsOn, CallReaches, IsLong, ticks_more}
use Rattle.lowering_simulation.proofs.Functions.{function_run, called}

abbrev IsAt : Moment → Type 0
IsAt (At node h) = ⊤
IsAt (Over o) = ⊥

-- ---- runs by items

-- a run that is over stays so
stays_over : (of : ItemProgram) (u : ℕ) (o : runs.Outcome) → ticks of u (Done o) ≡ Done o
stays_over of zero o = refl
stays_over of (suc u) o = stays_over of u o

over_later : (of : ItemProgram) (start : Standing) (t u : ℕ) (o : runs.Outcome) → t ≤ u → ticks of t start ≡ Done o
    → ticks of u start ≡ Done o
over_later of start t u o le e =
    let whole : t + (u - t) ≡ u = omega arith in
    sym (ap (λ (n : ℕ). ticks of n start) whole) ∙ ticks_more of t (u - t) start ∙ ap (ticks of (u - t)) e ∙ stays_over of (u - t) o

abbrev outcome_at : Standing → Option runs.Outcome
outcome_at (Run f stack end) = None
outcome_at (Done o) = Some o

one_outcome : (of : ItemProgram) (start : Standing) (t u : ℕ) (o p : runs.Outcome) → ticks of t start ≡ Done o
    → ticks of u start ≡ Done p → Some p ≡ Some o
one_outcome of start t u o p e g =
    ⊎_elim
    (λ (lt : t < u). sym (ap outcome_at g) ∙ ap outcome_at (over_later of start t u o (omega arith) e))
    (λ (le : u ≤ t). sym (ap outcome_at (over_later of start u t p le g)) ∙ ap outcome_at e)
    (cases_lt t u)

-- the run comes to the outcome, or it is not over after n stretches
record ComesTo (of : ItemProgram) (start : Standing) (o : runs.Outcome) : Type 0 where
  count : ℕ
  so : ticks of count start ≡ Done o

module _ (of : ItemProgram) (program : Program) (place : ℕ → ℕ) (Rel : List ℕ → List RunEvent → List RunEvent → Type 0) where
  abbrev ItemsTrack : ℕ → Option runs.Outcome → Standing → Type 0
  ItemsTrack n (Some o) start = ComesTo of start o
  ItemsTrack n None start = IsLong of program place Rel start n

  only_one : (start : Standing) (n count : ℕ) (x : Option runs.Outcome) (o : runs.Outcome) → ItemsTrack n x start
      → count ≤ n → ticks of count start ≡ Done o → x ≡ Some o
  only_one start n count (Some p) o tracks le e = one_outcome of start count tracks.count o p e tracks.so
  only_one start n count None o tracks le e =
      absurd (subst IsOn (over_later of start count tracks.count o (let more : n ≤ tracks.count = tracks.enough in omega arith) e) tracks.so)

module _ (of : ItemProgram) (unit : UnitTree) (place : ℕ → ℕ) (Rel : List ℕ → List RunEvent → List RunEvent → Type 0) (rank : ℕ → ℕ)
    (outputs : (m h : List RunEvent) → Rel [] m h → map (exported of.program m) of.program.exports ≡ map (option_map (embedded_value place)) (map (held (program_of unit) h) (integers_of unit))) where
  abbrev given : Ending → Option runs.Outcome
  given e = embedded_outcome place (outcome_of unit e)

  -- an ending of the root is an outcome
  ending_tracks : (root n : ℕ) (start : Standing) (e : Ending)
      → CallReaches of (program_of unit) place Rel root [] n start e
      → ItemsTrack of (program_of unit) place Rel n (given e) start
  ending_tracks root n start (Normal h) r = absurd r
  ending_tracks root n start (Broke h) r = absurd r
  ending_tracks root n start (Continued h) r = absurd r
  ending_tracks root n start (Returned v h) r =
      record {
        count = r.count;
        so = r.so ∙ ap (λ (globals : List (Option Value)). Done (runs.Ended (record { returned = option_map (embedded_value place) v; globals = globals }))) (outputs r.memory h r.rel);
      }
  ending_tracks root n start (Faulted fault) r = record { count = r.count; so = r.so }
  ending_tracks root n start UsedUp r = r

  module _ (cells : List Cell) (m : List RunEvent) (does : FunctionsDo of (program_of unit) place Rel rank) (there : of.program.root < length (program_of unit).functions)
      (starts : Rel (of.program.root ∷ []) m (start_history unit of.program.root cells)) (follow : (t : ℕ) (o : runs.Outcome) → FollowEachOther of t m o) where
    abbrev result : ℕ → ProgramOutcome
    result n = outcome_of unit (ending unit of.program.root n cells)

    abbrev start : Moment
    start = At first_node m

    tracks : (n : ℕ) → ItemsTrack of (program_of unit) place Rel n (embedded_outcome place (result n)) (at_start of m)
    tracks n =
        let root : ℕ = of.program.root in
        let depth : ℕ = length (program_of unit).functions + n in
        ending_tracks root n (at_start of m) (ending unit root n cells)
        (function_run of (program_of unit) place Rel rank does n (function_done (program_of unit) n depth) n n (omega arith) (omega arith)
        (called of (program_of unit) place Rel rank does n depth n (omega arith) (omega arith)) root [] m (start_history unit root cells) there tt starts)

    comes_to : (n : ℕ) (o : runs.Outcome) → embedded_outcome place (result n) ≡ Some o → IsOver of.program start o
    comes_to n o e =
        let there : ComesTo of (at_start of m) o = subst (λ (x : Option runs.Outcome). ItemsTrack of (program_of unit) place Rel n x (at_start of m)) e (tracks n) in
        let r = (follow there.count o).is_over there.so in
        record { steps = r.count; over = r.over }

    only_so : (t : ℕ) (o : runs.Outcome) → after of.program t start ≡ Over o
        → embedded_outcome place (result t) ≡ Some o
    only_so t o e =
        let r = (follow t o).ends e in
        only_one of (program_of unit) place Rel (at_start of m) t r.count (embedded_outcome place (result t)) o (tracks t) r.few r.done

    longer : (n : ℕ) (x : Moment) → after of.program n start ≡ x → result n ≡ Unfinished → IsLonger of.program start n
    longer n (At node h) e used = record { node = node; history = h; stands = e }
    longer n (Over o) e used = absurd (none-some o (sym (ap (embedded_outcome place) used) ∙ only_so n o e))

    never_over : (t : ℕ) (o : runs.Outcome) → after of.program t start ≡ Over o → IsLonger of.program start t → ⊥
    never_over t o e longer_run = subst IsAt (sym longer_run.stands ∙ e) tt

    unfinished : (n : ℕ) (x : ProgramOutcome) → result n ≡ x → NeverEnds of.program start → x ≡ Unfinished
    unfinished n (Ended v globals) e never =
        let o : runs.Outcome = runs.Ended (record { returned = option_map (embedded_value place) v; globals = map (option_map (embedded_value place)) globals }) in
        let r : IsOver of.program start o = comes_to n o (ap (embedded_outcome place) e) in
        absurd (never_over r.steps o r.over (never r.steps))
    unfinished n (Stopped fault) e never =
        let r : IsOver of.program start (runs.Faulted fault) = comes_to n (runs.Faulted fault) (ap (embedded_outcome place) e) in
        absurd (never_over r.steps (runs.Faulted fault) r.over (never r.steps))
    unfinished n Unfinished e never = refl

    pub same_outcome : IsSameOutcome of.program start place result
    same_outcome = record {
      comes = comes_to;
      only = only_so;
      goes_on = λ n used. longer n (after of.program n start) refl used;
      never = ((λ all n. longer n (after of.program n start) refl (all n)), (λ never n. unfinished n (result n) refl never));
    }
