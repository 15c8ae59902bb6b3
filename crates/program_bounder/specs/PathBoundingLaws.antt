-- Path bounds keep the laws of boundings.
--   part_suits, one_answer, bounds, point_exact   the laws
--   path_bounds_are_bounding                      all of them
use Rattle.std.proofs.Common.{◌≡◌, ◌≤◌, ℕ, ℤ, suc, List, [], ◌∷◌, length, Option, None, Some, refl, sym, ap, subst, ◌∙◌}
use Rattle.alf_check.specs.declared.rows.InputRow.{InputRow}
use Rattle.alf_check.specs.CheckedPrograms.{NumberedProgram, seen}
use Rattle.alf_runs.specs.Outcomes.{Outcome}
use Rattle.alf_runs.specs.Steps.{Moment}
use Rattle.alf_runs.specs.Starts.{start, words_of}
use Rattle.alf_runs.specs.Runs.{Ends, cost_of}
use Rattle.alf_interp.specs.Traces.{Runs}
use Rattle.flow_facts.specs.declared.report.BoundWord.{BoundWord}
use Rattle.flow_facts.specs.Reports.{Reported}
use Rattle.report_soundness.specs.Bounded.{IsOf, HasPathBound}
use Rattle.program_machines.specs.NodeCosts.{node_cost}
use Rattle.program_machines.specs.Starts.{AreLone, lone_start}
use Rattle.program_machines.specs.StartLaws.{alone}
use Rattle.program_analysis.specs.Answers.{Answer, Told, Unbounded}
use Rattle.program_analysis.specs.BoundedAnalyses.{IsBoundedAnalysis}
use Rattle.worst_inputs.specs.declared.bounder.Bounded.{Bounded}
use Rattle.worst_inputs.specs.declared.bounder.Bounded.TheVariants.{At, Left}
use Rattle.worst_inputs.specs.Areas.{Area, IsInside, IsPoint, IsPart}
use Rattle.worst_inputs.specs.Bounders.{IsBounding, CostsAtMost, CostsExactly}
use Rattle.program_bounder.specs.declared.bounder.PathBounder.{PathBounder}
use Rattle.program_bounder.specs.InputRows.{with_ranges}
use Rattle.program_bounder.specs.InputCosts.{RunsCost}
use Rattle.program_bounder.specs.PathBounds.{HasPathBoundAt, path_answers}
use Rattle.program_bounder.specs.PathBounding.{given_program, Suits, path_bounding}
use Rattle.program_bounder.specs.InputRowLaws.{narrower, inside_within, starts_same, lone_rows}
use Rattle.program_bounder.specs.FoundBoundLaws.{found_bounds, lone_costs}

-- a part has as many ranges
as_many : (area part : Area) → IsPart area part → length part ≡ length area
as_many [] [] is = refl
as_many [] (p ∷ part) is = absurd is
as_many (range ∷ area) [] is = absurd is
as_many (range ∷ area) (p ∷ part) is = ap suc (as_many area part is.1)

told_is : (a b : Reported) → Told a ≡ Told b → a ≡ b
told_is a b e = cc

left_is : (s t : ℕ) → Unbounded s ≡ Unbounded t → s ≡ t
left_is s t e = cc

told_not : (report : Reported) (scope : ℕ) → Told report ≡ Unbounded scope → ⊥
told_not report scope e = cc

-- two path bounds of one report
one_of : (bound : Option (ℕ × BoundWord)) (first second : ℕ) → IsOf (λ b. b.0 ≡ first) bound
    → IsOf (λ b. b.0 ≡ second) bound → first ≡ second
one_of None first second h k = absurd h
one_of (Some b) first second h k = sym h ∙ k

under : (bound : Option (ℕ × BoundWord)) (cost most : ℕ) → IsOf (λ b. cost ≤ b.0) bound → IsOf (λ b. b.0 ≡ most) bound
    → cost ≤ most
under None cost most h k = absurd h
under (Some b) cost most h k = subst (λ (n : ℕ). cost ≤ n) k h

module _ (b : PathBounder) where
  abbrev program : NumberedProgram
  program = given_program b

  abbrev rows : List InputRow
  rows = b.rows.items

  abbrev Costs : List ℤ → ℕ → Type 0
  Costs = RunsCost program b.graph rows b.costs

  abbrev Answered : Area → Bounded → Type 0
  Answered = path_answers program b.graph rows b.costs b.policy b.turns b.pivots

  pub part_suits : (area part : Area) → Suits b area → IsPart area part → Suits b part
  part_suits area part suits is = record {
    promises = suits.promises;
    long = as_many area part is ∙ suits.long;
    inputs = narrower (seen b.checked) rows area part is suits.inputs;
    keeps = suits.keeps;
    graph_is = suits.graph_is;
    outline_kept = suits.outline_kept;
    outline_is = suits.outline_is;
    named = suits.named;
    costs_are = suits.costs_are;
    turns = suits.turns;
  }

  pub one_answer : (area : Area) (first second : Bounded) → Suits b area → Answered area first → Answered area second
      → first ≡ second
  one_answer area first second suits = from first second
    where
      same : (a c : Answer)
          → IsBoundedAnalysis program b.graph (with_ranges rows area) b.costs b.policy b.turns b.pivots a
          → IsBoundedAnalysis program b.graph (with_ranges rows area) b.costs b.policy b.turns b.pivots c → a ≡ c
      same a c = suits.promises.one program b.graph (with_ranges rows area) b.costs b.policy b.turns b.pivots a c

      from : (first second : Bounded) → Answered area first → Answered area second → first ≡ second
      from (At first) (At second) h k =
          let one : h.report ≡ k.report = told_is h.report k.report (same (Told h.report) (Told k.report) h.found k.found) in
          ap At (one_of k.report.path_bound first second (subst (λ (r : Reported). HasPathBound (λ b. b.0 ≡ first) r) one h.is) k.is)
      from (At first) (Left scope) h k = absurd (told_not h.report scope (same (Told h.report) (Unbounded scope) h.found k))
      from (Left scope) (At second) h k = absurd (told_not k.report scope (same (Told k.report) (Unbounded scope) k.found h))
      from (Left scope) (Left other) h k = ap Left (left_is scope other (same (Unbounded scope) (Unbounded other) h k))

  module _ (area : Area) (suits : Suits b area) (input : List ℤ) where
    -- a run with the input costs one number
    one_cost : (cost other : ℕ) → Costs input cost → Costs input other → cost ≡ other
    one_cost cost other h k =
        let same = suits.promises.ends program (start program rows (words_of rows input)) h.runs.run k.runs.run h.outcome k.outcome h.runs.ends k.runs.ends in
        h.is ∙ ap (cost_of (node_cost program b.costs)) same.same_nodes ∙ sym k.is

    -- a run from a start of the rows with the area's ranges is one of the rows
    moved : (begin : Moment) (trace : List ℕ) (outcome : Outcome)
        → begin ≡ start program (with_ranges rows area) (words_of (with_ranges rows area) input)
        → (runs : Runs program b.graph.nodes begin trace outcome) → Costs input (cost_of (node_cost program b.costs) runs.run)
    moved begin trace outcome is runs = record {
      trace = trace;
      outcome = outcome;
      runs = record {
        run = runs.run;
        ends = subst (λ (m : Moment). Ends program m runs.run outcome) (is ∙ starts_same program rows area input suits.long) runs.ends;
        numbers = runs.numbers;
      };
      is = refl;
    }

    pub bounds : (bound : ℕ)
        → HasPathBoundAt program b.graph (with_ranges rows area) b.costs b.policy b.turns b.pivots bound
        → IsInside area input → CostsAtMost Costs input bound
    bounds bound h inside =
        let one = found_bounds program b.graph (with_ranges rows area) b.costs b.policy b.turns b.pivots h.report h.found suits.promises.right input (inside_within rows area input suits.long inside) in
        let cost : ℕ = cost_of (node_cost program b.costs) one.runs.run in
        let has : Costs input cost = moved (start program (with_ranges rows area) (words_of (with_ranges rows area) input)) one.trace one.outcome refl one.runs in
        let low : cost ≤ bound = under h.report.path_bound cost bound one.path h.is in
        record { some = (cost, has); most = λ other is. subst (λ (n : ℕ). n ≤ bound) (one_cost cost other has is) low }

    pub point_exact : (bound : ℕ) → IsPoint area
        → HasPathBoundAt program b.graph (with_ranges rows area) b.costs b.policy b.turns b.pivots bound
        → IsInside area input → CostsExactly Costs input bound
    point_exact bound point h inside =
        let lone : AreLone (with_ranges rows area) = lone_rows rows area point in
        let one = lone_costs program b.graph (with_ranges rows area) b.costs b.policy b.turns b.pivots h.report h.found suits.promises.exact suits.promises.agree lone in
        let begin : Moment = start program (with_ranges rows area) (words_of (with_ranges rows area) input) in
        let only = (alone program (with_ranges rows area) lone).only begin (record { numbers = input; within = inside_within rows area input suits.long inside; starts = refl }) in
        let has = moved (lone_start program (with_ranges rows area)) one.trace one.outcome (sym only) one.runs in
        let same : cost_of (node_cost program b.costs) one.runs.run ≡ bound = one_of h.report.path_bound (cost_of (node_cost program b.costs) one.runs.run) bound one.path h.is in
        let is : Costs input bound = subst (λ (n : ℕ). Costs input n) same has in
        record { is = is; only = λ other k. one_cost other bound k is }

-- path bounds keep the laws
pub path_bounds_are_bounding : (b : PathBounder) → IsBounding (path_bounding b)
path_bounds_are_bounding b = record {
  part_suits = part_suits b;
  one_answer = one_answer b;
  bounds = λ area bound input suits h inside. bounds b area suits input bound h inside;
  point_exact = λ area bound input suits point h inside. point_exact b area suits input bound point h inside;
}
