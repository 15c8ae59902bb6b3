-- Runs, step by step.
use Rattle.std.proofs.Common.{◌≡◌, ◌↔◌, ◌⊎◌, ◌+◌, ◌-◌, ◌<◌, ◌≤◌, ℕ, zero, suc, List, [], ◌∷◌, ◌++◌, length, refl, sym, ap, ◌∙◌, subst, inl, inr, ⊎_elim, zero-add, suc-add, append-nil, arith}
use Rattle.std.proofs.lemmas.Bool.{cases_lt}
use Rattle.alf_check.specs.CheckedPrograms.{NumberedProgram}
use Rattle.flow_graph.specs.Nodes.{Node}
use Rattle.alf_runs.specs.Outcomes.{Outcome}
use Rattle.alf_runs.specs.Steps.{Moment, At, Over, step}
use Rattle.alf_runs.specs.Runs.{after, trace, Ends, IsLonger}
use Rattle.alf_runs.specs.RunLaws.{GoesOnFrom, IsSameEnd, EndsWithin}

-- t + u steps are t steps and then u
pub after_more : (program : NumberedProgram) (t u : ℕ) (moment : Moment)
    → after program (t + u) moment ≡ after program u (after program t moment)
after_more program zero u moment = ap (λ n. after program n moment) (zero-add u)
after_more program (suc t) u moment = ap (λ n. after program n moment) (suc-add t u) ∙ after_more program t u (step program moment)

-- at its end a run stays
pub over_stays : (program : NumberedProgram) (u : ℕ) (outcome : Outcome) → after program u (Over outcome) ≡ Over outcome
over_stays program zero outcome = refl
over_stays program (suc u) outcome = over_stays program u outcome

-- and has no more nodes
over_passes : (program : NumberedProgram) (u : ℕ) (outcome : Outcome) → trace program u (Over outcome) ≡ []
over_passes program zero outcome = refl
over_passes program (suc u) outcome = refl

-- the nodes of t + u steps are those of t steps and then of u
trace_more : (program : NumberedProgram) (t u : ℕ) (moment : Moment)
    → trace program (t + u) moment ≡ trace program t moment ++ trace program u (after program t moment)
trace_more program zero u moment = ap (λ n. trace program n moment) (zero-add u)
trace_more program (suc t) u (At node history) =
    ap (λ n. trace program n (At node history)) (suc-add t u) ∙ ap (λ (nodes : List Node). node ∷ nodes) (trace_more program t u (step program (At node history)))
trace_more program (suc t) u (Over outcome) =
    ap (λ n. trace program n (Over outcome)) (suc-add t u) ∙ sym (ap (trace program u) (over_stays program t outcome) ∙ over_passes program u outcome)

pub goes_on_from : (program : NumberedProgram) (t u : ℕ) (moment : Moment) → GoesOnFrom program t u moment
goes_on_from program t u moment = record { stands = after_more program t u moment; passes = trace_more program t u moment }

-- what is over stays
pub stays_over : (program : NumberedProgram) (t u : ℕ) (moment : Moment) (outcome : Outcome)
    → after program t moment ≡ Over outcome → after program (t + u) moment ≡ Over outcome
stays_over program t u moment outcome over = after_more program t u moment ∙ ap (after program u) over ∙ over_stays program u outcome

-- ---- one end

-- a run that is over after t steps has the same nodes and outcome after more of them
over_later : (program : NumberedProgram) (t u : ℕ) (moment : Moment) (outcome other : Outcome) → t ≤ u
    → after program t moment ≡ Over outcome → after program u moment ≡ Over other → IsSameEnd (trace program t moment) (trace program u moment) outcome other
over_later program t u moment outcome other low first second =
    let sum : t + (u - t) ≡ u = omega arith in
    let later : after program u moment ≡ Over outcome = subst (λ n. after program n moment ≡ Over outcome) sum (stays_over program t (u - t) moment outcome first) in
    record {
      same_nodes = sym (
          sym (ap (λ n. trace program n moment) sum)
          ∙ trace_more program t (u - t) moment
          ∙ ap (λ (nodes : List Node). trace program t moment ++ nodes) (ap (trace program (u - t)) first ∙ over_passes program (u - t) outcome)
          ∙ append-nil (trace program t moment)
          );
      same_outcome = cc;
    }

pub one_end : (program : NumberedProgram) (start : Moment) (nodes others : List Node) (outcome other : Outcome)
    → Ends program start nodes outcome → Ends program start others other → IsSameEnd nodes others outcome other
one_end program start nodes others outcome other end further = ⊎_elim
    (λ lt. let same = over_later program end.steps further.steps start outcome other (omega arith) end.over further.over in
    record { same_nodes = sym end.passes ∙ same.same_nodes ∙ further.passes; same_outcome = same.same_outcome })
    (λ le. let same = over_later program further.steps end.steps start other outcome le further.over end.over in
    record { same_nodes = sym end.passes ∙ sym same.same_nodes ∙ further.passes; same_outcome = sym same.same_outcome })
    (cases_lt end.steps further.steps)

-- ---- lengths

-- a run that is over is not longer than any number
not_longer : (program : NumberedProgram) (n : ℕ) (outcome : Outcome) → IsLonger program (Over outcome) n → ⊥
not_longer program n outcome longer = let over = over_stays program n outcome in let stands = longer.stands in cc

-- a node that comes after n steps is among the nodes of the run
passes_longer : (program : NumberedProgram) (n t : ℕ) (moment : Moment) (outcome : Outcome) → IsLonger program moment n
    → after program t moment ≡ Over outcome → n < length (trace program t moment)
passes_longer program n zero moment outcome longer over = absurd (not_longer program n outcome (subst (λ m. IsLonger program m n) over longer))
passes_longer program zero (suc t) (At node history) outcome longer over = omega arith
passes_longer program (suc n) (suc t) (At node history) outcome longer over =
    let more = passes_longer program n t (step program (At node history)) outcome (record { node = longer.node; history = longer.history; stands = longer.stands }) over in omega arith
passes_longer program n (suc t) (Over other) outcome longer over = absurd (not_longer program n other longer)

-- a run with more than n nodes stands at one after n steps
longer_within : (program : NumberedProgram) (n t : ℕ) (moment : Moment) → n < length (trace program t moment)
    → IsLonger program moment n
longer_within program n zero moment low = absurd (omega arith)
longer_within program zero (suc t) (At node history) low = record { node = node; history = history; stands = refl }
longer_within program (suc n) (suc t) (At node history) low =
    let more = longer_within program n t (step program (At node history)) (omega arith) in record { node = more.node; history = more.history; stands = more.stands }
longer_within program n (suc t) (Over outcome) low = absurd (omega arith)

pub ends_at_length : (program : NumberedProgram) (start : Moment) (nodes : List Node) (outcome : Outcome) (n : ℕ)
    → Ends program start nodes outcome → IsLonger program start n ↔ (n < length nodes)
ends_at_length program start nodes outcome n end = (
  λ longer. subst (λ (passed : List Node). n < length passed) end.passes (passes_longer program n end.steps start outcome longer end.over),
  λ low. longer_within program n end.steps start (subst (λ (passed : List Node). n < length passed) (sym end.passes) low),
)

-- a run ends with at most n nodes, or has more
pub ends_or_goes_on : (program : NumberedProgram) (n : ℕ) (start : Moment)
    → EndsWithin program start n ⊎ IsLonger program start n
ends_or_goes_on program n (Over outcome) = inl (record { nodes = []; outcome = outcome; ends = record { steps = 0; over = refl; passes = refl }; few = omega arith })
ends_or_goes_on program zero (At node history) = inr (record { node = node; history = history; stands = refl })
ends_or_goes_on program (suc n) (At node history) = ⊎_elim
    (λ (within : EndsWithin program (step program (At node history)) n). inl (record {
      nodes = node ∷ within.nodes;
      outcome = within.outcome;
      ends = record { steps = suc within.ends.steps; over = within.ends.over; passes = ap (λ (nodes : List Node). node ∷ nodes) within.ends.passes };
      few = (let few = within.few in omega arith);
    }))
    (λ (longer : IsLonger program (step program (At node history)) n). inr (record { node = longer.node; history = longer.history; stands = longer.stands }))
    (ends_or_goes_on program n (step program (At node history)))
