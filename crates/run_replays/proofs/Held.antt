-- What is told of a run, from how it went.
--   passed_low    the node that is passed is one of the outline
--   told_stop     a run that comes to a node too often stops there
--   told_end      what is told of a run that is over
--   some_place    where one line passes, its place is found
--   inside_more, all_inside   values that are inside their ranges one by one, and the first that is not
--   words_more    the word of one value more
use Rattle.std.proofs.Common.{◌≡◌, ◌<◌, ◌≤◌, ◌+◌, ◌==◌, ℕ, zero, suc, ℤ, List, [], ◌∷◌, ◌++◌, Bool, true, cond, Option, Some, None, Result, Ok, Err, get_or, length, map, reverse, take, inl, inr, lt-ltb, ⊎_elim, add-one, refl, sym, ap, ◌∙◌, subst, arith}
use Rattle.std.specs.Prelude.{slice_index, position, count_by, not}
use Rattle.std.specs.List.{position_or_len}
use Rattle.std.proofs.lemmas.Bool.{eq-eqb, cases_lt, cond-true}
use Rattle.std.proofs.lemmas.List.{length-map}
use Rattle.std.proofs.lemmas.List.Sums.{sum_by-cons, sum_by_push}
use Rattle.std.proofs.lemmas.Option.{none-some, slice_get_within, slice_get-get_or, same_Some}
use Rattle.lists.specs.TestLaws.{by_test}
use Rattle.alf_ops.specs.declared.history.RunFault.{RunFault}
use Rattle.alf_check.specs.CheckedPrograms.{NumberedProgram}
use Rattle.alf_check.specs.declared.rows.InputRow.{InputRow}
use Rattle.flow_graph.specs.Numbering.{GraphParts}
use Rattle.alf_runs.specs.Steps.{Moment}
use Rattle.alf_ops.specs.TwosComplement.{word}
use Rattle.alf_runs.specs.Starts.{IsWithin, AreWithin, words_of}
use Rattle.domain_core.specs.Outlines.{Outlined, shape_of}
use Rattle.domain_core.specs.OutlineOf.{IsOutlineOf}
use Rattle.domain_core.specs.Recordings.{Recording}
use Rattle.scope_graph.specs.Placing.{place_of, plan_of}
use Rattle.flow_facts.specs.Facts.{places}
use Rattle.flow_facts.specs.Reports.{Reported}
use Rattle.report_soundness.specs.ReportTold.{costs_of}
use Rattle.report_objections.specs.declared.objection.Objection.TheVariants.{NoFact}
use Rattle.report_objections.specs.Shaping.{tells_total}
use Rattle.report_objections.specs.Objecting.{first_line}
use Rattle.report_objections.specs.CountLaws.{most_of}
use Rattle.run_replays.specs.declared.walked.RunBook.{RunBook}
use Rattle.run_replays.specs.Replays.{Told, IsInside, TellEnd, TellsReplayedRun, stops, ends}
use Rattle.run_replays.specs.Walks.{IsPassed, IsOver}
use Rattle.run_replays.proofs.Allowing.{are_within}

-- 1 where it is so, and 0 where it is not
abbrev bit : Bool → ℕ
bit v = cond v 1 0

-- where none passes, none is counted
none_counted : {A : Type 0} (p : A → Bool) (xs : List A) → length xs ≤ position_or_len p xs → count_by p xs ≡ 0
none_counted p [] past = refl
none_counted p (x ∷ xs) past =
    let all : count_by p (x ∷ xs) ≡ bit (p x) + count_by p xs = sum_by-cons (λ y. bit (p y)) x xs in
    by_test (p x)
    (λ is. absurd (let here : position_or_len p (x ∷ xs) ≡ 0 = ap (λ (b : Bool). cond (not b) (1 + position_or_len p xs) 0) is in omega (arith, past, here)))
    (λ clear.
    let zero_here : bit (p x) ≡ 0 = ap (λ (v : Bool). bit v) clear in
    let next : position_or_len p (x ∷ xs) ≡ 1 + position_or_len p xs = ap (λ (b : Bool). cond (not b) (1 + position_or_len p xs) 0) clear in
    let later = none_counted p xs (omega (arith, past, next)) in
    omega (arith, all, zero_here, later))

-- where one passes, its place is found
pub some_place : {A : Type 0} (p : A → Bool) (xs : List A) → count_by p xs ≡ 1 → position p xs ≡ None → ⊥
some_place p xs one none = ⊎_elim
    (λ (low : position_or_len p xs < length xs). none-some (position_or_len p xs) (sym none ∙ cond-true _ _ None (lt-ltb (position_or_len p xs) (length xs) low)))
    (λ (past : length xs ≤ position_or_len p xs). let zero_of = none_counted p xs past in omega (arith, zero_of, one))
    (cases_lt (position_or_len p xs) (length xs))

module _ (program : NumberedProgram) (graph : GraphParts) (o : Outlined) (begin : Moment) (report : Reported) (visits : List ℕ) (outline : IsOutlineOf (plan_of graph) (shape_of o))
    (long : length visits ≡ length o.nodes) (most : (n : ℕ) → n < length o.nodes → slice_index visits n ≡ most_of n report.facts) where
  -- the node that is passed is one of the outline
  pub passed_low : (n : ℕ) → IsPassed program graph begin visits n → n < length o.nodes
  passed_low n passed =
      let there : n < length graph.nodes = slice_get_within graph.nodes n passed.reaches.node passed.reaches.number in
      let count : length o.nodes ≡ length graph.nodes = sym (length-map o.nodes (λ row. row.scope)) ∙ outline.one_each ∙ length-map graph.nodes place_of in
      omega (arith, there, count)

  -- a run that comes to a node too often stops there
  pub told_stop : (n place : ℕ) → IsPassed program graph begin visits n
      → position (λ f. tells_total n f) report.facts ≡ Some place
      → TellsReplayedRun program graph.nodes begin (shape_of o) (costs_of o) report (Err (NoFact (first_line report + place)))
  told_stop n place passed is =
      let line = most n (passed_low n passed) in
      let full = passed.full in
      let more : places n (passed.before ++ n ∷ []) ≡ places n passed.before + bit (n == n) = sum_by_push (λ m. bit (n == m)) passed.before n in
      let one : bit (n == n) ≡ 1 = ap bit (eq-eqb n n refl) in
      stops (NoFact (first_line report + place)) (record {
        before = passed.before;
        node = n;
        place = place;
        reaches = passed.reaches;
        within = are_within o report.facts visits passed.before long most passed.within;
        above = omega (arith, line, full, more, one);
        place_is = is;
        is = refl;
      }) refl

  -- what is told of a run that is over
  pub told_end : {R B : Type 0} (z : Recording R B) (run : RunBook B) (told : Told) (over : IsOver z program graph o begin visits run)
      → TellEnd (shape_of o) (costs_of o) report (reverse (run.last ∷ over.past)) run.fault told → TellsReplayedRun program graph.nodes begin (shape_of o) (costs_of o) report told
  told_end z run told over tells =
      ends (reverse (run.last ∷ over.past)) over.outcome over.runs (are_within o report.facts visits (reverse (run.last ∷ over.past)) long most over.within)
      (subst (λ (fault : Option RunFault). TellEnd (shape_of o) (costs_of o) report (reverse (run.last ∷ over.past)) fault told) over.fault tells)

-- values that are inside their ranges one by one
pub all_inside : (rows : List InputRow) (values : List ℤ) → length values ≡ length rows
    → ((k : ℕ) → k < length rows → IsInside rows values k) → AreWithin rows values
all_inside [] [] same inside = tt
all_inside [] (v ∷ values) same inside = absurd (omega (arith, same))
all_inside (r ∷ rows) [] same inside = absurd (omega (arith, same))
all_inside (r ∷ rows) (v ∷ values) same inside =
    let here = inside 0 (omega arith) in
    let row : here.row ≡ r = sym (same_Some r here.row here.row_is) in
    let value : here.value ≡ v = sym (same_Some v here.value here.value_is) in (
      subst (λ (x : InputRow). IsWithin x v) row (subst (λ (y : ℤ). IsWithin here.row y) value here.within),
      all_inside rows values (omega (arith, same)) (λ k low. let is = inside (suc k) (omega (arith, low)) in record { row = is.row; value = is.value; row_is = is.row_is; value_is = is.value_is; within = is.within }),
    )

-- one value more
pub inside_more : (rows : List InputRow) (values : List ℤ) (k : ℕ) (d : InputRow) (e : ℤ) → k < length rows
    → k < length values → IsWithin (get_or rows k d) (get_or values k e)
    → ((j : ℕ) → j < k → IsInside rows values j) → (j : ℕ) → j < k + 1 → IsInside rows values j
inside_more rows values k d e low there within before j less =
    elim (cases_lt j k) [
      | inl earlier ↦ before j earlier
      | inr later ↦ subst (λ (i : ℕ). IsInside rows values i) (one_number k j less later)
          (record { row = get_or rows k d; value = get_or values k e; row_is = slice_get-get_or rows k d low; value_is = slice_get-get_or values k e there; within = within })
    ]
  where
    one_number : (n m : ℕ) → m < n + 1 → n ≤ m → n ≡ m
    one_number n m below above = omega (arith, below, above)

words_next : (rows : List InputRow) (values : List ℤ) (k : ℕ) (d : InputRow) (e : ℤ) → k < length rows
    → k < length values
    → words_of (take (suc k) rows) (take (suc k) values) ≡ words_of (take k rows) (take k values) ++ word (get_or rows k d).size (get_or values k e) ∷ []
words_next [] values k d e low there = absurd (omega (arith, low))
words_next (row ∷ rows) [] k d e low there = absurd (omega (arith, there))
words_next (row ∷ rows) (value ∷ values) zero d e low there = refl
words_next (row ∷ rows) (value ∷ values) (suc k) d e low there =
    ap (λ (ws : List ℕ). word row.size value ∷ ws) (words_next rows values k d e (omega (arith, low)) (omega (arith, there)))

-- the word of one value more
pub words_more : (rows : List InputRow) (values : List ℤ) (k : ℕ) (d : InputRow) (e : ℤ) → k < length rows
    → k < length values
    → words_of (take (k + 1) rows) (take (k + 1) values) ≡ words_of (take k rows) (take k values) ++ word (get_or rows k d).size (get_or values k e) ∷ []
words_more rows values k d e low there = ap (λ (n : ℕ). words_of (take n rows) (take n values)) (add-one k) ∙ words_next rows values k d e low there
