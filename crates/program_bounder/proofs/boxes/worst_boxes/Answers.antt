-- The ranges that are searched are those of the rows.
use Rattle.std.proofs.Common.{IfOk, IfErr, All, sym, ap, subst, ◌∙◌}
use Rattle.worst_inputs.specs.Areas.{Area, IsRange}
use Rattle.worst_inputs.specs.Searches.{found_of, IsSearched, IsFaultOf}
use Rattle.worst_inputs.specs.Promises.{Bounds}
use Rattle.program_bounder.specs.InputRows.{ranges_of}
use Rattle.program_bounder.specs.PathBounding.{Suits, path_bounding}
use Rattle.program_bounder.proofs.boxes.worst_boxes.Goals as goal

pub search-requires-clause-suits : goal.search-requires-clause-suits
search-requires-clause-suits c =
    let same = c.deref.ensures.value ∙ c.in_ok-ranges.ensures ∙ ap ranges_of c.as_slice-rows.ensures.value in
    subst (λ (a : Area). Suits c.args.bounder.now a) (sym same) c.own_ranges_suit.ensures.suits

pub search-requires-clause-ranges : goal.search-requires-clause-ranges
search-requires-clause-ranges c =
    let same = c.deref.ensures.value ∙ c.in_ok-ranges.ensures ∙ ap ranges_of c.as_slice-rows.ensures.value in
    subst (λ (a : Area). All IsRange a) (sym same) c.own_ranges_suit.ensures.ranges

pub returns : goal.returns
returns c =
    let b = c.args.bounder.now in
    let same = c.deref.ensures.value ∙ c.in_ok-ranges.ensures ∙ ap ranges_of c.as_slice-rows.ensures.value in
    record {
      found = subst (λ (a : Area). IfOk c.search.result (λ found. IsSearched (path_bounding b).answers a c.args.splits (found_of found))) same c.search.ensures.found;
      bounds = subst (λ (a : Area). IfOk c.search.result (λ found. Bounds (path_bounding b).costs a (found_of found))) same c.search.ensures.bounds;
      fault = subst (λ (a : Area). IfErr c.search.result (IsFaultOf (path_bounding b).answers a c.args.splits)) same c.search.ensures.fault;
      one = c.own_search_is_one.ensures;
      unchanged = c.search.ensures.unchanged;
    }
