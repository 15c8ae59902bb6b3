-- Each function that is called has a row, and there are not too many.
use Rattle.std.proofs.Common.{◌≡◌, ◌<◌, ℕ, List, map, length, ap, sym, ◌∙◌, subst, rules}
use Rattle.std.proofs.lemmas.List.{length-map}
use Rattle.c_unit.specs.declared.external.External.{External}
use Rattle.c_unit.specs.Tree.{external_of}
use Rattle.c_unit.specs.Units.{unit_of}
use Rattle.c_rules.specs.Recursion.{rows_of}
use Rattle.graph_walks.specs.Calls.{CallsWithin, calls_of}
use Rattle.c_check.proofs.Rows.{row_count, calls_within}
use Rattle.c_check.proofs.ranks.function_ranks.Goals as goal

pub call_ranks-requires-clause-within : goal.call_ranks-requires-clause-within
call_ranks-requires-clause-within c =
    let words = c.args.functions.now.words in
    let names = c.args.functions.now.names in
    let table : calls_of c.deref-in-Ok.result.now ≡ rows_of words names (unit_of c.args.unit.now).externals =
    ap calls_of c.deref-in-Ok.ensures.value ∙ c.in-Ok.ensures ∙ ap (λ (xs : List External). rows_of words names (map external_of xs)) c.deref.ensures.value in
    subst (λ (calls : List (List ℕ)). CallsWithin calls) (sym table) (calls_within words names (unit_of c.args.unit.now).externals c.requires.names)

pub call_ranks-requires-clause-count : goal.call_ranks-requires-clause-count
call_ranks-requires-clause-count c =
    let words = c.args.functions.now.words in
    let names = c.args.functions.now.names in
    let table : calls_of c.deref-in-Ok.result.now ≡ rows_of words names (unit_of c.args.unit.now).externals =
    ap calls_of c.deref-in-Ok.ensures.value ∙ c.in-Ok.ensures ∙ ap (λ (xs : List External). rows_of words names (map external_of xs)) c.deref.ensures.value in
    let same : length c.deref-in-Ok.result.now ≡ length c.names.result.now =
    sym (length-map c.deref-in-Ok.result.now (λ row. row.items)) ∙ ap length table ∙ row_count words names (unit_of c.args.unit.now).externals
    ∙ sym (ap length (c.names.ensures ∙ c.requires.names)) in
    let few : length c.names.result.now < 4294967296 = search rules in
    rw same few
