-- Functions that are ranked have ranks, and a cycle of calls is told by the names of its functions.
use Rattle.std.proofs.Common.{ℕ, List, map, slice_index_or, ap, sym, ◌∙◌, subst}
use Rattle.c_unit.specs.Units.{Word, unit_of}
use Rattle.c_rules.specs.Names.{text_at}
use Rattle.c_rules.specs.Recursion.{calls_of}
use Rattle.c_rules.specs.Programs as checks
use Rattle.c_rules.specs.Programs.{Refuses}
use Rattle.graph_walks.specs.declared.fault.CallFault.{CallFault}
use Rattle.graph_walks.specs.Calls.{IsFaultOf}
use Rattle.c_check.proofs.checking.check_calls.Goals as goal

pub returns-in-Ok-names_along-clause-told : goal.returns-in-Ok-names_along-clause-told
returns-in-Ok-names_along-clause-told c = λ root.
    let unit = unit_of c.args.unit.now in
    let all = c.args.functions.now in
    let named =
    c.in-Ok-names_along.ensures ∙ ap (λ (path : List ℕ). map (λ n. text_at all.words (slice_index_or all.names n 0)) path) c.deref.ensures.value
    ∙ ap (λ (words : List Word). map (λ n. text_at words (slice_index_or all.names n 0)) c.in-Err-Cycle.path.items) c.requires.words
    ∙ ap (λ (names : List ℕ). map (λ n. text_at unit.words (slice_index_or names n 0)) c.in-Err-Cycle.path.items) c.requires.names in
    let cycle = subst (λ (fault : CallFault). IsFaultOf (calls_of unit) fault) c.in-Err-Cycle.field-0-is c.in-Err-Cycle.ensures.cycle in
    subst (λ (names : List (List ℕ)). Refuses unit root (checks.Recursion names)) (sym named) (checks.by_cycle {path = c.in-Err-Cycle.path.items} c.requires.sound cycle)

pub returns-in-Ok-clause-ranked : goal.returns-in-Ok-clause-ranked
returns-in-Ok-clause-ranked c = (c.in-Ok._ranks.items, c.in-Ok.ensures.ranked)

pub returns-in-Ok-clause-acyclic : goal.returns-in-Ok-clause-acyclic
returns-in-Ok-clause-acyclic c =
    c.ranked_calls_have_no_cycle.ensures (calls_of (unit_of c.args.unit.now)) c.in-Ok._ranks.items c.in-Ok.ensures.ranked
