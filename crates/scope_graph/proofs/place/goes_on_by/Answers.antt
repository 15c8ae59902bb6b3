-- What is left to show of `goes_on_by`.
use Rattle.std.proofs.Common.{sym, ◌∙◌, arith}
use Rattle.std.proofs.lemmas.Bool.{false≢true}
use Rattle.std.proofs.lemmas.Bool.Decides.{Decides-eqb}
use Rattle.std.proofs.lemmas.Slice.Eq.{starts_is}
use Rattle.scope_graph.proofs.Placed.{call_from, from_call}
use Rattle.scope_graph.proofs.place.goes_on_by.Goals as goal

pub returns-then-path-prefix-clause-no : goal.returns-then-path-prefix-clause-no
returns-then-path-prefix-clause-no c = λ e extends. let cut = from_call c.args.path.now c.args.prefix.now c.args.call extends in let low = cut.0 in let high = c.if-path-prefix.true in omega arith

pub returns-then-path-prefix-2-clause-no : goal.returns-then-path-prefix-2-clause-no
returns-then-path-prefix-2-clause-no c = λ e extends. let cut = from_call c.args.path.now c.args.prefix.now c.args.call extends in c.if-path-prefix-2.true cut.1

pub returns-clause-yes : goal.returns-clause-yes
returns-clause-yes c = λ e.
    let cut = (starts_is Decides-eqb c.args.path.now c.args.prefix.now c.starts_with.result c.starts_with.ensures.value).0 e in
    call_from c.args.path.now c.args.prefix.now c.args.call _ cut c.if-path-prefix.false c.if-path-prefix-2.false

pub returns-clause-no : goal.returns-clause-no
returns-clause-no c = λ e extends.
    let cut = from_call c.args.path.now c.args.prefix.now c.args.call extends in
    false≢true (sym e ∙ (starts_is Decides-eqb c.args.path.now c.args.prefix.now c.starts_with.result c.starts_with.ensures.value).1 cut.2.0 cut.2.1)
