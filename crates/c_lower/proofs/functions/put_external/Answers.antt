-- What is known after a function.
use Rattle.std.proofs.Common.{◌≡◌, List, map, ap, sym, ◌∙◌}
use Rattle.c_unit.specs.declared.external.Parameter.{Parameter}
use Rattle.c_unit.specs.declared.statement.Stmt.{Stmt}
use Rattle.c_unit.specs.Tree.{ExternalTree, Definition, external_of, statement_of}
use Rattle.c_rules.specs.Units.{external_after}
use Rattle.c_lower.specs.Heads.{known_at}
use Rattle.c_lower.proofs.functions.put_external.Goals as goal

pub returns-in_ok-next-in-Define-clause-known : goal.returns-in_ok-next-in-Define-clause-known
returns-in_ok-next-in-Define-clause-known c = λ file here.
    let d = c.in-Define in
    let tree : external_of c.args.external.now ≡ Definition d.first d.given d.name c.deref-in-Define.result.now (map statement_of c.deref-in-Define-2.result.now) =
    ap external_of d.is ∙ ap (λ (ps : List Parameter). Definition d.first d.given d.name ps (map statement_of d.body.items)) (sym c.deref-in-Define.ensures.value)
    ∙ ap (λ (ss : List Stmt). Definition d.first d.given d.name c.deref-in-Define.result.now (map statement_of ss)) (sym c.deref-in-Define-2.ensures.value) in
    c.in_ok-next-in-Define.ensures.known file here ∙ ap (λ (x : ExternalTree). known_at c.args.scopes.now.words (external_after file x).scope) (sym tree)
