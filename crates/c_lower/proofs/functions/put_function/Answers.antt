-- A function more.
use Rattle.std.proofs.Common.{List, [], ◌∷◌, ◌+◌, map, ap, sym, ◌∙◌, arith}
use Rattle.c_unit.specs.Tree.{statement_of, statements_of, Definition}
use Rattle.c_rules.specs.Names.{Scope}
use Rattle.c_rules.specs.Units.{external_after, with_parameters}
use Rattle.c_scopes.specs.Views.{Known}
use Rattle.c_meaning.specs.Objects.{functions_in}
use Rattle.c_lowered.specs.Programs.{lowered_function}
use Rattle.object_layout.specs.Views.{program_in}
use Rattle.c_lower.proofs.KnownHeads.{head_words}
use Rattle.c_lower.proofs.Walking.{entered_scopes, left_known, more_functions}
use Rattle.c_lower.proofs.functions.put_function.Goals as goal

pub function-requires-clause-words : goal.function-requires-clause-words
function-requires-clause-words c =
    c.requires.words ∙ sym (ap (λ (k : Known). k.words) c.in_ok-enter_function.ensures ∙ head_words c.args.given c.args.name c.args.parameters.now c.args.scopes.now)

pub returns-clause-funcs : goal.returns-clause-funcs
returns-clause-funcs c = λ file others here.
    let first = c.args.first in
    let params = c.args.parameters.now in
    let body = map statement_of c.args.body.now in
    let program = program_in c.args.code.table.now in
    let f = c.args.code.function in
    let after = external_after file (Definition first c.args.given c.args.name params body) in
    let scopes : List Scope = with_parameters [] params ∷ after.scope ∷ [] in
    let within = entered_scopes file first c.args.given c.args.name params body c.args.scopes.now c.enter_function.new.scopes here c.in_ok-enter_function.ensures in
    let made = c.in_ok-func.ensures.func c.args.name
    ∙ ap (λ (k : Known). lowered_function program f (record { name = c.args.name; result = c.args.given; parameters = params; scopes = k.scopes; body = statements_of body })) within in
    more_functions program f c.args.funcs.now.items c.push.new.self.items c.in_ok-func.func
    (record { name = c.args.name; result = c.args.given; parameters = params; scopes = scopes; body = statements_of body })
    (functions_in after others) (f + 1) c.in_ok-push.ensures.items made (omega arith)

pub returns-clause-known : goal.returns-clause-known
returns-clause-known c = λ file here.
    let first = c.args.first in
    let params = c.args.parameters.now in
    let body = map statement_of c.args.body.now in
    let after = external_after file (Definition first c.args.given c.args.name params body) in
    let within = entered_scopes file first c.args.given c.args.name params body c.args.scopes.now c.enter_function.new.scopes here c.in_ok-enter_function.ensures in
    c.in_ok-leave.ensures ∙ left_known c.enter_function.new.scopes c.function.new.scopes c.args.scopes.now.words (with_parameters [] params) after.scope c.in_ok-func.ensures.stays within
