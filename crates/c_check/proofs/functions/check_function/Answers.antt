-- A function whose head has no fault.
use Rattle.std.proofs.Common.{◌≡◌, ◌++◌, false, List, [], ◌∷◌, map, Err, ap, sym, ◌∙◌, subst}
use Rattle.std.specs.Prelude.{⊤}
use Rattle.c_unit.specs.Tree.{Definition, statement_of, statements_of}
use Rattle.c_unit.specs.Units.{Word}
use Rattle.c_rules.specs.Faults.{Fault}
use Rattle.c_rules.specs.Names.{Scope, innermost}
use Rattle.c_rules.specs.Calls.{is_defined}
use Rattle.c_rules.specs.Statements.{in_function, statements_faults}
use Rattle.c_rules.specs.Units.{function_of, external_faults}
use Rattle.c_scopes.specs.Views.{Known, others}
use Rattle.c_faults.specs.Tells.{Tells}
use Rattle.c_faults.specs.Files.{head_faults}
use Rattle.c_check.specs.Progress.{file_at}
use Rattle.c_check.proofs.Definitions.{head_known, tells_after, body_faults, definition_parts}
use Rattle.c_check.proofs.functions.check_function.Goals as goal

pub check_body-requires : goal.check_body-requires
check_body-requires c =
    c.requires.words ∙ sym (ap (λ (known : Known). known.words) (c.in_default.ensures.known ∙ head_known c.args.scopes.now c.args.given c.args.name c.args.params.now c.requires.file))

pub returns-in-Err-check_body-clause-tells : goal.returns-in-Err-check_body-clause-tells
returns-in-Err-check_body-clause-tells c =
    let known = c.args.scopes.now in
    let names = c.args.functions.now.names in
    let file = file_at known names c.args.count in
    let o = c.args.given in
    let params = c.args.params.now in
    let body = map statement_of c.args.body.now in
    let new : is_defined known.words file.made c.args.name ≡ false =
    subst (λ (words : List Word). is_defined words file.made c.args.name ≡ false) c.requires.words (sym c.is_defined_before.ensures ∙ c.if-is_defined_before.false) in
    let begins = c.in_default.ensures.known ∙ head_known known o c.args.name params c.requires.file in
    tells_after {A = ⊤} (Err c.in-Err-check_body.stop) (head_faults known c.args.first o c.args.name params) (body_faults known.words names file c.args.first o c.args.name params body)
    (external_faults known.words names file (Definition c.args.first o c.args.name params body)) c.in_default.ensures.tells (definition_parts known.words names file c.args.first o c.args.name params body new)
    (subst (λ (at_body : Known). Tells {A = ⊤} (Err c.in-Err-check_body.stop) (statements_faults at_body.words names (in_function o) at_body.scopes (statements_of body))) begins c.in-Err-check_body.ensures.tells)

pub returns-clause-tells : goal.returns-clause-tells
returns-clause-tells c =
    let known = c.args.scopes.now in
    let names = c.args.functions.now.names in
    let file = file_at known names c.args.count in
    let o = c.args.given in
    let params = c.args.params.now in
    let body = map statement_of c.args.body.now in
    let new : is_defined known.words file.made c.args.name ≡ false =
    subst (λ (words : List Word). is_defined words file.made c.args.name ≡ false) c.requires.words (sym c.is_defined_before.ensures ∙ c.if-is_defined_before.false) in
    let begins = c.in_default.ensures.known ∙ head_known known o c.args.name params c.requires.file in
    let none = ap (λ (at_body : Known). statements_faults at_body.words names (in_function o) at_body.scopes (statements_of body)) (sym begins) ∙ c.in_default-check_body.ensures.tells in
    sym (definition_parts known.words names file c.args.first o c.args.name params body new)
    ∙ ap (λ (faults : List Fault). faults ++ body_faults known.words names file c.args.first o c.args.name params body) c.in_default.ensures.tells ∙ none

pub returns-clause-known : goal.returns-clause-known
returns-clause-known c =
    let known = c.args.scopes.now in
    let o = c.args.given in
    let begins = c.in_default.ensures.known ∙ head_known known o c.args.name c.args.params.now c.requires.file in
    let stays = c.in_default-check_body.ensures.stays in
    let ended = c.check_body.new.scopes in
    let words : ended.words ≡ known.words = stays.words ∙ ap (λ (k : Known). k.words) begins in
    let outer : others ended.scopes ≡ (record { token = c.args.name; bound = function_of o c.args.params.now } ∷ innermost known.scopes) ∷ [] = stays.outer ∙ ap (λ (k : Known). others k.scopes) begins in
    c.in_ok-leave.ensures
    ∙ ap (λ (w : List Word). record { words = w; scopes = others ended.scopes }) words ∙ ap (λ (s : List Scope). record { words = known.words; scopes = s }) outer
