-- A declaration, in the file's scope.
use Rattle.std.proofs.Common.{◌≡◌, List, OnOk, map, ap, ◌∙◌, subst}
use Rattle.c_unit.specs.declared.external.Declarator.{Declarator}
use Rattle.c_unit.specs.Tree.{declarator_of}
use Rattle.c_rules.specs.Faults.{Fault}
use Rattle.c_rules.specs.Units as units
use Rattle.c_scopes.specs.Views.{Known}
use Rattle.c_faults.specs.Tells.{Tells}
use Rattle.c_faults.specs.Files.{declarators_faults, with_declarators}
use Rattle.c_faults.specs.FileLaws.{known_at, declarators_known, faults_known}
use Rattle.c_check.specs.Progress.{file_at}
use Rattle.c_check.proofs.Definitions.{file_known}
use Rattle.c_check.proofs.externals.check_external.Goals as goal

pub returns-in-Declare-clause-tells : goal.returns-in-Declare-clause-tells
returns-in-Declare-clause-tells c =
    let known = c.args.scopes.now in
    let file = file_at known c.args.functions.now.names c.args.count in
    let first = c.in-Declare.first in
    let o = c.in-Declare.given in
    let same =
    ap (λ (k : Known). declarators_faults k first o (map declarator_of c.deref.result.now)) (file_known known c.requires.file)
    ∙ faults_known known.words first o file (map declarator_of c.deref.result.now)
    ∙ ap (λ (ds : List Declarator). units.declarators_faults known.words first o file (map declarator_of ds)) c.deref.ensures.value in
    rw c.in-Declare.is (subst (λ (faults : List Fault). Tells c.check_declarators.result faults) same c.check_declarators.ensures.tells)

pub returns-in-Declare-clause-known : goal.returns-in-Declare-clause-known
returns-in-Declare-clause-known c =
    let known = c.args.scopes.now in
    let file = file_at known c.args.functions.now.names c.args.count in
    let o = c.in-Declare.given in
    let same =
    ap (λ (k : Known). with_declarators o (map declarator_of c.deref.result.now) k) (file_known known c.requires.file)
    ∙ declarators_known known.words o file (map declarator_of c.deref.result.now)
    ∙ ap (λ (ds : List Declarator). known_at known.words (units.with_declarators o file (map declarator_of ds)).scope) c.deref.ensures.value in
    rw c.in-Declare.is (subst (λ (k : Known). OnOk c.check_declarators.result (c.check_declarators.new.scopes ≡ k)) same c.check_declarators.ensures.known)
