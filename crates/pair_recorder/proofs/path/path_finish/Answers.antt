-- What is left to show of `path_finish`.
use Rattle.std.proofs.Common.{◌≡◌, ◌<◌, ◌*◌, ◌==◌, ◌||◌, ℕ, List, sym, subst}
use Rattle.std.specs.List.{list_any}
use Rattle.recorder_rules.specs.BitWords.{is_marked}
use Rattle.pair_recorder.specs.Paths.{paired_in, AreWithin}
use Rattle.pair_recorder.proofs.ScopesIn.{within_scopes}
use Rattle.pair_recorder.proofs.PathSteps.{finished_path}
use Rattle.pair_recorder.proofs.path.path_finish.Goals as goal

pub returns : goal.returns
returns c o s k owned same =
    let n = c.args.count in
    let path = c.args.path.now in
    let old = c.args.collected.now in
    let new = c.collect_scopes.new.rows in
    let among = c.deref.result.now in
    finished_path o n k path among c.in_ok-scopes.scopes.items s owned old new c.deref.ensures.value (subst (λ (ss : List ℕ). AreWithin path ss) (sym c.in_ok-scopes.ensures) (within_scopes path)) same
    (subst (λ (w : ℕ). (a b : ℕ) → a < n → b < n → is_marked new (a * w) b ≡ (is_marked old (a * w) b || list_any (λ s. paired_in (λ t. t == s) a b path) among)) c.words-width.ensures c.in_ok-collect_scopes.ensures)
