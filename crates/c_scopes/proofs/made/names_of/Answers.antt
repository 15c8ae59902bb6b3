-- One more is noted.
use Rattle.std.proofs.Common.{◌≡◌, ◌+◌, ◌<◌, ◌++◌, ℕ, List, map, length, drop, get_or, ap, sym, ◌∙◌}
use Rattle.std.proofs.lemmas.List.{at_drop_more, append_assoc}
use Rattle.c_unit.specs.declared.external.External.{External}
use Rattle.c_unit.specs.Tree.{external_of}
use Rattle.c_rules.specs.Units.{definitions}
use Rattle.c_scopes.specs.Numbers.{made_by}
use Rattle.c_scopes.proofs.Counting.{made_next}
use Rattle.c_scopes.proofs.made.names_of.Goals as goal

noted : (names : List ℕ) (xs : List External) (i : ℕ) (x : External) → i < length xs → x ≡ get_or xs i x
    → (names ++ made_by (external_of x)) ++ definitions (map external_of (drop (i + 1) xs)) ≡ names ++ definitions (map external_of (drop i xs))
noted names xs i x low is =
    sym (at_drop_more (λ (ys : List External). names ++ definitions (map external_of ys)) xs i x low
    ∙ rw (← is) (ap (λ (made : List ℕ). names ++ made) (made_next (external_of x) (map external_of (drop (i + 1) xs))) ∙ sym (append_assoc names (made_by (external_of x)) _)))

pub loop-external-preserved : goal.loop-external-preserved
loop-external-preserved c =
    ap (λ (names : List ℕ). names ++ definitions (map external_of (drop (c.loop-external.external-index + 1) c.args.externals.now))) c.in_ok-note.ensures
    ∙ noted c.loop-external.names.items c.args.externals.now c.loop-external.external-index c.external-item.result c.loop-external-test.true c.external-item.is
    ∙ c.loop-external.invariant
