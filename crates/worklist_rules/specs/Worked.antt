-- A loop, to be worked out.
--   one_loop   an entry, the loop with header 2 and body 3, and node 1 behind it, whose rank is that after the header's
use Rattle.std.specs.Prelude.{[], ◌∷◌, None, Some}
use Rattle.domain_core.specs.declared.scope_kind.ScopeKind.TheVariants.{Call, Loop}
use Rattle.domain_core.specs.Outlines.{Shape}

abbrev pub one_loop : Shape
one_loop = record {
  edges = (0, 2) ∷ (1, 4) ∷ (2, 1) ∷ (2, 3) ∷ (3, 2) ∷ [];
  own = 0 ∷ 0 ∷ 1 ∷ 1 ∷ [];
  ranks = 0 ∷ 2 ∷ 1 ∷ 3 ∷ [];
  scopes = record { parent = None; header = 0; kind = Call } ∷ record { parent = Some 0; header = 2; kind = Loop } ∷ [];
}
