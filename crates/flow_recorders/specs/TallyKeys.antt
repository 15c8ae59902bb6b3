-- Keys of what is counted in an outline.
--   AreKeys o w              they are scopes and nodes of it, as many of both, and 32 bits number them
use Rattle.std.proofs.Common.{◌≡◌, ◌<◌, ◌^◌, length}
use Rattle.domain_core.specs.Outlines.{Outlined}
use Rattle.recorder_rules.specs.TallyRules.{Tally}
use Rattle.flow_recorders.specs.Chained.{KeysBelow}

-- they are scopes and nodes of the outline, as many of both, and 32 bits number them
pub record AreKeys (o : Outlined) (w : Tally) : Type 0 where
  pub scopes : KeysBelow w.scopes (length o.scopes)
  pub nodes : KeysBelow w.nodes (length o.nodes)
  pub few : length w.scopes < 2 ^ 32
  pub same_length : length w.nodes ≡ length w.scopes
