-- Tests of the form of reports.
--   fits_outline o fact   the test for `FitsOutline`
use Rattle.std.proofs.Common.{◌==◌, ◌&&◌, not, ℕ, Bool, length}
use Rattle.std.specs.Prelude.{nat_lt}
use Rattle.domain_core.specs.Outlines.{Shape, header_of, kind_of}
use Rattle.flow_facts.specs.declared.fact.Fact.{Fact}
use Rattle.flow_facts.specs.declared.fact.Fact.TheVariants.{Loop, Count, Dead, Total, Pair, Alarm}
use Rattle.recorder_rules.specs.LoopRules.{is_loop, own_of}

-- the node has this own scope, and is not its header
abbrev pub is_inner : Shape → ℕ → ℕ → Bool
is_inner o s n = (own_of o n == s) && not (header_of o.scopes s == n)

-- the test for `FitsOutline`
abbrev pub fits_outline : Shape → Fact → Bool
fits_outline o (Loop s low high) = nat_lt s (length o.scopes) && is_loop (kind_of o.scopes s)
fits_outline o (Count s n low high) = (nat_lt s (length o.scopes) && is_loop (kind_of o.scopes s)) && (nat_lt n (length o.own) && is_inner o s n)
fits_outline o (Dead n) = nat_lt n (length o.own)
fits_outline o (Total n low high) = nat_lt n (length o.own)
fits_outline o (Pair s a b) = (nat_lt s (length o.scopes) && nat_lt a b) && (nat_lt b (length o.own) && (is_inner o s a && is_inner o s b))
fits_outline o (Alarm n fault) = nat_lt n (length o.own)
