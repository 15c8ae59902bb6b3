-- The lines before this one exclude nothing.
use Rattle.std.proofs.Common.{◌≡◌, ◌<◌, ◌+◌, ◌^◌, All, length}
use Rattle.domain_core.specs.Outlines.{shape_of}
use Rattle.ipet_rows.specs.Shaped.{FitsOutline}
use Rattle.flow_gathering.specs.Gathering.{found_in}
use Rattle.report_objections.specs.Objecting.{excludes as excludes_of, place_of}
use Rattle.report_checks.proofs.facts.excluded.Given as goal

abbrev pub invariant-loop-fact : goal.invariant-loop-fact
invariant-loop-fact l = (place_of (λ f. excludes_of (found_in l.found) f) l.line l.rest ≡ place_of (λ f. excludes_of (found_in l.found) f) l.fn.first l.fn.facts)
    × (l.line + length l.rest < 2 ^ 64) × All (λ f. FitsOutline (shape_of l.outline) f) l.rest

abbrev pub decreases-loop-fact : goal.decreases-loop-fact
decreases-loop-fact l = length l.rest
