use Rattle.std.proofs.Common.{◌≡◌, ◌<◌, ◌+◌, ◌^◌, All, length}
use Rattle.domain_core.specs.Outlines.{shape_of}
use Rattle.ipet_rows.specs.Shaped.{FitsOutline}
use Rattle.report_soundness.specs.ReportTold.{books_of}
use Rattle.report_objections.specs.Objecting.{place_of}
use Rattle.run_replays.specs.Tests.{breaks as breaks_of}
use Rattle.run_replays.proofs.meeting.broken.Given as goal

abbrev pub invariant-loop-fact : goal.invariant-loop-fact
invariant-loop-fact l = (place_of (λ f. breaks_of (books_of l.books) f) l.line l.rest ≡ place_of (λ f. breaks_of (books_of l.books) f) l.fn.first l.fn.facts)
    × (l.line + length l.rest < 2 ^ 64) × All (λ f. FitsOutline (shape_of l.outline) f) l.rest

abbrev pub decreases-loop-fact : goal.decreases-loop-fact
decreases-loop-fact l = length l.rest
