-- What an exploration collected, as the code holds it.
--   found_in found       what it stands for
--   IsSized o found      it has a number for each node and each scope of the outline
use Rattle.std.specs.Prelude.{◌≡◌, length}
use Rattle.domain_core.specs.Outlines.{Outlined}
use Rattle.report_soundness.specs.ReportTold.{Found, books_of}
use Rattle.flow_gathering.specs.declared.collected.Collected.{Collected}

-- what it stands for
abbrev pub found_in : Collected → Found
found_in found = record { books = books_of found.books.now; alarms = found.alarms.items; stepped = found.stepped.items }

-- it has a number for each node and each scope of the outline
pub record IsSized (o : Outlined) (found : Found) : Type 0 where
  pub totals : length found.books.totals ≡ length o.nodes
  pub loops : length found.books.loops.spreads ≡ length o.scopes
  pub counts : length found.books.counts.spreads ≡ length o.nodes
  pub pairs : length found.books.pairs.pairs ≡ length o.nodes
  pub alarms : length found.alarms ≡ length o.nodes
  pub stepped : length found.stepped ≡ length o.nodes
