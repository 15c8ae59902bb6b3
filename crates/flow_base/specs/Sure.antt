-- A shelf and a sink in memory that never fail.
--   SureFiles          what contracts see of the shelf
--   seen_files shelf   what each shelf is seen as: a name that it was not given is an empty file
--   SureBytes          what contracts see of the sink
--   seen_bytes sink    what each sink is seen as
use Rattle.std.specs.Prelude.{ℕ, List, None, Some}
use Rattle.flow_base.specs.Held.{content_of}
use Rattle.flow_base.specs.Shelves.{ShelfState}
use Rattle.flow_base.specs.Sinks.{SinkState}

pub record SureFiles : Type 0 where
  pub files : List (List ℕ × List ℕ)
  pub reads : ℕ
  pub names : List (List ℕ)

-- it tells everything, and nothing has failed
abbrev pub seen_files : SureFiles → ShelfState
seen_files shelf = record { files = Some (λ name. Some (content_of shelf.files name)); reads = shelf.reads; names = Some shelf.names; faults = 0; failed = None }

pub record SureBytes : Type 0 where
  pub taken : List ℕ
  pub writes : ℕ

-- it tells everything, and nothing has failed
abbrev pub seen_bytes : SureBytes → SinkState
seen_bytes sink = record { taken = Some sink.taken; writes = sink.writes; faults = 0 }
