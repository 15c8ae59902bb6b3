use Rattle.std.proofs.lemmas.List.{map-id}
use Rattle.alf_reader.proofs.reader.Reader.many_references.Goals as goal

pub returns : goal.returns
returns c = rw (map-id c.in_ok-names.names.items) at c.in_ok-names.ensures
