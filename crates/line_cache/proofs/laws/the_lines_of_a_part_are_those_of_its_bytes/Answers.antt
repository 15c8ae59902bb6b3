-- By the laws.
use Rattle.line_cache.specs.PartLineLaws.{lines_are}
use Rattle.line_cache.proofs.ByteLines.{lines_of_bytes, rises}
use Rattle.line_cache.proofs.laws.the_lines_of_a_part_are_those_of_its_bytes.Goals as goal

pub returns : goal.returns
returns c = record { bytes = lines_of_bytes; ascending = rises; noted = lines_are }
