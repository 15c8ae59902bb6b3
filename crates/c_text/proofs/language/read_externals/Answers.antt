-- What was read of the tokens that were cut is spelled.
use Rattle.std.proofs.Common.{◌≡◌, map}
use Rattle.c_tokens.specs.Tokens.{tokens_of}
use Rattle.c_unit.specs.Tree.{external_of}
use Rattle.c_reader.specs.Reading.{seen_in, numbered, position}
use Rattle.c_text.proofs.Meaning.{read_trees}
use Rattle.c_text.proofs.language.read_externals.Goals as goal

pub returns-in-Ok-clause-trees : goal.returns-in-Ok-clause-trees
returns-in-Ok-clause-trees c =
    let bytes = c.args.bytes.now in
    let tokens = map (seen_in bytes) c.args.tokens.now in
    let names = c.new.result in
    let cut : tokens ≡ numbered 0 (tokens_of bytes) = c.requires in
    read_trees bytes tokens names cut c.new.ensures (map external_of c.in-Ok.externals.items) (position c.read_unit.new.reader) c.in-Ok.ensures
