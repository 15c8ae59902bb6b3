-- What is left to show of `block_part`.
use Rattle.std.proofs.Common.{◌≡◌, arith}
use Rattle.alf_check.specs.CheckedPrograms.{NumberedProgram, seen}
use Rattle.code_layout.specs.Layouts.{block_statements}
use Rattle.code_layout.specs.LayoutLaws.{lies_within}
use Rattle.code_layout.proofs.Summing.{own_statements}
use Rattle.code_layout.proofs.places.block_part.Goals as goal

pub low-requires : goal.low-requires
low-requires c =
    let within = lies_within (seen c.args.checked.now) c.args.func c.args.block c.requires.func c.requires.block in
    let functions = c.statements_before_function-functions.ensures.statements in
    let blocks = c.statements_before_block-blocks.ensures.statements in
    let few = c.requires.few in
    omega arith

pub bytes-requires : goal.bytes-requires
bytes-requires c =
    let within = lies_within (seen c.args.checked.now) c.args.func c.args.block c.requires.func c.requires.block in
    let functions = c.statements_before_function-functions.ensures.statements in
    let blocks = c.statements_before_block-blocks.ensures.statements in
    let is = c.low.ensures in
    let few = c.requires.few in
    omega arith

pub bytes-requires-2 : goal.bytes-requires-2
bytes-requires-2 c =
    let program : NumberedProgram = seen c.args.checked.now in
    let within = lies_within program c.args.func c.args.block c.requires.func c.requires.block in
    let own : c.statements_in-own.result ≡ block_statements program c.args.func c.args.block = own_statements program c.args.func c.args.block c.statements_in-own.result _ c.block.ensures.at c.statements_in-own.ensures in
    let few = c.requires.few in
    omega arith
