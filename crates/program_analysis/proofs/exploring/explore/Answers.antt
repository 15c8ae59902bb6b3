use Rattle.alf_check.specs.CheckedPrograms.{seen}
use Rattle.program_analysis.proofs.ExploringLaws.{written}
use Rattle.program_analysis.proofs.NamingLaws.{names_spelled}
use Rattle.program_analysis.proofs.exploring.explore.Goals as goal

pub returns-clause-writable : goal.returns-clause-writable
returns-clause-writable c =
    written c.args.outline.now (names_spelled c.args.outline.now c.args.graph.now.names c.requires.named (c.names_tell_nodes_apart.ensures.spelled (seen c.args.checked.now) c.args.graph.now c.keeps.ensures c.requires.graph))
    c.explored.result c.explored.ensures.writable
