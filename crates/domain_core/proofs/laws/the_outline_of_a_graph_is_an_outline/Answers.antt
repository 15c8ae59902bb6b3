-- What is left to show of `the_outline_of_a_graph_is_an_outline`.
use Rattle.domain_core.specs.OutlineMadeLaws.{outline_kept, holds_is, is_held}
use Rattle.domain_core.proofs.laws.the_outline_of_a_graph_is_an_outline.Goals as goal

pub returns-clause-kept : goal.returns-clause-kept
returns-clause-kept c = λ plan o ok d decided once few_nodes few_edges few_scopes. outline_kept plan ok o d decided few_nodes few_edges few_scopes once

pub returns-clause-held : goal.returns-clause-held
returns-clause-held c = λ plan o ok d t n low t_low. ((λ held. (holds_is plan ok o d t n low held).0), (λ held. is_held plan ok o d t n low t_low held))
