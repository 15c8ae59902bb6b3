-- The rows of told inputs keep the rules that the outcomes of a unit ask of rows.
use Rattle.sweet_cli.proofs.Promises.{inputs_keep}
use Rattle.sweet_cli.proofs.laws.each_run_of_c_has_the_outcome_from_its_own_cells.Goals as goal

pub returns : goal.returns
returns c file root inputs files program rows numbers is told within =
    is.outcomes rows numbers (inputs_keep c.a_file_has_one_answer.ensures.keep inputs files program rows told) within
