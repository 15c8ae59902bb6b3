-- What is left to show of `store_through`: the cells lie in their frames.
use Rattle.std.proofs.Common.{◌∙◌, sym, subst, ℕ, List, length, map}
use Rattle.alf_check.specs.Shapes.{shapes_of}
use Rattle.abstract_memory.specs.Running.{runs_in}
use Rattle.abstract_memory.specs.Cells.{AllFit}
use Rattle.abstract_memory.proofs.Fitting.{all_fit}
use Rattle.abstract_memory.proofs.MemoryLone.{lone_fits}
use Rattle.abstract_memory.proofs.stores.store_through.Goals as goal

pub store_lone-requires-clause-fits : goal.store_lone-requires-clause-fits
store_lone-requires-clause-fits c =
    lone_fits (shapes_of c.args.rows.now) c.args.at.now c.args.size c.in-Some.cell (runs_in c.args.running.now) (map length c.args.frames.now) c.requires.size c.requires.lengths c.in-Some.ensures

pub store_all-requires-clause-fit : goal.store_all-requires-clause-fit
store_all-requires-clause-fit c =
    subst (λ (cells : List (ℕ × ℕ)). AllFit (map length c.args.frames.now) c.args.size cells) (sym (c.deref.ensures.value ∙ c.in_ok-found.ensures))
    (all_fit (shapes_of c.args.rows.now) c.args.size (map length c.args.frames.now) c.requires.size c.requires.lengths (runs_in c.args.running.now) c.args.at.now.places)
