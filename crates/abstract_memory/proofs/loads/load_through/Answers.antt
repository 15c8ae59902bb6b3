-- What is left to show of `load_through`: facts of the proof files, applied.
use Rattle.std.proofs.Common.{◌∙◌, sym, subst, ℕ, List, length, map}
use Rattle.alf_check.specs.Shapes.{shapes_of}
use Rattle.abstract_memory.specs.Running.{runs_in}
use Rattle.abstract_memory.specs.Cells.{AllFit}
use Rattle.abstract_memory.proofs.Fitting.{all_fit}
use Rattle.abstract_memory.proofs.Loading.{load_faults}
use Rattle.abstract_memory.proofs.MemoryLone.{lone_fits}
use Rattle.abstract_memory.proofs.loads.load_through.Goals as goal

pub load_lone-requires-clause-fits : goal.load_lone-requires-clause-fits
load_lone-requires-clause-fits c =
    lone_fits (shapes_of c.args.rows.now) c.args.at.now c.args.size c.in-Some.cell (runs_in c.args.running.now) (map length c.args.frames.now) c.requires.size c.requires.lengths c.in-Some.ensures

pub load_cells-requires-clause-fit : goal.load_cells-requires-clause-fit
load_cells-requires-clause-fit c =
    subst (λ (cells : List (ℕ × ℕ)). AllFit (map length c.args.frames.now) c.args.size cells) (sym (c.deref.ensures.value ∙ c.in_ok-found.ensures))
    (all_fit (shapes_of c.args.rows.now) c.args.size (map length c.args.frames.now) c.requires.size c.requires.lengths (runs_in c.args.running.now) c.args.at.now.places)

pub returns-clause-faults : goal.returns-clause-faults
returns-clause-faults c =
    load_faults (shapes_of c.args.rows.now) c.args.running.now c.args.frames.now c.args.at.now c.args.size c.address_faults.result c.deref.result.now c.in_ok-loaded.loaded
    (c.deref.ensures.value ∙ c.in_ok-found.ensures) c.in_ok-loaded.ensures.value c.address_faults.ensures
