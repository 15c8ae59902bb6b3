-- Expressions of ALF that pass the checks.
--   IsUsable whole func name   the function sees a frame of the name, and the name can be written
--   Term whole func s n e      the expression has the size s, can be written, is at most n deep and names frames that the function sees
use Rattle.std.proofs.Common.{◌≡◌, ◌≤◌, ℕ, List, Some}
use Rattle.alf_program.specs.Tree.{NamedExpression, Function, WholeProgram}
use Rattle.alf_program.specs.Writable.{IsName, PartsAreWritable, depth_of}
use Rattle.alf_faults.specs.TermSizes.{term_size}
use Rattle.alf_faults.specs.NoFault.{IsSeen, SeesFrames}

module _ (whole : WholeProgram) (func : Function) where
  pub record IsUsable (name : List ℕ) : Type 0 where
    pub seen : IsSeen whole func name
    pub written : IsName name

  pub record Term (s n : ℕ) (e : NamedExpression) : Type 0 where
    pub parts : PartsAreWritable e
    pub depth : depth_of e ≤ n
    pub size : term_size e ≡ Some s
    pub sees : SeesFrames whole func e
