use Rattle.std.proofs.Common.{◌≡◌, ◌<◌, ◌∙◌, ℕ, zero, suc, List, [], ◌∷◌, map, length, get_or, ap, arith, rules}
use Rattle.alf_program.specs.declared.program.Func.{Func}
use Rattle.alf_program.specs.Tree.{function_of}
use Rattle.alf_check.specs.Checking.{name_at}
use Rattle.alf_check.proofs.checking.name_at.Goals as goal

-- the name of the function at a place
name_there : (funcs : List Func) (k : ℕ) (func : Func) → k < length funcs → func ≡ get_or funcs k func
    → func.name ≡ name_at (map function_of funcs) k
name_there [] k func low is = absurd (omega arith)
name_there (x ∷ funcs) zero func low is = ap (λ (f : Func). f.name) is
name_there (x ∷ funcs) (suc k) func low is = name_there funcs k func (omega arith) is

pub returns-in-Some : goal.returns-in-Some
returns-in-Some c = c.bytes.ensures ∙ name_there c.args.funcs.now c.args.number c.in-Some.func.now (search rules) (search rules)
