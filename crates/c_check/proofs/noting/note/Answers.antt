-- A number of a function is below their count.
use Rattle.std.proofs.Common.{◌<◌, ℕ, Option, IfSome, length, arith, sym, ◌∙◌, subst}
use Rattle.c_check.proofs.Numbering.{within}
use Rattle.c_check.proofs.noting.note.Goals as goal

pub overflow_cast-number : goal.overflow_cast-number
overflow_cast-number c =
    let names = c.args.functions.now.names in
    let low : c.in-Some.number < length names =
    subst (λ (x : Option ℕ). IfSome x (λ n. n < length names)) (sym c.number_at.ensures ∙ c.in-Some.is) (within c.args.functions.now.words names c.args.token) in
    omega arith
