use Rattle.std.proofs.Common.{◌∙◌, ◌≡◌, ◌<◌, ◌+◌, ◌∷◌, ℕ, List, length, map, flat_map, append_assoc, ap, arith, rules}
use Rattle.std.proofs.lemmas.List.{length-map, length-append, map_push}
use Rattle.std.proofs.lemmas.List.Elements.{All-push}
use Rattle.alf_program.specs.declared.program.Func.{Func}
use Rattle.alf_program.specs.Tree.{allocation_of, function_of}
use Rattle.alf_program.specs.Writable.{own_frames}
use Rattle.alf_check.specs.CheckedPrograms.{NumberedFunction, function_in}
use Rattle.alf_check.proofs.numbering.all_functions.Goals as goal

pub loop-func-preserved : goal.loop-func-preserved
loop-func-preserved c =
    let l = c.loop-func in
    let func = c.in-Some.func.now in
    let others = c.in-Some.others.now in
    let x = c.in_ok-function.field-0 in
    let rest : l.rest.now ≡ func ∷ others = search rules in
    let goes : l.first + (c.len.result + c.len-in-Some.result) ≡ l.first + (length (function_of func).args + length (function_of func).decls) =
    omega (arith, c.len.ensures, c.len-in-Some.ensures, length-map func.args.items allocation_of, length-map func.decls.items allocation_of)
    in
    let own = length-append (own_frames (function_of func)) (flat_map own_frames (map function_of others)) ∙ ap (λ (n : ℕ). n + length (flat_map own_frames (map function_of others))) (length-append (function_of func).args (function_of func).decls) in
    record {
      done = rw (c.in_ok-push.ensures.items, map_push function_in l.functions.items x, append_assoc, c.in_ok-function.ensures.is, goes) (rw rest at l.invariant.done);
      few = rw (c.in_ok-push.ensures.items, map_push function_in l.functions.items x) (All-push (λ (function : NumberedFunction). length function.blocks < 4294967295) (map function_in l.functions.items) (function_in x) l.invariant.few c.in_ok-function.ensures.few);
      left = omega (arith, own, l.invariant.left, ap (λ (r : List Func). length (flat_map own_frames (map function_of r))) rest);
    }
