use Rattle.std.proofs.Common.{◌≡◌, ◌<◌, ◌∙◌, [], length, slice_get, Option, Some, option_map, refl, ap, subst, arith, rules}
use Rattle.std.specs.Option.{option_map_or}
use Rattle.std.proofs.lemmas.List.{length-map}
use Rattle.std.proofs.lemmas.Option.{slice_get-map}
use Rattle.alf_check.specs.CheckedPrograms.{CheckedParts, NumberedFunction, block_of, function_in, seen}
use Rattle.alf_check.specs.Lookups.{AreParts}
use Rattle.alf_check.proofs.Places.{of_each}
use Rattle.alf_check.proofs.program.Checked.parts.Goals as goal

pub returns : goal.returns
returns c =
    let checked : CheckedParts = record { frames = c.self.inside.frames.items; funcs = c.self.inside.funcs.items; inits = c.self.inside.inits.items; exports = c.self.inside.exports.items; root = c.self.inside.root } in
    let kept = c.self.invariant in
    let x = c.nth.result.now in
    let at : slice_get checked.funcs c.args.func ≡ Some x = search rules in
    let there : slice_get (seen checked).funcs c.args.func ≡ Some (function_in x) = slice_get-map function_in checked.funcs c.args.func ∙ ap (option_map function_in) at in
    let keeps = kept.functions c.args.func (function_in x) there in
    let few = of_each (λ (function : NumberedFunction). length function.blocks < 4294967295) (seen checked).funcs c.args.func (function_in x) kept.bounded.blocks there in
    let long = length-map x.blocks.items block_of in
    subst (λ (p : CheckedParts). AreParts (seen p) c.args.func x) c.self.view_is (record {
      row = record { function = function_in x; at = there; name = refl; args = refl; frames = refl; inits = refl; keeps = keeps };
      blocks = ap (λ (o : Option NumberedFunction). option_map_or (λ (function : NumberedFunction). function.blocks) o []) there;
      few = omega arith;
      keep = λ b block is. keeps.blocks b (block_of block) (slice_get-map block_of x.blocks.items b ∙ ap (option_map block_of) is);
    })
