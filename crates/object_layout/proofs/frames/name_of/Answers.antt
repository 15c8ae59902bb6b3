-- The name of the frame of an object that a function owns.
use Rattle.std.proofs.Common.{◌≡◌, ◌++◌, ℕ, List, Option, codes, map, reverse, slice_index_or, ap, sym, ◌∙◌}
use Rattle.c_unit.specs.Units.{Word, unit_of}
use Rattle.c_rules.specs.Names.{text_at}
use Rattle.c_scopes.specs.Numbers.{Made}
use Rattle.c_meaning.specs.Objects.{Object, program_of}
use Rattle.c_lowered.specs.Names.{count_like, function_name, further, owned_name, within}
use Rattle.object_layout.specs.Views.{object_of}
use Rattle.object_layout.proofs.Functions.{name_at}
use Rattle.object_layout.proofs.frames.name_of.Goals as goal

pub returns-in_ok-name-in-Some : goal.returns-in_ok-name-in-Some
returns-in_ok-name-in-Some c =
    let unit = unit_of c.args.unit.now in
    let program = program_of unit in
    let o : Object = object_of c.args.object in
    let earlier : List Object = reverse (map object_of c.args.earlier.now) in
    let owner = c.in-Some.owner in
    let text : c.text_at-text.result.now ≡ text_at unit.words o.token = c.text_at-text.ensures ∙ ap (λ (ws : List Word). text_at ws o.token) c.requires.words in
    let count : c.count_like-before.result ≡ count_like unit.words o earlier = c.count_like-before.ensures ∙ ap (λ (ws : List Word). count_like ws o earlier) c.requires.words in
    let function : c.text_of-function.result.now ≡ function_name program owner =
    c.text_of-function.ensures ∙ ap (λ (made : Made). text_at made.words (slice_index_or made.names owner 0)) c.requires.functions ∙ ap (λ (t : ℕ). text_at unit.words t) (name_at unit owner) in
    c.in_ok-name-in-Some.ensures ∙ ap (λ (bs : List ℕ). bs ++ (codes "::" ++ (c.text_at-text.result.now ++ further c.count_like-before.result))) function
    ∙ ap (λ (t : List ℕ). within program owner (t ++ further c.count_like-before.result)) text ∙ ap (λ (k : ℕ). within program owner (text_at unit.words o.token ++ further k)) count
    ∙ ap (λ (w : Option ℕ). owned_name program w (text_at unit.words o.token) (count_like unit.words o earlier)) (sym c.in-Some.is)
