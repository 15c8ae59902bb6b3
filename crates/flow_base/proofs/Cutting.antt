-- What an output took, piece by piece.
--   taken_next      what was taken, and so many bytes of the rest, stand before what is left of it
--   appended_more   what appends these bytes and then those appends both
use Rattle.std.proofs.Common.{◌≡◌, ℕ, List, ◌++◌, length, take, Option, Some, None, sym, ◌∙◌, arith, take_all, drop, ap, ◌-◌, length-drop, take-append-drop, append_assoc}
use Rattle.std.specs.Option.{option_map}
use Rattle.flow_base.specs.Sinks.{Appended}

-- all of a rest from a place
rest_whole : (count : ℕ) (xs : List ℕ) → take (length xs - count) (drop count xs) ≡ drop count xs
rest_whole count xs = let long = length-drop count xs in take_all (length xs - count) (drop count xs) (omega arith)

-- what was taken, and so many bytes of the rest, stand before what is left of the rest
pub taken_next : (bytes done rest left : List ℕ) (count : ℕ) → bytes ≡ done ++ rest
    → left ≡ take (length rest - count) (drop count rest) → bytes ≡ (done ++ take count rest) ++ left
taken_next bytes done rest left count whole cut =
    whole ∙ ap (λ xs. done ++ xs) (sym (take-append-drop count rest)) ∙ sym (append_assoc done (take count rest) (drop count rest))
    ∙ ap (λ xs. (done ++ take count rest) ++ xs) (sym (cut ∙ rest_whole count rest))

-- what appends these bytes and then those appends both
pub appended_more : (before middle after : Option (List ℕ)) (xs ys : List ℕ) → Appended before middle xs
    → Appended middle after ys → Appended before after (xs ++ ys)
appended_more None middle after xs ys first next = next ∙ ap (option_map (λ (held : List ℕ). held ++ ys)) first
appended_more (Some held) middle after xs ys first next =
    next ∙ ap (option_map (λ (before : List ℕ). before ++ ys)) first ∙ ap Some (append_assoc held xs ys)
