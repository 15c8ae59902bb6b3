-- Where an exploration merges states, by its word.
--   merging_named     what a word says: `none`, `exits` or `joins`
--   merging_or_joins  the same of an option, which stands for `joins` where it is left out
use Rattle.std.specs.Prelude.{Option, None, Some, if◌then◌else◌, codes}
use Rattle.std.specs.Str.{bytes_eq}
use Rattle.sweet_words.specs.declared.merging.Merging.{Merging}
use Rattle.sweet_words.specs.declared.merging.Merging.TheVariants.{Never, Exits, Joins}
use Rattle.sweet_words.specs.Forms.{Text}

-- what the word says, where it is one of the three
abbrev pub merging_named : Text → Option Merging
merging_named word =
    if bytes_eq word (codes "none") then Some Never
    else if bytes_eq word (codes "exits") then Some Exits
    else if bytes_eq word (codes "joins") then Some Joins
    else None

-- the same, or `joins` where the option is left out
abbrev pub merging_or_joins : Option Text → Option Merging
merging_or_joins None = Some Joins
merging_or_joins (Some word) = merging_named word
