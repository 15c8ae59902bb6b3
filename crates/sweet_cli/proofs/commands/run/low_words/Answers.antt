use Rattle.std.proofs.Common.{arith, ◌≡◌, ◌∙◌, ap, map, take}
use Rattle.std.proofs.lemmas.Grind.{common_steps}
use Rattle.sweet_cli.proofs.Lows.{low_word_of, lows_are}
use Rattle.sweet_cli.proofs.commands.run.low_words.Goals as goal

pub returns : goal.returns
returns c =
    let all : take c.loop-row.row-index c.args.rows.now ≡ c.args.rows.now = grind (arith, common_steps) in
    c.loop-row.invariant ∙ ap (map low_word_of) all ∙ lows_are c.args.rows.now
