use Rattle.pointer_domain.proofs.WordLists.{each_is_words}
use Rattle.pointer_domain.proofs.words.each_words.Goals as goal

pub returns : goal.returns
returns c = each_is_words c.args.args.now c.in_ok-first.first c.in_ok-second.second c.in_ok-third.third c.requires c.in_ok-first.ensures c.in_ok-second.ensures c.in_ok-third.ensures
