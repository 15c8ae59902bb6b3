use Rattle.sweet_words.proofs.Spelling.{joined_is, spelled_twice, any_place, any_order, used_once}
use Rattle.sweet_words.proofs.laws.options_stand_freely.Goals as goal

pub returns : goal.returns
returns c = record {
  joined = joined_is;
  spelled_twice = spelled_twice;
  any_place = any_place;
  any_order = any_order;
  once = used_once;
}
