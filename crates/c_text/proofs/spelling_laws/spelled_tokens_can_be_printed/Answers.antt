-- All tokens that the rule of a whole text takes can be printed.
use Rattle.c_text.specs.SpellingLaws.{from_start}
use Rattle.c_text.proofs.UnitsTake.{unit_takes}
use Rattle.c_text.proofs.Numbered.{all_print}
use Rattle.c_text.proofs.spelling_laws.spelled_tokens_can_be_printed.Goals as goal

pub returns : goal.returns
returns c = λ room ts externals rest all s. all_print 0 ts all (unit_takes (from_start room ts) externals rest s)
