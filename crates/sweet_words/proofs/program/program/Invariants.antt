use Rattle.std.proofs.Common.{◌≡◌, map, take}
use Rattle.clap.specs.Words.{app_of}
use Rattle.sweet_words.specs.Shapes.{program_so_far}
use Rattle.sweet_words.specs.Views.{form_in}
use Rattle.sweet_words.proofs.program.program.Given as goal

abbrev pub invariant-loop-form : goal.invariant-loop-form
invariant-loop-form l = app_of l.command ≡ program_so_far (map form_in (take l.form-index l.forms))
