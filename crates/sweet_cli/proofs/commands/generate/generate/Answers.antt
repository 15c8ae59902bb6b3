-- The answer over the file that is made is the only one, and no file at hand has a part in it.
use Rattle.std.proofs.Common.{Option, Some, IfOk, IfSome, List, ℕ, ap, subst, arith}
use Rattle.flow_base.specs.Outside.{Files}
use Rattle.flow_base.specs.Sure.{seen_files}
use Rattle.flow_base.specs.Held.{content_of}
use Rattle.sweet_cli.specs.MadeFile.{made_files}
use Rattle.sweet_cli.specs.Generate.{summing, TellsSummary}
use Rattle.sweet_cli.proofs.GeneratePromises.{summed_only}
use Rattle.sweet_cli.proofs.commands.generate.generate.Goals as goal

-- the files of the shelf that is made
files_of : List (List ℕ × List ℕ) → Option Files
files_of files = Some (λ name. Some (content_of files name))

pub returns-clause-means : goal.returns-clause-means
unfolding files_of
returns-clause-means c =
    summed_only summing (made_files c.args.number) (seen_files c.in_ok-shelf.shelf) (seen_files c.summed.new.shelf) c.summed.result
    (ap files_of c.in_ok-shelf.ensures) (λ rose. omega (arith, rose)) c.summed.ensures.work

pub returns-clause-promise : goal.returns-clause-promise
unfolding files_of
returns-clause-promise c =
    subst (λ (files : Option Files). IfOk c.summed.result (λ text. IfSome files (λ fs. TellsSummary fs text.items))) (ap files_of c.in_ok-shelf.ensures) c.summed.ensures.promise
