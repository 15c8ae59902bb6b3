-- The words are all arguments but the first.
use Rattle.std.proofs.Common.{◌≡◌, ℕ, List, map, string_bytes, ap, sym, subst}
use Rattle.sweet_cli.specs.Top.{IsRun, words_of}
use Rattle.sweet_cli.proofs.arguments.status_of.Goals as goal

pub returns-in-Some : goal.returns-in-Some
returns-in-Some g c =
    let shelf = g.F.Shelf.state c.args.shelf.now in
    let later = g.F.Shelf.state c.run.new.shelf in
    let out = g.W.Sink.state c.args.out.now in
    let now = g.W.Sink.state c.run.new.out in
    let same : words_of c.args.arguments.now ≡ map string_bytes c.in-Some.words.now = ap words_of c.in-Some.ensures.cases.0 in
    let run : IsRun (map string_bytes c.in-Some.words.now) c.run.result shelf later out now = record {
      answer = c.run.ensures.answer;
      promised = c.run.ensures.promised;
      answer_read = c.run.ensures.answer_read;
      promised_read = c.run.ensures.promised_read;
      one_line = c.run.ensures.one_line;
      no_other_read = c.run.ensures.no_other_read;
      same_files = c.run.ensures.same_files;
      write_failed = c.run.ensures.write_failed;
      nothing_written = c.run.ensures.nothing_written;
      settled = c.run.ensures.settled;
    } in
    subst (λ (words : List (List ℕ)). IsRun words c.run.result shelf later out now) (sym same) run
