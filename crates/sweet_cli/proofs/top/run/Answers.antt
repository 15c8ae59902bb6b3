-- What was written keeps the promise of the command, and is the answer of the told files.
use Rattle.std.proofs.Common.{map, string_bytes, inr, sym, ◌∙◌}
use Rattle.command_plans.specs.Outcome.{ending_text}
use Rattle.command_plans.specs.Log.{log_of}
use Rattle.command_plans.specs.Run.{Wrote, ending_of}
use Rattle.sweet_cli.specs.Table.{task_of}
use Rattle.sweet_cli.proofs.Promises.{answered_over, line_of, promised, promised_over, no_failed_read, settle}
use Rattle.sweet_cli.proofs.top.run.Goals as goal

pub returns-in-Ok-clause-promised : goal.returns-in-Ok-clause-promised
returns-in-Ok-clause-promised g c =
    let wrote : Wrote (ending_text (ending_of c.in-Some.answer)) (g.W.Sink.state c.args.out.now) (g.W.Sink.state c.write_all.new.self) =
    rw (← c.text.ensures) (record { once = c.in-Ok.ensures.counted; all = c.in-Ok.ensures.answer }) in
    λ is_done. promised (task_of (map string_bytes c.args.words.now)) (g.F.Shelf.state c.args.shelf.now).files (ending_of c.in-Some.answer)
    (g.W.Sink.state c.args.out.now) (g.W.Sink.state c.write_all.new.self) (sym c.status.ensures ∙ is_done) c.in-Some.ensures.promise wrote

pub returns-in-Ok-clause-settled : goal.returns-in-Ok-clause-settled
returns-in-Ok-clause-settled g c =
    let wrote : Wrote (ending_text (ending_of c.in-Some.answer)) (g.W.Sink.state c.args.out.now) (g.W.Sink.state c.write_all.new.self) =
    rw (← c.text.ensures) (record { once = c.in-Ok.ensures.counted; all = c.in-Ok.ensures.answer }) in
    λ reads writes. inr (settle (task_of (map string_bytes c.args.words.now)).work (g.F.Shelf.state c.args.shelf.now).files (log_of (g.F.Shelf.state c.args.shelf.now))
    (ending_of c.in-Some.answer) (log_of (g.F.Shelf.state c.words_answer.new.shelf)) c.status.result (g.W.Sink.state c.args.out.now) (g.W.Sink.state c.write_all.new.self)
    c.in-Some.ensures.due.due (no_failed_read _ (g.F.Shelf.state c.args.shelf.now) (g.F.Shelf.state c.words_answer.new.shelf) c.in-Some.ensures.due.unread reads) c.status.ensures wrote)

pub returns-in-Ok-clause-answer_read : goal.returns-in-Ok-clause-answer_read
returns-in-Ok-clause-answer_read g c =
    let wrote : Wrote (ending_text (ending_of c.in-Some.answer)) (g.W.Sink.state c.args.out.now) (g.W.Sink.state c.write_all.new.self) =
    rw (← c.text.ensures) (record { once = c.in-Ok.ensures.counted; all = c.in-Ok.ensures.answer }) in
    λ whole other. answered_over (map string_bytes c.args.words.now) (g.F.Shelf.state c.args.shelf.now) (g.F.Shelf.state c.words_answer.new.shelf) (ending_of c.in-Some.answer)
    c.status.result (g.W.Sink.state c.args.out.now) (g.W.Sink.state c.write_all.new.self) c.in-Some.ensures.due.due c.status.ensures other wrote

pub returns-in-Ok-clause-promised_read : goal.returns-in-Ok-clause-promised_read
returns-in-Ok-clause-promised_read g c =
    let wrote : Wrote (ending_text (ending_of c.in-Some.answer)) (g.W.Sink.state c.args.out.now) (g.W.Sink.state c.write_all.new.self) =
    rw (← c.text.ensures) (record { once = c.in-Ok.ensures.counted; all = c.in-Ok.ensures.answer }) in
    λ is_done. promised_over (task_of (map string_bytes c.args.words.now)) (g.F.Shelf.state c.args.shelf.now) (g.F.Shelf.state c.words_answer.new.shelf) (ending_of c.in-Some.answer)
    (g.W.Sink.state c.args.out.now) (g.W.Sink.state c.write_all.new.self) (sym c.status.ensures ∙ is_done) c.in-Some.ensures.over wrote

pub returns-in-Ok-clause-one_line : goal.returns-in-Ok-clause-one_line
returns-in-Ok-clause-one_line g c =
    let wrote : Wrote (ending_text (ending_of c.in-Some.answer)) (g.W.Sink.state c.args.out.now) (g.W.Sink.state c.write_all.new.self) =
    rw (← c.text.ensures) (record { once = c.in-Ok.ensures.counted; all = c.in-Ok.ensures.answer }) in
    λ whole other. line_of (ending_of c.in-Some.answer) c.status.result (g.W.Sink.state c.args.out.now) (g.W.Sink.state c.write_all.new.self) c.status.ensures other c.in-Some.ensures.line wrote
