-- What is left to show of `spread`.
use Rattle.std.proofs.Common.{rules, ◌≡◌, ◌++◌, ◌∷◌, [], ℕ, List, reverse, ap, sym, subst}
use Rattle.worklist_rules.specs.Events.{spread_spots, spread_book}
use Rattle.worklist_rules.specs.Successors.{AreAlong}
use Rattle.worklist_rules.specs.SuccessorLaws.{along_first}
use Rattle.abstract_exec.proofs.Spreading.{turned_twice, turned_pop, begun, more_spots, more_book, book_of_after, others_along, one_along}
use Rattle.abstract_exec.proofs.spread.spread.Goals as goal

pub loop-successor-init : goal.loop-successor-init
loop-successor-init g c =
    let z = g.R.Recorder.recording in
    let o = c.args.outline.now in
    let all = turned_twice c.args.next.items c.pop.new.self.items c.reverse.new.self.items c.in-Some.last c.in-Some.ensures.items c.reverse.ensures.items in
    record {
      book = c.requires.book;
      along = subst (λ (xs : List (ℕ × g.row.T.Denot)). AreAlong o c.args.from xs) (sym all) c.requires.along;
      places = begun z o c.args.position.items c.args.recorder c.args.from c.new-made.result.items (reverse c.reverse.new.self.items ++ c.in-Some.last ∷ []) c.args.next.items c.args.book.now c.new-made.ensures.items all;
      collected = ap (λ (xs : List (ℕ × g.row.T.Denot)). spread_book z o c.args.recorder c.args.from c.args.book.now xs) all;
    }

pub succeed-requires-clause-along : goal.succeed-requires-clause-along
succeed-requires-clause-along g c =
    let is = turned_pop c.loop-successor.next.items c.pop-in-loop-successor.new.self.items c.in-Some-pop.successor c.in-Some.last c.in-Some-pop.ensures.items in
    one_along g.R.Recorder.recording c.args.outline.now c.args.position.items c.args.recorder c.args.from (reverse c.loop-successor.next.items ++ c.in-Some.last ∷ []) (reverse c.pop-in-loop-successor.new.self.items ++ c.in-Some.last ∷ []) c.in-Some-pop.successor is c.loop-successor.invariant.along

pub loop-successor-preserved : goal.loop-successor-preserved
loop-successor-preserved g c =
    let z = g.R.Recorder.recording in
    let o = c.args.outline.now in
    let l = c.loop-successor in
    let all = reverse l.next.items ++ c.in-Some.last ∷ [] in
    let next = reverse c.pop-in-loop-successor.new.self.items ++ c.in-Some.last ∷ [] in
    let s = c.in-Some-pop.successor in
    let is = turned_pop l.next.items c.pop-in-loop-successor.new.self.items s c.in-Some.last c.in-Some-pop.ensures.items in
    let placed = rw (c.in_ok-copied.ensures.ok, c.deref.ensures, c.in_ok-copy.ensures) at c.in_ok-succeed.ensures.places in
    let gone = rw c.in_ok-copy.ensures at c.in_ok-succeed.ensures.book in
    record {
      book =
          book_of_after z o c.args.position.items c.args.recorder c.args.from g.R.Lattice.order g.met.R.Recorder.is_recording (record { suits = c.requires.suits; kept = c.kept.ensures }) c.requires.recorder c.requires.from all next s l.book c.succeed.new.book is l.invariant.along gone
          l.invariant.book;
      along = others_along z o c.args.position.items c.args.recorder c.args.from all next s is l.invariant.along;
      places =
          more_spots z o c.args.position.items c.args.recorder c.args.from l.made.items c.succeed.new.made.items all next s l.book c.succeed.new.book (spread_spots z o c.args.position.items c.args.recorder c.args.from c.args.book.now c.args.next.items) is placed gone
          l.invariant.places;
      collected = more_book z o c.args.position.items c.args.recorder c.args.from all next s l.book c.succeed.new.book (spread_book z o c.args.recorder c.args.from c.args.book.now c.args.next.items) is gone l.invariant.collected;
    }

pub succeed-requires-2-clause-along : goal.succeed-requires-2-clause-along
succeed-requires-2-clause-along g c =
    let none : c.loop-successor.next.items ≡ [] = search rules in
    along_first c.args.outline.now c.args.from c.in-Some.last [] (subst (λ (xs : List (ℕ × g.row.T.Denot)). AreAlong c.args.outline.now c.args.from (reverse xs ++ c.in-Some.last ∷ [])) none c.loop-successor.invariant.along)
