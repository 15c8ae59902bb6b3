-- That a part takes some of the text is the type of its rule.
use Rattle.std.proofs.Common.{◌≡◌, ◌++◌, ◌∷◌, [], map, sym, ◌∙◌}
use Rattle.std.proofs.lemmas.List.{map_push}
use Rattle.grammar.specs.RowLaws.{row_goes_on, row_ends}
use Rattle.grammar.proofs.sequence.many.Goals as goal

pub loop-reader-smaller : goal.loop-reader-smaller
loop-reader-smaller g c =
    (g.P.Part.rule c.args.part.now).exact.shrinks (g.P.Part.reading.position c.loop-reader.reader) (g.P.Part.view c.in_ok-value.value, g.P.Part.reading.position c.read.new.reader) c.in_ok-value.ensures

pub loop-reader-preserved : goal.loop-reader-preserved
loop-reader-preserved g c =
    let e : map g.P.Part.view c.push.new.self.items ≡ map g.P.Part.view c.loop-reader.values.items ++ g.P.Part.view c.in_ok-value.value ∷ []
    = rw c.in-Ok.ensures.items (map_push _ c.loop-reader.values.items c.in_ok-value.value) in
    rw e (row_goes_on (g.P.Part.goes_on c.args.part.now) (g.P.Part.rule c.args.part.now) (map g.P.Part.view c.loop-reader.values.items) (g.P.Part.reading.position c.loop-reader.reader)
    (g.P.Part.reading.position c.args.reader.now) (g.P.Part.view c.in_ok-value.value) (g.P.Part.reading.position c.read.new.reader) (sym c.begins.ensures ∙ c.loop-reader-test.true) c.in_ok-value.ensures c.loop-reader.invariant)

pub returns : goal.returns
returns g c = row_ends (g.P.Part.goes_on c.args.part.now) (g.P.Part.rule c.args.part.now) (map g.P.Part.view c.loop-reader.values.items) (g.P.Part.reading.position c.loop-reader.reader) (g.P.Part.reading.position c.args.reader.now)
    (sym c.begins.ensures ∙ c.loop-reader-test.false) c.loop-reader.invariant
