-- What was read is what the text means.
use Rattle.std.proofs.Common.{◌≡◌, Ok, Err, Option, Some, None, IfSome, IsSomeAnd, sym, subst}
use Rattle.grammar.specs.Form.{Fails}
use Rattle.flow_facts.specs.Reports.{reported}
use Rattle.fact_text.specs.Grammar.{Place, report}
use Rattle.fact_words.specs.Numbers.{Fault}
use Rattle.fact_text.specs.Reading.{position, fault_of}
use Rattle.fact_text.specs.Language.{start, Departure, departure_of, placed, Means}
use Rattle.fact_text.proofs.Meaning.{read_means}
use Rattle.fact_text.proofs.language.spelled.Goals as goal

pub returns-in-Ok : goal.returns-in-Ok
returns-in-Ok c =
    let bytes = c.args.bytes.now in
    let whole = reported c.in-Ok.report in
    let e : report.form.reading (start bytes) ≡ Ok (whole, position c.report.new.self)
    = subst (λ (p : Place). report.form.reading p ≡ Ok (whole, position c.report.new.self)) c.new-reader.ensures c.in-Ok.ensures in
    let meant = read_means bytes (Ok (whole, position c.report.new.self)) e in
    record { spelled = meant; departs = tt; writable = (c.writable_reports_are_spelled.ensures.exactly whole).0 (bytes, meant) }

pub returns-in-Err-clause-departs : goal.returns-in-Err-clause-departs
returns-in-Err-clause-departs c =
    let e : Fails (fault_of c.in-Err.departure) (report.form.reading (start c.args.bytes.now)) = subst (λ (p : Place). Fails (fault_of c.in-Err.departure) (report.form.reading p)) c.new-reader.ensures c.in-Err.ensures in
    by_told (departure_of c.told.result) (fault_of c.in-Err.departure) e c.told.ensures
  where
    by_told : (told : Option Departure) (fault : Option Fault)
        → Fails fault (report.form.reading (start c.args.bytes.now))
        → IfSome told (λ told. IsSomeAnd fault (λ fault. told ≡ placed c.args.bytes.now fault)) → IfSome told (λ departure. Means c.args.bytes.now (Err departure))
    by_told None fault h t = tt
    by_told (Some told) None h t = absurd t
    by_told (Some told) (Some fault) h t = subst (λ (d : Departure). Means c.args.bytes.now (Err d)) (sym t) (read_means c.args.bytes.now (Err fault) h)
