-- A text has one meaning, which reading computes. It follows from the type of the rule alone.
use Rattle.std.proofs.Common.{◌≡◌, ℕ, List, Result, Ok, Err, refl, sym, ap, subst}
use Rattle.grammar.specs.Exact.{Says}
use Rattle.flow_facts.specs.Reports.{Reported}
use Rattle.fact_words.specs.Numbers.{Fault}
use Rattle.fact_text.specs.Grammar.{Place, report}
use Rattle.fact_text.specs.Language.{start, Departure, placed, Means, HasOneMeaning}

-- what reading gives, as it is told
abbrev pub meant : List ℕ → Result (Reported × Place) Fault → Result Reported Departure
meant bytes (Ok x) = Ok x.0
meant bytes (Err fault) = Err (placed bytes fault)

module _ (bytes : List ℕ) where
  says_means : (r : Result (Reported × Place) Fault) → Says report.form (start bytes) r → Means bytes (meant bytes r)
  says_means (Ok x) h = (x.1, h)
  says_means (Err fault) h = (fault, h, refl)

  -- what is read is meant
  pub read_means : (r : Result (Reported × Place) Fault) → report.form.reading (start bytes) ≡ r
      → Means bytes (meant bytes r)
  read_means r e = says_means r (subst (Says report.form (start bytes)) e (report.exact.holds (start bytes)))

  means_read : (m : Result Reported Departure) → Means bytes m → meant bytes (report.form.reading (start bytes)) ≡ m
  means_read (Ok whole) h = rw (report.exact.alone (start bytes) (Ok (whole, h.0)) h.1) refl
  means_read (Err departure) h = rw (report.exact.alone (start bytes) (Err h.0) h.1) (ap (λ (d : Departure). Err d) (sym h.2))

  pub has_one : HasOneMeaning bytes
  has_one = record {
    meaning = meant bytes (report.form.reading (start bytes));
    means = read_means (report.form.reading (start bytes)) refl;
    only = means_read;
  }
