-- A text has one meaning, which reading computes. It follows from the type of the rule alone.
use Rattle.std.proofs.Common.{◌≡◌, ℕ, List, Result, Ok, Err, refl, sym, ap, subst}
use Rattle.grammar.specs.Exact.{Says}
use Rattle.alf_program.specs.Tree.{WholeProgram}
use Rattle.alf_reader.specs.Grammar.{Fault, Place}
use Rattle.alf_text.specs.Grammar.{program}
use Rattle.alf_text.specs.Language.{start, Departure, placed, Means, HasOneMeaning}

-- what reading gives, as it is told
abbrev pub meant : List ℕ → Result (WholeProgram × Place) Fault → Result WholeProgram Departure
meant bytes (Ok x) = Ok x.0
meant bytes (Err fault) = Err (placed bytes fault)

module _ (bytes : List ℕ) where
  says_means : (r : Result (WholeProgram × Place) Fault) → Says program.form (start bytes) r
      → Means bytes (meant bytes r)
  says_means (Ok x) h = (x.1, h)
  says_means (Err fault) h = (fault, h, refl)

  -- what is read is meant
  pub read_means : (r : Result (WholeProgram × Place) Fault) → program.form.reading (start bytes) ≡ r
      → Means bytes (meant bytes r)
  read_means r e = says_means r (subst (Says program.form (start bytes)) e (program.exact.holds (start bytes)))

  means_read : (m : Result WholeProgram Departure) → Means bytes m
      → meant bytes (program.form.reading (start bytes)) ≡ m
  means_read (Ok whole) h = rw (program.exact.alone (start bytes) (Ok (whole, h.0)) h.1) refl
  means_read (Err departure) h = rw (program.exact.alone (start bytes) (Err h.0) h.1) (ap (λ (d : Departure). Err d) (sym h.2))

  pub has_one : HasOneMeaning bytes
  has_one = record {
    meaning = meant bytes (program.form.reading (start bytes));
    means = read_means (program.form.reading (start bytes)) refl;
    only = means_read;
  }
