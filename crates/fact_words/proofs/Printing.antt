-- Marks put after a text, in a row.
use Rattle.std.proofs.Common.{◌≡◌, ℕ, sym, ◌∙◌, List, [], ◌∷◌, ◌++◌, append_assoc, append-nil, codes}
use Rattle.std.proofs.lemmas.List.Sums.{fold-append}
use Rattle.std.specs.List.{flat_map}
use Rattle.fact_words.specs.Printed.{Mark, printed, text_of_marks}
use Rattle.fact_words.specs.Printing.{put, all_put}
use Rattle.flow_facts.specs.Reports.{Reported}
use Rattle.fact_words.specs.Canonical.{begins, a_number, lists_marks, tail_marks, report_text}

all-put : (ms : List Mark) (text : List ℕ) → all_put text ms ≡ text ++ flat_map printed ms
unfolding put
all-put [] text = sym (append-nil text)
all-put (m ∷ ms) text = all-put ms (text ++ printed m) ∙ append_assoc text (printed m) (flat_map printed ms)

-- the text of marks, of which the first begins it
pub text_put : (w : List ℕ) (ms : List Mark) → all_put w ms ≡ text_of_marks (begins w ∷ ms)
text_put w ms = all-put ms w

-- the parts of a report, one after the other
pub report_put : (r : Reported)
    → all_put (all_put (all_put (codes "facts") (a_number r.form ∷ [])) (lists_marks r)) (tail_marks r) ≡ report_text r
report_put r = rw (← text_put (codes "facts") (a_number r.form ∷ (lists_marks r ++ tail_marks r))) (simp fold-append)
