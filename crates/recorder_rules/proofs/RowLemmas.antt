-- Laws of rows.
--   rowwise_first, rowwise_all   before the first row, past one row, and at the end
use Rattle.std.proofs.Common.{◌+◌, ◌*◌, ◌≤◌, ℕ, Bool, cond, List, length, get_or, refl, sym, ap, arith}
use Rattle.recorder_rules.specs.BitWords.{IsNextMark, AreRows, IsRowwise}

module _ (count w : ℕ) (marks : List ℕ) (f : ℕ → ℕ) (old : List ℕ) (all : count ≤ 64 * length marks) where
  pub rowwise_first : (place : ℕ) → IsNextMark marks 0 place → IsRowwise count w marks f old old place
  rowwise_first place next = record {
    done = λ a q below low within. ap (λ (b : Bool). cond b (f (a * w + q)) (get_or old (a * w + q) 0)) (sym (next.none a (omega arith) below));
    rest = λ a q over within. refl;
    here = λ low. next.has (omega arith);
  }

  pub rowwise_all : (new : List ℕ) (place : ℕ) → count ≤ place → IsRowwise count w marks f old new place
      → AreRows count w marks f old new
  rowwise_all new place over so_far a q low within = so_far.done a q (omega arith) low within
