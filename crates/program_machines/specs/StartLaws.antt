-- Laws of starts.
--   alone, one_history          why
use Rattle.std.specs.Prelude.{ℤ}
use lib.Dec.{leb→le}
use lib.IntN.{pos, negsuc}
use lib.Signed.{◌≤ℤ◌, ≤ℤ_refl}
use Rattle.std.proofs.Common.{◌≡◌, ◌≤◌, List, [], ◌∷◌, refl, sym, ap, subst, ◌∙◌, arith}
use Rattle.std.proofs.lemmas.List.Elements.{All-head, All-tail}
use Rattle.alf_ops.specs.declared.history.RunEvent.{RunEvent}
use Rattle.alf_check.specs.declared.rows.InputRow.{InputRow}
use Rattle.alf_check.specs.CheckedPrograms.{NumberedProgram}
use Rattle.flow_graph.specs.Nodes.{first_node}
use Rattle.alf_runs.specs.Steps.{Moment, At}
use Rattle.alf_runs.specs.Starts.{AreWithin, words_of, start, IsStart}
use Rattle.program_machines.specs.Starts.{AreLone, lows, HasLoneStart}

-- ---- why

same_number : (a b : ℤ) → a ≤ℤ b → b ≤ℤ a → a ≡ b
same_number (pos a) (pos b) below above = let first : a ≤ b = leb→le a b below.le in let second : b ≤ a = leb→le b a above.le in ap pos (omega (arith, first, second))
same_number (pos a) (negsuc b) below above = absurd below.le
same_number (negsuc a) (pos b) below above = absurd above.le
same_number (negsuc a) (negsuc b) below above = let first : b ≤ a = leb→le b a below.le in let second : a ≤ b = leb→le a b above.le in ap negsuc (omega (arith, first, second))

lows_within : (rows : List InputRow) → AreLone rows → AreWithin rows (lows rows)
lows_within [] lone = tt
lows_within (row ∷ rows) lone =
    let same : row.low ≡ row.high = All-head (λ (r : InputRow). r.low ≡ r.high) row rows lone in (
      record { least = ≤ℤ_refl row.low; most = subst (λ (high : ℤ). row.low ≤ℤ high) same (≤ℤ_refl row.low) },
      lows_within rows (All-tail (λ (r : InputRow). r.low ≡ r.high) row rows lone),
    )

numbers_are : (rows : List InputRow) → AreLone rows → (numbers : List ℤ) → AreWithin rows numbers → numbers ≡ lows rows
numbers_are [] lone [] within = refl
numbers_are [] lone (number ∷ numbers) within = absurd within
numbers_are (row ∷ rows) lone [] within = absurd within
numbers_are (row ∷ rows) lone (number ∷ numbers) within =
    let same : row.low ≡ row.high = All-head (λ (r : InputRow). r.low ≡ r.high) row rows lone in
    let first : number ≡ row.low = same_number number row.low (subst (λ (high : ℤ). number ≤ℤ high) (sym same) within.0.most) within.0.least in
    let rest : numbers ≡ lows rows = numbers_are rows (All-tail (λ (r : InputRow). r.low ≡ r.high) row rows lone) numbers within.1 in
    ap (λ (n : ℤ). n ∷ numbers) first ∙ ap (λ (ns : List ℤ). row.low ∷ ns) rest

pub alone : HasLoneStart
alone program rows lone = record {
  is = record { numbers = lows rows; within = lows_within rows lone; starts = refl };
  only = λ moment from. from.starts ∙ ap (λ (numbers : List ℤ). start program rows (words_of rows numbers)) (numbers_are rows lone from.numbers from.within);
}

-- two histories at one node
same_history : (a b : List RunEvent) → At first_node a ≡ At first_node b → a ≡ b
same_history a b e = cc

-- and one history of it
pub one_history : (program : NumberedProgram) (rows : List InputRow) → AreLone rows → (c d : List RunEvent)
    → IsStart program rows (At first_node c) → IsStart program rows (At first_node d) → d ≡ c
one_history program rows lone c d first second =
    let only = (alone program rows lone).only in
    same_history d c (only (At first_node d) second ∙ sym (only (At first_node c) first))
