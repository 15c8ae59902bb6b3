-- What is left to show of `is_closed`.
use Rattle.std.proofs.Common.{◌≡◌, false, true, refl, ◌<◌, ℕ, List, [], All, length, get_or, below_more, sym, ◌∙◌, subst, arith}
use Rattle.graph_walks.specs.Tables.{rows_of}
use Rattle.graph_walks.specs.TableLaws.{row_is, row_low}
use Rattle.graph_walks.proofs.TableLemmas.{rows_closed}
use Rattle.graph_walks.proofs.table.is_closed.Goals as goal

pub loop-row-preserved : goal.loop-row-preserved
loop-row-preserved c =
    let is = row_is c.args.table.now c.loop-row.row-index c.row-item.result c.deref.result.now c.loop-row-test.true c.row-item.is c.deref.ensures.value in
    below_more (λ (u : ℕ). All (λ n. n < length c.args.table.now) (get_or (rows_of c.args.table.now) u [])) c.loop-row.row-index c.loop-row.invariant
    (subst (λ (xs : List ℕ). All (λ n. n < length c.args.table.now) xs) (sym is) (c.are_below.ensures.0 c.if-not-are_below.false))

pub returns-then-not-are_below : goal.returns-then-not-are_below
returns-then-not-are_below c = record {
  closed = λ is. absurd (let e : false ≡ true = is in cc);
  only = λ closed. absurd (
      let yes = c.are_below.ensures.1 (row_low c.args.table.now c.loop-row.row-index c.row-item.result c.deref.result.now c.loop-row-test.true c.row-item.is c.deref.ensures.value closed) in
      let e : false ≡ true = sym c.if-not-are_below.true ∙ yes in
      cc
      );
}

pub returns : goal.returns
returns c = record { closed = λ is. rows_closed c.args.table.now (λ u low. c.loop-row.invariant u (omega arith)); only = λ closed. refl }
