-- Reports that are told can be written.
--   bound_fits       the count bound fits 64 bits, where nodes times steps are few
--   told_writable    the report is one that some text spells
use Rattle.std.proofs.Common.{◌≡◌, ◌<◌, ◌≤◌, ◌+◌, ◌*◌, ◌^◌, ℕ, zero, suc, Option, Some, None, Bool, true, false, cond, length, get_or, All, Contains, inr, refl, ap, ◌∙◌, subst, arith}
use Rattle.std.specs.Prelude.{slice_index, IfSome}
use Rattle.std.specs.Option.{option_map_or}
use Rattle.std.proofs.lemmas.Nat.{mul-le}
use Rattle.std.proofs.lemmas.List.{length-map, get_or-map}
use Rattle.lists.specs.MemberLaws.{all_members}
use Rattle.lists.specs.ImageLaws.{all_images}
use Rattle.domain_core.specs.declared.outline.NodeRow.{NodeRow}
use Rattle.domain_core.specs.declared.outline.ScopeRow.{ScopeRow}
use Rattle.domain_core.specs.Outlines.{Outlined, CostsFit, shape_of, IsOutline, no_scope}
use Rattle.graph_walks.specs.ListLaws.{same_default}
use Rattle.flow_facts.specs.declared.fact.Fact.{Fact}
use Rattle.flow_facts.specs.declared.fact.Fact.TheVariants.{Loop, Count, Dead, Total, Pair, Alarm}
use Rattle.flow_facts.specs.Reports.{NamedNode}
use Rattle.flow_facts.specs.Writable.{IsNumber, IsNodeName, FactIsWritable, NodeIsWritable, ScopeIsWritable, IsWritable}
use Rattle.recorder_rules.specs.TotalRules.{spread_at}
use Rattle.report_soundness.specs.ReportTold.{Found, is_stepped, sum_below, told_facts, greatest_total, costs_of, count_bound, named_nodes, told_report}
use Rattle.report_soundness.specs.Lines.{IsLine}
use Rattle.report_soundness.specs.Numbers.{IsOrderlySpread, AreOrderly}
use Rattle.report_soundness.specs.LineLaws.{told_line}
use Rattle.report_soundness.specs.AscentLaws.{told_ascend}

-- ---- the count bound

module _ (o : Outlined) (found : Found) (k : ℕ) (orderly : AreOrderly k found.books) where
  greatest_low : (n : ℕ) → greatest_total found n ≤ k
  greatest_low n = by_stepped (is_stepped found n) (spread_at found.books.totals n) (orderly.totals n)
    where
      by_stepped : (v : Bool) (t : Option (ℕ × ℕ)) → IsOrderlySpread k t
          → cond v (option_map_or (λ span. span.1) t 0) 0 ≤ k
      by_stepped false t is = omega arith
      by_stepped true None is = omega arith
      by_stepped true (Some s) is = is.1

  times_more : (c n m : ℕ) → c * ((n + 1) * m) ≡ c * (n * m) + c * m
  times_more c n m = omega arith

  sum_low : (f : ℕ → ℕ) (c n : ℕ) → ((i : ℕ) → i < n → f i ≤ c * k) → sum_below f n ≤ c * (n * k)
  sum_low f c zero low = omega arith
  sum_low f c (suc n) low =
      let before = sum_low f c n (λ i less. low i (omega arith)) in
      let last = low n (omega arith) in
      let next : suc n ≡ n + 1 = omega arith in
      let more : c * (suc n * k) ≡ c * (n * k) + c * k = ap (λ (m : ℕ). c * (m * k)) next ∙ times_more c n k in
      omega (arith, before, last, more)

  -- the count bound fits 64 bits
  pub bound_fits : CostsFit o → length o.nodes * k ≤ 2 ^ 31 → count_bound o found < 2 ^ 64
  bound_fits costs few =
      let low = sum_low (λ n. slice_index (costs_of o) n * greatest_total found n) (2 ^ 32) (length o.nodes)
      (λ n less. mul-le (slice_index (costs_of o) n) (greatest_total found n) (2 ^ 32) k (let c = costs n less in omega (arith, c)) (greatest_low n)) in
      let most = mul-le (2 ^ 32) (length o.nodes * k) (2 ^ 32) (2 ^ 31) (omega arith) few in
      omega (arith, low, most)

  -- ---- what is told of facts

  span_fits : (t : Option (ℕ × ℕ)) (low high : ℕ) → IsOrderlySpread k t → t ≡ Some (low, high)
      → (low ≤ high) × (high ≤ k)
  span_fits t low high is there = subst (λ (u : Option (ℕ × ℕ)). IsOrderlySpread k u) there is

  module _ (ok : IsOutline (shape_of o)) (small : k < 2 ^ 32) where
    own_length : length (shape_of o).own ≡ length o.nodes
    own_length = length-map o.nodes (λ row. row.scope)

    node_fits : (n : ℕ) → n < length o.nodes → IsNumber n
    node_fits n low = let same = own_length in let few = ok.few_nodes in omega (arith, low, same, few)

    scope_fits : (s : ℕ) → s < length o.scopes → IsNumber s
    scope_fits s low = let few = ok.few_scopes in omega (arith, low, few)

    span_writable : (t : Option (ℕ × ℕ)) (low high : ℕ) → IsOrderlySpread k t → t ≡ Some (low, high)
        → (low ≤ high) × IsNumber high
    span_writable t low high is there = let fits = span_fits t low high is there in let most = fits.1 in (fits.0, omega (arith, most, small))

    line_writable : (fact : Fact) → IsLine o found fact → FactIsWritable 2 fact
    line_writable (Loop s low high) is =
        let span = span_writable (spread_at found.books.loops.spreads s) low high (orderly.loops s) is.1.span in
        (scope_fits s is.1.there, span.0, span.1)
    line_writable (Count s n low high) (within, stepped, counted, span) =
        let fits = span_writable (spread_at found.books.counts.spreads n) low high (orderly.counts n) span.span in
        (refl, scope_fits s within, node_fits n span.there, fits.0, fits.1)
    line_writable (Dead n) is = node_fits n is.0
    line_writable (Total n low high) is =
        let span = span_writable (spread_at found.books.totals n) low high (orderly.totals n) is.1.span in
        (node_fits n is.1.there, span.0, span.1)
    line_writable (Pair s a b) is = (scope_fits s is.0, node_fits a is.1.apart.first, node_fits b is.1.apart.second)
    line_writable (Alarm n fault) is = node_fits n is.0

    module _ (costs : CostsFit o) (names : All (λ row. IsNodeName row.name.items) o.nodes) where
      node_writable : (row : NodeRow) → Contains o.nodes row
          → NodeIsWritable (record { scope = row.scope; cost = row.cost; name = row.name.items })
      node_writable row there =
          let n = there.0 in
          let scope_is : slice_index (shape_of o).own n ≡ row.scope = get_or-map (λ (r : NodeRow). r.scope) o.nodes n row 0 there.1 ∙ ap (λ (r : NodeRow). r.scope) there.2 in
          let cost_is : slice_index (costs_of o) n ≡ row.cost = get_or-map (λ (r : NodeRow). r.cost) o.nodes n row 0 there.1 ∙ ap (λ (r : NodeRow). r.cost) there.2 in
          let same = own_length in
          let within = ok.scopes_within n (let less = there.1 in omega (arith, less, same)) in
          let few = ok.few_scopes in
          let fits = costs n there.1 in
          record {
            scope = omega (arith, scope_is, within, few);
            cost = omega (arith, cost_is, fits);
            name = subst (λ (r : NodeRow). IsNodeName r.name.items) there.2 (names n row there.1);
          }

      scope_writable : (row : ScopeRow) → Contains o.scopes row → ScopeIsWritable row
      scope_writable row there =
          let s = there.0 in
          let same : get_or o.scopes s no_scope ≡ row = same_default o.scopes s no_scope row there.1 ∙ there.2 in
          let few = ok.few_scopes in
          let node = own_length in
          let nodes = ok.few_nodes in
          let header = ok.headers_within s there.1 in
          subst (λ (r : ScopeRow). ScopeIsWritable r) same
          (record {
            parent = by_parent (get_or o.scopes s no_scope).parent (λ p is. let within = ok.parents_within s p there.1 is in let n : IsNumber p = omega (arith, within, few) in n);
            header = omega (arith, header, nodes);
          })
        where
          by_parent : (parent : Option ℕ) → ((p : ℕ) → parent ≡ Some p → IsNumber p) → IfSome parent IsNumber
          by_parent None each = tt
          by_parent (Some p) each = each p refl

      -- the report is one that some text spells
      pub told_writable : count_bound o found < 2 ^ 64 → IsWritable (told_report o found)
      told_writable room = record {
        form = inr refl;
        few_nodes = (let same : length (named_nodes o) ≡ length o.nodes = length-map o.nodes named in let own = own_length in let few = ok.few_nodes in omega (arith, same, own, few));
        nodes = all_images NodeIsWritable named o.nodes node_writable;
        few_scopes = (let few = ok.few_scopes in omega (arith, few));
        scopes = all_members ScopeIsWritable o.scopes scope_writable;
        facts = all_members (FactIsWritable 2) (told_facts o found) (λ fact there. line_writable fact (told_line o found fact there));
        ascends = told_ascend o found;
        count_bound = room;
        path_bound = tt;
        certificate = tt;
      }
        where
          named : NodeRow → NamedNode
          named row = record { scope = row.scope; cost = row.cost; name = row.name.items }

-- and so it is where nodes times steps are few
pub few_writable : (o : Outlined) (found : Found) (k : ℕ) → IsOutline (shape_of o) → CostsFit o
    → All (λ row. IsNodeName row.name.items) o.nodes → AreOrderly k found.books → length o.nodes * k ≤ 2 ^ 31
    → IsWritable (told_report o found)
few_writable o found k ok costs names orderly few =
    let own : length (shape_of o).own ≡ length o.nodes = length-map o.nodes (λ row. row.scope) in
    let some = ok.some in
    let one = mul-le 1 k (length o.nodes) k (omega (arith, own, some)) (omega arith) in
    told_writable o found k orderly ok (omega (arith, one, few)) costs names (bound_fits o found k orderly costs few)
