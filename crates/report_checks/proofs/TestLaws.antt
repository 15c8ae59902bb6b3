-- Laws of tests.
--   fits_is, is_fit       that it is
use Rattle.std.proofs.Common.{◌≡◌, ◌≢◌, ◌==◌, ◌&&◌, not, ℕ, Bool, true, false, length, refl, ap, sym, ◌∙◌}
use Rattle.std.specs.Prelude.{nat_lt, slice_index}
use Rattle.std.proofs.lemmas.Bool.{and_parts, ltb-true, lt-ltb, eqb-true, eq-eqb, ne_eqb}
use Rattle.domain_core.specs.declared.scope_kind.ScopeKind.{ScopeKind}
use Rattle.domain_core.specs.declared.scope_kind.ScopeKind.TheVariants.{Call, Loop as LoopScope}
use Rattle.domain_core.specs.Outlines.{Shape, header_of, kind_of}
use Rattle.flow_facts.specs.declared.fact.Fact.{Fact}
use Rattle.flow_facts.specs.declared.fact.Fact.TheVariants.{Loop, Count, Dead, Total, Pair, Alarm}
use Rattle.ipet_rows.specs.Shaped.{FitsOutline}
use Rattle.recorder_rules.specs.LoopRules.{is_loop, own_of}
use Rattle.report_checks.specs.Tests.{is_inner, fits_outline}

loop_kind : (kind : ScopeKind) → is_loop kind ≡ true → kind ≡ LoopScope
loop_kind LoopScope is = refl
loop_kind Call is = absurd cc

differ : (a b : ℕ) → not (a == b) ≡ true → a ≢ b
differ a b is same = let here : (a == b) ≡ true = eq-eqb a b same in let bad : not true ≡ true = ap (λ (v : Bool). not v) (sym here) ∙ is in absurd cc

both_true : (a b : Bool) → a ≡ true → b ≡ true → (a && b) ≡ true
both_true true b first second = second
both_true false b first second = first

inner_is : (o : Shape) (s n : ℕ) → is_inner o s n ≡ true → (slice_index o.own n ≡ s) × (header_of o.scopes s ≢ n)
inner_is o s n is = let parts = and_parts (own_of o n == s) (not (header_of o.scopes s == n)) is in (eqb-true (own_of o n) s parts.0, differ (header_of o.scopes s) n parts.1)

is_inner_so : (o : Shape) (s n : ℕ) → slice_index o.own n ≡ s → header_of o.scopes s ≢ n → is_inner o s n ≡ true
is_inner_so o s n own other = both_true (own_of o n == s) (not (header_of o.scopes s == n)) (eq-eqb (own_of o n) s own) (ap (λ (v : Bool). not v) (ne_eqb (header_of o.scopes s) n other))

pub fits_is : (o : Shape) (fact : Fact) → fits_outline o fact ≡ true → FitsOutline o fact
fits_is o (Loop s low high) is =
    let parts = and_parts (nat_lt s (length o.scopes)) (is_loop (kind_of o.scopes s)) is in
    (ltb-true s (length o.scopes) parts.0, loop_kind (kind_of o.scopes s) parts.1)
fits_is o (Count s n low high) is =
    let parts = and_parts (nat_lt s (length o.scopes) && is_loop (kind_of o.scopes s)) (nat_lt n (length o.own) && is_inner o s n) is in
    let scope = and_parts (nat_lt s (length o.scopes)) (is_loop (kind_of o.scopes s)) parts.0 in
    let node = and_parts (nat_lt n (length o.own)) (is_inner o s n) parts.1 in
    let inner = inner_is o s n node.1 in
    (ltb-true s (length o.scopes) scope.0, loop_kind (kind_of o.scopes s) scope.1, ltb-true n (length o.own) node.0, inner.0, inner.1)
fits_is o (Dead n) is = ltb-true n (length o.own) is
fits_is o (Total n low high) is = ltb-true n (length o.own) is
fits_is o (Pair s a b) is =
    let parts = and_parts (nat_lt s (length o.scopes) && nat_lt a b) (nat_lt b (length o.own) && (is_inner o s a && is_inner o s b)) is in
    let order = and_parts (nat_lt s (length o.scopes)) (nat_lt a b) parts.0 in
    let node = and_parts (nat_lt b (length o.own)) (is_inner o s a && is_inner o s b) parts.1 in
    let inners = and_parts (is_inner o s a) (is_inner o s b) node.1 in
    let first = inner_is o s a inners.0 in
    let second = inner_is o s b inners.1 in
    (ltb-true s (length o.scopes) order.0, ltb-true a b order.1, ltb-true b (length o.own) node.0, first.0, second.0, first.1, second.1)
fits_is o (Alarm n fault) is = ltb-true n (length o.own) is

pub is_fit : (o : Shape) (fact : Fact) → FitsOutline o fact → fits_outline o fact ≡ true
is_fit o (Loop s low high) fits = both_true (nat_lt s (length o.scopes)) (is_loop (kind_of o.scopes s)) (lt-ltb s (length o.scopes) fits.0) (ap (λ (k : ScopeKind). is_loop k) fits.1)
is_fit o (Count s n low high) fits =
    both_true (nat_lt s (length o.scopes) && is_loop (kind_of o.scopes s)) (nat_lt n (length o.own) && is_inner o s n)
    (both_true (nat_lt s (length o.scopes)) (is_loop (kind_of o.scopes s)) (lt-ltb s (length o.scopes) fits.0) (ap (λ (k : ScopeKind). is_loop k) fits.1))
    (both_true (nat_lt n (length o.own)) (is_inner o s n) (lt-ltb n (length o.own) fits.2) (is_inner_so o s n fits.3 fits.4))
is_fit o (Dead n) fits = lt-ltb n (length o.own) fits
is_fit o (Total n low high) fits = lt-ltb n (length o.own) fits
is_fit o (Pair s a b) fits =
    both_true (nat_lt s (length o.scopes) && nat_lt a b) (nat_lt b (length o.own) && (is_inner o s a && is_inner o s b))
    (both_true (nat_lt s (length o.scopes)) (nat_lt a b) (lt-ltb s (length o.scopes) fits.0) (lt-ltb a b fits.1))
    (both_true (nat_lt b (length o.own)) (is_inner o s a && is_inner o s b) (lt-ltb b (length o.own) fits.2)
    (both_true (is_inner o s a) (is_inner o s b) (is_inner_so o s a fits.3 fits.5) (is_inner_so o s b fits.4 fits.6)))
is_fit o (Alarm n fault) fits = lt-ltb n (length o.own) fits
