-- The factors are those of the rule; the line keeps its own place, so its common divisor is above 0.
use Rattle.std.proofs.Common.{◌≡◌, ℕ, ℤ, pos, ap, ◌∙◌, List}
use Rattle.std.specs.Prelude.{◌<ℤ◌}
use Rattle.std.specs.Int.{int_div_euclid}
use Rattle.whole_numbers.specs.Numbers.{gcd}
use Rattle.ipet_rows.specs.Sums.{coefficient}
use Rattle.simplex_tableau.specs.Reducing.{gcd_from, divided_terms}
use Rattle.simplex_tableau.proofs.Freed.{mixture_above, freed_wide, freed_is}
use Rattle.simplex_tableau.proofs.freeing.freed_terms.Goals as goal

pub returns-in_default : goal.returns-in_default
returns-in_default c =
    let p = coefficient c.args.row.now c.args.place in
    let q = coefficient c.args.line.now c.args.place in
    let a_is : c.quotient-a.result ≡ int_div_euclid p (gcd p q) =
    cc (c.quotient-a.ensures, c.common_divisor-divisor.ensures, c.number_in-there.ensures, c.number_in-here.ensures) in
    let b_is : c.quotient-b.result ≡ int_div_euclid q (gcd p q) =
    cc (c.quotient-b.ensures, c.common_divisor-divisor.ensures, c.number_in-there.ensures, c.number_in-here.ensures) in
    let wide = rw c.in_default.is at c.in_ok-mixture.ensures in
    freed_wide c.args.place c.args.own c.quotient-a.result c.quotient-b.result c.args.row.now c.args.line.now a_is b_is c.requires.here wide

pub common_divisor_of-by-requires : goal.common_divisor_of-by-requires
common_divisor_of-by-requires c =
    let p = coefficient c.args.row.now c.args.place in
    let q = coefficient c.args.line.now c.args.place in
    let a_is : c.quotient-a.result ≡ int_div_euclid p (gcd p q) =
    cc (c.quotient-a.ensures, c.common_divisor-divisor.ensures, c.number_in-there.ensures, c.number_in-here.ensures) in
    let m = rw c.in-Some.is at c.in_ok-mixture.ensures in
    rw (c.number_in-first.ensures, c.as_slice.ensures.value)
    (mixture_above c.args.place c.args.own c.quotient-a.result c.quotient-b.result c.args.row.now c.args.line.now c.in-Some.mixture.items a_is m c.requires.place c.requires.own c.requires.apart)

pub returns : goal.returns
returns c =
    let p = coefficient c.args.row.now c.args.place in
    let q = coefficient c.args.line.now c.args.place in
    let a_is : c.quotient-a.result ≡ int_div_euclid p (gcd p q) =
    cc (c.quotient-a.ensures, c.common_divisor-divisor.ensures, c.number_in-there.ensures, c.number_in-here.ensures) in
    let b_is : c.quotient-b.result ≡ int_div_euclid q (gcd p q) =
    cc (c.quotient-b.ensures, c.common_divisor-divisor.ensures, c.number_in-there.ensures, c.number_in-here.ensures) in
    let m = rw c.in-Some.is at c.in_ok-mixture.ensures in
    let line = c.in-Some.mixture.items in
    let first_is : c.number_in-first.result ≡ coefficient c.in-Some.mixture.items c.args.own = c.number_in-first.ensures
    ∙ ap (λ (ts : List (ℕ × ℤ)). coefficient ts c.args.own) c.as_slice.ensures.value in
    let above : pos 0 <ℤ c.number_in-first.result = rw first_is
    (mixture_above c.args.place c.args.own c.quotient-a.result c.quotient-b.result c.args.row.now c.args.line.now line a_is m c.requires.place c.requires.own c.requires.apart) in
    let by_is : c.common_divisor_of-by.result ≡ gcd_from c.number_in-first.result c.in-Some.mixture.items = c.common_divisor_of-by.ensures.value
    ∙ ap (λ (ts : List (ℕ × ℤ)). gcd_from c.number_in-first.result ts) c.as_slice-2.ensures.value in
    let same : c.in_ok-divided.field-0.items ≡ divided_terms c.common_divisor_of-by.result c.in-Some.mixture.items = c.in_ok-divided.ensures
    ∙ ap (λ (ts : List (ℕ × ℤ)). divided_terms c.common_divisor_of-by.result ts) c.as_slice-3.ensures.value in
    freed_is c.args.place c.args.own c.quotient-a.result c.quotient-b.result c.args.row.now c.args.line.now a_is b_is
    c.number_in-first.result c.common_divisor_of-by.result line c.in_ok-divided.field-0.items m first_is above by_is same
