-- Files that hold what was read.
--   files_of readings       under each name what its first reading gave
--   HaveOneContent readings     no name was read with two contents
--   ReadingsCanBeHeld       the law: then these files hold what was read
use Rattle.std.proofs.Common.{◌≡◌, ◌<◌, ℕ, zero, suc, Bool, true, false, List, [], ◌∷◌, length, get_or, Option, None, Some, refl, sym, ap, ◌∙◌, arith}
use Rattle.std.specs.Prelude.{Contains, if◌then◌else◌}
use Rattle.std.specs.Str.{bytes_eq}
use Rattle.std.proofs.lemmas.List.Elements.{Contains-get_or}
use Rattle.std.proofs.lemmas.Slice.Eq.{bytes_eq-Decides}
use Rattle.flow_base.specs.Outside.{Files}
use Rattle.command_plans.specs.Readings.{Reading, HoldRead}

-- under each name what its first reading gave
abbrev pub files_of : List Reading → Files
files_of [] name = None
files_of (reading ∷ rest) name = if bytes_eq name reading.name then Some reading.bytes else files_of rest name

-- no name was read with two contents
abbrev pub HaveOneContent : List Reading → Type 0
HaveOneContent readings = (a b : Reading) → Contains readings a → Contains readings b → a.name ≡ b.name → a.bytes ≡ b.bytes

-- then these files hold what was read
abbrev pub ReadingsCanBeHeld : Type 0
ReadingsCanBeHeld = (readings : List Reading) → HaveOneContent readings → HoldRead (files_of readings) readings

-- ---- the first reading of a name

record IsFirst (readings : List Reading) (r : Reading) : Type 0 where
  first : Reading
  there : Contains readings first
  named : first.name ≡ r.name
  found : files_of readings r.name ≡ Some first.bytes

first_in : (readings : List Reading) (r : Reading) → Contains readings r → IsFirst readings r
first_in [] r (k, less, at) = absurd (omega (arith, less))
first_in (x ∷ xs) r at = by_test (first_in xs r) (bytes_eq r.name x.name) refl at
  where
    by_test : (Contains xs r → IsFirst xs r) → (same : Bool) → bytes_eq r.name x.name ≡ same → Contains (x ∷ xs) r → IsFirst (x ∷ xs) r
    by_test in_rest true is at = record {
      first = x;
      there = (zero, omega arith, refl);
      named = sym ((bytes_eq-Decides r.name x.name).0 is);
      found = ap (λ (b : Bool). if b then Some x.bytes else files_of xs r.name) is;
    }
    by_test in_rest false is (zero, less, here) = let same = (bytes_eq-Decides r.name x.name).1 (ap (λ (y : Reading). y.name) (sym here)) in cc
    by_test in_rest false is (suc k, less, here) =
        let later = in_rest (k, omega (arith, less), here) in
        record {
          first = later.first;
          there = (suc later.there.0, omega (arith, later.there.1), later.there.2);
          named = later.named;
          found = ap (λ (b : Bool). if b then Some x.bytes else files_of xs r.name) is ∙ later.found;
        }

pub readings_held : ReadingsCanBeHeld
readings_held readings one k d less =
    let r = get_or readings k d in
    let there = Contains-get_or readings k d less in
    let it = first_in readings r there in
    it.found ∙ ap (λ (bytes : List ℕ). Some bytes) (one it.first r it.there there it.named)
