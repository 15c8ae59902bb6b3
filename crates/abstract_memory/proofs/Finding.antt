-- What is found from an offset on.
--   IsFirst p least n       n is the least number of p from this one on
--   first_found, none_found what from_least finds
--   turned, turned_past, turned_none   the offsets that are numbers with something added
--   lesser_finds            of which one or the other holds
--   finds_same              of which the same holds
use Rattle.std.proofs.Common.{◌≡◌, ◌⊎◌, inl, inr, ℕ, ℤ, pos, Option, Some, None, ◌<◌, ◌≤◌, ◌^◌, refl, sym, subst, arith}
use Rattle.std.specs.Prelude.{◌≤ℤ◌, ◌+ℤ◌, ◌-ℤ◌, nat_le}
use Rattle.std.specs.Option.{option_map}
use Rattle.std.proofs.lemmas.Int.{ints}
use Rattle.std.proofs.lemmas.Bool.{leb-true, leb-false}
use Rattle.lists.specs.TestLaws.{by_test}
use Rattle.progressions.specs.declared.ends.Progression.{Progression}
use Rattle.progressions.specs.Progressions.{Has, HasSome, IsProgression, IfProgression}
use Rattle.progressions.specs.Parts.{from_least}
use Rattle.progressions.specs.PartLaws.{from_least_has, from_least_is}
use Rattle.progressions.specs.ProgressionLaws.{has_lo}
use Rattle.abstract_memory.specs.NextOffsets.{IsTurned, IsLeast, Finds, lesser_of}

-- n is the least number of p from this one on
pub record IsFirst (p : Progression) (least n : ℤ) : Type 0 where
  pub has : Has p n
  pub above : least ≤ℤ n
  pub first : (other : ℤ) → Has p other → least ≤ℤ other → n ≤ℤ other

pub first_found : (p : Progression) (least n : ℤ) → IsProgression p
    → Some n ≡ option_map (λ (q : Progression). q.lo) (from_least least p) → IsFirst p least n
first_found p least n is found = go (from_least least p) refl found
  where
    go : (o : Option Progression) → from_least least p ≡ o → Some n ≡ option_map (λ (q : Progression). q.lo) o
        → IsFirst p least n
    go None at e = cc
    go (Some q) at e =
        let same : q.lo ≡ n = cc in
        let progression : IsProgression q = subst IfProgression at (from_least_is least p is) in
        let low = (from_least_has least p q.lo is).0 (subst (λ (o : Option Progression). HasSome o q.lo) (sym at) (has_lo q progression)) in
        subst (IsFirst p least) same (record {
          has = low.0;
          above = low.1;
          first = λ other has above. (subst (λ (o : Option Progression). HasSome o other) at ((from_least_has least p other is).1 (has, above))).least;
        })

pub none_found : (p : Progression) (least : ℤ) → IsProgression p
    → None ≡ option_map (λ (q : Progression). q.lo) (from_least least p)
    → (other : ℤ) → Has p other → least ≤ℤ other → ⊥
none_found p least is found other has above = go (from_least least p) refl found
  where
    go : (o : Option Progression) → from_least least p ≡ o → None ≡ option_map (λ (q : Progression). q.lo) o → ⊥
    go None at e = subst (λ (o : Option Progression). HasSome o other) at ((from_least_has least p other is).1 (has, above))
    go (Some q) at e = cc

-- ---- offsets

pub turned : (p : Progression) (turn n : ℤ) (from t : ℕ) → IsFirst p (pos from -ℤ turn) n → pos t ≡ n +ℤ turn
    → t < 2 ^ 32 → IsLeast (IsTurned p turn) from t
turned p turn n from t first is small =
    let low : (pos from -ℤ turn) ≤ℤ n = first.above in
    let same : n ≡ pos t -ℤ turn = omega (arith, ints, is) in record {
      holds = (subst (Has p) same first.has, small);
      above = omega (arith, ints, is, low);
      least = λ other holds above. let least : n ≤ℤ (pos other -ℤ turn) = first.first (pos other -ℤ turn) holds.0 (omega (arith, ints, above)) in omega (arith, ints, is, least);
    }

pub turned_past : (p : Progression) (turn n : ℤ) (from : ℕ) → IsFirst p (pos from -ℤ turn) n
    → pos (2 ^ 32) ≤ℤ (n +ℤ turn) → Finds (IsTurned p turn) from None
turned_past p turn n from first past other holds above =
    let least : n ≤ℤ (pos other -ℤ turn) = first.first (pos other -ℤ turn) holds.0 (omega (arith, ints, above)) in
    let small : other < 2 ^ 32 = holds.1 in omega (arith, ints, past, least, small)

pub turned_none : (p : Progression) (turn : ℤ) (from : ℕ)
    → ((other : ℤ) → Has p other → (pos from -ℤ turn) ≤ℤ other → ⊥) → Finds (IsTurned p turn) from None
turned_none p turn from none other holds above = none (pos other -ℤ turn) holds.0 (omega (arith, ints, above))

-- ---- one or the other

first_of : (P Q : ℕ → Type 0) (from a b : ℕ) → IsLeast P from a → IsLeast Q from b → a ≤ b
    → IsLeast (λ t. P t ⊎ Q t) from a
first_of P Q from a b of_a of_b low = record {
  holds = inl of_a.holds;
  above = of_a.above;
  least = λ other holds above. elim holds [
    | inl h ↦ of_a.least other h above
    | inr h ↦ let second : b ≤ other = of_b.least other h above in omega (arith, low, second)
  ];
}

second_of : (P Q : ℕ → Type 0) (from a b : ℕ) → IsLeast P from a → IsLeast Q from b → b ≤ a
    → IsLeast (λ t. P t ⊎ Q t) from b
second_of P Q from a b of_a of_b low = record {
  holds = inr of_b.holds;
  above = of_b.above;
  least = λ other holds above. elim holds [
    | inl h ↦ let first : a ≤ other = of_a.least other h above in omega (arith, low, first)
    | inr h ↦ of_b.least other h above
  ];
}

pub lesser_finds : (P Q : ℕ → Type 0) (from : ℕ) (a b : Option ℕ) → Finds P from a → Finds Q from b
    → Finds (λ t. P t ⊎ Q t) from (lesser_of a b)
lesser_finds P Q from None None of_a of_b = λ other holds above. elim holds [ inl h ↦ of_a other h above | inr h ↦ of_b other h above ]
lesser_finds P Q from None (Some b) of_a of_b = record {
  holds = inr of_b.holds;
  above = of_b.above;
  least = λ other holds above. elim holds [ inl h ↦ absurd (of_a other h above) | inr h ↦ of_b.least other h above ];
}
lesser_finds P Q from (Some a) None of_a of_b = record {
  holds = inl of_a.holds;
  above = of_a.above;
  least = λ other holds above. elim holds [ inl h ↦ of_a.least other h above | inr h ↦ absurd (of_b other h above) ];
}
lesser_finds P Q from (Some a) (Some b) of_a of_b = by_test (nat_le a b)
    (λ e. rw e (first_of P Q from a b of_a of_b (leb-true a b e)))
    (λ e. rw e (second_of P Q from a b of_a of_b (let high : b < a = leb-false a b e in omega (arith, high))))

-- of which the same holds
pub finds_same : (P Q : ℕ → Type 0) (from : ℕ) (found : Option ℕ) → ((t : ℕ) → P t → Q t) → ((t : ℕ) → Q t → P t)
    → Finds P from found → Finds Q from found
finds_same P Q from None there back of_p = λ other holds above. of_p other (back other holds) above
finds_same P Q from (Some t) there back of_p = record { holds = there t of_p.holds; above = of_p.above; least = λ other holds above. of_p.least other (back other holds) above }
