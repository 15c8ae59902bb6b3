-- Laws of made machines.
--   IsOrdered                         what the order of such values keeps
--   made_is_machine                   it keeps the laws of a stepper
--   made_is_along                     and its steps lie along the same edges
use Rattle.std.specs.Prelude.{Contains}
use Rattle.std.proofs.Common.{◌≡◌, ℕ, List, [], ◌∷◌, map, sym, ap, subst}
use Rattle.lists.specs.ImageLaws.{mapped, image}
use Rattle.lists.specs.MemberLaws.{first_member}
use Rattle.domain_core.specs.FaultSets.{no_faults}
use Rattle.domain_core.specs.Orders.{Order}
use Rattle.domain_core.specs.Machines.{Machine, IsMachine, IsAlong}
use Rattle.domain_core.specs.Outlines.{Shape}
use Rattle.transfer_rules.specs.MadeMachines.{made_at, by_made, IsMade, MadeOf}

-- what the order of such values keeps
pub record IsOrdered {V T C : Type 0} (value : V → T) (Own : V → Type 0) (m : Machine T C) (base : Order T)
    (order : Order V) : Type 0 where
  pub alike : (a b : V) → Own a → Own b → base.alike (value a) (value b) → order.alike a b
  pub above : (a b : V) (c : C) → order.under a b → m.covers (value a) c → m.covers (value b) c
  pub joined : (a b : V) → order.alike a b → value (order.joined a b) ≡ base.joined (value a) (value b)
  pub joined_own : (a b : V) → Own a → order.alike a b → Own (order.joined a b)

module _ {V T C : Type 0} (value : V → T) (made : T → V) (Own : V → Type 0) (Inside : C → Type 0) (m : Machine T C) where
  made_of : (n k : ℕ) (v u : V) → Contains ((by_made value made Own Inside m).next n v) (k, u)
      → MadeOf {V = V} {T = T} {C = C} value made Own Inside m n k v u
  made_of n k v u among =
      let g = mapped (made_at made) (m.next n (value v)) (k, u) among in
      record {
        from = g.0.1;
        among = subst (λ (j : ℕ). Contains (m.next n (value v)) (j, g.0.1)) (ap (λ (p : ℕ × V). p.0) g.2) g.1;
        is = ap (λ (p : ℕ × V). p.1) g.2;
      }

  module _ (base : Order T) (order : Order V) (laws : IsMachine T C base m) (is : IsMade value made Own Inside m) (ordered : IsOrdered value Own m base order) where
    alike : (n : ℕ) (a b : V) → Own a × m.fits n (value a) → Own b × m.fits n (value b) → order.alike a b
    alike n a b first second = ordered.alike a b first.0 second.0 (laws.fits_alike n (value a) (value b) first.1 second.1)

    next_covers : (n k : ℕ) (v : V) (c d : C) → Own v × m.fits n (value v) → m.covers (value v) c × Inside c
        → m.system.goes n c k d
        → (u : V) × Contains ((by_made value made Own Inside m).next n v) (k, u) × (m.covers (value u) d × Inside d)
    next_covers n k v c d fits covers goes =
        let next = laws.next_covers n k (value v) c d fits.1 covers.0 goes in
        let inside = is.goes n k next.0 c d goes covers.1 next.2 in
        let there = laws.next_fits n k (value v) next.0 fits.1 next.1 (is.inner n k c d goes) in
        (made next.0, image (made_at made) (m.next n (value v)) (k, next.0) next.1, (is.covers k next.0 d there inside next.2, inside))

    -- the one next point of a sharp value
    next_sharp : (n k : ℕ) (v : V) (c d : C) → Own v × m.fits n (value v) → m.sharp (value v) c × Inside c
        → m.system.goes n c k d
        → (u : V) × ((by_made value made Own Inside m).next n v ≡ (k, u) ∷ []) × (m.faults n (value v) ≡ no_faults) × (m.sharp (value u) d × Inside d)
    next_sharp n k v c d fits sharp goes =
        let next = laws.next_sharp n k (value v) c d fits.1 sharp.0 goes in
        let inside = is.goes n k next.0 c d goes sharp.1 (laws.sharp_covers next.0 d next.3) in
        let among : Contains (m.next n (value v)) (k, next.0) = subst (λ (points : List (ℕ × T)). Contains points (k, next.0)) (sym next.1) (first_member (k, next.0) []) in
        let there = laws.next_fits n k (value v) next.0 fits.1 among (is.inner n k c d goes) in
        (made next.0, ap (map (made_at made)) next.1, next.2, (is.sharp k next.0 d there inside next.3, inside))

    -- it keeps the laws of a stepper
    pub made_is_machine : IsMachine V C order (by_made value made Own Inside m)
    made_is_machine = record {
      first_fits = (is.own 0 m.first laws.first_fits, is.fits 0 m.first laws.first_fits);
      next_fits = λ n k v u fits among other.
          let g = made_of n k v u among in
          let there = laws.next_fits n k (value v) g.from fits.1 g.among other in
          (subst Own g.is (is.own k g.from there), subst (λ (w : V). m.fits k (value w)) g.is (is.fits k g.from there));
      joined_fits = λ n a b first second.
          let same = alike n a b first second in
          (ordered.joined_own a b first.0 same, subst (m.fits n) (sym (ordered.joined a b same)) (laws.joined_fits n (value a) (value b) first.1 second.1));
      fits_alike = alike;
      above_covers = λ a b c under covers. (ordered.above a b c under covers.0, covers.1);
      first_covers = λ c start. (is.covers 0 m.first c laws.first_fits (is.starts c start) (laws.first_covers c start), is.starts c start);
      next_covers = next_covers;
      end_follows = λ n v c fits covers ends.
          let last = laws.end_follows n (value v) c fits.1 covers.0 ends in
          (made last.0, image (made_at made) (m.next n (value v)) (m.exit, last.0) last.1);
      fault_told = λ n v c kind fits covers fails. laws.fault_told n (value v) c kind fits.1 covers.0 fails;
      sharp_covers = λ v c sharp. (laws.sharp_covers (value v) c sharp.0, sharp.1);
      first_sharp = λ c start alone. (is.sharp 0 m.first c laws.first_fits (is.starts c start) (laws.first_sharp c start alone), is.starts c start);
      next_sharp = next_sharp;
      end_sharp = λ n v c fits sharp ends.
          let last = laws.end_sharp n (value v) c fits.1 sharp.0 ends in (made last.0, ap (map (made_at made)) last.1, last.2);
      fault_sharp = λ n v c kind fits sharp fails.
          let fault = laws.fault_sharp n (value v) c kind fits.1 sharp.0 fails in (ap (map (made_at made)) fault.0, fault.1);
    }

  -- and its steps lie along the same edges
  pub made_is_along : (o : Shape) → IsAlong T C o m → IsAlong V C o (by_made value made Own Inside m)
  made_is_along o along = record {
    exit_is = along.exit_is;
    next_along = λ n k v u fits among. let g = made_of n k v u among in along.next_along n k (value v) g.from fits.1 g.among;
    goes_along = along.goes_along;
    ends_along = along.ends_along;
  }
