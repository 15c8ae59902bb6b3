-- A machine over values that are seen as those of another machine, and may carry more, as the program that a
-- memory was made for.
--   over value made Own m      the machine: value sees a value, made makes one of the stepper's own, which
--       Own tells
--   IsSeen                     what the order of such values keeps
--   over_is_machine            it keeps the laws of a stepper
--   over_is_along              and its steps lie along the same edges
use Rattle.std.specs.Prelude.{Contains}
use Rattle.std.proofs.Common.{◌≡◌, ℕ, map, sym, ap, subst, ◌∙◌}
use Rattle.lists.specs.ImageLaws.{mapped, image}
use Rattle.domain_core.specs.Orders.{Order}
use Rattle.domain_core.specs.Machines.{Machine, IsMachine, IsAlong}
use Rattle.domain_core.specs.Outlines.{Shape}

-- a point with the made value
abbrev pub made_at : {V T : Type 0} → (T → V) → ℕ × T → ℕ × V
made_at made point = (point.0, made point.1)

-- the machine over the values that are seen
abbrev pub over : {V T C : Type 0} → (V → T) → (T → V) → (V → Type 0) → Machine T C → Machine V C
over value made Own m = record {
  kept = m.kept;
  system = m.system;
  covers = λ v c. m.covers (value v) c;
  sharp = λ v c. m.sharp (value v) c;
  fits = λ n v. Own v × m.fits n (value v);
  first = made m.first;
  next = λ n v. map (made_at made) (m.next n (value v));
  faults = λ n v. m.faults n (value v);
  exit = m.exit;
}

-- what the order of such values keeps
pub record IsSeen {V T C : Type 0} (value : V → T) (made : T → V) (Own : V → Type 0) (m : Machine T C) (base : Order T)
    (order : Order V) : Type 0 where
  pub same : (t : T) → value (made t) ≡ t
  pub own : (t : T) → Own (made t)
  pub alike : (a b : V) → Own a → Own b → base.alike (value a) (value b) → order.alike a b
  pub above : (a b : V) (c : C) → order.under a b → m.covers (value a) c → m.covers (value b) c
  pub joined : (a b : V) → Own a → Own b → value (order.joined a b) ≡ base.joined (value a) (value b)
  pub joined_own : (a b : V) → Own a → Own b → Own (order.joined a b)

module _ {V T C : Type 0} (value : V → T) (made : T → V) (Own : V → Type 0) (m : Machine T C) where
  -- a next point is made of one
  pub record MadeOf (n k : ℕ) (v u : V) : Type 0 where
    pub from : T
    pub among : Contains (m.next n (value v)) (k, from)
    pub is : made from ≡ u

  made_of : (n k : ℕ) (v u : V) → Contains ((over value made Own m).next n v) (k, u) → MadeOf n k v u
  made_of n k v u among =
      let g = mapped (made_at made) (m.next n (value v)) (k, u) among in
      record {
        from = g.0.1;
        among = subst (λ (j : ℕ). Contains (m.next n (value v)) (j, g.0.1)) (ap (λ (p : ℕ × V). p.0) g.2) g.1;
        is = ap (λ (p : ℕ × V). p.1) g.2;
      }

  -- it keeps the laws of a stepper
  pub over_is_machine : (base : Order T) (order : Order V) → IsMachine T C base m → IsSeen value made Own m base order
      → IsMachine V C order (over value made Own m)
  over_is_machine base order laws seen = record {
    first_fits = (seen.own m.first, subst (m.fits 0) (sym (seen.same m.first)) laws.first_fits);
    next_fits = λ n k v u fits among other.
        let g = made_of n k v u among in
        let own = laws.next_fits n k (value v) g.from fits.1 g.among other in
        (subst Own g.is (seen.own g.from), subst (m.fits k) (sym (seen.same g.from) ∙ ap value g.is) own);
    joined_fits = λ n a b first second.
        (seen.joined_own a b first.0 second.0, subst (m.fits n) (sym (seen.joined a b first.0 second.0)) (laws.joined_fits n (value a) (value b) first.1 second.1));
    fits_alike = λ n a b first second. seen.alike a b first.0 second.0 (laws.fits_alike n (value a) (value b) first.1 second.1);
    above_covers = λ a b c under covers. seen.above a b c under covers;
    first_covers = λ c start. subst (λ (t : T). m.covers t c) (sym (seen.same m.first)) (laws.first_covers c start);
    next_covers = λ n k v c d fits covers goes.
        let next = laws.next_covers n k (value v) c d fits.1 covers goes in
        (made next.0, image (made_at made) (m.next n (value v)) (k, next.0) next.1, subst (λ (t : T). m.covers t d) (sym (seen.same next.0)) next.2);
    end_follows = λ n v c fits covers ends.
        let last = laws.end_follows n (value v) c fits.1 covers ends in
        (made last.0, image (made_at made) (m.next n (value v)) (m.exit, last.0) last.1);
    fault_told = λ n v c kind fits covers fails. laws.fault_told n (value v) c kind fits.1 covers fails;
    sharp_covers = λ v c sharp. laws.sharp_covers (value v) c sharp;
    first_sharp = λ c start alone. subst (λ (t : T). m.sharp t c) (sym (seen.same m.first)) (laws.first_sharp c start alone);
    next_sharp = λ n k v c d fits sharp goes.
        let next = laws.next_sharp n k (value v) c d fits.1 sharp goes in
        (made next.0, ap (map (made_at made)) next.1, next.2, subst (λ (t : T). m.sharp t d) (sym (seen.same next.0)) next.3);
    end_sharp = λ n v c fits sharp ends.
        let last = laws.end_sharp n (value v) c fits.1 sharp ends in (made last.0, ap (map (made_at made)) last.1, last.2);
    fault_sharp = λ n v c kind fits sharp fails.
        let fault = laws.fault_sharp n (value v) c kind fits.1 sharp fails in (ap (map (made_at made)) fault.0, fault.1);
  }

  -- and its steps lie along the same edges
  pub over_is_along : (o : Shape) → IsAlong T C o m → IsAlong V C o (over value made Own m)
  over_is_along o along = record {
    exit_is = along.exit_is;
    next_along = λ n k v u fits among. let g = made_of n k v u among in along.next_along n k (value v) g.from fits.1 g.among;
    goes_along = along.goes_along;
    ends_along = along.ends_along;
  }
