-- Chains: a first value, and then parts of which each takes in the value so far, as operators of one rank do from left
-- to right.
--   InTurn goes_on p n x at y rest   n parts, of which the first takes in x, lead to y
--   chain goes_on p x                as many parts as the chain goes on for
--   grow goes_on p x                 the same as a rule
use Rattle.std.proofs.Common.{◌≡◌, ℕ, zero, suc, ◌≤◌, ◌<◌, Bool, true, false, cond, Result, Ok, Err, refl, ap, subst, arith}
use Rattle.grammar.specs.Form.{At, Form, and_then, left}
use Rattle.grammar.specs.Exact.{IsExact, Says, ok_no_err}
use Rattle.grammar.specs.ExactLaws.{ok_is}
use Rattle.grammar.specs.Rule.{Rule}

module _ {T R F A : Type 0} (goes_on : A → At T R → Bool) (p : A → Form T R F A) where
  abbrev pub InTurn : ℕ → A → At T R → A → At T R → Type 0
  InTurn zero x at y rest = (y ≡ x) × (rest ≡ at)
  InTurn (suc n) x at y rest = (goes_on x at ≡ true) × ((z : A) × (mid : At T R) × (p x).Spells at z mid × InTurn n z mid y rest)

  -- at most so many parts
  abbrev pub in_turn : ℕ → A → At T R → Result (A × At T R) F
  in_turn zero x at = Ok (x, at)
  in_turn (suc n) x at = cond (goes_on x at) (and_then ((p x).reading at) (λ r. in_turn n r.0 r.1)) (Ok (x, at))

  abbrev pub chain : A → Form T R F A
  chain x = record {
    Spells = λ at y rest. ((n : ℕ) × InTurn n x at y rest) × (goes_on y rest ≡ false);
    Departs = λ at f. (n : ℕ) × (y : A) × (mid : At T R) × InTurn n x at y mid × (goes_on y mid ≡ true) × (p y).Departs mid f;
    reading = λ at. in_turn (suc (left at)) x at;
  }

  module _ (hp : (x : A) → IsExact true (p x)) where
    chain_joined : (x : A) (at : At T R) (o : goes_on x at ≡ true) (z : A × At T R) → (p x).Spells at z.0 z.1
        → (r : Result (A × At T R) F) → Says (chain z.0) z.1 r → Says (chain x) at r
    chain_joined x at o z hs (Ok y) h = ((suc h.0.0, (o, (z.0, z.1, hs, h.0.1))), h.1)
    chain_joined x at o z hs (Err f) h = (suc h.0, h.1, h.2, (o, (z.0, z.1, hs, h.3)), h.4, h.5)

    chain_first : (n : ℕ) (ih : (y : A) (bt : At T R) → left bt < n → Says (chain y) bt (in_turn n y bt)) (x : A) (at : At T R) → left at < suc n → goes_on x at ≡ true
        → (r : Result (A × At T R) F) → (p x).reading at ≡ r → Says (chain x) at (and_then r (λ r. in_turn n r.0 r.1))
    chain_first n ih x at lt o (Ok z) e = let less : left z.1 < left at = (hp x).shrinks at z e in chain_joined x at o z (subst (Says (p x) at) e ((hp x).holds at)) (in_turn n z.0 z.1) (ih z.0 z.1 (omega arith))
    chain_first n ih x at lt o (Err f) e = (0, x, at, (refl, refl), o, subst (Says (p x) at) e ((hp x).holds at))

    chain_at : (n : ℕ) (ih : (y : A) (bt : At T R) → left bt < n → Says (chain y) bt (in_turn n y bt)) (x : A) (at : At T R) → left at < suc n
        → (b : Bool) → goes_on x at ≡ b → Says (chain x) at (cond b (and_then ((p x).reading at) (λ r. in_turn n r.0 r.1)) (Ok (x, at)))
    chain_at n ih x at lt true o = chain_first n ih x at lt o ((p x).reading at) refl
    chain_at n ih x at lt false o = ((0, (refl, refl)), o)

    chain_holds : (n : ℕ) (x : A) (at : At T R) → left at < n → Says (chain x) at (in_turn n x at)
    chain_holds zero x at lt = absurd (omega arith)
    chain_holds (suc n) x at lt = chain_at n (chain_holds n) x at lt (goes_on x at) refl

    chain_ok : (n k : ℕ) (x : A) (at : At T R) → left at < n → (y : A) (rest : At T R) → InTurn k x at y rest
        → goes_on y rest ≡ false → in_turn n x at ≡ Ok (y, rest)
    chain_ok zero k x at lt y rest h o = absurd (omega arith)
    chain_ok (suc n) zero x at lt y rest h o = let o' : goes_on x at ≡ false = (rw (h.0, h.1) at o) in rw (o', h.0, h.1) refl
    chain_ok (suc n) (suc k) x at lt y rest h o =
        let z = h.1.0 in
        let mid = h.1.1 in
        let e : (p x).reading at ≡ Ok (z, mid) = (hp x).alone at (Ok (z, mid)) h.1.2 in
        let less : left mid < left at = (hp x).shrinks at (z, mid) e in
        rw (h.0, e) (chain_ok n k z mid (omega arith) y rest h.1.3 o)

    chain_err : (n k : ℕ) (x : A) (at : At T R) → left at < n → (y : A) (mid : At T R) (f : F) → InTurn k x at y mid
        → goes_on y mid ≡ true → (p y).Departs mid f → in_turn n x at ≡ Err f
    chain_err zero k x at lt y mid f h o d = absurd (omega arith)
    chain_err (suc n) zero x at lt y mid f h o d =
        let o' : goes_on x at ≡ true = (rw (h.0, h.1) at o) in
        let d' : (p x).Departs at f = (rw (h.0, h.1) at d) in
        rw (o', (hp x).alone at (Err f) d') refl
    chain_err (suc n) (suc k) x at lt y mid f h o d =
        let z = h.1.0 in
        let next = h.1.1 in
        let e : (p x).reading at ≡ Ok (z, next) = (hp x).alone at (Ok (z, next)) h.1.2 in
        let less : left next < left at = (hp x).shrinks at (z, next) e in
        rw (h.0, e) (chain_err n k z next (omega arith) y mid f h.1.3 o d)

    chain_alone : (x : A) (at : At T R) (r : Result (A × At T R) F) → Says (chain x) at r → (chain x).reading at ≡ r
    chain_alone x at (Ok y) h = chain_ok (suc (left at)) h.0.0 x at (omega arith) y.0 y.1 h.0.1 h.1
    chain_alone x at (Err f) h = chain_err (suc (left at)) h.0 x at (omega arith) h.1 h.2 f h.3 h.4 h.5

    same_left : (a : A) (rest : At T R) (x : A × At T R) → ◌≡◌ {A = Result (A × At T R) F} (Ok (a, rest)) (Ok x)
        → left x.1 ≤ left rest
    same_left a rest x e = let g : left rest ≡ left x.1 = ap (λ (r : A × At T R). left r.1) (ok_is {F = F} (a, rest) x e) in omega arith

    chain_first_shrinks : (n : ℕ) (ih : (y : A) (bt : At T R) (z : A × At T R) → in_turn n y bt ≡ Ok z → left z.1 ≤ left bt) (x : A) (at : At T R) (y : A × At T R)
        (r : Result (A × At T R) F) → (p x).reading at ≡ r → and_then r (λ r. in_turn n r.0 r.1) ≡ Ok y → left y.1 ≤ left at
    chain_first_shrinks n ih x at y (Ok z) e h = omega (arith, ih z.0 z.1 y h, (hp x).shrinks at z e)
    chain_first_shrinks n ih x at y (Err f) e h = ok_no_err y f h

    chain_at_shrinks : (n : ℕ) (ih : (y : A) (bt : At T R) (z : A × At T R) → in_turn n y bt ≡ Ok z → left z.1 ≤ left bt) (x : A) (at : At T R) (y : A × At T R)
        (b : Bool) → cond b (and_then ((p x).reading at) (λ r. in_turn n r.0 r.1)) (Ok (x, at)) ≡ Ok y → left y.1 ≤ left at
    chain_at_shrinks n ih x at y true h = chain_first_shrinks n ih x at y ((p x).reading at) refl h
    chain_at_shrinks n ih x at y false h = same_left x at y h

    chain_shrinks : (n : ℕ) (x : A) (at : At T R) (y : A × At T R) → in_turn n x at ≡ Ok y → left y.1 ≤ left at
    chain_shrinks zero x at y h = same_left x at y h
    chain_shrinks (suc n) x at y h = chain_at_shrinks n (chain_shrinks n) x at y (goes_on x at) h

    pub chain_exact : (x : A) → IsExact false (chain x)
    chain_exact x = record {
      holds = λ at. chain_holds (suc (left at)) x at (omega arith);
      alone = chain_alone x;
      shrinks = λ at y. chain_shrinks (suc (left at)) x at y;
    }

-- as many parts as the chain goes on for, each of which takes in the value so far
abbrev pub grow : {T R F A : Type 0} → (A → At T R → Bool) → (A → Rule T R F true A) → A → Rule T R F false A
grow goes_on p x = record { form = chain goes_on (λ y. (p y).form) x; exact = chain_exact goes_on (λ y. (p y).form) (λ y. (p y).exact) x }
