-- Laws of exact.
--   ok_is    what stands in an Ok is one thing
--   weaker   less may be said of what is taken
use Rattle.std.proofs.Common.{◌≡◌, ℕ, zero, suc, ◌≤◌, ◌<◌, ◌||◌, ◌-◌, Bool, true, false, cond, List, [], ◌∷◌, length, Result, Ok, Err, Option, Some, None, inl, inr, refl, sym, ap, subst, arith}
use Rattle.std.specs.Prelude.{nat_le}
use Rattle.grammar.specs.Form.{At, first_of, others_of, first, after, left, Form, and_then, fit_first, one, judged, made, refused, bound, spent, InARow, in_a_row, row, AtMostOne, at_most_one, exactly_form}
use Rattle.grammar.specs.Exact.{Fewer, ok_no_err, Says, IsExact}

-- no more, whatever some is
no_more : (some : Bool) (m n : ℕ) → Fewer some m n → m ≤ n
no_more true m n h = omega arith
no_more false m n h = h

fewer_same : (m n : ℕ) → m ≡ n → Fewer false n m
fewer_same m n e = omega arith

fewer_both : (a b : Bool) (k m n : ℕ) → Fewer a m n → Fewer b k m → Fewer (a || b) k n
fewer_both true true k m n h i = omega arith
fewer_both true false k m n h i = omega arith
fewer_both false true k m n h i = omega arith
fewer_both false false k m n h i = omega arith

-- what stands in an Ok is one thing
pub ok_is : {A F : Type 0} (x y : A) → ◌≡◌ {A = Result A F} (Ok x) (Ok y) → x ≡ y
ok_is x y e = cc

module _ {T R F : Type 0} where
  left_is : {A : Type 0} (a : A) (rest : At T R) (x : A × At T R)
      → ◌≡◌ {A = Result (A × At T R) F} (Ok (a, rest)) (Ok x) → left rest ≡ left x.1
  left_is {A = A} a rest x e = ap (λ (r : A × At T R). left r.1) (ok_is {F = F} (a, rest) x e)

  module _ {A : Type 0} (out : At T R → F) (fit : T → At T R → Result A F) where
    one_holds : (at : At T R) (r : Result A F) → fit_first out fit (first at) at ≡ r
        → Says {T = T} {R = R} {F = F} (one out fit) at (and_then r (λ x. Ok (x, after at)))
    one_holds at (Ok x) e = (e, refl)
    one_holds at (Err f) e = e

    one_alone : (at : At T R) (r : Result (A × At T R) F) → Says {T = T} {R = R} {F = F} (one out fit) at r
        → (one out fit).reading at ≡ r
    one_alone at (Ok x) h = rw h.0 (ap (λ (r : At T R). Ok (x.0, r)) (sym h.1))
    one_alone at (Err f) h = rw h refl

    one_shrinks : (at : At T R) (ts : List T) (x : A × At T R) (r : Result A F) → fit_first out fit (first_of ts) at ≡ r
        → and_then r (λ x. Ok (x, record { ahead = others_of ts; room = at.room })) ≡ Ok x → left x.1 < length ts
    one_shrinks at [] x (Ok a) k e = ok_no_err a (out at) k
    one_shrinks at (t ∷ ts) x (Ok a) k e = let g = left_is a (record { ahead = ts; room = at.room }) x e in omega arith
    one_shrinks at ts x (Err f) k e = ok_no_err x f e

    pub one_exact : IsExact {T = T} {R = R} {F = F} true (one out fit)
    one_exact = record {
      holds = λ at. one_holds at (fit_first out fit (first at) at) refl;
      alone = one_alone;
      shrinks = λ at x e. one_shrinks at at.ahead x (fit_first out fit (first at) at) refl e;
    }

  module _ {A : Type 0} (fit : At T R → Result A F) where
    judged_holds : (at : At T R) (r : Result A F) → fit at ≡ r
        → Says {T = T} {R = R} {F = F} (judged fit) at (and_then r (λ x. Ok (x, at)))
    judged_holds at (Ok x) e = (e, refl)
    judged_holds at (Err f) e = e

    judged_alone : (at : At T R) (r : Result (A × At T R) F) → Says {T = T} {R = R} {F = F} (judged fit) at r
        → (judged fit).reading at ≡ r
    judged_alone at (Ok x) h = rw h.0 (ap (λ (r : At T R). Ok (x.0, r)) (sym h.1))
    judged_alone at (Err f) h = rw h refl

    judged_shrinks : (at : At T R) (x : A × At T R) (r : Result A F) → and_then r (λ x. Ok (x, at)) ≡ Ok x
        → left x.1 ≤ left at
    judged_shrinks at x (Ok a) e = fewer_same _ _ (left_is a at x e)
    judged_shrinks at x (Err f) e = ok_no_err x f e

    pub judged_exact : IsExact {T = T} {R = R} {F = F} false (judged fit)
    judged_exact = record {
      holds = λ at. judged_holds at (fit at) refl;
      alone = judged_alone;
      shrinks = λ at x e. judged_shrinks at x (fit at) e;
    }

  module _ {A : Type 0} (a : A) where
    made_alone : (at : At T R) (r : Result (A × At T R) F) → Says {T = T} {R = R} {F = F} (made a) at r
        → (made {F = F} a).reading at ≡ r
    made_alone at (Ok x) h = rw (h.0, h.1) refl
    made_alone at (Err f) h = absurd h

    pub made_exact : IsExact {T = T} {R = R} {F = F} false (made a)
    made_exact = record {
      holds = λ at. (refl, refl);
      alone = made_alone;
      shrinks = λ at x e. fewer_same _ _ (left_is a at x e);
    }

  module _ {A : Type 0} (fault : At T R → F) (some : Bool) where
    refused_alone : (at : At T R) (r : Result (A × At T R) F)
        → Says {T = T} {R = R} {F = F} (refused {A = A} fault) at r → (refused {A = A} fault).reading at ≡ r
    refused_alone at (Ok x) h = absurd h
    refused_alone at (Err f) h = rw h refl

    pub refused_exact : IsExact {T = T} {R = R} {F = F} some (refused {A = A} fault)
    refused_exact = record {
      holds = λ at. refl;
      alone = refused_alone;
      shrinks = λ at x e. ok_no_err x (fault at) e;
    }

  module _ (of : R → ℕ) (leaving : R → ℕ → R) (over : F) (amount : ℕ) where
    abbrev less : At T R → At T R
    less at = record { ahead = at.ahead; room = leaving at.room (of at.room - amount) }

    spent_holds : (at : At T R) (b : Bool) → nat_le amount (of at.room) ≡ b
        → Says {T = T} {R = R} {F = F} (spent of leaving over amount) at (cond b (Ok (tt, less at)) (Err over))
    spent_holds at true e = (e, refl)
    spent_holds at false e = (e, refl)

    spent_alone : (at : At T R) (r : Result (Unit {0} × At T R) F)
        → Says {T = T} {R = R} {F = F} (spent of leaving over amount) at r
        → (spent of leaving over amount).reading at ≡ r
    spent_alone at (Ok x) h = rw h.0 (ap (λ (r : At T R). Ok (x.0, r)) (sym h.1))
    spent_alone at (Err f) h = rw h.0 (ap (λ (g : F). Err g) (sym h.1))

    spent_shrinks : (at : At T R) (x : Unit {0} × At T R) (b : Bool) → cond b (Ok (tt, less at)) (Err over) ≡ Ok x
        → left x.1 ≤ left at
    spent_shrinks at x true e = fewer_same _ _ (left_is tt (less at) x e)
    spent_shrinks at x false e = ok_no_err x over e

    pub spent_exact : IsExact {T = T} {R = R} {F = F} false (spent of leaving over amount)
    spent_exact = record {
      holds = λ at. spent_holds at (nat_le amount (of at.room)) refl;
      alone = spent_alone;
      shrinks = λ at x e. spent_shrinks at x (nat_le amount (of at.room)) e;
    }

  module _ {A B : Type 0} {a b : Bool} {p : Form T R F A} {q : A → Form T R F B} (hp : IsExact a p) (hq : (x : A) → IsExact b (q x)) where
    bound_second : (at : At T R) (x : A × At T R) → p.Spells at x.0 x.1 → (r : Result (B × At T R) F)
        → (q x.0).reading x.1 ≡ r → Says {T = T} {R = R} {F = F} (bound p q) at r
    bound_second at x hs (Ok y) e = (x.0, x.1, hs, subst (Says {T = T} {R = R} {F = F} (q x.0) x.1) e ((hq x.0).holds x.1))
    bound_second at x hs (Err f) e = inr (x.0, x.1, hs, subst (Says {T = T} {R = R} {F = F} (q x.0) x.1) e ((hq x.0).holds x.1))

    bound_holds : (at : At T R) (r : Result (A × At T R) F) → p.reading at ≡ r
        → Says {T = T} {R = R} {F = F} (bound p q) at (and_then r (λ r. (q r.0).reading r.1))
    bound_holds at (Ok x) e = bound_second at x (subst (Says {T = T} {R = R} {F = F} p at) e (hp.holds at)) ((q x.0).reading x.1) refl
    bound_holds at (Err f) e = inl (subst (Says {T = T} {R = R} {F = F} p at) e (hp.holds at))

    bound_alone : (at : At T R) (r : Result (B × At T R) F) → Says {T = T} {R = R} {F = F} (bound p q) at r
        → (bound p q).reading at ≡ r
    bound_alone at (Ok y) h = rw (hp.alone at (Ok (h.0, h.1)) h.2) ((hq h.0).alone h.1 (Ok y) h.3)
    bound_alone at (Err f) (inl d) = rw (hp.alone at (Err f) d) refl
    bound_alone at (Err f) (inr h) = rw (hp.alone at (Ok (h.0, h.1)) h.2) ((hq h.0).alone h.1 (Err f) h.3)

    bound_shrinks : (at : At T R) (y : B × At T R) (r : Result (A × At T R) F) → p.reading at ≡ r
        → and_then r (λ r. (q r.0).reading r.1) ≡ Ok y → Fewer (a || b) (left y.1) (left at)
    bound_shrinks at y (Ok x) e h = fewer_both a b _ _ _ (hp.shrinks at x e) ((hq x.0).shrinks x.1 y h)
    bound_shrinks at y (Err f) e h = ok_no_err y f h

    pub bound_exact : IsExact {T = T} {R = R} {F = F} (a || b) (bound p q)
    bound_exact = record {
      holds = λ at. bound_holds at (p.reading at) refl;
      alone = bound_alone;
      shrinks = λ at y. bound_shrinks at y (p.reading at) refl;
    }

  module _ {A : Type 0} {some : Bool} {p : Form T R F A} (begins : At T R → Bool) (hp : IsExact some p) where
    maybe_found : (at : At T R) → begins at ≡ true → (r : Result (A × At T R) F) → p.reading at ≡ r
        → Says {T = T} {R = R} {F = F} (at_most_one begins p) at (and_then r (λ r. Ok (Some r.0, r.1)))
    maybe_found at o (Ok x) e = (o, subst (Says {T = T} {R = R} {F = F} p at) e (hp.holds at))
    maybe_found at o (Err f) e = (o, subst (Says {T = T} {R = R} {F = F} p at) e (hp.holds at))

    maybe_holds : (at : At T R) (b : Bool) → begins at ≡ b → Says {T = T} {R = R} {F = F} (at_most_one begins p) at (cond b (and_then (p.reading at) (λ r. Ok (Some r.0, r.1))) (Ok (None, at)))
    maybe_holds at true o = maybe_found at o (p.reading at) refl
    maybe_holds at false o = (o, refl)

    maybe_ok : (at : At T R) (o : Option A) (rest : At T R) → AtMostOne begins p at o rest
        → (at_most_one begins p).reading at ≡ Ok (o, rest)
    maybe_ok at None rest h = rw (h.0, h.1) refl
    maybe_ok at (Some x) rest h = rw (h.0, hp.alone at (Ok (x, rest)) h.1) refl

    maybe_alone : (at : At T R) (r : Result (Option A × At T R) F)
        → Says {T = T} {R = R} {F = F} (at_most_one begins p) at r → (at_most_one begins p).reading at ≡ r
    maybe_alone at (Ok x) h = maybe_ok at x.0 x.1 h
    maybe_alone at (Err f) h = rw (h.0, hp.alone at (Err f) h.1) refl

    maybe_some_shrinks : (at : At T R) (y : Option A × At T R) (r : Result (A × At T R) F) → p.reading at ≡ r
        → and_then r (λ r. Ok (Some r.0, r.1)) ≡ Ok y → left y.1 ≤ left at
    maybe_some_shrinks at y (Ok x) e h = let g = left_is (Some x.0) x.1 y h in omega (arith, no_more some _ _ (hp.shrinks at x e))
    maybe_some_shrinks at y (Err f) e h = ok_no_err y f h

    maybe_shrinks : (at : At T R) (y : Option A × At T R) (b : Bool)
        → cond b (and_then (p.reading at) (λ r. Ok (Some r.0, r.1))) (Ok (None, at)) ≡ Ok y → left y.1 ≤ left at
    maybe_shrinks at y true h = maybe_some_shrinks at y (p.reading at) refl h
    maybe_shrinks at y false h = fewer_same _ _ (left_is None at y h)

    pub maybe_exact : IsExact {T = T} {R = R} {F = F} false (at_most_one begins p)
    maybe_exact = record {
      holds = λ at. maybe_holds at (begins at) refl;
      alone = maybe_alone;
      shrinks = λ at y. maybe_shrinks at y (begins at);
    }

  module _ {A : Type 0} {p : Form T R F A} (goes_on : At T R → Bool) (hp : IsExact true p) where
    abbrev row_then : A → Result (List A × At T R) F → Result (List A × At T R) F
    row_then x r = and_then r (λ t. Ok (x ∷ t.0, t.1))

    row_joined : (at : At T R) (o : goes_on at ≡ true) (x : A × At T R) → p.Spells at x.0 x.1
        → (r : Result (List A × At T R) F) → Says {T = T} {R = R} {F = F} (row goes_on p) x.1 r
        → Says {T = T} {R = R} {F = F} (row goes_on p) at (row_then x.0 r)
    row_joined at o x hs (Ok t) h = ((o, (x.1, hs, h.0)), h.1)
    row_joined at o x hs (Err f) h = (x.0 ∷ h.0, h.1, (o, (x.1, hs, h.2)), h.3, h.4)

    row_first : (n : ℕ) (ih : (bt : At T R) → left bt < n → Says {T = T} {R = R} {F = F} (row goes_on p) bt (in_a_row goes_on p n bt)) (at : At T R) → left at < suc n → goes_on at ≡ true
        → (r : Result (A × At T R) F) → p.reading at ≡ r → Says {T = T} {R = R} {F = F} (row goes_on p) at (and_then r (λ r. row_then r.0 (in_a_row goes_on p n r.1)))
    row_first n ih at lt o (Ok x) e = row_joined at o x (subst (Says {T = T} {R = R} {F = F} p at) e (hp.holds at)) (in_a_row goes_on p n x.1) (ih x.1 (omega (arith, hp.shrinks at x e)))
    row_first n ih at lt o (Err f) e = ([], at, refl, o, subst (Says {T = T} {R = R} {F = F} p at) e (hp.holds at))

    row_at : (n : ℕ) (ih : (bt : At T R) → left bt < n → Says {T = T} {R = R} {F = F} (row goes_on p) bt (in_a_row goes_on p n bt)) (at : At T R) → left at < suc n
        → (b : Bool) → goes_on at ≡ b → Says {T = T} {R = R} {F = F} (row goes_on p) at (cond b (and_then (p.reading at) (λ r. row_then r.0 (in_a_row goes_on p n r.1))) (Ok ([], at)))
    row_at n ih at lt true o = row_first n ih at lt o (p.reading at) refl
    row_at n ih at lt false o = (refl, o)

    row_holds : (n : ℕ) (at : At T R) → left at < n
        → Says {T = T} {R = R} {F = F} (row goes_on p) at (in_a_row goes_on p n at)
    row_holds zero at lt = absurd (omega arith)
    row_holds (suc n) at lt = row_at n (row_holds n) at lt (goes_on at) refl

    row_ok : (n : ℕ) (at : At T R) → left at < n → (xs : List A) (rest : At T R) → InARow goes_on p at xs rest
        → goes_on rest ≡ false → in_a_row goes_on p n at ≡ Ok (xs, rest)
    row_ok zero at lt xs rest h o = absurd (omega arith)
    row_ok (suc n) at lt [] rest h o = let o' : goes_on at ≡ false = rw (← h) o in rw o' (ap (λ (r : At T R). Ok ([], r)) (sym h))
    row_ok (suc n) at lt (x ∷ xs) rest h o =
        let mid = h.1.0 in
        let e : p.reading at ≡ Ok (x, mid) = hp.alone at (Ok (x, mid)) h.1.1 in
        let less : left mid < left at = hp.shrinks at (x, mid) e in
        rw (h.0, e, row_ok n mid (omega arith) xs rest h.1.2 o) refl

    row_err : (n : ℕ) (at : At T R) → left at < n → (xs : List A) (mid : At T R) (f : F) → InARow goes_on p at xs mid
        → goes_on mid ≡ true → p.Departs mid f → in_a_row goes_on p n at ≡ Err f
    row_err zero at lt xs mid f h o d = absurd (omega arith)
    row_err (suc n) at lt [] mid f h o d =
        let o' : goes_on at ≡ true = rw (← h) o in
        let d' : p.Departs at f = subst (λ (bt : At T R). p.Departs bt f) h d in
        rw (o', hp.alone at (Err f) d') refl
    row_err (suc n) at lt (x ∷ xs) mid f h o d =
        let next = h.1.0 in
        let e : p.reading at ≡ Ok (x, next) = hp.alone at (Ok (x, next)) h.1.1 in
        let less : left next < left at = hp.shrinks at (x, next) e in
        rw (h.0, e, row_err n next (omega arith) xs mid f h.1.2 o d) refl

    row_alone : (at : At T R) (r : Result (List A × At T R) F) → Says {T = T} {R = R} {F = F} (row goes_on p) at r
        → (row goes_on p).reading at ≡ r
    row_alone at (Ok x) h = row_ok (suc (left at)) at (omega arith) x.0 x.1 h.0 h.1
    row_alone at (Err f) h = row_err (suc (left at)) at (omega arith) h.0 h.1 f h.2 h.3 h.4

    row_then_is : (x : A) (r : Result (List A × At T R) F) (y : List A × At T R) → row_then x r ≡ Ok y
        → (mid : List A × At T R) × (r ≡ Ok mid) × (left mid.1 ≡ left y.1)
    row_then_is x (Ok z) y h = (z, refl, left_is (x ∷ z.0) z.1 y h)
    row_then_is x (Err f) y h = ok_no_err y f h

    row_first_shrinks : (n : ℕ) (ih : (bt : At T R) (z : List A × At T R) → in_a_row goes_on p n bt ≡ Ok z → left z.1 ≤ left bt) (at : At T R) (y : List A × At T R)
        (r : Result (A × At T R) F) → p.reading at ≡ r → and_then r (λ r. row_then r.0 (in_a_row goes_on p n r.1)) ≡ Ok y → left y.1 ≤ left at
    row_first_shrinks n ih at y (Ok x) e h =
        let g = row_then_is x.0 (in_a_row goes_on p n x.1) y h in
        omega (arith, g.2, ih x.1 g.0 g.1, hp.shrinks at x e)
    row_first_shrinks n ih at y (Err f) e h = ok_no_err y f h

    row_at_shrinks : (n : ℕ) (ih : (bt : At T R) (z : List A × At T R) → in_a_row goes_on p n bt ≡ Ok z → left z.1 ≤ left bt) (at : At T R) (y : List A × At T R)
        (b : Bool) → cond b (and_then (p.reading at) (λ r. row_then r.0 (in_a_row goes_on p n r.1))) (Ok ([], at)) ≡ Ok y → left y.1 ≤ left at
    row_at_shrinks n ih at y true h = row_first_shrinks n ih at y (p.reading at) refl h
    row_at_shrinks n ih at y false h = fewer_same _ _ (left_is [] at y h)

    row_shrinks : (n : ℕ) (at : At T R) (y : List A × At T R) → in_a_row goes_on p n at ≡ Ok y → left y.1 ≤ left at
    row_shrinks zero at y h = fewer_same _ _ (left_is [] at y h)
    row_shrinks (suc n) at y h = row_at_shrinks n (row_shrinks n) at y (goes_on at) h

    pub row_exact : IsExact {T = T} {R = R} {F = F} false (row goes_on p)
    row_exact = record {
      holds = λ at. row_holds (suc (left at)) at (omega arith);
      alone = row_alone;
      shrinks = λ at y. row_shrinks (suc (left at)) at y;
    }

  -- less may be said of what is taken
  pub weaker : {A : Type 0} {some : Bool} {p : Form T R F A} → IsExact {T = T} {R = R} {F = F} some p
      → IsExact {T = T} {R = R} {F = F} false p
  weaker {some = some} h = record { holds = h.holds; alone = h.alone; shrinks = λ at x e. no_more some _ _ (h.shrinks at x e) }

  pub exactly_exact : {A : Type 0} {some : Bool} {p : Form T R F A} (n : ℕ) → IsExact {T = T} {R = R} {F = F} some p
      → IsExact {T = T} {R = R} {F = F} false (exactly_form n p)
  unfolding exactly_form
  exactly_exact zero h = made_exact []
  exactly_exact (suc n) h = weaker (bound_exact h (λ x. bound_exact (exactly_exact n h) (λ xs. made_exact (x ∷ xs))))
