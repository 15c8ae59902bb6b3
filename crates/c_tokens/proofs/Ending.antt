-- What is known of the first end of some bytes.
use Rattle.std.proofs.Common.{◌≡◌, ℕ, zero, suc, ◌≤◌, ◌<◌, Bool, true, false, cond, List, [], ◌∷◌, ◌++◌, length, take, drop, Option, Some, None, refl, ap, subst, arith, take-append-drop}
use Rattle.c_tokens.specs.Ends.{one_more, on, end_of}

more_is : (o : Option ℕ) (k : ℕ) → one_more o ≡ Some k → (j : ℕ) × (o ≡ Some j) × (suc j ≡ k)
more_is None k e = absurd cc
more_is (Some j) k e = (j, refl, cc)

module _ {S : Type 0} (ends : S → ℕ → Bool) (next : S → ℕ → Option S) where
  -- how a byte ends what stands here, or leads on to an end
  data Ended (s : S) (b : ℕ) (bs : List ℕ) (k : ℕ) : Type 0 where
    here : ends s b ≡ true → 1 ≡ k → Ended s b bs k
    later : (t : S) (j : ℕ) → ends s b ≡ false → next s b ≡ Some t → end_of ends next t bs ≡ Some j → suc j ≡ k
        → Ended s b bs k

  by_end : (s : S) (b : ℕ) (bs : List ℕ) (k : ℕ) → end_of ends next s (b ∷ bs) ≡ Some k → Ended s b bs k
  by_end s b bs k e = by_test (ends s b) refl e
    where
      by_state : (o : Option S) → ends s b ≡ false → next s b ≡ o
          → one_more (on None o (λ t. end_of ends next t bs)) ≡ Some k → Ended s b bs k
      by_state None f n e = absurd cc
      by_state (Some t) f n e = let m = more_is (end_of ends next t bs) k e in later t m.0 f n m.1 m.2

      by_test : (t : Bool) → ends s b ≡ t
          → cond t (Some 1) (one_more (on None (next s b) (λ t. end_of ends next t bs))) ≡ Some k → Ended s b bs k
      by_test true f e = here f cc
      by_test false f e = by_state (next s b) f refl e

  pub end_within : (s : S) (xs : List ℕ) (k : ℕ) → end_of ends next s xs ≡ Some k → (0 < k) × (k ≤ length xs)
  end_within s [] k e = absurd cc
  end_within s (b ∷ bs) k e = elim (by_end s b bs k e) [ here f i ↦ omega arith | later t j f n g i ↦ let m = end_within t bs j g in omega arith ]

  -- what stands after the end does not matter
  pub end_before : (s : S) (xs ys : List ℕ) (k : ℕ) → end_of ends next s xs ≡ Some k
      → end_of ends next s (xs ++ ys) ≡ Some k
  end_before s [] ys k e = absurd cc
  end_before s (b ∷ bs) ys k e = elim (by_end s b bs k e) [
    | here f i ↦ rw f (ap (λ (n : ℕ). Some n) i)
    | later t j f n g i ↦ rw (f, n, end_before t bs ys j g) (ap (λ (n : ℕ). Some n) i)
  ]

  pub end_of_prefix : (s : S) (xs : List ℕ) (m k : ℕ) → end_of ends next s (take m xs) ≡ Some k
      → end_of ends next s xs ≡ Some k
  end_of_prefix s xs m k e = subst (λ (ys : List ℕ). end_of ends next s ys ≡ Some k) (take-append-drop m xs) (end_before s (take m xs) (drop m xs) k e)

  -- the bytes up to the end and any more of them end there
  pub end_kept : (s : S) (xs : List ℕ) (k m : ℕ) → end_of ends next s xs ≡ Some k → k ≤ m
      → end_of ends next s (take m xs) ≡ Some k
  end_kept s [] k m e le = absurd cc
  end_kept s (b ∷ bs) k zero e le = let w = end_within s (b ∷ bs) k e in absurd (omega arith)
  end_kept s (b ∷ bs) k (suc m) e le = elim (by_end s b bs k e) [
    | here f i ↦ rw f (ap (λ (n : ℕ). Some n) i)
    | later t j f n g i ↦ rw (f, n, end_kept t bs j m g (omega arith)) (ap (λ (n : ℕ). Some n) i)
  ]
