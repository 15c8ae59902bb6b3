-- Looking for the end of a comment, as a loop does.
use Rattle.std.proofs.Common.{◌≡◌, ℕ, ◌+◌, ◌≤◌, ◌<◌, Bool, true, false, cond, List, [], ◌∷◌, length, drop, Option, Some, None, refl, sym, ap, ◌∙◌, arith}
use Rattle.std.proofs.lemmas.List.{length-drop, drop-drop, drop_all}
use Rattle.alf_tokens.specs.Bytes.{to_close, one_more, closes}

-- the answer for a rest, when so many bytes were passed
abbrev pub passed_by : ℕ → Option ℕ → Option ℕ
passed_by n None = None
passed_by n (Some k) = Some (k + n)

passed_more : (n : ℕ) (o : Option ℕ) → passed_by n (one_more o) ≡ passed_by (n + 1) o
passed_more n None = refl
passed_more n (Some k) = let e : k + 1 + n ≡ k + (n + 1) = omega arith in rw e refl

-- no */ stands before i
pub record CloseSoFar (i : ℕ) (bytes : List ℕ) : Type 0 where
  pub goes : passed_by i (to_close (drop i bytes)) ≡ to_close bytes

close_step : (bs : List ℕ) (b : Bool) → 0 < length bs → closes bs ≡ b
    → to_close bs ≡ cond b (Some 2) (one_more (to_close (drop 1 bs)))
unfolding to_close
close_step [] b lt h = absurd (omega arith)
close_step (c ∷ bs) b lt h = rw h refl

pub close_goes_on : (i : ℕ) (bytes : List ℕ) → i < length bytes → closes (drop i bytes) ≡ false → CloseSoFar i bytes
    → CloseSoFar (i + 1) bytes
close_goes_on i bytes lt h so =
    let e = close_step (drop i bytes) false (omega (arith, length-drop i bytes)) h in
    let d : drop 1 (drop i bytes) ≡ drop (i + 1) bytes = drop-drop 1 i bytes in
    record { goes = sym (passed_more i (to_close (drop (i + 1) bytes))) ∙ ap (λ (t : List ℕ). passed_by i (one_more (to_close t))) (sym d) ∙ ap (passed_by i) (sym e) ∙ so.goes }

pub close_found : (i : ℕ) (bytes : List ℕ) → i < length bytes → closes (drop i bytes) ≡ true → CloseSoFar i bytes
    → Some (i + 2) ≡ to_close bytes
close_found i bytes lt h so =
    let e = close_step (drop i bytes) true (omega (arith, length-drop i bytes)) h in
    let k : i + 2 ≡ 2 + i = omega arith in
    ap (λ (n : ℕ). Some n) k ∙ ap (passed_by i) (sym e) ∙ so.goes

pub close_none : (i : ℕ) (bytes : List ℕ) → length bytes ≤ i → CloseSoFar i bytes → None ≡ to_close bytes
unfolding to_close
close_none i bytes le so = let d : drop i bytes ≡ [] = drop_all i bytes le in rw d at so.goes
