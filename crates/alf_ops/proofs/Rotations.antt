-- Where a rotation moves a bit.
use Rattle.std.proofs.Common.{◌≡◌, ℕ, ◌+◌, ◌-◌, ◌*◌, ◌/◌, ◌%◌, ◌^◌, ◌<◌, ◌≤◌, ◌⊎◌, [], ◌∷◌, sym, ap, ◌∙◌, inl, inr, ⊎_elim, arith}
use Rattle.std.proofs.lemmas.Bool.{cases_lt}
use Rattle.std.proofs.lemmas.Nat.{pow_pos, pow-add, mod_below, div-add-mod', mod-mul-add, mul-add-lt, div_below, shr-shr, shr_high}
use Rattle.std.proofs.Math.Nat.{mod-eq_of_lt, mod-eq-sub-mod, mul-add-div_right, mul-add-mod_self_right, add-mod-mod}
use Rattle.alf_ops.specs.declared.operator.Op.TheVariants.{RotL, RotR}
use Rattle.alf_ops.specs.Words.{value}
use Rattle.alf_ops.specs.WordLaws.{bit_of}

-- a bit below the place k does not depend on what stands from k on
bit_low : (high low k place : ℕ) → place < k → bit_of place (high * 2 ^ k + low) ≡ bit_of place low
bit_low high low k place below =
    let e : 2 ^ k ≡ 2 ^ (k - 1 - place) * 2 ^ 1 * 2 ^ place =
    ap (λ n. 2 ^ n) (let same : k ≡ k - 1 - place + 1 + place = omega arith in same) ∙ pow-add 2 (k - 1 - place + 1) place ∙ ap (λ n. n * 2 ^ place) (pow-add 2 (k - 1 - place) 1) in
    let f : high * 2 ^ k + low ≡ (high * 2 ^ (k - 1 - place) * 2) * 2 ^ place + low = rw e (omega arith) in
    let g : (high * 2 ^ k + low) / 2 ^ place ≡ high * 2 ^ (k - 1 - place) * 2 + low / 2 ^ place = rw f (mul-add-div_right (pow_pos place) (high * 2 ^ (k - 1 - place) * 2) low) in
    rw g (mul-add-mod_self_right (high * 2 ^ (k - 1 - place)) 2 (low / 2 ^ place))

-- a bit from the place k on does not depend on what stands below k
bit_high : (high low k place : ℕ) → low < 2 ^ k → bit_of (k + place) (high * 2 ^ k + low) ≡ bit_of place high
bit_high high low k place below = ap (λ n. n % 2) (sym (shr-shr (high * 2 ^ k + low) k place) ∙ ap (λ n. n / 2 ^ place) (shr_high high k low below))

-- a word by its parts, moved up, less what leaves it
parts_moved : (high low upper lower : ℕ)
    → (high * lower + low) * upper + high ≡ high * (upper * lower) + (low * upper + high)
parts_moved high low upper lower = omega arith

-- the two parts of a word change places
rotated_word : (size k a : ℕ) → k ≤ size → a < 2 ^ size
    → (a * 2 ^ k + a / 2 ^ (size - k)) % 2 ^ size ≡ a % 2 ^ (size - k) * 2 ^ k + a / 2 ^ (size - k)
rotated_word size k a within below =
    let whole : 2 ^ size ≡ 2 ^ k * 2 ^ (size - k) = ap (λ n. 2 ^ n) (let same : size ≡ k + (size - k) = omega arith in same) ∙ pow-add 2 k (size - k) in
    let split : a / 2 ^ (size - k) * 2 ^ (size - k) + a % 2 ^ (size - k) ≡ a = div-add-mod' a (2 ^ (size - k)) in
    let high : a / 2 ^ (size - k) < 2 ^ k = div_below a (2 ^ (size - k)) (2 ^ k) (pow_pos (size - k)) (omega (arith, whole)) in
    let low : a % 2 ^ (size - k) < 2 ^ (size - k) = mod_below a (2 ^ (size - k)) (pow_pos (size - k)) in
    let fits : a % 2 ^ (size - k) * 2 ^ k + a / 2 ^ (size - k) < 2 ^ k * 2 ^ (size - k) = mul-add-lt (a % 2 ^ (size - k)) (2 ^ k) (a / 2 ^ (size - k)) (2 ^ (size - k)) low high in
    let sum : a * 2 ^ k + a / 2 ^ (size - k) ≡ (a / 2 ^ (size - k) * 2 ^ (size - k) + a % 2 ^ (size - k)) * 2 ^ k + a / 2 ^ (size - k) =
    ap (λ n. n * 2 ^ k + a / 2 ^ (size - k)) (sym split) in
    rw (sum, parts_moved (a / 2 ^ (size - k)) (a % 2 ^ (size - k)) (2 ^ k) (2 ^ (size - k)), whole)
    (mod-mul-add (a / 2 ^ (size - k)) (2 ^ k * 2 ^ (size - k)) (a % 2 ^ (size - k) * 2 ^ k + a / 2 ^ (size - k)) fits)

-- the place where a bit goes
moved : (size k place : ℕ) → k ≤ size → place < size
    → ((place + k < size) × ((place + k) % size ≡ place + k)) ⊎ ((size ≤ place + k) × ((place + k) % size ≡ place + k - size))
moved size k place within inside = ⊎_elim
    (λ (below : place + k < size). inl (below, mod-eq_of_lt below))
    (λ (past : size ≤ place + k). let less : place + k - size < size = omega arith in inr (past, mod-eq-sub-mod past ∙ mod-eq_of_lt less))
    (cases_lt (place + k) size)

module _ (size k a place : ℕ) (within : k ≤ size) (below : a < 2 ^ size) (inside : place < size) where
  low_part : a % 2 ^ (size - k) < 2 ^ (size - k)
  low_part = mod_below a (2 ^ (size - k)) (pow_pos (size - k))

  high_part : a / 2 ^ (size - k) < 2 ^ k
  high_part =
      let whole : 2 ^ size ≡ 2 ^ k * 2 ^ (size - k) = ap (λ n. 2 ^ n) (let same : size ≡ k + (size - k) = omega arith in same) ∙ pow-add 2 k (size - k) in
      div_below a (2 ^ (size - k)) (2 ^ k) (pow_pos (size - k)) (omega (arith, whole))

  -- a bit that stays below the size
  stays : place + k < size → bit_of (place + k) (a % 2 ^ (size - k) * 2 ^ k + a / 2 ^ (size - k)) ≡ bit_of place a
  stays fits =
      let up : place + k ≡ k + place = omega arith in
      rw up (bit_high (a % 2 ^ (size - k)) (a / 2 ^ (size - k)) k place high_part)
      ∙ sym (bit_low (a / 2 ^ (size - k)) (a % 2 ^ (size - k)) (size - k) place (omega arith))
      ∙ ap (bit_of place) (div-add-mod' a (2 ^ (size - k)))

  -- a bit that comes round
  returns : size ≤ place + k
      → bit_of (place + k - size) (a % 2 ^ (size - k) * 2 ^ k + a / 2 ^ (size - k)) ≡ bit_of place a
  returns past =
      let round : size - k + (place + k - size) ≡ place = omega arith in
      bit_low (a % 2 ^ (size - k)) (a / 2 ^ (size - k)) k (place + k - size) (omega arith)
      ∙ sym (bit_high (a / 2 ^ (size - k)) (a % 2 ^ (size - k)) (size - k) (place + k - size) low_part)
      ∙ rw round (ap (bit_of place) (div-add-mod' a (2 ^ (size - k))))

  pub moves_up : bit_of ((place + k) % size) ((a * 2 ^ k + a / 2 ^ (size - k)) % 2 ^ size) ≡ bit_of place a
  moves_up = rw (rotated_word size k a within below) (⊎_elim
      (λ (up : (place + k < size) × ((place + k) % size ≡ place + k)). rw up.1 (stays up.0))
      (λ (round : (size ≤ place + k) × ((place + k) % size ≡ place + k - size)). rw round.1 (returns round.0))
      (moved size k place within inside))

-- the places down undo the places up
moved_back : (size k place : ℕ) → k < size → place < size → ((place + k) % size + (size - k)) % size ≡ place
moved_back size k place within inside = ⊎_elim
    (λ (up : (place + k < size) × ((place + k) % size ≡ place + k)).
    let past : size ≤ place + k + (size - k) = omega arith in
    let less : place + k + (size - k) - size ≡ place = omega arith in
    rw up.1 (mod-eq-sub-mod past ∙ rw less (mod-eq_of_lt inside)))
    (λ (round : (size ≤ place + k) × ((place + k) % size ≡ place + k - size)).
    let less : place + k - size + (size - k) ≡ place = omega arith in
    rw (round.1, less) (mod-eq_of_lt inside))
    (moved size k place (omega arith) inside)

-- a rotation by any number of places
pub moves_round : (size n a b place : ℕ) → 1 ≤ size → a < 2 ^ size → place < size
    → (bit_of ((place + b) % size) (value RotL (size ∷ n ∷ []) (a ∷ b ∷ [])) ≡ bit_of place a)
    × (bit_of place (value RotR (size ∷ n ∷ []) (a ∷ b ∷ [])) ≡ bit_of ((place + b) % size) a)
moves_round size n a b place positive below inside =
    let some : b % size < size = mod_below b size positive in
    let same : (place + b) % size ≡ (place + b % size) % size = sym (add-mod-mod place b size) in
    let there : (place + b % size) % size < size = mod_below (place + b % size) size positive in
    let down : size - (size - b % size) ≡ b % size = omega arith in
    let turned : a / 2 ^ (b % size) + a * 2 ^ (size - b % size) ≡ a * 2 ^ (size - b % size) + a / 2 ^ (size - (size - b % size)) = rw down (omega arith) in
    let back = moved_back size (b % size) place some inside in
    let moves = moves_up size (size - b % size) a ((place + b % size) % size) (omega arith) below there in
    (rw same (moves_up size (b % size) a place (omega arith) below inside), rw (same, turned) (rw back at moves))
