-- A list of bits, of which those of the nodes stand first and the rows after them.
--   front_of, back_of       two lists that are put together, taken apart
--   front_read, back_read   a part that was read
--   all_long      how long they are
--   front_either, back_either   bits that are set in either of two lists, in each part
use Rattle.std.proofs.Common.{◌≡◌, ◌+◌, ◌*◌, ◌/◌, ◌%◌, ◌<◌, ◌≤◌, ◌||◌, ℕ, List, ◌++◌, Bool, true, false, inl, inr, take, drop, length, get_or, refl, sym, ap, ◌∙◌, arith}
use Rattle.std.proofs.lemmas.Bool.{cases_lt}
use Rattle.std.proofs.lemmas.List.{length-take, length-drop, get_or-take, get_or-drop, take-append-le, drop-append-le, take_all, drop_all}
use Rattle.recorder_rules.specs.TotalLaws.{past_end}
use Rattle.recorder_rules.specs.BitWords.{words_for, is_set, is_marked}
use Rattle.recorder_rules.specs.Seen.{AreSized}

-- two lists that are put together, taken apart
module _ (w : ℕ) (bits xs ys : List ℕ) (is : bits ≡ xs ++ ys) (len : length xs ≡ w) where
  pub front_of : take w bits ≡ xs
  front_of = ap (λ (zs : List ℕ). take w zs) is ∙ take-append-le w xs ys (omega arith) ∙ take_all w xs (omega arith)

  pub back_of : drop w bits ≡ ys
  back_of = ap (λ (zs : List ℕ). drop w zs) is ∙ drop-append-le w xs ys (omega arith) ∙ ap (λ (zs : List ℕ). zs ++ ys) (drop_all w xs (omega arith))

-- a part that was read
module _ (w m : ℕ) (bits all part : List ℕ) where
  pub front_read : part ≡ take m all → m ≡ w → all ≡ bits → part ≡ take w bits
  front_read read same is = read ∙ ap (λ (k : ℕ). take k all) same ∙ ap (λ (xs : List ℕ). take w xs) is

  pub back_read : part ≡ drop m all → m ≡ w → all ≡ bits → part ≡ drop w bits
  back_read read same is = read ∙ ap (λ (k : ℕ). drop k all) same ∙ ap (λ (xs : List ℕ). drop w xs) is

-- how long they are
module _ (n : ℕ) (bits : List ℕ) (sized : AreSized n (take (words_for n) bits) (drop (words_for n) bits)) where
  pub all_long : length bits ≡ words_for n + n * words_for n
  all_long = let e = length-take (words_for n) bits in let f = sized.0 in let g = length-drop (words_for n) bits in let h = sized.1 in omega arith

either_itself : (x : Bool) → x ≡ (x || x)
either_itself true = refl
either_itself false = refl

-- bits that are set in either of two lists, in each part
module _ (w : ℕ) (new a b : List ℕ) (each : (base n : ℕ) → is_marked new base n ≡ (is_marked a base n || is_marked b base n)) where
  front_low : (xs : List ℕ) (k : ℕ) → k / 64 < w → is_marked (take w xs) 0 k ≡ is_marked xs 0 k
  front_low xs k low = ap (λ (v : ℕ). is_set v (k % 64)) (get_or-take w xs (0 + k / 64) 0 (omega arith))

  front_high : (xs : List ℕ) (k : ℕ) → w ≤ k / 64 → is_marked (take w xs) 0 k ≡ is_set 0 (k % 64)
  front_high xs k high = ap (λ (v : ℕ). is_set v (k % 64)) (past_end (take w xs) (0 + k / 64) 0 (let e = length-take w xs in omega arith))

  pub front_either : (k : ℕ) → is_marked (take w new) 0 k ≡ (is_marked (take w a) 0 k || is_marked (take w b) 0 k)
  front_either k =
      elim (cases_lt (k / 64) w) [
        | inl low ↦ front_low new k low ∙ each 0 k
            ∙ ap (λ (x : Bool). x || is_marked b 0 k) (sym (front_low a k low)) ∙ ap (λ (x : Bool). is_marked (take w a) 0 k || x) (sym (front_low b k low))
        | inr high ↦ front_high new k high ∙ either_itself (is_set 0 (k % 64))
            ∙ ap (λ (x : Bool). x || is_set 0 (k % 64)) (sym (front_high a k high)) ∙ ap (λ (x : Bool). is_marked (take w a) 0 k || x) (sym (front_high b k high))
      ]

  back_is : (xs : List ℕ) (base k : ℕ) → is_marked (drop w xs) base k ≡ is_marked xs (w + base) k
  back_is xs base k =
      ap (λ (v : ℕ). is_set v (k % 64)) (get_or-drop w xs (base + k / 64) 0)
      ∙ ap (λ (i : ℕ). is_set (get_or xs i 0) (k % 64)) (let e : w + (base + k / 64) ≡ w + base + k / 64 = omega arith in e)

  pub back_either : (base k : ℕ)
      → is_marked (drop w new) base k ≡ (is_marked (drop w a) base k || is_marked (drop w b) base k)
  back_either base k =
      back_is new base k ∙ each (w + base) k
      ∙ ap (λ (x : Bool). x || is_marked b (w + base) k) (sym (back_is a base k)) ∙ ap (λ (x : Bool). is_marked (drop w a) base k || x) (sym (back_is b base k))
