-- What the printer's functions rest on.
use Rattle.std.proofs.Common.{◌≡◌, ℕ, ◌^◌, ◌-◌, ◌<◌, ◌≤◌, sym, ◌∙◌, false, List, [], ◌∷◌, ◌++◌, append_assoc, refl, arith}
use Rattle.std.specs.List.{flat_map}
use Rattle.std.proofs.Math.Pow.{pow_mono}
use Rattle.std.proofs.lemmas.Int.{ints}
use Rattle.std.proofs.lemmas.Grind.{common_steps}
use Rattle.std.proofs.lemmas.List.{append-nil}
use Rattle.alf_tokens.specs.Printed.{Mark, printed, text_of_marks}
use Rattle.alf_text.specs.Printing.{put, all_put}
use Rattle.alf_text.proofs.TextCanonicalLaws.{terms-marks}
use Rattle.alf_ops.specs.TwosComplement.{is_negative}
use Rattle.alf_text.specs.Canonical.{opens, space}

-- only a word of its size, from 1 to 64 bits, is below 0
pub never_large : (size bits : ℕ) → 64 < size → bits < 2 ^ 64 → is_negative size bits ≡ false
never_large size bits large fits = let more : 2 ^ 64 ≤ 2 ^ (size - 1) = pow_mono {i = 64} {j = size - 1} (omega arith) in grind (arith, ints)

pub never_none : (bits : ℕ) → is_negative 0 bits ≡ false
never_none bits = grind (arith, ints)

pub never_past : (size bits : ℕ) → 2 ^ size ≤ bits → is_negative size bits ≡ false
never_past size bits above = grind (arith, ints)

all-put : (ms : List Mark) (text : List ℕ) → all_put text ms ≡ text ++ flat_map printed ms
unfolding put
all-put [] text = sym (append-nil text)
all-put (m ∷ ms) text = all-put ms (text ++ printed m) ∙ append_assoc text (printed m) (flat_map printed ms)

-- the text of marks after a brace
pub braced_text : (ms : List Mark) → all_put (123 ∷ []) ms ++ 10 ∷ [] ≡ text_of_marks (opens space ∷ ms)
braced_text ms = rw (all-put ms (123 ∷ [])) refl

pub ruleset printing = (common_steps, never_large, never_none, never_past, terms-marks)
