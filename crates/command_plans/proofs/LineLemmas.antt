-- Where a text ends in a line feed, and has no other.
use Rattle.std.proofs.Common.{◌≡◌, ℕ, Bool, true, false, List, [], ◌∷◌, ◌++◌, refl, ap, sym, ◌∙◌}
use Rattle.std.specs.Prelude.{◌&&◌, ◌||◌, not, ◌==◌}
use Rattle.std.specs.List.{list_any}
use Rattle.command_plans.specs.Lines.{is_line}

both_parts : (p q r : Bool) → (not p && (not q && r)) ≡ (not (p || q) && r)
both_parts true q r = refl
both_parts false q r = refl

-- of a text by its last byte and what stands before it
ends_in : (line : List ℕ) (last : ℕ) → is_line (line ++ (last ∷ [])) ≡ (not (list_any (λ b. b == 10) line) && (last == 10))
ends_in [] last = refl
ends_in (b ∷ []) last = both_parts (b == 10) false (last == 10)
ends_in (b ∷ (c ∷ rest)) last =
    ap (λ (r : Bool). not (b == 10) && r) (ends_in (c ∷ rest) last) ∙ both_parts (b == 10) (list_any (λ d. d == 10) (c ∷ rest)) (last == 10)

pub with_last : (text line : List ℕ) (last : ℕ) (any : Bool) → text ≡ line ++ (last ∷ []) → any ≡ list_any (λ b. b == 10) line
    → is_line text ≡ (not any && (last == 10))
with_last text line last any is found = ap is_line is ∙ ends_in line last ∙ ap (λ (a : Bool). not a && (last == 10)) (sym found)
