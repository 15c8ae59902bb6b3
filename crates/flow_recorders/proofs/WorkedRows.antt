-- Counts of three numbers, and the room of lists.
--   none_wide     no number with the key 1 is wide, where the first and the last are not
--   single_room, any_room   the room of a list
use Rattle.std.specs.Prelude.{Some}
use Rattle.std.proofs.Common.{◌≤◌, ◌*◌, ℕ, zero, suc, [], ◌∷◌, length, sym, arith}
use Rattle.std.proofs.lemmas.Bool.{true≢false}
use Rattle.std.proofs.lemmas.List.{length-map}
use Rattle.recorder_rules.specs.TallyRules.{is_at}
use Rattle.flow_recorders.specs.declared.ends.Ends.{Ends}
use Rattle.flow_recorders.specs.declared.ends.Ends.TheVariants.{Zeros, Few, Narrow, Same, Apart}
use Rattle.flow_recorders.specs.SpanLists.{only, spans_in, room_of, IsSingle}
use Rattle.flow_recorders.specs.Walked.{HasWide}

-- no number with the key 1 is wide, where the first and the last are not
pub none_wide : (a b c : ℕ × ℕ) → a.0 ≤ 255 → c.0 ≤ 255
    → HasWide (Some 1 ∷ Some 2 ∷ Some 1 ∷ []) (λ key. is_at key 1) (a ∷ b ∷ c ∷ []) → ⊥
none_wide a b c first last (zero, low, is) = let wide = is.1 in absurd (omega arith)
none_wide a b c first last (suc zero, low, is) = absurd (true≢false (sym is.0))
none_wide a b c first last (suc (suc zero), low, is) = let wide = is.1 in absurd (omega arith)
none_wide a b c first last (suc (suc (suc j)), low, is) = absurd (omega arith)

-- the room of a list
pub single_room : (ends : Ends) → IsSingle ends → room_of ends ≤ 4 * length (spans_in ends)
single_room (Zeros count) single = omega arith
single_room (Few counts) single = omega arith
single_room (Narrow counts) single = let long = length-map counts.items only in omega arith
single_room (Same counts) single = let long = length-map counts.items only in omega arith
single_room (Apart spans) single = absurd single

pub any_room : (ends : Ends) → room_of ends ≤ 8 * length (spans_in ends)
any_room (Zeros count) = omega arith
any_room (Few counts) = omega arith
any_room (Narrow counts) = let long = length-map counts.items only in omega arith
any_room (Same counts) = let long = length-map counts.items only in omega arith
any_room (Apart spans) = omega arith
