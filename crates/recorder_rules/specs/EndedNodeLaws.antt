-- Laws of ended nodes.
--   range_bits      the bits of words that others were added to
--   each_after   what several scopes add
--   or_thrice       three tests
--   any_with        one number with a property
--   ended_low, owned_ended   the scopes of which iterations end, and the nodes of them
use Rattle.std.proofs.Common.{◌≡◌, ◌+◌, ◌-◌, ◌*◌, ◌/◌, ◌%◌, ◌<◌, ◌==◌, ◌&&◌, ◌||◌, not, ℕ, Bool, true, false, cond, List, [], ◌∷◌, bit_or, Contains, length, get_or, refl, sym, ap, ◌∙◌, arith}
use Rattle.std.specs.List.{list_any}
use Rattle.std.proofs.lemmas.Bool.{eqb-true}
use Rattle.lists.specs.MemberLaws.{first_member, further_member}
use Rattle.lists.specs.TestLaws.{by_test}
use Rattle.domain_core.specs.Outlines.{Shape, is_held, IsOutline}
use Rattle.domain_core.specs.OutlineLaws.{member_found, held_is, holder_low}
use Rattle.domain_core.specs.Executions.{goes_on_at}
use Rattle.recorder_rules.specs.LoopRules.{own_of}
use Rattle.recorder_rules.specs.PairRules.{ends}
use Rattle.recorder_rules.specs.BitWords.{is_set, is_marked, AreInRange, AreOwned}
use Rattle.recorder_rules.specs.BitLaws.{set_or}
use Rattle.recorder_rules.specs.RangeLaws.{ranged}
use Rattle.recorder_rules.specs.EndedNodes.{after_each}

-- the bits of words that others were added to
pub range_bits : (w start : ℕ) (from old new : List ℕ)
    → AreInRange 0 w (λ i. bit_or (get_or old i 0) (get_or from (start + (i - 0)) 0)) old new
    → (b : ℕ) → b < 64 * w → is_marked new 0 b ≡ (is_marked old 0 b || is_marked from start b)
range_bits w start from old new changed b low =
    let within : b / 64 < w = omega arith in
    ap (λ (n : ℕ). is_set n (b % 64))
    (changed (0 + b / 64) ∙ ap (λ (t : Bool). cond t (bit_or (get_or old (0 + b / 64) 0) (get_or from (start + (0 + b / 64 - 0)) 0)) (get_or old (0 + b / 64) 0)) (ranged 0 w (0 + b / 64) (omega arith) (omega arith)))
    ∙ set_or (get_or old (0 + b / 64) 0) (get_or from (start + (0 + b / 64 - 0)) 0) (b % 64)
    ∙ ap (λ (i : ℕ). is_marked old 0 b || is_set (get_or from i 0) (b % 64)) (let e : start + (0 + b / 64 - 0) ≡ start + b / 64 = omega arith in e)

pub or_thrice : (x y z : Bool) → ((x || y) || z) ≡ (x || (y || z))
or_thrice true y z = refl
or_thrice false y z = refl

or_nothing : (x : Bool) → x ≡ (x || false)
or_nothing true = refl
or_nothing false = refl

pub each_after : (adds : ℕ → Bool) (v : Bool) (ss : List ℕ) → after_each adds v ss ≡ (v || list_any adds ss)
each_after adds v [] = or_nothing v
each_after adds v (s ∷ ss) = each_after adds (v || adds s) ss ∙ or_thrice v (adds s) (list_any adds ss)

-- the same test for each member
any_same : (f g : ℕ → Bool) (xs : List ℕ) → ((s : ℕ) → Contains xs s → f s ≡ g s) → list_any f xs ≡ list_any g xs
any_same f g [] same = refl
any_same f g (x ∷ xs) same = ap (λ (b : Bool). b || list_any f xs) (same x (first_member x xs)) ∙ ap (λ (b : Bool). g x || b) (any_same f g xs (λ s there. same s (further_member x xs s there)))

-- one number with a property
pub any_with : (t : ℕ) (p : ℕ → Bool) (xs : List ℕ)
    → list_any (λ s. (t == s) && p s) xs ≡ (list_any (λ s. t == s) xs && p t)
any_with t p [] = refl
any_with t p (x ∷ xs) =
    by_test (t == x)
    (λ is. rw is (by_test (p t) (λ yes_p. ap (λ (b : Bool). b || list_any (λ s. (t == s) && p s) xs) (ap (λ (m : ℕ). p m) (sym (eqb-true t x is)) ∙ yes_p) ∙ sym yes_p)
    (λ no_p. ap (λ (b : Bool). b || list_any (λ s. (t == s) && p s) xs) (ap (λ (m : ℕ). p m) (sym (eqb-true t x is)) ∙ no_p) ∙ any_with t p xs ∙ ap (λ (b : Bool). list_any (λ s. t == s) xs && b) no_p ∙ and_nothing (list_any (λ s. t == s) xs) ∙ sym no_p)))
    (λ clear. rw clear (any_with t p xs))
  where
    and_nothing : (x : Bool) → (x && false) ≡ false
    and_nothing true = refl
    and_nothing false = refl

first_true : (a b : Bool) → a && b ≡ true → a ≡ true
first_true true b both = refl
first_true false b both = absurd (let bad : false ≡ true = both in cc)

module _ (o : Shape) (ok : IsOutline o) (from to : ℕ) (within : from < length o.own) (scopes : List ℕ) (all : (t : ℕ) → list_any (λ s. t == s) scopes ≡ ends o t from to) where
  -- the scopes of which iterations end are those of the outline
  pub ended_low : (s : ℕ) → Contains scopes s → s < length o.scopes
  ended_low s there =
      holder_low o ok s from within (held_is o ok s from (first_true (is_held o s from) (not (goes_on_at o s to)) (sym (all s) ∙ member_found scopes s there)))

  -- and the nodes of them
  pub owned_ended : (n count w : ℕ) (owned : List ℕ) → n ≡ length o.scopes → AreOwned o n count w owned → (a : ℕ)
      → a < count
      → list_any (λ s. is_marked owned (s * w) a) scopes ≡ ends o (own_of o a) from to
  owned_ended n count w owned same is a low =
      any_same (λ s. is_marked owned (s * w) a) (λ s. own_of o a == s) scopes
      (λ s there. is s a (let below = ended_low s there in omega arith) low)
      ∙ all (own_of o a)
