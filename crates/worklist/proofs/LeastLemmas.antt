-- On the way to the laws of least.
--   up_to, down_to       a key that is at most one that precedes a third precedes it, and so from the other side
--   least_one            of one key the first least is itself
--   least_right, least_left   the first least of two lists, from those of both
--   by_side   a place is one of the first list or of the second
use Rattle.std.proofs.Common.{◌≡◌, ◌<◌, ◌+◌, ◌-◌, ℕ, zero, suc, List, [], ◌∷◌, ◌++◌, inl, inr, length, length-append, ap, sym, ◌∙◌, arith}
use Rattle.std.proofs.lemmas.Bool.{cases_lt}
use Rattle.std.proofs.lemmas.List.{get_or_append_left}
use Rattle.std.specs.Ordering.{nat_cmp}
use Rattle.std.specs.Cmp.Lexicographic.{slice_cmp}
use Rattle.std.specs.declared.cmp.Ordering.TheVariants.{Less, Greater}
use Rattle.worklist.specs.Least.{key_at, Precedes, IsFirstLeast}
use Rattle.worklist.specs.LeastLaws.{order, by_order, turned, not_itself}

pub up_to : (a b c : List ℕ) → (Precedes b a → ⊥) → Precedes b c → Precedes a c
up_to a b c most below =
    by_order (slice_cmp nat_cmp a b)
    (λ less. order.trans a b c less below)
    (λ same. order.congr a b c same ∙ below)
    (λ more. absurd (most (turned a b Greater more)))

pub down_to : (a b c : List ℕ) → Precedes a b → (Precedes c b → ⊥) → Precedes a c
down_to a b c below most =
    by_order (slice_cmp nat_cmp b c)
    (λ less. order.trans a b c below less)
    (λ same. turned c a Greater (sym (order.congr b c a same) ∙ turned a b Less below))
    (λ more. absurd (most (turned b c Greater more)))

pub least_one : (key : List ℕ) → IsFirstLeast (key ∷ []) 0
least_one key = record { within = omega arith; least = λ j low. one j low; first = λ j low. absurd (omega arith) }
  where
    one : (j : ℕ) → j < 1 → Precedes (key_at (key ∷ []) j) key → ⊥
    one zero low below = not_itself key below
    one (suc j) low below = absurd (omega arith)

at_left : (ks ls : List (List ℕ)) (i : ℕ) → i < length ks → key_at (ks ++ ls) i ≡ key_at ks i
at_left ks ls i low = get_or_append_left ks ls [] i low

at_right : (ks ls : List (List ℕ)) (j : ℕ) → key_at (ks ++ ls) (length ks + j) ≡ key_at ls j
at_right [] ls j = ap (key_at ls) (let e : 0 + j ≡ j = omega arith in e)
at_right (k ∷ ks) ls j = ap (key_at (k ∷ ks ++ ls)) (let e : suc (length ks) + j ≡ suc (length ks + j) = omega arith in e) ∙ at_right ks ls j

module _ (ks ls : List (List ℕ)) where
  -- a place is one of the first list or of the second
  pub by_side : {A : Type 0} (m : ℕ) → m < length (ks ++ ls) → (m < length ks → key_at (ks ++ ls) m ≡ key_at ks m → A)
      → ((n : ℕ) → m ≡ length ks + n → n < length ls → key_at (ks ++ ls) m ≡ key_at ls n → A) → A
  by_side m low left right =
      elim (cases_lt m (length ks)) [
        | inl here ↦ left here (at_left ks ls m here)
        | inr there ↦
            let all = length-append ks ls in
            let n : ℕ = m - length ks in
            let e : m ≡ length ks + n = omega arith in
            right n e (omega arith) (ap (key_at (ks ++ ls)) e ∙ at_right ks ls n)
      ]

  pub least_right : (i j : ℕ) → IsFirstLeast ks i → IsFirstLeast ls j → Precedes (key_at ls j) (key_at ks i)
      → IsFirstLeast (ks ++ ls) (length ks + j)
  least_right i j f g below = record {
    within = (let all = length-append ks ls in let low = g.within in omega arith);
    least = λ m low less. by_side m low
        (λ here e. f.least m here (order.trans (key_at ks m) (key_at ls j) (key_at ks i) (rw (e, at_right ks ls j) at less) below))
        (λ n e in_ls is. g.least n in_ls (rw (is, at_right ks ls j) at less));
    first = λ m low. by_side m (let all = length-append ks ls in let within = g.within in omega arith)
        (λ here e. rw (e, at_right ks ls j) (down_to (key_at ls j) (key_at ks i) (key_at ks m) below (f.least m here)))
        (λ n e in_ls is. rw (is, at_right ks ls j) (g.first n (omega arith)));
  }

  pub least_left : (i j : ℕ) → IsFirstLeast ks i → IsFirstLeast ls j → (Precedes (key_at ls j) (key_at ks i) → ⊥)
      → IsFirstLeast (ks ++ ls) i
  least_left i j f g most = record {
    within = (let all = length-append ks ls in let low = f.within in omega arith);
    least = λ m low less. by_side m low
        (λ here e. f.least m here (rw (e, at_left ks ls i f.within) at less))
        (λ n e in_ls is. most (up_to (key_at ls j) (key_at ls n) (key_at ks i) (g.least n in_ls) (rw (is, at_left ks ls i f.within) at less)));
    first = λ m low. let within = f.within in rw (at_left ks ls i f.within, at_left ks ls m (omega arith)) (f.first m low);
  }
