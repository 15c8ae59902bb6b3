-- Laws of paths.
--   entered-joined, met-joined, paired-joined   one node more
--   entered_more, met_more, paired_more   and so along a path
--   below_joined, below_kept, own_joined, own_kept   what holds of each node, with one more and with some taken out
--   below_at, own_at   a node of the path
--   any_paired       pairs with one of several scopes
--   within_paired    all pairs, where each scope is among those
--   own_met, own_paired   where each scope is the own scope of its node
--   paired_entered   of a pair the newer one was entered
--   entered_kept, paired_kept   a path without the nodes that have one of several scopes
use Rattle.std.proofs.Common.{◌≡◌, ◌<◌, ◌==◌, ◌&&◌, ◌||◌, not, ℕ, Bool, true, false, cond, List, [], ◌∷◌, ◌++◌, inl, inr, refl, sym, ap, ◌∙◌, arith, zero, suc, take, get_or, length, ◌+◌}
use Rattle.std.specs.List.{list_any, filter}
use Rattle.std.proofs.lemmas.Bool.{eqb-true, eq-eqb, ne_eqb, and_parts, or_cases, or_left, or_right}
use Rattle.std.proofs.lemmas.List.{take_more}
use Rattle.lists.specs.TestLaws.{by_test}
use Rattle.domain_core.specs.Outlines.{Shape}
use Rattle.recorder_rules.specs.EndedNodeLaws.{any_with}
use Rattle.recorder_rules.specs.LoopRules.{own_of}
use Rattle.pair_recorder.specs.declared.seen.Seen.{Seen}
use Rattle.pair_recorder.specs.Paths.{entered, met, paired, paired_in, AreBelow, AreOwn, AreWithin}

-- ---- tests

pub or_thrice : (x y z : Bool) → ((x || y) || z) ≡ (x || (y || z))
or_thrice true y z = refl
or_thrice false y z = refl

or_nothing : (x : Bool) → (x || false) ≡ x
or_nothing true = refl
or_nothing false = refl

pub eqb_itself : (n : ℕ) → (n == n) ≡ true
eqb_itself n = eq-eqb n n refl

pub eqb_turned : (m n : ℕ) → (m == n) ≡ (n == m)
eqb_turned m n = by_test (m == n) (λ is. is ∙ sym (eq-eqb n m (sym (eqb-true m n is)))) (λ clear. clear ∙ sym (ne_eqb n m (λ e. let bad : true ≡ false = sym (eq-eqb m n (sym e)) ∙ clear in cc)))

-- ---- one node more

pub entered-joined : (a : ℕ) (path : List Seen) (e : Seen)
    → entered a (path ++ e ∷ []) ≡ (entered a path || (a == e.node))
entered-joined a [] e = or_nothing (a == e.node)
entered-joined a (x ∷ path) e = ap (λ (t : Bool). (a == x.node) || t) (entered-joined a path e) ∙ sym (or_thrice (a == x.node) (entered a path) (a == e.node))

pub met-joined : (a t : ℕ) (path : List Seen) (e : Seen)
    → met a t (path ++ e ∷ []) ≡ (met a t path || ((a == e.node) && (t == e.scope)))
met-joined a t [] e = or_nothing ((a == e.node) && (t == e.scope))
met-joined a t (x ∷ path) e =
    ap (λ (s : Bool). ((a == x.node) && (t == x.scope)) || s) (met-joined a t path e) ∙ sym (or_thrice ((a == x.node) && (t == x.scope)) (met a t path) ((a == e.node) && (t == e.scope)))

only_pair : (v x y s : Bool) → ((v && (x && ((y && s) || false))) || false) ≡ (v && (y && ((x && s) || false)))
only_pair v x y s = grind arith

apart_pair : (u x p q y r v m : Bool) → ((u && (x && (p || (q || (y && false))))) || (r || (v && (y && m)))) ≡ (((u && (x && (p || q))) || r) || (v && (y && ((x && false) || m))))
apart_pair u x p q y r v m = grind arith

shared_pair : (u x p q y r m : Bool) → ((u && (x && (p || (q || (y && true))))) || (r || (u && (y && m)))) ≡ (((u && (x && (p || q))) || r) || (u && (y && ((x && true) || m))))
shared_pair u x p q y r m = grind arith

pub paired-joined : (p : ℕ → Bool) (a b : ℕ) (path : List Seen) (e : Seen) → paired_in p a b (path ++ e ∷ []) ≡ (paired_in p a b path || (p e.scope && ((a == e.node) && met b e.scope (path ++ e ∷ []))))
paired-joined p a b [] e = only_pair (p e.scope) (b == e.node) (a == e.node) (e.scope == e.scope)
paired-joined p a b (x ∷ path) e =
    ap (λ (t : Bool). (p x.scope && ((b == x.node) && (((a == x.node) && (x.scope == x.scope)) || t))) || paired_in p a b (path ++ e ∷ [])) (met-joined a x.scope path e)
    ∙ ap (λ (t : Bool). (p x.scope && ((b == x.node) && (((a == x.node) && (x.scope == x.scope)) || (met a x.scope path || ((a == e.node) && (x.scope == e.scope)))))) || t) (paired-joined p a b path e)
    ∙ by_test (x.scope == e.scope)
    (λ is.
    let same : x.scope ≡ e.scope = eqb-true x.scope e.scope is in
    ap (λ (t : Bool). (p x.scope && ((b == x.node) && (((a == x.node) && (x.scope == x.scope)) || (met a x.scope path || ((a == e.node) && t))))) || (paired_in p a b path || (p e.scope && ((a == e.node) && met b e.scope (path ++ e ∷ []))))) is
    ∙ ap (λ (t : Bool). (p x.scope && ((b == x.node) && (((a == x.node) && (x.scope == x.scope)) || (met a x.scope path || ((a == e.node) && true))))) || (paired_in p a b path || (t && ((a == e.node) && met b e.scope (path ++ e ∷ []))))) (ap p (sym same))
    ∙ shared_pair (p x.scope) (b == x.node) ((a == x.node) && (x.scope == x.scope)) (met a x.scope path) (a == e.node) (paired_in p a b path) (met b e.scope (path ++ e ∷ []))
    ∙ ap (λ (t : Bool). paired_in p a b (x ∷ path) || (t && ((a == e.node) && (((b == x.node) && true) || met b e.scope (path ++ e ∷ []))))) (ap p same)
    ∙ ap (λ (t : Bool). paired_in p a b (x ∷ path) || (p e.scope && ((a == e.node) && (((b == x.node) && t) || met b e.scope (path ++ e ∷ []))))) (sym (eqb_turned e.scope x.scope ∙ is)))
    (λ clear.
    ap (λ (t : Bool). (p x.scope && ((b == x.node) && (((a == x.node) && (x.scope == x.scope)) || (met a x.scope path || ((a == e.node) && t))))) || (paired_in p a b path || (p e.scope && ((a == e.node) && met b e.scope (path ++ e ∷ []))))) clear
    ∙ apart_pair (p x.scope) (b == x.node) ((a == x.node) && (x.scope == x.scope)) (met a x.scope path) (a == e.node) (paired_in p a b path) (p e.scope) (met b e.scope (path ++ e ∷ []))
    ∙ ap (λ (t : Bool). paired_in p a b (x ∷ path) || (p e.scope && ((a == e.node) && (((b == x.node) && t) || met b e.scope (path ++ e ∷ []))))) (sym (eqb_turned e.scope x.scope ∙ clear)))

-- and so along a path
module _ (path : List Seen) (i : ℕ) (d : Seen) (low : i < length path) where
  abbrev at_i : Seen
  at_i = get_or path i d

  pub entered_more : (a : ℕ) → entered a (take (i + 1) path) ≡ (entered a (take i path) || (a == at_i.node))
  entered_more a = ap (λ (xs : List Seen). entered a xs) (take_more path i d low) ∙ entered-joined a (take i path) at_i

  pub met_more : (a t : ℕ)
      → met a t (take (i + 1) path) ≡ (met a t (take i path) || ((a == at_i.node) && (t == at_i.scope)))
  met_more a t = ap (λ (xs : List Seen). met a t xs) (take_more path i d low) ∙ met-joined a t (take i path) at_i

  pub paired_more : (t a b : ℕ) → paired_in (λ s. s == t) a b (take (i + 1) path) ≡ (paired_in (λ s. s == t) a b (take i path) || ((at_i.scope == t) && ((a == at_i.node) && met b t (take (i + 1) path))))
  paired_more t a b =
      ap (λ (xs : List Seen). paired_in (λ s. s == t) a b xs) (take_more path i d low) ∙ paired-joined (λ s. s == t) a b (take i path) at_i
      ∙ ap (λ (x : Bool). paired_in (λ s. s == t) a b (take i path) || x)
      (by_test (at_i.scope == t)
      (λ is. ap (λ (u : ℕ). (at_i.scope == t) && ((a == at_i.node) && met b u (take i path ++ at_i ∷ []))) (eqb-true at_i.scope t is))
      (λ clear. ap (λ (x : Bool). x && ((a == at_i.node) && met b at_i.scope (take i path ++ at_i ∷ []))) clear ∙ ap (λ (x : Bool). x && ((a == at_i.node) && met b t (take i path ++ at_i ∷ []))) (sym clear)))
      ∙ ap (λ (xs : List Seen). paired_in (λ s. s == t) a b (take i path) || ((at_i.scope == t) && ((a == at_i.node) && met b t xs))) (sym (take_more path i d low))

-- ---- nodes of which some are taken out, or that have one more

pub below_joined : (n : ℕ) (path : List Seen) (e : Seen) → AreBelow n path → e.node < n → AreBelow n (path ++ e ∷ [])
below_joined n [] e below low = (low, tt)
below_joined n (x ∷ path) e below low = (below.0, below_joined n path e below.1 low)

pub below_kept : (n : ℕ) (test : Seen → Bool) (path : List Seen) → AreBelow n path → AreBelow n (filter test path)
below_kept n test [] below = tt
below_kept n test (x ∷ path) below =
    by_test (test x) (λ is. rw is (below.0, below_kept n test path below.1)) (λ clear. rw clear (below_kept n test path below.1))

pub own_kept : (o : Shape) (test : Seen → Bool) (path : List Seen) → AreOwn o path → AreOwn o (filter test path)
own_kept o test [] own = tt
own_kept o test (x ∷ path) own = by_test (test x) (λ is. rw is (own.0, own_kept o test path own.1)) (λ clear. rw clear (own_kept o test path own.1))

pub own_joined : (o : Shape) (path : List Seen) (e : Seen) → AreOwn o path → own_of o e.node ≡ e.scope
    → AreOwn o (path ++ e ∷ [])
own_joined o [] e own is = (is, tt)
own_joined o (x ∷ path) e own is = (own.0, own_joined o path e own.1 is)

-- a node of the path
pub below_at : (n : ℕ) (path : List Seen) (i : ℕ) (d : Seen) → AreBelow n path → i < length path
    → (get_or path i d).node < n
below_at n [] i d below low = absurd (omega arith)
below_at n (x ∷ path) zero d below low = below.0
below_at n (x ∷ path) (suc i) d below low = below_at n path i d below.1 (omega arith)

pub own_at : (o : Shape) (path : List Seen) (i : ℕ) (d : Seen) → AreOwn o path → i < length path
    → own_of o (get_or path i d).node ≡ (get_or path i d).scope
own_at o [] i d own low = absurd (omega arith)
own_at o (x ∷ path) zero d own low = own.0
own_at o (x ∷ path) (suc i) d own low = own_at o path i d own.1 (omega arith)

-- ---- pairs with one of several scopes

any_either : (f g : ℕ → Bool) (xs : List ℕ) → list_any (λ s. f s || g s) xs ≡ (list_any f xs || list_any g xs)
any_either f g [] = refl
any_either f g (x ∷ xs) = ap (λ (t : Bool). (f x || g x) || t) (any_either f g xs) ∙ four (f x) (g x) (list_any f xs) (list_any g xs)
  where
    four : (x y z w : Bool) → ((x || y) || (z || w)) ≡ ((x || z) || (y || w))
    four x y z w = grind arith

any_none : (xs : List ℕ) → list_any (λ s. false) xs ≡ false
any_none [] = refl
any_none (x ∷ xs) = any_none xs

pub any_paired : (a b : ℕ) (scopes : List ℕ) (path : List Seen)
    → list_any (λ s. paired_in (λ t. t == s) a b path) scopes ≡ paired_in (λ t. list_any (λ s. t == s) scopes) a b path
any_paired a b scopes [] = any_none scopes
any_paired a b scopes (e ∷ path) =
    any_either (λ s. (e.scope == s) && ((b == e.node) && met a e.scope (e ∷ path))) (λ s. paired_in (λ t. t == s) a b path) scopes
    ∙ ap (λ (t : Bool). t || list_any (λ s. paired_in (λ t. t == s) a b path) scopes) (any_with e.scope (λ s. (b == e.node) && met a e.scope (e ∷ path)) scopes)
    ∙ ap (λ (t : Bool). (list_any (λ s. e.scope == s) scopes && ((b == e.node) && met a e.scope (e ∷ path))) || t) (any_paired a b scopes path)

-- all of them
pub within_paired : (a b : ℕ) (scopes : List ℕ) (path : List Seen) → AreWithin path scopes
    → paired_in (λ t. list_any (λ s. t == s) scopes) a b path ≡ paired a b path
within_paired a b scopes [] within = refl
within_paired a b scopes (e ∷ path) within =
    ap (λ (t : Bool). (t && ((b == e.node) && met a e.scope (e ∷ path))) || paired_in (λ t. list_any (λ s. t == s) scopes) a b path) within.0
    ∙ ap (λ (t : Bool). ((b == e.node) && met a e.scope (e ∷ path)) || t) (within_paired a b scopes path within.1)

-- ---- where each scope is the own scope of its node

pub own_met : (o : Shape) (b t : ℕ) (path : List Seen) → AreOwn o path
    → met b t path ≡ ((own_of o b == t) && entered b path)
own_met o b t [] own = sym (none (own_of o b == t))
  where
    none : (x : Bool) → (x && false) ≡ false
    none true = refl
    none false = refl
own_met o b t (e ∷ path) own =
    ap (λ (x : Bool). ((b == e.node) && (t == e.scope)) || x) (own_met o b t path own.1)
    ∙ by_test (b == e.node)
    (λ is. ap (λ (x : Bool). (x && (t == e.scope)) || ((own_of o b == t) && entered b path)) is
    ∙ ap (λ (x : Bool). x || ((own_of o b == t) && entered b path)) (eqb_turned t e.scope ∙ ap (λ (n : ℕ). n == t) (sym (ap (λ (n : ℕ). own_of o n) (eqb-true b e.node is) ∙ own.0)))
    ∙ here (own_of o b == t) (entered b path)
    ∙ ap (λ (x : Bool). (own_of o b == t) && (x || entered b path)) (sym is))
    (λ clear. ap (λ (x : Bool). (x && (t == e.scope)) || ((own_of o b == t) && entered b path)) clear
    ∙ ap (λ (x : Bool). (own_of o b == t) && (x || entered b path)) (sym clear))
  where
    here : (x y : Bool) → (x || (x && y)) ≡ (x && (true || y))
    here x y = grind arith

-- of a pair both were entered
met_entered : (a t : ℕ) (path : List Seen) → met a t path ≡ true → entered a path ≡ true
met_entered a t [] is = is
met_entered a t (e ∷ path) is =
    elim (or_cases ((a == e.node) && (t == e.scope)) (met a t path) is) [
      | inl here ↦ or_left (a == e.node) (entered a path) (and_parts (a == e.node) (t == e.scope) here).0
      | inr there ↦ or_right (a == e.node) (entered a path) (met_entered a t path there)
    ]

pub paired_entered : (p : ℕ → Bool) (a b : ℕ) (path : List Seen) → paired_in p a b path ≡ true → entered a path ≡ true
paired_entered p a b [] is = is
paired_entered p a b (e ∷ path) is =
    elim (or_cases (p e.scope && ((b == e.node) && met a e.scope (e ∷ path))) (paired_in p a b path) is) [
      | inl here ↦ met_entered a e.scope (e ∷ path) (and_parts (b == e.node) (met a e.scope (e ∷ path)) (and_parts (p e.scope) ((b == e.node) && met a e.scope (e ∷ path)) here).1).1
      | inr there ↦ or_right (a == e.node) (entered a path) (paired_entered p a b path there)
    ]

-- the scope of a node that is met
scope_met : (o : Shape) (a t : ℕ) (path : List Seen) → AreOwn o path → met a t path ≡ true → own_of o a ≡ t
scope_met o a t path own is = eqb-true (own_of o a) t (and_parts (own_of o a == t) (entered a path) (sym (own_met o a t path own) ∙ is)).0

module _ (o : Shape) (p : ℕ → Bool) where
  -- the pairs with scopes that pass the test
  pub own_paired : (a b : ℕ) (path : List Seen) → AreOwn o path
      → paired_in p a b path ≡ (paired a b path && p (own_of o a))
  own_paired a b [] own = refl
  own_paired a b (e ∷ path) own =
      ap (λ (x : Bool). (p e.scope && ((b == e.node) && met a e.scope (e ∷ path))) || x) (own_paired a b path own.1)
      ∙ by_test (met a e.scope (e ∷ path))
      (λ is. rw is (ap (λ (x : Bool). (x && ((b == e.node) && true)) || (paired a b path && p (own_of o a))) (ap p (sym (scope_met o a e.scope (e ∷ path) own is)))
      ∙ there (p (own_of o a)) (b == e.node) (paired a b path)))
      (λ clear. rw clear (not_there (p e.scope) (b == e.node) (paired a b path && p (own_of o a)) (paired a b path) (p (own_of o a)) refl))
    where
      there : (u x r : Bool) → ((u && (x && true)) || (r && u)) ≡ (((x && true) || r) && u)
      there u x r = grind arith

      not_there : (u x y r v : Bool) → y ≡ (r && v) → ((u && (x && false)) || y) ≡ (((x && false) || r) && v)
      not_there u x y r v is = grind (arith, is)

  -- the path without the nodes that have such a scope
  abbrev keeps : Seen → Bool
  keeps e = not (p e.scope)

  met_kept : (a t : ℕ) (path : List Seen) → met a t (filter keeps path) ≡ (met a t path && not (p t))
  met_kept a t [] = refl
  met_kept a t (e ∷ path) =
      by_test (p e.scope)
      (λ is. ap (λ (x : Bool). met a t (cond (not x) (e ∷ filter keeps path) (filter keeps path))) is ∙ met_kept a t path
      ∙ by_test (t == e.scope)
      (λ same. let out : p t ≡ true = ap p (eqb-true t e.scope same) ∙ is in rw (out, same) (gone (met a t path) (a == e.node)))
      (λ other. rw other (other_gone (met a t path) (a == e.node) (not (p t)))))
      (λ clear. ap (λ (x : Bool). met a t (cond (not x) (e ∷ filter keeps path) (filter keeps path))) clear
      ∙ ap (λ (x : Bool). ((a == e.node) && (t == e.scope)) || x) (met_kept a t path)
      ∙ by_test (t == e.scope)
      (λ same. let in_it : p t ≡ false = ap p (eqb-true t e.scope same) ∙ clear in rw (in_it, same) (stays (met a t path) (a == e.node)))
      (λ other. rw other (other_gone_too (met a t path) (a == e.node) (not (p t)))))
    where
      gone : (m x : Bool) → (m && false) ≡ (((x && true) || m) && false)
      gone m x = grind arith

      other_gone : (m x k : Bool) → (m && k) ≡ (((x && false) || m) && k)
      other_gone m x k = grind arith

      stays : (m x : Bool) → ((x && true) || (m && true)) ≡ (((x && true) || m) && true)
      stays m x = grind arith

      other_gone_too : (m x k : Bool) → ((x && false) || (m && k)) ≡ (((x && false) || m) && k)
      other_gone_too m x k = grind arith

  pub entered_kept : (a : ℕ) (path : List Seen) → AreOwn o path
      → entered a (filter keeps path) ≡ (entered a path && not (p (own_of o a)))
  entered_kept a path own =
      by_own (filter keeps path) (own_kept o keeps path own) ∙ met_kept a (own_of o a) path ∙ ap (λ (x : Bool). x && not (p (own_of o a))) (sym (by_own path own))
    where
      by_own : (xs : List Seen) → AreOwn o xs → entered a xs ≡ met a (own_of o a) xs
      by_own xs its = sym (own_met o a (own_of o a) xs its ∙ ap (λ (x : Bool). x && entered a xs) (eqb_itself (own_of o a)))

  pub paired_kept : (a b : ℕ) (path : List Seen) → AreOwn o path
      → paired a b (filter keeps path) ≡ (paired a b path && not (p (own_of o a)))
  paired_kept a b [] own = refl
  paired_kept a b (e ∷ path) own =
      by_test (p e.scope)
      (λ is. ap (λ (x : Bool). paired a b (cond (not x) (e ∷ filter keeps path) (filter keeps path))) is ∙ paired_kept a b path own.1
      ∙ by_test (met a e.scope (e ∷ path))
      (λ there. let out : p (own_of o a) ≡ true = ap p (scope_met o a e.scope (e ∷ path) own there) ∙ is in rw (out, there) (gone (paired a b path) (b == e.node)))
      (λ none. rw none (other_gone (paired a b path) (b == e.node) (not (p (own_of o a))))))
      (λ clear. ap (λ (x : Bool). paired a b (cond (not x) (e ∷ filter keeps path) (filter keeps path))) clear
      ∙ ap (λ (x : Bool). ((b == e.node) && x) || paired a b (filter keeps path))
      (ap (λ (x : Bool). met a e.scope (cond (not x) (e ∷ filter keeps path) (filter keeps path))) (sym clear) ∙ met_kept a e.scope (e ∷ path) ∙ ap (λ (x : Bool). met a e.scope (e ∷ path) && not x) clear)
      ∙ ap (λ (x : Bool). ((b == e.node) && (met a e.scope (e ∷ path) && true)) || x) (paired_kept a b path own.1)
      ∙ by_test (met a e.scope (e ∷ path))
      (λ there. let in_it : p (own_of o a) ≡ false = ap p (scope_met o a e.scope (e ∷ path) own there) ∙ clear in rw (in_it, there) (stays (paired a b path) (b == e.node)))
      (λ none. rw none (stays_too (paired a b path) (b == e.node) (not (p (own_of o a))))))
    where
      gone : (r x : Bool) → (r && false) ≡ (((x && true) || r) && false)
      gone r x = grind arith

      other_gone : (r x k : Bool) → (r && k) ≡ (((x && false) || r) && k)
      other_gone r x k = grind arith

      stays : (r x : Bool) → ((x && (true && true)) || (r && true)) ≡ (((x && true) || r) && true)
      stays r x = grind arith

      stays_too : (r x k : Bool) → ((x && (false && true)) || (r && k)) ≡ (((x && false) || r) && k)
      stays_too r x k = grind arith
