-- The scopes of a path.
--   scopes-joined     with one node more
--   scopes_more, scopes_next   and so along a path
--   within_scopes     the scope of each node is among them
use Rattle.std.proofs.Common.{◌≡◌, ◌<◌, ◌==◌, ◌||◌, not, ℕ, Bool, true, false, List, [], ◌∷◌, ◌++◌, refl, sym, ap, ◌∙◌, take, get_or, length, ◌+◌}
use Rattle.std.specs.List.{list_any, filter}
use Rattle.std.specs.Prelude.{if◌then◌else◌}
use Rattle.std.proofs.lemmas.Bool.{eqb-true, or_left, or_right}
use Rattle.std.proofs.lemmas.List.{take_more, append-nil}
use Rattle.std.proofs.lemmas.List.Elements.{filter-append}
use Rattle.std.proofs.lemmas.Map.Views.{any-filter_same}
use Rattle.lists.specs.TestLaws.{by_test}
use Rattle.pair_recorder.specs.declared.seen.Seen.{Seen}
use Rattle.pair_recorder.specs.Paths.{AreWithin, with_scope, scopes_in}
use Rattle.pair_recorder.proofs.Pathed.{eqb_itself}

-- a scope that is not t, among those without t
any_other : (s t : ℕ) (scopes : List ℕ) → (s == t) ≡ false
    → list_any (λ x. s == x) (filter (λ x. not (x == t)) scopes) ≡ list_any (λ x. s == x) scopes
any_other s t scopes apart = any-filter_same (λ x. s == x) (λ x. not (x == t)) true (λ k is. ap (λ (n : ℕ). not (n == t)) (sym (eqb-true s k is)) ∙ ap not apart) scopes

module _ (scopes : List ℕ) (t : ℕ) where
  stays : list_any (λ s. t == s) scopes ≡ true → with_scope scopes t ≡ scopes
  stays among = ap (λ (b : Bool). if b then scopes else scopes ++ t ∷ []) among

  grows : list_any (λ s. t == s) scopes ≡ false → with_scope scopes t ≡ scopes ++ t ∷ []
  grows new = ap (λ (b : Bool). if b then scopes else scopes ++ t ∷ []) new

-- one scope more, behind a first one
added : (scopes : List ℕ) (h t : ℕ)
    → h ∷ filter (λ s. not (s == h)) (with_scope scopes t) ≡ with_scope (h ∷ filter (λ s. not (s == h)) scopes) t
added scopes h t =
    by_test (t == h)
    (λ is. by_test (list_any (λ s. t == s) scopes)
    (λ among. ap (λ (xs : List ℕ). h ∷ others xs) (stays scopes t among) ∙ sym (stays (h ∷ others scopes) t (or_left (t == h) _ is)))
    (λ new. ap (λ (xs : List ℕ). h ∷ others xs) (grows scopes t new) ∙ ap (λ (xs : List ℕ). h ∷ xs) (last_one true is ∙ append-nil (others scopes)) ∙ sym (stays (h ∷ others scopes) t (or_left (t == h) _ is))))
    (λ apart. by_test (list_any (λ s. t == s) scopes)
    (λ among. ap (λ (xs : List ℕ). h ∷ others xs) (stays scopes t among) ∙ sym (stays (h ∷ others scopes) t (or_right (t == h) _ (any_other t h scopes apart ∙ among))))
    (λ new. ap (λ (xs : List ℕ). h ∷ others xs) (grows scopes t new) ∙ ap (λ (xs : List ℕ). h ∷ xs) (last_one false apart) ∙ sym (grows (h ∷ others scopes) t (ap (λ (b : Bool). b || list_any (λ s. t == s) (others scopes)) apart ∙ any_other t h scopes apart ∙ new))))
  where
    others : List ℕ → List ℕ
    others xs = filter (λ s. not (s == h)) xs

    last_one : (b : Bool) → (t == h) ≡ b
        → others (scopes ++ t ∷ []) ≡ others scopes ++ (if not b then t ∷ [] else [])
    last_one b is = filter-append (λ s. not (s == h)) scopes (t ∷ []) ∙ ap (λ (c : Bool). others scopes ++ (if not c then t ∷ [] else [])) is

scopes-joined : (path : List Seen) (e : Seen) → scopes_in (path ++ e ∷ []) ≡ with_scope (scopes_in path) e.scope
scopes-joined [] e = refl
scopes-joined (x ∷ path) e = ap (λ (ss : List ℕ). x.scope ∷ filter (λ s. not (s == x.scope)) ss) (scopes-joined path e) ∙ added (scopes_in path) x.scope e.scope

scopes_more : (path : List Seen) (i : ℕ) (d : Seen) → i < length path
    → scopes_in (take (i + 1) path) ≡ with_scope (scopes_in (take i path)) (get_or path i d).scope
scopes_more path i d low = ap (λ (xs : List Seen). scopes_in xs) (take_more path i d low) ∙ scopes-joined (take i path) (get_or path i d)

-- what is among some scopes is among others
within_kept : (path : List Seen) (old new : List ℕ)
    → ((t : ℕ) → list_any (λ s. t == s) old ≡ true → list_any (λ s. t == s) new ≡ true) → AreWithin path old
    → AreWithin path new
within_kept [] old new kept within = tt
within_kept (x ∷ path) old new kept within = (kept x.scope within.0, within_kept path old new kept within.1)

pub within_scopes : (path : List Seen) → AreWithin path (scopes_in path)
within_scopes [] = tt
within_scopes (e ∷ path) = (
  or_left (e.scope == e.scope) _ (eqb_itself e.scope),
  within_kept path (scopes_in path) _ (λ t among. by_test (t == e.scope) (λ is. or_left (t == e.scope) _ is) (λ apart. or_right (t == e.scope) _ (any_other t e.scope (scopes_in path) apart ∙ among))) (within_scopes path),
)

-- one turn of a loop along the path
pub scopes_next : (path : List Seen) (i : ℕ) (d : Seen) (old new : List ℕ) → i < length path
    → new ≡ with_scope old (get_or path i d).scope → old ≡ scopes_in (take i path) → new ≡ scopes_in (take (i + 1) path)
scopes_next path i d old new low is so_far = is ∙ ap (λ (ss : List ℕ). with_scope ss (get_or path i d).scope) so_far ∙ sym (scopes_more path i d low)
