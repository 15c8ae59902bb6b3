-- A walk up the scopes whose header a step enters.
--   headed_pushed, not_headed   what is found in a list, where a scope was added to it and where not
--   from_own       where the walk begins
--   last_found, more_found, all_found   where it ends at the top, goes on, and has no step left
use Rattle.std.proofs.Common.{◌≡◌, ◌≢◌, ◌<◌, ◌≤◌, ◌+◌, ◌-◌, ◌==◌, ◌||◌, ◌&&◌, ℕ, List, [], ◌∷◌, ◌++◌, None, Some, Bool, true, false, length, get_or, refl, sym, ap, ◌∙◌, arith}
use Rattle.std.specs.Prelude.{slice_get}
use Rattle.std.specs.List.{list_any}
use Rattle.std.proofs.lemmas.Bool.{eq-eqb, ne_eqb}
use Rattle.domain_core.specs.declared.outline.NodeRow.{NodeRow}
use Rattle.domain_core.specs.Outlines.{Outlined, shape_of, header_of, parent_of, scopes_from}
use Rattle.recorder_rules.specs.EndedNodeLaws.{or_thrice, any_with}
use Rattle.flow_recorders.specs.ClimbLaws.{own_at, from_last, from_more, any_joined}

last_only : (x g : Bool) → g ≡ true → (x || false) ≡ (x && g)
last_only true g is = sym is
last_only false g is = refl

none_more : (x y g : Bool) → g ≡ false → x ≡ (x || (y && g))
none_more true y g not = refl
none_more false true g not = sym not
none_more false false g not = refl

or_nothing : (x : Bool) → (x || false) ≡ x
or_nothing true = refl
or_nothing false = refl

-- what is found in a list, where a scope was added to it and where not
pub headed_pushed : (t s h n : ℕ) (old new : List ℕ) → new ≡ old ++ s ∷ [] → h ≡ n
    → list_any (λ k. t == k) new ≡ (list_any (λ k. t == k) old || ((t == s) && (h == n)))
headed_pushed t s h n old new is same =
    ap (λ (xs : List ℕ). list_any (λ k. t == k) xs) is ∙ any_joined t old (s ∷ [])
    ∙ ap (λ (b : Bool). list_any (λ k. t == k) old || b) (last_only (t == s) (h == n) (eq-eqb h n same))

pub not_headed : (t s h n : ℕ) (old : List ℕ) → h ≢ n
    → list_any (λ k. t == k) old ≡ (list_any (λ k. t == k) old || ((t == s) && (h == n)))
not_headed t s h n old other = none_more (list_any (λ k. t == k) old) (t == s) (h == n) (ne_eqb h n other)

module _ (o : Outlined) (from to : ℕ) where
  -- the scope is the one looked for, and has the header
  abbrev headed : ℕ → ℕ → Bool
  headed t s = (t == s) && (header_of o.scopes s == to)

  abbrev around : List ℕ
  around = scopes_from o.scopes (length o.scopes) (get_or (shape_of o).own from 0)

  -- where the walk begins
  pub from_own : (row : NodeRow) → slice_get o.nodes from ≡ Some row
      → scopes_from o.scopes (length o.scopes - 0) row.scope ≡ around
  from_own row is =
      ap (λ (k : ℕ). scopes_from o.scopes k row.scope) (let e : length o.scopes - 0 ≡ length o.scopes = omega arith in e)
      ∙ ap (λ (s : ℕ). scopes_from o.scopes (length o.scopes) s) (sym (own_at o.nodes from row is))

  module _ (t : ℕ) (old had : Bool) (step s : ℕ) (found : (had || list_any (headed t) (scopes_from o.scopes (length o.scopes - step) s)) ≡ (old || list_any (headed t) around)) where
    whole : (old || list_any (headed t) around) ≡ (old || (list_any (λ k. t == k) around && (header_of o.scopes t == to)))
    whole = ap (λ (b : Bool). old || b) (any_with t (λ k. header_of o.scopes k == to) around)

    -- where it ends at the top
    pub last_found : (has : Bool) → has ≡ (had || headed t s) → step < length o.scopes → parent_of o.scopes s ≡ None
        → has ≡ (old || (list_any (λ k. t == k) around && (header_of o.scopes t == to)))
    last_found has is low none =
        is ∙ sym (or_nothing (had || headed t s)) ∙ or_thrice had (headed t s) false
        ∙ ap (λ (xs : List ℕ). had || list_any (headed t) xs) (sym (from_last o.scopes (length o.scopes - step) (length o.scopes - (step + 1)) s (omega arith) none))
        ∙ found ∙ whole

    -- where it goes on
    pub more_found : (has : Bool) (p : ℕ) → has ≡ (had || headed t s) → step < length o.scopes
        → parent_of o.scopes s ≡ Some p
        → (has || list_any (headed t) (scopes_from o.scopes (length o.scopes - (step + 1)) p)) ≡ (old || list_any (headed t) around)
    more_found has p is low some =
        ap (λ (b : Bool). b || list_any (headed t) (scopes_from o.scopes (length o.scopes - (step + 1)) p)) is
        ∙ or_thrice had (headed t s) (list_any (headed t) (scopes_from o.scopes (length o.scopes - (step + 1)) p))
        ∙ ap (λ (xs : List ℕ). had || list_any (headed t) xs) (sym (from_more o.scopes (length o.scopes - step) (length o.scopes - (step + 1)) s p (omega arith) some))
        ∙ found

    -- where it has no step left
    pub all_found : length o.scopes ≤ step
        → had ≡ (old || (list_any (λ k. t == k) around && (header_of o.scopes t == to)))
    all_found over =
        let none : length o.scopes - step ≡ 0 = omega arith in
        sym (or_nothing had) ∙ ap (λ (k : ℕ). had || list_any (headed t) (scopes_from o.scopes k s)) (sym none) ∙ found ∙ whole
