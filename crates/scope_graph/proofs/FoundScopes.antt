-- Scopes that are found one after the other.
use Rattle.std.proofs.Common.{◌≡◌, ◌<◌, ◌+◌, ℕ, Bool, List, [], ◌∷◌, ◌++◌, inl, inr, None, Some, Contains, get_or, length, refl, ap, sym, ◌∙◌, subst, arith}
use Rattle.std.proofs.lemmas.Bool.{cases_lt}
use Rattle.std.proofs.lemmas.List.{get_or_append_left, get_or_push, length_push}
use Rattle.domain_core.specs.declared.scope_kind.ScopeKind.{ScopeKind}
use Rattle.domain_core.specs.declared.scope_kind.ScopeKind.TheVariants.{Call, Loop}
use Rattle.domain_core.specs.declared.outline.ScopeRow.{ScopeRow}
use Rattle.graph_walks.specs.Walks.{Walk, stays, goes_on}
use Rattle.domain_core.specs.Scopes.{Plan}
use Rattle.domain_core.specs.Outlines.{no_scope, header_of, kind_of}
use Rattle.graph_walks.specs.Tables.{HasEdge}
use Rattle.scope_graph.specs.LoopBodies.{ReturnsBack, IsBackward}
use Rattle.scope_graph.specs.Members.{MarksExactly, IsTaken}
use Rattle.scope_graph.specs.Found.{IsKindAt, IsMember, IsFound}

-- marks that say the same
pub marks_same : (count : ℕ) (P Q : ℕ → Type 0) (marks : List Bool) → ((n : ℕ) → P n → Q n) → ((n : ℕ) → Q n → P n)
    → MarksExactly count P marks → MarksExactly count Q marks
marks_same count P Q marks to from m = record { long = m.long; yes = λ n is. to n (m.yes n is); all = λ n low q. m.all n low (from n q) }

module _ (table : List (List ℕ)) (back : List (ℕ × ℕ)) (plan : Plan) where
  -- a node that is reached against the edges is one of them
  pub returns_low : (count h n : ℕ) → ((u v : ℕ) → HasEdge table u v → v < count)
      → ((u g : ℕ) → Contains back (u, g) → u < count) → ReturnsBack table back h n → n < count
  returns_low count h n closed sources r = on_walk r.source n r.path (sources r.source h r.noted) r.walk
    where
      on_walk : (u m : ℕ) (path : List ℕ) → u < count → Walk (HasEdge table) u m path → m < count
      on_walk u m path low stays = low
      on_walk u m path low (goes_on {u = x} {v = v} {path = before} walk edge) = closed x v edge

  -- the marks of a loop's members
  pub loop_marks : (count h : ℕ) (body marks : List Bool) → IsBackward table back h body
      → MarksExactly count (IsTaken plan body) marks → MarksExactly count (IsMember table back plan Loop h) marks
  loop_marks count h body marks b m =
      marks_same count (IsTaken plan body) (IsMember table back plan Loop h) marks (λ n taken. (taken.0, b.marked taken.0 taken.1, taken.2)) (λ n member. (member.0, b.all member.0 member.1, member.2)) m

  module _ (bound : ℕ) (rows : List ScopeRow) (holds : List (List Bool)) (f : IsFound table back plan bound rows holds) where
    -- a node is passed over
    pub found_over : IsKindAt plan back bound None → IsFound table back plan (bound + 1) rows holds
    found_over none = record {
      long = f.long;
      below = λ s low. let b = f.below s low in omega arith;
      kinds = f.kinds;
      held = f.held;
      ascend = f.ascend;
      all = all;
    }
      where
        no_kind : (kind : ScopeKind) → IsKindAt plan back bound (Some kind) → ⊥
        no_kind Call is = none.0 is
        no_kind Loop is = none.1 is.1

        all : (kind : ScopeKind) (h : ℕ) → h < bound + 1 → IsKindAt plan back h (Some kind)
            → (s : ℕ) × (s < length rows) × (kind_of rows s ≡ kind) × (header_of rows s ≡ h)
        all kind h low is = elim (cases_lt h bound) [
          | inl old ↦ f.all kind h old is
          | inr new ↦ let same : h ≡ bound = omega arith in absurd (no_kind kind (subst (λ (n : ℕ). IsKindAt plan back n (Some kind)) same is))
        ]

    -- a scope is found
    pub found_more : (row : ScopeRow) (marks : List Bool) → row.header ≡ bound
        → IsKindAt plan back bound (Some row.kind)
        → MarksExactly (length plan.places) (IsMember table back plan row.kind bound) marks
        → IsFound table back plan (bound + 1) (rows ++ row ∷ []) (holds ++ marks ∷ [])
    found_more row marks top is exact = record {
      long = (let l = f.long in let a = length_push rows row in let b = length_push holds marks in omega arith);
      below = λ s low. cases (λ i. header_of (rows ++ row ∷ []) i < bound + 1) s low
          (λ old. subst (λ (r : ScopeRow). r.header < bound + 1) (sym (at_old s old)) (let b = f.below s old in omega arith))
          (subst (λ (r : ScopeRow). r.header < bound + 1) (sym at_new) (omega arith));
      kinds = λ s low. cases (λ i. IsKindAt plan back (header_of (rows ++ row ∷ []) i) (Some (kind_of (rows ++ row ∷ []) i))) s low
          (λ old. subst (λ (r : ScopeRow). IsKindAt plan back r.header (Some r.kind)) (sym (at_old s old)) (f.kinds s old))
          (subst (λ (r : ScopeRow). IsKindAt plan back r.header (Some r.kind)) (sym at_new) (subst (λ (h : ℕ). IsKindAt plan back h (Some row.kind)) (sym top) is));
      held = λ s low. cases (λ i. MarksExactly (length plan.places) (IsMember table back plan (kind_of (rows ++ row ∷ []) i) (header_of (rows ++ row ∷ []) i)) (get_or (holds ++ marks ∷ []) i [])) s low
          (λ old. subst (λ (xs : List Bool). MarksExactly (length plan.places) (IsMember table back plan (kind_of (rows ++ row ∷ []) s) (header_of (rows ++ row ∷ []) s)) xs) (sym (held_old s old))
          (subst (λ (r : ScopeRow). MarksExactly (length plan.places) (IsMember table back plan r.kind r.header) (get_or holds s [])) (sym (at_old s old)) (f.held s old)))
          (subst (λ (xs : List Bool). MarksExactly (length plan.places) (IsMember table back plan (kind_of (rows ++ row ∷ []) (length rows)) (header_of (rows ++ row ∷ []) (length rows))) xs) (sym held_new)
          (subst (λ (r : ScopeRow). MarksExactly (length plan.places) (IsMember table back plan r.kind r.header) marks) (sym at_new)
          (subst (λ (h : ℕ). MarksExactly (length plan.places) (IsMember table back plan row.kind h) marks) (sym top) exact)));
      ascend = λ s t before low. cases (λ i. s < i → header_of (rows ++ row ∷ []) s < header_of (rows ++ row ∷ []) i) t low
          (λ old lt. let a = ap (λ (r : ScopeRow). r.header) (at_old s (omega arith)) in let b = ap (λ (r : ScopeRow). r.header) (at_old t old) in let up = f.ascend s t lt old in omega arith)
          (λ lt. let a = ap (λ (r : ScopeRow). r.header) (at_old s lt) in let b = ap (λ (r : ScopeRow). r.header) at_new in let up = f.below s lt in omega arith)
          before;
      all = all;
    }
      where
        at_old : (s : ℕ) → s < length rows → get_or (rows ++ row ∷ []) s no_scope ≡ get_or rows s no_scope
        at_old s low = get_or_append_left rows (row ∷ []) no_scope s low

        at_new : get_or (rows ++ row ∷ []) (length rows) no_scope ≡ row
        at_new = get_or_push rows row no_scope (length rows) refl

        held_old : (s : ℕ) → s < length rows → get_or (holds ++ marks ∷ []) s [] ≡ get_or holds s []
        held_old s low = get_or_append_left holds (marks ∷ []) [] s (let l = f.long in omega arith)

        held_new : get_or (holds ++ marks ∷ []) (length rows) [] ≡ marks
        held_new = get_or_push holds marks [] (length rows) f.long

        cases : (P : ℕ → Type 0) (s : ℕ) → s < length (rows ++ row ∷ []) → (s < length rows → P s) → P (length rows)
            → P s
        cases P s low old new = elim (cases_lt s (length rows)) [
          | inl a ↦ old a
          | inr past ↦ let longer = length_push rows row in let e : length rows ≡ s = omega arith in subst P e new
        ]

        one_kind : (k l : ScopeKind) → IsKindAt plan back bound (Some k) → IsKindAt plan back bound (Some l) → k ≡ l
        one_kind Call Call a b = refl
        one_kind Call Loop a b = absurd (b.0 a)
        one_kind Loop Call a b = absurd (a.0 b)
        one_kind Loop Loop a b = refl

        all : (kind : ScopeKind) (h : ℕ) → h < bound + 1 → IsKindAt plan back h (Some kind)
            → (s : ℕ) × (s < length (rows ++ row ∷ [])) × (kind_of (rows ++ row ∷ []) s ≡ kind) × (header_of (rows ++ row ∷ []) s ≡ h)
        all kind h low of_kind = elim (cases_lt h bound) [
          | inl old ↦ let r = f.all kind h old of_kind in
              (r.0, (let longer = length_push rows row in let s_low = r.1 in omega arith), ap (λ (x : ScopeRow). x.kind) (at_old r.0 r.1) ∙ r.2, ap (λ (x : ScopeRow). x.header) (at_old r.0 r.1) ∙ r.3)
          | inr new ↦ let same : h ≡ bound = omega arith in
              (length rows, (let longer = length_push rows row in omega arith), ap (λ (x : ScopeRow). x.kind) at_new ∙ one_kind row.kind kind is (subst (λ (n : ℕ). IsKindAt plan back n (Some kind)) same of_kind), ap (λ (x : ScopeRow). x.header) at_new ∙ (top ∙ sym same))
        ]
