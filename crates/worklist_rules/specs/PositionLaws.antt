-- Positions follow the iteration numbers of a trace.
--   first_position   at node 0
--   next_position    after an edge
--   same_turns       positions of equal numbers are equal
--   turn_found       a position has the numbers that it is made of
--   position_beside  after an edge that stays in the same scopes, by the numbers of the position before
--   turns_rise       the numbers after an edge are at most one more
--   same_node        equal positions are those of one node
use Rattle.std.proofs.Common.{◌≡◌, ℕ, zero, suc, ◌+◌, ◌<◌, ◌≤◌, true, false, ◌==◌, List, [], ◌∷◌, ◌++◌, inl, inr, reverse, length, get_or, slice_index, Contains, refl, ap, sym, ◌∙◌, subst, arith}
use Rattle.std.proofs.lemmas.Bool.{cases_Bool, cases_lt, eqb-true, eq-eqb, ne_eqb}
use Rattle.std.proofs.lemmas.List.{reverse-append, get_or-replicate}
use Rattle.lists.specs.MemberLaws.{no_member, first_member, further_member}
use Rattle.lists.specs.TestLaws.{by_test}
use Rattle.graph_walks.specs.ListLaws.{contains_cases}
use Rattle.domain_core.specs.Outlines.{Shape, IsOutline, is_held, scopes_around}
use Rattle.domain_core.specs.OutlineLaws.{held_is, is_holder, around_is, holder_low}
use Rattle.domain_core.specs.Executions.{is_header, turn_after, turns_after, turns_of}
use Rattle.domain_core.specs.ExecutionLaws.{length-turns_of}
use Rattle.worklist_rules.specs.Positions.{ranks_and_turns, position_by, position_of, turn_in, entered, moved_position}

-- ---- numbers along the trace

turns_at : (o : Shape) (n s k m : ℕ) (turns : List ℕ) → m ≡ s + k → k < length turns
    → get_or (turns_after o n s turns) k 0 ≡ turn_after o n m (get_or turns k 0)
turns_at o n s k m [] at_place within = absurd (omega arith)
turns_at o n s zero m (turn ∷ turns) at_place within = let same : m ≡ s = omega arith in rw same refl
turns_at o n s (suc k) m (turn ∷ turns) at_place within = turns_at o n (s + 1) k m turns (omega arith) (omega arith)

turn_of : (o : Shape) (n t : ℕ) (past : List ℕ) → t < length o.scopes
    → get_or (turns_of o (n ∷ past)) t 0 ≡ turn_after o n t (get_or (turns_of o past) t 0)
turn_of o n t past low = turns_at o n 0 t t (turns_of o past) (omega arith) (let same = length-turns_of o past in omega arith)

-- ---- positions by their numbers

-- a position has the numbers that it is made of
pub same_turns : (o : Shape) (f g : ℕ → ℕ) (scopes : List ℕ) → ((t : ℕ) → Contains scopes t → f t ≡ g t)
    → ranks_and_turns o f scopes ≡ ranks_and_turns o g scopes
same_turns o f g [] same = refl
same_turns o f g (t ∷ scopes) same = rw (same t (first_member t scopes), same_turns o f g scopes (λ s there. same s (further_member t scopes s there))) refl

pub turn_found : (o : Shape) (f : ℕ → ℕ) (scopes rest : List ℕ) (t : ℕ) → Contains scopes t
    → turn_in scopes (ranks_and_turns o f scopes ++ rest) t ≡ f t
turn_found o f [] rest t there = no_member t there
turn_found o f (s ∷ scopes) rest t there =
    elim (cases_Bool (t == s)) [
      | inl same ↦ rw same (ap f (sym (eqb-true t s same)))
      | inr other ↦ rw other (elim (contains_cases s scopes t there) [
        | inl e ↦ absurd (let yes : (t == s) ≡ true = eq-eqb t s e in let bad : false ≡ true = sym other ∙ yes in cc)
        | inr further ↦ turn_found o f scopes rest t further
      ])
    ]

turn_missing : (scopes position : List ℕ) (t : ℕ) → (Contains scopes t → ⊥) → turn_in scopes position t ≡ 0
turn_missing [] position t none = refl
turn_missing (s ∷ scopes) [] t none = refl
turn_missing (s ∷ scopes) (rank ∷ []) t none = refl
turn_missing (s ∷ scopes) (rank ∷ turn ∷ position) t none =
    let other : (t == s) ≡ false = ne_eqb t s (λ e. none (subst (λ (k : ℕ). Contains (s ∷ scopes) k) (sym e) (first_member s scopes))) in
    rw other (turn_missing scopes position t (λ there. none (further_member s scopes t there)))

turn_at_most : (o : Shape) (f : ℕ → ℕ) (limit : ℕ) (scopes rest : List ℕ) (t : ℕ) → ((s : ℕ) → f s ≤ limit)
    → turn_in scopes (ranks_and_turns o f scopes ++ rest) t ≤ limit
turn_at_most o f limit [] rest t low = omega arith
turn_at_most o f limit (s ∷ scopes) rest t low =
    elim (cases_Bool (t == s)) [
      | inl same ↦ rw same (low s)
      | inr other ↦ rw other (turn_at_most o f limit scopes rest t low)
    ]

-- after an edge that stays in the same scopes each has the number that it had, or one more
pub position_beside : (o : Shape) (n k : ℕ) (turn : ℕ → ℕ) → scopes_around o n ≡ scopes_around o k
    → moved_position o n (position_by o turn n) k ≡ position_by o (λ t. entered o k t (turn t)) k
position_beside o n k turn same =
    ap (λ (front : List ℕ). front ++ slice_index o.ranks k ∷ [])
    (same_turns o (λ t. entered o k t (turn_in (scopes_around o n) (position_by o turn n) t)) (λ t. entered o k t (turn t)) (scopes_around o k)
    (λ t there. ap (λ (m : ℕ). entered o k t m) (turn_found o turn (scopes_around o n) (slice_index o.ranks n ∷ []) t (subst (λ (xs : List ℕ). Contains xs t) (sym same) there))))

entered_low : (o : Shape) (k t turn : ℕ) → entered o k t turn ≤ turn + 1
entered_low o k t turn = elim (cases_Bool (is_header o t k)) [ inl header ↦ rw header (omega arith) | inr other ↦ rw other (omega arith) ]

-- the numbers after an edge are at most one more
pub turns_rise : (o : Shape) (n k limit : ℕ) (position : List ℕ)
    → ((t : ℕ) → turn_in (scopes_around o n) position t ≤ limit)
    → (t : ℕ) → turn_in (scopes_around o k) (moved_position o n position k) t ≤ limit + 1
turns_rise o n k limit position low t =
    turn_at_most o (λ s. entered o k s (turn_in (scopes_around o n) position s)) (limit + 1) (scopes_around o k) (slice_index o.ranks k ∷ []) t
    (λ s. let one = entered_low o k s (turn_in (scopes_around o n) position s) in let before = low s in omega arith)

module _ (o : Shape) (ok : IsOutline o) where
  -- a scope around a node is held, and its number goes on
  entered_is : (k t turn : ℕ) → Contains (scopes_around o k) t → entered o k t turn ≡ turn_after o k t turn
  entered_is k t turn there = rw (is_holder o ok t k ((around_is o ok t k).0 there)) refl

  -- the number of a scope in the position at the end of a trace is that of the trace
  turn_is : (n : ℕ) (past : List ℕ) (t : ℕ) → t < length o.scopes
      → turn_in (scopes_around o n) (position_of o (n ∷ past)) t ≡ get_or (turns_of o (n ∷ past)) t 0
  turn_is n past t low =
      by_test (is_held o t n)
      (λ held. turn_found o (λ s. slice_index (turns_of o (n ∷ past)) s) (scopes_around o n) (slice_index o.ranks n ∷ []) t ((around_is o ok t n).1 (held_is o ok t n held)))
      (λ out.
      turn_missing (scopes_around o n) (position_of o (n ∷ past)) t (λ there. let held : is_held o t n ≡ true = is_holder o ok t n ((around_is o ok t n).0 there) in let bad : false ≡ true = sym out ∙ held in absurd (cc))
      ∙ sym (turn_of o n t past low ∙ rw out refl))

  -- the position after an edge is that of the trace with one node more
  pub next_position : (n k : ℕ) (past : List ℕ) → k < length o.own
      → moved_position o n (position_of o (n ∷ past)) k ≡ position_of o (k ∷ n ∷ past)
  next_position n k past low =
      ap (λ (front : List ℕ). front ++ slice_index o.ranks k ∷ [])
      (same_turns o (λ t. entered o k t (turn_in (scopes_around o n) (position_of o (n ∷ past)) t)) (λ t. slice_index (turns_of o (k ∷ n ∷ past)) t) (scopes_around o k)
      (λ t there.
      let within : t < length o.scopes = holder_low o ok t k low ((around_is o ok t k).0 there) in
      entered_is k t (turn_in (scopes_around o n) (position_of o (n ∷ past)) t) there
      ∙ ap (λ (turn : ℕ). turn_after o k t turn) (turn_is n past t within)
      ∙ sym (turn_of o k t (n ∷ past) within)))

  -- at node 0 each scope around it has been entered once
  pub first_position : position_by o (λ t. entered o 0 t 0) 0 ≡ position_of o (0 ∷ [])
  first_position =
      ap (λ (front : List ℕ). front ++ slice_index o.ranks 0 ∷ [])
      (same_turns o (λ t. entered o 0 t 0) (λ t. slice_index (turns_of o (0 ∷ [])) t) (scopes_around o 0)
      (λ t there.
      let within : t < length o.scopes = holder_low o ok t 0 ok.some ((around_is o ok t 0).0 there) in
      entered_is 0 t 0 there
      ∙ ap (λ (turn : ℕ). turn_after o 0 t turn) (sym (get_or-replicate (length o.scopes) t 0 0 within))
      ∙ sym (turn_of o 0 t [] within)))

  -- and no number is above 1
  pub first_low : (t : ℕ) → turn_in (scopes_around o 0) (position_of o (0 ∷ [])) t ≤ 1
  first_low t =
      subst (λ (position : List ℕ). turn_in (scopes_around o 0) position t ≤ 1) first_position
      (turn_at_most o (λ s. entered o 0 s 0) 1 (scopes_around o 0) (slice_index o.ranks 0 ∷ []) t (λ s. let one = entered_low o 0 s 0 in omega arith))

  -- two nodes of one rank are one
  same_rank : (n m : ℕ) → n < length o.own → m < length o.own → slice_index o.ranks n ≡ slice_index o.ranks m → n ≡ m
  same_rank n m low_n low_m same =
      elim (cases_lt n m) [
        | inl below ↦ absurd (ok.ranks_once n m below low_m same)
        | inr over ↦ elim (cases_lt m n) [
          | inl below ↦ absurd (ok.ranks_once m n below low_n (sym same))
          | inr other ↦ omega arith
        ]
      ]

  -- positions that end with the ranks of their nodes are equal only at one node
  pub same_node : (n m : ℕ) (before others : List ℕ) → n < length o.own → m < length o.own
      → before ++ slice_index o.ranks n ∷ [] ≡ others ++ slice_index o.ranks m ∷ [] → n ≡ m
  same_node n m before others low_n low_m same =
      let turned : slice_index o.ranks n ∷ reverse before ≡ slice_index o.ranks m ∷ reverse others =
      sym (reverse-append before (slice_index o.ranks n ∷ [])) ∙ ap (λ (xs : List ℕ). reverse xs) same ∙ reverse-append others (slice_index o.ranks m ∷ []) in
      let rank : slice_index o.ranks n ≡ slice_index o.ranks m = cc in
      same_rank n m low_n low_m rank
