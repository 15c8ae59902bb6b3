-- Laws of successors.
--   spread_of     the book stays one of the outline, and grows
--   spread_ends   a successor at the end of runs leaves the trace collected
--   spread_finds  each other one makes a place, which covers one node more
--   spread_from   each place that is made comes from a successor
--   along_first   what is along holds of the first and of the others
--   after_of      one successor: the book stays one of the outline, and grows
use Rattle.std.proofs.Common.{◌≡◌, ◌≢◌, ℕ, ◌+◌, ◌<◌, List, [], ◌∷◌, length, inl, inr, refl, sym, subst, ap, true, false, ◌==◌, Contains}
use Rattle.std.proofs.lemmas.Bool.{eq-eqb, ne_eqb, eqb-false, cases_Bool}
use Rattle.std.proofs.lemmas.List.Elements.{Contains-append_left, Contains-append_right, Contains-append_cases}
use Rattle.lists.specs.MemberLaws.{no_member, first_member, further_member}
use Rattle.graph_walks.specs.ListLaws.{contains_cases}
use Rattle.domain_core.specs.Orders.{Order}
use Rattle.domain_core.specs.Outlines.{Outlined, shape_of}
use Rattle.domain_core.specs.Traces.{IsTrace}
use Rattle.domain_core.specs.Recordings.{Recording, IsRecording, IsSuited}
use Rattle.worklist_rules.specs.Pools.{Spot}
use Rattle.worklist_rules.specs.Events.{next_spot, book_after, spots_after, spread_book, spread_spots}
use Rattle.worklist_rules.specs.Successors.{IsMade, IsFrom, AreAlong}

-- what is along holds of the first and of the others
pub along_first : {T : Type 0} (o : Outlined) (n : ℕ) (s : ℕ × T) (next : List (ℕ × T)) → AreAlong o n (s ∷ next)
    → s.0 ≢ length o.nodes → Contains o.edges (n, s.0) × (s.0 < length o.nodes)
along_first o n s next along node = along s (first_member s next) node

pub along_rest : {T : Type 0} (o : Outlined) (n : ℕ) (s : ℕ × T) (next : List (ℕ × T)) → AreAlong o n (s ∷ next)
    → AreAlong o n next
along_rest o n s next along = λ t has. along t (further_member s next t has)

module _ {T R B : Type 0} (order : Order R) (z : Recording R B) (o : Outlined) (r : R) (n : ℕ) (laws : IsRecording R B order z) (suited : IsSuited z o) (mine : z.is_of o r) (in_range : n < length o.nodes) where
  -- one successor: the book stays one of the outline, and grows
  pub after_of : (b : B) (s : ℕ × T) → z.book_is_of o b
      → (s.0 ≢ length o.nodes → Contains o.edges (n, s.0) × (s.0 < length o.nodes))
      → z.book_is_of o (book_after z o r n b s) × z.grows b (book_after z o r n b s)
  after_of b s its along =
      elim (cases_Bool (s.0 == length o.nodes)) [
        | inl at_end ↦ rw at_end (laws.finished_is_of o r b n (record { suited = suited; recorder = mine; book = its }) in_range, laws.finished_grows o r b n (record { suited = suited; recorder = mine; book = its }) in_range)
        | inr at_node ↦
            let (edge, low) = along (eqb-false s.0 (length o.nodes) at_node) in
            rw at_node ((laws.gone_is_of o r b n s.0 (record { suited = suited; recorder = mine; book = its }) edge low).book, laws.gone_grows o r b n s.0 (record { suited = suited; recorder = mine; book = its }) edge low)
      ]

  pub spread_of : (next : List (ℕ × T)) (b : B) → z.book_is_of o b → AreAlong o n next
      → z.book_is_of o (spread_book z o r n b next) × z.grows b (spread_book z o r n b next)
  spread_of [] b its along = (its, laws.grows_itself b)
  spread_of (s ∷ next) b its along =
      let one = after_of b s its (along_first o n s next along) in
      let rest = spread_of next (book_after z o r n b s) one.0 (along_rest o n s next along) in
      (rest.0, laws.grows_farther b (book_after z o r n b s) (spread_book z o r n (book_after z o r n b s) next) one.1 rest.1)

  -- a successor at the end of runs leaves the trace collected
  pub spread_ends : (next : List (ℕ × T)) (b : B) (past : List ℕ) (u : T) → z.book_is_of o b → AreAlong o n next
      → IsTrace (shape_of o) (n ∷ past) → z.covers o r b (n ∷ past)
      → Contains next (length o.nodes, u) → z.sums_up o (spread_book z o r n b next) (n ∷ past)
  spread_ends [] b past u its along walk covered has = no_member (length o.nodes, u) has
  spread_ends (s ∷ next) b past u its along walk covered has =
      let one = after_of b s its (along_first o n s next along) in
      elim (contains_cases s next (length o.nodes, u) has) [
        | inl same ↦
            let at_end : (s.0 == length o.nodes) ≡ true = eq-eqb s.0 (length o.nodes) (sym (ap (λ (p : ℕ × T). p.0) same)) in
            let rest = spread_of next (book_after z o r n b s) one.0 (along_rest o n s next along) in
            let now : z.sums_up o (book_after z o r n b s) (n ∷ past) = rw at_end (laws.finished_covers o r b n past (record { suited = suited; recorder = mine; book = its }) walk covered) in
            laws.sums_up_grown o (book_after z o r n b s) (spread_book z o r n (book_after z o r n b s) next) (n ∷ past) rest.1 now
        | inr later ↦ spread_ends next (book_after z o r n b s) past u one.0 (along_rest o n s next along) walk (laws.covers_grown o r b (book_after z o r n b s) (n ∷ past) one.1 covered) later
      ]

  finds_here : (s : ℕ × T) (next : List (ℕ × T)) (b : B) (position past : List ℕ) → z.book_is_of o b
      → AreAlong o n (s ∷ next) → IsTrace (shape_of o) (s.0 ∷ n ∷ past) → z.covers o r b (n ∷ past)
      → s.0 ≢ length o.nodes → (spot : Spot T R) × Contains (spread_spots z o position r n b (s ∷ next)) spot × IsMade z o position n past (spread_book z o r n b (s ∷ next)) s spot
  finds_here s next b position past its along walk covered node =
      let at_node : (s.0 == length o.nodes) ≡ false = ne_eqb s.0 (length o.nodes) node in
      let one = after_of b s its (along_first o n s next along) in
      let rest = spread_of next (book_after z o r n b s) one.0 (along_rest o n s next along) in
      let spot : Spot T R = next_spot z o position r n b s in
      let made : Contains (spots_after z o position r n b s) spot = rw at_node (first_member spot []) in
      let now : z.covers o (z.gone o r b n s.0) (book_after z o r n b s) (s.0 ∷ n ∷ past) = rw at_node (laws.gone_covers o r b n s.0 past (record { suited = suited; recorder = mine; book = its }) walk covered) in (
        spot,
        Contains-append_left (spots_after z o position r n b s) (spread_spots z o position r n (book_after z o r n b s) next) spot made,
        record {
          node = refl;
          position_is = refl;
          state = refl;
          recorder = laws.covers_grown o (z.gone o r b n s.0) (book_after z o r n b s) (spread_book z o r n (book_after z o r n b s) next) (s.0 ∷ n ∷ past) rest.1 now;
        },
      )

  -- each other one makes a place
  pub spread_finds : (next : List (ℕ × T)) (b : B) (position past : List ℕ) (s : ℕ × T) → z.book_is_of o b
      → AreAlong o n next → IsTrace (shape_of o) (s.0 ∷ n ∷ past) → z.covers o r b (n ∷ past)
      → s.0 ≢ length o.nodes → Contains next s → (spot : Spot T R) × Contains (spread_spots z o position r n b next) spot × IsMade z o position n past (spread_book z o r n b next) s spot
  spread_finds [] b position past s its along walk covered node has = no_member s has
  spread_finds (t ∷ next) b position past s its along walk covered node has =
      let one = after_of b t its (along_first o n t next along) in
      elim (contains_cases t next s has) [
        | inl same ↦
            subst (λ (q : ℕ × T). (spot : Spot T R) × Contains (spread_spots z o position r n b (q ∷ next)) spot × IsMade z o position n past (spread_book z o r n b (q ∷ next)) s spot) same
            (finds_here s next b position past its (subst (λ (q : ℕ × T). AreAlong o n (q ∷ next)) (sym same) along) walk covered node)
        | inr later ↦
            let found =
            spread_finds next (book_after z o r n b t) position past s one.0 (along_rest o n t next along) walk (laws.covers_grown o r b (book_after z o r n b t) (n ∷ past) one.1 covered) node later in
            (found.0, Contains-append_right (spots_after z o position r n b t) (spread_spots z o position r n (book_after z o r n b t) next) found.0 found.1, found.2)
      ]

  from_node : (s : ℕ × T) (next : List (ℕ × T)) (b : B) (position : List ℕ) (spot : Spot T R) → z.book_is_of o b
      → AreAlong o n (s ∷ next) → s.0 ≢ length o.nodes
      → Contains (next_spot z o position r n b s ∷ []) spot → IsFrom z o position n (s ∷ next) (z.length_of r + 1) spot
  from_node s next b position spot its along node has =
      let (edge, low) = along_first o n s next along node in
      elim (contains_cases (next_spot z o position r n b s) [] spot has) [
        | inl same ↦ subst (IsFrom z o position n (s ∷ next) (z.length_of r + 1)) (sym same) (record {
          source = s;
          among = first_member s next;
          no_end = node;
          node = refl;
          position_is = refl;
          state = refl;
          is_of = (laws.gone_is_of o r b n s.0 (record { suited = suited; recorder = mine; book = its }) edge low).recorder;
          long = laws.gone_length o r b n s.0 (record { suited = suited; recorder = mine; book = its }) edge low;
        })
        | inr none ↦ no_member spot none
      ]

  from_here : (s : ℕ × T) (next : List (ℕ × T)) (b : B) (position : List ℕ) (spot : Spot T R) → z.book_is_of o b
      → AreAlong o n (s ∷ next)
      → Contains (spots_after z o position r n b s) spot → IsFrom z o position n (s ∷ next) (z.length_of r + 1) spot
  from_here s next b position spot its along has =
      elim (cases_Bool (s.0 == length o.nodes)) [
        | inl at_end ↦ no_member spot (rw at_end at has)
        | inr at_node ↦ from_node s next b position spot its along (eqb-false s.0 (length o.nodes) at_node) (rw at_node at has)
      ]

  -- each place that is made comes from a successor
  pub spread_from : (next : List (ℕ × T)) (b : B) (position : List ℕ) (spot : Spot T R) → z.book_is_of o b
      → AreAlong o n next
      → Contains (spread_spots z o position r n b next) spot → IsFrom z o position n next (z.length_of r + 1) spot
  spread_from [] b position spot its along has = no_member spot has
  spread_from (s ∷ next) b position spot its along has =
      let one = after_of b s its (along_first o n s next along) in
      elim (Contains-append_cases (spots_after z o position r n b s) (spread_spots z o position r n (book_after z o r n b s) next) spot has) [
        | inl made ↦ from_here s next b position spot its along made
        | inr later ↦
            let from = spread_from next (book_after z o r n b s) position spot one.0 (along_rest o n s next along) later in
            record {
              source = from.source;
              among = further_member s next from.source from.among;
              no_end = from.no_end;
              node = from.node;
              position_is = from.position_is;
              state = from.state;
              is_of = from.is_of;
              long = from.long;
            }
      ]
