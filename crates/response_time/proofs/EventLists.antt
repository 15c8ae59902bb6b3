-- Lists of events, and those with one event more.
use Rattle.std.proofs.Common.{◌≡◌, ◌<◌, ◌≤◌, ◌+◌, ℕ, zero, suc, List, [], ◌∷◌, ◌++◌, Some, length, take, drop, slice_get, get_or, ◌⊎◌, inl, inr, refl, sym, ap, subst, arith}
use Rattle.std.proofs.lemmas.List.{take-append-le, take_all, length_push, same_from_push}
use Rattle.std.proofs.lemmas.List.Sums.{sum_by-take-drop, sum_by_more}
use Rattle.std.proofs.lemmas.Option.{slice_get_within, get_or_from_slice_get}
use Rattle.cost_table.specs.declared.task_set.Task.{Task}
use Rattle.response_time.specs.Schedules.{State, Event, Release, IsStep, Schedule, begins, goes_on}
use Rattle.response_time.specs.Events.{duration, units, GoesOn}

-- what stands in a list with one element more is that one, or stood there
pub push_cases : {X : Type 0} (xs : List X) (n : ℕ) (x y : X) → slice_get (xs ++ x ∷ []) n ≡ Some y
    → ((n < length xs) × (slice_get xs n ≡ Some y)) ⊎ ((n ≡ length xs) × (x ≡ y))
push_cases [] zero x y is = inr (refl, cc)
push_cases [] (suc n) x y is = absurd (cc)
push_cases (z ∷ xs) zero x y is = inl (omega arith, is)
push_cases (z ∷ xs) (suc n) x y is = elim (push_cases xs n x y is) [
  | inl was ↦ inl (let low = was.0 in omega arith, was.1)
  | inr now ↦ inr (ap suc now.0, now.1)
]

-- and what stood there stands there
pub push_keeps : {X : Type 0} (xs : List X) (n : ℕ) (x y : X) → slice_get xs n ≡ Some y → slice_get (xs ++ x ∷ []) n ≡ Some y
push_keeps [] n x y is = absurd (cc)
push_keeps (z ∷ xs) zero x y is = is
push_keeps (z ∷ xs) (suc n) x y is = push_keeps xs n x y is

-- what stands behind a list stands at its length
pub push_at : {X : Type 0} (xs : List X) (x : X) → slice_get (xs ++ x ∷ []) (length xs) ≡ Some x
push_at [] x = refl
push_at (z ∷ xs) x = push_at xs x

pub stands_at : {X : Type 0} (xs ys : List X) (x : X) → slice_get (xs ++ x ∷ ys) (length xs) ≡ Some x
stands_at [] ys x = refl
stands_at (z ∷ xs) ys x = stands_at xs ys x

-- the first elements of a list with one element more, and of a list that has no more
pub push_take : {X : Type 0} (xs : List X) (n : ℕ) (x : X) → n ≤ length xs → take n (xs ++ x ∷ []) ≡ take n xs
push_take xs n x le = take-append-le n xs (x ∷ []) le

pub push_whole : {X : Type 0} (xs : List X) (n : ℕ) (x : X) → length xs < n → take n (xs ++ x ∷ []) ≡ xs ++ x ∷ []
push_whole xs n x more = take_all n (xs ++ x ∷ []) (let long = length_push xs x in omega arith)

-- the time after an event and the time before it
pub time_parts : (events : List Event) (n : ℕ) → units (take n events) + units (drop n events) ≡ units events
time_parts events n = sum_by-take-drop duration events n

-- a schedule that ends by an event came to a state in which this was allowed
pub record CameBy (tasks : List Task) (events : List Event) (event : Event) (next : State) : Type 0 where
  pub state : State
  pub schedule : Schedule tasks events state
  pub step : IsStep tasks state event next

no_push_empty : {X : Type 0} (xs : List X) (x : X) → xs ++ x ∷ [] ≡ [] → ⊥
no_push_empty [] x e = cc
no_push_empty (z ∷ xs) x e = cc

came_by : (tasks : List Task) (events all : List Event) (event : Event) (next : State) → all ≡ events ++ event ∷ []
    → Schedule tasks all next → CameBy tasks events event next
came_by tasks events all event next e begins = absurd (no_push_empty events event (sym e))
came_by tasks events all event next e (goes_on {events = before} {state = old} last after schedule step) =
    let same = same_from_push before events last event e in
    record {
      state = old;
      schedule = subst (λ (es : List Event). Schedule tasks es old) same.0 schedule;
      step = subst (λ (x : Event). IsStep tasks old x next) same.1 step;
    }

pub last_step : (tasks : List Task) (events : List Event) (event : Event) (goes : GoesOn tasks events event) → CameBy tasks events event goes.0
last_step tasks events event goes = came_by tasks events (events ++ event ∷ []) event goes.0 refl goes.1

-- a release takes no time
pub time_at : (events : List Event) (n i work : ℕ) → slice_get events n ≡ Some (Release i work) → units (take (n + 1) events) ≡ units (take n events)
time_at events n i work at =
    let low = slice_get_within events n (Release i work) at in
    let there : get_or events n (Release i work) ≡ Release i work = get_or_from_slice_get events n (Release i work) (Release i work) at in
    let more = sum_by_more duration events n (Release i work) low in
    let none : duration (get_or events n (Release i work)) ≡ 0 = ap duration there in
    omega arith
