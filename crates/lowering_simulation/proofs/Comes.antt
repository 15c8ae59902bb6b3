-- How runs of items come from one place to another.
--   Comes                    the run comes from one end of a stretch to another, and the histories are related
--   Stopped, Lasts           it comes to a fault; it is not over after so many stretches
--   Reaches b c n ko ka k start e   the run goes as the ending says: on at k, at ko where a `break` leads, at ka where a `continue` leads;
--                            b and c tell whether these may come, and n how many stretches there are at least where turns are used up
--   Tests kt kf start m r    a test leads to kt or kf, in a stretch or more
--   CallReaches              a call of a function goes as its ending says
use Rattle.std.proofs.Common.{◌≡◌, ◌<◌, ◌≤◌, ℕ, zero, suc, ◌+◌, List, [], ◌∷◌, map, Option, Result, Ok, Err, Bool, true, false, refl, sym, ap, ◌∙◌, subst, arith}
use Rattle.std.specs.Prelude.{⊤}
use Rattle.std.specs.Option.{option_map}
use Rattle.alf_ops.specs.declared.history.Value.{Value}
use Rattle.alf_ops.specs.declared.history.RunFault.{RunFault}
use Rattle.alf_ops.specs.declared.history.RunEvent.{RunEvent}
use Rattle.alf_program.specs.Tree.{BodyItem}
use Rattle.alf_runs.specs.Outcomes as outcomes
use Rattle.item_runs.specs.Stretches.{End, Leaves}
use Rattle.item_runs.specs.ItemRuns.{Waiting, Standing, Run, Done, ItemProgram, ahead, back, tick, ticks}
use Rattle.c_meaning.specs.Objects.{Program, function_at}
use Rattle.c_meaning.specs.Endings.{History, Ending, Normal, Broke, Continued, Returned, Faulted, UsedUp, then_do, after_body, after_switch, by_truth}
use Rattle.lowering_values.specs.Embedding.{embedded_value}
use Rattle.lowering_simulation.specs.Leaves.{ResultFits, Goes, ItemEnds}

-- a run that is not over
abbrev pub IsOn : Standing → Type 0
IsOn (Run f stack end) = ⊤
IsOn (Done o) = ⊥

pub ticks_more : (of : ItemProgram) (t u : ℕ) (a : Standing) → ticks of (t + u) a ≡ ticks of u (ticks of t a)
ticks_more of zero u a = let e : 0 + u ≡ u = omega arith in ap (λ (n : ℕ). ticks of n a) e
ticks_more of (suc t) u a = let e : suc t + u ≡ suc (t + u) = omega arith in ap (λ (n : ℕ). ticks of n a) e ∙ ticks_more of t u (tick of a)

pub on_from : (of : ItemProgram) (t u : ℕ) (a b d : Standing) → ticks of t a ≡ b → ticks of u b ≡ d
    → ticks of (t + u) a ≡ d
on_from of t u a b d e g = ticks_more of t u a ∙ ap (ticks of u) e ∙ g

-- the functions of the calls that wait
abbrev pub functions_of : List Waiting → List ℕ
functions_of stack = map (λ waiting. waiting.function) stack

-- each of the functions has a greater rank
abbrev pub IsBelow : (ℕ → ℕ) → ℕ → List Waiting → Type 0
IsBelow rank r [] = ⊤
IsBelow rank r (waiting ∷ stack) = (r < rank waiting.function) × IsBelow rank r stack

module _ (of : ItemProgram) (program : Program) (place : ℕ → ℕ) (Rel : List ℕ → List RunEvent → List RunEvent → Type 0) where
  -- a call of function g goes as its ending says; n is a bound where turns are used up
  pub record CallComes (g : ℕ) (stack : List Waiting) (start : Standing) (v : Option Value) (h : History) : Type 0 where
    pub fits : ResultFits (function_at program g).result v
    pub count : ℕ
    pub memory : List RunEvent
    pub rel : Rel (functions_of stack) memory h
    pub so : ticks of count start ≡ back of stack (option_map (embedded_value place) v) memory

  pub record IsStopped (start : Standing) (fault : RunFault) : Type 0 where
    pub count : ℕ
    pub so : ticks of count start ≡ Done (outcomes.Faulted fault)

  pub record IsLong (start : Standing) (n : ℕ) : Type 0 where
    pub count : ℕ
    pub enough : n ≤ count
    pub so : IsOn (ticks of count start)

  abbrev pub CallReaches : ℕ → List Waiting → ℕ → Standing → Ending → Type 0
  CallReaches g stack n start (Normal h) = ⊥
  CallReaches g stack n start (Broke h) = ⊥
  CallReaches g stack n start (Continued h) = ⊥
  CallReaches g stack n start (Returned v h) = CallComes g stack start v h
  CallReaches g stack n start (Faulted fault) = IsStopped start fault
  CallReaches g stack n start UsedUp = IsLong start n

  module _ (f : ℕ) (stack : List Waiting) where
    -- the histories are related within the function
    abbrev pub Here : List RunEvent → List RunEvent → Type 0
    Here m h = Rel (f ∷ functions_of stack) m h

    abbrev pub standing : End → Standing
    standing end = Run f stack end

    pub record Comes (start : End) (goal : List RunEvent → End) (h : History) : Type 0 where
      pub count : ℕ
      pub memory : List RunEvent
      pub rel : Here memory h
      pub so : ticks of count (standing start) ≡ standing (goal memory)

    abbrev pub Reaches : Bool → Bool → ℕ → List BodyItem → List BodyItem → List BodyItem → End → Ending → Type 0
    Reaches b c n ko ka k start (Normal h) = Comes start (λ m. ahead of f k m) h
    Reaches b c n ko ka k start (Broke h) = (b ≡ true) × Comes start (λ m. ahead of f ko m) h
    Reaches b c n ko ka k start (Continued h) = (c ≡ true) × Comes start (λ m. ahead of f ka m) h
    Reaches b c n ko ka k start (Returned v h) = ResultFits (function_at program f).result v × Comes start (λ m. Leaves (option_map (embedded_value place) v) m) h
    Reaches b c n ko ka k start (Faulted fault) = IsStopped (standing start) fault
    Reaches b c n ko ka k start UsedUp = IsLong (standing start) n

    abbrev pub Leads : List BodyItem → End → List RunEvent → Type 0
    Leads k start m = (t : ℕ) × (1 ≤ t) × (ticks of t (standing start) ≡ standing (ahead of f k m))

    abbrev pub Tests : List BodyItem → List BodyItem → End → List RunEvent → Result Bool RunFault → Type 0
    Tests kt kf start m (Ok true) = Leads kt start m
    Tests kt kf start m (Ok false) = Leads kf start m
    Tests kt kf start m (Err fault) = IsStopped (standing start) fault

    comes_later : (t : ℕ) (a b : End) (goal : List RunEvent → End) (h : History) → ticks of t (standing a) ≡ standing b
        → Comes b goal h → Comes a goal h
    comes_later t a b goal h e r =
        record { count = t + r.count; memory = r.memory; rel = r.rel; so = on_from of t r.count (standing a) (standing b) (standing (goal r.memory)) e r.so }

    stops_later : (t : ℕ) (a b : End) (fault : RunFault) → ticks of t (standing a) ≡ standing b
        → IsStopped (standing b) fault → IsStopped (standing a) fault
    stops_later t a b fault e r =
        record { count = t + r.count; so = on_from of t r.count (standing a) (standing b) (Done (outcomes.Faulted fault)) e r.so }

    -- what is reached from after some stretches is reached
    pub later_reaches : (p q : Bool) (n n' t : ℕ) (ko ka k : List BodyItem) (a b : End) (r : Ending) → n' ≤ t + n
        → ticks of t (standing a) ≡ standing b
        → Reaches p q n ko ka k b r → Reaches p q n' ko ka k a r
    later_reaches p q n n' t ko ka k a b (Normal h) le e r = comes_later t a b (λ m. ahead of f k m) h e r
    later_reaches p q n n' t ko ka k a b (Broke h) le e r = (r.0, comes_later t a b (λ m. ahead of f ko m) h e r.1)
    later_reaches p q n n' t ko ka k a b (Continued h) le e r = (r.0, comes_later t a b (λ m. ahead of f ka m) h e r.1)
    later_reaches p q n n' t ko ka k a b (Returned v h) le e r = (r.0, comes_later t a b (λ m. Leaves (option_map (embedded_value place) v) m) h e r.1)
    later_reaches p q n n' t ko ka k a b (Faulted fault) le e r = stops_later t a b fault e r
    later_reaches p q n n' t ko ka k a b UsedUp le e r =
        record {
          count = t + r.count;
          enough = (let h : n ≤ r.count = r.enough in omega arith);
          so = subst IsOn (sym (on_from of t r.count (standing a) (standing b) (ticks of r.count (standing b)) e refl)) r.so;
        }

    -- fewer stretches last too
    pub fewer : (p q : Bool) (n n' : ℕ) (ko ka k : List BodyItem) (a : End) (r : Ending) → n' ≤ n
        → Reaches p q n ko ka k a r → Reaches p q n' ko ka k a r
    fewer p q n n' ko ka k a r le x = later_reaches p q n n' 0 ko ka k a a r (omega arith) refl x

    -- what follows what is reached
    pub next : (p q : Bool) (n : ℕ) (ko ka k : List BodyItem) (a : End) (goal : List RunEvent → End) (h : History) (go : History → Ending) → Comes a goal h
        → ((m l : List RunEvent) → Here m l → Reaches p q n ko ka k (goal m) (go l)) → Reaches p q n ko ka k a (go h)
    next p q n ko ka k a goal h go r on = later_reaches p q n n r.count ko ka k a (goal r.memory) (go h) (omega arith) r.so (on r.memory h r.rel)

    pub sequence : (p q : Bool) (n : ℕ) (ko ka k1 k : List BodyItem) (a : End) (r : Ending) (go : History → Ending)
        → Reaches p q n ko ka k1 a r
        → ((m h : List RunEvent) → Here m h → Reaches p q n ko ka k (ahead of f k1 m) (go h)) → Reaches p q n ko ka k a (then_do r go)
    sequence p q n ko ka k1 k a (Normal h) go r on = next p q n ko ka k a (λ m. ahead of f k1 m) h go r on
    sequence p q n ko ka k1 k a (Broke h) go r on = r
    sequence p q n ko ka k1 k a (Continued h) go r on = r
    sequence p q n ko ka k1 k a (Returned v h) go r on = r
    sequence p q n ko ka k1 k a (Faulted fault) go r on = r
    sequence p q n ko ka k1 k a UsedUp go r on = r

    -- a loop's body, with at most n turns inside and at most m of the loop left
    pub body_then : (p q : Bool) (n m : ℕ) (ko ka ka' k1 k : List BodyItem) (a : End) (r : Ending) (go : History → Ending) → m ≤ n → Reaches true true n k ka' k1 a r
        → ((u h : List RunEvent) → Here u h → Reaches p q m ko ka k (ahead of f k1 u) (go h)) → ((u h : List RunEvent) → Here u h → Reaches p q m ko ka k (ahead of f ka' u) (go h))
        → Reaches p q m ko ka k a (after_body r go)
    body_then p q n m ko ka ka' k1 k a (Normal h) go le r on again = next p q m ko ka k a (λ u. ahead of f k1 u) h go r on
    body_then p q n m ko ka ka' k1 k a (Broke h) go le r on again = r.1
    body_then p q n m ko ka ka' k1 k a (Continued h) go le r on again = next p q m ko ka k a (λ u. ahead of f ka' u) h go r.1 again
    body_then p q n m ko ka ka' k1 k a (Returned v h) go le r on again = r
    body_then p q n m ko ka ka' k1 k a (Faulted fault) go le r on again = r
    body_then p q n m ko ka ka' k1 k a UsedUp go le r on again = record { count = r.count; enough = (let h : n ≤ r.count = r.enough in omega arith); so = r.so }

    pub switch_then : (p q : Bool) (n : ℕ) (ko ka k : List BodyItem) (a : End) (r : Ending)
        → Reaches true q n k ka k a r → Reaches p q n ko ka k a (after_switch r)
    switch_then p q n ko ka k a (Normal h) r = r
    switch_then p q n ko ka k a (Broke h) r = r.1
    switch_then p q n ko ka k a (Continued h) r = r
    switch_then p q n ko ka k a (Returned v h) r = r
    switch_then p q n ko ka k a (Faulted fault) r = r
    switch_then p q n ko ka k a UsedUp r = r

    -- what a test leads to, where a stretch more is allowed
    pub choice : (p q : Bool) (n n' : ℕ) (ko ka k kt kf : List BodyItem) (a : End) (m : List RunEvent) (r : Result Bool RunFault) (held failed : Ending) → n' ≤ suc n
        → Tests kt kf a m r → Reaches p q n ko ka k (ahead of f kt m) held → Reaches p q n ko ka k (ahead of f kf m) failed → Reaches p q n' ko ka k a (by_truth r held failed)
    choice p q n n' ko ka k kt kf a m (Err fault) held failed le test rt rf = test
    choice p q n n' ko ka k kt kf a m (Ok true) held failed le test rt rf =
        later_reaches p q n n' test.0 ko ka k a (ahead of f kt m) held (let h : 1 ≤ test.0 = test.1 in omega arith) test.2 rt
    choice p q n n' ko ka k kt kf a m (Ok false) held failed le test rt rf =
        later_reaches p q n n' test.0 ko ka k a (ahead of f kf m) failed (let h : 1 ≤ test.0 = test.1 in omega arith) test.2 rf

    -- nothing more
    pub stays : (p q : Bool) (n : ℕ) (ko ka k : List BodyItem) (m h : List RunEvent) → Here m h
        → Reaches p q n ko ka k (ahead of f k m) (Normal h)
    stays p q n ko ka k m h rel = record { count = 0; memory = m; rel = rel; so = refl }

    -- what an item does is reached
    goes_comes : (rank : ℕ → ℕ) (end : End) (goal : List RunEvent → End) (h : History)
        → Goes of program place Rel rank f (functions_of stack) h end goal → Comes end goal h
    goes_comes rank end goal h g = record { count = 0; memory = g.later; rel = g.rel; so = ap standing g.same }

    pub item_reaches : (rank : ℕ → ℕ) (p q : Bool) (n : ℕ) (ko ka k : List BodyItem) (end : End) (e : Ending)
        → ItemEnds of program place Rel rank f (functions_of stack) k end e
        → Reaches p q n ko ka k end e
    item_reaches rank p q n ko ka k end (Normal h) r = goes_comes rank end (λ m. ahead of f k m) h r
    item_reaches rank p q n ko ka k end (Broke h) r = absurd r
    item_reaches rank p q n ko ka k end (Continued h) r = absurd r
    item_reaches rank p q n ko ka k end (Returned v h) r = (r.fits, goes_comes rank end (λ m. Leaves (option_map (embedded_value place) v) m) h r.goes)
    item_reaches rank p q n ko ka k end (Faulted fault) r = record { count = 1; so = ap (λ (x : End). tick of (standing x)) r }
    item_reaches rank p q n ko ka k end UsedUp r = absurd r
