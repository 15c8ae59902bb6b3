-- The first of the pending jobs, by a rank and then by release.
use Rattle.std.proofs.Common.{◌≡◌, ◌≤◌, ℕ, List, [], ◌∷◌, ◌++◌, inl, inr, refl, ap, arith}
use Rattle.std.proofs.lemmas.Bool.{cases_order, cases_lt}
use Rattle.std.proofs.lemmas.List.Elements.{All-cons, All-weaker, All-nil}
use Rattle.std.specs.List.{All}
use Rattle.response_time.specs.Schedules.{Job}

module _ (rank : Job → ℕ) where
  -- the one job comes before the other: by rank, and then by release
  pub record Precedes (one other : Job) : Type 0 where
    pub higher : rank one ≤ rank other
    pub earlier : rank other ≡ rank one → one.release ≤ other.release

  -- a job that comes before all, with what stands in the list before and after it
  pub record First (jobs : List Job) : Type 0 where
    pub front : List Job
    pub job : Job
    pub rest : List Job
    pub is : jobs ≡ front ++ job ∷ rest
    pub first : All (Precedes job) jobs

  itself : (job : Job) → Precedes job job
  itself job = record { higher = omega arith; earlier = λ e. omega arith }

  before : (a b c : Job) → Precedes a b → Precedes b c → Precedes a c
  before a b c p q = record {
    higher = let ab = p.higher in let bc = q.higher in omega arith;
    earlier = λ e.
        let ab = p.higher in
        let bc = q.higher in
        let one = p.earlier (omega arith) in
        let two = q.earlier (omega arith) in
        omega arith;
  }

  -- a job heads the list, or a later one does
  with_one : (x : Job) (jobs : List Job) (f : First jobs) → Precedes x f.job → First (x ∷ jobs)
  with_one x jobs f p = record { front = []; job = x; rest = jobs; is = refl; first = All-cons (Precedes x) x jobs (itself x) (All-weaker (Precedes f.job) (Precedes x) (λ y q. before x f.job y p q) jobs f.first) }

  past_one : (x : Job) (jobs : List Job) (f : First jobs) → Precedes f.job x → First (x ∷ jobs)
  past_one x jobs f p = record { front = x ∷ f.front; job = f.job; rest = f.rest; is = ap (λ (js : List Job). x ∷ js) f.is; first = All-cons (Precedes f.job) x jobs p f.first }

  -- a list that is not empty has one
  pub first_of : (x : Job) (jobs : List Job) → First (x ∷ jobs)
  first_of x [] = record { front = []; job = x; rest = []; is = refl; first = All-cons (Precedes x) x [] (itself x) (All-nil (Precedes x)) }
  first_of x (y ∷ jobs) =
      let f = first_of y jobs in
      elim (cases_order (rank x) (rank f.job)) [
        | inr (inl less) ↦ with_one x (y ∷ jobs) f (record { higher = omega arith; earlier = λ e. absurd (omega arith) })
        | inr (inr more) ↦ past_one x (y ∷ jobs) f (record { higher = omega arith; earlier = λ e. absurd (omega arith) })
        | inl same ↦ elim (cases_lt x.release f.job.release) [
          | inl less ↦ with_one x (y ∷ jobs) f (record { higher = omega arith; earlier = λ e. omega arith })
          | inr more ↦ past_one x (y ∷ jobs) f (record { higher = omega arith; earlier = λ e. more })
        ]
      ]
