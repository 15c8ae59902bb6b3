-- Loops that test before or after their body.
--   turns_run                a loop that tests first: kh at the test, kb at the body, kl after it, kc where a `continue` leads
--   rounds_run               a loop that tests last: kb at the body, kc at the test
use Rattle.std.proofs.Common.{◌≤◌, ℕ, zero, suc, ◌-◌, List, Result, Bool, true, arith}
use Rattle.alf_ops.specs.declared.history.RunFault.{RunFault}
use Rattle.alf_ops.specs.declared.history.RunEvent.{RunEvent}
use Rattle.alf_program.specs.Tree.{BodyItem}
use Rattle.item_runs.specs.ItemRuns.{Waiting, ItemProgram, ahead}
use Rattle.c_meaning.specs.Objects.{Program}
use Rattle.c_meaning.specs.Endings.{History, Ending, Normal, UsedUp, then_do, after_body, by_truth, turns, rounds}
use Rattle.lowering_simulation.proofs.Comes.{Here, Reaches, Tests, body_then, choice, stays}

module _ (of : ItemProgram) (program : Program) (place : ℕ → ℕ) (Rel : List ℕ → List RunEvent → List RunEvent → Type 0) (f : ℕ) (stack : List Waiting) where
  -- from wherever the histories are related at these items
  abbrev pub From : Bool → Bool → ℕ → List BodyItem → List BodyItem → List BodyItem → List BodyItem → (History → Ending)
      → Type 0
  From p q n ko ka k items go = (m h : List RunEvent) → Here of program place Rel f stack m h → Reaches of program place Rel f stack p q n ko ka k (ahead of f items m) (go h)

  abbrev pub Testing : List BodyItem → List BodyItem → List BodyItem → (History → Result Bool RunFault) → Type 0
  Testing kt kf items test = (m h : List RunEvent) → Here of program place Rel f stack m h → Tests of program place Rel f stack kt kf (ahead of f items m) m (test h)

  module _ (p q : Bool) (n : ℕ) (ko ka k : List BodyItem) where
    pub turns_run : (kh kb kl kc : List BodyItem) (test : History → Result Bool RunFault) (body last : History → Ending)
        → Testing kb k kh test → From true true n k kc kl kb body
        → ((i r : ℕ) → r ≤ n → From p q r ko ka k kh (turns i test body last) → From p q r ko ka k kl (λ h. then_do (last h) (turns i test body last)))
        → ((i r : ℕ) → r ≤ n → From p q r ko ka k kh (turns i test body last) → From p q r ko ka k kc (λ h. then_do (last h) (turns i test body last)))
        → (i r : ℕ) → r ≤ i → r ≤ n → From p q r ko ka k kh (turns i test body last)
    turns_run kh kb kl kc test body last tests bodies back again zero r few le m h rel =
        choice of program place Rel f stack p q 0 r ko ka k kb k (ahead of f kh m) m (test h) UsedUp (Normal h) (omega arith) (tests m h rel)
        (record { count = 0; enough = omega arith; so = tt }) (stays of program place Rel f stack p q 0 ko ka k m h rel)
    turns_run kh kb kl kc test body last tests bodies back again (suc i) r few le m h rel =
        let others : From p q (r - 1) ko ka k kh (turns i test body last) = turns_run kh kb kl kc test body last tests bodies back again i (r - 1) (omega arith) (omega arith) in
        let go : History → Ending = λ u. then_do (last u) (turns i test body last) in
        choice of program place Rel f stack p q (r - 1) r ko ka k kb k (ahead of f kh m) m (test h) (after_body (body h) go) (Normal h) (omega arith) (tests m h rel)
        (body_then of program place Rel f stack p q n (r - 1) ko ka kc kl k (ahead of f kb m) (body h) go (omega arith) (bodies m h rel) (back i (r - 1) (omega arith) others) (again i (r - 1) (omega arith) others))
        (stays of program place Rel f stack p q (r - 1) ko ka k m h rel)

    pub rounds_run : (kb kc : List BodyItem) (body : History → Ending) (test : History → Result Bool RunFault)
        → From true true n k kc kc kb body → Testing kb k kc test → (i r : ℕ) → r ≤ i → r ≤ n → From p q r ko ka k kb (rounds i body test)
    rounds_run kb kc body test bodies tests zero r few le m h rel = record { count = 0; enough = omega arith; so = tt }
    rounds_run kb kc body test bodies tests (suc i) r few le m h rel =
        let go : History → Ending = λ u. by_truth (test u) (rounds i body test u) (Normal u) in
        let again : From p q r ko ka k kc go = λ u l there. choice of program place Rel f stack p q (r - 1) r ko ka k kb k (ahead of f kc u) u (test l) (rounds i body test l) (Normal l) (omega arith) (tests u l there)
        (rounds_run kb kc body test bodies tests i (r - 1) (omega arith) (omega arith) u l there) (stays of program place Rel f stack p q (r - 1) ko ka k u l there) in
        body_then of program place Rel f stack p q n r ko ka kc kc k (ahead of f kb m) (body h) go le (bodies m h rel) again again
