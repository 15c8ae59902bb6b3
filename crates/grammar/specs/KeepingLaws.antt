-- Laws of keeping.
--   stays         a rule that does not count, from its parts
--   passes        the same where nothing is asked of its values
--   weakened      it says less
--   one_passes    a token of which nothing is kept
--   spent_keeps   there was as much more as is spent
--   row_keeps     a list whose members count
use Rattle.std.proofs.Common.{◌≡◌, ℕ, zero, suc, Bool, ◌≤◌, ◌-◌, List, [], ◌∷◌, length, All, Result, Ok, Option, Some, None, refl, sym, ap, subst, ◌∙◌}
use Rattle.std.specs.Prelude.{IfSome}
use Rattle.std.proofs.lemmas.Bool.{leb-true}
use Rattle.std.proofs.lemmas.List.Elements.{All-nil, All-cons}
use Rattle.grammar.specs.Form.{At, first_of, others_of, after, Form, fit_first, one, made, bound, spent, InARow, row, AtMostOne, at_most_one, exactly_form, judged, refused}
use Rattle.grammar.specs.Each.{Each}
use Rattle.grammar.specs.Writing.{row_room}
use Rattle.grammar.specs.Keeping.{Any, Keeps, Stays}

-- the same position has the same tokens ahead
same_good : {T R : Type 0} (Good : T → Type 0) (at rest : At T R) → rest ≡ at → Each Good at.ahead
    → Each Good rest.ahead
same_good {T = T} {R = R} Good at rest e g = subst (λ (p : At T R). Each Good p.ahead) (sym e) g

same_room : {T R : Type 0} (at rest : At T R) → rest ≡ at → rest.room ≡ at.room
same_room {T = T} {R = R} at rest e = ap (λ (p : At T R). p.room) e

others_good : {T : Type 0} (Good : T → Type 0) (ts : List T) → Each Good ts → Each Good (others_of ts)
others_good Good [] g = tt
others_good Good (t ∷ ts) g = g.1

module _ {T R F : Type 0} where
  module _ {Good : T → Type 0} where
    -- ---- one part and then another

    -- the first part counts
    infixr 10 ◌>>>◌
    pub ◌>>>◌ : {A B : Type 0} {p : Form T R F A} {q : A → Form T R F B} {room : R} {P : A → R → Type 0} {Q : B → R → Type 0}
        → Keeps {T = T} {R = R} {F = F} Good p room P → ((x : A) (mid : R) → P x mid → Keeps {T = T} {R = R} {F = F} Good (q x) mid Q) → Keeps {T = T} {R = R} {F = F} Good (bound p q) room Q
    hp >>> hq = record { each = λ at y rest e g h. let k = hp.each at h.0 h.1 e g h.2 in (hq h.0 h.1.room k.0).each h.1 y rest refl k.1 h.3 }

    -- the first part does not count
    infixr 10 ◌>>-◌
    pub ◌>>-◌ : {A B : Type 0} {p : Form T R F A} {q : A → Form T R F B} {room : R} {P : A → Type 0} {Q : B → R → Type 0}
        → Stays {T = T} {R = R} {F = F} Good p P → ((x : A) → P x → Keeps {T = T} {R = R} {F = F} Good (q x) room Q) → Keeps {T = T} {R = R} {F = F} Good (bound p q) room Q
    hp >>- hq = record { each = λ at y rest e g h. let k = hp.each at h.0 h.1 g h.2 in (hq h.0 k.0).each h.1 y rest (k.1 ∙ e) k.2 h.3 }

    pub done : {A : Type 0} {a : A} {room : R} {Q : A → R → Type 0} → Q a room
        → Keeps {T = T} {R = R} {F = F} Good (made {F = F} a) room Q
    done {Q = Q} h = record { each = λ at x rest e g s. rw (s.0, s.1, e) (h, g) }

    -- a rule that does not count, from its parts
    pub stays : {A : Type 0} {p : Form T R F A} {Q : A → Type 0}
        → ((room : R) → Keeps {T = T} {R = R} {F = F} Good p room (λ x after. Q x × (after ≡ room)))
        → Stays {T = T} {R = R} {F = F} Good p Q
    stays h = record { each = λ at x rest g s. let k = (h at.room).each at x rest refl g s in (k.0.0, k.0.1, k.1) }

    -- the same where nothing is asked of its values
    pub passes : {A : Type 0} {p : Form T R F A}
        → ((room : R) → Keeps {T = T} {R = R} {F = F} Good p room (λ x after. after ≡ room))
        → Stays {T = T} {R = R} {F = F} Good p Any
    passes h = record { each = λ at x rest g s. let k = (h at.room).each at x rest refl g s in (tt, k.0, k.1) }

    pub keeps : {A : Type 0} {p : Form T R F A} {Q : A → Type 0} → Stays {T = T} {R = R} {F = F} Good p Q → (room : R)
        → Keeps {T = T} {R = R} {F = F} Good p room (λ x after. Q x × (after ≡ room))
    keeps h room = record { each = λ at x rest e g s. let k = h.each at x rest g s in ((k.0, k.1 ∙ e), k.2) }

    -- it says less
    pub weakened : {A : Type 0} {p : Form T R F A} {P Q : A → Type 0} → Stays {T = T} {R = R} {F = F} Good p P
        → ((x : A) → P x → Q x) → Stays {T = T} {R = R} {F = F} Good p Q
    weakened h f = record { each = λ at x rest g s. let k = h.each at x rest g s in (f x k.0, k.1, k.2) }

    -- ---- tokens

    one_fits : {A : Type 0} (out : At T R → F) (fit : T → At T R → Result A F) (Q : A → Type 0)
        → ((t : T) (at : At T R) (x : A) → Good t → fit t at ≡ Ok x → Q x)
        → (ts : List T) → Each Good ts → (at : At T R) (x : A) → fit_first out fit (first_of ts) at ≡ Ok x → Q x
    one_fits out fit Q h [] g at x e = absurd cc
    one_fits out fit Q h (t ∷ ts) g at x e = h t at x g.0 e

    pub one_stays : {A : Type 0} {out : At T R → F} {fit : T → At T R → Result A F} {Q : A → Type 0}
        → ((t : T) (at : At T R) (x : A) → Good t → fit t at ≡ Ok x → Q x)
        → Stays {T = T} {R = R} {F = F} Good (one out fit) Q
    one_stays {out = out} {fit = fit} {Q = Q} h = record { each = λ at x rest g s. (one_fits out fit Q h at.ahead g at x s.0, ap (λ (p : At T R). p.room) s.1, same_good Good (after at) rest s.1 (others_good Good at.ahead g)) }

    -- a token of which nothing is kept
    pub one_passes : {A : Type 0} {out : At T R → F} {fit : T → At T R → Result A F}
        → Stays {T = T} {R = R} {F = F} Good (one out fit) Any
    one_passes = record { each = λ at x rest g s. (tt, ap (λ (p : At T R). p.room) s.1, same_good Good (after at) rest s.1 (others_good Good at.ahead g)) }

    pub judged_stays : {A : Type 0} {fit : At T R → Result A F} {Q : A → Type 0}
        → ((at : At T R) (x : A) → fit at ≡ Ok x → Q x) → Stays {T = T} {R = R} {F = F} Good (judged fit) Q
    judged_stays h = record { each = λ at x rest g s. (h at x s.0, same_room at rest s.1, same_good Good at rest s.1 g) }

    pub judged_passes : {A : Type 0} {fit : At T R → Result A F} → Stays {T = T} {R = R} {F = F} Good (judged fit) Any
    judged_passes = judged_stays (λ at x e. tt)

    pub refused_stays : {A : Type 0} {fault : At T R → F} {Q : A → Type 0}
        → Stays {T = T} {R = R} {F = F} Good (refused fault) Q
    refused_stays = record { each = λ at x rest g s. absurd s }

    -- there was as much more as is spent
    pub spent_keeps : (of : R → ℕ) (leaving : R → ℕ → R) (over : F) (amount : ℕ) (more : R → R)
        → ((room : R) → amount ≤ of room → room ≡ more (leaving room (of room - amount)))
        → (room : R) → Keeps {T = T} {R = R} {F = F} Good (spent {T = T} of leaving over amount) room (λ x after. room ≡ more after)
    spent_keeps of leaving over amount more back room = record {
      each = λ at x rest e g s.
          (rw (← e) (back at.room (leb-true _ _ s.0) ∙ ap (λ (p : At T R). more p.room) (sym s.1)), subst (λ (p : At T R). Each Good p.ahead) (sym s.1) g);
    }

    -- ---- lists

    module _ {A : Type 0} (goes_on : At T R → Bool) (p : Form T R F A) where
      row_each : {Q : A → Type 0} → Stays {T = T} {R = R} {F = F} Good p Q → (at : At T R) (xs : List A) (rest : At T R)
          → Each Good at.ahead → InARow goes_on p at xs rest → All Q xs × (rest.room ≡ at.room) × Each Good rest.ahead
      row_each {Q = Q} h at [] rest g s = (All-nil Q, same_room at rest s, same_good Good at rest s g)
      row_each {Q = Q} h at (x ∷ xs) rest g s =
          let k = h.each at x s.1.0 g s.1.1 in
          let i = row_each h s.1.0 xs rest k.2 s.1.2 in
          (All-cons Q x xs k.0 i.0, i.1 ∙ k.1, i.2)

      pub row_stays : {Q : A → Type 0} → Stays {T = T} {R = R} {F = F} Good p Q
          → Stays {T = T} {R = R} {F = F} Good (row goes_on p) (All Q)
      row_stays h = record { each = λ at xs rest g s. row_each h at xs rest g s.0 }

      row_needs : {Q : A → Type 0} (need : A → R → R)
          → ((room : R) → Keeps {T = T} {R = R} {F = F} Good p room (λ x after. Q x × (room ≡ need x after)))
          → (at : At T R) (xs : List A) (rest : At T R) → Each Good at.ahead → InARow goes_on p at xs rest → All Q xs × (at.room ≡ row_room need xs rest.room) × Each Good rest.ahead
      row_needs {Q = Q} need h at [] rest g s = (All-nil Q, sym (same_room at rest s), same_good Good at rest s g)
      row_needs {Q = Q} need h at (x ∷ xs) rest g s =
          let k = (h at.room).each at x s.1.0 refl g s.1.1 in
          let i = row_needs need h s.1.0 xs rest k.1 s.1.2 in
          (All-cons Q x xs k.0.0 i.0, k.0.1 ∙ ap (λ (r : R). need x r) i.1, i.2)

      -- a list whose members count
      pub row_keeps : {Q : A → Type 0} (need : A → R → R)
          → ((room : R) → Keeps {T = T} {R = R} {F = F} Good p room (λ x after. Q x × (room ≡ need x after)))
          → (room : R) → Keeps {T = T} {R = R} {F = F} Good (row goes_on p) room (λ xs after. All Q xs × (room ≡ row_room need xs after))
      row_keeps need h room = record { each = λ at xs rest e g s. let k = row_needs need h at xs rest g s.0 in ((k.0, sym e ∙ k.1), k.2) }

      maybe_each : {Q : A → Type 0} → Stays {T = T} {R = R} {F = F} Good p Q
          → (at : At T R) (o : Option A) (rest : At T R) → Each Good at.ahead → AtMostOne goes_on p at o rest
          → IfSome o Q × (rest.room ≡ at.room) × Each Good rest.ahead
      maybe_each h at None rest g s = (tt, same_room at rest s.1, same_good Good at rest s.1 g)
      maybe_each h at (Some x) rest g s = h.each at x rest g s.1

      pub maybe_stays : {Q : A → Type 0} → Stays {T = T} {R = R} {F = F} Good p Q
          → Stays {T = T} {R = R} {F = F} Good (at_most_one goes_on p) (λ o. IfSome o Q)
      maybe_stays h = record { each = maybe_each h }

    pub exactly_stays : {A : Type 0} {p : Form T R F A} {Q : A → Type 0} (n : ℕ)
        → Stays {T = T} {R = R} {F = F} Good p Q
        → Stays {T = T} {R = R} {F = F} Good (exactly_form n p) (λ xs. All Q xs × (length xs ≡ n))
    unfolding exactly_form
    exactly_stays {Q = Q} zero h = stays (λ room. done ((All-nil Q, refl), refl))
    exactly_stays {Q = Q} (suc n) h = stays (λ room. h >>- λ x w. exactly_stays n h >>- λ xs k. done ((All-cons Q x xs w k.0, rw k.1 refl), refl))
