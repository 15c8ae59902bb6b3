-- One induction over what rules spell: what holds of the way over each token holds of the way over each text.
--   Walk                  what may be said of the way from a place to a place: `Goes at P rest`, where P is asked of what is counted on the way
--   Spelled w p P         wherever p spells a value the walk goes, and P holds of the value and of what is counted
--   Quiet w p, Quietly w p R    nothing is counted; and R holds of the value
--   seen is p             p, where so much was seen of what comes next
--   IfThere w P           P of a value that may be missing, for which nothing is counted
use Rattle.std.proofs.Common.{◌≡◌, ℕ, zero, suc, Bool, true, false, List, [], ◌∷◌, Result, Ok, Option, Some, None, refl, sym, subst}
use Rattle.grammar.specs.Form.{Form, first_of, fit_first, bound, made, refused, judged, InARow, row, AtMostOne, at_most_one}
use Rattle.grammar.specs.Exact.{ok_no_err}
use Rattle.grammar.specs.ExactLaws.{ok_is}
use Rattle.grammar.specs.Chain.{InTurn, chain}
use Rattle.c_grammar.specs.Tokens.{Fault, Syntax, Seen, Room, Place, Rule, one, either}

pub record Walk : Type 1 where
  -- what is counted on a way
  pub Count : Type 0
  pub none : Count
  pub join : Count → Count → Count
  pub none_before : (m : Count) → join none m ≡ m
  pub none_after : (m : Count) → join m none ≡ m
  pub joined : (m n k : Count) → join m (join n k) ≡ join (join m n) k
  -- from the one place to the other, where P holds of what is counted
  pub Goes : Place → (Count → Type 0) → Place → Type 0
  pub stays : (at : Place) (P : Count → Type 0) → P none → Goes at P at
  pub goes_on : (at mid rest : Place) (P Q : Count → Type 0) → Goes at P mid
      → ((m : Count) → P m → Goes mid (λ n. Q (join m n)) rest) → Goes at Q rest

-- wherever p spells a value the walk goes so
pub record Spelled (w : Walk) {A : Type 0} (p : Form Seen Room Fault A) (P : A → w.Count → Type 0) : Type 0 where
  pub each : (at : Place) (x : A) (rest : Place) → p.Spells at x rest → w.Goes at (P x) rest

-- nothing is counted, and this holds of the value
abbrev pub Quietly : (w : Walk) {A : Type 0} (p : Form Seen Room Fault A) → (A → Type 0) → Type 0
Quietly w p R = Spelled w p (λ x m. (m ≡ w.none) × R x)

abbrev pub Quiet : (w : Walk) {A : Type 0} → Form Seen Room Fault A → Type 0
Quiet w p = Spelled w p (λ x m. m ≡ w.none)

abbrev pub IfThere : (w : Walk) {A : Type 0} → (A → w.Count → Type 0) → Option A → w.Count → Type 0
IfThere w P None m = m ≡ w.none
IfThere w P (Some x) m = P x m

-- this rule, where so much was seen of what comes next
abbrev pub seen : {A : Type 0} → (Place → Bool) → Form Seen Room Fault A → Form Seen Room Fault A
seen is p =
    record { Spells = λ at x rest. (is at ≡ true) × p.Spells at x rest; Departs = p.Departs; reading = p.reading }

module _ (w : Walk) where
  pub goes_as : (at rest : Place) (P Q : w.Count → Type 0) → w.Goes at P rest → ((m : w.Count) → P m → Q m)
      → w.Goes at Q rest
  goes_as at rest P Q g f =
      w.goes_on at rest rest P Q g (λ m h. w.stays rest (λ n. Q (w.join m n)) (subst Q (sym (w.none_after m)) (f m h)))

  -- the same place
  goes_nowhere : (at rest : Place) (P : w.Count → Type 0) → rest ≡ at → P w.none → w.Goes at P rest
  goes_nowhere at rest P e h = subst (λ (p : Place). w.Goes at P p) (sym e) (w.stays at P h)

  -- after it nothing is counted
  pub at_end : (P : w.Count → Type 0) (m : w.Count) → P m → P (w.join m w.none)
  at_end P m h = subst P (sym (w.none_after m)) h

  quiet_there : {A : Type 0} (o : Option A) (m : w.Count) → IfThere w (λ (x : A) (m : w.Count). m ≡ w.none) o m
      → m ≡ w.none
  quiet_there None m h = h
  quiet_there (Some x) m h = h

  -- a part that takes in the value so far, and what is counted for it
  abbrev pub Step : {A : Type 0} → (A → w.Count → Type 0) → (A → Place → Bool) → (A → Form Seen Room Fault A) → Type 0
  Step {A = A} P begins p =
      (x : A) (m : w.Count) (at : Place) (y : A) (rest : Place) → begins x at ≡ true → P x m → (p x).Spells at y rest → w.Goes at (λ n. P y (w.join m n)) rest

  module _ {A : Type 0} (P : A → w.Count → Type 0) (begins : A → Place → Bool) (p : A → Form Seen Room Fault A) where
    turns_go : Step P begins p → (n : ℕ) (x : A) (m : w.Count) (at : Place) (y : A) (rest : Place) → P x m
        → InTurn begins p n x at y rest → w.Goes at (λ k. P y (w.join m k)) rest
    turns_go step zero x m at y rest h s =
        goes_nowhere at rest (λ k. P y (w.join m k)) s.1 (subst (P y) (sym (w.none_after m)) (subst (λ (z : A). P z m) (sym s.0) h))
    turns_go step (suc n) x m at y rest h s =
        w.goes_on at s.1.1 rest (λ k. P s.1.0 (w.join m k)) (λ k. P y (w.join m k)) (step x m at s.1.0 s.1.1 s.0 h s.1.2) (λ k i.
        goes_as s.1.1 rest (λ l. P y (w.join (w.join m k) l)) (λ l. P y (w.join m (w.join k l))) (turns_go step n s.1.0 (w.join m k) s.1.1 y rest i s.1.3)
        (λ l j. subst (P y) (sym (w.joined m k l)) j))

never_first : {A : Type 0} {B : Type 0} (fit : Seen → Result A Fault) → ((t : Seen) (x : A) → fit t ≡ Ok x → B)
    → (ts : List Seen) (at : Place) (x : A)
    → fit_first (λ (at : Place). Syntax None) (λ (t : Seen) (at : Place). fit t) (first_of ts) at ≡ Ok x → B
never_first fit h [] at x e = ok_no_err x (Syntax None) e
never_first fit h (t ∷ ts) at x e = h t x e

module _ {w : Walk} where
  pub spelled_as : {A : Type 0} {p : Form Seen Room Fault A} {P Q : A → w.Count → Type 0} → Spelled w p P
      → ((x : A) (m : w.Count) → P x m → Q x m) → Spelled w p Q
  spelled_as {P = P} {Q = Q} h f =
      record { each = λ at x rest s. goes_as w at rest (P x) (Q x) (h.each at x rest s) (f x) }

  -- ---- one part and then another

  infixr 10 ◌>>+◌
  pub ◌>>+◌ : {A B : Type 0} {p : Form Seen Room Fault A} {q : A → Form Seen Room Fault B} {P : A → w.Count → Type 0} {Q : B → w.Count → Type 0}
      → Spelled w p P → ((x : A) (m : w.Count) → P x m → Spelled w (q x) (λ y n. Q y (w.join m n)))
      → Spelled w (bound p q) Q
  ◌>>+◌ {P = P} {Q = Q} hp hq =
      record {
        each = λ at y rest s.
            w.goes_on at s.1 rest (P s.0) (Q y) (hp.each at s.0 s.1 s.2) (λ m h. (hq s.0 m h).each s.1 y rest s.3);
      }

  -- a first part that counts nothing
  infixr 10 ◌>>-◌
  pub ◌>>-◌ : {A B : Type 0} {p : Form Seen Room Fault A} {q : A → Form Seen Room Fault B} {Q : B → w.Count → Type 0}
      → Quiet w p → ((x : A) → Spelled w (q x) Q) → Spelled w (bound p q) Q
  ◌>>-◌ {q = q} {Q = Q} hp hq = record {
    each = λ at y rest s.
        w.goes_on at s.1 rest (λ m. m ≡ w.none) (Q y) (hp.each at s.0 s.1 s.2) (λ m none.
        goes_as w s.1 rest (Q y) (λ n. Q y (w.join m n)) ((hq s.0).each s.1 y rest s.3) (λ n h.
        subst (λ (k : w.Count). Q y (w.join k n)) (sym none) (subst (Q y) (sym (w.none_before n)) h)));
  }

  -- one of whose value something is known
  infixr 10 ◌>>=◌
  pub ◌>>=◌ : {A B : Type 0} {p : Form Seen Room Fault A} {q : A → Form Seen Room Fault B} {R : A → Type 0} {Q : B → w.Count → Type 0}
      → Quietly w p R → ((x : A) → R x → Spelled w (q x) Q) → Spelled w (bound p q) Q
  ◌>>=◌ {q = q} {R = R} {Q = Q} hp hq = record {
    each = λ at y rest s.
        w.goes_on at s.1 rest (λ m. (m ≡ w.none) × R s.0) (Q y) (hp.each at s.0 s.1 s.2) (λ m k.
        goes_as w s.1 rest (Q y) (λ n. Q y (w.join m n)) ((hq s.0 k.1).each s.1 y rest s.3) (λ n h.
        subst (λ (z : w.Count). Q y (w.join z n)) (sym k.0) (subst (Q y) (sym (w.none_before n)) h)));
  }

  -- after this part nothing is counted
  infixr 10 ◌>>!◌
  pub ◌>>!◌ : {A B : Type 0} {p : Form Seen Room Fault A} {q : A → Form Seen Room Fault B} {P : A → w.Count → Type 0} {Q : B → w.Count → Type 0}
      → Spelled w p P → ((x : A) (m : w.Count) → P x m → Quietly w (q x) (λ y. Q y m)) → Spelled w (bound p q) Q
  ◌>>!◌ {p = p} {q = q} {P = P} {Q = Q} hp hq =
      ◌>>+◌ {p = p} {q = q} {P = P} {Q = Q} hp (λ x m h. spelled_as (hq x m h) (λ y n k.
      subst (λ (z : w.Count). Q y (w.join m z)) (sym k.0) (subst (Q y) (sym (w.none_after m)) k.1)))

  pub done : {A : Type 0} {a : A} {P : A → w.Count → Type 0} → P a w.none → Spelled w (made a) P
  done {A = A} {a = a} {P = P} h =
      record { each = λ at x rest s. goes_nowhere w at rest (P x) s.1 (subst (λ (y : A). P y w.none) (sym s.0) h) }

  pub judged_spelled : {A : Type 0} {fit : Place → Result A Fault} → Quiet w (judged fit)
  judged_spelled = record { each = λ at x rest s. goes_nowhere w at rest (λ m. m ≡ w.none) s.1 refl }

  -- of whose value something is known
  pub judged_so : {A : Type 0} {fit : Place → Result A Fault} {R : A → Type 0}
      → ((at : Place) (x : A) → fit at ≡ Ok x → R x) → Quietly w (judged fit) R
  judged_so {R = R} h =
      record { each = λ at x rest s. goes_nowhere w at rest (λ m. (m ≡ w.none) × R x) s.1 (refl, h at x s.0) }

  -- before it nothing is counted
  pub from_none : {A : Type 0} {p : Form Seen Room Fault A} {P : A → w.Count → Type 0}
      → Spelled w p (λ x m. P x (w.join w.none m)) → Spelled w p P
  from_none {P = P} h = spelled_as h (λ x m k. subst (P x) (w.none_before m) k)

  pub refused_spelled : {A : Type 0} {fault : Place → Fault} {P : A → w.Count → Type 0}
      → Spelled w (refused {A = A} fault) P
  refused_spelled = record { each = λ at x rest s. absurd s }

  pub either_spelled : {some : Bool} {A : Type 0} {P : A → w.Count → Type 0} (b : Bool) (p q : Rule some A)
      → Spelled w p.form P → Spelled w q.form P → Spelled w (either b p q).form P
  either_spelled true p q h i = h
  either_spelled false p q h i = i

  -- ---- lists and chains

  module _ {A : Type 0} (begins : Place → Bool) (p : Form Seen Room Fault A) where
    row_goes : {P : A → w.Count → Type 0} (Ps : List A → w.Count → Type 0) → Spelled w p P → Ps [] w.none
        → ((x : A) (xs : List A) (m n : w.Count) → P x m → Ps xs n → Ps (x ∷ xs) (w.join m n))
        → (at : Place) (xs : List A) (rest : Place) → InARow begins p at xs rest → w.Goes at (Ps xs) rest
    row_goes Ps h nil more at [] rest s = goes_nowhere w at rest (Ps []) s nil
    row_goes {P = P} Ps h nil more at (x ∷ xs) rest s =
        w.goes_on at s.1.0 rest (P x) (Ps (x ∷ xs)) (h.each at x s.1.0 s.1.1) (λ m k.
        goes_as w s.1.0 rest (Ps xs) (λ n. Ps (x ∷ xs) (w.join m n)) (row_goes Ps h nil more s.1.0 xs rest s.1.2) (λ n i. more x xs m n k i))

    pub row_spelled : {P : A → w.Count → Type 0} (Ps : List A → w.Count → Type 0) → Spelled w p P → Ps [] w.none
        → ((x : A) (xs : List A) (m n : w.Count) → P x m → Ps xs n → Ps (x ∷ xs) (w.join m n))
        → Spelled w (row begins p) Ps
    row_spelled Ps h nil more = record { each = λ at xs rest s. row_goes Ps h nil more at xs rest s.0 }

    -- a list that counts nothing
    pub row_quiet : Quiet w p → Quiet w (row begins p)
    row_quiet h =
        row_spelled (λ xs m. m ≡ w.none) h refl (λ x xs m n e i. subst (λ (k : w.Count). w.join k n ≡ w.none) (sym e) (subst (λ (k : w.Count). k ≡ w.none) (sym (w.none_before n)) i))

    maybe_goes : {P : A → w.Count → Type 0} → Spelled w p P → (at : Place) (o : Option A) (rest : Place)
        → AtMostOne begins p at o rest → w.Goes at (IfThere w P o) rest
    maybe_goes {P = P} h at None rest s = goes_nowhere w at rest (λ m. m ≡ w.none) s.1 refl
    maybe_goes h at (Some x) rest s = h.each at x rest s.1

    pub maybe_spelled : {P : A → w.Count → Type 0} → Spelled w p P → Spelled w (at_most_one begins p) (IfThere w P)
    maybe_spelled h = record { each = maybe_goes h }

    pub maybe_quiet : Quiet w p → Quiet w (at_most_one begins p)
    maybe_quiet h = spelled_as (maybe_spelled h) (quiet_there w)

  -- parts that take in the value so far
  module _ {A : Type 0} {P : A → w.Count → Type 0} (begins : A → Place → Bool) (p : A → Form Seen Room Fault A) where
    pub chain_spelled : Step w P begins p → (x : A) (m : w.Count) → P x m
        → Spelled w (chain begins p x) (λ y n. P y (w.join m n))
    chain_spelled step x m h = record { each = λ at y rest s. turns_go w P begins p step s.0.0 x m at y rest h s.0.1 }

  pub chain_quiet : {A : Type 0} (begins : A → Place → Bool) (p : A → Form Seen Room Fault A)
      → ((x : A) → Quiet w (p x)) → (x : A) → Quiet w (chain begins p x)
  chain_quiet begins p h x =
      spelled_as (chain_spelled {P = λ x m. m ≡ w.none} begins p (λ x m at y rest b e s. goes_as w at rest (λ n. n ≡ w.none) (λ n. w.join m n ≡ w.none) ((h x).each at y rest s) (λ n i.
      subst (λ (k : w.Count). w.join m k ≡ w.none) (sym i) (subst (λ (k : w.Count). k ≡ w.none) (sym (w.none_after m)) e))) x w.none refl)
      (λ y n e. subst (λ (k : w.Count). k ≡ w.none) (w.none_before n) e)

  -- ---- what was seen of the next token

  -- what was seen holds of the place where the next part is read
  pub seen_then : {B : Type 0} {is : Place → Bool} {Q : B → w.Count → Type 0} (q : Bool → Form Seen Room Fault B)
      → ((b : Bool) (at : Place) → is at ≡ b → (y : B) (rest : Place) → (q b).Spells at y rest → w.Goes at (Q y) rest)
      → Spelled w (bound (judged (λ at. Ok (is at))) q) Q
  seen_then {B = B} {is = is} {Q = Q} q h = record {
    each =
        λ at y rest s.
        h s.0 at (ok_is {F = Fault} (is at) s.0 s.2.0) y rest (subst (λ (p : Place). (q s.0).Spells p y rest) s.2.1 s.3);
  }

  -- what holds anywhere
  pub seen_anywhere : {A : Type 0} {p : Form Seen Room Fault A} {P : A → w.Count → Type 0} (is : Place → Bool)
      → Spelled w p P → Spelled w (seen is p) P
  seen_anywhere is h = record { each = λ at x rest s. h.each at x rest s.1 }

  -- a first part that begins where it was seen
  pub first_seen : {A B : Type 0} {is : Place → Bool} {Q : B → w.Count → Type 0} (p : Form Seen Room Fault A) (q : A → Form Seen Room Fault B) → Spelled w (bound (seen is p) q) Q → Spelled w (seen is (bound p q)) Q
  first_seen p q h = record { each = λ at y rest s. h.each at y rest (s.1.0, s.1.1, (s.0, s.1.2), s.1.3) }

  -- the one rule where it was seen, and the other anywhere
  module _ {some : Bool} {A : Type 0} {P : A → w.Count → Type 0} (is : Place → Bool) (p q : Rule some A) (h : Spelled w (seen is p.form) P) (i : Spelled w q.form P) where
    seen_goes : (b : Bool) (at : Place) → is at ≡ b → (x : A) (rest : Place) → (either b p q).form.Spells at x rest
        → w.Goes at (P x) rest
    seen_goes true at e x rest s = h.each at x rest (e, s)
    seen_goes false at e x rest s = i.each at x rest s

    pub seen_either : Spelled w (bound (judged (λ at. Ok (is at))) (λ b. (either b p q).form)) P
    seen_either = seen_then {is = is} {Q = P} (λ b. (either b p q).form) seen_goes

    pub seen_value : Spelled w (bound (judged (λ at. Ok (is at))) (λ b. bound (either b p q).form (λ x. made x))) P
    seen_value = seen_then {is = is} {Q = P} (λ b. bound (either b p q).form (λ x. made x)) (λ b at e y rest s.
        subst (λ (z : A). w.Goes at (P z) rest) (sym s.3.0) (subst (λ (r : Place). w.Goes at (P s.0) r) (sym s.3.1) (seen_goes b at e s.0 s.1 s.2)))

  -- ---- one token

  -- a token that nothing fits
  pub never_spelled : {A : Type 0} {P : A → w.Count → Type 0} (fit : Seen → Result A Fault)
      → ((t : Seen) (x : A) → fit t ≡ Ok x → ⊥) → Spelled w (one fit).form P
  never_spelled fit h = record { each = λ at x rest s. absurd (never_first fit h at.ahead at x s.0) }
