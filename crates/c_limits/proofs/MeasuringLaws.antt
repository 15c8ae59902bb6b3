-- Laws of measuring.
use Rattle.std.proofs.Common.{◌≡◌, ◌≤◌, ◌+◌, ℕ, suc, Bool, true, false, List, [], ◌∷◌, ◌++◌, length, sym, ap, subst, ◌∙◌, arith, length-append}
use Rattle.std.specs.Prelude.{⊤}
use Rattle.grammar.specs.Form.{Form, bound, made, InARow, row}
use Rattle.c_unit.specs.Units.{Word}
use Rattle.c_grammar.specs.Tokens.{Fault, Seen, Room, Place, Rule, either}
use Rattle.c_limits.specs.Taking.{Good, Later}
use Rattle.c_limits.proofs.TakingLaws.{later_on, Takes}
use Rattle.c_limits.specs.Measuring.{Tokens, given, Taken, Quietly, Fits}

module _ (words : List Word) where
  pub tokens_joined : (n m k : ℕ) (xs ys : List ℕ) → Tokens words n m xs → Tokens words m k ys
      → Tokens words n k (xs ++ ys)
  tokens_joined n m k [] ys h i = tokens_from n m k ys h i
    where
      tokens_from : (a b c : ℕ) (zs : List ℕ) → a ≤ b → Tokens words b c zs → Tokens words a c zs
      tokens_from a b c [] low j = omega (arith, low, j)
      tokens_from a b c (z ∷ zs) low j = (let first = j.0 in omega (arith, low, first), j.1, j.2)
  tokens_joined n m k (x ∷ xs) ys h i = (h.0, h.1, tokens_joined (suc x) m k xs ys h.2 i)

  pub given_joined : (names : List (List ℕ × Bool)) (xs ys : List ℕ)
      → given words names (xs ++ ys) ≡ (given words) names xs + (given words) names ys
  given_joined names [] ys = omega arith
  given_joined names (x ∷ xs) ys = let rest = given_joined names xs ys in omega (arith, rest)

  -- ---- what is quiet

  pub quiet_taken : (n : ℕ) (at rest : Place) (P : List ℕ → List ℕ → ℕ → Type 0) → Later at rest → Good words n at.ahead
      → P [] [] 0 → Taken words n at rest P
  quiet_taken n at rest P later good holds = record {
    ds = [];
    calls = [];
    el = 0;
    m = n;
    tokens = (let same : n ≤ n = omega arith in same);
    good = later.good words n good;
    frames = (let same : rest.room.frames ≡ at.room.frames = ap (λ (r : Room). r.frames) later.room in omega (arith, same));
    elements = (let same : rest.room.elements ≡ at.room.elements = ap (λ (r : Room). r.elements) later.room in omega (arith, same));
    functions = ap (λ (r : Room). r.functions) later.room;
    names = ap (λ (r : Room). r.names) later.room;
    holds = holds;
  }

  -- what is taken after nothing was counted
  after_quiet : (n : ℕ) (at mid rest : Place) (P : List ℕ → List ℕ → ℕ → Type 0) → Later at mid
      → Taken words n mid rest P → Taken words n at rest P
  after_quiet n at mid rest P later t =
      let room = later.room in
      record {
        ds = t.ds;
        calls = t.calls;
        el = t.el;
        m = t.m;
        tokens = t.tokens;
        good = t.good;
        frames = subst (λ (r : Room). r.frames ≡ (length t.ds + (given words) r.names t.calls) + rest.room.frames) room t.frames;
        elements = subst (λ (r : Room). r.elements ≡ t.el + rest.room.elements) room t.elements;
        functions = subst (λ (r : Room). rest.room.functions ≡ r.functions) room t.functions;
        names = subst (λ (r : Room). rest.room.names ≡ r.names) room t.names;
        holds = t.holds;
      }

  before_quiet : (n : ℕ) (at mid rest : Place) (P Q : List ℕ → List ℕ → ℕ → Type 0) → (t : Taken words n at mid P)
      → Later mid rest
      → Q t.ds t.calls t.el → Taken words n at rest Q
  before_quiet n at mid rest P Q t later holds =
      let room = later.room in
      record {
        ds = t.ds;
        calls = t.calls;
        el = t.el;
        m = t.m;
        tokens = t.tokens;
        good = later.good words t.m t.good;
        frames = subst (λ (r : Room). at.room.frames ≡ (length t.ds + (given words) at.room.names t.calls) + r.frames) (sym room) t.frames;
        elements = subst (λ (r : Room). at.room.elements ≡ t.el + r.elements) (sym room) t.elements;
        functions = subst (λ (r : Room). r.functions ≡ at.room.functions) (sym room) t.functions;
        names = subst (λ (r : Room). r.names ≡ at.room.names) (sym room) t.names;
        holds = holds;
      }

  pub two_taken : (n : ℕ) (at mid rest : Place) (P Q R : List ℕ → List ℕ → ℕ → Type 0) (t : Taken words n at mid P) (u : Taken words t.m mid rest Q)
      → R (t.ds ++ u.ds) (t.calls ++ u.calls) (t.el + u.el) → Taken words n at rest R
  two_taken n at mid rest P Q R t u holds =
      let f = t.frames in
      let g : mid.room.frames ≡ (length u.ds + (given words) at.room.names u.calls) + rest.room.frames =
      subst (λ (names : List (List ℕ × Bool)). mid.room.frames ≡ (length u.ds + (given words) names u.calls)
      + rest.room.frames) t.names u.frames in
      let lengths = length-append t.ds u.ds in
      let counts = given_joined at.room.names t.calls u.calls in
      let e = t.elements in
      let d = u.elements in
      record {
        ds = t.ds ++ u.ds;
        calls = t.calls ++ u.calls;
        el = t.el + u.el;
        m = u.m;
        tokens = tokens_joined n t.m u.m t.ds u.ds t.tokens u.tokens;
        good = u.good;
        frames = omega (arith, f, g, lengths, counts);
        elements = omega (arith, e, d);
        functions = u.functions ∙ t.functions;
        names = u.names ∙ t.names;
        holds = holds;
      }

  -- ---- combinators

  pub q_takes : {A : Type 0} {p : Form Seen Room Fault A} → Takes p → Quietly words p (λ x. ⊤)
  q_takes h = record { each = λ at x rest s. (h.each at x rest s, tt) }

  pub q_made : {A : Type 0} {R : A → Type 0} (a : A) → R a → Quietly words (made a) R
  q_made {R = R} a r =
      record {
        each = λ at x rest s. (
          record { good = λ words n g. subst (λ (p : Place). Good words n p.ahead) (sym s.1) g; room = ap (λ (p : Place). p.room) s.1 },
          subst R (sym s.0) r,
        );
      }

  pub q_then : {A B : Type 0} {p : Form Seen Room Fault A} {q : A → Form Seen Room Fault B} {R : A → Type 0} {S : B → Type 0}
      → Quietly words p R → ((x : A) → R x → Quietly words (q x) S) → Quietly words (bound p q) S
  q_then h k = record {
    each = λ at y rest s.
        let a = h.each at s.0 s.1 s.2 in
        let b = (k s.0 a.1).each s.1 y rest s.3 in
        (later_on at s.1 rest a.0 b.0, b.1);
  }

  pub fits_quiet : {A : Type 0} {p : Form Seen Room Fault A} {post : A → List ℕ → List ℕ → ℕ → Type 0}
      → Quietly words p (λ x. post x [] [] 0) → Fits words p post
  fits_quiet {post = post} h = record { each = λ at x rest s n good. let a = h.each at x rest s in quiet_taken n at rest (post x) a.0 good a.1 }

  pub fits_after : {A B : Type 0} {p : Form Seen Room Fault A} {q : A → Form Seen Room Fault B} {R : A → Type 0} {post : B → List ℕ → List ℕ → ℕ → Type 0}
      → Quietly words p R → ((x : A) → R x → Fits words (q x) post) → Fits words (bound p q) post
  fits_after {post = post} h k = record {
    each = λ at y rest s n good.
        let a = h.each at s.0 s.1 s.2 in
        after_quiet n at s.1 rest (post y) a.0 ((k s.0 a.1).each s.1 y rest s.3 n (a.0.good words n good));
  }

  pub fits_last : {A B : Type 0} {p : Form Seen Room Fault A} {q : A → Form Seen Room Fault B} {P : A → List ℕ → List ℕ → ℕ
      → Type 0} {post : B → List ℕ → List ℕ → ℕ → Type 0} → Fits words p P
      → ((x : A) (ds calls : List ℕ) (el : ℕ) → P x ds calls el → Quietly words (q x) (λ y. post y ds calls el)) → Fits words (bound p q) post
  fits_last {P = P} {post = post} h k = record {
    each = λ at y rest s n good.
        let t = h.each at s.0 s.1 s.2 n good in
        let b = (k s.0 t.ds t.calls t.el t.holds).each s.1 y rest s.3 in
        before_quiet n at s.1 rest (P s.0) (post y) t b.0 b.1;
  }

  pub fits_either : {some : Bool} {A : Type 0} {post : A → List ℕ → List ℕ → ℕ → Type 0} (b : Bool) (p q : Rule some A)
      → Fits words p.form post → Fits words q.form post → Fits words (either b p q).form post
  fits_either true p q h i = h
  fits_either false p q h i = i

  pub fits_as : {A : Type 0} {p : Form Seen Room Fault A} {P Q : A → List ℕ → List ℕ → ℕ → Type 0}
      → ((x : A) (ds calls : List ℕ) (el : ℕ) → P x ds calls el → Q x ds calls el) → Fits words p P → Fits words p Q
  fits_as f h = record {
    each = λ at x rest s n good.
        let t = h.each at x rest s n good in
        record {
          ds = t.ds;
          calls = t.calls;
          el = t.el;
          m = t.m;
          tokens = t.tokens;
          good = t.good;
          frames = t.frames;
          elements = t.elements;
          functions = t.functions;
          names = t.names;
          holds = f x t.ds t.calls t.el t.holds;
        };
  }

  module _ {A : Type 0} (goes_on : Place → Bool) (p : Form Seen Room Fault A) (P : A → List ℕ → List ℕ → ℕ → Type 0) where
    pub fits_row : (post : List A → List ℕ → List ℕ → ℕ → Type 0) → Fits words p P → post [] [] [] 0
        → ((x : A) (xs : List A) (ds calls : List ℕ) (el : ℕ) (es more : List ℕ) (fl : ℕ) → P x ds calls el → post xs es more fl
        → post (x ∷ xs) (ds ++ es) (calls ++ more) (el + fl)) → Fits words (row goes_on p) post
    fits_row post h none some = record { each = λ at xs rest s n good. row_each at xs rest s.0 n good }
      where
        row_each : (at : Place) (xs : List A) (rest : Place) → InARow goes_on p at xs rest → (n : ℕ)
            → Good words n at.ahead → Taken words n at rest (post xs)
        row_each at [] rest s n good =
            quiet_taken n at rest (post [])
            (record { good = λ words n g. subst (λ (p : Place). Good words n p.ahead) (sym s) g; room = ap (λ (p : Place). p.room) s }) good none
        row_each at (x ∷ xs) rest s n good =
            let t = h.each at x s.1.0 s.1.1 n good in
            let u = row_each s.1.0 xs rest s.1.2 t.m t.good in
            two_taken n at s.1.0 rest (P x) (post xs) (post (x ∷ xs)) t u (some x xs t.ds t.calls t.el u.ds u.calls u.el t.holds u.holds)
