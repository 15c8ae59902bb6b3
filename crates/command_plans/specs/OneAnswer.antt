-- Told files have one answer.
--   IsOne w    told files have one value, or outcomes that are alike, and one list of names read, but for failed reads
--   alike      an outcome is like itself
--   log_through    reads of some names and then of others are those of both lists
--   read_one, judged_one, done_one, stop_one, then_one   each step is so, and steps that are put together
use Rattle.std.proofs.Common.{◌≡◌, ◌≤◌, ◌<◌, ℕ, List, [], ◌∷◌, ◌++◌, length, Result, Ok, Err, Option, None, Some, ◌⊎◌, inl, inr, refl, sym, ap, ◌∙◌, subst, arith}
use Rattle.std.specs.Prelude.{IsSomeAnd}
use Rattle.flow_base.specs.Outside.{Files}
use Rattle.command_plans.specs.declared.reading.Role.{Role}
use Rattle.command_plans.specs.Outcome.{Cause, Usage, Source, Example, Unbounded, No, Unread, Outcome, LinesAgree, AreAlike, IsOfFiles, unread_of, refused}
use Rattle.command_plans.specs.Log.{Log, log_with, log_after, GrewAlike}
use Rattle.command_plans.specs.Roles.{unread}
use Rattle.command_plans.specs.Steps.{Steps, read_steps, judged_steps, done_steps, stop_steps, then_steps}

-- whatever was read before, told files have one value, or outcomes that are alike, and the same names are read, but for
-- failed reads
pub record IsOne {A : Type 0} (w : Steps A) : Type 0 where
  pub gives : (files : Files) (p q : Log) (a b : A) (m n : Log) → w.Gives (Some files) p a m
      → w.Gives (Some files) q b n → (a ≡ b) × GrewAlike p m q n
  pub stops : (files : Files) (p q : Log) (x y : Outcome) (m n : Log) → IsOfFiles x → IsOfFiles y
      → w.Stops (Some files) p x m → w.Stops (Some files) q y n → AreAlike x y × GrewAlike p m q n
  pub apart : (files : Files) (p q : Log) (a : A) (x : Outcome) (m n : Log) → IsOfFiles x → w.Gives (Some files) p a m
      → w.Stops (Some files) q x n → ⊥

-- ---- logs that grow alike

-- nothing was read
still : (p m q n : Log) → m ≡ p → n ≡ q → GrewAlike p m q n
still p m q n e f = record { names = []; first = e; second = f }

-- one file was read
one_more : (file : List ℕ) (p m q n : Log) → m ≡ log_with p file → n ≡ log_with q file → GrewAlike p m q n
one_more file p m q n e f = record { names = file ∷ []; first = e; second = f }

-- reads of some names and then of others are those of both lists
pub log_through : (log : Log) (xs ys : List (List ℕ)) → log_after log (xs ++ ys) ≡ log_after (log_after log xs) ys
log_through log [] ys = refl
log_through log (x ∷ xs) ys = log_through (log_with log x) xs ys

-- the one after the other
grown : (p m l q n o : Log) → GrewAlike p m q n → GrewAlike m l n o → GrewAlike p l q o
grown p m l q n o g h = record {
  names = g.names ++ h.names;
  first = h.first ∙ ap (λ (x : Log). log_after x h.names) g.first ∙ sym (log_through p g.names h.names);
  second = h.second ∙ ap (λ (x : Log). log_after x h.names) g.second ∙ sym (log_through q g.names h.names);
}

-- ---- outcomes that are alike

agree : (cause : Cause) (a b : List ℕ) → a ≡ b → LinesAgree cause a b
agree Usage a b e = e
agree Source a b e = e
agree Example a b e = tt
agree Unbounded a b e = e
agree No a b e = e
agree (Unread name) a b e = e

-- an outcome is like itself
pub alike : (x y : Outcome) → x ≡ y → AreAlike x y
alike x y e = record { same_cause = ap (λ (o : Outcome). o.cause) e; lines = agree x.cause x.text y.text (ap (λ (o : Outcome). o.text) e) }

-- ---- each has one value, or outcomes that are alike

some_is : {A : Type 0} {x y : A} → Some x ≡ Some y → x ≡ y
some_is e = cc

module _ (role : Role) (file : List ℕ) (limit : ℕ) (line : List ℕ) where
  -- a failed read is none of the outcomes of files
  failed_not : (x : Outcome) → IsOfFiles x → x ≡ unread role file → ⊥
  failed_not x r e = let f : Some file ≡ None = sym (ap (λ (o : Outcome). unread_of o.cause) e) ∙ r in cc

  -- a file is not both within the limit and too long
  long_not : (held : Option (List ℕ)) (bytes : List ℕ) → held ≡ Some bytes → length bytes ≤ limit
      → IsSomeAnd held (λ bytes. limit < length bytes) → ⊥
  long_not None bytes e le h = h
  long_not (Some other) bytes e le h = let f : other ≡ bytes = some_is e in omega (arith, ap (λ (l : List ℕ). length l) f)

  pub read_one : IsOne (read_steps role file limit line)
  read_one = record {
    gives = λ files p q a b m n g h. (some_is (sym g.2 ∙ h.2), one_more file p m q n g.0 h.0);
    stops = λ files p q x y m n r s g h. (alike x y (both x y r s g.1 h.1), one_more file p m q n g.0 h.0);
    apart = λ files p q a x m n r g h. not_both files a x r g.1 g.2 h.1;
  }
    where
      both : {P Q : Type 0} (x y : Outcome) → IsOfFiles x → IsOfFiles y
          → (x ≡ unread role file) ⊎ ((x ≡ refused line) × P)
          → (y ≡ unread role file) ⊎ ((y ≡ refused line) × Q) → x ≡ y
      both x y r s (inl e) h = absurd (failed_not x r e)
      both x y r s (inr g) (inl e) = absurd (failed_not y s e)
      both x y r s (inr g) (inr h) = g.0 ∙ sym h.0

      not_both : (files : Files) (a : List ℕ) (x : Outcome) → IsOfFiles x → length a ≤ limit → files file ≡ Some a
          → (x ≡ unread role file) ⊎ ((x ≡ refused line) × IsSomeAnd (files file) (λ bytes. limit < length bytes)) → ⊥
      not_both files a x r le e (inl f) = failed_not x r f
      not_both files a x r le e (inr h) = long_not (files file) a e le h.1

pub judged_one : {A : Type 0} (Means : Result A Outcome → Type 0) → IsOne (judged_steps Means)
judged_one Means = record {
  gives = λ files p q a b m n g h. (g.0.only (Ok b) h.0.means, still p m q n g.1 h.1);
  stops = λ files p q x y m n r s g h. (g.0.only (Err y) h.0.means, still p m q n g.1 h.1);
  apart = λ files p q a x m n r g h. g.0.only (Err x) h.0.means;
}

pub done_one : {A : Type 0} (a : A) → IsOne (done_steps a)
done_one a = record {
  gives = λ files p q x y m n g h. (g.0 ∙ sym h.0, still p m q n g.1 h.1);
  stops = λ files p q x y m n r s g h. absurd g;
  apart = λ files p q b x m n r g h. h;
}

pub stop_one : {A : Type 0} (o : Outcome) → IsOne (stop_steps {A = A} o)
stop_one o = record {
  gives = λ files p q x y m n g h. absurd g;
  stops = λ files p q x y m n r s g h. (alike x y (g.0 ∙ sym h.0), still p m q n g.1 h.1);
  apart = λ files p q b x m n r g h. g;
}

module _ {A B : Type 0} {w : Steps A} {k : A → Steps B} (hw : IsOne w) (hk : (a : A) → IsOne (k a)) where
  then_gives : (files : Files) (p q : Log) (x y : B) (m n : Log) → (then_steps w k).Gives (Some files) p x m
      → (then_steps w k).Gives (Some files) q y n
      → (x ≡ y) × GrewAlike p m q n
  then_gives files p q x y m n (a, l, g, g') (b, o, h, h') =
      let first = hw.gives files p q a b l o g h in
      let next = (hk a).gives files l o x y m n g' (subst (λ (c : A). (k c).Gives (Some files) o y n) (sym first.0) h') in
      (next.0, grown p l m q o n first.1 next.1)

  then_stops : (files : Files) (p q : Log) (x y : Outcome) (m n : Log) → IsOfFiles x → IsOfFiles y
      → (then_steps w k).Stops (Some files) p x m → (then_steps w k).Stops (Some files) q y n → AreAlike x y × GrewAlike p m q n
  then_stops files p q x y m n r s (inl g) (inl h) = hw.stops files p q x y m n r s g h
  then_stops files p q x y m n r s (inl g) (inr h) = absurd (hw.apart files q p h.0 x h.1 m r h.2 g)
  then_stops files p q x y m n r s (inr g) (inl h) = absurd (hw.apart files p q g.0 y g.1 n s g.2 h)
  then_stops files p q x y m n r s (inr (a, l, g, g')) (inr (b, o, h, h')) =
      let first = hw.gives files p q a b l o g h in
      let next = (hk a).stops files l o x y m n r s g' (subst (λ (c : A). (k c).Stops (Some files) o y n) (sym first.0) h') in
      (next.0, grown p l m q o n first.1 next.1)

  then_apart : (files : Files) (p q : Log) (b : B) (x : Outcome) (m n : Log) → IsOfFiles x
      → (then_steps w k).Gives (Some files) p b m → (then_steps w k).Stops (Some files) q x n → ⊥
  then_apart files p q b x m n r g (inl h) = hw.apart files p q g.0 x g.1 n r g.2 h
  then_apart files p q b x m n r (a, l, g, g') (inr (c, o, h, h')) =
      let first = hw.gives files p q a c l o g h in
      (hk a).apart files l o b x m n r g' (subst (λ (d : A). (k d).Stops (Some files) o x n) (sym first.0) h')

  pub then_one : IsOne (then_steps w k)
  then_one = record { gives = then_gives; stops = then_stops; apart = then_apart }
