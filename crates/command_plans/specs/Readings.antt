-- What work was made of: the bytes that were read, also where nothing tells what files hold.
--   Reading                 a name, and the bytes that a read of it gave
--   HoldRead files readings     the files hold them
--   IsMadeOf told before after names Over    these names were read, each with some bytes, and over all files that hold them this is true as well
--   IsReadAlone steps       what steps give, and how they stop, is so over all files that hold what was read
--   still_made, one_made, widened, over_told, both_made   where nothing was read or one file, and what follows of it
--   read_alone, judged_alone, done_alone, stop_alone, then_alone   each step is so, and steps that are put together
use Rattle.std.proofs.Common.{◌≡◌, ◌<◌, ℕ, List, [], ◌∷◌, ◌++◌, length, map, Result, Option, None, Some, inl, inr, refl, sym, ap, ◌∙◌, subst, arith}
use Rattle.std.specs.Prelude.{◌+◌, All, IfSome, IsSomeAnd, replicate}
use Rattle.std.proofs.lemmas.List.{length-replicate, map-append}
use Rattle.std.proofs.lemmas.List.Elements.{All-append, All-cons, All-head, All-nil, All-tail}
use Rattle.flow_base.specs.Outside.{Files}
use Rattle.command_plans.specs.declared.reading.Role.{Role}
use Rattle.command_plans.specs.Outcome.{Outcome, IsOfFiles, unread_of}
use Rattle.command_plans.specs.Log.{Log, log_with, log_after}
use Rattle.command_plans.specs.OneAnswer.{log_through}
use Rattle.command_plans.specs.Roles.{unread}
use Rattle.command_plans.specs.Steps.{Steps, read_steps, judged_steps, done_steps, stop_steps, then_steps}

-- a name, and the bytes that a read of it gave
pub record Reading : Type 0 where
  pub name : List ℕ
  pub bytes : List ℕ

-- the files hold what was read under a name
abbrev pub HoldsReading : Files → Reading → Type 0
HoldsReading files reading = files reading.name ≡ Some reading.bytes

abbrev pub HoldRead : Files → List Reading → Type 0
HoldRead files readings = All (HoldsReading files) readings

-- the names were read in this order, each with some bytes, which told files hold; and over all files that hold them this
-- is true as well
pub record IsMadeOf (told : Option Files) (before after : Log) (names : List (List ℕ)) (Over : Files → Type 0) : Type 0 where
  pub readings : List Reading
  pub named : map (λ (r : Reading). r.name) readings ≡ names
  pub reads : after ≡ log_after before names
  pub held : IfSome told (λ files. HoldRead files readings)
  pub over : (files : Files) → HoldRead files readings → Over files

-- it comes to the same whatever was read before, and is made of the names that it reads
pub record IsOfNames (told : Option Files) (before after : Log) (Comes : Option Files → Log → Log → Type 0) : Type 0 where
  pub names : List (List ℕ)
  pub anyhow : (log : Log) → Comes told log (log_after log names)
  pub made : IsMadeOf told before after names (λ files. (log : Log) → Comes (Some files) log (log_after log names))

-- what is given, and a stop that tells no failed read, is made of what was read
pub record IsReadAlone {A : Type 0} (w : Steps A) : Type 0 where
  pub gives : (told : Option Files) (before : Log) (a : A) (after : Log) → w.Gives told before a after
      → IsOfNames told before after (λ files log later. w.Gives files log a later)
  pub stops : (told : Option Files) (before : Log) (outcome : Outcome) (after : Log) → IsOfFiles outcome
      → w.Stops told before outcome after → IsOfNames told before after (λ files log later. w.Stops files log outcome later)

-- ---- nothing was read

none_held : (told : Option Files) → IfSome told (λ files. HoldRead files [])
none_held None = tt
none_held (Some files) = All-nil (HoldsReading files)

pub still_made : (told : Option Files) (before after : Log) (Over : Files → Type 0) → after ≡ before
    → ((files : Files) → Over files) → IsMadeOf told before after [] Over
still_made told before after Over same over = record { readings = []; named = refl; reads = same; held = none_held told; over = λ files held. over files }

-- ---- one file was read

one_held : (told : Option Files) (file bytes : List ℕ) → IfSome told (λ files. files file ≡ Some bytes)
    → IfSome told (λ files. HoldRead files (record { name = file; bytes = bytes } ∷ []))
one_held None file bytes h = tt
one_held (Some files) file bytes h = All-cons (HoldsReading files) (record { name = file; bytes = bytes }) [] h (All-nil (HoldsReading files))

pub one_made : (told : Option Files) (before after : Log) (file bytes : List ℕ) (Over : Files → Type 0) → after ≡ log_with before file
    → IfSome told (λ files. files file ≡ Some bytes) → ((files : Files) → files file ≡ Some bytes → Over files)
    → IsMadeOf told before after (file ∷ []) Over
one_made told before after file bytes Over same held over = record {
  readings = record { name = file; bytes = bytes } ∷ [];
  named = refl;
  reads = same;
  held = one_held told file bytes held;
  over = λ files h. over files (All-head (HoldsReading files) (record { name = file; bytes = bytes }) [] h);
}

module _ (role : Role) (file : List ℕ) (limit : ℕ) (line : List ℕ) where
  -- more bytes than the limit: those of the file where it is told, and else any
  too_many : (told : Option Files) → IfSome told (λ files. IsSomeAnd (files file) (λ bytes. limit < length bytes))
      → (bytes : List ℕ) × (limit < length bytes) × IfSome told (λ files. files file ≡ Some bytes)
  too_many None h =
      let zero_byte : ℕ = 0 in
      (replicate (limit + 1) zero_byte, omega (arith, length-replicate (limit + 1) zero_byte), tt)
  too_many (Some files) h = found (files file) refl h
    where
      found : (held : Option (List ℕ)) → files file ≡ held → IsSomeAnd held (λ bytes. limit < length bytes)
          → (bytes : List ℕ) × (limit < length bytes) × (files file ≡ Some bytes)
      found (Some bytes) is long = (bytes, long, is)
      found None is h = absurd h

  -- a failed read is none of the outcomes of files
  no_failed : (outcome : Outcome) → IsOfFiles outcome → outcome ≡ unread role file → ⊥
  no_failed outcome of e = let f : Some file ≡ None = sym (ap (λ (o : Outcome). unread_of o.cause) e) ∙ of in cc

  long_held : (files : Files) (bytes : List ℕ) → limit < length bytes → files file ≡ Some bytes
      → IsSomeAnd (files file) (λ b. limit < length b)
  long_held files bytes long is = subst (λ (held : Option (List ℕ)). IsSomeAnd held (λ b. limit < length b)) (sym is) long

  abbrev steps : Steps (List ℕ)
  steps = read_steps role file limit line

  gives_alone : (told : Option Files) (before : Log) (bytes : List ℕ) (after : Log) → steps.Gives told before bytes after
      → IsOfNames told before after (λ files log later. steps.Gives files log bytes later)
  gives_alone told before bytes after (same, few, held) = record {
    names = file ∷ [];
    anyhow = λ log. (refl, few, held);
    made = one_made told before after file bytes (λ files. (log : Log) → steps.Gives (Some files) log bytes (log_with log file)) same held (λ files is log. (refl, few, is));
  }

  stops_alone : (told : Option Files) (before : Log) (outcome : Outcome) (after : Log) → IsOfFiles outcome
      → steps.Stops told before outcome after → IsOfNames told before after (λ files log later. steps.Stops files log outcome later)
  stops_alone told before outcome after of (same, inl e) = absurd (no_failed outcome of e)
  stops_alone told before outcome after of (same, inr (is, long)) =
      let (bytes, more, held) = too_many told long in
      record {
        names = file ∷ [];
        anyhow = λ log. (refl, inr (is, long));
        made = one_made told before after file bytes (λ files. (log : Log) → steps.Stops (Some files) log outcome (log_with log file)) same held
            (λ files here log. (refl, inr (is, long_held files bytes more here)));
      }

  pub read_alone : IsReadAlone (read_steps role file limit line)
  read_alone = record { gives = gives_alone; stops = stops_alone }

-- ---- what follows

pub widened : (told : Option Files) (before after : Log) (names : List (List ℕ)) (P Q : Files → Type 0) → ((files : Files) → P files → Q files)
    → IsMadeOf told before after names P → IsMadeOf told before after names Q
widened told before after names P Q f g =
    record { readings = g.readings; named = g.named; reads = g.reads; held = g.held; over = λ files held. f files (g.over files held) }

-- so it is over the files that are told, where they are
pub over_told : (told : Option Files) (before after : Log) (names : List (List ℕ)) (Over : Files → Type 0) → IsMadeOf told before after names Over → IfSome told Over
over_told None before after names Over g = tt
over_told (Some files) before after names Over g = g.over files g.held

-- ---- nothing else is read

pub judged_alone : {A : Type 0} (Means : Result A Outcome → Type 0) → IsReadAlone (judged_steps Means)
judged_alone Means = record {
  gives = λ told before a after g. record {
    names = [];
    anyhow = λ log. (g.0, refl);
    made = still_made told before after (λ files. (log : Log) → (judged_steps Means).Gives (Some files) log a log) g.1 (λ files log. (g.0, refl));
  };
  stops = λ told before outcome after of g. record {
    names = [];
    anyhow = λ log. (g.0, refl);
    made = still_made told before after (λ files. (log : Log) → (judged_steps Means).Stops (Some files) log outcome log) g.1 (λ files log. (g.0, refl));
  };
}

pub done_alone : {A : Type 0} (a : A) → IsReadAlone (done_steps a)
done_alone a = record {
  gives = λ told before b after g. record {
    names = [];
    anyhow = λ log. (g.0, refl);
    made = still_made told before after (λ files. (log : Log) → (done_steps a).Gives (Some files) log b log) g.1 (λ files log. (g.0, refl));
  };
  stops = λ told before outcome after of g. absurd g;
}

pub stop_alone : {A : Type 0} (o : Outcome) → IsReadAlone (stop_steps {A = A} o)
stop_alone {A = A} o = record {
  gives = λ told before b after g. absurd g;
  stops = λ told before outcome after of g. record {
    names = [];
    anyhow = λ log. (g.0, refl);
    made = still_made told before after (λ files. (log : Log) → (stop_steps {A = A} o).Stops (Some files) log outcome log) g.1 (λ files log. (g.0, refl));
  };
}

-- ---- one after the other

first_held : (files : Files) (xs ys : List Reading) → HoldRead files (xs ++ ys) → HoldRead files xs
first_held files [] ys h = All-nil (HoldsReading files)
first_held files (x ∷ xs) ys h = All-cons (HoldsReading files) x xs (All-head (HoldsReading files) x (xs ++ ys) h) (first_held files xs ys (All-tail (HoldsReading files) x (xs ++ ys) h))

rest_held : (files : Files) (xs ys : List Reading) → HoldRead files (xs ++ ys) → HoldRead files ys
rest_held files [] ys h = h
rest_held files (x ∷ xs) ys h = rest_held files xs ys (All-tail (HoldsReading files) x (xs ++ ys) h)

both_held : (told : Option Files) (xs ys : List Reading) → IfSome told (λ files. HoldRead files xs)
    → IfSome told (λ files. HoldRead files ys) → IfSome told (λ files. HoldRead files (xs ++ ys))
both_held None xs ys g h = tt
both_held (Some files) xs ys g h = All-append (HoldsReading files) xs ys g h

pub both_made : (told : Option Files) (p m n : Log) (first next : List (List ℕ)) (First Next Over : Files → Type 0)
    → IsMadeOf told p m first First → IsMadeOf told m n next Next
    → ((files : Files) → First files → Next files → Over files) → IsMadeOf told p n (first ++ next) Over
both_made told p m n first next First Next Over g h both = record {
  readings = g.readings ++ h.readings;
  named = map-append (λ (r : Reading). r.name) g.readings h.readings ∙ ap (λ (names : List (List ℕ)). names ++ map (λ (r : Reading). r.name) h.readings) g.named ∙ ap (λ (names : List (List ℕ)). first ++ names) h.named;
  reads = h.reads ∙ ap (λ (log : Log). log_after log next) g.reads ∙ sym (log_through p first next);
  held = both_held told g.readings h.readings g.held h.held;
  over = λ files held. both files (g.over files (first_held files g.readings h.readings held)) (h.over files (rest_held files g.readings h.readings held));
}

module _ {A B : Type 0} {w : Steps A} {k : A → Steps B} (hw : IsReadAlone w) (hk : (a : A) → IsReadAlone (k a)) where
  then_gives : (told : Option Files) (before : Log) (b : B) (after : Log) → (then_steps w k).Gives told before b after
      → IsOfNames told before after (λ files log later. (then_steps w k).Gives files log b later)
  then_gives told before b after (a, mid, g, h) =
      let one = hw.gives told before a mid g in
      let two = (hk a).gives told mid b after h in
      record {
        names = one.names ++ two.names;
        anyhow = λ log. (a, log_after log one.names, one.anyhow log, subst (λ (later : Log). (k a).Gives told (log_after log one.names) b later) (sym (log_through log one.names two.names)) (two.anyhow (log_after log one.names)));
        made = both_made told before mid after one.names two.names (λ files. (log : Log) → w.Gives (Some files) log a (log_after log one.names))
            (λ files. (log : Log) → (k a).Gives (Some files) log b (log_after log two.names))
            (λ files. (log : Log) → (then_steps w k).Gives (Some files) log b (log_after log (one.names ++ two.names))) one.made two.made
            (λ files x y log. (a, log_after log one.names, x log, subst (λ (later : Log). (k a).Gives (Some files) (log_after log one.names) b later) (sym (log_through log one.names two.names)) (y (log_after log one.names))));
      }

  then_stops : (told : Option Files) (before : Log) (outcome : Outcome) (after : Log) → IsOfFiles outcome → (then_steps w k).Stops told before outcome after
      → IsOfNames told before after (λ files log later. (then_steps w k).Stops files log outcome later)
  then_stops told before outcome after of (inl g) =
      let one = hw.stops told before outcome after of g in
      record {
        names = one.names;
        anyhow = λ log. inl (one.anyhow log);
        made = widened told before after one.names (λ files. (log : Log) → w.Stops (Some files) log outcome (log_after log one.names))
            (λ files. (log : Log) → (then_steps w k).Stops (Some files) log outcome (log_after log one.names)) (λ files x log. inl (x log)) one.made;
      }
  then_stops told before outcome after of (inr (a, mid, g, h)) =
      let one = hw.gives told before a mid g in
      let two = (hk a).stops told mid outcome after of h in
      record {
        names = one.names ++ two.names;
        anyhow = λ log. inr (a, log_after log one.names, one.anyhow log, subst (λ (later : Log). (k a).Stops told (log_after log one.names) outcome later) (sym (log_through log one.names two.names)) (two.anyhow (log_after log one.names)));
        made = both_made told before mid after one.names two.names (λ files. (log : Log) → w.Gives (Some files) log a (log_after log one.names))
            (λ files. (log : Log) → (k a).Stops (Some files) log outcome (log_after log two.names))
            (λ files. (log : Log) → (then_steps w k).Stops (Some files) log outcome (log_after log (one.names ++ two.names))) one.made two.made
            (λ files x y log. inr (a, log_after log one.names, x log, subst (λ (later : Log). (k a).Stops (Some files) (log_after log one.names) outcome later) (sym (log_through log one.names two.names)) (y (log_after log one.names))));
      }

  pub then_alone : IsReadAlone (then_steps w k)
  then_alone = record { gives = then_gives; stops = then_stops }
