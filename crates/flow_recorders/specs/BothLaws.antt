-- The laws of two recorders side by side, from those of each.
use Rattle.std.proofs.Common.{◌≤◌, ◌+◌, max, arith, ℕ}
use Rattle.domain_core.specs.Orders.{Order, IsOrder}
use Rattle.domain_core.specs.Outlines.{Outlined}
use Rattle.domain_core.specs.Recordings.{Recording, IsRecording, IsSuited, IsOf}
use Rattle.flow_recorders.specs.declared.both.Both.{Both}
use Rattle.flow_recorders.specs.declared.both.BothBook.{BothBook}
use Rattle.flow_recorders.specs.BothRules.{both_order, both_recording}

pub both_is_order : {X Y : Type 0} (a : Order X) (b : Order Y) → IsOrder X a → IsOrder Y b
    → IsOrder (Both X Y) (both_order a b)
both_is_order a b l r = record {
  itself = λ x. (l.itself x.first, r.itself x.second);
  farther = λ x y z g h. (l.farther x.first y.first z.first g.0 h.0, r.farther x.second y.second z.second g.1 h.1);
  left = λ x y h. (l.left x.first y.first h.0, r.left x.second y.second h.1);
  right = λ x y h. (l.right x.first y.first h.0, r.right x.second y.second h.1);
}

module _ {X Y P Q : Type 0} (a : Recording X P) (b : Recording Y Q) (o : Outlined) where
  first_suited : IsSuited (both_recording a b) o → IsSuited a o
  first_suited h = record { suits = h.suits.0; kept = h.kept }

  second_suited : IsSuited (both_recording a b) o → IsSuited b o
  second_suited h = record { suits = h.suits.1; kept = h.kept }

  first_of : (r : Both X Y) (k : BothBook P Q) → IsOf (both_recording a b) o r k → IsOf a o r.first k.first
  first_of r k h = record { suited = first_suited h.suited; recorder = h.recorder.0; book = h.book.0 }

  second_of : (r : Both X Y) (k : BothBook P Q) → IsOf (both_recording a b) o r k → IsOf b o r.second k.second
  second_of r k h = record { suited = second_suited h.suited; recorder = h.recorder.1; book = h.book.1 }

  both_of : (r : Both X Y) (k : BothBook P Q) → IsSuited (both_recording a b) o → IsOf a o r.first k.first
      → IsOf b o r.second k.second → IsOf (both_recording a b) o r k
  both_of r k suited x y = record { suited = suited; recorder = (x.recorder, y.recorder); book = (x.book, y.book) }

-- the greater of two that are at most one more
max_more : (m n k l : ℕ) → m ≤ k + 1 → n ≤ l + 1 → max m n ≤ max k l + 1
max_more m n k l first second = omega arith

max_max : (m n a b c d : ℕ) → m ≤ max a b → n ≤ max c d → max m n ≤ max (max a c) (max b d)
max_max m n a b c d first second = omega arith

max_one : (m n : ℕ) → m ≤ 1 → n ≤ 1 → max m n ≤ 1
max_one m n first second = omega arith

pub both_is_recording : {X Y P Q : Type 0} (s : Order X) (t : Order Y) (a : Recording X P) (b : Recording Y Q)
    → IsRecording X P s a → IsRecording Y Q t b
    → IsRecording (Both X Y) (BothBook P Q) (both_order s t) (both_recording a b)
both_is_recording s t a b l r = record {
  first_is_of = λ o suited. (l.first_is_of o (first_suited a b o suited), r.first_is_of o (second_suited a b o suited));
  first_length = λ o suited. max_one (a.length_of (a.first o)) (b.length_of (b.first o)) (l.first_length o (first_suited a b o suited)) (r.first_length o (second_suited a b o suited));
  first_book_is_of = λ o suited. (l.first_book_is_of o (first_suited a b o suited), r.first_book_is_of o (second_suited a b o suited));
  gone_is_of = λ o q k n m is edge low. both_of a b o _ _ is.suited (l.gone_is_of o q.first k.first n m (first_of a b o q k is) edge low) (r.gone_is_of o q.second k.second n m (second_of a b o q k is) edge low);
  gone_length = λ o q k n m is edge low. max_more (a.length_of (a.gone o q.first k.first n m)) (b.length_of (b.gone o q.second k.second n m)) (a.length_of q.first) (b.length_of q.second)
      (l.gone_length o q.first k.first n m (first_of a b o q k is) edge low) (r.gone_length o q.second k.second n m (second_of a b o q k is) edge low);
  finished_is_of = λ o q k n is low. (l.finished_is_of o q.first k.first n (first_of a b o q k is) low, r.finished_is_of o q.second k.second n (second_of a b o q k is) low);
  alike = λ o p q suited of_p of_q. (l.alike o p.first q.first (first_suited a b o suited) of_p.0 of_q.0, r.alike o p.second q.second (second_suited a b o suited) of_p.1 of_q.1);
  joined_is_of = λ o p q suited of_p of_q. (l.joined_is_of o p.first q.first (first_suited a b o suited) of_p.0 of_q.0, r.joined_is_of o p.second q.second (second_suited a b o suited) of_p.1 of_q.1);
  joined_length = λ p q same. max_max (a.length_of (s.joined p.first q.first)) (b.length_of (t.joined p.second q.second)) (a.length_of p.first) (a.length_of q.first) (b.length_of p.second) (b.length_of q.second)
      (l.joined_length p.first q.first same.0) (r.joined_length p.second q.second same.1);
  grows_itself = λ k. (l.grows_itself k.first, r.grows_itself k.second);
  grows_farther = λ i j k g h. (l.grows_farther i.first j.first k.first g.0 h.0, r.grows_farther i.second j.second k.second g.1 h.1);
  gone_grows = λ o q k n m is edge low. (l.gone_grows o q.first k.first n m (first_of a b o q k is) edge low, r.gone_grows o q.second k.second n m (second_of a b o q k is) edge low);
  finished_grows = λ o q k n is low. (l.finished_grows o q.first k.first n (first_of a b o q k is) low, r.finished_grows o q.second k.second n (second_of a b o q k is) low);
  covers_grown = λ o q j k past g h. (l.covers_grown o q.first j.first k.first past g.0 h.0, r.covers_grown o q.second j.second k.second past g.1 h.1);
  sums_up_grown = λ o j k past g h. (l.sums_up_grown o j.first k.first past g.0 h.0, r.sums_up_grown o j.second k.second past g.1 h.1);
  above_covers = λ o p q k past u h. (l.above_covers o p.first q.first k.first past u.0 h.0, r.above_covers o p.second q.second k.second past u.1 h.1);
  first_covers = λ o k suited its. (l.first_covers o k.first (first_suited a b o suited) its.0, r.first_covers o k.second (second_suited a b o suited) its.1);
  gone_covers = λ o q k n m past is walk h. (l.gone_covers o q.first k.first n m past (first_of a b o q k is) walk h.0, r.gone_covers o q.second k.second n m past (second_of a b o q k is) walk h.1);
  finished_covers = λ o q k n past is walk h. (l.finished_covers o q.first k.first n past (first_of a b o q k is) walk h.0, r.finished_covers o q.second k.second n past (second_of a b o q k is) walk h.1);
  first_sharp = λ o suited. (l.first_sharp o (first_suited a b o suited), r.first_sharp o (second_suited a b o suited));
  gone_sharp = λ o q k n m past is walk h. (l.gone_sharp o q.first k.first n m past (first_of a b o q k is) walk h.0, r.gone_sharp o q.second k.second n m past (second_of a b o q k is) walk h.1);
  finished_sharp = λ o q k n past is walk h. (l.finished_sharp o q.first k.first n past (first_of a b o q k is) walk h.0, r.finished_sharp o q.second k.second n past (second_of a b o q k is) walk h.1);
}
