-- What a recorder keeps that keeps nothing.
use Rattle.domain_core.specs.Orders.{Order}
use Rattle.domain_core.specs.Recordings.{Recording}

abbrev pub silent_order : Order (Unit {0})
silent_order = record { alike = λ a b. Unit {0}; under = λ a b. Unit {0}; joined = λ a b. tt }

abbrev pub silent_recording : Recording (Unit {0}) (Unit {0})
silent_recording = record {
  suits = λ o. Unit {0};
  is_of = λ o r. Unit {0};
  book_is_of = λ o b. Unit {0};
  length_of = λ r. 0;
  first = λ o. tt;
  first_book = λ o. tt;
  gone = λ o r b n k. tt;
  gone_book = λ o r b n k. tt;
  finished = λ o r b n. tt;
  covers = λ o r b past. Unit {0};
  sums_up = λ o b past. Unit {0};
  sharp = λ o r b past. Unit {0};
  exact = λ o b past. Unit {0};
  grows = λ a b. Unit {0};
}
