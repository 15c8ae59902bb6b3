-- What two recorders side by side state, from what each states.
--   both_order a b       side by side
--   both_recording a b   the outlines that suit both, and the greater of both lengths
use Rattle.std.specs.Prelude.{max}
use Rattle.domain_core.specs.Orders.{Order}
use Rattle.domain_core.specs.Recordings.{Recording}
use Rattle.flow_recorders.specs.declared.both.Both.{Both}
use Rattle.flow_recorders.specs.declared.both.BothBook.{BothBook}

abbrev pub both_order : {X Y : Type 0} → Order X → Order Y → Order (Both X Y)
both_order a b = record {
  alike = λ r s. a.alike r.first s.first × b.alike r.second s.second;
  under = λ r s. a.under r.first s.first × b.under r.second s.second;
  joined = λ r s. record { first = a.joined r.first s.first; second = b.joined r.second s.second };
}

abbrev pub both_recording : {X Y P Q : Type 0} → Recording X P → Recording Y Q → Recording (Both X Y) (BothBook P Q)
both_recording a b = record {
  suits = λ o. a.suits o × b.suits o;
  is_of = λ o r. a.is_of o r.first × b.is_of o r.second;
  book_is_of = λ o k. a.book_is_of o k.first × b.book_is_of o k.second;
  length_of = λ r. max (a.length_of r.first) (b.length_of r.second);
  first = λ o. record { first = a.first o; second = b.first o };
  first_book = λ o. record { first = a.first_book o; second = b.first_book o };
  gone = λ o r k n m. record { first = a.gone o r.first k.first n m; second = b.gone o r.second k.second n m };
  gone_book = λ o r k n m. record { first = a.gone_book o r.first k.first n m; second = b.gone_book o r.second k.second n m };
  finished = λ o r k n. record { first = a.finished o r.first k.first n; second = b.finished o r.second k.second n };
  covers = λ o r k past. a.covers o r.first k.first past × b.covers o r.second k.second past;
  sums_up = λ o k past. a.sums_up o k.first past × b.sums_up o k.second past;
  sharp = λ o r k past. a.sharp o r.first k.first past × b.sharp o r.second k.second past;
  exact = λ o k past. a.exact o k.first past × b.exact o k.second past;
  grows = λ j k. a.grows j.first k.first × b.grows j.second k.second;
}
