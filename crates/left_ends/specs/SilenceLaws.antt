-- Laws of silence.
use Rattle.std.proofs.Common.{arith}
use Rattle.domain_core.specs.Orders.{IsOrder}
use Rattle.domain_core.specs.Recordings.{IsRecording}
use Rattle.left_ends.specs.Silence.{silent_order, silent_recording}

pub silent_is_order : IsOrder (Unit {0}) silent_order
silent_is_order = record { itself = λ a. tt; farther = λ a b c h k. tt; left = λ a b h. tt; right = λ a b h. tt }

pub silent_is_recording : IsRecording (Unit {0}) (Unit {0}) silent_order silent_recording
silent_is_recording = record {
  first_is_of = λ o suited. tt;
  first_length = λ o suited. omega arith;
  first_book_is_of = λ o suited. tt;
  gone_is_of = λ o r b n k is edge low. record { suited = is.suited; recorder = tt; book = tt };
  gone_length = λ o r b n k is edge low. omega arith;
  finished_is_of = λ o r b n is low. tt;
  alike = λ o r s suited of_r of_s. tt;
  joined_is_of = λ o r s suited of_r of_s. tt;
  joined_length = λ r s same. omega arith;
  grows_itself = λ b. tt;
  grows_farther = λ a b c first second. tt;
  gone_grows = λ o r b n k is edge low. tt;
  finished_grows = λ o r b n is low. tt;
  covers_grown = λ o r a b past grows covered. tt;
  sums_up_grown = λ o a b past grows summed. tt;
  above_covers = λ o r s b past under covered. tt;
  first_covers = λ o b suited its. tt;
  gone_covers = λ o r b n k past is walk covered. tt;
  finished_covers = λ o r b n past is walk covered. tt;
  first_sharp = λ o suited. tt;
  gone_sharp = λ o r b n k past is walk sharp. tt;
  finished_sharp = λ o r b n past is walk sharp. tt;
}
