-- A values file has one answer.
use Rattle.std.proofs.Common.{◌≡◌, ℕ, ℤ, List, length, Option, Some, Ok, Err, refl, sym, ap, ◌∙◌}
use Rattle.std.proofs.lemmas.Option.{none-some, same_Some}
use Rattle.toml.specs.Data.{Members}
use Rattle.cost_table.specs.RunValues.{told_values, MeansValues, IsWrongValues, NoValues, OtherCount, HasWrongValues, NoDocument, WrongTop}
use Rattle.cost_table.specs.Laws.{ValuesHaveOneAnswer}

not_wrong : {n : ℕ} {t : Option (List ℤ)} (numbers : List ℤ) → t ≡ Some numbers → length numbers ≡ n → IsWrongValues n t
    → ⊥
not_wrong numbers is count NoValues = none-some numbers is
not_wrong numbers is count (OtherCount others differ) = differ (ap (λ (xs : List ℤ). length xs) (same_Some others numbers is) ∙ count)

means_not_wrong : (bytes : List ℕ) (n : ℕ) (numbers : List ℤ) → MeansValues bytes n numbers → HasWrongValues bytes n → ⊥
means_not_wrong bytes n numbers m wrong =
    not_wrong numbers (ap (λ (ms : Members). told_values ms) (same_Some wrong.members m.members (sym wrong.document.parsed ∙ m.document.parsed)) ∙ m.told) m.count wrong.wrong

pub values_one : ValuesHaveOneAnswer
values_one bytes n (Ok a) (Ok b) m k =
    ap (λ (xs : List ℤ). Ok xs) (same_Some a b (sym m.told ∙ ap (λ (ms : Members). told_values ms) (same_Some m.members k.members (sym m.document.parsed ∙ k.document.parsed)) ∙ k.told))
values_one bytes n (Ok a) (Err fault) m (NoDocument none) = absurd (none m.members m.document)
values_one bytes n (Ok a) (Err fault) m (WrongTop wrong) = absurd (means_not_wrong bytes n a m wrong)
values_one bytes n (Err fault) (Ok b) (NoDocument none) k = absurd (none k.members k.document)
values_one bytes n (Err fault) (Ok b) (WrongTop wrong) k = absurd (means_not_wrong bytes n b k wrong)
values_one bytes n (Err fault) (Err other) (NoDocument none) (NoDocument never) = refl
values_one bytes n (Err fault) (Err other) (NoDocument none) (WrongTop wrong) = absurd (none wrong.members wrong.document)
values_one bytes n (Err fault) (Err other) (WrongTop wrong) (NoDocument none) = absurd (none wrong.members wrong.document)
values_one bytes n (Err fault) (Err other) (WrongTop wrong) (WrongTop bad) = refl
