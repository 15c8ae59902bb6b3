-- What holds of the parts of a condition holds of what an operator makes of them.
--   by_unary_both, by_binary_both   two things by cases on one operator are related where they are in each case
use Rattle.c_unit.specs.declared.expression.Unary.{Unary}
use Rattle.c_unit.specs.declared.expression.Unary.TheVariants as unary
use Rattle.c_unit.specs.declared.expression.Binary.{Binary}
use Rattle.c_unit.specs.declared.expression.Binary.TheVariants as binary
use Rattle.c_lowered.specs.Conditions.{by_unary, by_binary}

pub by_unary_both : {A B : Type 0} (P : A → B → Type 0) (op : Unary) (a c : A) (b d : B) → P a b → P c d
    → P (by_unary op a c) (by_unary op b d)
by_unary_both P unary.Not a c b d negated plain = negated
by_unary_both P unary.Complement a c b d negated plain = plain
by_unary_both P unary.Minus a c b d negated plain = plain
by_unary_both P unary.Plus a c b d negated plain = plain
by_unary_both P unary.Load a c b d negated plain = plain
by_unary_both P unary.Address a c b d negated plain = plain

pub by_binary_both : {A B : Type 0} (P : A → B → Type 0) (op : Binary) (a c e : A) (b d f : B) → P a b → P c d → P e f
    → P (by_binary op a c e) (by_binary op b d f)
by_binary_both P binary.Multiply a c e b d f both either plain = plain
by_binary_both P binary.Divide a c e b d f both either plain = plain
by_binary_both P binary.Remainder a c e b d f both either plain = plain
by_binary_both P binary.Add a c e b d f both either plain = plain
by_binary_both P binary.Subtract a c e b d f both either plain = plain
by_binary_both P binary.ShiftLeft a c e b d f both either plain = plain
by_binary_both P binary.ShiftRight a c e b d f both either plain = plain
by_binary_both P binary.Less a c e b d f both either plain = plain
by_binary_both P binary.Greater a c e b d f both either plain = plain
by_binary_both P binary.AtMost a c e b d f both either plain = plain
by_binary_both P binary.AtLeast a c e b d f both either plain = plain
by_binary_both P binary.Equal a c e b d f both either plain = plain
by_binary_both P binary.Unequal a c e b d f both either plain = plain
by_binary_both P binary.And a c e b d f both either plain = plain
by_binary_both P binary.Xor a c e b d f both either plain = plain
by_binary_both P binary.Or a c e b d f both either plain = plain
by_binary_both P binary.Both a c e b d f both either plain = both
by_binary_both P binary.Either a c e b d f both either plain = either
