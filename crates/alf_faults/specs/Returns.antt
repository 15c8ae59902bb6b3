-- Returns of a function, and calls that must agree with the first of them.
--   first_return items          the first return of these items, if there is one
--   agrees has_result return    a call with or without a result agrees with the return
--   is_before p m k i           item m of function p stands before item i of function k in the text
--   is_breach name return k p m item   the item, item m of function p, is a call of the function of this name that stands before its return in function k, and does not agree with it
use Rattle.std.specs.Prelude.{ℕ, ◌+◌, ◌==◌, Bool, true, false, not, ◌&&◌, ◌||◌, nat_lt, List, [], ◌∷◌, Option, Some, None, is_some, map}
use Rattle.std.specs.Option.{option_or}
use Rattle.std.specs.Str.{bytes_eq}
use Rattle.alf_program.specs.declared.program.Func.{Func}
use Rattle.alf_program.specs.Tree.{function_of, NamedExpression, Null, Store, Jump, Switch, Call, Return, BodyItem, Label, Do, Function}
use Rattle.alf_faults.specs.Fault.{any_from}
use Rattle.alf_faults.specs.TermSizes.{return_size, is_bytes}
use Rattle.alf_faults.specs.declared.returns.FirstReturn.{FirstReturn}

-- the return that is this item
abbrev pub return_at : ℕ → Option NamedExpression → FirstReturn
return_at i value = record { item = i; has_value = is_some value; size = return_size value }

-- the return that the item is, if it is one
abbrev pub return_of : ℕ → BodyItem → Option FirstReturn
return_of i (Label name) = None
return_of i (Do Null) = None
return_of i (Do (Store at value)) = None
return_of i (Do (Jump label)) = None
return_of i (Do (Switch value targets others)) = None
return_of i (Do (Call label args result)) = None
return_of i (Do (Return value)) = Some (return_at i value)

-- the first return of these items, of which the first has number i
abbrev pub first_return_from : ℕ → List BodyItem → Option FirstReturn
first_return_from i [] = None
first_return_from i (item ∷ items) = option_or (return_of i item) (first_return_from (i + 1) items)

abbrev pub first_return : List BodyItem → Option FirstReturn
first_return items = first_return_from 0 items

-- a call with a result wants an expression of whole bytes, and one without wants none
abbrev pub agrees : Bool → FirstReturn → Bool
agrees true return = return.has_value && is_bytes return.size
agrees false return = not return.has_value

-- item m of function p stands before item i of function k
abbrev pub is_before : ℕ → ℕ → ℕ → ℕ → Bool
is_before p m k i = nat_lt p k || ((p == k) && nat_lt m i)

-- the item is a call of this name that does not agree with the return
abbrev pub is_disagreeing : List ℕ → FirstReturn → BodyItem → Bool
is_disagreeing name return (Label label) = false
is_disagreeing name return (Do Null) = false
is_disagreeing name return (Do (Store at value)) = false
is_disagreeing name return (Do (Jump label)) = false
is_disagreeing name return (Do (Switch value targets others)) = false
is_disagreeing name return (Do (Call label args result)) = bytes_eq label name && not (agrees (is_some result) return)
is_disagreeing name return (Do (Return value)) = false

-- item m of function p is such a call, and stands before the return in function k
abbrev pub is_breach : List ℕ → FirstReturn → ℕ → ℕ → ℕ → BodyItem → Bool
is_breach name return k p m item = is_before p m k return.item && is_disagreeing name return item

-- one of the items of function p is
abbrev pub has_breach : List ℕ → FirstReturn → ℕ → ℕ → List BodyItem → Bool
has_breach name return k p items = any_from (is_breach name return k p) 0 items

abbrev pub function_has_breach : List ℕ → FirstReturn → ℕ → ℕ → Function → Bool
function_has_breach name return k p func = has_breach name return k p func.items

-- a call that stands before the return of this name in function k does not agree with it
abbrev pub is_breached : List Function → List ℕ → FirstReturn → ℕ → Bool
is_breached funcs name return k = any_from (function_has_breach name return k) 0 funcs

-- the first return of each function
abbrev pub returns_of : List Func → List (Option FirstReturn)
returns_of funcs = map (λ func. first_return (function_of func).items) funcs
