-- A command that gets its arguments and subcommands one by one.
use Rattle.std.specs.Prelude.{◌≡◌, ℕ, Bool, false, ◌||◌, List, [], ◌∷◌, ◌++◌, map, length, ◌<◌, ◌≤◌, ◌+◌, take}
use Rattle.std.proofs.Common.{refl, sym, ap, ◌∙◌, append_assoc, append-nil, get_or, arith}
use Rattle.std.proofs.lemmas.List.{map_more, take_all}
use Rattle.clap.specs.Walk.{Rule}
use Rattle.clap.specs.Simple.{App, Shape, with_rule, with_subcommand, new_app, new_shape}
use Rattle.sweet_words.specs.Shapes.{with_rules, top, program_so_far, program_of, shape_in, has_none, positional_rule, value_rule, flag_rule}
use Rattle.sweet_words.specs.Views.{form_in, rule_at}
use Rattle.sweet_words.specs.declared.forms.Form.{Form as Row}
use Rattle.sweet_words.specs.declared.program.Place.TheVariants.{Positional, Value, Flag}
use Rattle.sweet_words.specs.Forms.{Form}

pub no_rule : (app : App) → app ≡ with_rules app []
no_rule app = ap (λ (rules : List Rule). record app { top = record app.top { rules = rules } }) (sym (append-nil app.top.rules))

pub one_rule : (first before now : App) (rules : List Rule) (rule : Rule) → before ≡ with_rules first rules
    → now ≡ with_rule before rule
    → now ≡ with_rules first (rules ++ rule ∷ [])
one_rule first before now rules rule had adds =
    adds ∙ ap (λ (a : App). with_rule a rule) had
    ∙ ap (λ (all : List Rule). record first { top = record first.top { rules = all } }) (append_assoc first.top.rules rules (rule ∷ []))

pub still_local : (before now was arg : Bool) → now ≡ (before || arg) → arg ≡ false → before ≡ was → now ≡ was
still_local before now was arg is none same = is ∙ ap (λ b. before || b) none ∙ go before ∙ same
  where
    go : (b : Bool) → (b || false) ≡ b
    go Rattle.std.specs.Prelude.true = refl
    go false = refl

-- the command after one more of the arguments
pub more_rules : {X : Type 0} (f : X → Rule) (names : List X) (i : ℕ) (d : X) (first before now : App) (rule : Rule)
    → i < length names
    → before ≡ with_rules first (map f (take i names)) → now ≡ with_rule before rule → rule ≡ f (get_or names i d) → now ≡ with_rules first (map f (take (i + 1) names))
more_rules f names i d first before now rule lt had adds is =
    one_rule first before now (map f (take i names)) rule had adds
    ∙ ap (λ (r : Rule). with_rules first (map f (take i names) ++ r ∷ [])) is
    ∙ ap (with_rules first) (sym (map_more f names i d lt))

-- the command after all of them
pub all_rules : {X : Type 0} (f : X → Rule) (names : List X) (i : ℕ) (first now : App) → length names ≤ i
    → now ≡ with_rules first (map f (take i names)) → now ≡ with_rules first (map f names)
all_rules f names i first now le had = had ∙ ap (λ (all : List _). with_rules first (map f all)) (take_all i names le)

-- the program after one more of the forms
pub more_forms : {X : Type 0} (f : X → Form) (table : List X) (i : ℕ) (d : X) (before now : App) (sub : Shape)
    → i < length table
    → before ≡ program_so_far (map f (take i table)) → now ≡ with_subcommand before sub → sub ≡ shape_in (f (get_or table i d)) → now ≡ program_so_far (map f (take (i + 1) table))
more_forms f table i d before now sub lt had adds is =
    adds ∙ ap (λ (a : App). with_subcommand a sub) had ∙ ap (with_subcommand (program_so_far (map f (take i table)))) is
    ∙ added (map f (take i table)) (f (get_or table i d)) ∙ ap program_so_far (sym (map_more f table i d lt))
  where
    shapes : (forms : List Form) (form : Form)
        → map shape_in forms ++ shape_in form ∷ [] ≡ map shape_in (forms ++ form ∷ [])
    shapes [] form = refl
    shapes (first ∷ forms) form = ap (λ all. shape_in first ∷ all) (shapes forms form)

    filled : (forms : List Form) (form : Form) → false ≡ has_none (forms ++ form ∷ [])
    filled [] form = refl
    filled (first ∷ forms) form = refl

    added : (forms : List Form) (form : Form)
        → with_subcommand (program_so_far forms) (shape_in form) ≡ program_so_far (forms ++ form ∷ [])
    added forms form = (λ i. record { top = record top { is_leaf = filled forms form i }; subs = shapes forms form i })

-- the program after all of them, of which there are some
pub all_forms : {X : Type 0} (f : X → Form) (table : List X) (i : ℕ) (now : App) → length table ≤ i → 0 < length table
    → now ≡ program_so_far (map f (take i table)) → now ≡ program_of (map f table)
all_forms f [] i now le some had = absurd (omega arith)
all_forms f (x ∷ table) i now le some had = had ∙ ap (λ (all : List _). program_so_far (map f all)) (take_all i (x ∷ table) le)

map_twice : {X Y Z : Type 0} (f : Y → Z) (g : X → Y) (xs : List X) → map (λ x. f (g x)) xs ≡ map f (map g xs)
map_twice f g [] = refl
map_twice f g (x ∷ xs) = ap (λ ys. f (g x) ∷ ys) (map_twice f g xs)

-- the arguments of a form, place by place
pub form_shape : (form : Row) (a b c d : App) → a ≡ new_app form.name.now
    → b ≡ with_rules a (map (λ name. rule_at Positional name.now) form.positionals.now)
    → c ≡ with_rules b (map (λ name. rule_at Value name.now) form.values.now) → d ≡ with_rules c (map (λ name. rule_at Flag name.now) form.flags.now) → d.top ≡ shape_in (form_in form)
form_shape form a b c d starts positionals values flags =
    let places = map (λ name. rule_at Positional name.now) form.positionals.now in
    let named = map (λ name. rule_at Value name.now) form.values.now in
    let alone = map (λ name. rule_at Flag name.now) form.flags.now in
    let shape : List Rule → Shape = λ all. record (new_shape form.name.now) { rules = all } in
    let is : d ≡ with_rules (with_rules (with_rules (new_app form.name.now) places) named) alone =
    flags ∙ ap (λ (x : App). with_rules x alone) (values ∙ ap (λ (x : App). with_rules x named) (positionals ∙ ap (λ (x : App). with_rules x places) starts)) in
    ap (λ (x : App). x.top) is ∙ ap shape (append_assoc places named alone)
    ∙ (λ i. shape (map_twice positional_rule (λ name. name.now) form.positionals.now i
    ++ (map_twice value_rule (λ name. name.now) form.values.now i ++ map_twice flag_rule (λ name. name.now) form.flags.now i)))
