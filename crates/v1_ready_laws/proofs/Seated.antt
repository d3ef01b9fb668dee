-- Names stay declared as what stands at their seats where variables and parameters come in front of them.
use Rattle.std.proofs.Common.{ℕ, zero, suc, ◌<◌, Bool, true, false, cond, List, [], ◌∷◌, ◌++◌, length, get_or, refl, sym, subst, arith}
use Rattle.std.specs.List.{AllZip}
use Rattle.std.specs.Str.{bytes_eq}
use Rattle.p416_syntax.specs.declared.program.Syntax16.{Syntax16}
use Rattle.p416_syntax.specs.Names.{Name}
use Rattle.p416_syntax.specs.Kinds.{Kind, unknown}
use Rattle.p416_syntax.specs.Scopes.{Layout as TypeLayout, Sort, a_value, Known, Scope, sort_in, inside}
use Rattle.p416_syntax.specs.Declarations.{layouts_of}
use Rattle.v1_core.specs.Surroundings.{Root}
use Rattle.v1_core.specs.Slots.{the_variable}
use Rattle.v1_core.specs.Numbered.{Variable, InScope}
use Rattle.v1_core.specs.Seats.{form_of, Start, behind}
use Rattle.v1_core.specs.Programs.{frame_kinds, first_start, seat_in, owner_seat}
use Rattle.v1_ready_forms.specs.Named.{NamedSeat, seat_of_name, seats_in, seat_of_variable}
use Rattle.v1_ready_laws.specs.Rules.{SortSeated, NamesSeated, IsVariable, with_inner_ones}

-- a value among values of these kinds stands at a seat of its form
kind_seated : (types : List TypeLayout) (kinds : List Kind) (b : Start) (number : ℕ) (can : Bool) → number < length kinds → SortSeated (a_value (get_or kinds number unknown) can) (seat_in types kinds b number)
kind_seated types [] b number can lt = absurd (omega (arith, lt))
kind_seated types (k ∷ kinds) b zero can lt = refl
kind_seated types (k ∷ kinds) b (suc number) can lt = kind_seated types kinds (behind types (length types) (form_of k) b) number can (omega (arith, lt))

variable_seated : (syntax : Syntax16) (v : Variable) (k : Known) → IsVariable syntax v k → SortSeated k.sort (owner_seat syntax (the_variable v.number))
variable_seated syntax v k is =
    subst (λ (sort : Sort). SortSeated sort (owner_seat syntax (the_variable v.number))) (sym is.sort)
    (kind_seated (layouts_of syntax.decls) (frame_kinds syntax) first_start (suc (suc (suc v.number))) is.can (omega (arith, is.number)))

-- one name more
pub one_more : (syntax : Syntax16) (v : Variable) (k : Known) (names : List Known) (seats : List NamedSeat) → IsVariable syntax v k → ((text : Name) → SortSeated (sort_in names text) (seat_of_name seats text)) → (text : Name) → SortSeated (sort_in (k ∷ names) text) (seat_of_name (seat_of_variable syntax v ∷ seats) text)
one_more syntax v k names seats is seated text =
    subst (λ (called : Name). SortSeated (cond (bytes_eq k.called text) k.sort (sort_in names text)) (cond (bytes_eq called text) (owner_seat syntax (the_variable v.number)) (seat_of_name seats text))) (sym is.called)
    (by (bytes_eq k.called text)) where
      by : (b : Bool) → SortSeated (cond b k.sort (sort_in names text)) (cond b (owner_seat syntax (the_variable v.number)) (seat_of_name seats text))
      by true = variable_seated syntax v k is
      by false = seated text

pub inside_seated : (syntax : Syntax16) (s : Scope) (roots : List Root) (who : InScope) (vs : List Variable) (ks : List Known) → AllZip (IsVariable syntax) vs ks → NamesSeated s (seats_in syntax roots who) → NamesSeated (inside s ks) (seats_in syntax roots (with_inner_ones vs who))
inside_seated syntax s roots who [] [] all seated text = seated text
inside_seated syntax s roots who [] (k ∷ ks) all seated text = absurd all
inside_seated syntax s roots who (v ∷ vs) [] all seated text = absurd all
inside_seated syntax s roots who (v ∷ vs) (k ∷ ks) all seated text =
    one_more syntax v k (ks ++ s.names) (seats_in syntax roots (with_inner_ones vs who)) all.0 (inside_seated syntax s roots who vs ks all.1 seated) text
