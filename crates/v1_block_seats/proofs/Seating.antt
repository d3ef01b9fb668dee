-- The seats of the values of a frame, by their numbers.
use Rattle.std.proofs.Common.{◌≡◌, ℕ, zero, suc, ◌+◌, Option, List, [], ◌∷◌, ◌++◌, length, map, refl, ap, ◌∙◌, arith}
use Rattle.std.specs.Prelude.{slice_get}
use Rattle.p416_syntax.specs.declared.program.Syntax16.{Syntax16}
use Rattle.p416_syntax.specs.Kinds.{Kind}
use Rattle.p416_syntax.specs.Scopes.{Layout as TypeLayout}
use Rattle.p416_syntax.specs.Declarations.{layouts_of}
use Rattle.v1_core.specs.Frames.{Owner, of_headers, of_metadata, of_standard, of_variables, of_inner, of_nothing}
use Rattle.v1_core.specs.Surroundings.{Root}
use Rattle.v1_core.specs.Slots.{the_variable}
use Rattle.v1_core.specs.Numbered.{Variable}
use Rattle.v1_core.specs.Seats as seats
use Rattle.v1_core.specs.Seats.{form_of, Start, behind}
use Rattle.v1_core.specs.Programs.{frame_kinds, first_start, seat_in, owner_seat}
use Rattle.v1_seats.specs.declared.seat.Seat.{Seat}
use Rattle.v1_seats.specs.Seen.{seen_seat}
use Rattle.v1_seats.specs.Frame.{seats_from}
use Rattle.v1_ready_forms.specs.Named.{NamedSeat, named_seat, root_seat, seat_of_root, seat_of_variable, seats_in}
use Rattle.v1_block_laws.specs.Variables.{own_names}
use Rattle.v1_block_seats.specs.declared.numbers.Variable.{Variable as CodeVariable}
use Rattle.v1_block_seats.specs.Seen.{seen_variable}
use Rattle.v1_block_seats.specs.internal.Wanted.{seat_with, root_with, named_root, named_variable, named_own}

mapped_get : (all : List Seat) (n : ℕ) → seat_with all n ≡ slice_get (map seen_seat all) n
mapped_get [] n = refl
mapped_get (x ∷ all) zero = refl
mapped_get (x ∷ all) (suc n) = mapped_get all n

in_order : (types : List TypeLayout) (kinds : List Kind) (b : Start) (n : ℕ) → slice_get (seats_from types kinds b) n ≡ seat_in types kinds b n
in_order types [] b n = refl
in_order types (k ∷ kinds) b zero = refl
in_order types (k ∷ kinds) b (suc n) = in_order types kinds (behind types (length types) (form_of k) b) n

module _ (syntax : Syntax16) (all : List Seat) (are : map seen_seat all ≡ seats_from (layouts_of syntax.decls) (frame_kinds syntax) first_start) where
  value_at : (n : ℕ) → seat_with all n ≡ seat_in (layouts_of syntax.decls) (frame_kinds syntax) first_start n
  value_at n = mapped_get all n ∙ (ap (λ (l : List seats.Seat). slice_get l n) are ∙ in_order (layouts_of syntax.decls) (frame_kinds syntax) first_start n)

  behind_three : (n : ℕ) → seat_with all (3 + n) ≡ owner_seat syntax (the_variable n)
  behind_three n =
      let three : 3 + n ≡ suc (suc (suc n)) = omega arith in
      ap (λ (k : ℕ). seat_with all k) three ∙ value_at (suc (suc (suc n)))

  root_at : (owner : Owner) → root_with all owner ≡ root_seat syntax owner
  root_at of_headers = value_at 0
  root_at of_metadata = value_at 1
  root_at of_standard = value_at 2
  root_at of_variables = refl
  root_at of_inner = refl
  root_at of_nothing = refl

  roots_at : (roots : List Root) → map (named_root all) roots ≡ map (seat_of_root syntax) roots
  roots_at [] = refl
  roots_at (r ∷ roots) =
      ap (λ (t : Option seats.Seat). named_seat r.called t ∷ map (named_root all) roots) (root_at r.owner)
      ∙ ap (λ (l : List NamedSeat). seat_of_root syntax r ∷ l) (roots_at roots)

  variables_at : (vs : List Variable) → map (named_variable all) vs ≡ map (seat_of_variable syntax) vs
  variables_at [] = refl
  variables_at (v ∷ vs) =
      ap (λ (t : Option seats.Seat). named_seat v.called t ∷ map (named_variable all) vs) (behind_three v.number)
      ∙ ap (λ (l : List NamedSeat). seat_of_variable syntax v ∷ l) (variables_at vs)

nothing_behind : (xs : List NamedSeat) → xs ++ [] ≡ xs
nothing_behind [] = refl
nothing_behind (x ∷ xs) = ap (λ (l : List NamedSeat). x ∷ l) (nothing_behind xs)

pub variable_at : (syntax : Syntax16) (all : List Seat) (n place : ℕ) (found : Option seats.Seat) → map seen_seat all ≡ seats_from (layouts_of syntax.decls) (frame_kinds syntax) first_start → place ≡ 3 + n → found ≡ seat_with all place → found ≡ owner_seat syntax (the_variable n)
variable_at syntax all n place found are at is = is ∙ (ap (λ (k : ℕ). seat_with all k) at ∙ behind_three syntax all are n)

own_named : (all : List Seat) (vs : List CodeVariable) → map (named_own all) vs ≡ map (named_variable all) (map seen_variable vs)
own_named all [] = refl
own_named all (v ∷ vs) = ap (λ (l : List NamedSeat). named_own all v ∷ l) (own_named all vs)

pub one_declared : (all : List Seat) (v : CodeVariable) (place : ℕ) (found : Option seats.Seat) (new rest : List NamedSeat) → place ≡ 3 + v.number → found ≡ seat_with all place → new ≡ named_seat v.name.now found ∷ rest → new ≡ named_own all v ∷ rest
one_declared all v place found new rest at is so =
    so ∙ ap (λ (t : Option seats.Seat). named_seat v.name.now t ∷ rest) (is ∙ ap (λ (k : ℕ). seat_with all k) at)

pub block_seated : (syntax : Syntax16) (all : List Seat) (roots : List Root) (vs : List CodeVariable) (first second third : List NamedSeat) → map seen_seat all ≡ seats_from (layouts_of syntax.decls) (frame_kinds syntax) first_start → first ≡ [] → second ≡ map (named_own all) vs ++ first → third ≡ map (named_root all) roots ++ second → third ≡ seats_in syntax roots (own_names (map seen_variable vs))
block_seated syntax all roots vs first second third are none own rooted_so =
    rooted_so
    ∙ (ap (λ (l : List NamedSeat). l ++ second) (roots_at syntax all are roots)
    ∙ ap (λ (l : List NamedSeat). map (seat_of_root syntax) roots ++ l)
    (own ∙ (ap (λ (l : List NamedSeat). map (named_own all) vs ++ l) none
    ∙ (nothing_behind (map (named_own all) vs) ∙ (own_named all vs ∙ variables_at syntax all are (map seen_variable vs))))))
