-- What a name means as an l-value.
use Rattle.std.proofs.Common.{◌≡◌, Bool, true, false, cond, Option, Some, None, IfSome, List, [], ◌∷◌, ◌++◌, map, refl, sym, ap, ◌∙◌, subst, append_assoc}
use Rattle.std.specs.Str.{bytes_eq}
use Rattle.p416_syntax.specs.declared.program.Syntax16.{Syntax16}
use Rattle.p416_syntax.specs.Names.{Name}
use Rattle.v1_core.specs.Values.{Value, has_member, to_member}
use Rattle.v1_core.specs.Frames.{Owner, of_headers, of_metadata, of_standard, of_variables, of_inner, of_nothing, Reference, whole, stepped}
use Rattle.v1_core.specs.Slots.{PartOwner, the_headers, the_metadata, the_standard, the_variable, FramePart, part_with}
use Rattle.v1_core.specs.Surroundings.{Root, Surroundings, by_root, named}
use Rattle.v1_core.specs.Numbered.{Numbered, Variable, InScope, named_values, frame_in, number_of, part_behind, part_meant}
use Rattle.v1_core.specs.Seats.{Seat, seat_behind}
use Rattle.v1_core.specs.Programs.{owner_seat, part_seat}
use Rattle.v1_core.proofs.Reading.{by_truth}
use Rattle.v1_ready_forms.specs.Named.{NamedSeat, seat_of_name, root_seat, seat_of_root, seat_of_variable, seats_in}
use Rattle.v1_place_laws.specs.Finding.{IsAt}

-- a part of the frame with this seat
pub record PartAt (syntax : Syntax16) (o : Option FramePart) (t : Seat) : Type 0 where
  pub part : FramePart
  pub is : o ≡ Some part
  pub seat : part_seat syntax part ≡ Some t

whole_at : (syntax : Syntax16) (owner : PartOwner) → IfSome (owner_seat syntax owner) (PartAt syntax (Some (part_with owner [])))
whole_at syntax owner = by (owner_seat syntax owner) refl where
  by : (o : Option Seat) → owner_seat syntax owner ≡ o → IfSome o (PartAt syntax (Some (part_with owner [])))
  by None e = tt
  by (Some t) e = record { part = part_with owner []; is = refl; seat = ap (seat_behind (λ s. Some s)) e }

variables_at : (syntax : Syntax16) (vs : List Variable) (text : Name) → IfSome (seat_of_name (map (seat_of_variable syntax) vs) text) (PartAt syntax (part_behind [] (number_of vs text)))
variables_at syntax [] text = tt
variables_at syntax (v ∷ vs) text =
    by_truth (λ (same : Bool). IfSome (cond same (owner_seat syntax (the_variable v.number)) (seat_of_name (map (seat_of_variable syntax) vs) text)) (PartAt syntax (part_behind [] (cond same (Some v.number) (number_of vs text)))))
    (whole_at syntax (the_variable v.number)) (variables_at syntax vs text) (bytes_eq v.called text)

as_found : (syntax : Syntax16) (who : InScope) (r : Reference) (o : Option FramePart) (p : Option Seat) → r.slice ≡ None → part_meant who r ≡ o → IfSome p (PartAt syntax o) → IfSome p (IsAt syntax who r None)
as_found syntax who r o None slice means at = tt
as_found syntax who r o (Some t) slice means at = record { part = at.part; cuts = slice; means = means ∙ at.is; seat = at.seat }

roots_at : (syntax : Syntax16) (who : InScope) (roots : List Root) (text : Name) → IfSome (seat_of_name (map (seat_of_root syntax) roots ++ map (seat_of_variable syntax) who.variables) text) (IsAt syntax who (by_root roots text) None)
roots_at syntax who [] text =
    as_found syntax who (stepped (whole of_variables) (to_member text)) (part_behind [] (number_of who.variables text)) (seat_of_name (map (seat_of_variable syntax) who.variables) text) refl refl (variables_at syntax who.variables text)
roots_at syntax who (r ∷ roots) text =
    by_truth (λ (same : Bool). IfSome (cond same (root_seat syntax r.owner) (seat_of_name (map (seat_of_root syntax) roots ++ map (seat_of_variable syntax) who.variables) text)) (IsAt syntax who (cond same (whole r.owner) (by_root roots text)) None))
    (own r.owner) (roots_at syntax who roots text) (bytes_eq r.called text) where
      own : (owner : Owner) → IfSome (root_seat syntax owner) (IsAt syntax who (whole owner) None)
      own of_headers = as_found syntax who (whole of_headers) (Some (part_with the_headers [])) (owner_seat syntax the_headers) refl refl (whole_at syntax the_headers)
      own of_metadata = as_found syntax who (whole of_metadata) (Some (part_with the_metadata [])) (owner_seat syntax the_metadata) refl refl (whole_at syntax the_metadata)
      own of_standard = as_found syntax who (whole of_standard) (Some (part_with the_standard [])) (owner_seat syntax the_standard) refl refl (whole_at syntax the_standard)
      own of_variables = tt
      own of_inner = tt
      own of_nothing = tt

-- among the innermost names, or further out
abbrev Within : Syntax16 → InScope → Reference → Option FramePart → Bool → Seat → Type 0
Within syntax who outer inner true t = PartAt syntax inner t
Within syntax who outer inner false t = IsAt syntax who outer None t

inner_at : (syntax : Syntax16) (who : InScope) (values : List Value) (vs : List Variable) (rest : List NamedSeat) (outer : Reference) (text : Name) → IfSome (seat_of_name rest text) (IsAt syntax who outer None) → IfSome (seat_of_name (map (seat_of_variable syntax) vs ++ rest) text) (Within syntax who outer (part_behind [] (number_of vs text)) (has_member (named_values values vs) text))
inner_at syntax who values [] rest outer text at = at
inner_at syntax who values (v ∷ vs) rest outer text at =
    by_truth (λ (same : Bool). IfSome (cond same (owner_seat syntax (the_variable v.number)) (seat_of_name (map (seat_of_variable syntax) vs ++ rest) text)) (Within syntax who outer (part_behind [] (cond same (Some v.number) (number_of vs text))) (cond same true (has_member (named_values values vs) text))))
    (whole_at syntax (the_variable v.number)) (inner_at syntax who values vs rest outer text at) (bytes_eq v.called text)

pub name_meant : (syntax : Syntax16) (x : Numbered) (b : Surroundings) (who : InScope) (text : Name) → IfSome (seat_of_name (seats_in syntax b.roots who) text) (IsAt syntax who (named b (frame_in who x) text) None)
name_meant syntax x b who text =
    let inner : List NamedSeat = map (seat_of_variable syntax) who.inner in
    let roots : List NamedSeat = map (seat_of_root syntax) b.roots in
    let variables : List NamedSeat = map (seat_of_variable syntax) who.variables in
    subst (λ (l : List NamedSeat). IfSome (seat_of_name l text) (IsAt syntax who (named b (frame_in who x) text) None)) (sym (append_assoc inner roots variables))
    (by (has_member (named_values x.variables who.inner) text) (seat_of_name (inner ++ (roots ++ variables)) text)
    (inner_at syntax who x.variables who.inner (roots ++ variables) (by_root b.roots text) text (roots_at syntax who b.roots text))) where
      by : (t : Bool) (o : Option Seat) → IfSome o (Within syntax who (by_root b.roots text) (part_behind [] (number_of who.inner text)) t) → IfSome o (IsAt syntax who (cond t (stepped (whole of_inner) (to_member text)) (by_root b.roots text)) None)
      by true None at = tt
      by true (Some t) at = record { part = at.part; cuts = refl; means = at.is; seat = at.seat }
      by false None at = tt
      by false (Some t) at = at
