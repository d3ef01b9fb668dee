-- What is asked of a name is asked of the value that it means.
use Rattle.std.proofs.Common.{◌≡◌, ℕ, zero, suc, Bool, true, false, cond, Option, Some, None, IfSome, List, [], ◌∷◌, ◌++◌, length, map, get_or, refl, sym, ap, ◌∙◌, subst, append_assoc}
use Rattle.std.specs.Str.{bytes_eq}
use Rattle.p416_syntax.specs.declared.program.Syntax16.{Syntax16}
use Rattle.p416_syntax.specs.Names.{Name}
use Rattle.p416_syntax.specs.Kinds.{Kind}
use Rattle.p416_syntax.specs.Scopes.{Layout as TypeLayout, Scope}
use Rattle.p416_syntax.specs.Declarations.{layouts_of}
use Rattle.v1_core.specs.Values.{Value, no_value, to_member, part_of, member_in, has_member}
use Rattle.v1_core.specs.Frames.{Frame, Moment, Owner, of_headers, of_metadata, of_standard, of_variables, of_inner, of_nothing, whole, stepped, read}
use Rattle.v1_core.specs.Surroundings.{Root, World, by_root, named}
use Rattle.v1_core.specs.Slots.{PartOwner, the_headers, the_metadata, the_standard, the_variable}
use Rattle.v1_core.specs.Numbered.{owner_value, Variable, InScope, named_values, frame_in}
use Rattle.v1_core.specs.Layouts.{Layout}
use Rattle.v1_core.specs.Cells.{Cells}
use Rattle.v1_core.specs.Seats.{form_of, Start, behind, Seat}
use Rattle.v1_core.specs.PackedValues.{seat_value}
use Rattle.v1_core.specs.Programs.{layout16, frame_kinds, first_start, seat_in, AreLaid, owner_number, owner_seat, values_from, numbered16}
use Rattle.v1_core.specs.PackedFrames.{IsFrameOf}
use Rattle.v1_core.proofs.Reading.{by_truth}
use Rattle.v1_core.proofs.Owned.{seat_laid}
use Rattle.v1_core.proofs.Laws.{numbered_is, program_laid}
use Rattle.v1_core.specs.Ready.{ready_value}
use Rattle.v1_ready_forms.specs.Named.{NamedSeat, seat_of_name, seats_in, root_seat, seat_of_root, seat_of_variable}
use Rattle.v1_ready_forms.specs.Ways.{Way}
use Rattle.v1_ready_forms.specs.Spots.{spot, spot_with, ready_behind, way_ready}
use Rattle.v1_ready_forms.specs.Expressions.{name_ready}
use Rattle.v1_ready_laws.specs.Asked.{asked_value}
use Rattle.v1_ready_laws.specs.Laws.{NamesGive}
use Rattle.v1_ready_laws.specs.Widths.{AreWide, KindsNarrow, TypesNarrow}
use Rattle.v1_ready_laws.proofs.Widths.{program_wide}
use Rattle.v1_ready_laws.proofs.Steps.{Stands, narrow_kind}
use Rattle.v1_ready_laws.proofs.Paths.{PlacesWithin, way_asked}

-- a value that stands at a seat
abbrev pub At : Cells → List TypeLayout → Value → Seat → Type 0
At c types v t = (v ≡ seat_value types c t) × Stands c.layout types t

-- the owners

seat_stands : (c : Cells) (types : List TypeLayout) (kinds : List Kind) (b : Start) (number : ℕ) → AreLaid c.layout types kinds b → AreWide c.layout types kinds b → KindsNarrow kinds → IfSome (seat_in types kinds b number) (At c types (get_or (values_from types c kinds b) number no_value))
seat_stands c types [] b number laid wide narrow = tt
seat_stands c types (k ∷ kinds) b zero laid wide narrow =
    (refl, record { laid = seat_laid c.layout types [] (length types) (form_of k) b laid.0; wide = wide.0; narrow = narrow_kind k narrow.0 })
seat_stands c types (k ∷ kinds) b (suc number) laid wide narrow =
    seat_stands c types kinds (behind types (length types) (form_of k) b) number laid.1 wide.1 narrow.1

pub owner_stands : (syntax : Syntax16) (c : Cells) (owner : PartOwner) → c.layout ≡ layout16 syntax → KindsNarrow (frame_kinds syntax) → IfSome (owner_seat syntax owner) (At c (layouts_of syntax.decls) (owner_value (numbered16 syntax c) owner))
owner_stands syntax c owner layout narrow =
    let types = layouts_of syntax.decls in
    subst (λ (v : Value). IfSome (owner_seat syntax owner) (At c types v)) (sym (numbered_is syntax c owner))
    (seat_stands c types (frame_kinds syntax) first_start (owner_number owner)
    (subst (λ (l : Layout). AreLaid l types (frame_kinds syntax) first_start) (sym layout) (program_laid syntax).1)
    (subst (λ (l : Layout). AreWide l types (frame_kinds syntax) first_start) (sym layout) (program_wide syntax)) narrow)

-- names

part_named : (values : List Value) (vs : List Variable) (text : Name) → part_of (named_values values vs) (to_member text) ≡ member_in (named_values values vs) text
part_named values [] text = refl
part_named values (v ∷ vs) text = refl

-- of variables
variables_at : (syntax : Syntax16) (c : Cells) (vs : List Variable) (text : Name) → c.layout ≡ layout16 syntax → KindsNarrow (frame_kinds syntax) → IfSome (seat_of_name (map (seat_of_variable syntax) vs) text) (At c (layouts_of syntax.decls) (member_in (named_values (numbered16 syntax c).variables vs) text))
variables_at syntax c [] text layout narrow = tt
variables_at syntax c (v ∷ vs) text layout narrow =
    let values : List Value = (numbered16 syntax c).variables in
    by_truth (λ (same : Bool). IfSome (cond same (owner_seat syntax (the_variable v.number)) (seat_of_name (map (seat_of_variable syntax) vs) text))
    (At c (layouts_of syntax.decls) (cond same (get_or values v.number no_value) (member_in (named_values values vs) text))))
    (owner_stands syntax c (the_variable v.number) layout narrow) (variables_at syntax c vs text layout narrow) (bytes_eq v.called text)

-- of parameters of a block, or what else a name means
roots_at : (syntax : Syntax16) (c : Cells) (who : InScope) (roots : List Root) (text : Name) → c.layout ≡ layout16 syntax → KindsNarrow (frame_kinds syntax) → IfSome (seat_of_name (map (seat_of_root syntax) roots ++ map (seat_of_variable syntax) who.variables) text) (At c (layouts_of syntax.decls) (read (frame_in who (numbered16 syntax c)) (by_root roots text)))
roots_at syntax c who [] text layout narrow =
    subst (λ (v : Value). IfSome (seat_of_name (map (seat_of_variable syntax) who.variables) text) (At c (layouts_of syntax.decls) v)) (sym (part_named (numbered16 syntax c).variables who.variables text))
    (variables_at syntax c who.variables text layout narrow)
roots_at syntax c who (r ∷ roots) text layout narrow =
    by_truth (λ (same : Bool). IfSome (cond same (seat_of_root syntax r).seat (seat_of_name (map (seat_of_root syntax) roots ++ map (seat_of_variable syntax) who.variables) text))
    (At c (layouts_of syntax.decls) (read (frame_in who (numbered16 syntax c)) (cond same (whole r.owner) (by_root roots text)))))
    (own r.owner) (roots_at syntax c who roots text layout narrow) (bytes_eq r.called text) where
      own : (owner : Owner) → IfSome (root_seat syntax owner) (At c (layouts_of syntax.decls) (read (frame_in who (numbered16 syntax c)) (whole owner)))
      own of_headers = owner_stands syntax c the_headers layout narrow
      own of_metadata = owner_stands syntax c the_metadata layout narrow
      own of_standard = owner_stands syntax c the_standard layout narrow
      own of_variables = tt
      own of_inner = tt
      own of_nothing = tt

-- of what is innermost
inner_at : (syntax : Syntax16) (c : Cells) (vs : List Variable) (rest : List NamedSeat) (text : Name) (other : Value) → c.layout ≡ layout16 syntax → KindsNarrow (frame_kinds syntax) → IfSome (seat_of_name rest text) (At c (layouts_of syntax.decls) other) → IfSome (seat_of_name (map (seat_of_variable syntax) vs ++ rest) text) (At c (layouts_of syntax.decls) (cond (has_member (named_values (numbered16 syntax c).variables vs) text) (member_in (named_values (numbered16 syntax c).variables vs) text) other))
inner_at syntax c [] rest text other layout narrow at = at
inner_at syntax c (v ∷ vs) rest text other layout narrow at =
    let values : List Value = (numbered16 syntax c).variables in
    by_truth (λ (same : Bool). IfSome (cond same (owner_seat syntax (the_variable v.number)) (seat_of_name (map (seat_of_variable syntax) vs ++ rest) text))
    (At c (layouts_of syntax.decls) (cond (cond same true (has_member (named_values values vs) text)) (cond same (get_or values v.number no_value) (member_in (named_values values vs) text)) other)))
    (owner_stands syntax c (the_variable v.number) layout narrow) (inner_at syntax c vs rest text other layout narrow at) (bytes_eq v.called text)

-- what a name means reads so
meant_is : (w : World) (f : Frame) (values : List Value) (vs : List Variable) (text : Name) → f.inner ≡ named_values values vs → cond (has_member (named_values values vs) text) (member_in (named_values values vs) text) (read f (by_root w.around.roots text)) ≡ read f (named w.around f text)
meant_is w f values vs text inner = by (has_member f.inner text) refl where
  by : (b : Bool) → has_member f.inner text ≡ b → cond (has_member (named_values values vs) text) (member_in (named_values values vs) text) (read f (by_root w.around.roots text)) ≡ read f (cond b (stepped (whole of_inner) (to_member text)) (by_root w.around.roots text))
  by true has =
      ap (λ (t : Bool). cond t (member_in (named_values values vs) text) (read f (by_root w.around.roots text))) (ap (λ (v : Value). has_member v text) (sym inner) ∙ has)
      ∙ sym (part_named values vs text) ∙ ap (λ (v : Value). part_of v (to_member text)) (sym inner)
  by false has = ap (λ (t : Bool). cond t (member_in (named_values values vs) text) (read f (by_root w.around.roots text))) (ap (λ (v : Value). has_member v text) (sym inner) ∙ has)

pub name_at : (syntax : Syntax16) (c : Cells) (w : World) (who : InScope) (text : Name) → c.layout ≡ layout16 syntax → KindsNarrow (frame_kinds syntax) → IfSome (seat_of_name (seats_in syntax w.around.roots who) text) (At c (layouts_of syntax.decls) (read (frame_in who (numbered16 syntax c)) (named w.around (frame_in who (numbered16 syntax c)) text)))
name_at syntax c w who text layout narrow =
    let f = frame_in who (numbered16 syntax c) in
    let inner : List NamedSeat = map (seat_of_variable syntax) who.inner in
    let roots : List NamedSeat = map (seat_of_root syntax) w.around.roots in
    let variables : List NamedSeat = map (seat_of_variable syntax) who.variables in
    subst (λ (l : List NamedSeat). IfSome (seat_of_name l text) (At c (layouts_of syntax.decls) (read f (named w.around f text)))) (sym (append_assoc inner roots variables))
    (subst (λ (v : Value). IfSome (seat_of_name (inner ++ (roots ++ variables)) text) (At c (layouts_of syntax.decls) v)) (meant_is w f (numbered16 syntax c).variables who.inner text refl)
    (inner_at syntax c who.inner (roots ++ variables) text (read f (by_root w.around.roots text)) layout narrow (roots_at syntax c who w.around.roots text layout narrow)))

-- what is asked of a name
asked_of_seat : (types : List TypeLayout) (c : Cells) (left : List ℕ) (way : Way) (v : Value) (o : Option Seat) → TypesNarrow types → PlacesWithin c → IfSome o (At c types v) → IfSome (ready_behind (way_ready types way) (spot_with None o)) (λ r. ready_value c left r ≡ asked_value way v)
asked_of_seat types c left way v None narrow within at = tt
asked_of_seat types c left way v (Some t) narrow within at =
    subst (λ (x : Value). IfSome (way_ready types way (spot None t)) (λ r. ready_value c left r ≡ asked_value way x)) (sym at.0) (way_asked types c left narrow within way t at.1)

pub names_give : (syntax : Syntax16) (c : Cells) (w : World) (s : Scope) (who : InScope) (m : Moment) → IsFrameOf syntax c → TypesNarrow (layouts_of syntax.decls) → KindsNarrow (frame_kinds syntax) → s.layouts ≡ layouts_of syntax.decls → m.frame ≡ frame_in who (numbered16 syntax c) → NamesGive w s (seats_in syntax w.around.roots who) c m
names_give syntax c w s who m is narrow kinds types frame way text =
    let seats = seats_in syntax w.around.roots who in
    subst (λ (l : List TypeLayout). IfSome (name_ready l seats way text) (λ r. ready_value c m.unparsed r ≡ asked_value way (read m.frame (named w.around m.frame text)))) (sym types)
    (subst (λ (f : Frame). IfSome (name_ready (layouts_of syntax.decls) seats way text) (λ r. ready_value c m.unparsed r ≡ asked_value way (read f (named w.around f text)))) (sym frame)
    (asked_of_seat (layouts_of syntax.decls) c m.unparsed way (read (frame_in who (numbered16 syntax c)) (named w.around (frame_in who (numbered16 syntax c)) text)) (seat_of_name seats text) narrow is.whole.within (name_at syntax c w who text is.layout kinds)))
