-- Where the parameters of an action stand, what entered, and where it goes back.
use Rattle.std.proofs.Common.{◌≡◌, ◌⊎◌, ℕ, suc, ◌<◌, true, None, Some, List, [], ◌∷◌, length}
use Rattle.p416_syntax.specs.declared.parts.Param.{Param}
use Rattle.p416_syntax.specs.Tree.{Exp16}
use Rattle.p416_syntax.specs.Kinds.{Kind}
use Rattle.p416_syntax.specs.Scopes.{Scope}
use Rattle.p416_syntax.specs.Expressions.{kind_of}
use Rattle.p416_syntax.specs.Declarations.{layouts_of}
use Rattle.v1_core.specs.Values.{Value, zero_value, member_in}
use Rattle.v1_core.specs.Slots.{the_variable, variable_kinds, parameter_kind}
use Rattle.v1_core.specs.Surroundings as meaning
use Rattle.v1_core.specs.Numbered.{InScope, part_value, new_numbered}
use Rattle.v1_core.specs.Calls as calls
use Rattle.v1_core.specs.Calls.{copied_in}
use Rattle.v1_core.specs.Cells.{Cells}
use Rattle.v1_core.specs.Seats.{Content, slot_form, form_of, Seat}
use Rattle.v1_core.specs.Programs.{owner_seat}
use Rattle.v1_ready_forms.specs.Named.{NamedSeat, seats_in}
use Rattle.v1_ready_blocks.specs.declared.places.Target.{Target}
use Rattle.v1_ready_blocks.specs.Arguments.{Outgoing, value_out, parts_out}
use Rattle.v1_parser_laws.specs.Ranges.{all_of}
use Rattle.v1_place_laws.specs.Places.{Meant, meant_by, range_of}
use Rattle.v1_place_laws.specs.Finding.{IsAt}
use Rattle.v1_deed_laws.specs.Forms.{IsParted}
use Rattle.v1_ready_statements.specs.Around.{Around}
use Rattle.v1_ready_statements.specs.Given.{is_back}
use Rattle.v1_statement_laws.proofs.Sources.{Composite}
use Rattle.v1_call_laws.proofs.Setting.{value_at}
use Rattle.v1_call_laws.proofs.Reading.{Single}
use Rattle.v1_call_laws.proofs.Targets.{Targeted}

module _ (b : Around) where
  -- where a variable stands, which is of a kind
  pub record Stands (n : ℕ) (t : Seat) (k : Kind) : Type 0 where
    pub at : owner_seat b.syntax (the_variable n) ≡ Some t
    pub within : n < length (variable_kinds b.syntax)
    pub form : t.form ≡ form_of k
    pub zero_is : part_value (new_numbered b.syntax) (all_of (the_variable n)) ≡ zero_value (layouts_of b.syntax.decls) k

  -- parameters hold what a struct has by their names
  abbrev pub Held : ℕ → List Param → Value → Cells → Type 0
  Held n [] inner c = Unit {0}
  Held n (p ∷ ps) inner c = (member_in inner p.name ≡ value_at b.syntax c n) × Held (suc n) ps inner c

module _ (b : Around) (w : meaning.World) where
  -- what entered
  abbrev pub Bound : ℕ → List Param → List calls.Given → Cells → Type 0
  Bound n [] [] c = Unit {0}
  Bound n (p ∷ ps) (g ∷ gs) c = (value_at b.syntax c n ≡ copied_in p.direction (zero_value (layouts_of b.syntax.decls) (parameter_kind w.around.scope p)) g.value) × Bound (suc n) ps gs c
  Bound n _ _ c = ⊥

module _ (b : Around) (w : meaning.World) (s : Scope) (who : InScope) where
  abbrev seats : List NamedSeat
  seats = seats_in b.syntax w.around.roots who

  -- an argument that is written back means an l-value that no stack tells
  abbrev pub OutAt : Exp16 → calls.Given → Type 0
  OutAt e g = (x : Meant) × ((meant_by s seats e ≡ Some x) × (x.spot.told ≡ None) × IsAt b.syntax who g.target x.slice x.spot.seat)

  -- where a parameter goes back
  pub data OutWay (e : Exp16) (t : Seat) (outs : List Outgoing) : Type 0 where
    out_slot : (x : Meant) (to : Target) (of : Content) → meant_by s seats e ≡ Some x → Targeted x to → t.form ≡ slot_form of → outs ≡ value_out t.start.slot to ∷ [] → OutWay e t outs
    out_parts : (x : Meant) → meant_by s seats e ≡ Some x → x.slice ≡ None → x.spot.told ≡ None → IsParted t.form → IsParted x.spot.seat.form → outs ≡ parts_out (range_of s.layouts t) (range_of s.layouts x.spot.seat) ∷ [] → OutWay e t outs

  -- what is known of an l-value there
  pub record Backs (e : Exp16) (k0 : Kind) (x : Meant) : Type 0 where
    pub means : meant_by s seats e ≡ Some x
    pub untold : x.spot.told ≡ None
    pub kind : kind_of s e ≡ k0
    pub shape : Single k0 ⊎ ((x.slice ≡ None) × Composite k0)

  -- all of them, of the kinds of the parameters
  abbrev pub Aims : ℕ → List Param → List Exp16 → List calls.Given → Type 0
  Aims n [] [] [] = Unit {0}
  Aims n (p ∷ ps) (e ∷ es) (g ∷ gs) = (is_back p.direction ≡ true → OutAt e g × (kind_of s e ≡ parameter_kind w.around.scope p)) × Aims (suc n) ps es gs
  Aims n _ _ _ = ⊥
