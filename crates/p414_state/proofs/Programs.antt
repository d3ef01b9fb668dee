-- The states of a program.
use Rattle.std.proofs.Common.{◌≡◌, ℕ, ◌%◌, ◌^◌, Bool, true, false, List, [], ◌∷◌, length, map, None, Result, Ok, Err, refl, ap, ap₂, ◌∙◌}
use Rattle.std.specs.Prelude.{IfOk}
use Rattle.std.specs.Bool.{IsTrue}
use Rattle.p414_syntax.specs.declared.syntax.Decl.{Decl}
use Rattle.p414_syntax.specs.declared.syntax.Decl.TheVariants as decl
use Rattle.p414_syntax.specs.declared.syntax.Sort.TheVariants as sort
use Rattle.p414_syntax.specs.declared.syntax.Syntax14.{Syntax14}
use Rattle.p414_syntax.specs.Names.{declared_in}
use Rattle.p414_syntax.specs.Breaks.{IsBroken}
use Rattle.p414_syntax.specs.Twice.{declares_twice}
use Rattle.p414_syntax.specs.Widths.{has_bad_width}
use Rattle.p414_body_check.specs.Answers.{IsAccepted}
use Rattle.p414_sem.specs.State.{Instance, new_state}
use Rattle.p414_sem.specs.Parsing.{begun_instance, begun_instances}
use Rattle.p414_layout.specs.declared.shape.Shape.{Shape}
use Rattle.p414_layout.specs.Shapes.{shape_in, layout_of}
use Rattle.p414_layout.proofs.Programs.{layout_blank}
use Rattle.p414_state.specs.Packets.{Packet, new_packet, begun_all}

-- a new packet of a program's layout is one in a new state of the program
new_is_state : (ds : List Decl) (octets : List ℕ) (port kind : ℕ) → new_packet (layout_of ds) octets port kind ≡ record { layout = layout_of ds; state = new_state ds octets port kind }
new_is_state ds octets port kind = ap (λ (instances : List Instance). record {
  layout = layout_of ds;
  state =
      record {
        instances = instances;
        unparsed = octets;
        ingress_port = port;
        egress_spec = 0;
        egress_port = 0;
        packet_length = length octets % 2 ^ 32;
        instance_type = kind;
        clone_i2e = None;
        clone_e2e = None;
        resubmit = None;
        recirculate = None;
        events = [];
      };
}) (layout_blank ds)

-- the same of a state that is made of the layout, if there was memory for it
pub new_of_layout : {E : Type 0} (ds : List Decl) (layout : List Shape) (octets kept : List ℕ) (port kind : ℕ) (made : Result Packet E) → IfOk made (λ s. s ≡ new_packet layout kept port kind) → layout ≡ layout_of ds → kept ≡ octets → IfOk made (λ s. s ≡ record { layout = layout_of ds; state = new_state ds octets port kind })
new_of_layout ds layout octets kept port kind (Ok s) is same whole =
    is ∙ ap₂ (λ (l : List Shape) (o : List ℕ). new_packet l o port kind) same whole ∙ new_is_state ds octets port kind
new_of_layout ds layout octets kept port kind (Err e) is same whole = _

not_true : (b : Bool) → (IsTrue b → ⊥) → b ≡ false
not_true false never = refl
not_true true never = absurd (never refl)

-- C1: no name is declared twice in its sort
pub names_once : (s : Syntax14) → IsAccepted s → declares_twice s.decls ≡ false
unfolding IsBroken
names_once s accepted = not_true (declares_twice s.decls) accepted.0

-- C3: no width is bad
pub widths_good : (s : Syntax14) → IsAccepted s → has_bad_width s.decls ≡ false
unfolding IsBroken
widths_good s accepted = not_true (has_bad_width s.decls) accepted.1.1.0

-- the headers of a program's state as parsing begins

begun_of_all : (ds rest : List Decl) (instances : List Instance) → begun_all (map (shape_in ds) (declared_in sort.Instance rest)) instances ≡ begun_instances (declared_in sort.Instance rest) instances
begun_of_all ds [] instances = refl
begun_of_all ds (decl.Header x ∷ rest) [] = refl
begun_of_all ds (decl.Header x ∷ rest) (i ∷ instances) = ap (λ (l : List Instance). begun_instance (decl.Header x) i ∷ l) (begun_of_all ds rest instances)
begun_of_all ds (decl.Metadata x ∷ rest) [] = refl
begun_of_all ds (decl.Metadata x ∷ rest) (i ∷ instances) = ap (λ (l : List Instance). i ∷ l) (begun_of_all ds rest instances)
begun_of_all ds (decl.HeaderType x ∷ rest) instances = begun_of_all ds rest instances
begun_of_all ds (decl.FieldList x ∷ rest) instances = begun_of_all ds rest instances
begun_of_all ds (decl.FieldListCalculation x ∷ rest) instances = begun_of_all ds rest instances
begun_of_all ds (decl.CalculatedField x ∷ rest) instances = begun_of_all ds rest instances
begun_of_all ds (decl.Parser x ∷ rest) instances = begun_of_all ds rest instances
begun_of_all ds (decl.Action x ∷ rest) instances = begun_of_all ds rest instances
begun_of_all ds (decl.Table x ∷ rest) instances = begun_of_all ds rest instances
begun_of_all ds (decl.Counter x ∷ rest) instances = begun_of_all ds rest instances
begun_of_all ds (decl.Meter x ∷ rest) instances = begun_of_all ds rest instances
begun_of_all ds (decl.Register x ∷ rest) instances = begun_of_all ds rest instances
begun_of_all ds (decl.Control x ∷ rest) instances = begun_of_all ds rest instances
begun_of_all ds (decl.LeftOut x ∷ rest) instances = begun_of_all ds rest instances

pub begun_layout : (ds : List Decl) (instances : List Instance) → begun_all (layout_of ds) instances ≡ begun_instances (declared_in sort.Instance ds) instances
begun_layout ds instances = begun_of_all ds ds instances
