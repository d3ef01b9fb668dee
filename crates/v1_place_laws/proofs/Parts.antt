-- A step further from a part of a frame.
use Rattle.std.proofs.Common.{◌≡◌, ℕ, Option, Some, None, List, [], ◌∷◌, ◌++◌, refl, sym, ap, ◌∙◌}
use Rattle.p416_syntax.specs.declared.program.Syntax16.{Syntax16}
use Rattle.p416_syntax.specs.Scopes.{Layout as TypeLayout}
use Rattle.p416_syntax.specs.Declarations.{layouts_of}
use Rattle.v1_core.specs.Values.{Step, to_member, to_element, Slice}
use Rattle.v1_core.specs.Frames.{Owner, of_headers, of_metadata, of_standard, of_variables, of_inner, of_nothing, Reference, stepped}
use Rattle.v1_core.specs.Slots.{the_variable, FramePart, part_with}
use Rattle.v1_core.specs.Numbered.{Variable, InScope, number_of, part_behind, variable_part, part_meant}
use Rattle.v1_core.specs.Seats.{Seat, stepped_seat, seat_behind, seat_at}
use Rattle.v1_core.specs.Programs.{owner_seat, part_seat}
use Rattle.v1_place_laws.specs.Finding.{IsAt}

abbrev pub further_part : Step → FramePart → FramePart
further_part step p = part_with p.owner (p.path ++ step ∷ [])

-- what a reference means, one step further

of_some : (a p q : FramePart) (f : FramePart → FramePart) → Some a ≡ Some p → f a ≡ q → Some q ≡ Some (f p)
of_some a p q f is so =
    let same : a ≡ p = cc is in
    ap (λ (x : FramePart). Some x) (sym so ∙ ap f same)

variable_further : (vs : List Variable) (steps : List Step) (step : Step) (p : FramePart) → variable_part vs steps ≡ Some p → variable_part vs (steps ++ step ∷ []) ≡ Some (further_part step p)
variable_further vs [] step p is = absurd (cc is)
variable_further vs (to_element i ∷ path) step p is = absurd (cc is)
variable_further vs (to_member text ∷ path) step p is = by (number_of vs text) is where
  by : (o : Option ℕ) → part_behind path o ≡ Some p → part_behind (path ++ step ∷ []) o ≡ Some (further_part step p)
  by None e = absurd (cc e)
  by (Some k) e = of_some (part_with (the_variable k) path) p (part_with (the_variable k) (path ++ step ∷ [])) (further_part step) e refl

meant_further : (who : InScope) (owner : Owner) (steps : List Step) (slice : Option Slice) (step : Step) (p : FramePart) → part_meant who (record { owner = owner; steps = steps; slice = slice }) ≡ Some p → part_meant who (record { owner = owner; steps = steps ++ step ∷ []; slice = slice }) ≡ Some (further_part step p)
meant_further who of_headers steps slice step p is = ap (λ (o : Option FramePart). more o) is where
  more : Option FramePart → Option FramePart
  more None = None
  more (Some q) = Some (further_part step q)
meant_further who of_metadata steps slice step p is = ap (λ (o : Option FramePart). more o) is where
  more : Option FramePart → Option FramePart
  more None = None
  more (Some q) = Some (further_part step q)
meant_further who of_standard steps slice step p is = ap (λ (o : Option FramePart). more o) is where
  more : Option FramePart → Option FramePart
  more None = None
  more (Some q) = Some (further_part step q)
meant_further who of_variables steps slice step p is = variable_further who.variables steps step p is
meant_further who of_inner steps slice step p is = variable_further who.inner steps step p is
meant_further who of_nothing steps slice step p is = absurd (cc is)

-- where that stands

behind_itself : (o : Option Seat) → seat_behind (λ t. Some t) o ≡ o
behind_itself None = refl
behind_itself (Some t) = refl

behind_both : (f g : Seat → Option Seat) (h : Seat → Option Seat) (o : Option Seat) → ((t : Seat) → h t ≡ seat_behind g (f t)) → seat_behind h o ≡ seat_behind g (seat_behind f o)
behind_both f g h None each = refl
behind_both f g h (Some t) each = each t

abbrev pub step_from : List TypeLayout → Step → Seat → Option Seat
step_from types step s = stepped_seat types s.depth s.form s.start step

path_further : (types : List TypeLayout) (path : List Step) (step : Step) (s : Seat) → seat_at types (path ++ step ∷ []) s ≡ seat_behind (step_from types step) (seat_at types path s)
path_further types [] step s = behind_itself (step_from types step s)
path_further types (first ∷ path) step s =
    behind_both (λ t. seat_at types path t) (step_from types step) (λ t. seat_at types (path ++ step ∷ []) t) (stepped_seat types s.depth s.form s.start first) (λ t. path_further types path step t)

pub part_further : (syntax : Syntax16) (p : FramePart) (step : Step) (t u : Seat) → part_seat syntax p ≡ Some t → step_from (layouts_of syntax.decls) step t ≡ Some u → part_seat syntax (further_part step p) ≡ Some u
part_further syntax p step t u at leads =
    behind_both (λ s. seat_at (layouts_of syntax.decls) p.path s) (step_from (layouts_of syntax.decls) step) (λ s. seat_at (layouts_of syntax.decls) (p.path ++ step ∷ []) s) (owner_seat syntax p.owner) (λ s. path_further (layouts_of syntax.decls) p.path step s)
    ∙ (ap (seat_behind (step_from (layouts_of syntax.decls) step)) at ∙ leads)

pub at_further : (syntax : Syntax16) (who : InScope) (r : Reference) (t u : Seat) (step : Step) → IsAt syntax who r None t → step_from (layouts_of syntax.decls) step t ≡ Some u → IsAt syntax who (stepped r step) None u
at_further syntax who r t u step at leads = record {
  part = further_part step at.part;
  cuts = at.cuts;
  means = meant_further who r.owner r.steps r.slice step at.part at.means;
  seat = part_further syntax at.part step t u at.seat leads;
}
