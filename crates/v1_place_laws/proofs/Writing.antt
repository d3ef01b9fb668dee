-- Writing a single value to an l-value is writing its number to the slot.
use Rattle.std.proofs.Common.{◌≡◌, ℕ, suc, ◌%◌, ◌^◌, ◌<◌, ◌≤◌, ◌==◌, min, not, Bool, true, false, Option, Some, None, IfSome, List, [], ◌∷◌, length, refl, sym, ap, ◌∙◌, subst, arith}
use Rattle.std.specs.Prelude.{option_map}
use Rattle.p4x_bits.specs.BitLists.{bit}
use Rattle.p416_syntax.specs.declared.program.Syntax16.{Syntax16}
use Rattle.p416_syntax.specs.Kinds.{Kind}
use Rattle.p416_syntax.specs.Scopes.{Layout as TypeLayout}
use Rattle.p416_syntax.specs.Declarations.{layouts_of}
use Rattle.p416_syntax.specs.Breaks.{BreaksNone, program_rules}
use Rattle.p416_syntax.specs.BuiltIn.{standard}
use Rattle.p416_syntax.specs.Main.{headers_kind, metadata_kind}
use Rattle.v1_core.specs.Values.{Value, a_number, as_number, number_in, Step, fitted, spliced}
use Rattle.v1_core.specs.Values as value
use Rattle.v1_core.specs.Frames.{Reference, around_slice, write}
use Rattle.v1_core.specs.Slots.{FramePart, variable_kinds}
use Rattle.v1_core.specs.Numbered.{Numbered, InScope, owner_value, frame_in, part_meant, part_value, with_part_value}
use Rattle.v1_core.specs.Cells.{Cells, slot_value}
use Rattle.v1_core.specs.Seats.{Content, some_bits, a_truth, an_error, slot_form, Form, Start, form_of, behind, Seat, stepped_seat, seat_behind, seat_at}
use Rattle.v1_core.specs.PackedValues.{content_value, value_from}
use Rattle.v1_core.specs.Programs.{slot_width as width_of_content, layout16, frame_kinds, first_start, owner_seat, part_seat, numbered16, values_from}
use Rattle.v1_core.specs.PackedFrames.{IsFrameOf}
use Rattle.v1_core.specs.Scopes.{IsScope}
use Rattle.v1_core.proofs.Named.{meant_write}
use Rattle.v1_core.proofs.Laws.{part_read, slot_put}
use Rattle.v1_ready_laws.specs.Widths.{IsNarrow, KindsNarrow, TypesNarrow}
use Rattle.v1_ready_laws.proofs.Steps.{Stands, Leads, step_leads}
use Rattle.v1_ready_laws.proofs.Named.{At, owner_stands}
use Rattle.v1_ready_laws.proofs.Accepted.{accepted_narrow}
use Rattle.v1_ready_blocks.specs.declared.places.Slice.{Slice}
use Rattle.v1_ready_blocks.specs.Places.{seen_slice, around, slot_width, put_value}
use Rattle.v1_place_laws.specs.Finding.{IsAt}
use Rattle.v1_place_laws.specs.Laws.{FitsSlot}

-- how many variables there are
values_counted : (types : List TypeLayout) (c : Cells) (kinds : List Kind) (b : Start) → length (values_from types c kinds b) ≡ length kinds
values_counted types c [] b = refl
values_counted types c (k ∷ kinds) b = ap suc (values_counted types c kinds (behind types (length types) (form_of k) b))

-- how many bits a slot has
abbrev bits_of : Content → ℕ
bits_of (some_bits width) = width
bits_of a_truth = 1
bits_of an_error = 2

-- what a slot holds behind a write is what the value holds behind one
fits_bits : (w old : ℕ) (slice : Option Slice) (v : Value) → as_number v ≡ number_in v → fitted (a_number w old) (around_slice (option_map seen_slice slice) (a_number w old) v) ≡ a_number w (around slice old (as_number v) % 2 ^ w)
fits_bits w old None v same = ap (λ (n : ℕ). a_number w (n % 2 ^ w)) (sym same)
fits_bits w old (Some s) v same = ap (λ (n : ℕ). a_number w (spliced (seen_slice s) old n % 2 ^ w)) (sym same)

fits_truth : (old holds : Bool) → fitted (value.a_truth old) (value.a_truth holds) ≡ value.a_truth (not (bit holds % 2 ^ 1 == 0))
fits_truth old true = refl
fits_truth old false = refl

small_error : (n : ℕ) → n < 4 → n % 2 ^ 2 ≡ n
small_error n lt = omega (arith, lt)

-- by the content of the slot, which has so many bits
fits : (of : Content) (old bits : ℕ) (slice : Option Slice) (v : Value) → bits ≡ bits_of of → FitsSlot of slice v → fitted (content_value of old) (around_slice (option_map seen_slice slice) (content_value of old) v) ≡ content_value of (around slice old (as_number v) % 2 ^ bits)
fits (some_bits width) old bits slice v is fit =
    fits_bits width old slice v fit ∙ ap (λ (w : ℕ). a_number width (around slice old (as_number v) % 2 ^ w)) (sym is)
fits a_truth old bits slice v is fit =
    ap (λ (s : Option Slice). fitted (value.a_truth (not (old == 0))) (around_slice (option_map seen_slice s) (value.a_truth (not (old == 0))) v)) fit.0
    ∙ (ap (λ (x : Value). fitted (value.a_truth (not (old == 0))) x) fit.1.1
    ∙ (fits_truth (not (old == 0)) fit.1.0
    ∙ (ap (λ (x : Value). value.a_truth (not (as_number x % 2 ^ 1 == 0))) (sym fit.1.1)
    ∙ (ap (λ (w : ℕ). value.a_truth (not (as_number v % 2 ^ w == 0))) (sym is)
    ∙ ap (λ (s : Option Slice). value.a_truth (not (around s old (as_number v) % 2 ^ bits == 0))) (sym fit.0)))))
fits an_error old bits slice v is fit =
    ap (λ (s : Option Slice). fitted (value.an_error old) (around_slice (option_map seen_slice s) (value.an_error old) v)) fit.0
    ∙ (fit.1.1
    ∙ (ap (λ (n : ℕ). value.an_error n) (sym (small_error fit.1.0 fit.1.2))
    ∙ (ap (λ (x : Value). value.an_error (as_number x % 2 ^ 2)) (sym fit.1.1)
    ∙ (ap (λ (w : ℕ). value.an_error (as_number v % 2 ^ w)) (sym is)
    ∙ ap (λ (s : Option Slice). value.an_error (around s old (as_number v) % 2 ^ bits)) (sym fit.0)))))

-- parts stand where their layout has them

path_stands : (types : List TypeLayout) (c : Cells) (path : List Step) (t u : Seat) → TypesNarrow types → Stands c.layout types t → seat_at types path t ≡ Some u → Stands c.layout types u
path_stands types c [] t u narrow stands at = subst (Stands c.layout types) (some_same t u at) stands where
  some_same : (x y : Seat) → Some x ≡ Some y → x ≡ y
  some_same x y e = let same : x ≡ y = cc e in same
path_stands types c (step ∷ path) t u narrow stands at =
    by (stepped_seat types t.depth t.form t.start step) (λ x h e. path_stands types c path x u narrow h e) at (step_leads types c t.depth t.form t.start t.owner step stands narrow) where
      by : (o : Option Seat) → ((x : Seat) → Stands c.layout types x → seat_at types path x ≡ Some u → Stands c.layout types u) → seat_behind (λ x. seat_at types path x) o ≡ Some u → IfSome o (Leads c types (value_from types c t.depth t.form t.start) step) → Stands c.layout types u
      by None further e leads = absurd (cc e)
      by (Some x) further e leads = further x leads.1 e

pub part_stands : (syntax : Syntax16) (c : Cells) (p : FramePart) (t : Seat) → c.layout ≡ layout16 syntax → TypesNarrow (layouts_of syntax.decls) → KindsNarrow (frame_kinds syntax) → part_seat syntax p ≡ Some t → Stands c.layout (layouts_of syntax.decls) t
part_stands syntax c p t layout narrow kinds at = by (owner_seat syntax p.owner) at (owner_stands syntax c p.owner layout kinds) where
  by : (o : Option Seat) → seat_behind (λ s. seat_at (layouts_of syntax.decls) p.path s) o ≡ Some t → IfSome o (At c (layouts_of syntax.decls) (owner_value (numbered16 syntax c) p.owner)) → Stands c.layout (layouts_of syntax.decls) t
  by None e stands = absurd (cc e)
  by (Some o) e stands = path_stands (layouts_of syntax.decls) c p.path o t narrow stands.1 e

narrow_is : (width : ℕ) → width ≤ 128 → min width 128 ≡ width
narrow_is width le = omega (arith, le)

bits_are : (of : Content) (bits : ℕ) → bits ≡ width_of_content of → IsNarrow (slot_form of) → bits ≡ bits_of of
bits_are (some_bits width) bits wide narrow = wide ∙ narrow_is width narrow
bits_are a_truth bits wide narrow = wide
bits_are an_error bits wide narrow = wide

-- where the variables of a frame begin
abbrev behind_packet : Syntax16 → Start
behind_packet syntax =
    let types = layouts_of syntax.decls in
    behind types (length types) (form_of standard)
    (behind types (length types) (form_of (metadata_kind syntax)) (behind types (length types) (form_of (headers_kind syntax)) first_start))

pub variables_counted : (syntax : Syntax16) (c : Cells) → length (numbered16 syntax c).variables ≡ length (variable_kinds syntax)
variables_counted syntax c = values_counted (layouts_of syntax.decls) c (variable_kinds syntax) (behind_packet syntax)

module _ (syntax : Syntax16) (c : Cells) (who : InScope) (is : IsFrameOf syntax c) (narrow : TypesNarrow (layouts_of syntax.decls)) (kinds : KindsNarrow (frame_kinds syntax)) (scope : IsScope (length (variable_kinds syntax)) who) where
  -- at a part whose form is known
  slot_at : (r : Reference) (slice : Option Slice) (p : FramePart) (depth : ℕ) (of : Content) (b : Start) (owner : Option ℕ) (v : Value) → r.slice ≡ option_map seen_slice slice → part_meant who r ≡ Some p → part_seat syntax p ≡ Some (record { depth = depth; form = slot_form of; start = b; owner = owner }) → FitsSlot of slice v → write r v (frame_in who (numbered16 syntax c)) ≡ frame_in who (numbered16 syntax (put_value b.slot slice v c))
  slot_at r slice p depth of b owner v cut means at fit =
      let x : Numbered = numbered16 syntax c in
      let t : Seat = record { depth = depth; form = slot_form of; start = b; owner = owner } in
      let stands : Stands c.layout (layouts_of syntax.decls) t = part_stands syntax c p t is.layout narrow kinds at in
      meant_write who x r.owner r.steps r.slice v p (subst (λ (n : ℕ). IsScope n who) (sym (variables_counted syntax c)) scope) means
      ∙ ap (λ (y : Numbered). frame_in who y)
      (ap (λ (s : Option value.Slice). with_part_value x p (around_slice s (part_value x p) v)) cut
      ∙ (ap (λ (old : Value). with_part_value x p (around_slice (option_map seen_slice slice) old v)) (part_read syntax c p t is.layout at)
      ∙ slot_put syntax c p (around_slice (option_map seen_slice slice) (content_value of (slot_value c b.slot)) v) depth of b owner (around slice (slot_value c b.slot) (as_number v) % 2 ^ slot_width c b.slot) is at
      (fits of (slot_value c b.slot) (slot_width c b.slot) slice v (bits_are of (slot_width c b.slot) stands.wide stands.narrow) fit)))

  pub slot_written : (r : Reference) (slice : Option Slice) (t : Seat) (of : Content) (v : Value) → IsAt syntax who r (option_map seen_slice slice) t → t.form ≡ slot_form of → FitsSlot of slice v → write r v (frame_in who (numbered16 syntax c)) ≡ frame_in who (numbered16 syntax (put_value t.start.slot slice v c))
  slot_written r slice t of v at form fit =
      slot_at r slice at.part t.depth of t.start t.owner v at.cuts at.means
      (at.seat ∙ ap (λ (f : Form). Some (record { depth = t.depth; form = f; start = t.start; owner = t.owner })) form) fit

pub slots_written : (syntax : Syntax16) (c : Cells) (who : InScope) (r : Reference) (slice : Option Slice) (t : Seat) (of : Content) (v : Value) → BreaksNone syntax program_rules → IsFrameOf syntax c → IsScope (length (variable_kinds syntax)) who → IsAt syntax who r (option_map seen_slice slice) t → t.form ≡ slot_form of → FitsSlot of slice v → write r v (frame_in who (numbered16 syntax c)) ≡ frame_in who (numbered16 syntax (put_value t.start.slot slice v c))
slots_written syntax c who r slice t of v keeps is scope at form fit =
    let accepted = accepted_narrow syntax keeps in
    slot_written syntax c who is accepted.0 accepted.2 scope r slice t of v at form fit
