-- The parts of a value that is laid are laid.
use Rattle.std.proofs.Common.{ℕ, zero, suc, Bool, cond, Option, Some, None, List, [], ◌∷◌, length, IfSome}
use Rattle.std.specs.Str.{bytes_eq}
use Rattle.p416_syntax.specs.Names.{Name}
use Rattle.p416_syntax.specs.Scopes.{Layout as TypeLayout, FieldKind, fields_in}
use Rattle.p416_syntax.specs.Totals.{bits_in}
use Rattle.v1_core.specs.Values.{Step, to_member, to_element}
use Rattle.v1_core.specs.Layouts.{Layout}
use Rattle.v1_core.specs.Seats.{Content, some_bits, Form, slot_form, header_form, stack_form, struct_form, no_form, form_of, Start, moved, behind, seat, member_seat, field_form, field_seat, element_seat, seat_behind, seat_at}
use Rattle.v1_core.specs.Laid.{IsSlot, AreFields, IsHeader, AreElements, AreMembers, IsLaid, IsLaidAt, IsSeatLaid}
use Rattle.v1_core.proofs.Reading.{by_truth}

pub laid_at : (l : Layout) (types : List TypeLayout) (n : ℕ) (k : Form) (b : Start) → IsLaid l types n k b → IsLaidAt l types n k b None
laid_at l types n (slot_form of) b laid = laid
laid_at l types n (header_form type) b laid = laid
laid_at l types n (stack_form type size) b laid = laid
laid_at l types n (struct_form type) b laid = laid
laid_at l types n no_form b laid = tt

slot_laid : (l : Layout) (types : List TypeLayout) (path : List Step) (n : ℕ) (of : Content) (b : Start) (owner : Option ℕ) → IsSlot l b.slot owner → IfSome (seat_at types path (record { depth = n; form = slot_form of; start = b; owner = owner })) (IsSeatLaid l types)
slot_laid l types [] n of b owner laid = laid
slot_laid l types (to_member word ∷ path) n of b owner laid = tt
slot_laid l types (to_element i ∷ path) n of b owner laid = tt

field_laid : (l : Layout) (types : List TypeLayout) (path : List Step) (n header : ℕ) (fields : List FieldKind) (b : Start) (word : Name) → AreFields l header (length fields) b → IfSome (seat_behind (λ t. seat_at types path t) (field_seat header n fields b word)) (IsSeatLaid l types)
field_laid l types path n header [] b word laid = tt
field_laid l types path n header (f ∷ fields) b word laid =
    by_truth (λ (same : Bool). IfSome (seat_behind (λ t. seat_at types path t) (cond same (Some (record { depth = n; form = field_form f; start = b; owner = Some header })) (field_seat header n fields (moved b 1 0 0) word))) (IsSeatLaid l types))
    (slot_laid l types path n (some_bits (bits_in f.kind)) b (Some header) laid.0)
    (field_laid l types path n header fields (moved b 1 0 0) word laid.1) (bytes_eq f.called word)

element_laid : (l : Layout) (types : List TypeLayout) (path : List Step) (n : ℕ) (type : Name) (fields : ℕ) → ((a : Start) → IsHeader l fields a → IfSome (seat_at types path (seat n (header_form type) a)) (IsSeatLaid l types)) → (size : ℕ) (b : Start) (i : ℕ) → AreElements l fields size b → IfSome (seat_behind (λ t. seat_at types path t) (element_seat n type fields size b i)) (IsSeatLaid l types)
element_laid l types path n type fields each zero b i laid = tt
element_laid l types path n type fields each (suc size) b zero laid = each b laid.0
element_laid l types path n type fields each (suc size) b (suc i) laid = element_laid l types path n type fields each size (moved b fields 1 0) i laid.1

member_laid : (l : Layout) (types : List TypeLayout) (path : List Step) (n : ℕ) → ((k : Form) (a : Start) → IsLaid l types n k a → IfSome (seat_at types path (seat n k a)) (IsSeatLaid l types)) → (fields : List FieldKind) (b : Start) (word : Name) → AreMembers (λ k s. IsLaid l types n k s) (λ k s. behind types n k s) fields b → IfSome (seat_behind (λ t. seat_at types path t) (member_seat (λ k s. behind types n k s) n fields b word)) (IsSeatLaid l types)
member_laid l types path n each [] b word laid = tt
member_laid l types path n each (f ∷ fields) b word laid =
    let k = form_of f.kind in
    let next = behind types n k b in
    by_truth (λ (same : Bool). IfSome (seat_behind (λ t. seat_at types path t) (cond same (Some (seat n k b)) (member_seat (λ k s. behind types n k s) n fields next word))) (IsSeatLaid l types))
    (each k b laid.0) (member_laid l types path n each fields next word laid.1) (bytes_eq f.called word)

pub seat_laid : (l : Layout) (types : List TypeLayout) (path : List Step) (n : ℕ) (k : Form) (b : Start) → IsLaid l types n k b → IfSome (seat_at types path (seat n k b)) (IsSeatLaid l types)
seat_laid l types [] n k b laid = laid_at l types n k b laid
seat_laid l types (to_member word ∷ path) n (slot_form of) b laid = tt
seat_laid l types (to_element i ∷ path) n (slot_form of) b laid = tt
seat_laid l types (to_member word ∷ path) n (header_form type) b laid = field_laid l types path n b.header (fields_in types type) b word laid.each
seat_laid l types (to_element i ∷ path) n (header_form type) b laid = tt
seat_laid l types (to_member word ∷ path) n (stack_form type size) b laid = tt
seat_laid l types (to_element i ∷ path) n (stack_form type size) b laid =
    element_laid l types path n type (length (fields_in types type)) (λ a h. seat_laid l types path n (header_form type) a h) size b i laid.1
seat_laid l types (to_member word ∷ path) zero (struct_form type) b laid = tt
seat_laid l types (to_element i ∷ path) zero (struct_form type) b laid = tt
seat_laid l types (to_member word ∷ path) (suc n) (struct_form type) b laid =
    member_laid l types path n (λ k a h. seat_laid l types path n k a h) (fields_in types type) b word laid
seat_laid l types (to_element i ∷ path) (suc n) (struct_form type) b laid = tt
seat_laid l types (to_member word ∷ path) n no_form b laid = tt
seat_laid l types (to_element i ∷ path) n no_form b laid = tt
