-- Where parts begin and end.
use Rattle.std.proofs.Common.{ℕ, zero, suc, ◌*◌, ◌≤◌, List, [], ◌∷◌, length, arith}
use Rattle.p416_syntax.specs.Scopes.{Layout, FieldKind, fields_in}
use Rattle.v1_core.specs.Seats.{Form, slot_form, header_form, stack_form, struct_form, no_form, form_of, Start, moved, behind_members, behind, Seat, behind_seat}

-- one begins no later than another
pub record Before (a b : Start) : Type 0 where
  pub slot : a.slot ≤ b.slot
  pub header : a.header ≤ b.header
  pub stack : a.stack ≤ b.stack

pub at_once : (b : Start) → Before b b
at_once b = record { slot = omega arith; header = omega arith; stack = omega arith }

pub before_both : (a b c : Start) → Before a b → Before b c → Before a c
before_both a b c x y = record {
  slot = omega (arith, x.slot, y.slot);
  header = omega (arith, x.header, y.header);
  stack = omega (arith, x.stack, y.stack);
}

pub before_moved : (b : Start) (s h k : ℕ) → Before b (moved b s h k)
before_moved b s h k = record { slot = omega arith; header = omega arith; stack = omega arith }

pub members_before : (next : Form → Start → Start) → ((k : Form) (b : Start) → Before b (next k b)) → (fields : List FieldKind) (b : Start) → Before b (behind_members next fields b)
members_before next each [] b = at_once b
members_before next each (f ∷ fields) b =
    before_both b (next (form_of f.kind) b) (behind_members next fields (next (form_of f.kind) b)) (each (form_of f.kind) b)
    (members_before next each fields (next (form_of f.kind) b))

-- a value ends no earlier than it begins
pub ends_behind : (types : List Layout) (n : ℕ) (k : Form) (b : Start) → Before b (behind types n k b)
ends_behind types n (slot_form of) b = before_moved b 1 0 0
ends_behind types n (header_form type) b = before_moved b (length (fields_in types type)) 1 0
ends_behind types n (stack_form type size) b = before_moved b (size * length (fields_in types type)) size 1
ends_behind types zero (struct_form type) b = at_once b
ends_behind types (suc n) (struct_form type) b =
    members_before (λ k s. behind types n k s) (λ k s. ends_behind types n k s) (fields_in types type) b
ends_behind types n no_form b = at_once b

-- a part lies within the whole
pub record Within (types : List Layout) (b e : Start) (s : Seat) : Type 0 where
  pub begins : Before b s.start
  pub ends : Before (behind_seat types s) e

pub within_more : (types : List Layout) (a b e f : Start) (s : Seat) → Before a b → Before e f → Within types b e s → Within types a f s
within_more types a b e f s x y w = record {
  begins = before_both a b s.start x w.begins;
  ends = before_both (behind_seat types s) e f w.ends y;
}
