-- Elements of stacks by their numbers, and the same part of another element.
use Rattle.std.proofs.Common.{◌≡◌, ℕ, zero, suc, ◌+◌, ◌*◌, ◌<◌, ◌≤◌, nat_lt, not, Bool, true, false, cond, Some, List, [], ◌∷◌, refl, sym, ap, ◌∙◌, arith}
use Rattle.std.specs.Prelude.{option_map}
use Rattle.std.specs.Str.{bytes_eq}
use Rattle.std.proofs.lemmas.Bool.{ltb-true, eqb-false}
use Rattle.p416_syntax.specs.Names.{Name}
use Rattle.p416_syntax.specs.Scopes.{Layout as TypeLayout, FieldKind, fields_in}
use Rattle.v1_core.specs.Values.{to_member}
use Rattle.v1_core.specs.Seats.{header_form, Start, moved, Seat, seat, field_form, field_seat, element_seat, stepped_seat}
use Rattle.v1_core.proofs.Making.{same_start}
use Rattle.v1_core.specs.declared.node.Which.{Which}
use Rattle.v1_core.specs.declared.node.Which.TheVariants.{Next, Last}
use Rattle.v1_core.specs.Ready.{element_by, is_past}
use Rattle.v1_place_laws.specs.Finding.{in_element}

next_moved : (b : Start) (fields j : ℕ) → moved (moved b fields 1 0) (j * fields) j 0 ≡ moved b (suc j * fields) (suc j) 0
next_moved b fields j = same_start (moved (moved b fields 1 0) (j * fields) j 0) (moved b (suc j * fields) (suc j) 0) (omega arith) (omega arith) (omega arith)

not_moved : (b : Start) (fields : ℕ) → moved b (0 * fields) 0 0 ≡ b
not_moved b fields = same_start (moved b (0 * fields) 0 0) b (omega arith) (omega arith) (omega arith)

-- the element with a number
pub element_at : (n : ℕ) (type : Name) (fields size : ℕ) (b : Start) (j : ℕ) → j < size → element_seat n type fields size b j ≡ Some (in_element fields j (seat n (header_form type) b))
element_at n type fields zero b j lt = absurd (omega (arith, lt))
element_at n type fields (suc size) b zero lt = ap (λ (a : Start). Some (seat n (header_form type) a)) (sym (not_moved b fields))
element_at n type fields (suc size) b (suc j) lt =
    element_at n type fields size (moved b fields 1 0) j (omega (arith, lt))
    ∙ ap (λ (a : Start). Some (seat n (header_form type) a)) (next_moved b fields j)

-- a field of it

moved_apart : (b : Start) (k j : ℕ) → moved (moved b k j 0) 1 0 0 ≡ moved (moved b 1 0 0) k j 0
moved_apart b k j = same_start (moved (moved b k j 0) 1 0 0) (moved (moved b 1 0 0) k j 0) (omega arith) (omega arith) (omega arith)

field_moved : (owner n apart j : ℕ) (fields : List FieldKind) (b : Start) (word : Name) → field_seat (owner + j) n fields (moved b (j * apart) j 0) word ≡ option_map (in_element apart j) (field_seat owner n fields b word)
field_moved owner n apart j [] b word = refl
field_moved owner n apart j (f ∷ fields) b word =
    by (bytes_eq f.called word)
    (ap (λ (a : Start). field_seat (owner + j) n fields a word) (moved_apart b (j * apart) j) ∙ field_moved owner n apart j fields (moved b 1 0 0) word) where
      own : Seat
      own = record { depth = n; form = field_form f; start = moved b (j * apart) j 0; owner = Some (owner + j) }

      by : (same : Bool) → field_seat (owner + j) n fields (moved (moved b (j * apart) j 0) 1 0 0) word ≡ option_map (in_element apart j) (field_seat owner n fields (moved b 1 0 0) word) → cond same (Some (record { depth = n; form = field_form f; start = moved b (j * apart) j 0; owner = Some (owner + j) })) (field_seat (owner + j) n fields (moved (moved b (j * apart) j 0) 1 0 0) word) ≡ option_map (in_element apart j) (cond same (Some (record { depth = n; form = field_form f; start = b; owner = Some owner })) (field_seat owner n fields (moved b 1 0 0) word))
      by true rest = refl
      by false rest = rest

pub header_moved : (types : List TypeLayout) (n : ℕ) (type : Name) (b : Start) (apart j : ℕ) (word : Name) → stepped_seat types n (header_form type) (moved b (j * apart) j 0) (to_member word) ≡ option_map (in_element apart j) (stepped_seat types n (header_form type) b (to_member word))
header_moved types n type b apart j word = field_moved b.header n apart j (fields_in types type) b word

-- an element that the place of a stack tells is among those of the stack, where there is one
pub not_past : (which : Which) (place size : ℕ) → place ≤ size → is_past which place size ≡ false → element_by which place < size
not_past Next place size le past = ltb-true place size (turned (nat_lt place size) past) where
  turned : (b : Bool) → not b ≡ false → b ≡ true
  turned true e = refl
  turned false e = absurd (cc e)
not_past Last place size le past = omega (arith, le, eqb-false place 0 past)
