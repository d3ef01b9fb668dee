-- The sizes of what a program of the one-table form becomes.
use Rattle.std.proofs.Common.{◌≡◌, ℕ, ◌+◌, ◌*◌, ◌%◌, ◌==◌, ◌≤◌, Bool, true, false, not, ◌&&◌, nat_le, List, [], ◌∷◌, length, map, sum, refl, sym, ◌∙◌, ap, arith, leb-true, eqb-true}
use Rattle.std.specs.List.{list_all, sum_by}
use Rattle.std.proofs.lemmas.List.Sums.{sum_by-cons, sum-map}
use Rattle.state_store.specs.Ports.{drop_port}
use Rattle.p414_one_table.specs.declared.program.Field.{Field}
use Rattle.p414_one_table.specs.declared.program.OneTable14.{OneTable14}
use Rattle.p414_one_table.specs.Programs.{is_one_table, are_fields, is_id, is_width, repeats}
use Rattle.p4x_cmd.specs.internal.Lowering.{lowered, lowered_field}
use Rattle.p4x_cmd.specs.internal.Plain.{IsSized}

-- the two parts of a test
both : (a b : Bool) → (a && b) ≡ true → (a ≡ true) × (b ≡ true)
both true b h = (refl, h)
both false b h = absurd (cc)

pub lowered_sum : (fields : List Field) → sum_by (λ f. f.width) (map lowered_field fields) ≡ sum_by (λ f. f.width) fields
lowered_sum [] = refl
lowered_sum (f ∷ fields) =
    sum_by-cons (λ x. x.width) (lowered_field f) (map lowered_field fields) ∙ ap (λ (n : ℕ). f.width + n) (lowered_sum fields) ∙ sym (sum_by-cons (λ x. x.width) f fields)

sum_bound : (fields : List Field) → list_all (λ f. is_id f.name && is_width f.width) fields ≡ true → sum_by (λ f. f.width) fields ≤ 128 * length fields
sum_bound [] h = omega arith
sum_bound (f ∷ fields) h =
    let parts = both (is_id f.name && is_width f.width) (list_all (λ (g : Field). is_id g.name && is_width g.width) fields) h in
    let width = both (nat_le 1 f.width) (nat_le f.width 128) (both (is_id f.name) (is_width f.width) parts.0).1 in
    omega (arith, leb-true f.width 128 width.1, sum_bound fields parts.1, sum_by-cons (λ (x : Field). x.width) f fields)

pub lowered_sized : (p : OneTable14) → is_one_table p ≡ true → IsSized (lowered p)
lowered_sized p h =
    let to_table = both (are_fields p.fields && is_id p.action && nat_le p.port drop_port) (is_id p.table) h in
    let to_port = both (are_fields p.fields && is_id p.action) (nat_le p.port drop_port) to_table.0 in
    let fields = (both (are_fields p.fields) (is_id p.action) to_port.0).0 in
    let count = nat_le 1 (length p.fields) && nat_le (length p.fields) 64 in
    let named = list_all (λ (f : Field). is_id f.name && is_width f.width) p.fields in
    let sized = both (count && named && not (repeats p.fields)) (sum_by (λ (f : Field). f.width) p.fields % 8 == 0) fields in
    let judged = both count named (both (count && named) (not (repeats p.fields)) sized.0).0 in
    let few = both (nat_le 1 (length p.fields)) (nat_le (length p.fields) 64) judged.0 in
    record {
      bits = omega (arith, lowered_sum p.fields, sum_bound p.fields judged.1, leb-true (length p.fields) 64 few.1);
      even = ap (λ (n : ℕ). n % 8) (lowered_sum p.fields) ∙ eqb-true _ _ sized.1;
      port = leb-true p.port drop_port to_port.1;
    }

-- the widths of the fields, as the meaning of P4_14 lists them
pub sum_of14 : (fields : List Field) → sum (map (λ f. f.width) fields) ≡ sum_by (λ f. f.width) fields
sum_of14 fields = sum-map (λ f. f.width) fields
