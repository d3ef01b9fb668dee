-- The types of the sample fit.
use Rattle.std.proofs.Common.{◌≡◌, ◌≢◌, inl, inr, ℕ, zero, suc, ◌<◌, true, false, length, map, refl, arith}
use Rattle.std.specs.Prelude.{codes, get_or}
use Rattle.p414_syntax.specs.Names.{declared_in}
use Rattle.p414_syntax.specs.declared.syntax.Sort.TheVariants as sort
use Rattle.p416_syntax.specs.declared.program.Decl16.TheVariants as decl
use Rattle.v1_core.specs.Passes.{is_in_list}
use Rattle.agreement_of_meanings.specs.Shown.{is_metadata, name_of, fields_of, shown_at, width_of, NamesDiffer, FieldsDiffer}
use Rattle.agreement_of_meanings.proofs.Names.{differ_names}
use Rattle.lower_laws_base.specs.Context.{shown_on}
use Rattle.lower_laws_base.specs.Types.{ShownDecl}
use Rattle.p414_sem.specs.Expanded.{items_in_list}
use Rattle.lower_laws_passes.specs.Preserving.{ItemsAtFirst, struct_field_at}
use Rattle.lower_laws_states.specs.Fits.{widths_at}
use Rattle.lower_laws_program.specs.Program.{named_type, DeclaresOnce}
use Rattle.lower_laws_program.specs.TypesFit.{StackShown, instance_type, fields_written, bit_field_of, member, struct_of, TypesFit}
use Rattle.lower_laws_block_rules.specs.Program.{LayoutWide}
use Rattle.lower_laws_block_rules.proofs.SampleProgram.{ds, expanded, g, t, p, fields_h, fields_m, size_of}
use Rattle.lower_laws_states.specs.Expansions.{Has}

pub once : DeclaresOnce p
once = refl

three : (P : ℕ → Type 0) → P 0 → P 1 → P 2 → (k : ℕ) → k < 3 → P k
three P a b c zero lt = a
three P a b c (suc zero) lt = b
three P a b c (suc (suc zero)) lt = c
three P a b c (suc (suc (suc k))) lt = absurd (omega (arith, lt))

fields_differ : FieldsDiffer fields_h
fields_differ zero zero a b apart = absurd (apart refl)
fields_differ zero (suc zero) a b apart = differ_names (codes "x") (codes "y") refl
fields_differ zero (suc (suc zero)) a b apart = differ_names (codes "x") (codes "s") refl
fields_differ (suc zero) zero a b apart = differ_names (codes "y") (codes "x") refl
fields_differ (suc zero) (suc zero) a b apart = absurd (apart refl)
fields_differ (suc zero) (suc (suc zero)) a b apart = differ_names (codes "y") (codes "s") refl
fields_differ (suc (suc zero)) zero a b apart = differ_names (codes "s") (codes "x") refl
fields_differ (suc (suc zero)) (suc zero) a b apart = differ_names (codes "s") (codes "y") refl
fields_differ (suc (suc zero)) (suc (suc zero)) a b apart = absurd (apart refl)
fields_differ zero (suc (suc (suc k))) a b apart = absurd (omega (arith, b))
fields_differ (suc zero) (suc (suc (suc k))) a b apart = absurd (omega (arith, b))
fields_differ (suc (suc zero)) (suc (suc (suc k))) a b apart = absurd (omega (arith, b))
fields_differ (suc (suc (suc j))) k a b apart = absurd (omega (arith, a))

one_field : FieldsDiffer fields_m
one_field zero zero a b apart = absurd (apart refl)
one_field (suc j) k a b apart = absurd (omega (arith, a))
one_field j (suc k) a b apart = absurd (omega (arith, b))

differ : NamesDiffer g.names.instances
differ = record { instances = each; fields = three (λ k. FieldsDiffer (fields_of (shown_at g.names.instances k))) fields_differ fields_differ one_field } where
  each : (j k : ℕ) → j < 3 → k < 3 → j ≢ k → is_metadata (shown_at g.names.instances j) ≡ is_metadata (shown_at g.names.instances k) → name_of (shown_at g.names.instances j) ≢ name_of (shown_at g.names.instances k)
  each zero zero a b apart same = absurd (apart refl)
  each zero (suc zero) a b apart same = differ_names (codes "h") (codes "k") refl
  each zero (suc (suc zero)) a b apart same = absurd (cc same)
  each (suc zero) zero a b apart same = differ_names (codes "k") (codes "h") refl
  each (suc zero) (suc zero) a b apart same = absurd (apart refl)
  each (suc zero) (suc (suc zero)) a b apart same = absurd (cc same)
  each (suc (suc zero)) zero a b apart same = absurd (cc same)
  each (suc (suc zero)) (suc zero) a b apart same = absurd (cc same)
  each (suc (suc zero)) (suc (suc zero)) a b apart same = absurd (apart refl)
  each (suc (suc (suc j))) k a b apart same = absurd (omega (arith, a))
  each j (suc (suc (suc k))) a b apart same = absurd (omega (arith, b))

pub types_fit : TypesFit g ds expanded t p.types
types_fit = record {
  differ = differ;
  shown = record { all = refl; each = λ k lt d. three (λ j. ShownDecl ds (get_or (declared_in sort.Instance ds) j d) (shown_on g j) (size_of j)) (refl, refl, refl) (refl, refl) (refl, refl) k lt };
  stacks = λ k lt d. three (λ j. StackShown (get_or (declared_in sort.Instance ds) j d) (shown_on g j)) (λ is. absurd (cc is)) (λ is. (codes "k", fields_h, refl)) tt k lt;
  widths = three (λ j. widths_at ds j ≡ map width_of (fields_of (shown_on g j))) refl refl refl;
  headers_struct = inr (inr (inl refl));
  metadata_struct = inr (inr (inr (inl refl)));
  header = three (λ k. is_metadata (shown_on g k) ≡ false → Has p.types (decl.Header (record { name = t.type_of k; fields = map bit_field_of (fields_of (shown_on g k)) }))) (λ is. inl refl) (λ is. inl refl) (λ is. absurd (cc is));
  struct = three (λ k. is_metadata (shown_on g k) ≡ true → Has p.types (struct_of (t.type_of k) (fields_written g t k))) (λ is. absurd (cc is)) (λ is. absurd (cc is)) (λ is. inr (inl refl));
  header_member = three (λ k. is_metadata (shown_on g k) ≡ false → Has t.headers (member (instance_type (shown_on g k) (t.type_of k) (g.size_of k)) (name_of (shown_on g k)))) (λ is. inl refl) (λ is. inr (inl refl)) (λ is. absurd (cc is));
  metadata_member = three (λ k. is_metadata (shown_on g k) ≡ true → Has t.metadata (member (named_type (t.type_of k)) (name_of (shown_on g k)))) (λ is. absurd (cc is)) (λ is. absurd (cc is)) (λ is. inl refl);
  headers_once = refl;
  metadata_once = refl;
  header_members = refl;
  metadata_members = refl;
  standard_members = refl;
  first = λ list k lt is. first list k;
  marked = λ list number is. absurd (cc is);
  unmarked = λ number none k f lt is within. unmarked k f lt is within number;
} where
  first : (list k : ℕ) → ItemsAtFirst ds k (items_in_list expanded list)
  first zero k = (λ e. refl, (tt, (tt, tt)))
  first (suc list) k = tt

  unmarked : (k f : ℕ) → k < 3 → is_metadata (shown_on g k) ≡ true → f < length (fields_written g t k) → (number : ℕ) → is_in_list number (struct_field_at (fields_written g t k) f) ≡ false
  unmarked zero f lt is within number = absurd (cc is)
  unmarked (suc zero) f lt is within number = absurd (cc is)
  unmarked (suc (suc zero)) zero lt is within number = refl
  unmarked (suc (suc zero)) (suc f) lt is within number = absurd (omega (arith, within))
  unmarked (suc (suc (suc k))) f lt is within number = absurd (omega (arith, lt))

pub wide : LayoutWide g
wide zero zero a b = (omega arith, omega arith)
wide zero (suc zero) a b = (omega arith, omega arith)
wide zero (suc (suc zero)) a b = (omega arith, omega arith)
wide (suc zero) zero a b = (omega arith, omega arith)
wide (suc zero) (suc zero) a b = (omega arith, omega arith)
wide (suc zero) (suc (suc zero)) a b = (omega arith, omega arith)
wide (suc (suc zero)) zero a b = (omega arith, omega arith)
wide zero (suc (suc (suc k))) a b = absurd (omega (arith, b))
wide (suc zero) (suc (suc (suc k))) a b = absurd (omega (arith, b))
wide (suc (suc zero)) (suc k) a b = absurd (omega (arith, b))
wide (suc (suc (suc i))) k a b = absurd (omega (arith, a))
