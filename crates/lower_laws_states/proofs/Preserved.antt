-- What is preserved is a preserved set of the program, and becomes metadata of a state of the program.
use Rattle.std.proofs.Common.{◌≡◌, ℕ, ◌<◌, ◌^◌, true, Option, Some, None, List, [], ◌∷◌, length, map, fold, set, replicate, refl, sym, ap, subst, arith}
use Rattle.std.specs.Prelude.{slice_index}
use Rattle.std.specs.List.{AllZip}
use Rattle.std.specs.Option.{option_map_or}
use Rattle.std.proofs.lemmas.List.{length-map, length-replicate}
use Rattle.std.proofs.lemmas.List.Elements.{All-nil, All-replicate}
use Rattle.std.proofs.lemmas.Nat.{pow_pos, mod_below}
use Rattle.std.proofs.lemmas.Option.{get_or_from_slice_get}
use Rattle.p4x_bits.specs.BitLists.{IsOctets}
use Rattle.fabric.specs.declared.items.Item.{Item as QueueItem}
use Rattle.p414_syntax.specs.declared.calculations.Item.{Item}
use Rattle.p414_syntax.specs.declared.calculations.Item.TheVariants as item
use Rattle.p414_syntax.specs.declared.syntax.Decl.{Decl}
use Rattle.p414_syntax.specs.declared.syntax.Decl.TheVariants as decl
use Rattle.p414_syntax.specs.declared.syntax.Sort.TheVariants as sort
use Rattle.p414_syntax.specs.Views.{HeaderTypeTree}
use Rattle.p414_syntax.specs.Names.{Name, declared_in}
use Rattle.p414_syntax.specs.Fields.{type_of, field_bits}
use Rattle.p414_syntax.specs.Totals.{elements_of, field_count, fields_of_type}
use Rattle.p414_sem.specs.Slots.{Slot, standard, declared, slot_of}
use Rattle.p414_sem.specs.State.{Instance, State, read, new_instance, new_state}
use Rattle.p414_sem.specs.Packing.{type_widths, widths_of_type}
use Rattle.p414_sem.specs.Expanded.{Expanded, items_in_list}
use Rattle.p414_sem.specs.Fitting.{FitsHeader, FitsInstance, IsState, FitsPreserved, IsPreserved, IsItem}
use Rattle.p414_sem.specs.Passes.{Preserved, none_in, none_preserved, preserving_slot, preserving_item, preserved_by, with_preserved_from, with_preserved, begins}
use Rattle.lower_laws_states.specs.Fits.{widths_in}
use Rattle.lower_laws_states.proofs.States.{rebuilt}
use Rattle.lower_laws_states.proofs.Instances.{all_zip_set, with_instances_fit, zeros_fit}
use Rattle.lower_laws_states.proofs.Reading.{read_fits}

-- as many zeros as fields
fields_long : (ds : List Decl) (name : Name) → fields_of_type ds name ≡ length (widths_of_type ds name)
fields_long ds name = by (type_of ds name) where
  by : (o : Option HeaderTypeTree) → option_map_or field_count o 0 ≡ length (option_map_or type_widths o [])
  by None = refl
  by (Some t) = sym (length-map t.fields field_bits)

module _ (ds : List Decl) where
  -- sets

  none_fits : (xs : List Decl) → AllZip (FitsPreserved ds) (declared_in sort.Instance xs) (map (none_in ds) (declared_in sort.Instance xs))
  none_fits [] = tt
  none_fits (decl.Header x ∷ xs) = (refl, none_fits xs)
  none_fits (decl.Metadata x ∷ xs) = (zeros_fit (widths_of_type ds x.header_type) _ (fields_long ds x.header_type), none_fits xs)
  none_fits (_ ∷ xs) = none_fits xs

  none_there : (old : List ℕ) (f n : ℕ) → old ≡ [] → set old f n ≡ []
  none_there [] f n e = refl
  none_there (x ∷ old) f n e = absurd (cc e)

  one_kept : (d : Decl) (old : List ℕ) (f n : ℕ) → n < 2 ^ slice_index (widths_in ds d) f → FitsPreserved ds d old → FitsPreserved ds d (set old f n)
  one_kept (decl.Metadata x) old f n lt fit =
      all_zip_set _ (widths_of_type ds x.header_type) old f n 0 fit (λ w e one. subst (λ v. n < 2 ^ v) (get_or_from_slice_get (widths_of_type ds x.header_type) f w 0 e) lt)
  one_kept (_) old f n lt fit = none_there old f n fit

  module _ (s : State) (state : IsState ds s) where
    slot_kept : (q : Preserved) (slot : Slot) → IsPreserved ds q → IsPreserved ds (preserving_slot s q slot)
    slot_kept q (standard which) fit = fit
    slot_kept q (declared i e f) fit =
        all_zip_set (FitsPreserved ds) (declared_in sort.Instance ds) q i _ [] fit
        (λ d is old. one_kept d _ f _ (subst (λ (o : Option Decl). read s (declared i e f) < 2 ^ slice_index (option_map_or (widths_in ds) o []) f) is (read_fits ds s state (declared i e f))) old)

    item_kept : (q : Preserved) (i : Item) → IsPreserved ds q → IsPreserved ds (preserving_item ds s q i)
    item_kept q item.Payload fit = fit
    item_kept q (item.Number n) fit = fit
    item_kept q (item.Field r) fit = slot_kept q (slot_of ds r) fit
    item_kept q (item.Instance i) fit = fit

    items_kept : (items : List Item) (q : Preserved) → IsPreserved ds q → IsPreserved ds (fold (preserving_item ds s) q items)
    items_kept [] q fit = fit
    items_kept (i ∷ items) q fit = items_kept items (preserving_item ds s q i) (item_kept q i fit)

    pub preserved_fits : (x : Expanded) (list : Option ℕ) → IsPreserved ds (preserved_by ds x s list)
    preserved_fits x list = items_kept (option_map_or (items_in_list x) list []) (none_preserved ds) (none_fits ds)

  -- states

  with_fit : (xs : List Decl) (q : Preserved) (is : List Instance) → AllZip (FitsPreserved ds) xs q → AllZip (FitsInstance ds) xs is → AllZip (FitsInstance ds) xs (with_preserved_from xs q is)
  with_fit [] [] [] kept fit = tt
  with_fit [] (n ∷ q) is kept fit = absurd kept
  with_fit [] [] (i ∷ is) kept fit = absurd fit
  with_fit (x ∷ xs) [] is kept fit = absurd kept
  with_fit (x ∷ xs) (n ∷ q) [] kept fit = absurd fit
  with_fit (decl.Header x ∷ xs) (n ∷ q) (i ∷ is) kept fit = (fit.0, with_fit xs q is kept.1 fit.1)
  with_fit (decl.Metadata x ∷ xs) (n ∷ q) (i ∷ is) kept fit = (
    record {
      numbers = n;
      is = ap (λ p. record { elements = record { valid = true; numbers = n } ∷ []; place = p }) (ap (λ (i : Instance). i.place) fit.0.is);
      fit = kept.0;
    },
    with_fit xs q is kept.1 fit.1,
  )
  with_fit (_ ∷ xs) (n ∷ q) (i ∷ is) kept fit = absurd fit.0

  pub with_preserved_fits : (q : Preserved) (s : State) → IsPreserved ds q → IsState ds s → IsState ds (with_preserved ds q s)
  with_preserved_fits q s kept state = with_instances_fit ds s state _ (with_fit (declared_in sort.Instance ds) q s.instances kept state.instances)

  new_fit : (xs : List Decl) → AllZip (FitsInstance ds) (declared_in sort.Instance xs) (map (new_instance ds) (declared_in sort.Instance xs))
  new_fit [] = tt
  new_fit (decl.Header x ∷ xs) = (
    record {
      each = All-replicate (FitsHeader (widths_of_type ds x.header_type)) (elements_of x.size) _ (record {
        numbers = zeros_fit (widths_of_type ds x.header_type) _ (fields_long ds x.header_type);
        zeros = λ e. ap (λ n. replicate n 0) (fields_long ds x.header_type);
      });
      count = length-replicate (elements_of x.size) _;
      place = omega arith;
    },
    new_fit xs,
  )
  new_fit (decl.Metadata x ∷ xs) = (
    record {
      numbers = replicate (fields_of_type ds x.header_type) 0;
      is = refl;
      fit = zeros_fit (widths_of_type ds x.header_type) _ (fields_long ds x.header_type);
    },
    new_fit xs,
  )
  new_fit (_ ∷ xs) = new_fit xs

  pub new_fits : (octets : List ℕ) (port kind : ℕ) → IsOctets octets → port < 2 ^ 9 → kind < 2 ^ 32 → IsState ds (new_state ds octets port kind)
  new_fits octets port kind are lt small =
      rebuilt ds (new_state ds octets port kind) (new_fit ds) are
      (record { arrived = lt; spec = omega arith; left = omega arith; long = mod_below (length octets) (2 ^ 32) (pow_pos 32); kind = small })
      (record { i2e = tt; e2e = tt; again = tt; round = tt }) (All-nil _)

  pub begins_fits : (came : QueueItem Preserved) → IsItem ds came → IsState ds (begins ds came)
  begins_fits came is = with_preserved_fits came.kept _ is.kept (new_fits came.octets came.port came.instance is.octets (omega (arith, is.port)) is.instance)
