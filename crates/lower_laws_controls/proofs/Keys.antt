-- Keys of a table give the same numbers, and have the same kinds and widths.
use Rattle.std.proofs.Common.{◌≡◌, ℕ, ◌<◌, ◌%◌, ◌^◌, cond, Option, Some, None, List, [], ◌∷◌, map, refl, sym, ap, ap₂, ◌∙◌, arith}
use Rattle.std.specs.Prelude.{codes, bit_and}
use Rattle.std.proofs.Math.Nat.{mod-eq_of_lt}
use Rattle.std.proofs.lemmas.Nat.{pow_pos, mod_below, and_mod, and_le_l}
use Rattle.state_store.specs.State.{Contents}
use Rattle.p414_syntax.specs.declared.lexeme.Literal.{Literal}
use Rattle.match_core.specs.declared.signatures.KeySpec.{KeySpec}
use Rattle.p414_syntax.specs.declared.tables.ReadKey.{ReadKey}
use Rattle.p414_syntax.specs.declared.tables.ReadKey.TheVariants as read_key
use Rattle.p414_syntax.specs.declared.tables.Read.{Read}
use Rattle.p414_syntax.specs.declared.syntax.Decl.{Decl}
use Rattle.p414_syntax.specs.Names.{Name}
use Rattle.p414_sem.specs.Slots.{Slot, slot_of, element_of, bits_of_ref}
use Rattle.p414_sem.specs.State.{read as read14}
use Rattle.p414_sem.specs.Effects.{Moment as Moment14}
use Rattle.p414_sem.specs.Controls.{key_value as value14}
use Rattle.p414_sem.specs.Signatures.{key_spec as spec14}
use Rattle.p416_syntax.specs.declared.node.BinaryOperator.TheVariants.{BitAnd}
use Rattle.p416_syntax.specs.Kinds.{Kind, bits, boolean, unknown}
use Rattle.p416_syntax.specs.Scopes.{Scope, sort_of}
use Rattle.p416_syntax.specs.Calls.{value, method_signature}
use Rattle.p416_syntax.specs.Expressions.{kind_of, joint_bits, call_kind}
use Rattle.v1_core.specs.Values.{no_value, no_members, a_number, as_number}
use Rattle.v1_core.specs.Frames.{Frame, Owner, Moment, with_inner}
use Rattle.v1_core.specs.Signatures.{key_scope, key_width, kind_named, key_spec as spec16}
use Rattle.v1_core.specs.Surroundings.{Surroundings, by_root, quiet_world}
use Rattle.v1_core.specs.Expressions.{Valued}
use Rattle.v1_core.specs.Tables.{key_value as value16}
use Rattle.p416_syntax.specs.declared.parts.Note.{Note}
use Rattle.p416_syntax.specs.Tree.{name}
use Rattle.v1_core.specs.Calls.{object_in}
use Rattle.lower_laws_base.specs.Context.{Lowering, words_of, shown_in, object_at, now, Aside, IsCopied, Item, a_root, a_copy, an_object, a_function, an_enumeration, the_packet, IsItem, item_name, item_sort, Sees, IsSlot, Looks}
use Rattle.lower_laws_base.specs.Mirror.{width_in, slot_exp}
use Rattle.lower_laws_base.proofs.Means.{means_slot, means_part}
use Rattle.lower_laws_base.proofs.Gives.{gives_literal, gives_both, same_number}
use Rattle.lower_laws_base.proofs.Shapes.{slot_bounded}
use Rattle.lower_laws_base.proofs.Sources.{gives_slot}
use Rattle.lower_laws_base.proofs.Writes.{kind_is, header_shows}
use Rattle.lower_laws_base.proofs.Running.{stands_inner}
use Rattle.lower_laws_controls.specs.Alike.{Level}
use Rattle.lower_laws_controls.specs.Keys.{masked_key, key_exp, key_kind, key_notes, key_of, KeyFits, KeysFit}
use Rattle.lower_laws_controls.proofs.Statements.{looks_at}
use Rattle.lower_laws_base.specs.Gives.{Gives}

-- a mask that is cut to the field
cut_mask : (w x mask : ℕ) → x < 2 ^ w → bit_and x (mask % 2 ^ w) ≡ bit_and x mask
cut_mask w x mask lt =
    let low : bit_and x mask < 2 ^ w = omega (arith, and_le_l x mask, lt) in
    ap (λ y. bit_and y (mask % 2 ^ w)) (sym (mod-eq_of_lt lt)) ∙ sym (and_mod x mask w) ∙ mod-eq_of_lt low

module _ (c : Lowering) (b : Surroundings) (around : c.world.around ≡ b) (none : c.parameters ≡ []) (sees : Sees c b.scope []) (ds : List Decl) where
  -- what stands around a key

  abbrev quiet : Lowering
  quiet = record c { world = quiet_world b }

  abbrev s : Scope
  s = key_scope b.scope

  is_copied : (o : Owner) → IsCopied quiet o → IsCopied c o
  is_copied o is = record { place = is.place; within = is.within; stands = is.stands }

  is_item : (x : Item) → IsItem quiet x → IsItem c x
  is_item (a_root o) is = is
  is_item (a_copy o) is = is_copied o is
  is_item (an_object j) is = is
  is_item (a_function called) is = is
  is_item (an_enumeration e) is = is
  is_item the_packet is = is

  named_quiet : (x : Item) → IsItem c x → sort_of s (item_name quiet x) ≡ item_sort quiet x
  named_quiet (a_root o) is = sees.declares.named (a_root o) is
  named_quiet (a_copy o) is = sees.declares.named (a_copy o) is
  named_quiet (an_object j) is = sees.declares.named (an_object j) is
  named_quiet (a_function called) is = sees.declares.named (a_function called) is
  named_quiet (an_enumeration e) is = sees.declares.named (an_enumeration e) is
  named_quiet the_packet is = sees.declares.named the_packet is

  sees_quiet : Sees quiet s []
  sees_quiet = record {
    declares = record {
      differ = sees.declares.differ;
      apart = sees.declares.apart;
      named = λ x is. named_quiet x (is_item x is);
      rooted = λ o is. ap (λ (x : Surroundings). by_root x.roots (c.root o)) (sym around) ∙ sees.declares.rooted o is;
      copied = λ o is. ap (λ (x : Surroundings). by_root x.roots (c.copy o)) (sym around) ∙ sees.declares.copied o (is_copied o is);
      numbered = λ j lt. ap (λ (x : Surroundings). object_in (quiet_world x) (name (object_at c.objects j).called)) (sym around) ∙ sees.declares.numbered j lt;
      stored = sees.declares.stored;
      shape = sees.declares.shape;
      instance = sees.declares.instance;
      field = sees.declares.field;
      standard_is = sees.declares.standard_is;
      standard = sees.declares.standard;
      error = sees.declares.error;
      checksum = sees.declares.checksum;
    };
    locals = sees.locals;
    distinct = sees.distinct;
    apart = λ x is j lt. absurd (omega (arith, lt));
  }

  module _ (aside : Aside) (m : Moment14) (n : Moment) (stands : Level c.layout aside m n) where
    abbrev here : Moment
    here = with_inner no_members n

    there : Looks quiet s [] [] [] now m.state here.frame
    there = looks_at quiet s sees_quiet none aside m here (stands_inner c.layout [] [] [] [] aside m n no_members refl refl stands)

    abbrev width : Slot → ℕ
    width slot = width_in (words_of c) slot

    gives_masked_key : (slot : Slot) (mask : Literal) → IsSlot c.layout slot → Gives (quiet_world b) s here (masked_key (words_of c) slot (Some mask)) (width slot) (bit_and (read14 m.state slot) mask.value)
    gives_masked_key slot mask is =
        let x = read14 m.state slot in
        gives_both (quiet_world b) s here BitAnd (λ a b p m. refl) (λ a b. refl) _ _ (width slot) x (mask.value % 2 ^ width slot) (bit_and x mask.value)
        (ap (a_number (width slot)) (cut_mask (width slot) x mask.value (slot_bounded c.layout m.state there.seen.shaped slot is)))
        (gives_slot quiet s [] [] [] now m.state here there slot is)
        (gives_literal (quiet_world b) s here (width slot) (mask.value % 2 ^ width slot) (mod_below mask.value (2 ^ width slot) (pow_pos (width slot))))

    key_same : (k : ReadKey) (kind : Name) (notes : List Note) (mask : Option Literal) → KeyFits c.layout ds k → value16 b n (record { exp = key_exp (words_of c) ds k mask; kind = kind; notes = notes }) ≡ value14 ds m.state (record { key = k; mask = mask; kind = kind })
    key_same (read_key.Field f) kind notes None is = ap (λ (x : Valued). as_number x.value) ((gives_slot quiet s [] [] [] now m.state here there (slot_of ds f) is.0).value _)
    key_same (read_key.Field f) kind notes (Some mask) is = ap (λ (x : Valued). as_number x.value) ((gives_masked_key (slot_of ds f) mask is.0).value _)
    key_same (read_key.Instance i) kind notes mask is =
        ap (λ (x : Valued). as_number x.value) ((header_shows quiet s [] [] [] now m.state here there (element_of ds i) is).value (value boolean))

    pub keys_same : (rs : List Read) → KeysFit c.layout ds rs → map (value16 b n) (map (key_of (words_of c) ds) rs) ≡ map (value14 ds m.state) rs
    keys_same [] fit = refl
    keys_same (r ∷ rs) fit = ap₂ (λ x xs. x ∷ xs) (key_same r.key (key_kind r.key r.kind) (key_notes (words_of c) ds r.key r.mask) r.mask fit.0) (keys_same rs fit.1)

  -- kinds and widths

  abbrev any_frame : Frame
  any_frame = record { headers = no_value; metadata = no_value; standard = no_value; variables = no_members; inner = no_members; clone_i2e = None; clone_e2e = None; resubmit = None; recirculate = None; events = [] }

  module _ (store : Contents) where
    abbrev any_moment : Moment
    any_moment = record { frame = any_frame; store = store; unparsed = []; emitted = []; work = 0; stopped = None; hit = None }

    slot_kind : (slot : Slot) → IsSlot c.layout slot → kind_of s (slot_exp (words_of c) now slot) ≡ bits (width_in (words_of c) slot)
    slot_kind slot is = (means_slot quiet s [] sees_quiet [] any_moment refl now tt slot is).kind

    spec_same : (k : ReadKey) (kind : Name) (mask : Option Literal) → KeyFits c.layout ds k → spec16 b.scope (key_of (words_of c) ds (record { key = k; mask = mask; kind = kind })) ≡ spec14 ds (record { key = k; mask = mask; kind = kind })
    spec_same (read_key.Field f) kind None is =
        let e : KeySpec = record { kind = kind_named kind; width = bits_of_ref ds f } in
        ap (λ (k : Kind). record e { width = key_width k }) (slot_kind (slot_of ds f) is.0) ∙ ap (λ w. record e { width = w }) is.1
    spec_same (read_key.Field f) kind (Some mask) is =
        let e : KeySpec = record { kind = kind_named kind; width = bits_of_ref ds f } in
        let w = width_in (words_of c) (slot_of ds f) in
        ap (λ (k : Kind). record e { width = key_width (joint_bits k (bits w)) }) (slot_kind (slot_of ds f) is.0)
        ∙ ap (λ t. record e { width = key_width (cond t (bits w) unknown) }) (same_number w)
        ∙ ap (λ w. record e { width = w }) is.1
    spec_same (read_key.Instance i) kind mask is =
        let at = element_of ds i in
        let e : KeySpec = record { kind = kind_named (codes "exact"); width = 1 } in
        ap (λ (k : Kind). record e { width = key_width (call_kind (method_signature k (codes "isValid"))) })
        ((means_part quiet s [] sees_quiet [] any_moment refl now tt at is.0).kind ∙ kind_is (shown_in c at.instance) (c.type_of at.instance) is.1)

    pub specs_same : (rs : List Read) → KeysFit c.layout ds rs → map (spec16 b.scope) (map (key_of (words_of c) ds) rs) ≡ map (spec14 ds) rs
    specs_same [] fit = refl
    specs_same (r ∷ rs) fit = ap₂ (λ x xs. x ∷ xs) (spec_same r.key r.kind r.mask fit.0) (specs_same rs fit.1)
