-- Keys of tables break no rule and are spelt.
use Rattle.std.proofs.Common.{◌≡◌, ℕ, ◌<◌, ◌%◌, ◌^◌, Bool, true, false, List, [], ◌∷◌, map, flat_map, Option, Some, None, refl, arith}
use Rattle.std.proofs.Math.Nat.{one-le-pow, mod-lt}
use Rattle.p414_syntax.specs.declared.lexeme.Literal.{Literal}
use Rattle.p414_syntax.specs.declared.tables.ReadKey.{ReadKey}
use Rattle.p414_syntax.specs.declared.tables.ReadKey.TheVariants as read_key
use Rattle.p414_syntax.specs.declared.tables.Read.{Read}
use Rattle.p414_syntax.specs.declared.syntax.Decl.{Decl}
use Rattle.p414_sem.specs.Slots.{Slot, slot_of, element_of}
use Rattle.p416_syntax.specs.declared.controls.TableKey.{TableKey}
use Rattle.p416_syntax.specs.declared.node.BinaryOperator.TheVariants.{BitAnd}
use Rattle.p416_syntax.specs.Tree.{Exp16}
use Rattle.p416_syntax.specs.Names.{Name}
use Rattle.p416_syntax.specs.Kinds.{boolean}
use Rattle.p416_syntax.specs.Scopes.{Scope, in_key}
use Rattle.p416_syntax.specs.Calls.{table_key}
use Rattle.p416_syntax.specs.Declarations.{key_uses}
use Rattle.agreement_of_meanings.specs.Shown.{Shown, as_header, as_stack, as_metadata, is_metadata}
use Rattle.lower_laws_base.specs.Context.{Local, Lowering, words_of, shown_in, element_kind, now, Sees, IsSlot}
use Rattle.lower_laws_base.specs.Mirror.{width_in, valid_exp}
use Rattle.lower_laws_controls.specs.Keys.{masked_key, key_of, KeyFits, KeysFit}
use Rattle.lower_laws_rules.specs.Keeping.{Keeps, Sound, Sits}
use Rattle.lower_laws_rules.specs.Standing.{can_at, slot_owner}
use Rattle.lower_laws_rules.proofs.Lists.{none_kept, behind_kept}
use Rattle.lower_laws_rules.proofs.Places.{sits, sits_deeper}
use Rattle.lower_laws_rules.proofs.Sound.{sound_literal, sound_pair}
use Rattle.lower_laws_rules.proofs.Externs.{sound_valid}
use Rattle.lower_laws_rules.proofs.Sources.{sound_part, sound_slot}
use Rattle.lower_laws_rules.proofs.Tables.{in_keys, asks_key, asks_valid_key, key_kept}

pub cut : (width n : ℕ) → n % 2 ^ width < 2 ^ width
cut width n = mod-lt n (one-le-pow width 2 (omega arith))

module _ (c : Lowering) (ds : List Decl) (s : Scope) (ls : List Local) (sees : Sees c s ls) where
  abbrev here : Scope
  here = record s { part = in_key }

  seen : Sees c here ls
  seen = in_keys c s ls sees

  header_key : (x : Shown) (type : Name) (can : Bool) (e : Exp16) → is_metadata x ≡ false → Sound here e (element_kind x type) can 3 → Sound here (valid_exp e) boolean false 5
  header_key (as_header called fields) type can e is p = sound_valid p
  header_key (as_stack called fields) type can e is p = sound_valid p
  header_key (as_metadata called fields) type can e is p = absurd (cc is)

  field_key : (slot : Slot) (exact : Bool) (mask : Option Literal) → IsSlot c.layout slot → Sits here (table_key exact) (masked_key (words_of c) slot mask) 5
  field_key slot exact None is = sits_deeper 5 (omega arith) (sits (sound_slot c here ls seen now tt slot is) (table_key exact) (asks_key (width_in (words_of c) slot) exact (can_at c now (slot_owner c slot))))
  field_key slot exact (Some mask) is =
      sits (sound_pair BitAnd refl (sound_slot c here ls seen now tt slot is) (sound_literal here (width_in (words_of c) slot) (mask.value % 2 ^ width_in (words_of c) slot) (cut (width_in (words_of c) slot) mask.value)))
      (table_key exact) (asks_key (width_in (words_of c) slot) exact false)

  abbrev key : ReadKey → Option Literal → Name → TableKey
  key k mask kind = key_of (words_of c) ds (record { key = k; mask = mask; kind = kind })

  one_key_kept : (k : ReadKey) (kind : Name) (mask : Option Literal) → KeyFits c.layout ds k → Keeps (key_uses s (key k mask kind)) []
  one_key_kept (read_key.Field f) kind None is = key_kept s (key (read_key.Field f) None kind) 5 (field_key (slot_of ds f) _ None is.0) (omega arith) refl
  one_key_kept (read_key.Field f) kind (Some mask) is = key_kept s (key (read_key.Field f) (Some mask) kind) 5 (field_key (slot_of ds f) _ (Some mask) is.0) (omega arith) refl
  one_key_kept (read_key.Instance i) kind mask is =
      key_kept s (key (read_key.Instance i) mask kind) 5
      (sits (header_key (shown_in c (element_of ds i).instance) (c.type_of (element_of ds i).instance) _ _ is.1 (sound_part c here ls seen now tt (element_of ds i) is.0))
      (table_key true) (asks_valid_key true false refl)) (omega arith) refl

  pub keys_kept : (reads : List Read) → KeysFit c.layout ds reads → Keeps (flat_map (key_uses s) (map (key_of (words_of c) ds) reads)) []
  keys_kept [] is = none_kept
  keys_kept (r ∷ reads) is = behind_kept (one_key_kept r.key r.kind r.mask is.0) (keys_kept reads is.1)
