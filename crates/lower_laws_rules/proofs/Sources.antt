-- Places of the packet, fields and sources, as a scope sees them, break no rule.
use Rattle.std.proofs.Common.{◌≡◌, ℕ, ◌<◌, ◌≤◌, true, false, Some, List, [], refl, subst, arith}
use Rattle.p414_sem.specs.Wholes.{wrapped}
use Rattle.p414_sem.specs.Slots.{Slot, standard, declared, Element}
use Rattle.p414_sem.specs.Operations.{Source, number, field, parameter}
use Rattle.p416_syntax.specs.Tree.{name, member}
use Rattle.p416_syntax.specs.Names.{Name}
use Rattle.p416_syntax.specs.Kinds.{bits, header, struct}
use Rattle.p416_syntax.specs.Scopes.{Scope, fields_in}
use Rattle.p416_syntax.specs.Expressions.{field_kind_in}
use Rattle.v1_core.specs.Frames.{Owner, of_headers, of_metadata, of_standard}
use Rattle.agreement_of_meanings.specs.Shown.{Shown, as_header, as_stack, as_metadata, name_of, fields_of, owner_of, field_at, standard_word, standard_width}
use Rattle.lower_laws_base.specs.Context.{Local, local_at, local_of, Lowering, words_of, shown_in, instance_kind, element_kind, HasRoot, At, now, entry, root_at, HasAt, a_root, a_copy, Sees, IsPart, IsSlot, SourceFits}
use Rattle.lower_laws_base.specs.Mirror.{instance_exp, element_exp, part_exp, slot_exp, width_in, source_exp, copy_stmt}
use Rattle.lower_laws_base.proofs.Wrap.{wrap_below}
use Rattle.lower_laws_rules.specs.Keeping.{Sound, Part}
use Rattle.lower_laws_rules.specs.Standing.{can_at, slot_owner, Among, HasParameters}
use Rattle.lower_laws_rules.proofs.Places.{deeper, read_only}
use Rattle.lower_laws_rules.proofs.Sound.{sound_name, sound_member, sound_element, sound_literal, sound_resized}
use Rattle.lower_laws_rules.proofs.Parts.{part_struct}

module _ (c : Lowering) (s : Scope) (ls : List Local) (sees : Sees c s ls) where
  -- a parameter or a variable of statements
  pub sound_local : (l : Local) → Among ls l → Sound s (name l.called) l.kind false 1
  sound_local l among = subst (λ (z : Local). Sound s (name z.called) z.kind false 1) among.stands
      (let known = sees.locals among.place among.within in read_only (sound_name s (local_at ls among.place).called (local_at ls among.place).kind known.0 known.1))

  module _ (at : At) (has : HasAt c at) where
    pub sound_root : (o : Owner) → HasRoot c.layout o → Sound s (name (root_at (words_of c) at o)) (struct (c.root_type o)) (can_at c at o) 1
    sound_root o is = by at has where
      by : (at : At) → HasAt c at → Sound s (name (root_at (words_of c) at o)) (struct (c.root_type o)) (can_at c at o) 1
      by now has = sound_name s (c.root o) (struct (c.root_type o)) (c.can_write o) (sees.declares.named (a_root o) is)
      by entry has = sound_name s (c.copy o) (struct (c.root_type o)) true (sees.declares.named (a_copy o) (has.copied o is))

    -- a header, a stack or metadata whole
    pub sound_instance : (x : Shown) (type : Name) (size : ℕ) → HasRoot c.layout (owner_of x) → field_kind_in (fields_in s.layouts (c.root_type (owner_of x))) (name_of x) ≡ Some (instance_kind x type size) → Sound s (instance_exp (words_of c) at x) (instance_kind x type size) (can_at c at (owner_of x)) 2
    sound_instance x type size is there = sound_member s (name (root_at (words_of c) at (owner_of x))) (struct (c.root_type (owner_of x))) (can_at c at (owner_of x)) 1 (name_of x) (instance_kind x type size) (sound_root (owner_of x) is) there refl refl

    -- an element of a stack, a header or metadata
    sound_one : (x : Shown) (type : Name) (size e : ℕ) → HasRoot c.layout (owner_of x) → e < size → field_kind_in (fields_in s.layouts (c.root_type (owner_of x))) (name_of x) ≡ Some (instance_kind x type size) → Sound s (element_exp (words_of c) at x e) (element_kind x type) (can_at c at (owner_of x)) 3
    sound_one (as_header called fields) type size e is lt there = deeper 3 (omega arith) (sound_instance (as_header called fields) type size is there)
    sound_one (as_stack called fields) type size e is lt there = sound_element s _ type size e 2 (can_at c at of_headers) (sound_instance (as_stack called fields) type size is there) lt
    sound_one (as_metadata called fields) type size e is lt there = deeper 3 (omega arith) (sound_instance (as_metadata called fields) type size is there)

    pub sound_part : (of : Element) → IsPart c.layout of → Sound s (part_exp (words_of c) at of) (element_kind (shown_in c of.instance) (c.type_of of.instance)) (can_at c at (owner_of (shown_in c of.instance))) 3
    sound_part of is = sound_one (shown_in c of.instance) (c.type_of of.instance) (c.layout.size_of of.instance) of.element is.2 is.1 (sees.declares.instance of.instance is.0 is.2)

    field_sound : (x : Shown) (type word : Name) (e width : ℕ) → Sound s (element_exp (words_of c) at x e) (element_kind x type) (can_at c at (owner_of x)) 3 → field_kind_in (fields_in s.layouts type) word ≡ Some (bits width) → Sound s (member (element_exp (words_of c) at x e) word) (bits width) (can_at c at (owner_of x)) 4
    field_sound (as_header called fields) type word e width x there = sound_member s _ (header type) (can_at c at of_headers) 3 word (bits width) x there refl refl
    field_sound (as_stack called fields) type word e width x there = sound_member s _ (header type) (can_at c at of_headers) 3 word (bits width) x there refl refl
    field_sound (as_metadata called fields) type word e width x there = sound_member s _ (struct type) (can_at c at of_metadata) 3 word (bits width) x there refl refl

    pub sound_slot : (slot : Slot) → IsSlot c.layout slot → Sound s (slot_exp (words_of c) at slot) (bits (width_in (words_of c) slot)) (can_at c at (slot_owner c slot)) 4
    sound_slot (standard which) is =
        deeper 4 (omega arith) (sound_member s (name (root_at (words_of c) at of_standard)) (struct (c.root_type of_standard)) (can_at c at of_standard) 1 (standard_word which) (bits (standard_width which)) (sound_root of_standard is) (sees.declares.standard which is) refl refl)
    sound_slot (declared i e k) is =
        field_sound (shown_in c i) (c.type_of i) (field_at (fields_of (shown_in c i)) k).called e (field_at (fields_of (shown_in c i)) k).width
        (sound_one (shown_in c i) (c.type_of i) (c.layout.size_of i) e is.2 is.1 (sees.declares.instance i is.0 is.2)) (sees.declares.field i k is.0 is.2 is.3)

    pub sound_source : HasParameters c ls → (width : ℕ) (a : Source) → 0 < width → width ≤ 128 → SourceFits c a → Sound s (source_exp (words_of c) at width a) (bits width) false 5
    sound_source given width (number z) some few is = deeper 5 (omega arith) (sound_literal s width (wrapped width z) (wrap_below width z))
    sound_source given width (field slot) some few is = sound_resized s (slot_exp (words_of c) at slot) (width_in (words_of c) slot) width 4 (can_at c at (slot_owner c slot)) some few (sound_slot slot is)
    sound_source given width (parameter j) some few is =
        let p = field_at c.parameters j in
        deeper 5 (omega arith) (sound_resized s (name p.called) p.width width 1 false some few (sound_local (local_of p) (given j is)))

  -- the copies at the beginning of an action
  pub part_copied : (o : Owner) → HasRoot c.layout o → HasAt c entry → Part s s [] 0 (copy_stmt (words_of c) o)
  part_copied o is has = part_struct (sound_root entry has o is) (sound_root now tt o is) (omega arith) (omega arith)
