-- What names, members and elements mean: their kind, their reference and their value, at one moment.
use Rattle.std.proofs.Common.{◌≡◌, ℕ, ◌<◌, Some, None, List, [], ◌∷◌, ◌++◌, length, refl, sym, ap, ap₂, ◌∙◌, subst, append_assoc, append-nil}
use Rattle.p414_sem.specs.Slots.{Slot, standard, declared, Element}
use Rattle.p416_syntax.specs.Tree.{Exp16, name, member, index}
use Rattle.p416_syntax.specs.Names.{Name}
use Rattle.p416_syntax.specs.Kinds.{Kind, bits, header, stack, struct}
use Rattle.p416_syntax.specs.Scopes.{Scope, fields_in}
use Rattle.p416_syntax.specs.Calls.{Place}
use Rattle.p416_syntax.specs.Expressions.{sort_kind, kind_of, known_kind, member_kind, field_kind_in, element_kind as kind_of_element}
use Rattle.v1_core.specs.Values.{Value, Step, to_member, to_element, part_of, part_at}
use Rattle.v1_core.specs.Frames.{Frame, Moment, Owner, of_headers, of_metadata, of_standard, of_variables, of_inner, owned, Reference, whole, stepped, read, within_slice}
use Rattle.v1_core.specs.Surroundings.{World, named}
use Rattle.v1_core.specs.Expressions.{Valued, valued, value_of, Referred, referred, reference_of, member_value, member_reference}
use Rattle.agreement_of_meanings.specs.Shown.{Shown, as_header, as_stack, as_metadata, name_of, fields_of, owner_of, field_at, field_reference, standard_word, standard_width, instance_reference, element_reference, slot_reference}
use Rattle.lower_laws_base.specs.Context.{Local, local_at, inner_of, HasRoot, Lowering, words_of, At, now, entry, root_at, owner_at, steps_at, base_at, at_place, HasAt, IsCopied, a_root, a_copy, shown_in, instances_of, instance_kind, element_kind, Sees, Seen, IsSlot, IsPart}
use Rattle.lower_laws_base.specs.Mirror.{plain, instance_exp, element_exp, part_exp, slot_exp, width_in}
use Rattle.lower_laws_base.proofs.Locals.{no_member, some_member}

-- an expression that stands for a part of the frame
pub record Means (w : World) (s : Scope) (e : Exp16) (k : Kind) (r : Reference) (n : Moment) : Type 0 where
  pub kind : kind_of s e ≡ k
  pub reference : reference_of w.around s e n ≡ referred r n
  pub value : (p : Place) → value_of w s p e n ≡ valued (read n.frame r) n

pub parts_behind : (steps more : List Step) (v : Value) → part_at (steps ++ more) v ≡ part_at more (part_at steps v)
parts_behind [] more v = refl
parts_behind (first ∷ steps) more v = parts_behind steps more (part_of v first)

read_step : (f : Frame) (o : Owner) (steps : List Step) (step : Step) → read f (stepped (record { owner = o; steps = steps; slice = None }) step) ≡ part_of (read f (record { owner = o; steps = steps; slice = None })) step
read_step f o steps step = parts_behind steps (step ∷ []) (owned f o)

abbrev pub plainly : Owner → List Step → Reference
plainly o steps = record { owner = o; steps = steps; slice = None }

-- a variable of statements or a parameter of an action
abbrev pub local_reference : Name → Reference
local_reference text = plainly of_inner (to_member text ∷ [])

module _ (w : World) (s : Scope) (n : Moment) (e : Exp16) (o : Owner) (before steps : List Step) where
  abbrev behind : Step → Reference
  behind step = plainly o (before ++ (steps ++ step ∷ []))

  joined : (step : Step) → plainly o ((before ++ steps) ++ step ∷ []) ≡ behind step
  joined step = ap (plainly o) (append_assoc before steps (step ∷ []))

  -- a member of a struct
  pub means_member : (type word : Name) (k : Kind) → Means w s e (struct type) (plainly o (before ++ steps)) n → field_kind_in (fields_in s.layouts type) word ≡ Some k → Means w s (member e word) k (behind (to_member word)) n
  means_member type word k m there = subst (λ r. Means w s (member e word) k r n) (joined (to_member word)) (record {
    kind = ap (λ (z : Kind). known_kind (member_kind s.layouts z word)) m.kind ∙ ap known_kind there;
    reference = ap₂ (λ (z : Kind) (x : Referred). member_reference z word x) m.kind m.reference;
    value = λ p. ap₂ (λ (z : Kind) (x : Valued). member_value z word x) m.kind (m.value _)
        ∙ ap (λ v. valued v n) (sym (read_step n.frame o (before ++ steps) (to_member word)));
  })

  -- a field of a header
  pub means_field : (type word : Name) (k : Kind) → Means w s e (header type) (plainly o (before ++ steps)) n → field_kind_in (fields_in s.layouts type) word ≡ Some k → Means w s (member e word) k (behind (to_member word)) n
  means_field type word k m there = subst (λ r. Means w s (member e word) k r n) (joined (to_member word)) (record {
    kind = ap (λ (z : Kind). known_kind (member_kind s.layouts z word)) m.kind ∙ ap known_kind there;
    reference = ap₂ (λ (z : Kind) (x : Referred). member_reference z word x) m.kind m.reference;
    value = λ p. ap₂ (λ (z : Kind) (x : Valued). member_value z word x) m.kind (m.value _)
        ∙ ap (λ v. valued v n) (sym (read_step n.frame o (before ++ steps) (to_member word)));
  })

  -- an element of a stack
  pub means_element : (type : Name) (size at : ℕ) → Means w s e (stack type size) (plainly o (before ++ steps)) n → Means w s (index e (plain at)) (header type) (behind (to_element at)) n
  means_element type size at m = subst (λ r. Means w s (index e (plain at)) (header type) r n) (joined (to_element at)) (record {
    kind = ap kind_of_element m.kind;
    reference = ap (λ (x : Referred). referred (stepped x.reference (to_element at)) x.moment) m.reference;
    value = λ p. ap (λ (x : Valued). valued (part_of x.value (to_element at)) x.moment) (m.value _)
        ∙ ap (λ v. valued v n) (sym (read_step n.frame o (before ++ steps) (to_element at)));
  })

module _ (c : Lowering) (s : Scope) (ls : List Local) (sees : Sees c s ls) (vs : List Value) (n : Moment) (inner : n.frame.inner ≡ inner_of ls vs) where
  abbrev Here : Exp16 → Kind → Reference → Type 0
  Here e k r = Means c.world s e k r n

  pub root_named : (o : Owner) → HasRoot c.layout o → named c.world.around n.frame (c.root o) ≡ whole o
  root_named o is =
      rw (inner, no_member ls vs (c.root o) (sees.apart (a_root o) is)) (sees.declares.rooted o is)

  pub copy_named : (o : Owner) → IsCopied c o → named c.world.around n.frame (c.copy o) ≡ stepped (whole of_variables) (to_member (c.copy o))
  copy_named o is =
      rw (inner, no_member ls vs (c.copy o) (sees.apart (a_copy o) is)) (sees.declares.copied o is)

  -- a parameter of the block, or its copy
  pub means_root : (at : At) → HasAt c at → (o : Owner) → HasRoot c.layout o → Here (name (root_at (words_of c) at o)) (struct (c.root_type o)) (base_at (words_of c) at o)
  means_root now has o is = record {
    kind = ap sort_kind (sees.declares.named (a_root o) is);
    reference = ap (λ r. referred r n) (root_named o is);
    value = λ p. ap (λ r. valued (read n.frame r) n) (root_named o is);
  }
  means_root entry has o is = record {
    kind = ap sort_kind (sees.declares.named (a_copy o) (has.copied o is));
    reference = ap (λ r. referred r n) (copy_named o (has.copied o is));
    value = λ p. ap (λ r. valued (read n.frame r) n) (copy_named o (has.copied o is));
  }

  -- a parameter or a variable of statements
  local_named : (j : ℕ) → j < length ls → length vs ≡ length ls → named c.world.around n.frame (local_at ls j).called ≡ stepped (whole of_inner) (to_member (local_at ls j).called)
  local_named j lt count = rw (inner, some_member ls vs j lt count sees.distinct) refl

  pub means_local : (j : ℕ) → j < length ls → length vs ≡ length ls → Here (name (local_at ls j).called) (local_at ls j).kind (local_reference (local_at ls j).called)
  means_local j lt count = record {
    kind = ap sort_kind (sees.locals j lt).1;
    reference = ap (λ r. referred r n) (local_named j lt count);
    value = λ p. ap (λ r. valued (read n.frame r) n) (local_named j lt count);
  }

  module _ (at : At) (has : HasAt c at) where
    abbrev There : Reference → Reference
    There r = at_place (words_of c) at r

    root_there : (o : Owner) → HasRoot c.layout o → Here (name (root_at (words_of c) at o)) (struct (c.root_type o)) (plainly (owner_at at o) (steps_at (words_of c) at o ++ []))
    root_there o is = subst (λ (steps : List Step). Here (name (root_at (words_of c) at o)) (struct (c.root_type o)) (plainly (owner_at at o) steps)) (sym (append-nil (steps_at (words_of c) at o))) (means_root at has o is)

    pub means_instance : (i : ℕ) → i < length (instances_of c) → HasRoot c.layout (owner_of (shown_in c i)) → Here (instance_exp (words_of c) at (shown_in c i)) (instance_kind (shown_in c i) (c.type_of i) (c.layout.size_of i)) (There (instance_reference (shown_in c i)))
    means_instance i lt is =
        let x = shown_in c i in
        means_member c.world s n (name (root_at (words_of c) at (owner_of x))) (owner_at at (owner_of x)) (steps_at (words_of c) at (owner_of x)) []
        (c.root_type (owner_of x)) (name_of x) (instance_kind x (c.type_of i) (c.layout.size_of i)) (root_there (owner_of x) is) (sees.declares.instance i lt is)

    of_instance : (x : Shown) (type : Name) (size e : ℕ) → Here (instance_exp (words_of c) at x) (instance_kind x type size) (There (instance_reference x)) → Here (element_exp (words_of c) at x e) (element_kind x type) (There (element_reference x e))
    of_instance (as_header called fields) type size e m = m
    of_instance (as_stack called fields) type size e m =
        means_element c.world s n (instance_exp (words_of c) at (as_stack called fields)) (owner_at at of_headers) (steps_at (words_of c) at of_headers) (to_member called ∷ []) type size e m
    of_instance (as_metadata called fields) type size e m = m

    pub means_part : (part : Element) → IsPart c.layout part → Here (part_exp (words_of c) at part) (element_kind (shown_in c part.instance) (c.type_of part.instance)) (There (element_reference (shown_in c part.instance) part.element))
    means_part part is = of_instance (shown_in c part.instance) (c.type_of part.instance) (c.layout.size_of part.instance) part.element (means_instance part.instance is.0 is.2)

    of_element : (x : Shown) (type : Name) (e k : ℕ) (kind : Kind) → Here (element_exp (words_of c) at x e) (element_kind x type) (There (element_reference x e)) → field_kind_in (fields_in s.layouts type) (field_at (fields_of x) k).called ≡ Some kind → Here (member (element_exp (words_of c) at x e) (field_at (fields_of x) k).called) kind (There (field_reference x e k))
    of_element (as_header called fields) type e k kind m there =
        means_field c.world s n (element_exp (words_of c) at (as_header called fields) e) (owner_at at of_headers) (steps_at (words_of c) at of_headers) (to_member called ∷ []) type (field_at fields k).called kind m there
    of_element (as_stack called fields) type e k kind m there =
        means_field c.world s n (element_exp (words_of c) at (as_stack called fields) e) (owner_at at of_headers) (steps_at (words_of c) at of_headers) (to_member called ∷ to_element e ∷ []) type (field_at fields k).called kind m there
    of_element (as_metadata called fields) type e k kind m there =
        means_member c.world s n (element_exp (words_of c) at (as_metadata called fields) e) (owner_at at of_metadata) (steps_at (words_of c) at of_metadata) (to_member called ∷ []) type (field_at fields k).called kind m there

    pub means_slot : (slot : Slot) → IsSlot c.layout slot → Here (slot_exp (words_of c) at slot) (bits (width_in (words_of c) slot)) (There (slot_reference (instances_of c) slot))
    means_slot (standard which) is =
        means_member c.world s n (name (root_at (words_of c) at of_standard)) (owner_at at of_standard) (steps_at (words_of c) at of_standard) []
        (c.root_type of_standard) (standard_word which) (bits (standard_width which)) (root_there of_standard is) (sees.declares.standard which is)
    means_slot (declared i e k) is =
        of_element (shown_in c i) (c.type_of i) e k (bits (field_at (fields_of (shown_in c i)) k).width)
        (means_part (record { instance = i; element = e }) (is.0, is.1, is.2)) (sees.declares.field i k is.0 is.2 is.3)

-- what is read there is what the frame has that it stands for
pub seen_read : (c : Lowering) (at : At) (r : _) (f : Frame) (seen : Seen c at r f) (q : Reference) → HasRoot c.layout q.owner → read f (at_place (words_of c) at q) ≡ read seen.frame q
seen_read c at r f seen q is =
    ap (within_slice q.slice) (parts_behind (steps_at (words_of c) at q.owner) q.steps (owned f (owner_at at q.owner)) ∙ ap (part_at q.steps) (seen.same q.owner is))
