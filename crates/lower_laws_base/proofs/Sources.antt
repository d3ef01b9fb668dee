-- What fields, parameters and sources give, where operands are read.
use Rattle.std.proofs.Common.{◌≡◌, ℕ, ◌<◌, List, length, refl, ap, ◌∙◌, subst}
use Rattle.std.specs.Prelude.{slice_index}
use Rattle.p414_sem.specs.Wholes.{wrapped}
use Rattle.p414_sem.specs.Slots.{Slot, standard, declared}
use Rattle.p414_sem.specs.State.{State, read as read14}
use Rattle.p414_sem.specs.Operations.{Source, number, field, parameter}
use Rattle.p414_sem.specs.Effects.{source_number}
use Rattle.p416_syntax.specs.Tree.{Exp16, name}
use Rattle.p416_syntax.specs.Kinds.{bits}
use Rattle.p416_syntax.specs.Scopes.{Scope}
use Rattle.v1_core.specs.Values.{Value, a_number}
use Rattle.v1_core.specs.Frames.{Moment, read}
use Rattle.v1_core.specs.Expressions.{valued}
use Rattle.agreement_of_meanings.specs.Shown.{Shown, as_header, as_stack, as_metadata, field_at, slot_reference, field_reference, owner_of}
use Rattle.agreement_of_meanings.proofs.Written.{slot_read}
use Rattle.lower_laws_base.specs.Context.{Local, local_at, value_at, inner_of, StateLayout, HasRoot, shown_on, Lowering, words_of, instances_of, At, at_place, IsSlot, Looks, Holds, local_of, Sees, SourceFits}
use Rattle.lower_laws_base.specs.Mirror.{slot_exp, width_in, source_exp}
use Rattle.lower_laws_base.proofs.Wrap.{wrap_below}
use Rattle.lower_laws_base.proofs.Locals.{inner_part, member_value}
use Rattle.lower_laws_base.proofs.Means.{local_reference, means_slot, means_local, seen_read}
use Rattle.lower_laws_base.proofs.Gives.{gives_literal, gives_read, gives_resized}
use Rattle.lower_laws_base.proofs.Shapes.{has_slot, slot_bounded}
use Rattle.lower_laws_base.specs.Gives.{Gives, Shows}

pub slot_has : (g : StateLayout) (slot : Slot) → IsSlot g slot → HasRoot g (slot_reference g.names.instances slot).owner
slot_has g (standard which) is = is
slot_has g (declared i e k) is = by (shown_on g i) is.2 where
  by : (x : Shown) → HasRoot g (owner_of x) → HasRoot g (field_reference x e k).owner
  by (as_header called fields) has = has
  by (as_stack called fields) has = has
  by (as_metadata called fields) has = has

module _ (c : Lowering) (s : Scope) (ls : List Local) (sees : Sees c s ls) (vs : List Value) (n : Moment) (inner : n.frame.inner ≡ inner_of ls vs) (count : length vs ≡ length ls) where
  -- a parameter or a variable that holds a value
  pub shows_local : (l : Local) (v : Value) → Holds ls vs l v → Shows c.world s n (name l.called) l.kind v
  shows_local l v h =
      let means = means_local c s ls sees vs n inner h.place h.within count in
      let there : read n.frame (local_reference (local_at ls h.place).called) ≡ value_at vs h.place = rw inner (inner_part ls vs (local_at ls h.place).called ∙ member_value ls vs h.place h.within count sees.distinct) in
      subst (λ (k : Local). Shows c.world s n (name k.called) k.kind v) h.stands
      (record { kind = means.kind; value = λ p. means.value p ∙ ap (λ u. valued u n) (there ∙ h.holds) })

  pub gives_local : (l : Local) (width k : ℕ) → l.kind ≡ bits width → Holds ls vs l (a_number width k) → Gives c.world s n (name l.called) width k
  gives_local l width k kind h = let x = shows_local l (a_number width k) h in record { kind = x.kind ∙ kind; value = x.value }

module _ (c : Lowering) (s : Scope) (ls : List Local) (vs : List Value) (arguments : List ℕ) (at : At) (r : State) (n : Moment) (looks : Looks c s ls vs arguments at r n.frame) where
  abbrev Here : Exp16 → ℕ → ℕ → Type 0
  Here e width k = Gives c.world s n e width k

  pub gives_slot : (slot : Slot) → IsSlot c.layout slot → Here (slot_exp (words_of c) at slot) (width_in (words_of c) slot) (read14 r slot)
  gives_slot slot is =
      gives_read c.world s n (slot_exp (words_of c) at slot) (width_in (words_of c) slot) (read14 r slot) (at_place (words_of c) at (slot_reference (instances_of c) slot))
      (means_slot c s ls looks.sees vs n looks.inner at looks.has slot is)
      (seen_read c at r n.frame looks.seen (slot_reference (instances_of c) slot) (slot_has c.layout slot is)
      ∙ slot_read c.layout.names r looks.seen.frame slot looks.sees.declares.differ looks.seen.agrees (has_slot c.layout r looks.seen.shaped slot is))

  pub gives_parameter : (j : ℕ) → j < length c.parameters → Here (name (field_at c.parameters j).called) (field_at c.parameters j).width (slice_index arguments j)
  gives_parameter j lt =
      gives_local c s ls looks.sees vs n looks.inner looks.count (local_of (field_at c.parameters j)) (field_at c.parameters j).width (slice_index arguments j) refl (looks.given j lt).holds

  -- a source at a width gives its whole number modulo 2 ^ width
  pub gives_source : (width : ℕ) (a : Source) → SourceFits c a → Here (source_exp (words_of c) at width a) width (wrapped width (source_number arguments r a))
  gives_source width (number z) fits = gives_literal c.world s n width (wrapped width z) (wrap_below width z)
  gives_source width (field slot) fits =
      gives_resized c.world s n (slot_exp (words_of c) at slot) (width_in (words_of c) slot) width (read14 r slot) (slot_bounded c.layout r looks.seen.shaped slot fits) (gives_slot slot fits)
  gives_source width (parameter j) fits =
      gives_resized c.world s n (name (field_at c.parameters j).called) (field_at c.parameters j).width width (slice_index arguments j) (looks.given j fits).fits (gives_parameter j fits)
