-- What the text uses is there on a layout that shows the program: fields and instances (C2, C4, C25), and numbers as a text has them.
use Rattle.std.proofs.Common.{◌≡◌, ◌<◌, ◌≤◌, ◌^◌, true, false, ◌&&◌, Some, List, [], ◌∷◌, ◌++◌, sym, ap, ◌∙◌}
use Rattle.std.specs.Prelude.{◌||◌}
use Rattle.std.specs.List.{list_any}
use Rattle.p414_syntax.specs.declared.parts.Inst.{Inst}
use Rattle.p414_syntax.specs.declared.parts.Ref.{Ref}
use Rattle.p414_syntax.specs.declared.syntax.Decl.{Decl}
use Rattle.p414_syntax.specs.declared.syntax.Sort.TheVariants as sort
use Rattle.p414_syntax.specs.Names.{is_declared, name_in}
use Rattle.p414_syntax.specs.Breaks.{BreaksNone, program_rules}
use Rattle.p414_syntax.specs.Fields.{instance_of}
use Rattle.p414_syntax.specs.Primitives.{is_standard}
use Rattle.p414_syntax.specs.Stacks.{is_bad_instance, is_misplaced, declares_bad_size}
use Rattle.p414_syntax.specs.Unknown.{is_unknown}
use Rattle.p414_syntax.specs.Uses.{Use, of_field, of_instance, uses}
use Rattle.p414_sem.specs.Slots.{slot_of, element_of, bits_of_ref}
use Rattle.agreement_of_meanings.specs.Shown.{slot_width}
use Rattle.lower_laws_base.specs.Context.{Lowering, IsSlot, IsPart}
use Rattle.lower_laws_states.specs.Expansions.{Has}
use Rattle.lower_laws_states.proofs.Members.{neither, none_passes, of_not, picked_has}
use Rattle.lower_laws_states.proofs.Declared.{numbered_so, within_stack, declared_has}
use Rattle.lower_laws_declared.proofs.Found.{declaration_found}
use Rattle.lower_laws_states.proofs.Rules.{none_twice, none_unknown, stacks_right}
use Rattle.lower_laws_states.proofs.Standing.{field_stands}
use Rattle.lower_laws_premises.specs.Shown.{ShowsInstances, HasRoots}
use Rattle.lower_laws_premises.proofs.Bits.{bits_stand}
use Rattle.lower_laws_premises.proofs.LayoutFits.{slot_is, bits_are, part_there}

module _ (c : Lowering) (ds : List Decl) (none : BreaksNone ds program_rules) (shows : ShowsInstances c ds) (roots : HasRoots c) where
  pub field_there : (r : Ref) → Has (uses ds) (of_field r) → IsSlot c.layout (slot_of ds r) × (slot_width c.layout.names.instances (slot_of ds r) ≡ bits_of_ref ds r)
  field_there r used =
      let stands = field_stands ds none r used in
      (slot_is c ds shows roots (slot_of ds r) stands, sym (bits_are c ds shows roots (slot_of ds r) stands) ∙ sym (bits_stand ds (none_twice ds none) r stands))

  pub known : (u : Use) → Has (uses ds) u → is_unknown ds u ≡ false
  known u used = none_passes (is_unknown ds) (uses ds) u (neither (list_any (is_unknown ds) (uses ds)) _ (none_unknown ds none)).0 used

  pub placed : (i : Inst) → Has (uses ds) (of_instance i) → is_bad_instance ds i ≡ false
  placed i used = none_passes (is_misplaced ds) (uses ds) (of_instance i) (neither (list_any declares_bad_size ds) _ (stacks_right ds none)).1 used

  pub instance_there : (i : Inst) → Has (uses ds) (of_instance i) → is_standard i.name ≡ false → IsPart c.layout (element_of ds i)
  instance_there i used plain =
      let there : is_declared sort.Instance ds i.name ≡ true = ap (λ b. b || is_declared sort.Instance ds i.name) (sym plain) ∙ of_not _ (known (of_instance i) used) in
      let d = picked_has (name_in sort.Instance) ds i.name (declared_has ds sort.Instance i.name there) in
      let found : instance_of ds i.name ≡ Some d.0 = declaration_found ds none sort.Instance d.0 i.name d.1 d.2 in
      part_there c ds shows roots _ _ d.0 (numbered_so ds i.name d.0 found) (within_stack ds (stacks_right ds none) i d.0 found (placed i used))
