-- What an accepted program writes by a name is nothing of how a packet came here: targets, the parser, initial values, calculated
-- fields (C14, with C1, C8 and C27).
use Rattle.std.proofs.Common.{◌≡◌, inl, Bool, true, false, cond, ◌&&◌, not, List, refl, sym, subst}
use Rattle.std.specs.Prelude.{codes, flat_map}
use Rattle.std.specs.List.{list_any}
use Rattle.std.specs.Option.{option_map_or}
use Rattle.std.specs.Str.{bytes_eq}
use Rattle.p414_syntax.specs.declared.calculations.CalculatedField.{CalculatedField}
use Rattle.p414_syntax.specs.declared.parts.Ref.{Ref}
use Rattle.p414_syntax.specs.declared.parsers.PStmt.{PStmt}
use Rattle.p414_syntax.specs.declared.parsers.PStmt.TheVariants as pstmt
use Rattle.p414_syntax.specs.declared.parsers.Parser.{Parser}
use Rattle.p414_syntax.specs.declared.syntax.Decl.{Decl}
use Rattle.p414_syntax.specs.declared.syntax.Decl.TheVariants as decl
use Rattle.p414_syntax.specs.declared.place.ArgumentPlace.TheVariants as place
use Rattle.p414_syntax.specs.Primitives.{is_standard}
use Rattle.p414_syntax.specs.Breaks.{BreaksNone, program_rules}
use Rattle.p414_syntax.specs.Fields.{is_header}
use Rattle.p414_syntax.specs.Lists.{calculated_fields, has_bare_number, is_bad_calculated}
use Rattle.p414_syntax.specs.Arguments.{Argument, number_argument, field_argument, parameter_argument, name_argument, placed_argument, placed_arguments}
use Rattle.p414_syntax.specs.Targets.{is_metadata, statements_in, set_in, parser_targets, extracts, target_of, action_targets, is_no_header, is_no_metadata_field, is_read_only}
use Rattle.p414_sem.specs.Slots.{standard, standard_field, declared_slot, slot_of}
use Rattle.p414_sem.specs.Operations.{target_in}
use Rattle.lower_laws_states.specs.Arrival.{IsWritable, StatementKeeps, InstanceKeeps}
use Rattle.lower_laws_states.specs.Expansions.{Has, IsWritten}
use Rattle.lower_laws_states.proofs.Members.{neither, of_not, same_name, none_passes, has_joined}
use Rattle.lower_laws_states.proofs.Rules.{none_twice, fields_right, targets_right}
use Rattle.lower_laws_states.proofs.Declared.{not_standard, named_not_standard, is_there, header_there, metadata_there}
use Rattle.lower_laws_states.proofs.Keeping.{elsewhere}

-- a field of standard metadata that isn't read only is `egress_spec`
not_read_only : (ds : List Decl) (r : Ref) → is_read_only r ≡ false → IsWritable (slot_of ds r)
not_read_only ds r right = by (is_standard r.instance.name) right where
  by : (b : Bool) → b && not (bytes_eq r.field (codes "egress_spec")) ≡ false → IsWritable (cond b (option_map_or standard (standard_field r.field) (declared_slot ds r)) (declared_slot ds r))
  by false e = tt
  by true e = subst (λ name. IsWritable (option_map_or standard (standard_field name) (declared_slot ds r))) (sym (same_name r.field (codes "egress_spec") (of_not _ e))) tt

module _ (ds : List Decl) (none : BreaksNone ds program_rules) where
  -- a target of an action
  pub target_writable : (a : Argument) → IsWritten ds (placed_argument place.Target a) → IsWritable (target_in ds a).slot
  target_writable (number_argument n) written = tt
  target_writable (parameter_argument n) written = tt
  target_writable (name_argument i) written = tt
  target_writable (field_argument r) written =
      not_read_only ds r
      (none_passes is_read_only (action_targets ds) r (neither (list_any (is_no_metadata_field ds) (parser_targets ds)) _ (neither (list_any (is_no_header ds) (extracts ds)) _ (targets_right ds none)).1).1
      (has_joined target_of (placed_arguments ds) (placed_argument place.Target (field_argument r)) r (written refl).0 (inl refl)))

  -- what the parser writes is a field of declared metadata
  pub set_keeps : (p : Parser) → Has ds (decl.Parser p) → (q : PStmt) → Has p.statements q → StatementKeeps ds q
  set_keeps p declared (pstmt.Extract i) h = tt
  set_keeps p declared (pstmt.SetMetadata r v) h =
      let there = has_joined statements_in ds (decl.Parser p) (pstmt.SetMetadata r v) declared h in
      let target : Has (parser_targets ds) r = has_joined set_in (flat_map statements_in ds) (pstmt.SetMetadata r v) r there (inl refl) in
      let right = none_passes (is_no_metadata_field ds) (parser_targets ds) r (neither _ (list_any is_read_only (action_targets ds)) (neither (list_any (is_no_header ds) (extracts ds)) _ (targets_right ds none)).1).0 target in
      let m = metadata_there ds r.instance.name (of_not (is_metadata ds r.instance.name) right) in
      elsewhere ds r (not_standard ds (none_twice ds none) r.instance.name (is_there ds r.instance.name (decl.Metadata m.0) m.1))

  pub instance_keeps : (d : Decl) → Has ds d → InstanceKeeps d
  instance_keeps (decl.Metadata x) h = named_not_standard ds (none_twice ds none) (decl.Metadata x) x.name h refl
  instance_keeps _ h = tt

  -- a calculated field is a header's
  pub calculated_keeps : (f : CalculatedField) → Has (calculated_fields ds) f → IsWritable (slot_of ds f.field)
  calculated_keeps f h =
      let bad = none_passes (is_bad_calculated ds) (calculated_fields ds) f (neither (list_any has_bare_number ds) _ (fields_right ds none)).1 h in
      let there = header_there ds f.field.instance.name (of_not (is_header ds f.field.instance.name) (neither _ _ (neither _ _ bad).0).0) in
      elsewhere ds f.field (not_standard ds (none_twice ds none) f.field.instance.name (is_there ds f.field.instance.name (decl.Header there.0) there.1))
