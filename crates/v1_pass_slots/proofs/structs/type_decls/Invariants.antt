use Rattle.std.proofs.Common.{◌≡◌, ◌++◌, map, filter, drop}
use Rattle.p416_names.specs.internal.Tables.{is_type}
use Rattle.v1_pass_slots.proofs.structs.type_decls.Given as goal

abbrev pub invariant-loop-decl : goal.invariant-loop-decl
invariant-loop-decl l = map (λ d. d.now) l.types.items ++ filter is_type (drop l.decl-index l.decls) ≡ filter is_type l.decls
