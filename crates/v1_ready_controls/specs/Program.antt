-- What the blocks of a program are made ready among: these are the parts of the program.
use Rattle.std.specs.Prelude.{◌≡◌, ℕ, [], ◌∷◌, map, Option, codes}
use Rattle.p416_syntax.specs.declared.program.Syntax16.{Syntax16}
use Rattle.p416_syntax.specs.Names.{Name}
use Rattle.p416_syntax.specs.Declarations.{layouts_of}
use Rattle.p416_signature.specs.internal.Gathered.{AreObjects}
use Rattle.v1_core.specs.Values.{to_member}
use Rattle.v1_core.specs.Slots.{the_standard, part_with}
use Rattle.v1_core.specs.Signatures.{table_names}
use Rattle.v1_core.specs.Programs.{frame_kinds, first_start, part_seat}
use Rattle.v1_seats.specs.Seen.{seen_seat}
use Rattle.v1_seats.specs.Frame.{seats_from}
use Rattle.v1_ready_statements.specs.Around.{slot_of_seat}
use Rattle.v1_ready_controls.specs.declared.program.ProgramParts.{ProgramParts}

-- the slot of a field of the standard metadata
abbrev pub slot_in_standard : Syntax16 → Name → Option ℕ
slot_in_standard syntax word = slot_of_seat (part_seat syntax (part_with the_standard (to_member word ∷ [])))

pub record IsProgram (p : ProgramParts) : Type 0 where
  pub top : p.top.now ≡ p.syntax.now.decls
  pub types : p.types.now ≡ layouts_of p.syntax.now.decls
  pub places : p.places.now ≡ p.syntax.now.main
  pub seats : map seen_seat p.seats.now ≡ seats_from (layouts_of p.syntax.now.decls) (frame_kinds p.syntax.now) first_start
  pub objects : AreObjects p.syntax.now p.objects.now
  pub tables : p.tables.now ≡ table_names p.syntax.now
  pub checksum_error : p.checksum_error ≡ slot_in_standard p.syntax.now (codes "checksum_error")
  pub packet_length : p.packet_length ≡ slot_in_standard p.syntax.now (codes "packet_length")
