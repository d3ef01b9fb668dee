-- The emits of the deparser break no rule and are spelt.
use Rattle.std.proofs.Common.{◌≡◌, ℕ, ◌<◌, Bool, true, false, Option, List, [], ◌∷◌, length, Some, refl, sym, ap, ◌∙◌, arith}
use Rattle.std.specs.Prelude.{codes, is_some}
use Rattle.std.specs.Option.{option_map_or}
use Rattle.p416_syntax.specs.Conditions.{statements}
use Rattle.p416_syntax.specs.Tree.{name, call, member, expression, no_arguments, argument, Exp16, Stmt16, no_statements, then}
use Rattle.p416_syntax.specs.Names.{Name}
use Rattle.p416_syntax.specs.Kinds.{Kind, packet_out}
use Rattle.p416_syntax.specs.Scopes.{Scope, a_value, undeclared, sort_of}
use Rattle.p416_syntax.specs.Externs.{are_allowed}
use Rattle.agreement_of_meanings.specs.Shown.{Shown, as_header, as_stack, as_metadata, is_metadata}
use Rattle.lower_laws_base.specs.Context.{Local, Lowering, words_of, shown_in, instances_of, instance_kind, now, the_packet, PacketName, packet_name, packet_sort, Sees}
use Rattle.lower_laws_base.specs.Mirror.{instance_exp}
use Rattle.lower_laws_parser.specs.Deparsing.{emit_stmt, emits_from, emits, Deparses, HeadersStand}
use Rattle.lower_laws_parser.proofs.Deparse.{headers_have}
use Rattle.lower_laws_rules.specs.Keeping.{Sound, Part}
use Rattle.lower_laws_rules.specs.Spelling.{SpeltName, SpeltStmt}
use Rattle.lower_laws_rules.proofs.SpeltParts.{instance_spelt, as_argument}
use Rattle.lower_laws_rules.proofs.Sound.{sound_name}
use Rattle.lower_laws_rules.proofs.Sources.{sound_instance}
use Rattle.lower_laws_rules.proofs.Externs.{part_emit}
use Rattle.lower_laws_rules.proofs.Parts.{part_none, part_then}
use Rattle.lower_laws_block_rules.specs.Widths.{SpeltHere}

-- the packet of a parser or a deparser
pub packet_known : (c : Lowering) (s : Scope) (ls : List Local) → Sees c s ls → (packet : Name) (k : Kind) → c.packet ≡ Some (record { called = packet; kind = k }) → sort_of s packet ≡ a_value k false
packet_known c s ls sees packet k is =
    ap (λ (o : Option PacketName). sort_of s (option_map_or packet_name o [])) (sym is)
    ∙ sees.declares.named the_packet (ap is_some is) ∙ ap (λ (o : Option PacketName). option_map_or packet_sort o undeclared) is

module _ (c : Lowering) (packet : Name) (s : Scope) (is : Deparses c packet s) (at : are_allowed (5 ∷ []) s.positions ≡ true) where
  sound_packet : Sound s (name packet) packet_out false 1
  sound_packet = sound_name s packet packet_out false (packet_known c s [] is.sees packet packet_out is.packet_is)

  emit_of : (x : Shown) (type : Name) (size : ℕ) (can : Bool) (e : Exp16) → is_metadata x ≡ false → Sound s e (instance_kind x type size) can 2 → Part s s [] 0 (expression (call (member (name packet) (codes "emit")) (argument no_arguments e)))
  emit_of (as_header called fields) type size can e plain p = part_emit sound_packet (record { opens = refl; takes_it = refl; writes = refl }) p at (omega arith) (omega arith)
  emit_of (as_stack called fields) type size can e plain p = part_emit sound_packet (record { opens = refl; takes_it = refl; writes = refl }) p at (omega arith) (omega arith)
  emit_of (as_metadata called fields) type size can e plain p = absurd (cc plain)

  part_emitted : (n : ℕ) → n < length (instances_of c) → is_metadata (shown_in c n) ≡ false → Part s s [] 0 (emit_stmt (words_of c) packet n)
  part_emitted n lt plain =
      let has = headers_have c.layout (shown_in c n) is.headers plain in
      emit_of (shown_in c n) (c.type_of n) (c.layout.size_of n) _ _ plain (sound_instance c s [] is.sees now tt (shown_in c n) (c.type_of n) (c.layout.size_of n) has (is.sees.declares.instance n lt has))

  emits_kept : (x : Stmt16) (order : List ℕ) → Part s s [] 0 x → HeadersStand c.layout order → Part s s [] 0 (emits_from (words_of c) packet x order)
  emits_kept x [] p stand = p
  emits_kept x (n ∷ order) p stand = emits_kept ((then) x (emit_stmt (words_of c) packet n)) order (part_then p (part_emitted n stand.0 stand.1)) stand.2

  pub part_emits : (order : List ℕ) → HeadersStand c.layout order → Part s s [] 0 (emits (words_of c) packet order)
  part_emits order stand = emits_kept no_statements order part_none stand

module _ (c : Lowering) (facts : SpeltHere c) (packet : Name) (named : SpeltName packet) where
  emits_spelt : (x : Stmt16) (order : List ℕ) → SpeltStmt statements x → HeadersStand c.layout order → SpeltStmt statements (emits_from (words_of c) packet x order)
  emits_spelt x [] p stand = p
  emits_spelt x (n ∷ order) p stand =
      emits_spelt ((then) x (emit_stmt (words_of c) packet n)) order
      (p, (((named, refl), (tt, as_argument (instance_exp (words_of c) now (shown_in c n)) (instance_spelt (words_of c) now facts.words (shown_in c n) (facts.words.instances n stand.0)))), refl)) stand.2

  pub emits_here : (order : List ℕ) → HeadersStand c.layout order → SpeltStmt statements (emits (words_of c) packet order)
  emits_here order stand = emits_spelt no_statements order tt stand
