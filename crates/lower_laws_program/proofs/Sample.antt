-- That what is asked of types, parser and deparser can be met: a header h of x (8 bits) and y (16 bits), metadata m of q (8 bits),
-- and a parser that extracts h, sets m.q to latest.x and ends.
use Rattle.std.proofs.Common.{◌≡◌, ◌≢◌, inl, inr, ℕ, zero, suc, ◌<◌, true, false, None, List, [], ◌∷◌, length, map, refl, arith}
use Rattle.std.specs.Prelude.{codes, get_or}
use Rattle.agreement_of_meanings.specs.Shown.{width_of}
use Rattle.match_core.specs.declared.entries.Entries.{Entries}
use Rattle.p414_syntax.specs.declared.lexeme.Literal.{Literal}
use Rattle.p414_syntax.specs.declared.headers.FieldWidth.TheVariants.{Bits}
use Rattle.p414_syntax.specs.declared.headers.Field.{Field}
use Rattle.p414_syntax.specs.declared.parts.Inst.{Inst}
use Rattle.p414_syntax.specs.declared.parsers.PStmt.TheVariants.{Extract, SetMetadata}
use Rattle.p414_syntax.specs.declared.parsers.PValue.TheVariants.{Latest}
use Rattle.p414_syntax.specs.declared.parsers.Return.TheVariants as end_of
use Rattle.p414_syntax.specs.declared.parsers.Parser.{Parser}
use Rattle.p414_syntax.specs.declared.syntax.Decl.{Decl}
use Rattle.p414_syntax.specs.declared.syntax.Decl.TheVariants as decl14
use Rattle.p414_syntax.specs.Tree.{no_statements as no_statements14}
use Rattle.p414_syntax.specs.Names.{Name}
use Rattle.p414_sem.specs.Expanded.{Expanded}
use Rattle.p416_syntax.specs.declared.parts.Param.{Param}
use Rattle.p416_syntax.specs.declared.controls.Control16.{Control16}
use Rattle.p416_syntax.specs.declared.program.Decl16.TheVariants as decl
use Rattle.p416_syntax.specs.Tree.{Stmt16, no_statements}
use Rattle.v1_core.specs.Frames.{Owner, of_headers, of_metadata}
use Rattle.v1_core.specs.Surroundings.{Setting}
use Rattle.agreement_of_meanings.specs.Shown.{NamedField, as_header, as_metadata, is_metadata, name_of, fields_of, shown_at, NamesDiffer, FieldsDiffer}
use Rattle.agreement_of_meanings.proofs.Names.{differ_names}
use Rattle.lower_laws_base.specs.Context.{StateLayout, shown_on, Words}
use Rattle.lower_laws_base.specs.Between.{every}
use Rattle.lower_laws_base.specs.Types.{ShownDecl}
use Rattle.lower_laws_passes.specs.Preserving.{struct_field_at}
use Rattle.v1_core.specs.Passes.{is_in_list}
use Rattle.p414_syntax.specs.Names.{declared_in}
use Rattle.p414_syntax.specs.declared.syntax.Sort.TheVariants as sort
use Rattle.lower_laws_parser.specs.Words.{ParserWords, state_of}
use Rattle.lower_laws_parser.specs.Deparsing.{emits}
use Rattle.lower_laws_states.specs.Fits.{widths_at}
use Rattle.lower_laws_program.specs.Program.{root_name, packet_called, named_type, parser_parameters, deparser_parameters, checksum_parameters, pipeline_parameters, Parts, DeclaresOnce}
use Rattle.lower_laws_program.specs.TypesFit.{StackShown, instance_type, fields_written, bit_field_of, marked_from, member, field_called, TypeWords, struct_of, TypesFit}
use Rattle.lower_laws_program.specs.Fits.{nothing_copied, nothing_spare, ParserFits, DeparserFits, setting_of}
use Rattle.p416_syntax.specs.BuiltIn.{standard_layout}
use Rattle.lower_laws_states.specs.Expansions.{Has}

-- the program

abbrev number : ℕ → Literal
number n = record { width = None; value = n }

abbrev field14 : Name → ℕ → Field
field14 called width = record { name = called; width = Bits (number width); attributes = [] }

abbrev inst : Name → Inst
inst called = record { name = called; index = None }

abbrev first_state : Parser
first_state = record {
  name = codes "start";
  statements = Extract (inst (codes "h")) ∷ SetMetadata (record { instance = inst (codes "m"); field = codes "q" }) (Latest (codes "x")) ∷ [];
  end = end_of.State (codes "ingress");
}

abbrev ds : List Decl
ds =
    decl14.HeaderType (record { name = codes "h_t"; fields = field14 (codes "x") 8 ∷ field14 (codes "y") 16 ∷ []; tails = [] })
    ∷ decl14.HeaderType (record { name = codes "m_t"; fields = field14 (codes "q") 8 ∷ []; tails = [] })
    ∷ decl14.Header (record { header_type = codes "h_t"; name = codes "h"; size = None })
    ∷ decl14.Metadata (record { header_type = codes "m_t"; name = codes "m"; initials = None })
    ∷ decl14.Parser first_state ∷ []

abbrev x : Expanded
x = record { actions = []; lists = []; ingress = no_statements14; egress = no_statements14; order = 0 ∷ [] }

-- the new names

abbrev named : Name → ℕ → NamedField
named called width = record { called = called; width = width }

abbrev members : Owner → List Name
members of_headers = codes "h" ∷ []
members of_metadata = codes "m" ∷ []
members _ = map field_called standard_layout.fields

abbrev one_each : ℕ → ℕ
one_each k = 1

abbrev g : StateLayout
g = record {
  names = record { instances = as_header (codes "h") (named (codes "x") 8 ∷ named (codes "y") 16 ∷ []) ∷ as_metadata (codes "m") (named (codes "q") 8 ∷ []) ∷ []; marks = [] };
  size_of = one_each;
  has = every;
  members = members;
  variables = [];
  shapes = [];
}

abbrev types_called : ℕ → Name
types_called zero = codes "h_t"
types_called (suc k) = codes "m_s_"

abbrev t : TypeWords
t = record {
  type_of = types_called;
  notes = λ k f. [];
  headers = member (named_type (codes "h_t")) (codes "h") ∷ [];
  metadata = member (named_type (codes "m_s_")) (codes "m") ∷ [];
}

abbrev same_name : Name → Name
same_name called = called

abbrev words : Words
words = record { names = g.names; size_of = one_each; root = root_name; copy = nothing_copied; objects = []; spare = nothing_spare; parameters = [] }

abbrev parser_words : ParserWords
parser_words = record { words = words; packet = packet_called; state = same_name }

abbrev control : Name → List Param → Stmt16 → Control16
control called parameters body = record { name = called; parameters = parameters; locals = []; body = body }

abbrev p : Parts
p = record {
  types =
      decl.Header (record { name = codes "h_t"; fields = map bit_field_of (named (codes "x") 8 ∷ named (codes "y") 16 ∷ []) })
      ∷ struct_of (codes "m_s_") (marked_from (λ f. []) 0 (named (codes "q") 8 ∷ []))
      ∷ struct_of (codes "hs") t.headers ∷ struct_of (codes "ms") t.metadata ∷ [];
  parser = record { name = codes "P"; parameters = parser_parameters; vars = []; states = state_of ds parser_words first_state ∷ [] };
  verify = control (codes "V") checksum_parameters no_statements;
  ingress = control (codes "I") pipeline_parameters no_statements;
  egress = control (codes "E") pipeline_parameters no_statements;
  compute = control (codes "C") checksum_parameters no_statements;
  deparser = control (codes "D") deparser_parameters (emits words packet_called (0 ∷ []));
}

-- it fits

once : DeclaresOnce p
once = refl

two : (P : ℕ → Type 0) → P 0 → P 1 → (k : ℕ) → k < 2 → P k
two P a b zero lt = a
two P a b (suc zero) lt = b
two P a b (suc (suc k)) lt = absurd (omega (arith, lt))

fields_differ : FieldsDiffer (named (codes "x") 8 ∷ named (codes "y") 16 ∷ [])
fields_differ zero zero a b apart = absurd (apart refl)
fields_differ zero (suc zero) a b apart = differ_names (codes "x") (codes "y") refl
fields_differ (suc zero) zero a b apart = differ_names (codes "y") (codes "x") refl
fields_differ (suc zero) (suc zero) a b apart = absurd (apart refl)
fields_differ (suc (suc j)) k a b apart = absurd (omega (arith, a))
fields_differ j (suc (suc k)) a b apart = absurd (omega (arith, b))

differ : NamesDiffer g.names.instances
differ = record { instances = each; fields = fields } where
  each : (j k : ℕ) → j < 2 → k < 2 → j ≢ k → is_metadata (shown_at g.names.instances j) ≡ is_metadata (shown_at g.names.instances k) → name_of (shown_at g.names.instances j) ≢ name_of (shown_at g.names.instances k)
  each zero zero a b apart same = absurd (apart refl)
  each zero (suc zero) a b apart same = absurd (cc same)
  each (suc zero) zero a b apart same = absurd (cc same)
  each (suc zero) (suc zero) a b apart same = absurd (apart refl)
  each (suc (suc j)) k a b apart same = absurd (omega (arith, a))
  each j (suc (suc k)) a b apart same = absurd (omega (arith, b))

  fields : (k : ℕ) → k < 2 → FieldsDiffer (fields_of (shown_at g.names.instances k))
  fields zero lt = fields_differ
  fields (suc zero) lt = one where
    one : FieldsDiffer (named (codes "q") 8 ∷ [])
    one zero zero a b apart = absurd (apart refl)
    one (suc j) k a b apart = absurd (omega (arith, a))
    one j (suc k) a b apart = absurd (omega (arith, b))
  fields (suc (suc k)) lt = absurd (omega (arith, lt))

pub types_fit : TypesFit g ds x t p.types
types_fit = record {
  differ = differ;
  shown = record { all = refl; each = λ k lt d. two (λ j. ShownDecl ds (get_or (declared_in sort.Instance ds) j d) (shown_on g j) (one_each j)) (refl, refl, refl) (refl, refl) k lt };
  stacks = λ k lt d. two (λ j. StackShown (get_or (declared_in sort.Instance ds) j d) (shown_on g j)) (λ is. absurd (cc is)) tt k lt;
  widths = two (λ j. widths_at ds j ≡ map width_of (fields_of (shown_on g j))) refl refl;
  headers_struct = inr (inr (inl refl));
  metadata_struct = inr (inr (inr (inl refl)));
  header = header;
  struct = struct;
  header_member = header_member;
  metadata_member = metadata_member;
  headers_once = refl;
  metadata_once = refl;
  header_members = refl;
  metadata_members = refl;
  standard_members = refl;
  first = λ list k lt is. tt;
  marked = λ list number is. absurd (cc is);
  unmarked = λ number none k f lt is within. unmarked k f lt is within number;
} where
  header : (k : ℕ) → k < 2 → is_metadata (shown_on g k) ≡ false → Has p.types (decl.Header (record { name = t.type_of k; fields = map bit_field_of (fields_of (shown_on g k)) }))
  header zero lt is = inl refl
  header (suc zero) lt is = absurd (cc is)
  header (suc (suc k)) lt is = absurd (omega (arith, lt))

  struct : (k : ℕ) → k < 2 → is_metadata (shown_on g k) ≡ true → Has p.types (struct_of (t.type_of k) (fields_written g t k))
  struct zero lt is = absurd (cc is)
  struct (suc zero) lt is = inr (inl refl)
  struct (suc (suc k)) lt is = absurd (omega (arith, lt))

  header_member : (k : ℕ) → k < 2 → is_metadata (shown_on g k) ≡ false → Has t.headers (member (instance_type (shown_on g k) (t.type_of k) (g.size_of k)) (name_of (shown_on g k)))
  header_member zero lt is = inl refl
  header_member (suc zero) lt is = absurd (cc is)
  header_member (suc (suc k)) lt is = absurd (omega (arith, lt))

  metadata_member : (k : ℕ) → k < 2 → is_metadata (shown_on g k) ≡ true → Has t.metadata (member (named_type (t.type_of k)) (name_of (shown_on g k)))
  metadata_member zero lt is = absurd (cc is)
  metadata_member (suc zero) lt is = inl refl
  metadata_member (suc (suc k)) lt is = absurd (omega (arith, lt))

  unmarked : (k f : ℕ) → k < 2 → is_metadata (shown_on g k) ≡ true → f < length (fields_written g t k) → (number : ℕ) → is_in_list number (struct_field_at (fields_written g t k) f) ≡ false
  unmarked zero f lt is within number = absurd (cc is)
  unmarked (suc zero) zero lt is within number = refl
  unmarked (suc zero) (suc f) lt is within number = absurd (omega (arith, within))
  unmarked (suc (suc k)) f lt is within number = absurd (omega (arith, lt))

-- the parser

abbrev empty_entries : Entries
empty_entries = record { tables = []; sessions = []; colours = [] }

abbrev c16 : Setting
c16 = setting_of p empty_entries

pub parser_fits : ParserFits g ds t c16 p.parser
parser_fits = record {
  state = same_name;
  parameters = refl;
  vars = refl;
  begins = inr (record { written = refl; none = λ s. refl; there = refl; start = refl });
  differ = λ a b apart. apart;
  functions_free = ((refl, tt), ((refl, tt), ((refl, tt), ((refl, tt), ((refl, tt), ((refl, tt), ((refl, tt), ((refl, tt), ((refl, tt), tt)))))))));
  enumerations_free = ((refl, tt), ((refl, tt), ((refl, tt), ((refl, tt), tt))));
}

pub deparser_fits : DeparserFits g ds x t c16 p.deparser
deparser_fits = record {
  parameters = refl;
  locals = refl;
  body = refl;
}
