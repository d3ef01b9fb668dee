-- How the instances of the program are shown, and the values that a pass begins with (this project's own; P4_14 1.0.5,
-- "Header Type Declarations", "Header and Metadata Instances", "Standard Intrinsic Metadata"; P4_16 1.2, "Header
-- types", "Header stacks", "Derived types").
use Rattle.std.specs.Prelude.{◌≡◌, ℕ, ◌<◌, true, false, List, length, get_or, replicate, codes}
use Rattle.p414_syntax.specs.declared.syntax.Decl.{Decl}
use Rattle.p414_syntax.specs.declared.syntax.Decl.TheVariants as decl
use Rattle.p414_syntax.specs.declared.syntax.Sort.TheVariants as sort
use Rattle.p414_syntax.specs.Names.{declared_in}
use Rattle.p414_syntax.specs.Totals.{elements_of, fields_of_type as count_of_fields}
use Rattle.p414_sem.specs.declared.standard.Standard.{Standard}
use Rattle.p414_sem.specs.State.{blank_instance}
use Rattle.p416_syntax.specs.declared.program.Syntax16.{Syntax16}
use Rattle.p416_syntax.specs.BuiltIn.{standard}
use Rattle.p416_syntax.specs.Declarations.{layouts_of}
use Rattle.p416_syntax.specs.Main.{headers_kind}
use Rattle.v1_core.specs.Values.{a_number, an_error, member_in, zero_value}
use Rattle.v1_core.specs.Frames.{of_headers, of_metadata, of_standard}
use Rattle.v1_core.specs.Passes.{none_preserved}
use Rattle.agreement_of_meanings.specs.Shown.{Shown, as_header, as_stack, as_metadata, shown_value, shown_members, name_of, fields_of, is_metadata, standard_word, standard_width}
use Rattle.lower_laws_base.specs.Context.{StateLayout, shown_on, HasMembers}

-- a declared header, stack or metadata instance is shown as what it is, with as many elements and fields
abbrev pub ShownDecl : List Decl → Decl → Shown → ℕ → Type 0
ShownDecl ds (decl.Header d) (as_header called fields) size = (size ≡ 1) × (elements_of d.size ≡ 1) × (count_of_fields ds d.header_type ≡ length fields)
ShownDecl ds (decl.Header d) (as_stack called fields) size = (elements_of d.size ≡ size) × (count_of_fields ds d.header_type ≡ length fields)
ShownDecl ds (decl.Metadata d) (as_metadata called fields) size = (size ≡ 1) × (count_of_fields ds d.header_type ≡ length fields)
ShownDecl ds _ _ size = ⊥

-- each declared instance is shown so, and no other
pub record DeclsShown (g : StateLayout) (ds : List Decl) : Type 0 where
  pub all : length (declared_in sort.Instance ds) ≡ length g.names.instances
  pub each : (k : ℕ) → k < length g.names.instances → (d : Decl) → ShownDecl ds (get_or (declared_in sort.Instance ds) k d) (shown_on g k) (g.size_of k)

-- The values that a pass begins with are those that P4_14 begins with: headers invalid, and all numbers 0, members in
-- the order of the layout.
pub record ZerosAlike (g : StateLayout) (syntax : Syntax16) : Type 0 where
  pub headers : (k : ℕ) → k < length g.names.instances → is_metadata (shown_on g k) ≡ false → member_in (zero_value (layouts_of syntax.decls) (headers_kind syntax)) (name_of (shown_on g k)) ≡ shown_value (shown_on g k) (blank_instance false (g.size_of k) (length (fields_of (shown_on g k))))
  pub metadata : (k : ℕ) → k < length g.names.instances → is_metadata (shown_on g k) ≡ true → member_in (none_preserved syntax) (name_of (shown_on g k)) ≡ shown_members (fields_of (shown_on g k)) (replicate (length (fields_of (shown_on g k))) 0)
  pub numbers : (which : Standard) → member_in (zero_value (layouts_of syntax.decls) standard) (standard_word which) ≡ a_number (standard_width which) 0
  pub parser_error : member_in (zero_value (layouts_of syntax.decls) standard) (codes "parser_error") ≡ an_error 0
  pub checksum_error : member_in (zero_value (layouts_of syntax.decls) standard) (codes "checksum_error") ≡ a_number 1 0
  pub header_members : HasMembers (g.members of_headers) (zero_value (layouts_of syntax.decls) (headers_kind syntax))
  pub metadata_members : HasMembers (g.members of_metadata) (none_preserved syntax)
  pub standard_members : HasMembers (g.members of_standard) (zero_value (layouts_of syntax.decls) standard)
