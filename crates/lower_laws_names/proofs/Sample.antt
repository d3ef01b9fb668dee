-- A program that meets the premises of the laws: a header type with two fields, a header and metadata of it.
use Rattle.std.proofs.Common.{◌≡◌, ℕ, zero, suc, ◌≤◌, ◌^◌, Option, Some, None, List, [], ◌∷◌, ◌++◌, length, map, subst, refl, sym, ap, inl, inr, arith}
use Rattle.std.specs.Prelude.{codes, slice_get, option_and_then}
use Rattle.p414_syntax.specs.declared.lexeme.Literal.{Literal}
use Rattle.p414_syntax.specs.declared.headers.Field.{Field}
use Rattle.p414_syntax.specs.declared.headers.FieldWidth.TheVariants.{Bits}
use Rattle.p414_syntax.specs.declared.headers.Header.{Header}
use Rattle.p414_syntax.specs.declared.headers.Metadata.{Metadata}
use Rattle.p414_syntax.specs.declared.syntax.Decl.{Decl}
use Rattle.p414_syntax.specs.declared.syntax.Decl.TheVariants as decl
use Rattle.p414_syntax.specs.declared.syntax.Sort.TheVariants as sort
use Rattle.p414_syntax.specs.Views.{HeaderTypeTree}
use Rattle.p414_syntax.specs.Names.{Name, number_of}
use Rattle.p414_syntax.specs.Fields.{types}
use Rattle.p414_sem.specs.Expanded.{Expanded}
use Rattle.p416_syntax.specs.declared.program.Decl16.{Decl16}
use Rattle.p416_syntax.specs.declared.program.Syntax16.{Syntax16}
use Rattle.lower_laws_names.specs.Instances.{HasNames}
use Rattle.lower_laws_names.specs.Objects.{top_decls, block_names}
use Rattle.lower_laws_names.specs.Declared.{Among, decl_name, TypeIsKnown, BeginsSo}
use Rattle.lower_laws_names.proofs.Top.{top_once, top_names_once, names_of_text, top_of_text}

abbrev eight : Literal
eight = record { width = None; value = 8 }

abbrev field_of : Name → Field
field_of name = record { name = name; width = Bits eight; attributes = [] }

abbrev tree : HeaderTypeTree
tree = record { name = codes "h_t"; fields = field_of (codes "type") ∷ field_of (codes "x") ∷ []; tails = [] }

abbrev head : Header
head = record { header_type = codes "h_t"; name = codes "h"; size = None }

abbrev meta : Metadata
meta = record { header_type = codes "h_t"; name = codes "meta"; initials = None }

abbrev pub sample : List Decl
sample = decl.HeaderType tree ∷ decl.Header head ∷ decl.Metadata meta ∷ []

only : (i : ℕ) (t : HeaderTypeTree) → slice_get (tree ∷ []) i ≡ Some t → length t.fields ≤ 2 ^ 32
only zero t e = let same : tree ≡ t = cc in let two : length t.fields ≡ 2 = ap (λ (u : HeaderTypeTree). length u.fields) (sym same) in omega arith
only (suc i) t e = cc

pub sample_names : HasNames sample
sample_names = record {
  once = refl;
  few = omega arith;
  few_fields = λ type t e. by (number_of sort.HeaderType sample type) t e;
}
  where
    by : (o : Option ℕ) (t : HeaderTypeTree) → option_and_then (slice_get (types sample)) o ≡ Some t → length t.fields ≤ 2 ^ 32
    by None t e = cc
    by (Some i) t e = only i t e

known : (d e : Decl) → d ≡ e → TypeIsKnown sample d → TypeIsKnown sample e
known d e same k = subst (TypeIsKnown sample) same k

pub sample_types : (d : Decl) → Among d sample → TypeIsKnown sample d
sample_types d (inl e) = known (decl.HeaderType tree) d e tt
sample_types d (inr (inl e)) = known (decl.Header head) d e (tree, refl)
sample_types d (inr (inr (inl e))) = known (decl.Metadata meta) d e (tree, refl)
sample_types d (inr (inr (inr h))) = absurd h

-- with any six blocks of the right names
pub sample_begins : (x : Expanded) (syntax : Syntax16) (blocks : List Decl16) → syntax.decls ≡ top_decls sample x ++ blocks → map decl_name blocks ≡ block_names → BeginsSo sample x syntax
sample_begins x syntax blocks e b = record {
  blocks = blocks;
  decls = e;
  once = names_of_text sample x syntax blocks e (top_names_once sample x sample_names blocks b);
  top = top_of_text sample x syntax blocks e (top_once sample x sample_names blocks b);
  names = sample_names;
  types = sample_types;
}
