-- How rows are shown.
use Rattle.std.proofs.Common.{◌≡◌, List, Option, Some, None, refl, subst}
use Rattle.p414_syntax.specs.declared.lexeme.Literal.{Literal}
use Rattle.p414_syntax.specs.declared.objects.StateAttr.{StateAttr}
use Rattle.p414_syntax.specs.declared.objects.Stateful.{Stateful}
use Rattle.p414_syntax.specs.declared.syntax.Decl.{Decl}
use Rattle.p414_syntax.specs.declared.syntax.Decl.TheVariants as decl
use Rattle.p416_syntax.specs.declared.program.Decl16.{Decl16}
use Rattle.p416_syntax.specs.declared.controls.Instance.{Instance}
use Rattle.p414_syntax.specs.Attributes.{counts_of, direct_table_of}
use Rattle.p414_sem.specs.Signatures.{cells_of}
use Rattle.p416_syntax.specs.declared.controls.Instance.TheVariants as instance
use Rattle.lower_laws_names.specs.Objects.{counter_instance, counter_member, named_object, object_decl, size_exp}
use Rattle.p414_syntax.specs.declared.syntax.Sort.TheVariants as sort
use Rattle.p414_syntax.specs.Names.{Name}
use Rattle.lower_laws_names.specs.NewNames.{new_name}
use Rattle.lower_laws_names.specs.Instances.{named_fields, shown_header}
use Rattle.lower_rows.specs.Named.{shown_as}
use Rattle.lower_decls.specs.Table.{form_of}

pub form_shown : (ds : List Decl) (type name : Name) (size : Option Literal) → shown_as (form_of size) (new_name ds sort.Instance name) (named_fields ds type) ≡ shown_header ds type name size
form_shown ds type name None = refl
form_shown ds type name (Some size) = refl

pub counter_plain : (name : Name) (attributes : List StateAttr) (table : Option Name) → None ≡ table → instance.Counter (size_exp (cells_of attributes)) (counter_member (counts_of attributes)) name ≡ counter_instance name attributes table
counter_plain name attributes table e = subst (λ u. instance.Counter (size_exp (cells_of attributes)) (counter_member (counts_of attributes)) name ≡ counter_instance name attributes u) e refl

pub counter_direct : (name : Name) (attributes : List StateAttr) (table : Option Name) (t : Name) → Some t ≡ table → instance.DirectCounter (counter_member (counts_of attributes)) name ≡ counter_instance name attributes table
counter_direct name attributes table t e = subst (λ u. instance.DirectCounter (counter_member (counts_of attributes)) name ≡ counter_instance name attributes u) e refl

pub counter_declared : (ds : List Decl) (x : Stateful) (i : Instance) (found : Decl16) → i ≡ counter_instance (new_name ds sort.Object x.name) x.attributes (direct_table_of x.attributes) → named_object x.name i ≡ Some found → object_decl ds (decl.Counter x) ≡ Some found
counter_declared ds x i found is made = subst (λ j. named_object x.name j ≡ Some found) is made
