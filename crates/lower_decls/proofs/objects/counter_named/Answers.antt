use Rattle.std.proofs.Common.{◌≡◌, IfOk, ap, subst, ◌∙◌}
use Rattle.p414_syntax.specs.declared.syntax.Sort.TheVariants as sort
use Rattle.p414_syntax.specs.Attributes.{direct_table_of}
use Rattle.lower_laws_names.specs.NewNames.{new_name}
use Rattle.lower_laws_names.specs.Objects.{counter_instance}
use Rattle.lower_decls.proofs.objects.counter_named.Goals as goal

-- src/objects.rt:104:1
pub returns : goal.returns
returns c =
    subst (λ n. IfOk c.counter_instance.result (λ found. found ≡ counter_instance n c.args.object.now.attributes (direct_table_of c.args.object.now.attributes)))
    (c.in_ok-name.ensures ∙ ap (new_name c.args.names.now sort.Object) c.as_slice.ensures) c.counter_instance.ensures
