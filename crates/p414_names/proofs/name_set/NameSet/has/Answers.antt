use Rattle.std.proofs.Common.{◌∙◌, sym, ap}
use Rattle.std.specs.Str.{bytes_eq}
use Rattle.p414_syntax.specs.References.{referred}
use Rattle.p414_syntax.specs.Names.{has_name}
use Rattle.p414_names.proofs.Sets.{any_map}
use Rattle.p414_names.proofs.name_set.NameSet.has.Goals as goal

pub returns : goal.returns
returns c =
    c.contains.ensures ∙ (sym (any_map (bytes_eq c.args.name.now) referred c.self.inside.set.keys) ∙ ap (λ names. has_name names c.args.name.now) c.self.view_is)
