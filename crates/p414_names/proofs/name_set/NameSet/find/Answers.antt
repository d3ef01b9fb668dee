use Rattle.std.proofs.Common.{◌∙◌, sym, ap}
use Rattle.std.specs.Str.{bytes_eq}
use Rattle.p414_syntax.specs.References.{referred}
use Rattle.p414_syntax.specs.Names.{find_name}
use Rattle.p414_names.proofs.Sets.{position_map}
use Rattle.p414_names.proofs.name_set.NameSet.find.Goals as goal

pub returns : goal.returns
returns c =
    c.get_index_of.ensures.index ∙ (sym (position_map (bytes_eq c.args.name.now) referred c.self.inside.set.keys) ∙ ap (λ names. find_name names c.args.name.now) c.self.view_is)
