use Rattle.std.proofs.Common.{◌∙◌, sym, ap}
use Rattle.std.specs.Str.{bytes_eq}
use Rattle.p416_syntax.specs.Names.{has_name}
use Rattle.p416_name_set.proofs.Sets.{any_map}
use Rattle.p416_name_set.proofs.name_set.NameSet.has.Goals as goal

pub returns : goal.returns
returns c =
    c.contains.ensures ∙ (sym (any_map (bytes_eq c.args.name.now) (λ name. name.now) c.self.inside.set.keys) ∙ ap (λ names. has_name names c.args.name.now) c.self.view_is)
