use Rattle.std.proofs.Common.{◌≡◌, [], refl}
use Rattle.base_examples.specs.declared.item_reader.Phrase.TheVariants as phrase
use Rattle.base_examples.specs.Syntax.{Spells, postorder}
use Rattle.base_examples.specs.Items.{items}
use Rattle.predictive_parser.proofs.Languages.{found, gives, refuses}
use Rattle.base_examples.proofs.ItemReading.{language, closings, closed}
use Rattle.base_examples.proofs.item_reader.read.Goals as goal

pub returns-clause-found : goal.returns-clause-found
returns-clause-found c = found items (phrase.Item 0) [] (Spells 0) postorder language c.build.result c.args.tokens.now (λ events built. events ≡ built) c.build.ensures

pub returns-clause-only : goal.returns-clause-only
returns-clause-only c = gives items (phrase.Item 0) [] (Spells 0) postorder language c.build.result c.args.tokens.now (λ events built. events ≡ built) c.build.ensures

pub returns-clause-refused : goal.returns-clause-refused
returns-clause-refused c = refuses items (phrase.Item 0) [] (Spells 0) postorder language closings closed refl c.build.result c.args.tokens.now (λ events built. events ≡ built) c.build.ensures
