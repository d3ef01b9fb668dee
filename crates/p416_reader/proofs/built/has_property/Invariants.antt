use Rattle.std.proofs.Common.{◌≡◌, drop}
use Rattle.p416_syntax.specs.Keywords.{keyword_text16}
use Rattle.p416_syntax.specs.Conditions.{is_among, property_texts}
use Rattle.p416_reader.proofs.built.has_property.Given as goal

abbrev pub invariant-loop-property : goal.invariant-loop-property
invariant-loop-property l = is_among (keyword_text16 l.word) (property_texts (drop l.property-index l.properties)) ≡ is_among (keyword_text16 l.word) (property_texts l.properties)
