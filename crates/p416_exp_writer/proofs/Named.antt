-- A type that can be written by its name has an identifier as its name.
use Rattle.std.proofs.Common.{ℕ, List, Option, IsTrue}
use Rattle.std.proofs.lemmas.Bool.{and_parts}
use Rattle.p416_syntax.specs.declared.lexeme.Literal16.{Literal16}
use Rattle.p416_syntax.specs.SpeltLexemes.{is_name16, is_identifier16}
use Rattle.p416_syntax.specs.declared.parts.Type16.TheVariants.{Named}
use Rattle.p416_exp_writer.specs.Spelt.{is_spelt_type}

pub named_by_identifier : (text : List ℕ) (size : Option Literal16) → IsTrue (is_spelt_type (Named text size)) → IsTrue (is_identifier16 text)
named_by_identifier text size spelt = (and_parts (is_identifier16 text) _ (and_parts (is_name16 text) _ spelt).0).0
