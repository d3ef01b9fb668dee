use Rattle.std.proofs.Common.{◌∙◌, ap, sym, subst}
use Rattle.p416_syntax.specs.declared.program.Syntax16.{Syntax16}
use Rattle.p416_syntax.specs.Spelt.{is_spelt16}
use Rattle.p416_syntax.specs.Breaks.{BreaksNone, program_rules}
use Rattle.one_table_text.proofs.Spelt.{spelt_is}
use Rattle.one_table_text.proofs.Rules.{breaks_none}
use Rattle.one_table_text.proofs.text.program_of.Goals as goal

pub new-requires-clause-spelt : goal.new-requires-clause-spelt
new-requires-clause-spelt c = ap is_spelt16 c.in_ok-syntax.ensures ∙ spelt_is c.args.program.now c.requires.form

pub new-requires-clause-accepted : goal.new-requires-clause-accepted
new-requires-clause-accepted c =
    subst (λ (s : Syntax16). BreaksNone s program_rules) (sym c.in_ok-syntax.ensures) (breaks_none c.args.program.now c.requires.lawful)
