-- The parser of the sample is as is asked, and so is its deparser.
use Rattle.std.proofs.Common.{◌≡◌, ◌≢◌, inl, ℕ, zero, suc, List, [], ◌∷◌, refl, arith}
use Rattle.std.specs.Prelude.{codes}
use Rattle.p414_syntax.specs.Names.{Name}
use Rattle.p414_syntax.specs.ParserGraph.{next_of, walk_extracts, HasIdleCycle}
use Rattle.p414_syntax.specs.Walks.{IsCycle}
use Rattle.agreement_of_meanings.proofs.Names.{differ_names}
use Rattle.p416_syntax.specs.declared.program.Decl16.TheVariants as decl
use Rattle.v1_core.specs.Surroundings.{Setting}
use Rattle.lower_laws_base.specs.Context.{Lowering}
use Rattle.lower_laws_parser.specs.Parsing.{StateFits, parser_words}
use Rattle.lower_laws_program.specs.Program.{packet_called, syntax_of}
use Rattle.lower_laws_program.specs.Fits.{parser_lowering, ParserFits, DeparserFits, setting_of}
use Rattle.lower_laws_rules.specs.Whole.{EachKeeps}
use Rattle.lower_laws_block_rules.specs.Program.{ParserRules}
use Rattle.lower_laws_block_rules.specs.Joined.{decl_held}
use Rattle.lower_laws_block_rules.proofs.OfParser.{program_parser_keeps}
use Rattle.lower_laws_block_rules.proofs.OfControls.{program_deparser_keeps}
use Rattle.lower_laws_block_rules.proofs.SampleProgram.{ds, expanded, g, t, p, state_called, first_state, second_state, some_entries}
use Rattle.lower_laws_block_rules.proofs.SampleTypes.{once, types_fit, wide}

abbrev pub c16 : Setting
c16 = setting_of p some_entries

abbrev pub c : Lowering
c = parser_lowering g t c16 p.parser

-- new names differ where names do
pub differ : (a b : Name) → a ≢ b → state_called a ≢ state_called b
differ a b apart same = apart (cc same)

abbrev pub parser_fits : ParserFits g ds t c16 p.parser
parser_fits = record {
  state = state_called;
  parameters = refl;
  vars = refl;
  begins = inl (record { written = refl; fits = (tt, (tt, (((((omega arith, omega arith, refl, omega arith), refl), tt)), tt))); start = λ called. differ_names (state_called called) (codes "start") refl });
  differ = differ;
  functions_free = ((refl, (refl, (refl, tt))), ((refl, (refl, (refl, tt))), ((refl, (refl, (refl, tt))), ((refl, (refl, (refl, tt))), ((refl, (refl, (refl, tt))), ((refl, (refl, (refl, tt))), ((refl, (refl, (refl, tt))), ((refl, (refl, (refl, tt))), ((refl, (refl, (refl, tt))), tt)))))))));
  enumerations_free = ((refl, (refl, (refl, tt))), ((refl, (refl, (refl, tt))), ((refl, (refl, (refl, tt))), ((refl, (refl, (refl, tt))), tt))));
}

first_fits : StateFits c ds (parser_words c packet_called state_called) first_state
first_fits = record {
  body = (record { instance = omega arith; plain = refl; index = omega arith }, (((omega arith, omega arith, refl, omega arith), refl, (record { instance = omega arith; plain = refl; index = omega arith }, omega arith)), tt));
  end = (tt, ((record { instance = omega arith; plain = refl; index = omega arith }, omega arith), (tt, tt)), omega arith, (tt, (tt, tt)));
}

second_fits : StateFits c ds (parser_words c packet_called state_called) second_state
second_fits = record {
  body = (record { instance = omega arith; plain = refl; index = (codes "k", _, refl) }, (((omega arith, omega arith, refl, omega arith), refl, (record { instance = omega arith; plain = refl; index = (codes "k", _, refl) }, omega arith)), tt));
  end = tt;
}

-- no state extracts nothing
extracting : HasIdleCycle ds → ⊥
extracting cycle = by cycle.state cycle.between cycle.cycle cycle.idle where
  by : (a : ℕ) (between : List ℕ) → IsCycle (next_of ds) a between → walk_extracts ds (a ∷ between) ≡ [] → ⊥
  by zero between walk idle = absurd (cc idle)
  by (suc zero) between walk idle = absurd (cc idle)
  by (suc (suc a)) [] walk idle = absurd (let lt = walk.0.1 in omega (arith, lt))
  by (suc (suc a)) (b ∷ between) walk idle = absurd (let lt = walk.0.1 in omega (arith, lt))

pub parser_rules : ParserRules g ds t c16 p.parser parser_fits
parser_rules = record {
  free = ((refl, (refl, (refl, tt))), ((refl, (refl, (refl, tt))), ((refl, (refl, (refl, tt))), ((refl, (refl, (refl, tt))), tt))));
  once = refl;
  each = ((first_fits, record { statements = refl; end = ((refl, (omega arith, omega arith)), ((refl, (omega arith, omega arith)), tt)) }), ((second_fits, record { statements = refl; end = tt }), tt));
  idle = extracting;
}

pub parser_keeps : EachKeeps (syntax_of p) decl_held (decl.Parser p.parser)
parser_keeps = program_parser_keeps g ds expanded t p types_fit once some_entries parser_fits wide parser_rules

pub deparser_fits : DeparserFits g ds expanded t c16 p.deparser
deparser_fits = record { parameters = refl; locals = refl; body = refl }

pub deparser_keeps : EachKeeps (syntax_of p) decl_held (decl.Control p.deparser)
deparser_keeps = program_deparser_keeps g ds expanded t p types_fit once some_entries wide deparser_fits (omega arith, refl, (omega arith, refl, tt))
