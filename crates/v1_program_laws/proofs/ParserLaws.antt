-- The laws.
use Rattle.v1_program_laws.specs.ParserLaws.{ParserLeaves, ParserKeepsRules, ReadyStateIsMade, ReadyVariablesBegin, ReadyErrorStands}
use Rattle.v1_program_laws.proofs.Kept.{parser_meets}
use Rattle.v1_program_laws.proofs.ParserLeaves.{leaves}
use Rattle.v1_program_laws.proofs.States.{state_made}
use Rattle.v1_program_laws.proofs.Variables.{variables_begin}
use Rattle.v1_program_laws.proofs.Errors.{error_put}

pub parser_leaves : ParserLeaves
parser_leaves = leaves

pub parser_keeps_rules : ParserKeepsRules
parser_keeps_rules = parser_meets

pub ready_state_is_made : ReadyStateIsMade
ready_state_is_made c p n names x body t accepted found above are meets keeps is leads = state_made c p accepted found n names x body t above are meets keeps is leads

pub ready_variables_begin : ReadyVariablesBegin
ready_variables_begin c p v accepted found is = variables_begin c p accepted found v is

pub ready_error_stands : ReadyErrorStands
ready_error_stands = error_put
