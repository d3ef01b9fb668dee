-- The laws.
use Rattle.p416_syntax.specs.Kinds.{Kind, bits, unsized, boolean, error_code, header, stack, struct, packet_in, packet_out, errors, enumeration, one_of, table, applied, object, items, nothing, unknown}
use Rattle.p416_syntax.specs.Scopes.{kind_of_type}
use Rattle.p416_syntax.specs.Expressions.{kind_of}
use Rattle.v1_statement_laws.specs.Behind.{Waits}
use Rattle.v1_statement_laws.specs.Laws.{HasParts}
use Rattle.v1_statement_laws.proofs.Sources.{Composite}
use Rattle.v1_program_laws.specs.SourceLaws.{PartsAreOneForm, SourcesSought, PartsGo, PartsBegin, BlockPartsBegin, StacksCalled}
use Rattle.v1_program_laws.proofs.Seeking.{seeks}
use Rattle.v1_program_laws.proofs.Taking.{parts_go}
use Rattle.v1_program_laws.proofs.Shapes.{all_one}
use Rattle.v1_program_laws.proofs.Initializing.{parts_begin, block_begins}
use Rattle.v1_program_laws.proofs.Pushing.{stack_called}

composite : (k : Kind) → HasParts k → Composite k
composite (bits width) h = absurd h
composite unsized h = absurd h
composite boolean h = absurd h
composite error_code h = absurd h
composite (header type) h = tt
composite (stack type size) h = tt
composite (struct type) h = tt
composite packet_in h = absurd h
composite packet_out h = absurd h
composite errors h = absurd h
composite (enumeration of) h = absurd h
composite (one_of of) h = absurd h
composite table h = absurd h
composite applied h = absurd h
composite (object of) h = absurd h
composite items h = absurd h
composite nothing h = absurd h
composite unknown h = absurd h

pub parts_are_one_form : PartsAreOneForm
parts_are_one_form = all_one

pub sources_sought : SourcesSought
sources_sought calls b w z s who e way p m k accepted layouts seated fine asks parts h runs = seeks (Waits calls b.syntax) b w z s who accepted layouts seated fine e way p m k asks (composite (kind_of s e) parts) h runs

pub all_parts_go : PartsGo
all_parts_go calls b w z s who target e x accepted layouts seated fine scope still parts taken asks means =
    parts_go (Waits calls b.syntax) b w z s who accepted layouts seated fine (all_one b.syntax accepted) target e x scope still (composite (kind_of s target) parts) taken asks means

pub all_parts_begin : PartsBegin
all_parts_begin calls b w z from to n s who t called e accepted at are fits parts taken asks =
    parts_begin (Waits calls b.syntax) b w z accepted (all_one b.syntax accepted) from to s who n t called e at are fits (composite (kind_of_type s.names t) parts) taken asks

pub block_parts_begin : BlockPartsBegin
block_parts_begin calls b w z who v e n accepted scope layouts seated fine initial numbered formed parts taken asks =
    block_begins (Waits calls b.syntax) b w z accepted (all_one b.syntax accepted) who scope layouts seated fine v e n initial numbered formed (composite (kind_of_type w.around.scope.names v.of) parts) taken asks

pub stacks_called : StacksCalled
stacks_called calls b w z s who e given type word size n accepted layouts seated fine scope is one fits =
    stack_called (Waits calls b.syntax) b w z s who accepted layouts seated fine scope e given type word size n is one fits
