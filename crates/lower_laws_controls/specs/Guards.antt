-- What stands around the statements of ingress and egress: a packet whose parser or checksums failed is dropped (this
-- project's own, that it is dropped, too; P4_14 1.0.5, "Standard Parser Exceptions", "Checksums and Hash-value
-- Generators"; P4_16 1.2, "Conditional statement"; `v1model.p4`, `standard_metadata_t`, `mark_to_drop`).
use Rattle.std.specs.Prelude.{◌≡◌, ◌⊎◌, ℕ, suc, Bool, true, if◌then◌else◌, codes}
use Rattle.p416_syntax.specs.declared.node.BinaryOperator.TheVariants.{Equal, And}
use Rattle.p416_syntax.specs.Tree.{Exp16, literal, error, name, member, binary, Stmt16, no_statements, then, block, if_else}
use Rattle.v1_core.specs.Values.{an_error, a_number, member_in}
use Rattle.v1_core.specs.Frames.{Frame, of_standard}
use Rattle.lower_laws_base.specs.Context.{Words}
use Rattle.lower_laws_base.specs.Mirror.{sized, drop_stmt}

-- the parser met no error: `parser_error` is NoError (`v1model.p4`, `standard_metadata_t`; P4_16, "Operations on error
-- types")
abbrev pub error_exp : Words → Exp16
error_exp w = binary Equal (member (name (w.root of_standard)) (codes "parser_error")) (member error (codes "NoError"))

-- no checksum was wrong: `checksum_error` is 0 (`v1model.p4`, `standard_metadata_t`)
abbrev pub checksum_exp : Words → Exp16
checksum_exp w = binary Equal (member (name (w.root of_standard)) (codes "checksum_error")) (literal (sized 1 0))

-- the condition for statements to run: ingress asks of the parser and of checksums, egress of the parser alone
abbrev pub guard_exp : Words → Bool → Exp16
guard_exp w checks = if checks then binary And (error_exp w) (checksum_exp w) else error_exp w

-- the statements where the guard holds, and else the packet is dropped
abbrev pub guarded_stmt : Words → Bool → Stmt16 → Stmt16
guarded_stmt w checks body = (then) no_statements (if_else (guard_exp w checks) (block body) (block ((then) no_statements (drop_stmt w))))

-- errors that stand in a frame

-- `parser_error` of standard metadata is the error with this number
abbrev pub ErrorIs : Frame → ℕ → Type 0
ErrorIs f n = member_in f.standard (codes "parser_error") ≡ an_error n

-- `checksum_error` of standard metadata is this bit
abbrev pub ChecksumIs : Frame → ℕ → Type 0
ChecksumIs f n = member_in f.standard (codes "checksum_error") ≡ a_number 1 n

-- nothing failed that the block asks of
pub record IsClear (checks : Bool) (f : Frame) : Type 0 where
  pub error : ErrorIs f 0
  pub checksum : checks ≡ true → ChecksumIs f 0

-- The parser failed, or a checksum where it is asked for: what else stands in the frame isn't known.
abbrev pub Fails : Bool → Frame → Type 0
Fails checks f = ((n : ℕ) × ErrorIs f (suc n)) ⊎ ((checks ≡ true) × ChecksumIs f 1)
