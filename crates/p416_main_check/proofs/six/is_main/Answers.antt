use Rattle.p416_names.specs.SeenKinds.{seen_kind}
use Rattle.p416_main_check.proofs.Blocks.{not_blocks, not_headers, main_by}
use Rattle.p416_main_check.proofs.six.is_main.Goals as goal
use Rattle.p416_main_check.proofs.six.is_main.Goals.{then-not-are_blocks-via-then-not-are_blocks, then-not-are_blocks-via-else-not-are_blocks+then-not-are_headers}

pub returns-then-not-are_blocks : goal.returns-then-not-are_blocks
returns-then-not-are_blocks c s of_decls of_main =
    elim c.then-not-are_blocks.branch [
      | then-not-are_blocks-via-then-not-are_blocks w ↦
          not_blocks s c.args.top.now c.args.main.now (seen_kind c.main_kinds-of.result.headers) (seen_kind c.main_kinds-of.result.metadata) of_decls of_main (c.main_kinds-of.ensures.headers s of_decls of_main, c.main_kinds-of.ensures.metadata s of_decls of_main) (w.if-not-are_blocks.ensures)
      | then-not-are_blocks-via-else-not-are_blocks+then-not-are_headers w ↦
          not_headers s c.args.top.now c.args.main.now (seen_kind c.main_kinds-of.result.headers) (seen_kind c.main_kinds-of.result.metadata) of_decls of_main (c.main_kinds-of.ensures.headers s of_decls of_main, c.main_kinds-of.ensures.metadata s of_decls of_main) (w.if-not-are_headers.ensures)
    ]

pub returns : goal.returns
returns c s of_decls of_main =
    main_by s c.is_metadata.result c.args.top.now c.args.main.now (seen_kind c.main_kinds-of.result.headers) (seen_kind c.main_kinds-of.result.metadata) of_decls of_main (c.main_kinds-of.ensures.headers s of_decls of_main, c.main_kinds-of.ensures.metadata s of_decls of_main)
    (c.if-not-are_blocks.ensures) (c.if-not-are_headers.ensures) c.is_metadata.ensures
