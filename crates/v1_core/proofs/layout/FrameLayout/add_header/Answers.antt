use Rattle.std.proofs.Common.{◌≡◌, ◌++◌, ◌+◌, length, replicate, vec_len, Some, refl, arith}
use Rattle.v1_core.proofs.Frames.{parts_wider, parts_with_header, parts_all, owners_more}
use Rattle.v1_core.proofs.layout.FrameLayout.add_header.Goals as goal

pub invariant_of-self-in_err-push : goal.invariant_of-self-in_err-push
invariant_of-self-in_err-push c =
    rw (c.in_ok-extend_from_slice.ensures.items, c.in_err-push.ensures.items)
    (parts_wider c.self.inside.widths.items c.args.widths.now c.self.inside.owners.items c.self.inside.headers.items c.self.invariant c.requires)

pub invariant_of-self-in_err-resize : goal.invariant_of-self-in_err-resize
invariant_of-self-in_err-resize c =
    let from : c.len-from.result ≡ length c.self.inside.widths.items = omega (arith, c.len-from.ensures, c.self.inside.widths.ok.0) in
    let to : c.len-to.result ≡ length c.self.inside.widths.items + length c.args.widths.now = omega (arith, c.len-to.ensures, c.in_ok-extend_from_slice.ensures.len, c.self.inside.widths.ok.0) in
    let level : length c.self.inside.owners.items ≡ length c.self.inside.widths.items = omega (arith, c.len-2.ensures, c.if-len-from.false, from, c.self.inside.owners.ok.0) in
    rw (c.in_ok-extend_from_slice.ensures.items, c.in_err-resize.ensures.items, c.in_ok-push.ensures.items)
    (parts_with_header c.self.inside.widths.items c.args.widths.now c.self.inside.owners.items c.self.inside.headers.items (record { from = c.len-from.result; to = c.len-to.result }) c.self.invariant c.requires level from to)

pub invariant_of-self-2 : goal.invariant_of-self-2
invariant_of-self-2 c =
    let from : c.len-from.result ≡ length c.self.inside.widths.items = omega (arith, c.len-from.ensures, c.self.inside.widths.ok.0) in
    let to : c.len-to.result ≡ length c.self.inside.widths.items + length c.args.widths.now = omega (arith, c.len-to.ensures, c.in_ok-extend_from_slice.ensures.len, c.self.inside.widths.ok.0) in
    let long : vec_len c.self.inside.owners ≡ length c.self.inside.owners.items = omega (arith, c.self.inside.owners.ok.0) in
    let level : length c.self.inside.owners.items ≡ length c.self.inside.widths.items = omega (arith, c.len-2.ensures, c.if-len-from.false, from, long) in
    let header : c.in_ok-header.header ≡ length c.self.inside.headers.items = omega (arith, c.in_ok-header.ensures, c.len.ensures, c.self.inside.headers.ok.0) in
    let owners : c.resize.new.self.items ≡ c.self.inside.owners.items ++ replicate (length c.args.widths.now) (Some c.in_ok-header.header) =
    owners_more c.self.inside.owners.items c.resize.new.self.items c.len-to.result (vec_len c.self.inside.owners) (length c.args.widths.now) (Some c.in_ok-header.header) c.in_ok-resize.ensures.items long (omega (arith, to, long, level)) in
    rw (c.in_ok-extend_from_slice.ensures.items, owners, c.in_ok-push.ensures.items)
    (parts_all c.self.inside.widths.items c.args.widths.now c.self.inside.owners.items c.self.inside.headers.items (record { from = c.len-from.result; to = c.len-to.result }) c.in_ok-header.header (length c.args.widths.now) c.self.invariant c.requires from to level header refl)
